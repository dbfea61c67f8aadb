-- Demand 3 of the functions that people call: `delivered` and `delivers`.
use mathlib.Core.Bool.{Bool}
use mathlib.Core.List.{List, map}
use mathlib.Core.Logic.{inl, inr}
use mathlib.Core.Path.{◌≡◌, sym, ◌∙◌, ap}
use Prim.Native.Nat.{ℕ}
use lib.ListN.{length, take}
use Rattle.frame.specs.Bias.{null_frame}
use Rattle.pending.specs.Pending.{waiting}
use Rattle.history.specs.History.{newest_of}
use Rattle.packing.specs.declared.input_bytes.InputBytes.{InputBytes}
use Rattle.codec.specs.Message.{Wire, meant}
use Rattle.codec.proofs.Meant.{meant_body, meant_magic, meant-payload}
use Rattle.setup.specs.Setup.{Terms, terms_with, sending_width, receiving_width}
use Rattle.endpoint_rules.specs.Value.{value_of}
use Rattle.endpoint_delivery.specs.Frames.{last_announced, announced_in}
use Rattle.endpoint_delivery.specs.Runs.{next, InOrder}
use Rattle.endpoint_delivery.specs.Runs as Run
use Rattle.endpoint_delivery.proofs.InOrder.{in_order}
use Rattle.endpoint_delivery.proofs.Brings.{brings}
use Rattle.endpoint.specs.Endpoint.{seen}
use Rattle.endpoint_version.specs.Version.{Version, Asked, IsAsked, call_of, number_from}
use Rattle.endpoint_version.specs.Meets.{Meets}
use Rattle.endpoint_plays.specs.Sides.{Side, after, shown, events_of, announced_by}
use Rattle.endpoint_plays.specs.Plays.{Play}
use Rattle.endpoint_plays.specs.Delivered.{given_terms, width_of, pending_by, HoldsFrame, IsToHold, Delivered, Heard, Heeded, Ready, Brings, Passing, HandsInput, EachBrings}
use Rattle.endpoint_plays.proofs.Runs.{Kept, both-kept, after_kept, after-shown, play_runs}

module _ (v : Version) (m : Meets v) where
  -- what is announced, and how wide a frame is, by the setup that was given
  module _ (x : Side) (k : Kept v m x) where
    pub announced-shown : Run.announced_by (shown x) ≡ announced_by x
    unfolding seen terms_with
    announced-shown = ap (λ (t : Terms). announced_in t.input_size (events_of x)) k.setup

    width_shown : receiving_width (seen x.endpoint).setup ≡ width_of x.setup
    unfolding terms_with
    width_shown = rw k.setup

  pending_shown : (x : Side) → (seen x.endpoint).setup ≡ given_terms x.setup → pending_by x ≡ Run.pending_by (shown x)
  unfolding seen terms_with
  pending_shown x g = ap (λ (t : Terms). map (λ (y : InputBytes). record { number = y.frame; bytes = take (sending_width t) y.bytes }) (waiting x.endpoint.pending)) (sym g)

  -- what is held is read off the struct, what is to be held off the announcements and the setup that was given
  module _ (x : Side) where
    rw_holds : (n : ℕ) → Run.Holds n (shown x) → HoldsFrame n x
    unfolding seen
    rw_holds n h = h

    rw_shown : (n : ℕ) → HoldsFrame n x → Run.Holds n (shown x)
    unfolding seen
    rw_shown n h = h

    module _ (k : Kept v m x) where
      prediction_shown : (seen x.endpoint).setup.max_prediction ≡ x.setup.max_prediction
      unfolding terms_with
      prediction_shown = ap (λ (t : Terms). t.max_prediction) k.setup

      to_hold : (n : ℕ) → IsToHold n x → Run.IsToHold n (shown x)
      to_hold n h = rw (announced-shown x k, prediction_shown) h

      held_to : (n : ℕ) → Run.IsToHold n (shown x) → IsToHold n x
      held_to n h = rw (announced-shown x k, prediction_shown) at h

  newest-shown : (x : Side) → Kept v m x → v.last_recv_frame x.endpoint ≡ newest_of (seen x.endpoint).carried.receiver.history
  unfolding value_of
  newest-shown x k = let q = m.last_recv_frame x.endpoint k.good.value in cc

  in_order_delivered : (a b : Side) → (seen a.endpoint).setup ≡ given_terms a.setup → Kept v m b → InOrder (shown a) (shown b) → Delivered v a b
  unfolding terms_with
  in_order_delivered a b g k o =
      record {
        first = o.first;
        following = o.following;
        wide = rw (width_shown b k) at o.wide;
        count = o.count;
        most = o.most;
        announced = sym (announced-shown b k) ∙ o.announced ∙ rw k.setup;
        dropped = o.dropped;
        arrived = o.arrived;
        pending = pending_shown a g ∙ o.pending;
        holds = λ n h. rw_holds b n (o.holds n (to_hold b k n h));
        only = λ n h. held_to b k n (o.only n (rw_shown b n h));
        newest = newest-shown b k ∙ o.newest ∙ ap (last_announced null_frame) (announced-shown b k);
        entries = k.entries;
      }

  -- ---- every Input brings its receiver on

  module _ (x : Side) (k : Kept v m x) where
    heard-shown : (peer magic : ℕ) → Heard v peer magic x → Run.Heard peer magic (seen x.endpoint)
    unfolding seen value_of terms_with
    heard-shown peer magic h =
        let p : v.state x.endpoint ≡ x.endpoint.sync.phase = let q = m.state x.endpoint k.good.value in cc in
        record { alive = rw p at h.alive; known = h.known ∙ sym (ap (λ (t : Terms). t.peer) k.setup); passes = h.passes }

    heeded_shown : (d : Bool) (count start : ℕ) → Heeded d count start x → Run.Heeded d count start (seen x.endpoint)
    unfolding seen terms_with
    heeded_shown d count start h = record { from = h.from; complete = rw (sym (ap (λ (t : Terms). t.players) k.setup)) at h.complete }

    ready_shown : (start : ℕ) → Ready start x → Run.Ready start (shown x)
    unfolding seen
    ready_shown start (inl e) = inl (announced-shown x k ∙ e)
    ready_shown start (inr h) = inr h

    shown_ready : (start : ℕ) → Run.Ready start (shown x) → Ready start x
    unfolding seen
    shown_ready start (inl e) = inl (sym (announced-shown x k) ∙ e)
    shown_ready start (inr h) = inr h

    brings_shown : (start : ℕ) (payload : List ℕ) (c : Asked) → IsAsked c → Run.Brings start payload (shown x) (call_of c) → Brings v start payload x c
    brings_shown start payload c i b =
        let after_is : Run.announced_by (next (call_of c) (shown x)) ≡ announced_by (after v c x) =
        ap Run.announced_by (sym (after-shown v m x k.good c i)) ∙ announced-shown (after v c x) (after_kept v m x k c i) in
        record {
          reaches = λ r. rw (after_is, width_shown x k) at (b.reaches (ready_shown start r));
          nothing = λ n. sym after_is ∙ b.nothing (λ r. n (shown_ready start r)) ∙ announced-shown x k;
        }

  module _ (x : Side) (k : Kept v m x) where
    shown-heard : (peer magic : ℕ) → Run.Heard peer magic (seen x.endpoint) → Heard v peer magic x
    unfolding seen value_of terms_with
    shown-heard peer magic h =
        let p : v.state x.endpoint ≡ x.endpoint.sync.phase = let q = m.state x.endpoint k.good.value in cc in
        record { alive = rw p h.alive; known = h.known ∙ ap (λ (t : Terms). t.peer) k.setup; passes = h.passes }

    shown_heeded : (d : Bool) (count start : ℕ) → Run.Heeded d count start (seen x.endpoint) → Heeded d count start x
    unfolding seen terms_with
    shown_heeded d count start h = record { from = h.from; complete = rw (ap (λ (t : Terms). t.players) k.setup) at h.complete }

    shown_passing : (c : Asked) (n peer count : ℕ) (w : Wire) → number_from v x.endpoint c ≡ n → Run.Passing n peer count w (seen x.endpoint) → Passing v c peer count w x
    shown_passing c n peer count w q h =
        record {
          disconnect = h.disconnect;
          start = h.start;
          ack = h.ack;
          body = h.body;
          done = q ∙ h.done;
          heard = shown-heard peer w.magic h.heard;
          heeded = shown_heeded h.disconnect count h.start h.heeded;
        }

    -- what hands over an Input by the rules does so by the calls
    shown_hands : (c : Asked) → IsAsked c → Run.HandsInput (call_of c) (seen x.endpoint) → HandsInput v x c
    shown_hands (Asked.synchronize now epoch nonce out) i h = h
    shown_hands (Asked.message peer y payload now epoch nonce out) i h =
        shown_passing (Asked.message peer y payload now epoch nonce out) _ peer y.reports.count (meant y payload) (m.message x.endpoint peer y payload now epoch nonce out k.good.value i).answer h
    shown_hands (Asked.datagram peer bytes now epoch nonce out) i h =
        (h.0, h.1, h.2, shown_passing (Asked.datagram peer bytes now epoch nonce out) _ peer (length h.0.reports) h.0 (m.datagram x.endpoint peer bytes now epoch nonce out k.good.value i).answer h.3)
    shown_hands (Asked.act statuses now epoch nonce out) i h = h
    shown_hands (Asked.send_input frame bytes statuses now out) i h = h
    shown_hands (Asked.disconnect now) i h = h
    shown_hands (Asked.send_checksum_report frame checksum now out) i h = h
    shown_hands (Asked.update_local_frame_advantage local) i h = h
    shown_hands (Asked.take_messages out) i h = h
    shown_hands (Asked.network_stats epoch) i h = h
    shown_hands (Asked.peer_connect_status handle) i h = h
    shown_hands (Asked.take_messages_into out into) i h = h

    silent_shown : (c : Asked) → IsAsked c → Run.announced_by (next (call_of c) (shown x)) ≡ Run.announced_by (shown x) → announced_by (after v c x) ≡ announced_by x
    silent_shown c i e =
        sym (announced-shown (after v c x) (after_kept v m x k c i)) ∙ ap Run.announced_by (after-shown v m x k.good c i) ∙ e ∙ announced-shown x k

  each_shown : (a b : Side) → Kept v m a → Run.EachBrings (shown a) (shown b) → EachBrings v a b
  each_shown a b k e =
      record {
        message = λ peer x payload now epoch nonce out i w d start ack body z heard heeded.
            let c : Asked = Asked.message peer x payload now epoch nonce out in
            let all : Brings v start (meant x payload).payload a c =
            brings_shown a k start (meant x payload).payload c i (e.message peer x.reports.count (meant x payload) now epoch nonce (length out) w d start ack
            (meant_body x payload ∙ body) (sym (m.message a.endpoint peer x payload now epoch nonce out k.good.value i).answer ∙ z)
            (rw (meant_magic x payload) (heard-shown a k peer x.magic heard)) (heeded_shown a k d x.reports.count start heeded)) in
            rw (meant-payload x payload d start ack body) at all;
        bytes = λ peer bytes w rest now epoch nonce out i g q d start ack body z heard heeded.
            let c : Asked = Asked.datagram peer bytes now epoch nonce out in
            brings_shown a k start w.payload c i (e.bytes peer bytes w rest now epoch nonce (length out) g q d start ack body
            (sym (m.datagram a.endpoint peer bytes now epoch nonce out k.good.value i).answer ∙ z) (heard-shown a k peer w.magic heard) (heeded_shown a k d (length w.reports) start heeded));
        silent = λ c i n. silent_shown a k c i (e.silent (call_of c) (λ h. n (shown_hands a k c i h)));
      }

module _ (v u : Version) (l : Meets v) (m : Meets u) where
  -- the frames that each announced are the first ones that the other accepted: in order, each once, bytes equal, at every moment
  pub delivered : {a b : Side} → Play v u a b → Delivered u a b × Delivered v b a
  delivered {a} {b} p =
      let k = both-kept v u l m p in
      let o = in_order (play_runs v u l m p) in
      (in_order_delivered u m a b k.0.setup k.1 o.0, in_order_delivered v l b a k.1.setup k.0 o.1)

  -- an Input that is not refused, ignored or discarded brings its receiver at least to its last frame, if the receiver has none yet or still holds the frame before its
  -- first; otherwise it announces no frame
  pub delivers : {a b : Side} → Play v u a b → EachBrings v a b × EachBrings u b a
  delivers {a} {b} p =
      let k = both-kept v u l m p in
      let e = brings (play_runs v u l m p) in
      (each_shown v l a b k.0 e.0, each_shown u m b a k.1 e.1)
