-- The moves of one direction, each of which keeps it in order. A call on an end is one or two moves in each direction.
use mathlib.Core.Path.{◌≡◌, refl, sym, ap, ◌∙◌}
use mathlib.Core.Bool.{Bool, true, false}
use mathlib.Core.List.{List, [], ◌∷◌, ◌++◌, append-nil, append_assoc}
use mathlib.Core.Logic.{◌⊎◌, inl, inr}
use Prim.Native.Nat.{ℕ, zero, suc, ◌+◌, ◌-◌, ◌/◌, ◌^◌, ◌≤◌, ◌<◌}
use native.Mathlib.Omega.{arith}
use native.Mathlib.Nat.{add-suc, add-zero, suc-add, mul-div_cancel}
use lib.Dec.{eqb, ltb, leb}
use lib.ListN.{length, take, drop, length-drop, length-append, get_or-append}
use lib.Seq.{take-append-le, drop-append-le}
use borrow.Author.Tests.{ltb-false, eqb-true, eqb-false, le-leb, not-false}
use Rattle.base.specs.Pick.{pick}
use Rattle.base.specs.Keyed.{kept}
use Rattle.base.proofs.Kept.{kept_append}
use Rattle.base.proofs.Bools.{neither}
use Rattle.frame.specs.Bias.{bias32, null_frame}
use Rattle.packing.specs.Packing.{frame_count, decodable, Wide}
use Rattle.packing.specs.declared.input_bytes.InputBytes.{InputBytes}
use Rattle.packing.proofs.Laws.{pack-length}
use Rattle.pending.specs.Pending.{first_frame, payload}
use Rattle.history.specs.History.{blank_frame, highest, newest_of, found_in, reference_frame, numbered, packet_of}
use Rattle.history.proofs.Laws.{found_frame}
use Rattle.codec.specs.Message.{Wire}
use Rattle.events.specs.declared.Entry.{Entry}
use Rattle.events.specs.declared.Event.{Event}
use Rattle.setup.specs.Setup.{Terms, SoundSetup, receiving_width}
use Rattle.setup.proofs.Laws.{receiving_within}
use Rattle.events.specs.Events.{announced_each}
use Rattle.endpoint_rules.specs.Seen.{Sender, Receiver}
use Rattle.endpoint_rules.specs.Sending.{dropped_to, last_accepted, bad_frame}
use Rattle.endpoint_rules.specs.Receiving.{Reception, received_if, receive}
use Rattle.endpoint_invariant.specs.Each.{Each}
use Rattle.endpoint_invariant.specs.Sound.{SoundReceiver}
use Rattle.endpoint_invariant.proofs.Choices.{and_none}
use Rattle.endpoint_invariant.proofs.Eaches.{each_also, each_append}
use Rattle.endpoint_delivery.specs.Frames.{Frame}
use Rattle.endpoint_delivery.proofs.Lists.{Mem, here, one, entry, wide_end, found_mem, mem_found, number_append}
use Rattle.endpoint_delivery.proofs.Wires.{OnInput, OnAck, input_also, ack_also}
use Rattle.endpoint_delivery.proofs.Tape.{Tape, ref, part, framed, Sending, Holding, Packet, Ack, Packets, Acks, Lined, Took, takes, ref_inj, ref_suc, ref_long, size_part, wide-part, top_held, top_is, pop_inv, last_is, sent}

-- the Input events among some
abbrev pub is_input : Entry → Bool
is_input e = of e.event
  where
    of : Event → Bool
    of (Event.Synchronizing total count) = false
    of Event.Synchronized = false
    of (Event.Input frame player) = true
    of Event.Disconnected = false
    of (Event.NetworkInterrupted timeout) = false
    of Event.NetworkResumed = false

abbrev pub inputs_in : List Entry → List Entry
inputs_in l = kept is_input l

framed_append : (f : ℕ) (a b : List (List ℕ)) → framed f (a ++ b) ≡ framed f a ++ framed (f + length a) b
framed_append f [] b = rw add-zero
framed_append f (x ∷ xs) b = rw (framed_append (suc f) xs b, add-suc, suc-add)

announced-append : (size : ℕ) (hs : List ℕ) (a b : List InputBytes) → announced_each size hs (a ++ b) ≡ announced_each size hs a ++ announced_each size hs b
unfolding announced_each
announced-append size hs [] b = refl
announced-append size hs (x ∷ a) b = rw (announced-append size hs a b, append_assoc)

-- the whole: sender s, receiver r, their ends' messages ls and lr so far, the frames accepted and the events events so far
pub record Link {w : ℕ} (t : Tape w) (size mp : ℕ) (hs : List ℕ) (k n : ℕ) (s : Sender) (r : Receiver) (ls lr : List Wire) (acc : List Frame) (events : List Entry) : Type 0 where
  pub behind : k ≤ n
  pub sending : Sending t k s
  pub holding : Holding t mp n r.history
  pub lined : Lined mp r.history
  pub packets : Packets t n ls
  pub acks : Acks t n lr
  pub accepted : acc ≡ framed t.f t.bs
  pub announced : inputs_in events ≡ announced_each size hs (numbered t.f (take n t.bs))

pub record Dir (w size mp : ℕ) (hs : List ℕ) (s : Sender) (r : Receiver) (ls lr : List Wire) (acc : List Frame) (events : List Entry) : Type 0 where
  pub tape : Tape w
  pub dropped : ℕ
  pub reached : ℕ
  pub link : Link tape size mp hs dropped reached s r ls lr acc events

-- ---- more frames reached

module _ {w : ℕ} (t : Tape w) (n n' : ℕ) (le : n ≤ n') where
  pub packets_on : (l : List Wire) → Packets t n l → Packets t n' l
  packets_on l h =
      each_also (λ (x : Wire). OnInput (Packet t n x.payload) x.body) (λ (x : Wire). OnInput (Packet t n' x.payload) x.body)
      (λ x. input_also (Packet t n x.payload) (Packet t n' x.payload) (λ start k. let z : k.from ≤ n' = omega arith in search) x.body) l h

  pub acks_on : (l : List Wire) → Acks t n l → Acks t n' l
  acks_on l h =
      each_also (λ (x : Wire). OnAck (Ack t n) x.body) (λ (x : Wire). OnAck (Ack t n') x.body)
      (λ x. ack_also (Ack t n) (Ack t n') (λ a k. let z : k.count ≤ n' = omega arith in search) x.body) l h

-- ---- one more frame is accepted

module _ {w : ℕ} (t : Tape w) (b : List ℕ) (e : length b ≡ w) (frame : ℕ) (at : t.f + length t.bs ≡ frame) (small : frame < 2 ^ 32) where
  abbrev pub longer : Tape w
  longer =
      record { f = t.f; bs = t.bs ++ b ∷ []; first = t.first; last = omega (arith, length-append t.bs (b ∷ [])); wide = wide_end w t.bs b t.wide e }

  size' : length longer.bs ≡ suc (length t.bs)
  size' = simp length-append (omega arith)

  same : (j : ℕ) → j ≤ length t.bs → ref longer j ≡ ref t j
  same zero m = refl
  same (suc j) m = rw (get_or-append t.bs (b ∷ []) [] j m)

  grow_packet : (n : ℕ) → n ≤ length t.bs → (p : List ℕ) (start : ℕ) → Packet t n p start → Packet longer n p start
  grow_packet n m p start q =
      record {
        from = q.from;
        upto = q.upto;
        known = q.known;
        some_new = q.some_new;
        most = omega (arith, size');
        starts = q.starts;
        is = rw (same q.from (omega arith), take-append-le q.upto t.bs (b ∷ []) q.most) q.is;
      }

  grow_ack : (n : ℕ) → n ≤ length t.bs → (x : ℕ) → Ack t n x → Ack longer n x
  grow_ack n m x q = record { count = q.count; most = q.most; is = rw (same q.count (omega arith)) q.is }

  pub grow : (size mp : ℕ) (hs : List ℕ) (k n : ℕ) (s : Sender) (r : Receiver) (ls lr : List Wire) (acc : List Frame) (events : List Entry) → Link t size mp hs k n s r ls lr acc events
      → Link longer size mp hs k n (record { pending = s.pending ++ entry frame b ∷ []; acked = s.acked }) r ls lr
      (acc ++ record { number = frame; bytes = b } ∷ []) events
  unfolding numbered
  grow size mp hs k n s r ls lr acc events h =
      record {
        behind = h.behind;
        sending = record {
          most = omega (arith, size', h.sending.most);
          pend = let q : t.f + k + length (drop k t.bs) ≡ frame = omega (arith, length-drop k t.bs, h.sending.most) in
              rw (drop-append-le k t.bs (b ∷ []) h.sending.most, number_append (t.f + k) (drop k t.bs) (b ∷ []), q, h.sending.pend);
          ackd = rw (same k h.sending.most) h.sending.ackd;
        };
        holding = record {
          most = omega (arith, size', h.holding.most);
          old = λ e m. let j = h.holding.old e m in (j.0, j.1, rw (same j.0 (omega (arith, h.holding.most))) j.2);
          has = λ j b q.
              let m : j ≤ length t.bs = omega (arith, h.holding.most) in
              rw (same j m) (h.holding.has j b (rw (same n h.holding.most, same j m) at q));
        };
        lined = h.lined;
        packets =
            each_also (λ (x : Wire). OnInput (Packet t n x.payload) x.body) (λ (x : Wire). OnInput (Packet longer n x.payload) x.body)
            (λ x. input_also (Packet t n x.payload) (Packet longer n x.payload) (grow_packet n h.holding.most x.payload) x.body) ls h.packets;
        acks =
            each_also (λ (x : Wire). OnAck (Ack t n) x.body) (λ (x : Wire). OnAck (Ack longer n) x.body)
            (λ x. ack_also (Ack t n) (Ack longer n) (grow_ack n h.holding.most) x.body) lr h.acks;
        accepted = rw (framed_append t.f t.bs (b ∷ []), at, h.accepted);
        announced = rw (take-append-le n t.bs (b ∷ []) h.holding.most) h.announced;
      }

-- before anything is accepted the first frame is open
pub wide_none : (w : ℕ) → Wide w []
unfolding Wide
wide_none w = tt

module _ {w : ℕ} (t : Tape w) (f : ℕ) (l : null_frame < f) (m : f < 2 ^ 32) where
  abbrev pub based : Tape w
  based = record { f = f; bs = []; first = l; last = omega arith; wide = wide_none w }

  nil-of : (x : List (List ℕ)) → length x ≡ 0 → x ≡ []
  nil-of [] e = refl
  nil-of (b ∷ x) e = absurd (omega arith)

  pub rebase : (size mp : ℕ) (hs : List ℕ) (k n : ℕ) (s : Sender) (r : Receiver) (ls lr : List Wire) (acc : List Frame) (events : List Entry) → length t.bs ≡ 0
      → Link t size mp hs k n s r ls lr acc events → Link based size mp hs 0 0 s r ls lr acc events
  unfolding numbered
  rebase size mp hs k n s r ls lr acc events e h =
      let zk : k ≡ 0 = omega (arith, h.sending.most) in
      let zn : n ≡ 0 = omega (arith, h.holding.most) in
      let zb : t.bs ≡ [] = nil-of t.bs e in
      record {
        behind = omega arith;
        sending = record { most = omega arith; pend = rw (zk, zb) at h.sending.pend; ackd = rw zk at h.sending.ackd };
        holding = record {
          most = omega arith;
          old = λ e m. let j = h.holding.old e m in let z : j.0 ≡ 0 = omega arith in (0, omega arith, rw z at j.2);
          has = λ j b q. let z : j ≡ 0 = omega arith in rw z (rw zn at (top_held t n r.history h.holding));
        };
        lined = h.lined;
        packets =
            each_also (λ (x : Wire). OnInput (Packet t n x.payload) x.body) (λ (x : Wire). OnInput (Packet based 0 x.payload) x.body)
            (λ x. input_also (Packet t n x.payload) (Packet based 0 x.payload) (λ start q. absurd (omega arith)) x.body) ls h.packets;
        acks =
            each_also (λ (x : Wire). OnAck (Ack t n) x.body) (λ (x : Wire). OnAck (Ack based 0) x.body)
            (λ x. ack_also (Ack t n) (Ack based 0) (λ a q. let z : q.count ≡ 0 = omega arith in record { count = 0; most = omega arith; is = rw z at q.is }) x.body) lr h.acks;
        accepted = rw zb at h.accepted;
        announced = rw zn at h.announced;
      }

-- ---- the moves

pub begins : (w size mp : ℕ) (hs : List ℕ) → Dir w size mp hs (record { pending = []; acked = blank_frame }) (record { history = blank_frame ∷ [] }) [] [] [] []
unfolding Wide Each numbered kept announced_each newest_of highest
begins w size mp hs = record {
  tape = record { f = bias32; bs = []; first = omega arith; last = omega arith; wide = tt };
  dropped = 0;
  reached = 0;
  link = record {
    behind = omega arith;
    sending = record { most = omega arith; pend = refl; ackd = refl };
    holding = record { most = omega arith; old = λ e m. (0, omega arith, one m); has = λ j b q. let z : j ≡ 0 = omega arith in rw z (here refl) };
    lined = λ e m. rw (one m) (omega arith);
    packets = tt;
    acks = tt;
    accepted = refl;
    announced = refl;
  };
}

module _ {w size mp : ℕ} {hs : List ℕ} {s : Sender} {r : Receiver} {ls lr : List Wire} {acc : List Frame} {events : List Entry} (d : Dir w size mp hs s r ls lr acc events) where
  -- the sender hears an ack; its end queues messages, whose Inputs are packets
  pub hears : (x : ℕ) → Ack d.tape d.reached x → (out : List Wire) → Packets d.tape d.reached out → Dir w size mp hs (dropped_to x s) r (ls ++ out) lr acc events
  hears x a out h =
      let l = d.link in
      let p = pop_inv d.tape d.dropped a.count s l.sending (omega (arith, l.holding.most)) in
      let b : p.0 ≤ d.reached = omega arith in
      let pk : Packets d.tape d.reached (ls ++ out) = each_append (λ (x : Wire). OnInput (Packet d.tape d.reached x.payload) x.body) ls out l.packets h in
      rw a.is (record { tape = d.tape; dropped = p.0; reached = d.reached; link = search })

  -- the sender's end queues messages, whose Inputs are packets
  pub queues : (out : List Wire) → Packets d.tape d.reached out → Dir w size mp hs s r (ls ++ out) lr acc events
  queues out h =
      let l = d.link in
      let pk : Packets d.tape d.reached (ls ++ out) = each_append (λ (x : Wire). OnInput (Packet d.tape d.reached x.payload) x.body) ls out l.packets h in
      record { tape = d.tape; dropped = d.dropped; reached = d.reached; link = search }

  -- the Input of all that is pending is one
  pub resends : (v : ℕ) → v ≡ w → w ≤ 64 → (x : InputBytes) (xs : List InputBytes) → s.pending ≡ x ∷ xs
      → Packet d.tape d.reached (payload v s.acked s.pending) (first_frame null_frame s.pending)
  resends v q few x xs e = rw q (sent d.tape d.dropped d.reached s x xs few d.link.sending d.link.behind e)

  -- the receiver's end queues messages, whose acks are of frames reached
  pub acked : (out : List Wire) → Acks d.tape d.reached out → Dir w size mp hs s r ls (lr ++ out) acc events
  acked out h =
      let l = d.link in
      let ak : Acks d.tape d.reached (lr ++ out) = each_append (λ (x : Wire). OnAck (Ack d.tape d.reached) x.body) lr out l.acks h in
      record { tape = d.tape; dropped = d.dropped; reached = d.reached; link = search }

  -- the newest frame of the receiver may be acknowledged
  pub newest_ack : Ack d.tape d.reached (newest_of r.history)
  newest_ack = record { count = d.reached; most = omega arith; is = top_is d.tape d.reached r.history d.link.holding }

  -- the receiver's end announces other things
  pub announces_more : (more : List Entry) → inputs_in more ≡ [] → Dir w size mp hs s r ls lr acc (events ++ more)
  announces_more more e =
      let l = d.link in
      let an : inputs_in (events ++ more) ≡ announced_each size hs (numbered d.tape.f (take d.reached d.tape.bs)) =
      kept_append is_input events more ∙ ap (λ (z : List Entry). inputs_in events ++ z) e ∙ append-nil (inputs_in events) ∙ l.announced in
      record { tape = d.tape; dropped = d.dropped; reached = d.reached; link = search }

  -- the sender accepts an input
  pub sends : (frame : ℕ) (b : List ℕ) → frame < 2 ^ 32 → length b ≡ w → bad_frame frame s ≡ false
      → Dir w size mp hs (record { pending = s.pending ++ entry frame b ∷ []; acked = s.acked }) r ls lr (acc ++ record { number = frame; bytes = b } ∷ []) events
  unfolding bad_frame blank_frame
  sends frame b small e h = go (length d.tape.bs) refl
    where
      from : bias32 ≤ frame
      from = ltb-false frame bias32 (neither (ltb frame bias32) _ h).0

      on : bias32 ≤ last_accepted s → frame ≡ suc (last_accepted s)
      on q = eqb-true frame (suc (last_accepted s)) (not-false _ (and_none (leb bias32 (last_accepted s)) _ (neither (ltb frame bias32) _ h).1 (le-leb _ _ q)))

      go : (m : ℕ) → length d.tape.bs ≡ m
          → Dir w size mp hs (record { pending = s.pending ++ entry frame b ∷ []; acked = s.acked }) r ls lr (acc ++ record { number = frame; bytes = b } ∷ []) events
      go zero z =
          let t : Tape w = based d.tape frame (omega (arith, from)) small in
          record {
            tape = longer t b e frame (omega arith) small;
            dropped = 0;
            reached = 0;
            link = grow t b e frame (omega arith) small size mp hs 0 0 s r ls lr acc events (rebase d.tape frame (omega (arith, from)) small size mp hs d.dropped d.reached s r ls lr acc events z d.link);
          }
      go (suc m) z =
          let last = last_is d.tape d.dropped s d.link.sending (suc m) z in
          let at : d.tape.f + length d.tape.bs ≡ frame = omega (arith, on (omega (arith, d.tape.first))) in
          record {
            tape = longer d.tape b e frame at small;
            dropped = d.dropped;
            reached = d.reached;
            link = grow d.tape b e frame at small size mp hs d.dropped d.reached s r ls lr acc events d.link;
          }

-- ---- the receiver takes an Input of the sender's

-- it has no frame yet, or it holds the one before the Input's first
abbrev pub Awaits : (start : ℕ) → Receiver → Type 0
Awaits start r = (newest_of r.history ≡ null_frame) ⊎ ((x : InputBytes) × Mem x r.history × (suc x.frame ≡ start))

module _ (g : Terms) (sg : SoundSetup g) {size : ℕ} {hs : List ℕ} {s : Sender} {r : Receiver} {ls lr : List Wire} {acc : List Frame} {events : List Entry}
    (d : Dir (receiving_width g) size g.max_prediction hs s r ls lr acc events) (sound : SoundReceiver (receiving_width g) g.max_prediction r)
    (start : ℕ) (p : List ℕ) (k : Packet d.tape d.reached p start) where
  abbrev got : Reception
  got = receive g start p r

  pub took : Took d.tape g.max_prediction d.reached k.upto ((found_in (reference_frame start r.history) r.history).held ≡ true) got
  took = takes g sg d.tape d.reached start p r.history sound d.link.holding d.link.lined k

  -- the events announced of it among others, and the messages that acknowledge it
  pub gets : (more : List Entry) → inputs_in more ≡ announced_each size hs got.new_frames → (out : List Wire)
      → ((n : ℕ) → Each (Ack d.tape n) got.acks → Acks d.tape n out)
      → Dir (receiving_width g) size g.max_prediction hs s got.receiver ls (lr ++ out) acc (events ++ more)
  gets more e out f =
      let l = d.link in
      let t = took in
      let b : d.dropped ≤ t.count = omega arith in
      let pk : Packets d.tape t.count ls = packets_on d.tape d.reached t.count t.grows ls l.packets in
      let ak : Acks d.tape t.count (lr ++ out) =
      each_append (λ (x : Wire). OnAck (Ack d.tape t.count) x.body) lr out (acks_on d.tape d.reached t.count t.grows lr l.acks) (f t.count t.acks) in
      let an : inputs_in (events ++ more) ≡ announced_each size hs (numbered d.tape.f (take t.count d.tape.bs)) =
      kept_append is_input events more ∙ ap (λ (z : List Entry). inputs_in events ++ z) e ∙ ap (λ (z : List Entry). z ++ announced_each size hs got.new_frames) l.announced
      ∙ sym (announced-append size hs (numbered d.tape.f (take d.reached d.tape.bs)) got.new_frames) ∙ ap (announced_each size hs) t.new_frames in
      let hd : Holding d.tape g.max_prediction t.count got.receiver.history = t.holding in
      let sn : Sending d.tape d.dropped s = l.sending in
      let ac : acc ≡ framed d.tape.f d.tape.bs = l.accepted in
      record { tape = d.tape; dropped = d.dropped; reached = t.count; link = record { behind = b; sending = sn; holding = hd; lined = t.lined; packets = pk; acks = ak; accepted = ac; announced = an } }

  ready_found : Awaits start r → (found_in (reference_frame start r.history) r.history).held ≡ true
  unfolding reference_frame blank_frame
  ready_found y = go (eqb (newest_of r.history) null_frame) refl y
    where
      blank_held : newest_of r.history ≡ null_frame → Mem blank_frame r.history
      blank_held e =
          let z : d.reached ≡ 0 = ref_inj d.tape d.reached 0 (sym (top_is d.tape d.reached r.history d.link.holding) ∙ e) in
          rw z at (top_held d.tape d.reached r.history d.link.holding)

      go : (b : Bool) → eqb (newest_of r.history) null_frame ≡ b → Awaits start r → (found_in (pick b null_frame (start - 1)) r.history).held ≡ true
      go true q y = mem_found null_frame r.history (blank_held (eqb-true _ _ q)) refl
      go false q (inl e) = absurd (eqb-false _ _ q e)
      go false q (inr x) = mem_found (start - 1) r.history x.1 (omega (arith, x.2))

  -- its last frame is start + count - 1
  pub reaches : Awaits start r → start + frame_count (receiving_width g) (length p) ≤ suc (newest_of got.receiver.history)
  reaches y =
      let t = d.tape in
      let w = receiving_within g sg in
      let top = top_is t took.count got.receiver.history took.holding in
      let up : k.upto ≤ took.count = took.reaches (ready_found y) in
      let size : length p / receiving_width g ≡ length (part t k.from k.upto) =
      ap (λ (z : List ℕ). length z / receiving_width g) k.is
      ∙ ap (λ (z : ℕ). z / receiving_width g) (pack-length (receiving_width g) (ref t k.from).bytes (omega (arith, ref_long t k.from)) (part t k.from k.upto) (wide-part t k.from k.upto))
      ∙ mul-div_cancel (length (part t k.from k.upto)) w.0 in
      rw (size, top) (omega (arith, ref_suc t took.count (omega (arith, up, k.some_new)), size_part t k.from k.upto k.most, k.starts, k.some_new, up))

-- a receiver that awaits another one announces nothing
pub unready : (g : Terms) (start : ℕ) (p : List ℕ) (r : Receiver) → bias32 ≤ start → ¬ Awaits start r → (receive g start p r).new_frames ≡ []
unfolding receive received_if reference_frame
unready g start p r from n = go (found_in (reference_frame start r.history) r.history).held refl
  where
    at : (b : Bool) → eqb (newest_of r.history) null_frame ≡ b → (found_in (pick b null_frame (start - 1)) r.history).held ≡ true → Awaits start r
    at true q h = inl (eqb-true _ _ q)
    at false q h =
        inr ((found_in (start - 1) r.history).input, found_mem (start - 1) r.history h, omega (arith, found_frame (start - 1) r.history h))

    go : (b : Bool) → (found_in (reference_frame start r.history) r.history).held ≡ b
        → (received_if b (decodable (receiving_width g) p) g.max_prediction (packet_of start (receiving_width g) (found_in (reference_frame start r.history) r.history).input.bytes p) r).new_frames ≡ []
    go true q = absurd (n (at (eqb (newest_of r.history) null_frame) refl q))
    go false q = refl
