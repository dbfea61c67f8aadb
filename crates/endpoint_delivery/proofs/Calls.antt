-- Every call on an end keeps both directions in order.
use mathlib.Core.Bool.{Bool, true, false, not, ◌&&◌, and-false}
use mathlib.Core.List.{List, [], ◌∷◌, ◌++◌, append-nil}
use mathlib.Core.Path.{◌≡◌, refl, ◌∙◌}
use Prim.Native.Nat.{ℕ, ◌^◌, ◌<◌}
use lib.Dec.{eqb}
use lib.ListN.{length}
use native.Mathlib.Omega.{arith}
use borrow.Author.Tests.{eqb-true, ne_eqb, not-true, not-false}
use Rattle.base.specs.Pick.{pick}
use Rattle.base.specs.Keyed.{kept}
use Rattle.base.proofs.Bools.{neither}
use Rattle.packing.specs.Pad.{padded}
use Rattle.packing.specs.declared.input_bytes.InputBytes.{InputBytes}
use Rattle.status.specs.declared.ConnectionStatus.{ConnectionStatus}
use Rattle.codec.specs.Message.{Wire}
use Rattle.codec.specs.Read.{body_only, datagram, number_in, wire_in}
use Rattle.codec.specs.declared.StatusReport.{StatusReport}
use Rattle.codec.specs.declared.MessageBody.{MessageBody}
use Rattle.codec.specs.declared.MessageBody.TheVariants.{SyncRequest, SyncReply, Input, InputAck, QualityReport, QualityReply, ChecksumReport, KeepAlive}
use Rattle.events.specs.declared.Entry.{Entry}
use Rattle.outbox.specs.Outbox.{pending_input}
use Rattle.setup.specs.Setup.{receiving_width, sending_width}
use Rattle.setup.proofs.Laws.{receiving_within}
use Rattle.events.specs.Events.{announced_each}
use Rattle.endpoint_rules.specs.Seen.{Seen, is_running, with_carried}
use Rattle.endpoint_rules.specs.Did.{Did, Effect, refused, begin, done}
use Rattle.endpoint_rules.specs.Handshake.{synchronized}
use Rattle.endpoint_rules.specs.Sending.{dropped_to, bad_frame, bad_statuses, pending_in, input_sent}
use Rattle.endpoint_rules.specs.Act.{acted}
use Rattle.endpoint_rules.specs.Checksum.{checksum_sent}
use Rattle.endpoint_rules.specs.Receiving.{input_message, Reception, receive, discarded, input_taken, input_unless, on_input, on_input_ack}
use Rattle.endpoint_rules.specs.Advantage.{both_known, local_advantage, advantage_updated}
use Rattle.endpoint_rules.specs.Call.{Call}
use Rattle.endpoint_rules.specs.Step.{changed, heard, on_body, step, synchronize_step, message_step, datagram_step, act_step, send_step, disconnect_step, checksum_step, advantage_step, stats_step, status_step, take_step, reacted}
use Rattle.endpoint_rules.proofs.Tested.{by_tests, tested-both, decided-both}
use Rattle.endpoint_invariant.specs.Each.{Each}
use Rattle.endpoint_invariant.specs.Sound.{Sound}
use Rattle.endpoint_invariant.specs.Typed.{Typed}
use Rattle.endpoint_invariant.proofs.Eaches.{each_also}
use Rattle.endpoint_invariant.proofs.Leaves.{by_cases}
use Rattle.endpoint_delivery.specs.Frames.{Frame, accepted_by}
use Rattle.endpoint_delivery.specs.Runs.{carries, Allowed, Meet}
use Rattle.endpoint_delivery.proofs.Lists.{Mem}
use Rattle.endpoint_delivery.proofs.Wires.{OnInput, OnAck, quiet_input, quiet_ack, each_mem}
use Rattle.endpoint_delivery.proofs.Tape.{Tape, Packet, Ack, Packets, Acks}
use Rattle.endpoint_delivery.proofs.Moves.{Dir, queues, acked, hears, announces_more, sends, resends, newest_ack, gets, took}
use Rattle.endpoint_delivery.proofs.Effects.{Does, starting, checking, others, taking, acts, sending}
use Rattle.endpoint_delivery.proofs.Effects as Effects

-- an end with all events that it announced, taken or not
pub record Side : Type 0 where
  pub state : Seen
  pub queued : List Wire
  pub events : List Entry
  pub accepted : List Frame

-- what is sent from one to the other
abbrev pub Way : Side → Side → Type 0
Way a b =
    Dir (receiving_width b.state.setup) b.state.setup.input_size b.state.setup.max_prediction b.state.setup.handles a.state.carried.sender b.state.carried.receiver
    a.queued b.queued a.accepted b.events

pub record Both (a b : Side) : Type 0 where
  pub goes : Way a b
  pub comes : Way b a

-- one after something was done
abbrev pub onto : Side → Did → List Frame → Side
onto a d acc = record { state = d.after; queued = a.queued ++ d.out; events = a.events ++ d.events; accepted = a.accepted ++ acc }

-- what was done keeps both directions, and the setup
pub record Kept (a b : Side) (d : Did) (acc : List Frame) : Type 0 where
  pub both : Both (onto a d acc) b
  pub setup : d.after.setup ≡ a.state.setup

kept_as : {a b : Side} {d : Did} {acc : List Frame} → d.after.setup ≡ a.state.setup → Both (onto a d acc) b → Kept a b d acc
kept_as e h = record { both = h; setup = e }

-- both at once, of a message that an end queues
abbrev Sent : {w v : ℕ} → (t : Tape w) → (n : ℕ) → (u : Tape v) → (m : ℕ) → Wire → Type 0
Sent t n u m x = OnInput (Packet t n x.payload) x.body × OnAck (Ack u m) x.body

module _ {w v : ℕ} (t : Tape w) (n : ℕ) (u : Tape v) (m : ℕ) where
  quiet_sent : (magic : ℕ) (b : MessageBody) → carries b ≡ false → Sent t n u m (body_only magic b)
  quiet_sent magic b q = (quiet_input (Packet t n []) b q, quiet_ack (Ack u m) b q)

  packets_of : (l : List Wire) → Each (Sent t n u m) l → Packets t n l
  packets_of l h = each_also (Sent t n u m) (λ (x : Wire). OnInput (Packet t n x.payload) x.body) (λ x p. p.0) l h

  acks_of : (l : List Wire) → Each (Sent t n u m) l → Acks u m l
  acks_of l h = each_also (Sent t n u m) (λ (x : Wire). OnAck (Ack u m) x.body) (λ x p. p.1) l h

module _ (a b : Side) (both : Both a b) (meet : Meet a.state b.state) (sound_a : Sound a.state) (sound_b : Sound b.state) where
  abbrev s : Seen
  s = a.state

  abbrev Ok : Wire → Type 0
  Ok = Sent both.goes.tape both.goes.reached both.comes.tape both.comes.reached

  abbrev quiet : (magic : ℕ) (m : MessageBody) → carries m ≡ false → Ok (body_only magic m)
  quiet = quiet_sent both.goes.tape both.goes.reached both.comes.tape both.comes.reached

  -- nothing carried changes
  still : (d : Did) → Does s s.carried [] Ok d.after d.out d.events → Kept a b d []
  still d h =
      kept_as h.setup (rw (h.setup, h.carried, append-nil a.accepted) (record {
        goes = queues both.goes d.out (packets_of _ _ _ _ d.out h.out);
        comes = announces_more (acked both.comes d.out (acks_of _ _ _ _ d.out h.out)) d.events h.events;
      }))

  refuses : (k : ℕ) → Kept a b (refused k s) []
  unfolding refused Each kept
  refuses k = still (refused k s) (record { setup = refl; carried = refl; out = tt; events = refl })

  changes : (t : Seen) → t.setup ≡ s.setup → t.carried ≡ s.carried → Kept a b (changed t) []
  unfolding Each kept
  changes t p q = still (changed t) (record { setup = p; carried = q; out = tt; events = refl })

  finished : (e : Effect) → Does s s.carried [] Ok e.state e.out e.events → Kept a b (done e) []
  unfolding done
  finished e h = still (done e) (record { setup = h.setup; carried = h.carried; out = h.out; events = h.events })

  -- ---- messages

  -- an ack of the other end's is heard
  heeds : (ack : ℕ) → Ack both.goes.tape both.goes.reached ack → (d : Did) → Does s (Effects.dropped_in Ok quiet s ack) [] Ok d.after d.out d.events → Kept a b d []
  heeds ack k d h =
      kept_as h.setup (rw (h.setup, h.carried, append-nil a.accepted) (record {
        goes = hears both.goes ack k d.out (packets_of _ _ _ _ d.out h.out);
        comes = announces_more (acked both.comes d.out (acks_of _ _ _ _ d.out h.out)) d.events h.events;
      }))

  -- an Input of the other end's is taken in
  module _ (start ack : ℕ) (payload : List ℕ) (p : Packet both.comes.tape both.comes.reached payload start) (k : Ack both.goes.tape both.goes.reached ack) where
    abbrev got : Reception
    got = receive s.setup start payload s.carried.receiver

    abbrev Then : ℕ → Wire → Type 0
    Then n = Sent both.goes.tape both.goes.reached both.comes.tape n

    abbrev TakesIn : ℕ → Did → Type 0
    TakesIn n d =
        Does s (record { sender = dropped_to ack s.carried.sender; receiver = got.receiver }) (announced_each s.setup.input_size s.setup.handles got.new_frames) (Then n)
        d.after d.out d.events

    takes_in : (d : Did) → ((n : ℕ) → Each (Ack both.comes.tape n) got.acks → TakesIn n d) → Kept a b d []
    takes_in d f =
        let t = took s.setup sound_a.setup both.comes sound_a.receiver start payload p in
        let h : TakesIn t.count d = f t.count t.acks in
        kept_as h.setup (rw (h.setup, h.carried, append-nil a.accepted) (record {
          goes = hears both.goes ack k d.out (packets_of _ _ _ _ d.out h.out);
          comes =
              gets s.setup sound_a.setup both.comes sound_a.receiver start payload p d.events h.events d.out
              (λ n q. acks_of both.goes.tape both.goes.reached both.comes.tape n d.out (f n q).out);
        }))

    input-done : (now : ℕ) (d : Bool) (reports : List StatusReport) → Kept a b (done (input_taken now (input_message d start ack reports payload) (heard now s))) []
    unfolding done
    input-done now d reports =
        takes_in (done (input_taken now (input_message d start ack reports payload) (heard now s))) (λ n q.
        let h = taking (Then n) (quiet_sent both.goes.tape both.goes.reached both.comes.tape n) s start payload now ack d reports
        (each_also (Ack both.comes.tape n) (λ x. (magic : ℕ) → Then n (body_only magic (InputAck x))) (λ x k magic. (tt, k)) got.acks q) in
        record { setup = h.setup; carried = h.carried; out = h.out; events = h.events })

  ack_done : (ack : ℕ) → Ack both.goes.tape both.goes.reached ack → (now : ℕ) → Kept a b (done (on_input_ack ack (heard now s)).effect) []
  unfolding done
  ack_done ack k now =
      let h = Effects.acked Ok quiet s ack now in
      heeds ack k (done (on_input_ack ack (heard now s)).effect) (record { setup = h.setup; carried = h.carried; out = h.out; events = h.events })

  quietly : (w : Wire) → carries w.body ≡ false → (count now epoch nonce : ℕ) → Kept a b (done (on_body w.body count w now epoch nonce (heard now s)).effect) []
  quietly w q count now epoch nonce = finished (on_body w.body count w now epoch nonce (heard now s)).effect (others Ok quiet s w.body q count w now epoch nonce)

  abbrev wire_of : ℕ → MessageBody → List StatusReport → List ℕ → Wire
  wire_of magic m reports payload = record { magic = magic; body = m; reports = reports; payload = payload }

  -- a message by its body, where it carries inputs one that the other end queued
  body_done : (magic : ℕ) (m : MessageBody) (reports : List StatusReport) (payload : List ℕ)
      → (carries m ≡ true → Mem (wire_of magic m reports payload) b.queued) → (count now epoch nonce : ℕ)
      → Kept a b (done (on_body m count (wire_of magic m reports payload) now epoch nonce (heard now s)).effect) []
  unfolding on_body on_input input_unless
  body_done magic (SyncRequest n) reports payload q count now epoch nonce = quietly (wire_of magic (SyncRequest n) reports payload) refl count now epoch nonce
  body_done magic (SyncReply n) reports payload q count now epoch nonce = quietly (wire_of magic (SyncReply n) reports payload) refl count now epoch nonce
  body_done magic (Input d start ack) reports payload q count now epoch nonce = go (discarded d count start (heard now s).state)
    where
      p : Packet both.comes.tape both.comes.reached payload start
      p = each_mem (λ (x : Wire). OnInput (Packet both.comes.tape both.comes.reached x.payload) x.body) b.queued both.comes.link.packets (q refl)

      k : Ack both.goes.tape both.goes.reached ack
      k = each_mem (λ (x : Wire). OnAck (Ack both.goes.tape both.goes.reached) x.body) b.queued both.goes.link.acks (q refl)

      go : (x : Bool) → Kept a b (done (input_unless x now (input_message d start ack reports payload) (heard now s)).effect) []
      go true = finished (heard now s) (Effects.hearing Ok quiet s now)
      go false = input-done start ack payload p k now d reports
  body_done magic (InputAck ack) reports payload q count now epoch nonce =
      ack_done ack (each_mem (λ (x : Wire). OnAck (Ack both.goes.tape both.goes.reached) x.body) b.queued both.goes.link.acks (q refl)) now
  body_done magic (QualityReport advantage ping) reports payload q count now epoch nonce = quietly (wire_of magic (QualityReport advantage ping) reports payload) refl count now epoch nonce
  body_done magic (QualityReply pong) reports payload q count now epoch nonce = quietly (wire_of magic (QualityReply pong) reports payload) refl count now epoch nonce
  body_done magic (ChecksumReport checksum frame) reports payload q count now epoch nonce = quietly (wire_of magic (ChecksumReport checksum frame) reports payload) refl count now epoch nonce
  body_done magic KeepAlive reports payload q count now epoch nonce = quietly (wire_of magic KeepAlive reports payload) refl count now epoch nonce

  pub message-both : (from count : ℕ) (w : Wire) (now epoch nonce buffer : ℕ) → (carries w.body ≡ true → Mem w b.queued) → Kept a b (message_step from count w now epoch nonce buffer s) []
  unfolding message_step reacted
  message-both from count w now epoch nonce buffer q =
      tested-both _ s _ (λ d. Kept a b d []) refuses (λ _.
      tested-both _ s _ (λ d. Kept a b d []) refuses (λ _. body_done w.magic w.body w.reports w.payload q count now epoch nonce))

  pub datagram-both : (from : ℕ) (bytes : List ℕ) (now epoch nonce buffer : ℕ) → (number_in (datagram bytes) ≡ 0 → carries (wire_in (datagram bytes)).body ≡ true → Mem (wire_in (datagram bytes)) b.queued)
      → Kept a b (datagram_step from bytes now epoch nonce buffer s) []
  unfolding datagram_step
  datagram-both from bytes now epoch nonce buffer q =
      decided-both _ s _ (λ d. Kept a b d []) refuses (λ z. message-both from (length (wire_in (datagram bytes)).reports) (wire_in (datagram bytes)) now epoch nonce buffer (q z))

  -- ---- the other calls

  -- the Input of all that is pending, with the newest frame received for an ack
  pending_ok : (statuses : List ConnectionStatus) (x : InputBytes) (xs : List InputBytes) → s.carried.sender.pending ≡ x ∷ xs → Ok (pending_in statuses s)
  unfolding pending_input
  pending_ok statuses x xs e =
      let w = receiving_within b.state.setup sound_b.setup in
      (resends both.goes (sending_width s.setup) meet.there w.1 x xs e, newest_ack both.comes)

  act_both : (count : ℕ) (statuses : List ConnectionStatus) (now epoch nonce buffer : ℕ) → Kept a b (act_step count statuses now epoch nonce buffer s) []
  unfolding act_step
  act_both count statuses now epoch nonce buffer =
      tested-both _ s _ (λ d. Kept a b d []) refuses (λ _. finished (acted s.phase now epoch nonce statuses (begin s)) (acts Ok quiet s statuses (pending_ok statuses) s.phase now epoch nonce))

  -- an input is accepted: the Input of all that is pending then has it
  module _ (frame : ℕ) (bytes : List ℕ) (small : frame < 2 ^ 32) (long : length bytes ≡ sending_width s.setup) (right : bad_frame frame s.carried.sender ≡ false) where
    abbrev new : InputBytes
    new = record { frame = frame; bytes = padded bytes }

    abbrev frame_of : Frame
    frame_of = record { number = frame; bytes = bytes }

    abbrev later : Seen
    later = with_carried (record { sender = record { pending = s.carried.sender.pending ++ new ∷ []; acked = s.carried.sender.acked }; receiver = s.carried.receiver }) s

    abbrev way : Way (record { state = later; queued = a.queued; events = a.events; accepted = a.accepted ++ frame_of ∷ [] }) b
    way = sends both.goes frame bytes small (long ∙ meet.there) right

    abbrev Ok' : Wire → Type 0
    Ok' = Sent way.tape way.reached both.comes.tape both.comes.reached

    some_pending : (l : List InputBytes) → (x : InputBytes) × (xs : List InputBytes) × (l ++ new ∷ [] ≡ x ∷ xs)
    some_pending [] = (new, [], refl)
    some_pending (y ∷ l) = (y, l ++ new ∷ [], refl)

    new_ok : (statuses : List ConnectionStatus) → Ok' (pending_in statuses later)
    unfolding pending_input
    new_ok statuses =
        let w = receiving_within b.state.setup sound_b.setup in
        let l = some_pending s.carried.sender.pending in
        (resends way (sending_width s.setup) meet.there w.1 l.0 l.1 l.2, newest_ack both.comes)

    sent-done : (now : ℕ) (statuses : List ConnectionStatus) → Kept a b (done (input_sent now frame bytes statuses (begin s))) (frame_of ∷ [])
    unfolding done
    sent-done now statuses =
        let h = sending Ok' (quiet_sent way.tape way.reached both.comes.tape both.comes.reached) s now frame bytes statuses (new_ok statuses) in
        let e : Effect = input_sent now frame bytes statuses (begin s) in
        kept_as h.setup (rw (h.setup, h.carried) (record {
          goes = queues way e.out (packets_of _ _ _ _ e.out h.out);
          comes = announces_more (acked both.comes e.out (acks_of _ _ _ _ e.out h.out)) e.events h.events;
        }))

  -- a send is accepted in Running if it is not refused; its number 0 alone does not say so, for outside Running it is ignored
  send_both : (frame : ℕ) (bytes : List ℕ) (count : ℕ) (statuses : List ConnectionStatus) (now buffer : ℕ) → frame < 2 ^ 32
      → Kept a b (send_step frame bytes count statuses now buffer s)
      (pick (is_running s.phase && eqb (send_step frame bytes count statuses now buffer s).answer 0) (record { number = frame; bytes = bytes } ∷ []) [])
  unfolding send_step done refused
  send_both frame bytes count statuses now buffer small =
      by_tests _ s _ Sent (refuses_it 8 (omega arith), (refuses_it 3 (omega arith), (idle, (refuses_it 4 (omega arith), (refuses_it 5 (omega arith), tt))))) (λ z.
      let long : length bytes ≡ sending_width s.setup = eqb-true _ _ (not-false _ (neither (bad_statuses count s) _ z.1.0).1) in
      rw (not-false (is_running s.phase) z.1.1.0) (sent-done frame bytes small long z.1.1.1.0 now statuses))
    where
      Sent : Did → Type 0
      Sent d = Kept a b d (pick (is_running s.phase && eqb d.answer 0) (record { number = frame; bytes = bytes } ∷ []) [])

      refuses_it : {b : Bool} (n : ℕ) → 0 < n → b ≡ true → Sent (refused n s)
      refuses_it n z h = rw (ne_eqb n 0 (λ e. omega arith), and-false (is_running s.phase)) (refuses n)

      idle : not (is_running s.phase) ≡ true → Sent (refused 0 s)
      idle h = rw (not-true (is_running s.phase) h) (refuses 0)

  updated : (f : ℕ) → Kept a b (changed (advantage_updated f s)) []
  unfolding advantage_updated local_advantage
  updated f = by_cases (both_known f s) (Kept a b (changed (advantage_updated f s)) []) (λ h. rw h (changes _ refl refl)) (λ h. rw h (changes s refl refl))

  -- every call
  pub call_kept : (c : Call) → Typed c → Allowed c b.queued → Kept a b (step c s) (accepted_by c s)
  unfolding step synchronize_step disconnect_step checksum_step advantage_step stats_step status_step take_step
  call_kept (Call.synchronize now epoch nonce buffer) t q =
      tested-both _ s _ (λ d. Kept a b d []) refuses (λ _. finished (synchronized now epoch nonce (begin s)) (starting Ok quiet s now epoch nonce))
  call_kept (Call.message from count w now epoch nonce buffer) t q = message-both from count w now epoch nonce buffer q
  call_kept (Call.datagram from bytes now epoch nonce buffer) t q = datagram-both from bytes now epoch nonce buffer q
  call_kept (Call.act count statuses now epoch nonce buffer) t q = act_both count statuses now epoch nonce buffer
  call_kept (Call.send_input frame bytes count statuses now buffer) t q = send_both frame bytes count statuses now buffer t.0
  call_kept (Call.disconnect now) t q =
      tested-both _ s _ (λ d. Kept a b d []) refuses (λ _. changes _ refl refl)
  call_kept (Call.send_checksum_report frame checksum now buffer) t q =
      tested-both _ s _ (λ d. Kept a b d []) refuses (λ _. finished (checksum_sent now frame checksum (begin s)) (checking Ok quiet s now frame checksum))
  call_kept (Call.update_local_frame_advantage f) t q = tested-both _ s _ (λ d. Kept a b d []) refuses (λ _. updated f)
  call_kept (Call.network_stats epoch) t q = tested-both _ s _ (λ d. Kept a b d []) refuses (λ _. changes s refl refl)
  call_kept (Call.peer_connect_status handle) t q = tested-both _ s _ (λ d. Kept a b d []) refuses (λ _. changes s refl refl)
  call_kept Call.take_events t q = changes _ refl refl
  call_kept (Call.take_messages buffer) t q = tested-both _ s _ (λ d. Kept a b d []) refuses (λ _. changes _ refl refl)
  call_kept (Call.ask question) t q = changes s refl refl
