-- The ways out of an Input that is not discarded: with inputs that cannot be read, and with inputs that can.
use Rattle.std.specs.Prelude.{Ok, Err}
use mathlib.Core.Bool.{Bool, true, false}
use mathlib.Core.List.{List, [], ◌∷◌, ◌++◌, append-nil}
use mathlib.Core.Path.{◌≡◌, refl, sym, ap}
use Prim.Native.Nat.{ℕ}
use native.Mathlib.Omega.{arith}
use lib.ListN.{length, take}
use Rattle.base.specs.Pick.{pick}
use Rattle.base.specs.Lay.{no_room}
use Rattle.answer.specs.Number.{Answered}
use Rattle.answer.specs.declared.Refusal.TheVariants.{Full}
use Rattle.packing.specs.declared.input_bytes.InputBytes.{InputBytes}
use Rattle.pending.specs.declared.Pending.{Pending}
use Rattle.history.specs.declared.History.{History}
use Rattle.history.specs.History.{received, newest_of, packet_of, taken_in}
use Rattle.status.specs.declared.ConnectionStatus.{ConnectionStatus}
use Rattle.codec.specs.declared.StatusReport.{StatusReport}
use Rattle.codec.specs.declared.MessageBody.TheVariants.{InputAck}
use Rattle.codec.specs.Message.{Wire}
use Rattle.codec.specs.Read.{body_only}
use Rattle.timers.specs.declared.Clocks.{Clocks}
use Rattle.timers.specs.Timers.{input_at, sent_at}
use Rattle.setup.specs.Setup.{terms_of, terms_with, receiving_width}
use Rattle.events.specs.declared.Entry.{Entry}
use Rattle.events.specs.declared.Events.{Events}
use Rattle.events.specs.Events.{held_events, has_room, ahead, announced_each}
use Rattle.outbox.specs.Outbox.{QueuedAs}
use Rattle.endpoint_rules.specs.declared.Flags.{Flags}
use Rattle.endpoint_rules.specs.Seen as Seen
use Rattle.endpoint_rules.specs.Seen.{Seen}
use Rattle.endpoint_rules.specs.Did.{Effect, change, queue_wire}
use Rattle.endpoint_rules.specs.Handshake.{plainly}
use Rattle.endpoint_rules.specs.Sending.{acknowledged}
use Rattle.endpoint_rules.specs.Receiving.{input_message, taken, received_if, receive, informed, inputs_received, input_taken}
use Rattle.endpoint_rules.specs.Step.{heard, reacted}
use Rattle.endpoint_rules.proofs.Laws.{by_hearing}
use Rattle.endpoint.specs.declared.Endpoint.{Endpoint}
use Rattle.endpoint.specs.declared.message.informing.Informed.{Informed}
use Rattle.endpoint.specs.Endpoint.{seen, DidAs, DoneAs}
use Rattle.endpoint.specs.Inside.Sending.{sent}
use Rattle.endpoint.specs.Inside.Packet.{Readable, news}
use Rattle.endpoint.proofs.Laws.Ends.{remade, refused-done, refused_did, done-done, queued_did}
use Rattle.endpoint.proofs.Laws.Room.{full_events, room_none, full_buffer, room_one, reacted_full, reacted-done}
use Rattle.endpoint.proofs.Laws.Message.Informing.{Brought, informing, by_informing}

-- inputs that cannot be read; b: whether their reference is held
inputless : (now : ℕ) (b : Bool) (s : Seen) (sd : Seen.Sender) (c : Clocks) (f : Flags) (st : List ConnectionStatus) (t : List Entry)
    → inputs_received now (received_if b false 0 [] s.carried.receiver) (informing s sd c f st t) ≡ informing s sd (pick b (input_at now c) c) f st t
unfolding inputs_received received_if announced_each
inputless now true s sd c f st t = rw append-nil
inputless now false s sd c f st t = rw append-nil

module _ (e : Endpoint) (now ack : ℕ) (d : Bool) (reports : List StatusReport) (b : Bool) where
  abbrev Inputless : Effect → Effect
  Inputless h = inputs_received now (received_if b false 0 [] (seen e).carried.receiver) h

  abbrev Informs : Effect
  Informs = informed d reports (change (acknowledged ack) (heard now (seen e)))

  pub inputless_out : (Inputless Informs).out ≡ []
  inputless_out = by_informing now ack d reports (seen e) (λ h. (Inputless h).out ≡ []) (λ sd c f st t. rw (inputless now b (seen e) sd c f st t))

  module _ (x : Informed) where
    abbrev Ahead : List Entry
    Ahead = ahead x.resumes x.disconnects

    abbrev Unreadable : Endpoint → Answered → Effect → Type 0
    Unreadable n a h = Brought h x → DoneAs e (reacted 0 (seen e) (plainly (Inputless h))) (record { answer = a; endpoint = n })

    pub unreadable_full : has_room (held_events e.events) (length Ahead) ≡ false → Unreadable e (Err Full) Informs
    unfolding seen
    unreadable_full k = by_informing now ack d reports (seen e) (Unreadable e (Err Full)) (λ sd c f st t i.
        rw (inputless now b (seen e) sd c f st t)
        (refused-done e (Err Full) _ (reacted_full 0 (seen e) _ refl refl (full_events [] (informing (seen e) sd (pick b (input_at now c) c) f st t) (rw i.events k)))))

    pub unreadable_done : (events : Events) → has_room (held_events e.events) (length Ahead) ≡ true → held_events events ≡ held_events e.events ++ Ahead → (c' : Clocks) (pending : Pending) (acked : InputBytes)
        → c' ≡ pick b (input_at now x.clocks) x.clocks → x.statuses.count ≡ e.statuses.count → sent pending acked ≡ Informs.state.carried.sender
        → Unreadable (remade e pending acked e.history e.sync e.nonces c' x.flags e.quality x.statuses e.checksums events e.queued) (Ok tt) Informs
    unfolding seen
    unreadable_done events room view c' pending acked ec count = by_informing now ack d reports (seen e) (λ h. sent pending acked ≡ h.state.carried.sender → Unreadable (remade e pending acked e.history e.sync e.nonces c' x.flags e.quality x.statuses e.checksums events e.queued) (Ok tt) h) (λ sd c f st t es i.
        let y : Effect = informing (seen e) sd (pick b (input_at now c) c) f st t in
        let announced : held_events events ≡ held_events e.events ++ t = rw i.events view in
        rw (inputless now b (seen e) sd c f st t)
        (done-done e _ (record { setup = refl; count = count }) y _ (reacted-done 0 (seen e) _ refl refl refl (room_none [] y refl (rw i.events room))) refl
        (rw (ec, es, i.clocks, i.flags, i.statuses, announced))))

-- inputs that can be read
module _ (e : Endpoint) (buffer : List ℕ) (now ack start : ℕ) (d : Bool) (reports : List StatusReport) (payload : List ℕ) (reference : InputBytes)
    (readable : Readable (seen e) start payload reference) (x : Informed)
    (ex : Brought (informed d reports (change (acknowledged ack) (heard now (seen e)))) x) where
  abbrev Packet : List InputBytes
  Packet = packet_of start (receiving_width (terms_of e.setup)) reference.bytes payload

  -- what is announced, and what is kept
  abbrev pub News : List Entry
  News = news e.setup (newest_of (received e.history)) start reference.bytes payload

  abbrev pub Stored : List InputBytes
  Stored = take 33 (taken_in e.setup.max_prediction (received e.history) Packet)

  abbrev Taking : Effect → Effect
  Taking h = inputs_received now (taken e.setup.max_prediction Packet (seen e).carried.receiver) h

  taking : input_taken now (input_message d start ack reports payload) (heard now (seen e)) ≡ Taking (informed d reports (change (acknowledged ack) (heard now (seen e))))
  unfolding input_taken receive received_if seen terms_with
  taking =
      by_hearing now (seen e) (λ h. inputs_received now (receive h.state.setup start payload h.state.carried.receiver) (informed d reports (change (acknowledged ack) h)) ≡ Taking (informed d reports (change (acknowledged ack) h)))
      (λ f t. rw (readable.found, readable.whole))

  abbrev Took : Endpoint → Answered → List ℕ → Effect → Type 0
  Took n a b' h = DidAs e (reacted (length buffer) (seen e) (plainly h)) buffer (record { answer = a; endpoint = n }) b'

  abbrev Readably : Endpoint → Answered → List ℕ → Effect → Type 0
  Readably n a b' h = Brought h x → Took n a b' (Taking h)

  readably : (n : Endpoint) (a : Answered) (b' : List ℕ)
      → ((sd : Seen.Sender) (c : Clocks) (f : Flags) (st : List ConnectionStatus) (t : List Entry) → Readably n a b' (informing (seen e) sd c f st t))
      → Took n a b' (input_taken now (input_message d start ack reports payload) (heard now (seen e)))
  readably n a b' h = rw taking (by_informing now ack d reports (seen e) (Readably n a b') h ex)

  abbrev Ending : Endpoint → Answered → List ℕ → Type 0
  Ending n a b' = Took n a b' (input_taken now (input_message d start ack reports payload) (heard now (seen e)))

  abbrev More : List Entry
  More = ahead x.resumes x.disconnects ++ News

  pub readable_unannounced : has_room (held_events e.events) (length More) ≡ false → Ending e (Err Full) buffer
  unfolding inputs_received taken queue_wire seen terms_with
  readable_unannounced k =
      readably e (Err Full) buffer (λ sd c f st t i.
      refused_did e (Err Full) _ (reacted_full (length buffer) (seen e) _ refl refl
      (full_events buffer (Taking (informing (seen e) sd c f st t)) (rw i.events k))) buffer)

  -- an InputAck takes 10 bytes, whatever it acknowledges
  pub readable_full : no_room buffer e.queued 10 ≡ true → Ending e (Err Full) buffer
  unfolding inputs_received taken queue_wire seen terms_with
  readable_full k =
      readably e (Err Full) buffer (λ sd c f st t i.
      refused_did e (Err Full) _ (reacted_full (length buffer) (seen e) _ refl refl
      (full_buffer buffer (Taking (informing (seen e) sd c f st t)) (body_only e.setup.magic (InputAck (newest_of Stored))) (omega arith) refl k)) buffer)

  module _ (spare : no_room buffer e.queued 10 ≡ false) (events : Events) (room : has_room (held_events e.events) (length More) ≡ true) (view : held_events events ≡ held_events e.events ++ More)
      (h' : History) (eh : received h' ≡ Stored) (newest : ℕ) (en : newest ≡ newest_of (received h')) (q : ℕ) (b' : List ℕ)
      (eq : QueuedAs buffer e.queued (body_only e.setup.magic (InputAck newest)) (Ok q) b') where
    abbrev Ack : ℕ → List Wire
    Ack n = body_only e.setup.magic (InputAck n) ∷ []

    acked : Ack (newest_of Stored) ≡ Ack newest
    acked = ap Ack (rw (← eh) (sym en))

    pub readable_done : (c' : Clocks) (pending : Pending) (last : InputBytes) → c' ≡ sent_at now (input_at now x.clocks) → x.statuses.count ≡ e.statuses.count
        → sent pending last ≡ (informed d reports (change (acknowledged ack) (heard now (seen e)))).state.carried.sender
        → Ending (remade e pending last h' e.sync e.nonces c' x.flags e.quality x.statuses e.checksums events q) (Ok tt) b'
    unfolding inputs_received taken queue_wire seen terms_with
    readable_done c' pending last ec count es =
        rw taking (by_informing now ack d reports (seen e) (λ h. sent pending last ≡ h.state.carried.sender → Readably (remade e pending last h' e.sync e.nonces c' x.flags e.quality x.statuses e.checksums events q) (Ok tt) b' h) (λ sd c f st t es i.
        let y : Effect = Taking (informing (seen e) sd c f st t) in
        let announced : held_events events ≡ held_events e.events ++ (t ++ News) = rw i.events view in
        queued_did e _ (record { setup = refl; count = count }) y _
        (reacted-done (length buffer) (seen e) _ refl refl refl
        (room_one buffer y (body_only e.setup.magic (InputAck newest)) (omega arith) acked (rw i.events room) spare))
        (body_only e.setup.magic (InputAck newest)) acked buffer b' q eq refl
        (rw (ec, es, i.clocks, i.flags, i.statuses, eh, announced))) es ex)
