-- The ways out of act, by phase.
use Rattle.std.specs.Prelude.{Result, Ok, Err}
use borrow.Author.Tests.{lt-ltb, le-ltb, lt-leb, le-leb, eq-eqb, ne_eqb}
use denote.Enum.Declared.{tag_of}
use mathlib.Core.Bool.{Bool, true, false, ◌||◌}
use mathlib.Core.List.{List, [], ◌∷◌, ◌++◌, append-nil}
use mathlib.Core.Path.{◌≡◌, refl, sym, ◌∙◌, ap}
use types.Run.{OneOf}
use native.Mathlib.Omega.{arith}
use Prim.Native.Nat.{ℕ, ◌+◌, ◌-◌, ◌<◌, ◌≤◌}
use lib.Dec.{ltb}
use lib.ListN.{length}
use Rattle.base.specs.Pick.{pick}
use Rattle.base.proofs.Tags.{none_of}
use Rattle.answer.specs.Number.{Answered}
use Rattle.answer.specs.declared.Refusal.TheVariants.{BadLength, Full, BadClock}
use Rattle.status.specs.declared.ConnectionStatus.{ConnectionStatus}
use Rattle.status.specs.declared.list.Statuses.{Statuses}
use Rattle.status.specs.Statuses.{held_statuses}
use Rattle.pending.specs.Pending.{waiting}
use Rattle.history.specs.History.{received, newest_of}
use Rattle.nonces.specs.declared.Nonces.{Nonces}
use Rattle.nonces.specs.Nonces.{outstanding, issued}
use Rattle.timers.specs.declared.Clocks.{Clocks}
use Rattle.timers.specs.Timers.{bad_clocks, passed}
use Rattle.events.specs.declared.Entry.{Entry}
use Rattle.events.specs.declared.Events.{Events}
use Rattle.events.specs.Events.{held_events, has_room, both, PushedAs}
use Rattle.events.proofs.Laws.{both-length}
use Rattle.codec.specs.Message.{Wire}
use Rattle.setup.specs.Setup.{terms_of, terms_with, sending_width}
use Rattle.std.specs.Result.{result_unwrap_or}
use Rattle.answer.specs.declared.Refusal.{Refusal}
use Rattle.outbox.specs.Outbox.{queue_size, pending_input, QueuedAs}
use Rattle.endpoint_rules.specs.declared.Flags.{Flags}
use Rattle.endpoint_rules.specs.declared.Phase.{Phase}
use Rattle.endpoint_rules.specs.declared.Phase.TheVariants.{Initializing, Synchronizing, Running, Disconnected, Shutdown}
use Rattle.endpoint_rules.specs.contracts.Phase.{the_type}
use Rattle.endpoint_rules.specs.Seen.{Seen, with_phase}
use Rattle.endpoint_rules.specs.Did.{Did, Effect, begin, change, queue_wire, tested, done}
use Rattle.endpoint_rules.specs.Room.{buffer_full}
use Rattle.endpoint_rules.specs.Handshake.{Reaction, plainly, nonce_issued, request}
use Rattle.endpoint_rules.specs.Act.{acted}
use Rattle.endpoint_rules.specs.Call.{Call}
use Rattle.endpoint_rules.specs.Step.{reacted, act_step, step}
use Rattle.endpoint.specs.declared.Endpoint.{Endpoint}
use Rattle.endpoint.specs.declared.Ended.{Ended}
use Rattle.endpoint.specs.declared.act.due.Due.{Due}
use Rattle.endpoint.specs.Endpoint.{seen, SameTerms, DidAs, DoneAs}
use Rattle.endpoint.specs.Inside.Handshake.{RequestedAs}
use Rattle.endpoint.specs.Inside.Due.{due_of, clocks_by, flags_by, due_events}
use Rattle.endpoint.specs.Inside.Batch.{due_reports, batch, SizedWith, BatchWrittenAs, WrittenWhere}
use Rattle.endpoint.proofs.Laws.Ends.{in_phase, remade, grown, refused_did, done-done, queued_did, batch_did}
use Rattle.endpoint.proofs.Laws.Settled.{did_settled}
use Rattle.endpoint.proofs.Laws.Room.{full_events, room_none, full_bytes, room-bytes, reacted_full, reacted-done}
use Rattle.endpoint.proofs.Laws.Message.Unqueued.{unqueued}
use Rattle.endpoint.proofs.Laws.Handshake.{request_full, request_fits}
use Rattle.endpoint.proofs.Laws.Act.Batch.{none_sent, written_none, written_one, written_then}
use Rattle.endpoint.proofs.Laws.Act.Due.{ran, running_is}

-- act by phase, as a reaction: past the tests for 8 and 3 it is refused for room alone
unfoldable pub acts : Phase → (now epoch nonce : ℕ) → List ConnectionStatus → Seen → Reaction
acts p now epoch nonce statuses s = plainly (acted p now epoch nonce statuses (begin s))

-- ---- Running

module _ (e : Endpoint) (buffer : List ℕ) (statuses : Statuses) (now epoch : ℕ) (d : Due) where
  abbrev Ran : Effect
  Ran = ran now (seen e) (held_statuses statuses) epoch d

  abbrev DueEvents : List Entry
  DueEvents = due_events d (e.setup.disconnect_timeout - e.setup.disconnect_notify_start)

  -- s: e with the messages that are due queued
  abbrev pub Packed : Endpoint → List ℕ → Type 0
  Packed s buffer' =
      (s ≡ grown e e.events s.queued)
      × (buffer_full (length buffer) e.queued (queue_size Ran.out) ≡ false)
      × BatchWrittenAs buffer e.queued Ran.out s.queued buffer'

  -- t: s with the events that are due announced
  abbrev pub Announced : Endpoint → Endpoint → Type 0
  Announced s t = (t ≡ grown e t.events s.queued) × (held_events t.events ≡ held_events e.events ++ DueEvents)

  pub packed_none : (d.input || d.report) || d.keep_alive ≡ false → Packed e buffer
  unfolding batch due_reports buffer_full queue_size
  packed_none h =
      let none : Ran.out ≡ [] = none_sent _ _ _ d.input d.report d.keep_alive h in
      (refl, rw none, rw none (written_none buffer e.queued refl))

  module _ (width : ℕ) where
    abbrev Inputs : List Wire
    Inputs = pick d.input (pending_input e.setup.magic (newest_of (received e.history)) (held_statuses statuses) (waiting e.pending) width e.acked ∷ []) []

    -- s: e with the pending inputs queued, where they are due
    abbrev pub Resent : Endpoint → List ℕ → Type 0
    Resent s buffer' = (s ≡ grown e e.events s.queued) × WrittenWhere buffer e.queued Inputs s.queued buffer'

    pub resent_none : d.input ≡ false → Resent e buffer
    resent_none h = (refl, rw h (written_none buffer e.queued))

    pub resent_some : d.input ≡ true → (ack : ℕ) → ack ≡ newest_of (received e.history) → (q : Result ℕ Refusal) (buffer' : List ℕ)
        → QueuedAs buffer e.queued (pending_input e.setup.magic ack (held_statuses statuses) (waiting e.pending) width e.acked) q buffer'
        → (stop : ℕ) → stop ≡ result_unwrap_or q e.queued → Resent (grown e e.events stop) buffer'
    resent_some h ack newest q buffer' eq stop es = (refl, rw (h, es) (written_one buffer e.queued _ q buffer' (rw newest at eq)))

    module _ (size : ℕ) (full : Bool) (wide : width ≡ sending_width (terms_of e.setup)) (whole : length e.acked.bytes ≡ 64)
        (sized : SizedWith d (held_statuses statuses) (waiting e.pending) width size) (tested : full ≡ buffer_full (length buffer) e.queued size) where
      pub size_is : buffer_full (length buffer) e.queued (queue_size Ran.out) ≡ full
      unfolding seen terms_with
      size_is = rw (← wide, sized e.acked whole, tested)

      module _ (s : Endpoint) (buffer' : List ℕ) (resent : Resent s buffer') (stop : ℕ) (buffer'' : List ℕ)
          (reported : WrittenWhere buffer' s.queued (due_reports d s.setup.magic s.quality.local_frame_advantage epoch) stop buffer'') where
        all_written : WrittenWhere buffer e.queued (batch d e.setup.magic (newest_of (received e.history)) (held_statuses statuses) (waiting e.pending) width e.acked e.quality.local_frame_advantage epoch) stop buffer''
        unfolding batch
        all_written =
            let magic : s.setup.magic ≡ e.setup.magic = ap (λ (x : Endpoint). x.setup.magic) resent.0 in
            let advantage : s.quality.local_frame_advantage ≡ e.quality.local_frame_advantage = ap (λ (x : Endpoint). x.quality.local_frame_advantage) resent.0 in
            written_then buffer e.queued Inputs _ s.queued stop buffer' buffer'' resent.1 (rw (magic, advantage) at reported)

        pub packed_some : full ≡ false → Packed (grown s s.events stop) buffer''
        unfolding seen terms_with
        packed_some k =
            (ap (λ (x : Endpoint). grown x x.events stop) resent.0, size_is ∙ k, rw wide at (all_written (rw (sized e.acked whole) (sym tested ∙ k))))

  -- n events wait, m are due
  module _ (n m : ℕ) (en : n ≡ length (held_events e.events)) (em : m ≡ pick d.interruption 1 0 + pick d.disconnect 1 0) where
    announced_many : length DueEvents ≡ m
    unfolding due_events both
    announced_many = rw em (both-length d.interruption _ d.disconnect _)

    pub announced_full : 640 < n + m → has_room (held_events e.events) (length DueEvents) ≡ false
    unfolding has_room
    announced_full h = lt-leb (length (held_events e.events) + length DueEvents) 640 (omega (arith, en, announced_many, h))

    pub announced_fits : n + m ≤ 640 → has_room (held_events e.events) (length DueEvents) ≡ true
    unfolding has_room
    announced_fits h = le-leb (length (held_events e.events) + length DueEvents) 640 (omega (arith, en, announced_many, h))

    module _ (s : Endpoint) (kept : s ≡ grown e e.events s.queued) where
      events_kept : s.events ≡ e.events
      events_kept = ap (λ (x : Endpoint). x.events) kept

      pub announced_all : n + m ≤ 640 → (a : Answered) (v : Events) → PushedAs s.events (has_room (held_events s.events) (length DueEvents)) DueEvents a v → Announced s (grown s v s.queued)
      announced_all h a v ev =
          (ap (λ (x : Endpoint). grown x v s.queued) kept, rw (events_kept, announced_fits h) at ev.view)

  module _ (pending : ℕ) (some : pending ≡ length (waiting e.pending))
      (due : d ≡ due_of now e.clocks e.flags (ltb 0 pending) e.setup.disconnect_notify_start e.setup.disconnect_timeout) where
    abbrev Run : Reaction
    Run = acts Running now epoch 0 (held_statuses statuses) (seen e)

    abbrev Ending : Answered → Endpoint → List ℕ → Type 0
    Ending a n buffer' = DidAs e (reacted (length buffer) (seen e) Run) buffer (record { answer = a; endpoint = n }) buffer'

    ran_is : Run.effect ≡ Ran
    unfolding acts seen terms_with
    ran_is = running_is now (seen e) (held_statuses statuses) epoch 0 ∙ ap (ran now (seen e) (held_statuses statuses) epoch) (sym (rw some at due))

    pub running_unannounced : has_room (held_events e.events) (length DueEvents) ≡ false → Ending (Err Full) e buffer
    unfolding acts seen terms_with
    running_unannounced h = refused_did e (Err Full) _ (reacted_full (length buffer) (seen e) Run refl refl (rw ran_is (full_events buffer Ran h))) buffer

    pub running_full : buffer_full (length buffer) e.queued (queue_size Ran.out) ≡ true → Ending (Err Full) e buffer
    unfolding acts seen
    running_full h = refused_did e (Err Full) _ (reacted_full (length buffer) (seen e) Run refl refl (rw ran_is (full_bytes buffer Ran h))) buffer

    module _ (s t : Endpoint) (buffer' : List ℕ) (c : Clocks) (f : Flags) (room : has_room (held_events e.events) (length DueEvents) ≡ true) (packed : Packed s buffer') (announced : Announced s t) where
      ends : c ≡ clocks_by d now e.clocks → f ≡ flags_by d e.flags
          → Ending (Ok tt) (remade e e.pending e.acked e.history e.sync e.nonces c f e.quality e.statuses e.checksums t.events s.queued) buffer'
      unfolding acts seen terms_with
      ends ec ef =
          batch_did e _ (record { setup = refl; count = refl }) Ran _ buffer buffer' s.queued
          (reacted-done (length buffer) (seen e) Run refl refl refl (rw ran_is (room-bytes buffer Ran room packed.1)) ∙ ap done ran_is)
          refl packed.2 (rw (ec, ef, announced.1))

      pub running-done : c ≡ clocks_by d now t.clocks → f ≡ flags_by d t.flags
          → Ending (Ok tt) (remade t t.pending t.acked t.history t.sync t.nonces c f t.quality t.statuses t.checksums t.events t.queued) buffer'
      running-done ec ef =
          rw announced.0 (ends (ec ∙ ap (λ (x : Endpoint). clocks_by d now x.clocks) announced.0) (ef ∙ ap (λ (x : Endpoint). flags_by d x.flags) announced.0))

-- ---- the other phases, which announce nothing

-- and queue nothing
module _ (e : Endpoint) (room : has_room (held_events e.events) 0 ≡ true) (r : Reaction) (short : r.too_long ≡ false) (within : r.overflows ≡ false) (stored : r.store_full ≡ false) where
  pub quiet_done : (n : Endpoint) → SameTerms e n → r.effect.out ≡ [] → r.effect.events ≡ [] → r.effect.state.events ≡ held_events e.events → seen n ≡ r.effect.state
      → DoneAs e (reacted 0 (seen e) r) (record { answer = Ok tt; endpoint = n })
  quiet_done n terms o t ev after =
      done-done e n terms r.effect _ (reacted-done 0 (seen e) r short within stored (room_none [] r.effect o (rw (t, ev) room))) o (after ∙ rw (t, append-nil))

module _ (e : Endpoint) (buffer : List ℕ) (now nonce : ℕ) where
  abbrev Ask : Reaction
  Ask = acts Synchronizing now 0 nonce [] (seen e)

  abbrev Asking : Answered → Endpoint → List ℕ → Type 0
  Asking a n buffer' = DidAs e (reacted (length buffer) (seen e) Ask) buffer (record { answer = a; endpoint = n }) buffer'

  pub synchronizing_idle : has_room (held_events e.events) 0 ≡ true → passed e.clocks.last_sync_request_time 200 now ≡ false → Asking (Ok tt) e buffer
  unfolding acts acted seen
  synchronizing_idle room h = unqueued e Ask (rw h) buffer _ (quiet_done e room Ask refl refl refl e (record { setup = refl; count = refl }) (rw h) (rw h) (rw h) (rw h))

  -- n: the endpoint after the request
  module _ (due : passed e.clocks.last_sync_request_time 200 now ≡ true) (n : Endpoint) (buffer' : List ℕ) where
    abbrev Asked : Effect
    Asked = request now nonce (begin (seen e))

    pub synchronizing_full : (r : Refusal) → RequestedAs e now nonce buffer (Err r) n buffer' → Asking (Err r) n buffer'
    unfolding reacted tested acts acted request nonce_issued queue_wire seen terms_with
    synchronizing_full r h =
        let x = h.1 in
        rw (h.0, x.1, x.2) (refused_did e (Err Full) _ (rw (due, request_full buffer e.setup.magic nonce Asked refl x.0)) buffer)

    pub synchronizing_done : RequestedAs e now nonce buffer (Ok tt) n buffer' → has_room (held_events e.events) 0 ≡ true → (v : Nonces) → outstanding v ≡ issued nonce (outstanding n.nonces)
        → Asking (Ok tt) (remade n n.pending n.acked n.history n.sync v n.clocks n.flags n.quality n.statuses n.checksums n.events n.queued) buffer'
    unfolding reacted tested acts acted request nonce_issued queue_wire seen terms_with
    synchronizing_done h room =
        rw h.0 (λ v ev.
        queued_did e _ (record { setup = refl; count = refl }) Asked _
        (rw (due, request_fits buffer e.setup.magic nonce Asked refl h.1.room room))
        _ refl buffer buffer' n.queued h.1 refl (rw (ev, append-nil)))

module _ (e : Endpoint) (now : ℕ) (room : has_room (held_events e.events) 0 ≡ true) where
  abbrev Wait : Reaction
  Wait = acts Disconnected now 0 0 [] (seen e)

  abbrev Waiting : Endpoint → Type 0
  Waiting n = DoneAs e (reacted 0 (seen e) Wait) (record { answer = Ok tt; endpoint = n })

  pub disconnected_idle : now ≤ e.clocks.shutdown_timeout → Waiting e
  unfolding acts acted seen
  disconnected_idle h =
      let k = le-ltb e.clocks.shutdown_timeout now h in
      quiet_done e room Wait refl refl refl e (record { setup = refl; count = refl }) (rw k) (rw k) (rw k) (rw k)

  pub disconnected_over : e.clocks.shutdown_timeout < now
      → Waiting (remade e e.pending e.acked e.history (in_phase Shutdown e.sync) e.nonces e.clocks e.flags e.quality e.statuses e.checksums e.events e.queued)
  unfolding acts acted seen
  disconnected_over h =
      let k = lt-ltb e.clocks.shutdown_timeout now h in
      quiet_done e room Wait refl refl refl _ (record { setup = refl; count = refl }) (rw k) (rw k) (rw k) (rw k)

-- ---- act

idle_acts : (p : Phase) (now epoch nonce : ℕ) (statuses : List ConnectionStatus) (s : Seen) → OneOf (0 ∷ 4 ∷ []) (tag_of the_type p)
    → ((acts p now epoch nonce statuses s).store_full ≡ false) × ((acts p now epoch nonce statuses s).effect ≡ begin s)
unfolding acts acted
idle_acts Initializing now epoch nonce statuses s h = (refl, refl)
idle_acts Synchronizing now epoch nonce statuses s h = absurd (none_of (0 ∷ 4 ∷ []) 1 tt h)
idle_acts Running now epoch nonce statuses s h = absurd (none_of (0 ∷ 4 ∷ []) 2 tt h)
idle_acts Disconnected now epoch nonce statuses s h = absurd (none_of (0 ∷ 4 ∷ []) 3 tt h)
idle_acts Shutdown now epoch nonce statuses s h = (refl, refl)

module _ (e : Endpoint) (buffer : List ℕ) (statuses : Statuses) (now epoch nonce : ℕ) where
  abbrev Acts : Ended → List ℕ → Type 0
  Acts = DidAs e (step (Call.act statuses.count (held_statuses statuses) now epoch nonce (length buffer)) (seen e)) buffer

  pub act_clocks : bad_clocks now epoch ≡ true → Acts (record { answer = Err BadClock; endpoint = e }) buffer
  unfolding step act_step tested
  act_clocks h = refused_did e (Err BadClock) _ (rw h) buffer

  module _ (good : bad_clocks now epoch ≡ false) where
    pub act_count : (statuses.count ≡ e.setup.num_players → ⊥) → Acts (record { answer = Err BadLength; endpoint = e }) buffer
    unfolding step act_step tested seen terms_with
    act_count h = refused_did e (Err BadLength) _ (rw (good, ne_eqb statuses.count e.setup.num_players h)) buffer

    module _ (all : statuses.count ≡ e.setup.num_players) where
      abbrev Then : Phase → Did
      Then p = reacted (length buffer) (seen e) (acts p now epoch nonce (held_statuses statuses) (seen e))

      reacts : (p : Phase) → e.sync.phase ≡ p → step (Call.act statuses.count (held_statuses statuses) now epoch nonce (length buffer)) (seen e) ≡ Then p
      unfolding step act_step reacted tested acts seen terms_with
      reacts p h = (rw (good, eq-eqb statuses.count e.setup.num_players all)) ∙ ap Then h

      pub act_synchronizing : e.sync.phase ≡ Synchronizing → (r : Ended) (buffer' : List ℕ) → DidAs e (reacted (length buffer) (seen e) (acts Synchronizing now 0 nonce [] (seen e))) buffer r buffer' → Acts r buffer'
      unfolding acts acted
      act_synchronizing p r buffer' h = rw (reacts Synchronizing p) h

      pub act_running : e.sync.phase ≡ Running → (r : Ended) (buffer' : List ℕ) → DidAs e (reacted (length buffer) (seen e) (acts Running now epoch 0 (held_statuses statuses) (seen e))) buffer r buffer' → Acts r buffer'
      unfolding acts acted
      act_running p r buffer' h = rw (reacts Running p) h

      pub act_disconnected : e.sync.phase ≡ Disconnected → (r : Ended) → DoneAs e (reacted 0 (seen e) (acts Disconnected now 0 0 [] (seen e))) r → Acts r buffer
      unfolding acts acted
      act_disconnected p r h = rw (reacts Disconnected p) (unqueued e (acts Disconnected now 0 0 [] (seen e)) (over (ltb (seen e).clocks.shutdown_timeout now)) buffer r h)
        where
          over : (b : Bool) → (pick b (change (with_phase Shutdown) (begin (seen e))) (begin (seen e))).out ≡ []
          over true = refl
          over false = refl

      pub act_idle : has_room (held_events e.events) 0 ≡ true → OneOf (0 ∷ 4 ∷ []) (tag_of the_type e.sync.phase) → Acts (record { answer = Ok tt; endpoint = e }) buffer
      unfolding acts seen
      act_idle room h =
          let r : Reaction = acts e.sync.phase now epoch nonce (held_statuses statuses) (seen e) in
          let x = idle_acts e.sync.phase now epoch nonce (held_statuses statuses) (seen e) h in
          rw (reacts e.sync.phase refl) (unqueued e r (rw x.1) buffer _ (quiet_done e room r refl refl x.0 e (record { setup = refl; count = refl }) (rw x.1) (rw x.1) (rw x.1) (rw x.1)))

  pub act_settled : (r s : Ended) (b c : List ℕ) → Acts r b → Acts s c → (r.answer ≡ s.answer) × (seen r.endpoint ≡ seen s.endpoint) × SameTerms r.endpoint s.endpoint × (b ≡ c)
  act_settled = did_settled e (step (Call.act statuses.count (held_statuses statuses) now epoch nonce (length buffer)) (seen e)) buffer
