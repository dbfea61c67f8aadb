-- The ways out of a SyncReply: one that does not count, one of the first that count, the last.
use Rattle.std.specs.Prelude.{Ok, Err}
use borrow.Author.Tests.{lt-ltb, le-ltb}
use mathlib.Core.Bool.{Bool, true, false, ◌&&◌}
use mathlib.Core.List.{List, [], ◌∷◌}
use mathlib.Core.Path.{◌≡◌, refl, ap}
use Prim.Native.Nat.{ℕ, ◌-◌, ◌<◌, ◌≤◌}
use lib.Dec.{ltb}
use lib.ListN.{length}
use Rattle.answer.specs.Number.{Answered}
use Rattle.answer.specs.declared.Refusal.TheVariants.{Full}
use Rattle.setup.specs.Setup.{terms_with}
use Rattle.timers.specs.declared.Clocks.{Clocks}
use Rattle.timers.specs.Timers.{heard_at}
use Rattle.nonces.specs.declared.Nonces.{Nonces}
use Rattle.nonces.specs.Nonces.{outstanding, is_outstanding, spent, issued}
use Rattle.events.specs.declared.Events.{Events}
use Rattle.events.specs.declared.Event.TheVariants as Event
use Rattle.events.specs.Events.{held_events, has_room, without_input, PushedAs}
use Rattle.endpoint_rules.specs.declared.Phase.TheVariants.{Synchronizing, Running}
use Rattle.endpoint_rules.specs.Seen.{is_synchronizing, is_running, heard_at as heard_seen}
use Rattle.endpoint_rules.specs.Did.{tested, begin, queue_wire}
use Rattle.endpoint_rules.specs.Handshake.{Reaction, plainly, nonce_issued, request, counted, running, replied, on_sync_reply}
use Rattle.endpoint_rules.specs.Step.{heard, reacted}
use Rattle.endpoint_rules.proofs.Laws.{heard_quiet, by_hearing}
use Rattle.endpoint.specs.declared.Endpoint.{Endpoint}
use Rattle.endpoint.specs.declared.Ended.{Ended}
use Rattle.endpoint.specs.Endpoint.{seen, DidAs, DoneAs}
use Rattle.endpoint.specs.Inside.Handshake.{RequestedAs}
use Rattle.endpoint.proofs.Laws.Ends.{remade, refused_did, refused-done, queued_did, done-done}
use Rattle.endpoint.proofs.Laws.Room.{full_events, room_none, reacted_full, reacted-done}
use Rattle.endpoint.proofs.Laws.Message.Hearing.{not_resumes}
use Rattle.endpoint.proofs.Laws.Message.Unqueued.{unqueued}
use Rattle.endpoint.proofs.Laws.Handshake.{request_full, request_fits}
use Rattle.answer.specs.declared.Refusal.{Refusal}

module _ (e : Endpoint) (now nonce magic reply : ℕ) where
  -- by whether more are to come
  abbrev pub Counting : Bool → Reaction
  Counting more = replied now nonce magic reply true more (begin (heard_seen now (seen e)))

  -- no room to announce it
  module _ (crowded : has_room (held_events e.events) 1 ≡ false) where
    pub early_unannounced : (buffer : List ℕ) → DidAs e (reacted (length buffer) (seen e) (Counting true)) buffer (record { answer = Err Full; endpoint = e }) buffer
    unfolding replied request counted nonce_issued queue_wire seen
    early_unannounced buffer = refused_did e (Err Full) _ (reacted_full (length buffer) (seen e) (Counting true) refl refl (full_events buffer (Counting true).effect crowded)) buffer

    pub last_unannounced : DoneAs e (reacted 0 (seen e) (Counting false)) (record { answer = Err Full; endpoint = e })
    unfolding replied counted running seen
    last_unannounced = refused-done e (Err Full) _ (reacted_full 0 (seen e) (Counting false) refl refl (full_events [] (Counting false).effect crowded))

  -- v: the nonces after it
  module _ (left : ℕ) (el : left ≡ e.sync.remaining - 1) where
    module _ (buffer : List ℕ) where
      abbrev Early : Endpoint → Answered → List ℕ → Type 0
      Early n a buffer' = DidAs e (reacted (length buffer) (seen e) (Counting true)) buffer (record { answer = a; endpoint = n }) buffer'

      -- n: the endpoint after the request
      module _ (n : Endpoint) (buffer' : List ℕ) where
        pub early_choked : (r : Refusal) → RequestedAs e now nonce buffer (Err r) n buffer' → Early n (Err r) buffer'
        unfolding reacted tested replied request counted nonce_issued queue_wire seen terms_with
        early_choked r h =
            let x = h.1 in
            rw (h.0, x.1, x.2) (refused_did e (Err Full) _ (rw (request_full buffer e.setup.magic nonce (Counting true).effect refl x.0)) buffer)

        pub early_done : RequestedAs e now nonce buffer (Ok tt) n buffer' → (v : Nonces) → outstanding v ≡ issued nonce (spent reply (outstanding e.nonces)) → (r : Answered) (t : Events) → has_room (held_events e.events) 1 ≡ true
            → PushedAs e.events (has_room (held_events e.events) 1) (without_input (Event.Synchronizing 5 (5 - left)) ∷ []) r t → (c : Clocks) → c ≡ heard_at now n.clocks
            → Early (remade n n.pending n.acked n.history (record { phase = n.sync.phase; remaining = left; remote_magic = n.sync.remote_magic }) v c n.flags n.quality n.statuses n.checksums t n.queued) (Ok tt) buffer'
        unfolding reacted tested replied request counted nonce_issued queue_wire seen terms_with
        early_done h v ev r t room ep =
            rw h.0 (λ c ec.
            queued_did e _ (record { setup = refl; count = refl }) (Counting true).effect _
            (rw (request_fits buffer e.setup.magic nonce (Counting true).effect refl h.1.room room))
            _ refl buffer buffer' n.queued h.1 refl
            (rw (ev, ec, rw room at ep.view, el)))

    abbrev Last : Endpoint → Type 0
    Last n = DoneAs e (reacted 0 (seen e) (Counting false)) (record { answer = Ok tt; endpoint = n })

    pub last_done : (v : Nonces) → outstanding v ≡ spent reply (outstanding e.nonces) → (d : Clocks) (r : Answered) (t : Events) → has_room (held_events e.events) 1 ≡ true → d ≡ heard_at now e.clocks
        → PushedAs e.events (has_room (held_events e.events) 1) (without_input Event.Synchronized ∷ []) r t
        → Last (remade e e.pending e.acked e.history (record { phase = Running; remaining = left; remote_magic = magic }) v d e.flags e.quality e.statuses e.checksums t e.queued)
    unfolding replied counted running seen
    last_done v ev d r t room ed ep =
        done-done e _ (record { setup = refl; count = refl }) (Counting false).effect _ (reacted-done 0 (seen e) (Counting false) refl refl refl (room_none [] (Counting false).effect refl room)) refl
        (rw (ev, el, ed, rw room at ep.view))

  -- which of them it is
  module _ (buffer : List ℕ) where
    abbrev Replies : Ended → List ℕ → Type 0
    Replies = DidAs e (reacted (length buffer) (seen e) (on_sync_reply now nonce magic reply (heard now (seen e)))) buffer

    module _ (x : Ended) (d : DoneAs e (reacted 0 (seen e) (plainly (heard now (seen e)))) x) where
      pub uncounted : is_synchronizing e.sync.phase && is_outstanding reply (outstanding e.nonces) ≡ false → Replies x buffer
      unfolding on_sync_reply replied seen
      uncounted h =
          rw (by_hearing now (seen e) (λ f. on_sync_reply now nonce magic reply f ≡ plainly f) (λ f t. rw h))
          (unqueued e (plainly (heard now (seen e))) (by_hearing now (seen e) (λ f. f.out ≡ []) (λ f t. refl)) buffer x d)

    module _ (phase : e.sync.phase ≡ Synchronizing) (found : is_outstanding reply (outstanding e.nonces) ≡ true) where
      counting : on_sync_reply now nonce magic reply (heard now (seen e)) ≡ Counting (ltb 1 e.sync.remaining)
      unfolding on_sync_reply seen
      counting = rw (heard_quiet now (seen e) (not_resumes e (ap is_running phase)), phase, found)

      pub reply_early : 1 < e.sync.remaining → (x : Ended) (buffer' : List ℕ) → DidAs e (reacted (length buffer) (seen e) (Counting true)) buffer x buffer' → Replies x buffer'
      reply_early h x buffer' d = rw (counting, lt-ltb 1 e.sync.remaining h) d

      pub reply_last : e.sync.remaining ≤ 1 → (x : Ended) → DoneAs e (reacted 0 (seen e) (Counting false)) x → Replies x buffer
      unfolding replied counted running
      reply_last h x d = rw (counting, le-ltb 1 e.sync.remaining h) (unqueued e (Counting false) refl buffer x d)
