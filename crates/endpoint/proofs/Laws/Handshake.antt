-- The ways out of a request, when it fits beside what a call announces, and the ways out of `synchronize`.
use Rattle.std.specs.Prelude.{Ok, Err}
use mathlib.Core.Bool.{Bool, true, false}
use mathlib.Core.List.{List, [], ◌∷◌, append-nil}
use mathlib.Core.Path.{◌≡◌, refl, sym, ◌∙◌}
use native.Mathlib.Omega.{arith}
use Prim.Native.Nat.{ℕ}
use lib.ListN.{length}
use Rattle.base.specs.Lay.{no_room}
use Rattle.answer.specs.Number.{Answered}
use Rattle.answer.specs.declared.Refusal.TheVariants.{WrongState, Full, BadClock}
use Rattle.codec.specs.Message.{table_size}
use Rattle.setup.specs.Setup.{terms_with}
use Rattle.timers.specs.Timers.{bad_clock, bad_clocks}
use Rattle.quality.specs.declared.Quality.{Quality}
use Rattle.quality.specs.Quality.{started_at}
use Rattle.nonces.specs.declared.Nonces.{Nonces}
use Rattle.nonces.specs.Nonces.{outstanding, issued}
use Rattle.events.specs.Events.{held_events, has_room}
use Rattle.endpoint_rules.specs.declared.Phase.TheVariants.{Synchronizing}
use Rattle.endpoint_rules.specs.Seen.{is_initializing}
use Rattle.endpoint_rules.specs.Did.{Effect, begin, tested, queue_wire}
use Rattle.endpoint_rules.specs.Room.{is_full}
use Rattle.endpoint_rules.specs.Handshake.{nonce_issued, request, started, synchronized}
use Rattle.endpoint_rules.specs.Call.{Call}
use Rattle.endpoint_rules.specs.Step.{step, synchronize_step}
use Rattle.endpoint.specs.declared.Endpoint.{Endpoint}
use Rattle.endpoint.specs.declared.Ended.{Ended}
use Rattle.endpoint.specs.Endpoint.{seen, SameTerms, DidAs}
use Rattle.endpoint.specs.Inside.Handshake.{request_wire, RequestedAs}
use Rattle.endpoint.proofs.Laws.Ends.{remade, refused_did, queued_did}
use Rattle.endpoint.proofs.Laws.Settled.{did_settled}
use Rattle.endpoint.proofs.Laws.Room.{full_buffer, room_one}
use Rattle.answer.specs.declared.Refusal.{Refusal}

pub false_true : false ≡ true → ⊥
false_true n = let z : ◌≡◌ {A = ℕ} 0 1 = cc in absurd (omega arith)

-- two clocks that were tested
pub good_clocks : (now epoch : ℕ) (a b : Bool) → a ≡ bad_clock now → a ≡ false → b ≡ bad_clock epoch → b ≡ false → bad_clocks now epoch ≡ false
good_clocks now epoch a b ea h eb k = rw (sym ea ∙ h, sym eb ∙ k)

-- f: what a call does that queues a request and nothing else
module _ (buffer : List ℕ) (magic nonce : ℕ) (f : Effect) (o : f.out ≡ request_wire magic nonce ∷ []) where
  pub request_full : no_room buffer f.state.queued (table_size (request_wire magic nonce)) ≡ true → is_full (length buffer) f ≡ true
  request_full h = full_buffer buffer f _ (omega arith) o h

  pub request_fits : no_room buffer f.state.queued (table_size (request_wire magic nonce)) ≡ false → has_room f.state.events (length f.events) ≡ true → is_full (length buffer) f ≡ false
  request_fits h room = room_one buffer f _ (omega arith) o room h

module _ (e : Endpoint) (buffer : List ℕ) (now epoch nonce : ℕ) where
  abbrev Starts : Endpoint → Answered → List ℕ → Type 0
  Starts n a buffer' = DidAs e (step (Call.synchronize now epoch nonce (length buffer)) (seen e)) buffer (record { answer = a; endpoint = n }) buffer'

  abbrev Starting : Effect
  Starting = synchronized now epoch nonce (begin (seen e))

  pub synchronize_clocks : bad_clocks now epoch ≡ true → Starts e (Err BadClock) buffer
  unfolding step synchronize_step tested
  synchronize_clocks h = refused_did e (Err BadClock) _ (rw h) buffer

  module _ (good : bad_clocks now epoch ≡ false) where
    pub synchronize_state : is_initializing e.sync.phase ≡ false → Starts e (Err WrongState) buffer
    unfolding step synchronize_step tested seen
    synchronize_state h = refused_did e (Err WrongState) _ (rw (good, h)) buffer

    -- n: the endpoint after the request, b': the buffer with it
    module _ (first : is_initializing e.sync.phase ≡ true) (n : Endpoint) (b' : List ℕ) where
      pub synchronize_full : (r : Refusal) → RequestedAs e now nonce buffer (Err r) n b' → Starts n (Err r) b'
      unfolding step synchronize_step synchronized started request nonce_issued queue_wire tested seen terms_with
      synchronize_full r h =
          let x = h.1 in
          rw (h.0, x.1, x.2) (refused_did e (Err Full) _ (rw (good, first, request_full buffer e.setup.magic nonce Starting refl x.0)) buffer)

      pub synchronize_done : RequestedAs e now nonce buffer (Ok tt) n b' → has_room (held_events e.events) 0 ≡ true
          → (v : Nonces) → outstanding v ≡ issued nonce (outstanding n.nonces) → (q : Quality) → q ≡ started_at epoch n.quality
          → Starts (remade n n.pending n.acked n.history (record { phase = Synchronizing; remaining = 5; remote_magic = n.sync.remote_magic }) v n.clocks n.flags q n.statuses n.checksums n.events n.queued) (Ok tt) b'
      unfolding step synchronize_step synchronized started request nonce_issued queue_wire tested seen terms_with
      synchronize_done h room =
          rw h.0 (λ v ev q eq.
          queued_did e _ (record { setup = refl; count = refl }) Starting _
          (rw (good, first, request_fits buffer e.setup.magic nonce Starting refl h.1.room room))
          _ refl buffer b' n.queued h.1 refl (rw (ev, eq, append-nil)))

  pub synchronize_settled : (r s : Ended) (b c : List ℕ) → DidAs e (step (Call.synchronize now epoch nonce (length buffer)) (seen e)) buffer r b
      → DidAs e (step (Call.synchronize now epoch nonce (length buffer)) (seen e)) buffer s c
      → (r.answer ≡ s.answer) × (seen r.endpoint ≡ seen s.endpoint) × SameTerms r.endpoint s.endpoint × (b ≡ c)
  synchronize_settled = did_settled e (step (Call.synchronize now epoch nonce (length buffer)) (seen e)) buffer
