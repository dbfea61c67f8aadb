-- The ways out of `disconnect`.
use Rattle.std.specs.Prelude.{Ok, Err}
use borrow.Author.Tests.{leb-false}
use native.Mathlib.Omega.{arith}
use mathlib.Core.Bool.{true, false}
use mathlib.Core.Path.{◌≡◌, refl}
use Prim.Native.Nat.{ℕ, ◌+◌, ◌^◌, ◌<◌}
use Rattle.timers.specs.Timers.{bad_clock, shutdown_at}
use Rattle.answer.specs.declared.Refusal.TheVariants.{BadClock}
use Rattle.timers.specs.declared.Clocks.{Clocks}
use Rattle.endpoint_rules.specs.declared.Phase.TheVariants.{Disconnected}
use Rattle.endpoint_rules.specs.Seen.{is_shutdown}
use Rattle.endpoint_rules.specs.Did.{refused, tested}
use Rattle.endpoint_rules.specs.Call.{Call}
use Rattle.endpoint_rules.specs.Step.{step, disconnect_step}
use Rattle.endpoint.specs.declared.Endpoint.{Endpoint}
use Rattle.endpoint.specs.declared.Ended.{Ended}
use Rattle.endpoint.specs.Endpoint.{seen, SameTerms, DoneAs}
use Rattle.endpoint.proofs.Laws.Settled.{done_settled}
use Rattle.endpoint.proofs.Laws.Ends.{in_phase, remade, refused-done}

pub low : (now : ℕ) → bad_clock now ≡ false → now < 2 ^ 62
low now h = omega (arith, leb-false (2 ^ 62) now h)

module _ (e : Endpoint) (now : ℕ) where
  pub disconnect_clock : bad_clock now ≡ true → DoneAs e (step (Call.disconnect now) (seen e)) (record { answer = Err BadClock; endpoint = e })
  unfolding step disconnect_step tested
  disconnect_clock h = refused-done e (Err BadClock) (disconnect_step now (seen e)) (rw h)

  module _ (good : bad_clock now ≡ false) where
    pub disconnect_ignored : is_shutdown e.sync.phase ≡ true → DoneAs e (step (Call.disconnect now) (seen e)) (record { answer = Ok tt; endpoint = e })
    unfolding step disconnect_step tested refused seen
    disconnect_ignored h = refused-done e (Ok tt) (disconnect_step now (seen e)) (rw (good, h))

    -- c: what the code sets
    pub disconnect_done : (c : Clocks) → is_shutdown e.sync.phase ≡ false → c ≡ shutdown_at (now + 5000) e.clocks
        → DoneAs e (step (Call.disconnect now) (seen e)) (record { answer = Ok tt; endpoint = remade e e.pending e.acked e.history (in_phase Disconnected e.sync) e.nonces c e.flags e.quality e.statuses e.checksums e.events e.queued })
    unfolding step disconnect_step tested seen
    disconnect_done c h ec = rw (good, h, ec) (record { answer = refl; after = refl; terms = record { setup = refl; count = refl }; same = λ n. absurd (n refl) })

pub disconnect_settled : (e : Endpoint) (now : ℕ) (r s : Ended) → DoneAs e (step (Call.disconnect now) (seen e)) r → DoneAs e (step (Call.disconnect now) (seen e)) s
    → (r.answer ≡ s.answer) × (seen r.endpoint ≡ seen s.endpoint) × SameTerms r.endpoint s.endpoint
disconnect_settled e now = done_settled e (step (Call.disconnect now) (seen e))
