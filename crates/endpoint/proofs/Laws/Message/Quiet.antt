-- The ways out of a message that is only heard.
use Rattle.std.specs.Prelude.{Ok, Err}
use mathlib.Core.Bool.{true, false}
use mathlib.Core.Path.{◌≡◌, refl}
use Prim.Native.Nat.{ℕ}
use Rattle.answer.specs.Number.{Answered}
use Rattle.answer.specs.declared.Refusal.TheVariants.{Full}
use Rattle.endpoint_rules.specs.Handshake.{plainly}
use Rattle.endpoint_rules.specs.Step.{heard, reacted}
use Rattle.endpoint.specs.declared.Endpoint.{Endpoint}
use Rattle.endpoint.specs.Endpoint.{seen, DoneAs}
use Rattle.endpoint.proofs.Laws.Message.Hearing.{Ears, HeardAs}
use Rattle.endpoint.proofs.Laws.Ends.{remade}
use Rattle.endpoint.proofs.Laws.Message.Changed.{changes_full, changes_done}

module _ (e : Endpoint) (now : ℕ) (x : Ears) where
  abbrev Only : Endpoint → Answered → Type 0
  Only n a = HeardAs e (heard now (seen e)) x → DoneAs e (reacted 0 (seen e) (plainly (heard now (seen e)))) (record { answer = a; endpoint = n })

  pub only_full : x.ok ≡ false → Only e (Err Full)
  only_full k = changes_full e now x (λ s. s) (λ s. refl) k

  pub only_heard : x.ok ≡ true
      → Only (remade e e.pending e.acked e.history e.sync e.nonces x.clocks x.flags e.quality e.statuses e.checksums x.events e.queued) (Ok tt)
  unfolding seen
  only_heard k = changes_done e now x (λ s. s) (λ s. refl) _ (record { setup = refl; count = refl }) k (λ f t h. rw (h.clocks, h.flags, h.events, k))
