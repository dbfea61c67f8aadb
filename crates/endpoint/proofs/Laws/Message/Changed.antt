-- The ways out of a message that changes the state beside being heard, and queues nothing.
use Rattle.std.specs.Prelude.{Ok, Err}
use mathlib.Core.Bool.{true, false}
use mathlib.Core.List.{List, [], ◌++◌}
use mathlib.Core.Path.{◌≡◌, refl, sym, ◌∙◌}
use Prim.Native.Nat.{ℕ}
use Rattle.answer.specs.Number.{Answered}
use Rattle.answer.specs.declared.Refusal.TheVariants.{Full}
use Rattle.events.specs.declared.Entry.{Entry}
use Rattle.endpoint_rules.specs.declared.Flags.{Flags}
use Rattle.endpoint_rules.specs.Seen.{Seen, with_flags, with_events, heard_at}
use Rattle.endpoint_rules.specs.Did.{Effect, change}
use Rattle.endpoint_rules.specs.Handshake.{plainly}
use Rattle.endpoint_rules.specs.Step.{heard, reacted}
use Rattle.endpoint_rules.proofs.Laws.{hearing, by_hearing}
use Rattle.endpoint.specs.declared.Endpoint.{Endpoint}
use Rattle.endpoint.specs.Endpoint.{seen, SameTerms, DoneAs}
use Rattle.endpoint.proofs.Laws.Message.Hearing.{Ears, HeardAs}
use Rattle.endpoint.proofs.Laws.Ends.{refused-done, done-done}
use Rattle.endpoint.proofs.Laws.Room.{full_events, room_none, reacted_full, reacted-done}

-- g: what it changes, which are not the events
module _ (e : Endpoint) (now : ℕ) (x : Ears) (g : Seen → Seen) (keeps : (s : Seen) → (g s).events ≡ s.events) where
  abbrev Changes : Endpoint → Answered → Effect → Type 0
  Changes n a h = HeardAs e h x → DoneAs e (reacted 0 (seen e) (plainly (change g h))) (record { answer = a; endpoint = n })

  abbrev Changing : Flags → List Entry → Effect
  Changing f t = change g (hearing now (seen e) f t)

  abbrev Before : Flags → Seen
  Before f = with_flags f (heard_at now (seen e))

  pub changes_full : x.ok ≡ false → Changes e (Err Full) (heard now (seen e))
  unfolding seen
  changes_full k = by_hearing now (seen e) (Changes e (Err Full)) (λ f t ex.
      refused-done e (Err Full) _ (reacted_full 0 (seen e) _ refl refl (full_events [] (Changing f t) (rw (keeps (Before f)) (sym ex.ok ∙ k)))))

  pub changes_done : (n : Endpoint) → SameTerms e n → x.ok ≡ true
      → ((f : Flags) (t : List Entry) → HeardAs e (hearing now (seen e) f t) x → seen n ≡ with_events ((g (Before f)).events ++ t) (g (Before f)))
      → Changes n (Ok tt) (heard now (seen e))
  unfolding seen
  changes_done n terms k after = by_hearing now (seen e) (Changes n (Ok tt)) (λ f t ex.
      done-done e n terms (Changing f t) _ (reacted-done 0 (seen e) _ refl refl refl (room_none [] (Changing f t) refl (rw (keeps (Before f)) (sym ex.ok ∙ k)))) refl (after f t ex))
