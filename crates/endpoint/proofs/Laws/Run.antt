-- Over every run the setup is the one that `new` was given, its handles sorted, and the count of the statuses is the one that `new` made.
use mathlib.Core.Path.{◌≡◌, ◌∙◌, ap}
use Prim.Native.Nat.{ℕ, min}
use Rattle.ceilings.specs.Ceilings.{most_players}
use Rattle.setup.specs.declared.Setup.{Setup}
use Rattle.setup.specs.Setup.{SortedAs}
use Rattle.endpoint_rules.specs.Seen.{Seen, made}
use Rattle.endpoint_rules.specs.Step.{fresh}
use Rattle.endpoint.specs.declared.Endpoint.{Endpoint}
use Rattle.endpoint.specs.declared.Ended.{Ended}
use Rattle.endpoint.specs.Endpoint.{seen, SameTerms}
use Rattle.endpoint.specs.Made.{MadeAs}
use Rattle.endpoint.specs.Run.{Run}

abbrev Given : Setup → Endpoint → Type 0
Given g e = SortedAs g e.setup × (e.statuses.count ≡ min g.num_players most_players)

given_made : (g : Setup) (now : ℕ) (r : Ended) → MadeAs g now r → Given g r.endpoint
unfolding seen made fresh
given_made g now r h = ((ap (λ (s : Seen). s.setup) h.made, h.handles), h.count)

given_kept : (g : Setup) {e r : Endpoint} → SameTerms e r → Given g e → Given g r
given_kept g same h = (rw same.setup h.0, same.count ∙ h.1)

pub run_setup : (g : Setup) {e : Endpoint} → Run g e → SortedAs g e.setup × (e.statuses.count ≡ min g.num_players most_players)
run_setup g (Run.made now r h) = given_made g now r h
run_setup g (Run.did run d buffer r buffer' h) = given_kept g h.terms (run_setup g run)
run_setup g (Run.done run d r h) = given_kept g h.terms (run_setup g run)
run_setup g (Run.taken run r h) = given_kept g h.terms (run_setup g run)
run_setup g (Run.taken_into run queue into r into' h) = given_kept g h.taken.terms (run_setup g run)
