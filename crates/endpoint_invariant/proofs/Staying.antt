-- What no call changes: the setup, and the number of statuses. For every state, also one that no run leads to.
use mathlib.Core.List.{List, [], ◌∷◌}
use mathlib.Core.Path.{◌≡◌, refl, ◌∙◌}
use Prim.Native.Nat.{ℕ}
use lib.ListN.{length}
use Rattle.events.specs.declared.Entry.{Entry}
use Rattle.setup.specs.declared.Setup.{Setup}
use Rattle.setup.specs.Setup.{terms_with, sorted, handle_list}
use Rattle.endpoint_rules.specs.Seen.{Seen, made}
use Rattle.endpoint_rules.specs.Call.{Call}
use Rattle.endpoint_rules.specs.Step.{fresh, step}
use Rattle.endpoint_invariant.specs.Runs.{ran}
use Rattle.endpoint_invariant.proofs.Eaches.{each_all}
use Rattle.endpoint_invariant.proofs.Telling.{Tells, step_tells}

-- nothing is asked of the events
step_stays : (c : Call) (s : Seen) → Tells (λ (x : Entry). Unit {0}) s (step c s).after (step c s).events
step_stays c s =
    step_tells (λ (x : Entry). Unit {0}) s (record { synchronizing = λ _. tt; synchronized = tt; disconnected = tt; interrupted = tt; resumed = tt }) c
    (λ w typed disconnect start ack q from. each_all (λ (x : Entry). Unit {0}) (λ x. tt) _)

pub step_setup : (c : Call) (s : Seen) → (step c s).after.setup ≡ s.setup
step_setup c s = (step_stays c s).setup

pub step_players : (c : Call) (s : Seen) → length (step c s).after.statuses ≡ length s.statuses
step_players c s = (step_stays c s).players

pub run_setup : (cs : List Call) (s : Seen) → (ran cs s).setup ≡ s.setup
unfolding ran
run_setup [] s = refl
run_setup (c ∷ cs) s = run_setup cs (step c s).after ∙ step_setup c s

pub run_players : (cs : List Call) (s : Seen) → length (ran cs s).statuses ≡ length s.statuses
unfolding ran
run_players [] s = refl
run_players (c ∷ cs) s = run_players cs (step c s).after ∙ step_players c s

-- over every run the setup is the one that `new` was given, with its handles sorted
pub reached_setup : (g : Setup) (now : ℕ) (cs : List Call) → (ran cs (fresh g now).1).setup ≡ terms_with (sorted (handle_list g.handles)) g
unfolding fresh made
reached_setup g now cs = run_setup cs (fresh g now).1
