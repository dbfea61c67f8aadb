-- What `new` refuses, and that what it makes is the session of its setup.
use mathlib.Core.Bool.{Bool, true, false, ◌||◌}
use mathlib.Core.List.{[], ◌∷◌}
use mathlib.Core.Path.{◌≡◌, refl, sym, ◌∙◌}
use Prim.Native.Nat.{ℕ, min}
use lib.Dec.{eqb}
use lib.ListN.{length-replicate}
use Rattle.base.specs.Pick.{pick}
use Rattle.base.specs.First.{first_of}
use Rattle.frame.specs.Bias.{null_frame}
use Rattle.answer.specs.Number.{Answered, number_of}
use Rattle.status.specs.declared.list.Statuses.{Statuses}
use Rattle.status.specs.Statuses.{HeldAs, default_statuses}
use Rattle.setup.specs.Setup.{bad_setup}
use Rattle.timers.specs.Timers.{bad_clock}
use Rattle.endpoint_rules.specs.Step.{fresh as host_fresh}
use Rattle.endpoint.specs.declared.Ended.{Ended as HostEnded}
use Rattle.endpoint.specs.Made.{MadeAs as HostMadeAs}
use Rattle.spectator_rules.specs.declared.SessionSetup.{SessionSetup}
use Rattle.spectator_rules.specs.declared.SessionState.TheVariants.{Synchronizing}
use Rattle.spectator_rules.specs.Setup.{host_setup, bad_limits, bad_session}
use Rattle.spectator_rules.specs.Inputs.{fresh_inputs}
use Rattle.spectator_rules.specs.Watch.{made_watch}
use Rattle.spectator_rules.specs.Step.{fresh}
use Rattle.spectator.specs.declared.inputs.Inputs.{Inputs}
use Rattle.spectator.specs.declared.session_events.SessionEvents.{SessionEvents}
use Rattle.spectator.specs.Stores.{InputsAs, EventsAs}
use Rattle.spectator.specs.Session.{seen}
use Rattle.spectator.specs.Answers.{MadeAs}
use Rattle.spectator.proofs.Laws.Counts.{own_count}

-- the host's refusals, and then the limits'
in_order : (clock host limits : Bool) → pick (eqb (first_of ((clock, 8) ∷ (host, 1) ∷ [])) 0) (pick limits 1 0) (first_of ((clock, 8) ∷ (host, 1) ∷ [])) ≡ first_of ((clock, 8) ∷ (host || limits, 1) ∷ [])
in_order true host limits = refl
in_order false true limits = refl
in_order false false limits = refl

module _ (g : SessionSetup) (now : ℕ) where
  pub makes : (e : HostEnded) → HostMadeAs (host_setup g) now e
      → (a : Answered) → number_of a ≡ pick (eqb (number_of e.answer) 0) (pick (bad_limits g.limits) 1 0) (number_of e.answer)
      → (inputs : Inputs) → InputsAs (fresh_inputs g.limits.slots) inputs
      → (statuses : Statuses) → HeldAs (default_statuses g.num_players) (min g.num_players 4) statuses
      → (events : SessionEvents) → EventsAs [] events
      → MadeAs g now (record {
        answer = a;
        session = record { host = e.endpoint; limits = g.limits; state = Synchronizing; inputs = inputs; statuses = statuses; events = events; current_frame = null_frame; last_recv_frame = null_frame };
      })
  unfolding fresh host_fresh host_setup seen made_watch bad_session default_statuses
  makes e he a ha inputs hi statuses hs events hv =
      record {
        answer = ha ∙ rw he.answer (in_order (bad_clock now) (bad_setup (host_setup g)) (bad_limits g.limits));
        made = rw (he.made, hi.0, hs.0, hv.0);
        host_handles = he.handles;
        host_statuses = he.count;
        counted = record { inputs = own_count hi; statuses = hs.1 ∙ sym (rw (hs.0, length-replicate)); events = own_count hv };
      }
