-- Answers one after the other, from `new` on, each of which some contract of a call allows, whatever `Did` it is of: so of every run of calls, done or refused, and of more.
use Rattle.std.specs.Prelude.{List, ℕ}
use Rattle.setup.specs.declared.Setup.{Setup}
use Rattle.endpoint_rules.specs.Did.{Did}
use Rattle.endpoint.specs.declared.Endpoint.{Endpoint}
use Rattle.endpoint.specs.declared.Ended.{Ended}
use Rattle.endpoint.specs.declared.taking.TakenEvents.{TakenEvents}
use Rattle.endpoint.specs.declared.taking.TakenMessages.{TakenMessages}
use Rattle.endpoint.specs.Endpoint.{DidAs, DoneAs}
use Rattle.endpoint.specs.Made.{MadeAs}
use Rattle.endpoint.specs.Taken.{TakenAs, TakenIntoAs}

-- g: the setup that `new` was given; the endpoint that the last call gave back
pub data Run (g : Setup) : Endpoint → Type 0 where
  made : (now : ℕ) (r : Ended) → MadeAs g now r → Run g r.endpoint
  did : {e : Endpoint} → Run g e → (d : Did) (buffer : List ℕ) (r : Ended) (buffer' : List ℕ) → DidAs e d buffer r buffer' → Run g r.endpoint
  done : {e : Endpoint} → Run g e → (d : Did) (r : Ended) → DoneAs e d r → Run g r.endpoint
  taken : {e : Endpoint} → Run g e → (r : TakenEvents) → TakenAs e r → Run g r.endpoint
  taken_into : {e : Endpoint} → Run g e → (queue into : List ℕ) (r : TakenMessages) (into' : List ℕ) → TakenIntoAs e queue into r into' → Run g r.endpoint
