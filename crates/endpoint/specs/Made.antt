-- What `new` answers: its number, and the endpoint in any case. The counts of its handles and of its statuses are determined too: a refusal (1, 3) reads such a
-- count as it is.
use Rattle.std.specs.Prelude.{◌≡◌, ℕ, min}
use Rattle.ceilings.specs.Ceilings.{most_players}
use Rattle.answer.specs.Number.{number_of}
use Rattle.setup.specs.declared.Setup.{Setup}
use Rattle.endpoint_rules.specs.Step.{fresh}
use Rattle.endpoint.specs.declared.Ended.{Ended}
use Rattle.endpoint.specs.Endpoint.{seen}

pub record MadeAs (g : Setup) (now : ℕ) (r : Ended) : Type 0 where
  pub answer : number_of r.answer ≡ (fresh g now).0
  pub made : seen r.endpoint ≡ (fresh g now).1
  pub handles : r.endpoint.setup.handles.count ≡ g.handles.count
  pub count : r.endpoint.statuses.count ≡ min g.num_players most_players
