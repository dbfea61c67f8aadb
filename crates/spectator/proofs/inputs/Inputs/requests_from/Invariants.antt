-- The invariant: the first k frames are there, each with its count.
use Rattle.std.proofs.Common.{◌≡◌, length}
use mathlib.Core.List.{map}
use Rattle.fixed_vec.specs.FixedVec.{held}
use Rattle.status.specs.Statuses.{held_statuses}
use Rattle.spectator.specs.declared.requests.Request.{Request}
use Rattle.spectator.specs.Stores.{inputs_of, request_of}
use Rattle.spectator_rules.specs.Advance.{requests_by}
use Rattle.spectator.proofs.inputs.Inputs.requests_from.Given as goal

abbrev pub invariant-loop-k : goal.invariant-loop-k
invariant-loop-k l =
    (map request_of (held l.requests.frames) ≡ requests_by l.slots l.k l.frame l.players (inputs_of l.self) (held_statuses l.statuses))
    × (map (λ (q : Request). q.inputs.count) (held l.requests.frames) ≡ map length (requests_by l.slots l.k l.frame l.players (inputs_of l.self) (held_statuses l.statuses)))
