-- The invariant: those frames that are left refuse as all do.
use Rattle.std.proofs.Common.{◌≡◌, ◌+◌, ◌-◌}
use Rattle.spectator.specs.Stores.{inputs_of}
use Rattle.spectator_rules.specs.Advance.{frames_refusal_by}
use Rattle.spectator.proofs.inputs.Inputs.frames_refusal.Given as goal

abbrev pub invariant-loop-k : goal.invariant-loop-k
invariant-loop-k l =
    frames_refusal_by l.slots (l.n - l.k) (l.frame + l.k) (inputs_of l.self) ≡ frames_refusal_by l.slots l.n l.frame (inputs_of l.self)
