-- The invariant: what is left, laid at the place reached, gives all laid at once.
use Rattle.std.proofs.Common.{◌≡◌, ◌+◌, ◌≤◌, length}
use Rattle.base.specs.Lay.{laid_at}
use Rattle.pending.specs.Pending.{waiting}
use Rattle.pending.proofs.PackAll.{left}
use Rattle.pending.proofs.Pending.pack_all.Given as goal

abbrev pub invariant-loop-x : goal.invariant-loop-x
invariant-loop-x l = record {
  room : l.place + length (left l.reference.bytes l.width l.x-index (waiting l.self)) ≤ length l.out;
  laid : laid_at l.out l.place (left l.reference.bytes l.width l.x-index (waiting l.self)) ≡ laid_at l.initial.out l.at (left l.reference.bytes l.width 0 (waiting l.self));
}
