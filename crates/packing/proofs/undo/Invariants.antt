-- The invariant: the first i bytes are undone, and zeros are after them.
use Rattle.std.proofs.Common.{◌≡◌, ◌++◌, take, drop}
use Rattle.packing.specs.Packing.{xors}
use Rattle.packing.specs.Pad.{zeros}
use Rattle.packing.proofs.undo.Given as goal

abbrev pub invariant-loop-i : goal.invariant-loop-i
invariant-loop-i l = l.out ≡ take l.i (xors l.part l.reference) ++ drop l.i zeros
