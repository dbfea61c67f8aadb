-- The invariant: i of the bytes are in place.
use Rattle.std.proofs.Common.{◌≡◌, take}
use lib.Seq.{paste}
use Rattle.packing.specs.Packing.{xors}
use Rattle.packing.proofs.pack_frame.Given as goal

abbrev pub invariant-loop-i : goal.invariant-loop-i
invariant-loop-i l = l.out ≡ paste l.initial.out l.at (xors (take l.width l.frame) l.reference) l.i
