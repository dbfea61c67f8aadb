-- `hex` lays two digits a turn. The invariant: the digits of the bytes so far are laid, and `place` is where the next go.
use Rattle.std.proofs.Common.{take, ◌≡◌, ◌+◌, ◌*◌}
use Rattle.base.specs.Lay.{laid_at}
use Rattle.text.specs.Hex.{hex_of}
use Rattle.text.proofs.hexadecimal.hex.Given as goal

abbrev pub invariant-loop-b : goal.invariant-loop-b
invariant-loop-b l = (l.place ≡ l.at + 2 * l.b-index) × (l.out ≡ laid_at l.initial.out l.at (hex_of (take l.b-index l.bytes)))
