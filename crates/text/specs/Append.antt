-- What a call leaves that appends a piece of text to a lent buffer.
use Rattle.std.specs.Prelude.{Bool, not, List, ◌≡◌, ℕ, length}
use Rattle.base.specs.Pick.{pick}
use Rattle.base.specs.Lay.{no_room, laid_at}

-- the answer is whether the piece fits; the buffer has it at the place, or is as it was
pub record AppendedAs (buffer : List ℕ) (at : ℕ) (piece : List ℕ) (ok : Bool) (after : List ℕ) : Type 0 where
  pub answer : ok ≡ not (no_room buffer at (length piece))
  pub lent : after ≡ pick (no_room buffer at (length piece)) buffer (laid_at buffer at piece)
