-- What `line` answers: Full (5) where the text does not fit, and then nothing is written; else the place after it.
use Rattle.std.specs.Prelude.{◌≡◌, List, ℕ, ◌+◌, length, Result, Ok, Err}
use Rattle.base.specs.Pick.{pick}
use Rattle.base.specs.Lay.{no_room, laid_at}
use Rattle.answer.specs.declared.Refusal.{Refusal}
use Rattle.answer.specs.declared.Refusal.TheVariants.{Full}

pub record LineAs (buffer : List ℕ) (at : ℕ) (text : List ℕ) (r : Result ℕ Refusal) (buffer' : List ℕ) : Type 0 where
  pub answer : r ≡ pick (no_room buffer at (length text)) (Err Full) (Ok (at + length text))
  pub lent : buffer' ≡ pick (no_room buffer at (length text)) buffer (laid_at buffer at text)
