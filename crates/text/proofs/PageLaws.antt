-- A piece that `append` laid, or refused, is one more on the page.
use borrow.Author.Tests.{not-true, not-false, ltb-false}
use mathlib.Core.Path.{◌≡◌, sym, ◌∙◌}
use mathlib.Core.Bool.{Bool, true, false}
use mathlib.Core.List.{List}
use Prim.Native.Nat.{ℕ, ◌+◌, ◌≤◌}
use lib.ListN.{length}
use Rattle.base.specs.Lay.{no_room}
use Rattle.text.specs.Append.{AppendedAs}
use Rattle.text.specs.Page.{page, written}

module _ (buffer : List ℕ) (at : ℕ) (piece : List ℕ) (ok : Bool) (after : List ℕ) (a : AppendedAs buffer at piece ok after) where
  pub room : ok ≡ true → no_room buffer at (length piece) ≡ false
  room h = not-true (no_room buffer at (length piece)) (sym a.answer ∙ h)

  pub fits : ok ≡ true → at + length piece ≤ length buffer
  fits h = ltb-false (length buffer) (at + length piece) (room h)

  pub laid_page : ok ≡ true → page after (at + length piece) ≡ written piece (page buffer at)
  unfolding written
  laid_page h = rw (a.lent, room h)

  pub same_page : ok ≡ false → page after at ≡ written piece (page buffer at)
  unfolding written
  same_page h = let full = not-false (no_room buffer at (length piece)) (sym a.answer ∙ h) in rw (a.lent, full)
