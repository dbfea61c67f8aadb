-- The lines laid so far and those that are left are all lines: a turn of the loop, and its end.
use mathlib.Core.Path.{◌≡◌, refl}
use mathlib.Core.List.{List, [], ◌∷◌}
use Prim.Native.Nat.{ℕ, ◌+◌, ◌<◌, ◌≤◌}
use native.Mathlib.Omega.{arith}
use native.Mathlib.Numerals.{add-one}
use lib.ListN.{length, drop, get_or, drop_of_length-le}
use lib.Seq.{drop-cons}
use Rattle.text.specs.Ascii.{ascii}
use Rattle.text.specs.Page.{Page, written, written_all}
use Rattle.events.specs.declared.Entry.{Entry}
use Rattle.event_line.specs.Lines.{entry_line, under, each_of, lines_of}

module _ (name size : ℕ) (l : List Entry) where
  pub turn : (i : ℕ) (d : Entry) (p q : Page) → i < length l → q ≡ written (under name (entry_line size (get_or l i d))) p
      → written_all (each_of name size (drop (i + 1) l)) q ≡ written_all (each_of name size (drop i l)) p
  unfolding each_of written_all
  turn i d p q h e = rw (drop-cons l i d h, add-one, e)

  pub all_laid : (i : ℕ) (p : Page) → length l ≤ i → written_all (each_of name size (drop i l)) p ≡ p
  unfolding each_of written_all
  all_laid i p h = rw (drop_of_length-le l {i = i} h)

-- where there is no event, and where there is one
pub none_lines : (name size : ℕ) (l : List Entry) (p q : Page) → length l ≡ 0 → q ≡ written (under name (ascii "no event")) p → q ≡ written_all (lines_of name size l) p
unfolding lines_of written_all
none_lines name size [] p q h e = e
none_lines name size (x ∷ xs) p q h e = absurd (omega arith)

pub some_lines : (name size : ℕ) (l : List Entry) → (length l ≡ 0 → ⊥) → each_of name size l ≡ lines_of name size l
unfolding lines_of
some_lines name size [] h = absurd (h refl)
some_lines name size (x ∷ xs) h = refl
