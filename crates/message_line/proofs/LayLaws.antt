-- A line that does not fit leaves the buffer; one that fits is its head and its payload's digits, one after the other.
use borrow.Author.Tests.{lt-ltb, le-ltb, ltb-false}
use mathlib.Core.Path.{◌≡◌, refl, sym, ◌∙◌, ap}
use mathlib.Core.Bool.{Bool, true, false}
use mathlib.Core.List.{List, [], ◌∷◌, ◌++◌}
use Prim.Native.Nat.{ℕ, ◌+◌, ◌*◌, ◌<◌, ◌≤◌}
use native.Mathlib.Omega.{arith}
use lib.ListN.{length, length-append}
use Rattle.std.specs.Prelude.{Result, Ok, Err}
use Rattle.std.specs.Result.{result_unwrap_or}
use Rattle.base.specs.Pick.{pick}
use Rattle.base.specs.Lay.{no_room, laid_at}
use Rattle.base.proofs.Lay.{laid_length, laid_join}
use Rattle.answer.specs.declared.Refusal.{Refusal}
use Rattle.answer.specs.declared.Refusal.TheVariants.{Full}
use Rattle.text.specs.Append.{AppendedAs}
use Rattle.text.specs.Hex.{hex_of}
use Rattle.text.specs.Page.{Page, page, written, written_all}
use Rattle.text.proofs.HexLaws.{hex_length}
use Rattle.message_line.specs.Calls.{LineAs}

module _ (buffer : List ℕ) (at : ℕ) (head payload : List ℕ) where
  line_length : length (head ++ hex_of payload) ≡ length head + 2 * length payload
  line_length = rw (length-append, hex_length)

  pub no_room_lem : length buffer < at + (length head + 2 * length payload) → LineAs buffer at (head ++ hex_of payload) (Err Full) buffer
  no_room_lem h =
      let t = lt-ltb (length buffer) (at + length (head ++ hex_of payload)) (rw line_length h) in
      record { answer = rw t; lent = rw t }

  pub both_laid : (ok ok' : Bool) (b b' : List ℕ) → AppendedAs buffer at head ok b → AppendedAs b (at + length head) (hex_of payload) ok' b'
      → at + (length head + 2 * length payload) ≤ length buffer
      → LineAs buffer at (head ++ hex_of payload) (Ok (at + length head + 2 * length payload)) b'
  both_laid ok ok' b b' p q h =
      let t = le-ltb (length buffer) (at + length (head ++ hex_of payload)) (rw line_length h) in
      let front : b ≡ laid_at buffer at head = p.lent ∙ rw (le-ltb (length buffer) (at + length head) (omega arith)) in
      let same : length b ≡ length buffer = rw front (laid_length buffer at head (omega arith)) in
      let rest : b' ≡ laid_at b (at + length head) (hex_of payload)
      = q.lent ∙ rw (le-ltb (length b) (at + length head + length (hex_of payload)) (rw (same, hex_length) (omega arith))) in
      let end : at + length head + 2 * length payload ≡ at + length (head ++ hex_of payload) = rw line_length (omega arith) in
      record { answer = rw (t, end); lent = rw t (rest ∙ rw front (laid_join buffer at head (hex_of payload) (rw hex_length (omega arith)))) }

-- a refusal is no place
abbrev is_one : Result ℕ Refusal → ℕ
is_one (Ok n) = 1
is_one (Err e) = 0

module _ {buffer text buffer' : List ℕ} {at : ℕ} {r : Result ℕ Refusal} (a : LineAs buffer at text r buffer') where
  -- a line ends inside the buffer
  pub line_inside : (end : ℕ) → r ≡ Ok end → end ≤ length buffer'
  line_inside end e = inside (no_room buffer at (length text)) refl (sym a.answer ∙ e) a.lent
    where
      inside : (t : Bool) → no_room buffer at (length text) ≡ t → pick t (Err Full) (Ok (at + length text)) ≡ Ok end
          → buffer' ≡ pick t buffer (laid_at buffer at text) → end ≤ length buffer'
      inside true t w l = absurd (omega (arith, ap (λ (x : Result ℕ Refusal). is_one x) w))
      inside false t w l = let fits = ltb-false (length buffer) (at + length text) t in rw (l, laid_length buffer at text fits) (omega (arith, fits, ap (λ (x : Result ℕ Refusal). result_unwrap_or x 0) w))

  -- and is one more piece on the page
  pub line_page : page buffer' (result_unwrap_or r at) ≡ written text (page buffer at)
  unfolding written
  line_page =
      rw (a.answer, a.lent)
      (elim (no_room buffer at (length text)) as (λ t. page (pick t buffer (laid_at buffer at text)) (result_unwrap_or (pick t (Err Full) (Ok (at + length text))) at) ≡ pick t (page buffer at) (page (laid_at buffer at text) (at + length text)))
      [ true ↦ refl | false ↦ refl ])

pub same_line : (buffer : List ℕ) (at : ℕ) (line text : List ℕ) (r : Result ℕ Refusal) (buffer' : List ℕ) → line ≡ text → LineAs buffer at line r buffer' → LineAs buffer at text r buffer'
same_line buffer at line text r buffer' e a = rw e at a

pub three_pieces : (a b c : List ℕ) (p q r s : Page) → q ≡ written a p → r ≡ written b q → s ≡ written c r → s ≡ written_all (a ∷ b ∷ c ∷ []) p
unfolding written_all
three_pieces a b c p q r s e f g = g ∙ rw (f, e)
