-- Laws of hexadecimal text, for those who keep its definitions shut: two digits a byte, pieces join, and other bytes have other text.
use borrow.Author.Tests.{lt-ltb, le-ltb}
use mathlib.Core.Path.{◌≡◌, refl, ◌∙◌, ap}
use mathlib.Core.Logic.{⊎_elim}
use mathlib.Core.List.{List, [], ◌∷◌, ◌++◌}
use Prim.Native.Nat.{ℕ, zero, suc, ◌+◌, ◌*◌, ◌/◌, ◌%◌, ◌<◌, ◌≤◌}
use native.Mathlib.Omega.{arith}
use native.Mathlib.Numerals.{add-one}
use lib.ListN.{length, get_or, take, set}
use lib.Seq.{take-suc, sets-eq, length-take-le}
use Rattle.std.specs.Prelude.{slice_index}
use Rattle.hex.specs.Hex.{encode_with, encode_lower, lower_digits}
use Rattle.base.specs.Lay.{laid_at}
use Rattle.base.specs.Little.{Bytes}
use Rattle.base.proofs.Lay.{laid_length, laid_join}
use Rattle.base.proofs.Digits.{below_or_not}
use Rattle.text.specs.Hex.{hex_digit, hex_of}

pub hex_length : (bs : List ℕ) → length (hex_of bs) ≡ 2 * length bs
unfolding hex_of
hex_length [] = refl
hex_length (b ∷ bs) = omega (arith, hex_length bs)

pub hex_append : (xs ys : List ℕ) → hex_of (xs ++ ys) ≡ hex_of xs ++ hex_of ys
unfolding hex_of
hex_append [] ys = refl
hex_append (x ∷ xs) ys = rw (hex_append xs ys)

-- other halves have other digits, so other bytes have other text
pub hex_digit_low : (n : ℕ) → n < 10 → hex_digit n ≡ 48 + n
unfolding hex_digit
hex_digit_low n h = rw (lt-ltb n 10 h)

pub hex_digit_high : (n : ℕ) → 10 ≤ n → hex_digit n ≡ 87 + n
unfolding hex_digit
hex_digit_high n h = rw (le-ltb n 10 h)

hex_digit_one_to_one : (a b : ℕ) → hex_digit a ≡ hex_digit b → a < 16 → b < 16 → a ≡ b
hex_digit_one_to_one a b e ha hb =
    ⊎_elim
    (λ la. ⊎_elim (λ lb. omega (arith, hex_digit_low a la, hex_digit_low b lb)) (λ gb. omega (arith, hex_digit_low a la, hex_digit_high b gb)) (below_or_not b 10))
    (λ ga. ⊎_elim (λ lb. omega (arith, hex_digit_high a ga, hex_digit_low b lb)) (λ gb. omega (arith, hex_digit_high a ga, hex_digit_high b gb)) (below_or_not b 10))
    (below_or_not a 10)

pub hex_one_to_one : (xs ys : List ℕ) → Bytes xs → Bytes ys → hex_of xs ≡ hex_of ys → xs ≡ ys
unfolding hex_of
hex_one_to_one [] [] hx hy e = refl
hex_one_to_one [] (y ∷ ys) hx hy e = absurd (omega (arith, ap length e))
hex_one_to_one (x ∷ xs) [] hx hy e = absurd (omega (arith, ap length e))
hex_one_to_one (x ∷ xs) (y ∷ ys) hx hy e =
    let bx : x < 256 = hx 0 in
    let by : y < 256 = hy 0 in
    let high : x / 16 ≡ y / 16 = hex_digit_one_to_one (x / 16) (y / 16) (cc) (omega arith) (omega arith) in
    let low : x % 16 ≡ y % 16 = hex_digit_one_to_one (x % 16) (y % 16) (cc) (omega arith) (omega arith) in
    let same : x ≡ y = omega arith in
    rw (same, hex_one_to_one xs ys (λ i. hx (suc i)) (λ i. hy (suc i)) (cc))

-- crate hex's text of bytes is this text
glyph : (n : ℕ) → n < 16 → slice_index lower_digits n ≡ hex_digit n
unfolding hex_digit
glyph zero h = refl
glyph (suc zero) h = refl
glyph (suc (suc zero)) h = refl
glyph (suc (suc (suc zero))) h = refl
glyph (suc (suc (suc (suc zero)))) h = refl
glyph (suc (suc (suc (suc (suc zero))))) h = refl
glyph (suc (suc (suc (suc (suc (suc zero)))))) h = refl
glyph (suc (suc (suc (suc (suc (suc (suc zero))))))) h = refl
glyph (suc (suc (suc (suc (suc (suc (suc (suc zero)))))))) h = refl
glyph (suc (suc (suc (suc (suc (suc (suc (suc (suc zero))))))))) h = refl
glyph (suc (suc (suc (suc (suc (suc (suc (suc (suc (suc zero)))))))))) h = refl
glyph (suc (suc (suc (suc (suc (suc (suc (suc (suc (suc (suc zero))))))))))) h = refl
glyph (suc (suc (suc (suc (suc (suc (suc (suc (suc (suc (suc (suc zero)))))))))))) h = refl
glyph (suc (suc (suc (suc (suc (suc (suc (suc (suc (suc (suc (suc (suc zero))))))))))))) h = refl
glyph (suc (suc (suc (suc (suc (suc (suc (suc (suc (suc (suc (suc (suc (suc zero)))))))))))))) h = refl
glyph (suc (suc (suc (suc (suc (suc (suc (suc (suc (suc (suc (suc (suc (suc (suc zero))))))))))))))) h = refl
glyph (suc (suc (suc (suc (suc (suc (suc (suc (suc (suc (suc (suc (suc (suc (suc (suc n)))))))))))))))) h = absurd (omega arith)

pub encoded : (bs : List ℕ) → Bytes bs → encode_lower bs ≡ hex_of bs
unfolding hex_of encode_with
encoded [] small = refl
encoded (b ∷ bs) small =
    let byte : b < 256 = small 0 in
    rw (glyph (b / 16) (omega arith), glyph (b % 16) (omega arith), encoded bs (λ i. small (suc i)))

-- two bytes stored one after the other are two bytes laid
laid_two : (l : List ℕ) (p a b : ℕ) → p + 2 ≤ length l → set (set l p a) (p + 1) b ≡ laid_at l p (a ∷ b ∷ [])
unfolding laid_at
laid_two l p a b h = rw add-one (sets-eq (a ∷ b ∷ []) l p h)

-- a turn of the loop that lays the digits of one byte after another
module _ (buffer : List ℕ) (at : ℕ) (bytes : List ℕ) (fits : at + 2 * length bytes ≤ length buffer) (i : ℕ) where
  done-length : i ≤ length bytes → length (hex_of (take i bytes)) ≡ 2 * i
  done-length h = hex_length (take i bytes) ∙ rw (length-take-le i bytes h)

  pub hex_kept : i ≤ length bytes → length (laid_at buffer at (hex_of (take i bytes))) ≡ length buffer
  hex_kept h = laid_length buffer at (hex_of (take i bytes)) (omega (arith, done-length h))

  pub hex_turn : (out : List ℕ) (place a b : ℕ) → i < length bytes → place ≡ at + 2 * i → out ≡ laid_at buffer at (hex_of (take i bytes))
      → a ≡ hex_digit (get_or bytes i 0 / 16) → b ≡ hex_digit (get_or bytes i 0 % 16)
      → set (set out place a) (place + 1) b ≡ laid_at buffer at (hex_of (take (i + 1) bytes))
  unfolding hex_of
  hex_turn out place a b h p e ea eb =
      let n : length (hex_of (take i bytes)) ≡ 2 * i = done-length (omega arith) in
      let kept : length out ≡ length buffer = rw e (hex_kept (omega arith)) in
      laid_two out place a b (omega arith)
      ∙ (rw (ea, eb, e, p, ← n))
      ∙ laid_join buffer at (hex_of (take i bytes)) (hex_of (get_or bytes i 0 ∷ [])) (omega arith)
      ∙ (rw (add-one, take-suc bytes i 0 h, hex_append (take i bytes) (get_or bytes i 0 ∷ [])))
