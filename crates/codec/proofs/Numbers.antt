-- A number's bytes, low first, as the library has them and as the specs do: the number at a place, and the bytes to put.
use mathlib.Core.Path.{◌≡◌, sym, ◌∙◌}
use mathlib.Core.List.{List, [], ◌∷◌}
use Prim.Native.Nat.{ℕ, ◌+◌, ◌^◌, ◌<◌, ◌≤◌}
use native.Mathlib.Omega.{arith}
use lib.ListN.{length, take, drop, length-drop}
use lib.Seq.{length-take-le}
use Rattle.std.specs.Int.{w16, w32, w64, to_le_bytes, from_le_bytes}
use Rattle.std.proofs.lemmas.Nat.{le_bytes_2, le_bytes_4, le_bytes_8}
use Rattle.base.specs.Little.{le, unle}
use Rattle.base.proofs.Little.{le-length, unle-le}
use Rattle.codec.specs.Front.{number_at}
use Rattle.codec.proofs.Octets.{of_number}

unle_2 : (l : List ℕ) → length l ≡ 2 → from_le_bytes w16 l ≡ unle l
unfolding unle
unle_2 [] e = absurd (omega arith)
unle_2 (a ∷ []) e = absurd (omega arith)
unle_2 (a ∷ b ∷ []) e = omega arith
unle_2 (a ∷ b ∷ c ∷ l) e = absurd (omega arith)

unle_4 : (l : List ℕ) → length l ≡ 4 → from_le_bytes w32 l ≡ unle l
unfolding unle
unle_4 [] e = absurd (omega arith)
unle_4 (a ∷ []) e = absurd (omega arith)
unle_4 (a ∷ b ∷ []) e = absurd (omega arith)
unle_4 (a ∷ b ∷ c ∷ []) e = absurd (omega arith)
unle_4 (a ∷ b ∷ c ∷ d ∷ []) e = omega arith
unle_4 (a ∷ b ∷ c ∷ d ∷ f ∷ l) e = absurd (omega arith)

unle_8 : (l : List ℕ) → length l ≡ 8 → from_le_bytes w64 l ≡ unle l
unfolding unle
unle_8 [] e = absurd (omega arith)
unle_8 (a ∷ []) e = absurd (omega arith)
unle_8 (a ∷ b ∷ []) e = absurd (omega arith)
unle_8 (a ∷ b ∷ c ∷ []) e = absurd (omega arith)
unle_8 (a ∷ b ∷ c ∷ d ∷ []) e = absurd (omega arith)
unle_8 (a ∷ b ∷ c ∷ d ∷ f ∷ []) e = absurd (omega arith)
unle_8 (a ∷ b ∷ c ∷ d ∷ f ∷ g ∷ []) e = absurd (omega arith)
unle_8 (a ∷ b ∷ c ∷ d ∷ f ∷ g ∷ h ∷ []) e = absurd (omega arith)
unle_8 (a ∷ b ∷ c ∷ d ∷ f ∷ g ∷ h ∷ i ∷ []) e = omega arith
unle_8 (a ∷ b ∷ c ∷ d ∷ f ∷ g ∷ h ∷ i ∷ j ∷ l) e = absurd (omega arith)

module _ (d : List ℕ) (at : ℕ) where
  part : (k : ℕ) → at + k ≤ length d → length (take k (drop at d)) ≡ k
  part k h = length-take-le k (drop at d) (rw length-drop (omega arith))

  pub number_2 : at + 2 ≤ length d → from_le_bytes w16 (take 2 (drop at d)) ≡ number_at 2 at d
  unfolding number_at
  number_2 h = unle_2 (take 2 (drop at d)) (part 2 h)

  pub number_4 : at + 4 ≤ length d → from_le_bytes w32 (take 4 (drop at d)) ≡ number_at 4 at d
  unfolding number_at
  number_4 h = unle_4 (take 4 (drop at d)) (part 4 h)

  pub number_8 : at + 8 ≤ length d → from_le_bytes w64 (take 8 (drop at d)) ≡ number_at 8 at d
  unfolding number_at
  number_8 h = unle_8 (take 8 (drop at d)) (part 8 h)

module _ (n : ℕ) where
  pub to_le_2 : n < 2 ^ 16 → to_le_bytes w16 n ≡ le 2 n
  to_le_2 h = le_bytes_2 (le 2 n) n (le-length 2 n) (of_number 2 n) (sym (unle_2 (le 2 n) (le-length 2 n) ∙ unle-le 2 n (omega arith)))

  pub to_le_4 : n < 2 ^ 32 → to_le_bytes w32 n ≡ le 4 n
  to_le_4 h = le_bytes_4 (le 4 n) n (le-length 4 n) (of_number 4 n) (sym (unle_4 (le 4 n) (le-length 4 n) ∙ unle-le 4 n (omega arith)))

  pub to_le_8 : n < 2 ^ 64 → to_le_bytes w64 n ≡ le 8 n
  to_le_8 h = le_bytes_8 (le 8 n) n (le-length 8 n) (of_number 8 n) (sym (unle_8 (le 8 n) (le-length 8 n) ∙ unle-le 8 n (omega arith)))
