-- Numbers held with a bias h, and what they stand for: another bias, differences, and the range that h leaves, the signed numbers z with `mag z < h`.
use mathlib.Core.Path.{◌≡◌, ◌∙◌, ap}
use Prim.Native.Nat.{ℕ, suc, ◌+◌, ◌-◌, ◌≤◌, ◌<◌}
use native.Mathlib.Decide.{dec_lt}
use native.Mathlib.Omega.{arith}
use lib.IntN.{ℤ, pos, negsuc, neg_ℤ, ◌+ℤ◌, ◌-ℤ◌, neg_ℤ-neg_ℤ, +ℤ_assoc, +ℤ_comm, +ℤ_invr, +ℤ_idl, neg_ℤ-+ℤ, -ℤ-+ℤ_cancel}
use lib.Signed.{mag}
use Rattle.frame.specs.Bias.{signed}
use Rattle.frame.proofs.Signed.{signed_add, signed_sub}

-- raised by as much as the bias, a number stands for the same
pub signed_raised : (h k n : ℕ) → signed (h + k) (n + k) ≡ signed h n
unfolding signed
signed_raised h k n =
    signed_add (h + k) n k ∙ rw (neg_ℤ-+ℤ (pos h) (pos k), ← +ℤ_assoc (pos n) (neg_ℤ (pos h)) (neg_ℤ (pos k))) (-ℤ-+ℤ_cancel (pos n -ℤ pos h) (pos k))

less_less : (x y z : ℤ) → x +ℤ y -ℤ z ≡ x -ℤ (z -ℤ y)
less_less x y z = rw (neg_ℤ-+ℤ z (neg_ℤ y), neg_ℤ-neg_ℤ y, +ℤ_assoc x y (neg_ℤ z), +ℤ_comm y (neg_ℤ z))

module _ (h : ℕ) where
  -- a difference of two held numbers
  pub signed_difference : (a b : ℕ) → b ≤ a + h → signed h (a + h - b) ≡ signed h a -ℤ signed h b
  unfolding signed
  signed_difference a b k = signed_sub h (a + h) b k ∙ rw (signed_add h a h) (less_less (signed h a) (pos h) (pos b))

  signed_over : (j : ℕ) → signed h (h + j) ≡ pos j
  unfolding signed
  signed_over j = signed_add h h j ∙ rw (+ℤ_invr (pos h)) (+ℤ_idl (pos j))

  signed-under : (a j : ℕ) → signed h a -ℤ signed h (a + suc j) ≡ negsuc j
  signed-under a j =
      rw (signed_add h a (suc j), neg_ℤ-+ℤ (signed h a) (pos (suc j)), ← +ℤ_assoc (signed h a) (neg_ℤ (signed h a)) (negsuc j), +ℤ_invr (signed h a))
      (+ℤ_idl (negsuc j))

  -- within the range, a number is held below twice the bias
  pub below_if_within : (n : ℕ) → mag (signed h n) < h → n < h + h
  below_if_within n k = elim (dec_lt n (h + h)) [
    | yes l ↦ l
    | no l ↦ let e : h + (n - h) ≡ n = omega arith in absurd (omega (arith, ap mag (rw e at (signed_over (n - h)))))
  ]

  -- and a difference leaves a number to hold
  pub difference_if_within : (a b : ℕ) → mag (signed h a -ℤ signed h b) < h → (b ≤ a + h) × (a + h - b < h + h)
  difference_if_within a b k = elim (dec_lt (a + h) b) [
    | yes l ↦ let e : a + suc (b - suc a) ≡ b = omega arith in absurd (omega (arith, ap mag (rw e at (signed-under a (b - suc a)))))
    | no l ↦ let m : b ≤ a + h = omega arith in (m, below_if_within (a + h - b) (rw (signed_difference a b m) k))
  ]
