-- Laws of numbers written digit by digit: the split by the base, what is left without the last digit, long division, and a list that is written from its end.
use mathlib.Core.Path.{◌≡◌, sym, ◌∙◌, ap}
use mathlib.Core.Logic.{◌⊎◌, inl, inr, ⊎_elim}
use mathlib.Core.List.{List, ◌∷◌}
use Prim.Native.Nat.{ℕ, zero, suc, ◌+◌, ◌*◌, ◌/◌, ◌%◌, ◌^◌, ◌<◌, ◌≤◌}
use native.Mathlib.Omega.{arith}
use native.Mathlib.Nat.{pow-suc, div-lt_iff_lt-mul, div-add-mod, add-mul, mul_assoc, add_assoc, mul-add-div, mul-add-mod_self_left}
use native.Mathlib.Numerals.{add-one}
use lib.ListN.{length, take, drop, set}
use lib.Seq.{set_split, drop_at, length-take-le}

-- a number is below another or not
pub below_or_not : (a b : ℕ) → (a < b) ⊎ (b ≤ a)
below_or_not zero zero = inr (omega arith)
below_or_not zero (suc b) = inl (omega arith)
below_or_not (suc a) zero = inr (omega arith)
below_or_not (suc a) (suc b) = ⊎_elim (λ h. inl (omega arith)) (λ h. inr (omega arith)) (below_or_not a b)

-- a number of k + 1 digits has k without the last
pub div_below : (b k n : ℕ) → 0 < b → n < b ^ suc k → n / b < b ^ k
div_below b k n p h = (div-lt_iff_lt-mul {k = b} p).1 (rw pow-suc at h)

-- long division: what is left of the high part goes before the low one
module _ (d b h l : ℕ) (p : 0 < d) where
  parts : h * b + l ≡ d * (h / d * b) + (h % d * b + l)
  parts = ap (λ (n : ℕ). n * b + l) (sym (div-add-mod h d)) ∙ (rw (add-mul, mul_assoc d (h / d) b, add_assoc))

  pub long_div : (h * b + l) / d ≡ h / d * b + (h % d * b + l) / d
  long_div = ap (λ (n : ℕ). n / d) parts ∙ mul-add-div p (h / d * b) (h % d * b + l)

  pub long_mod : (h * b + l) % d ≡ (h % d * b + l) % d
  long_mod = ap (λ (n : ℕ). n % d) parts ∙ mul-add-mod_self_left d (h / d * b) (h % d * b + l)

module _ {X : Type 0} where
  -- one more in front of what a list holds from a place on
  pub drop-set : (l : List X) (i : ℕ) (x : X) → i < length l → drop i (set l i x) ≡ x ∷ drop (i + 1) l
  drop-set l i x h = rw (set_split l i x h, drop_at (take i l) (x ∷ drop (suc i) l) i (length-take-le i l (omega arith)), add-one)
