-- Laws of the bias over ℤ, for any bias h. Between the signed numbers from -h up to h - 1, those with `mag z < h`, and the numbers below h + h,
-- holding and reading undo each other and so are one to one; they keep the order; and sums and differences of what is held are those of what it stands for.
use borrow.Author.Tests.{lt-ltb, le-ltb}
use mathlib.Core.Path.{◌≡◌, refl, sym, ◌∙◌, ap}
use Prim.Native.Nat.{ℕ, zero, suc, ◌+◌, ◌-◌, ◌≤◌, ◌<◌}
use native.Mathlib.Decide.{dec_lt}
use native.Mathlib.Omega.{arith}
use native.Mathlib.Nat.{add-zero, sub-zero}
use lib.Dec.{ltb}
use lib.IntN.{ℤ, pos, negsuc, neg_ℤ, ◌+ℤ◌, ◌-ℤ◌, +ℤ_assoc, +ℤ_comm, +ℤ-neg_ℤ_cancel}
use lib.Signed.{mag, lt_z}
use Rattle.base.proofs.Orders.{same_test}
use Rattle.frame.specs.Bias.{bias32, null_frame, biased, signed}

-- both, by the sign
pub biased_neg : (h a : ℕ) → a < h → biased h (negsuc a) ≡ h - suc a
unfolding biased
biased_neg h a k = rw (le-ltb h (suc a))

signed_high : (h n : ℕ) → h ≤ n → signed h n ≡ pos (n - h)
unfolding signed
signed_high zero n k = rw (add-zero, sub-zero)
signed_high (suc h) n k = rw (le-ltb n (suc h))

signed_low : (h n : ℕ) → n < h → signed h n ≡ negsuc (h - suc n)
unfolding signed
signed_low zero n k = absurd (omega arith)
signed_low (suc h) n k = rw (lt-ltb n (suc h))

module _ (h : ℕ) where
  -- the sum that is held is not negative
  pub biased_sum : (z : ℤ) → mag z < h → z +ℤ pos h ≡ pos (biased h z)
  unfolding biased
  biased_sum (pos a) k = refl
  biased_sum (negsuc a) k = rw (le-ltb h (suc a))

  -- each stays within its range
  pub biased_below : (z : ℤ) → mag z < h → biased h z < h + h
  unfolding biased
  biased_below (pos a) k = omega arith
  biased_below (negsuc a) k = rw (biased_neg h a k) (omega arith)

  pub signed_within : (n : ℕ) → n < h + h → mag (signed h n) < h
  signed_within n k = elim (dec_lt n h) [
    | yes l ↦ rw (signed_low h n l) (omega arith)
    | no l ↦ let g : h ≤ n = omega arith in rw (signed_high h n g) (omega arith)
  ]

  -- each undoes the other
  pub signed-biased : (z : ℤ) → mag z < h → signed h (biased h z) ≡ z
  unfolding biased
  signed-biased (pos a) k = signed_high h (a + h) (omega arith) ∙ ap pos (omega arith)
  signed-biased (negsuc a) k = rw (biased_neg h a k) (signed_low h (h - suc a) (omega arith) ∙ ap negsuc (omega arith))

  pub biased-signed : (n : ℕ) → n < h + h → biased h (signed h n) ≡ n
  unfolding biased
  biased-signed n k = elim (dec_lt n h) [
    | yes l ↦ rw (signed_low h n l) (biased_neg h (h - suc n) (omega arith) ∙ omega arith)
    | no l ↦ let g : h ≤ n = omega arith in rw (signed_high h n g) (omega arith)
  ]

  -- one to one
  pub biased_one_to_one : (a b : ℤ) → mag a < h → mag b < h → biased h a ≡ biased h b → a ≡ b
  biased_one_to_one a b k l e = sym (signed-biased a k) ∙ ap (signed h) e ∙ signed-biased b l

  pub signed_one_to_one : (m n : ℕ) → m < h + h → n < h + h → signed h m ≡ signed h n → m ≡ n
  signed_one_to_one m n k l e = sym (biased-signed m k) ∙ ap (biased h) e ∙ biased-signed n l

  -- the order is the plain order
  pub biased_order : (a b : ℤ) → mag a < h → mag b < h → lt_z a b ≡ ltb (biased h a) (biased h b)
  unfolding biased
  biased_order (pos a) (pos b) k l = same_test a b (a + h) (b + h) (omega arith) (omega arith)
  biased_order (pos a) (negsuc b) k l = rw (biased_neg h b l) (sym (le-ltb (a + h) (h - suc b) (omega arith)))
  biased_order (negsuc a) (pos b) k l = rw (biased_neg h a k) (sym (lt-ltb (h - suc a) (b + h) (omega arith)))
  biased_order (negsuc a) (negsuc b) k l =
      rw (biased_neg h a k, biased_neg h b l) (same_test b a (h - suc a) (h - suc b) (omega arith) (omega arith))

  pub signed_order : (m n : ℕ) → m < h + h → n < h + h → ltb m n ≡ lt_z (signed h m) (signed h n)
  signed_order m n k l =
      rw (biased_order (signed h m) (signed h n) (signed_within m k) (signed_within n l), biased-signed m k, biased-signed n l)

  -- what is added to a number held, or taken from it, is so of what it stands for
  pub signed_add : (n k : ℕ) → signed h (n + k) ≡ signed h n +ℤ pos k
  unfolding signed
  signed_add n k =
      +ℤ_assoc (pos n) (pos k) (neg_ℤ (pos h)) ∙ rw (+ℤ_comm (pos k) (neg_ℤ (pos h))) (sym (+ℤ_assoc (pos n) (neg_ℤ (pos h)) (pos k)))

  pub signed_sub : (n k : ℕ) → k ≤ n → signed h (n - k) ≡ signed h n -ℤ pos k
  signed_sub n k l =
      let e : n - k + k ≡ n = omega arith in
      sym (rw e at (ap (λ (z : ℤ). z -ℤ pos k) (signed_add (n - k) k)) ∙ +ℤ-neg_ℤ_cancel (signed h (n - k)) (pos k))

-- -1 is no frame
pub null_frame_lem : biased bias32 (negsuc 0) ≡ null_frame
unfolding biased
null_frame_lem = refl
