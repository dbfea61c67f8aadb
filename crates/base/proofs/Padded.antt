-- Laws of a list at a fixed length n, over n and the element type: its first n, and after them as many of one element as are missing.
use mathlib.Core.List.{List, [], ◌∷◌, ◌++◌, append_assoc}
use mathlib.Core.Path.{◌≡◌, sym, ◌∙◌, ap}
use Prim.Native.Nat.{ℕ, zero, suc, ◌+◌, ◌-◌, min}
use native.Mathlib.Omega.{arith}
use native.Mathlib.Nat.{zero-min, min-zero, suc-min-suc, sub-zero, zero-sub, suc-sub-suc}
use lib.ListN.{length, take, drop, replicate, length-replicate, replicate-append-replicate, length-take, length-append}
use Rattle.base.proofs.Arrays.{take_count, drop-replicate}

module _ {X : Type 0} where
  -- take and drop where two lists meet
  pub take_join : (n : ℕ) (a b : List X) → take n (a ++ b) ≡ take n a ++ take (n - length a) b
  take_join zero a b = rw zero-sub
  take_join (suc n) [] b = rw sub-zero
  take_join (suc n) (x ∷ a) b = rw suc-sub-suc (ap (λ (l : List X). x ∷ l) (take_join n a b))

  pub drop_join : (n : ℕ) (a b : List X) → drop n (a ++ b) ≡ drop n a ++ drop (n - length a) b
  drop_join zero a b = rw zero-sub
  drop_join (suc n) [] b = rw sub-zero
  drop_join (suc n) (x ∷ a) b = rw suc-sub-suc (drop_join n a b)

  pub take_alike : (k m : ℕ) (z : X) → take k (replicate m z) ≡ replicate (min k m) z
  take_alike zero m z = rw zero-min
  take_alike (suc k) zero z = rw min-zero
  take_alike (suc k) (suc m) z = rw suc-min-suc (ap (λ (l : List X). z ∷ l) (take_alike k m z))

  module _ (z : X) (n : ℕ) where
    abbrev pub pad_to : List X → List X
    pad_to l = take n l ++ replicate (n - length l) z

    pub pad_length : (l : List X) → length (pad_to l) ≡ n
    pad_length l =
        length-append (take n l) (replicate (n - length l) z) ∙ omega (arith, length-take n l, length-replicate (n - length l) z)

    -- what a loop leaves that lays a list over n alike, up to the shorter's end
    pub pad_over : (l out : List X) (i : ℕ) → i ≡ min n (length l) → out ≡ take i l ++ drop i (replicate n z) → out ≡ pad_to l
    pad_over l out i m e =
        let k : i ≡ length (take n l) = m ∙ sym (length-take n l) in
        let d : n - length l ≡ n - i = omega arith in
        rw (e, take_count n l, ← k, d, drop-replicate)

    -- more of the same after a list does not change it
    pub pad_more : (l : List X) (m : ℕ) → pad_to (l ++ replicate m z) ≡ pad_to l
    pad_more l m =
        let k : length (l ++ replicate m z) ≡ length l + m = length-append l (replicate m z) ∙ rw (length-replicate m z) in
        let e : min (n - length l) m + (n - (length l + m)) ≡ n - length l = omega arith in
        rw (take_join n l (replicate m z), take_alike (n - length l) m z, k, append_assoc, replicate-append-replicate, e)
