-- Laws of a store that is an array and a count, over the element type: its view is the first `used` of the array's list.
use mathlib.Core.Path.{◌≡◌, refl, sym, ◌∙◌, ap}
use mathlib.Core.List.{List, [], ◌∷◌, ◌++◌, map}
use Prim.Native.Nat.{ℕ, zero, suc, ◌+◌, ◌-◌, ◌<◌, ◌≤◌}
use native.Mathlib.Omega.{arith}
use native.Mathlib.Nat.{sub-zero, zero-sub, suc-sub-suc, add_comm}
use native.Mathlib.Numerals.{add-one}
use lib.ListN.{replicate, length, length-map, length-take, length-drop, take, drop, set, get_or}
use lib.Seq.{take-suc-set, take-suc, get_or-drop, take-nil, drop-cons, set_at, length-take-le, append_snoc, get_or-take}

pub unmap : {X Y : Type 0} (f : X → Y) (l : List X) (n : ℕ) → length (map f l) ≡ n → length l ≡ n
unmap f l n p = sym (length-map l f) ∙ p

module _ {X : Type 0} where
  -- one more at the end of the first `used` of l, at the count n that they have
  pub store_end : (l : List X) (used n : ℕ) (x : X) → n ≡ length (take used l) → n < length l
      → take (n + 1) (set l n x) ≡ take used l ++ x ∷ []
  store_end l used n x e h =
      let u : used ≡ n = omega (arith, length-take used l) in
      rw (add-one, take-suc-set, u)

  -- a count beyond the list is the list's length
  pub take_count : (u : ℕ) (l : List X) → take u l ≡ take (length (take u l)) l
  take_count zero l = refl
  take_count (suc u) [] = refl
  take_count (suc u) (x ∷ xs) = ap (λ (r : List X). x ∷ r) (take_count u xs)

  pub drop-take : (k n : ℕ) (l : List X) → drop k (take n l) ≡ take (n - k) (drop k l)
  drop-take zero n l = rw sub-zero
  drop-take (suc k) zero l = rw zero-sub
  drop-take (suc k) (suc n) [] = sym (take-nil (suc n - suc k))
  drop-take (suc k) (suc n) (x ∷ xs) = rw suc-sub-suc (drop-take k n xs)

  -- a turn of the loop that moves what stands from k on to the front
  pub shift_turn : (l L : List X) (k i : ℕ) (d : X) → i < length l → i + k < length L
      → take i l ≡ take i (drop k L) → take (i + 1) (set l i (get_or L (i + k) d)) ≡ take (i + 1) (drop k L)
  shift_turn l L k i d h b e =
      let w : i < length (drop k L) = omega (arith, length-drop k L) in
      rw (add-one, take-suc-set, take-suc (drop k L) i d, get_or-drop, add_comm i k, e)

  -- what the loop leaves is the view without its first k
  pub shifted : (l L : List X) (u n k : ℕ) → n ≡ length (take u L) → take (n - k) l ≡ take (n - k) (drop k L)
      → take (n - k) l ≡ drop k (take u L)
  shifted l L u n k c e = e ∙ rw (take_count u L, ← c, drop-take)

  -- a turn of the loop that lays s over d from the front
  pub lay_turn : (s d : List X) (i : ℕ) (z : X) → i < length s → i < length d
      → set (take i s ++ drop i d) i (get_or s i z) ≡ take (i + 1) s ++ drop (i + 1) d
  lay_turn s d i z hs hd =
      rw (drop-cons d i z hd, set_at (take i s) (get_or d i z) (drop (suc i) d) (get_or s i z) i (length-take-le i s (omega arith)), add-one i, take-suc s i z hs, append_snoc)

  pub drop-replicate : (i n : ℕ) (a : X) → drop i (replicate n a) ≡ replicate (n - i) a
  drop-replicate zero n a = rw sub-zero
  drop-replicate (suc i) zero a = rw zero-sub
  drop-replicate (suc i) (suc n) a = rw suc-sub-suc (drop-replicate i n a)

  -- what is read of the array below the count is of the view; the view is no longer than the array
  pub view_at : (u : ℕ) (l : List X) (k : ℕ) (d : X) → k < length (take u l) → get_or (take u l) k d ≡ get_or l k d
  view_at u l k d h = get_or-take u l k d (omega (arith, length-take u l))

  pub view_le : (u : ℕ) (l : List X) → length (take u l) ≤ length l
  view_le u l = simp length-take (omega arith)

  -- a turn of any loop that writes a list C from the front
  pub copy_turn : (l C : List X) (i : ℕ) (x d : X) → i < length l → i < length C → take i l ≡ take i C → x ≡ get_or C i d
      → take (i + 1) (set l i x) ≡ take (i + 1) C
  copy_turn l C i x d h k e q = rw (add-one, take-suc-set, take-suc C i d k, e, q)
