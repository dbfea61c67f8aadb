-- Laws of order: two tests that agree, the maximum, places below a bound, and what a run of steps leaves behind where their order and repeats do not matter.
use borrow.Author.Tests.{lt-ltb, le-ltb}
use mathlib.Core.Path.{◌≡◌, refl, sym, ◌∙◌, ap}
use mathlib.Core.List.{List, [], ◌∷◌, foldl, Memᴰ}
use Prim.Native.Nat.{ℕ, zero, suc, ◌≤◌, ◌<◌, max}
use native.Mathlib.Decide.{dec_lt}
use native.Mathlib.Omega.{arith}
use native.Mathlib.Nat.{not-suc-le-zero, le_of_suc-le-suc}
use lib.Dec.{ltb}
use lib.ListN.{length, get_or, take, replicate}

-- two tests give the same if each answer of the one gives that of the other
pub same_test : (a b c d : ℕ) → (a < b → c < d) → (b ≤ a → d ≤ c) → ltb a b ≡ ltb c d
same_test a b c d f g = elim (dec_lt a b) [
  | yes h ↦ lt-ltb a b h ∙ sym (lt-ltb c d (f h))
  | no h ↦ le-ltb a b (omega arith) ∙ sym (le-ltb c d (g (omega arith)))
]

pub max_self : (a : ℕ) → max a a ≡ a
max_self a = omega arith

pub max_assoc : (a b c : ℕ) → max (max a b) c ≡ max a (max b c)
max_assoc a b c = omega arith

-- what is read within a list does not go by what stands for a missing element
pub get_or_within : {X : Type 0} (l : List X) (i : ℕ) (d e : X) → i < length l → get_or l i d ≡ get_or l i e
get_or_within [] i d e h = absurd (not-suc-le-zero h)
get_or_within (x ∷ l) zero d e h = refl
get_or_within (x ∷ l) (suc i) d e h = get_or_within l i d e (le_of_suc-le-suc h)

-- the first k of n alike
pub take-replicate : {X : Type 0} (k n : ℕ) (x : X) → k ≤ n → take k (replicate n x) ≡ replicate k x
take-replicate zero n x h = refl
take-replicate (suc k) zero x h = absurd (not-suc-le-zero h)
take-replicate {X} (suc k) (suc n) x h = ap (λ (l : List X). x ∷ l) (take-replicate k n x (le_of_suc-le-suc h))

-- each member of xs is one of ys
abbrev pub Among : {R : Type 0} → List R → List R → Type 0
Among {R} xs ys = (r : R) → Memᴰ r xs → Memᴰ r ys

-- Steps of which two may change places and a repeat changes nothing: runs over lists of the same members, in any order and number, end alike.
module _ {S R : Type 0} (step : S → R → S) (swap : (s : S) (a b : R) → step (step s a) b ≡ step (step s b) a)
    (again : (s : S) (a : R) → step (step s a) a ≡ step s a) where
  -- a step that is taken in a run may be taken before it too, or be put off until after it
  early : (xs : List R) (s : S) (r : R) → Memᴰ r xs → foldl step (step s r) xs ≡ foldl step s xs
  early [] s r x' = elim x' [ ]
  early (x ∷ xs) s r (Memᴰ.head e) = rw (e, again)
  early (x ∷ xs) s r (Memᴰ.tail m) = rw (swap s r x) (early xs (step s x) r m)

  late : (xs : List R) (s : S) (r : R) → foldl step (step s r) xs ≡ step (foldl step s xs) r
  late [] s r = refl
  late (x ∷ xs) s r = rw (swap s r x) (late xs (step s x) r)

  -- and so may a whole run of such steps
  all_early : (ys xs : List R) (s : S) → Among ys xs → foldl step (foldl step s ys) xs ≡ foldl step s xs
  all_early [] xs s w = refl
  all_early (y ∷ ys) xs s w =
      all_early ys xs (step s y) (λ r m. w r (Memᴰ.tail m)) ∙ early xs s y (w y (Memᴰ.head refl))

  all_late : (ys xs : List R) (s : S) → foldl step (foldl step s ys) xs ≡ foldl step (foldl step s xs) ys
  all_late [] xs s = refl
  all_late (y ∷ ys) xs s = all_late ys xs (step s y) ∙ ap (λ (t : S). foldl step t ys) (late xs s y)

  pub same_runs : (xs ys : List R) (s : S) → Among xs ys → Among ys xs → foldl step s xs ≡ foldl step s ys
  same_runs xs ys s v w = sym (all_early ys xs s w) ∙ all_late ys xs s ∙ all_early xs ys s v
