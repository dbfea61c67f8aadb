-- Elements distinguished by a key, a number: whether one is held, the one that is, the list without it, the list with one put in, and what it is for no key to stand twice.
use Rattle.std.specs.Prelude.{Bool, true, false, not, List, [], ◌∷◌, ◌≡◌, refl, ℕ, zero, suc, eqb}
use Rattle.base.specs.Pick.{pick}

module _ {X : Type 0} where
  -- those that pass a test, in their order
  unfoldable pub kept : (X → Bool) → List X → List X
  kept p [] = []
  kept p (x ∷ xs) = pick (p x) (x ∷ kept p xs) (kept p xs)

  -- one of key k is held
  unfoldable pub has : (X → ℕ) → ℕ → List X → Bool
  has key k [] = false
  has key k (x ∷ xs) = pick (eqb k (key x)) true (has key k xs)

  -- the first of key k, or d
  unfoldable pub first_with : (X → ℕ) → ℕ → X → List X → X
  first_with key k d [] = d
  first_with key k d (x ∷ xs) = pick (eqb k (key x)) x (first_with key k d xs)

  -- the place of the first of key k, or the length
  unfoldable pub place : (X → ℕ) → ℕ → List X → ℕ
  place key k [] = zero
  place key k (x ∷ xs) = pick (eqb k (key x)) zero (suc (place key k xs))

  -- all but those of key k
  unfoldable pub without : (X → ℕ) → ℕ → List X → List X
  without key k l = kept (λ x. not (eqb k (key x))) l

  -- y at the place of the first of its key, or at the end
  unfoldable pub put : (X → ℕ) → X → List X → List X
  put key y [] = y ∷ []
  put key y (x ∷ xs) = pick (eqb (key y) (key x)) (y ∷ xs) (x ∷ put key y xs)

  -- no key stands twice
  unfoldable pub Distinct : (X → ℕ) → List X → Type 0
  Distinct key [] = Unit {0}
  Distinct key (x ∷ xs) = (has key (key x) xs ≡ false) × Distinct key xs

-- worked, with pairs of a key and a value
without_example : without (λ (x : ℕ × ℕ). x.0) 2 ((1, 5) ∷ (2, 6) ∷ (3, 7) ∷ []) ≡ (1, 5) ∷ (3, 7) ∷ []
unfolding without kept
without_example = refl

put_example : put (λ (x : ℕ × ℕ). x.0) (2, 9) ((1, 5) ∷ (2, 6) ∷ (3, 7) ∷ []) ≡ (1, 5) ∷ (2, 9) ∷ (3, 7) ∷ []
unfolding put
put_example = refl
