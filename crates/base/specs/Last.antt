-- The last ones of a list: what stays in a store that drops its oldest.
use Rattle.std.specs.Prelude.{List, [], ◌∷◌, ◌≡◌, refl, ℕ, ◌-◌, length, drop}

-- the last n of some, in their order; all of them where there are no more
unfoldable pub last_of {ℓ} : {A : Type ℓ} → ℕ → List A → List A
last_of n l = drop (length l - n) l

-- worked: of three the last two; of two, both
last_example : last_of {A = ℕ} 2 (4 ∷ 7 ∷ 9 ∷ []) ≡ 7 ∷ 9 ∷ []
unfolding last_of
last_example = refl

both_example : last_of {A = ℕ} 3 (4 ∷ 7 ∷ []) ≡ 4 ∷ 7 ∷ []
unfolding last_of
both_example = refl
