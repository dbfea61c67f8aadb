-- A lent buffer that takes bytes at a place.
use Rattle.std.specs.Prelude.{Bool, List, [], ◌∷◌, ◌++◌, ◌≡◌, refl, ℕ, ◌+◌, ltb, length, take, drop}

-- n bytes from a place on do not fit a buffer
abbrev pub no_room : List ℕ → ℕ → ℕ → Bool
no_room buffer at n = ltb (length buffer) (at + n)

-- the buffer with bytes at a place, all else as it was
unfoldable pub laid_at : List ℕ → ℕ → List ℕ → List ℕ
laid_at buffer at bytes = take at buffer ++ bytes ++ drop (at + length bytes) buffer

-- worked: two bytes laid at place 1
laid_example : laid_at (1 ∷ 2 ∷ 3 ∷ 4 ∷ []) 1 (8 ∷ 9 ∷ []) ≡ 1 ∷ 8 ∷ 9 ∷ 4 ∷ []
unfolding laid_at
laid_example = refl
