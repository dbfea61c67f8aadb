-- Bytes at the fixed length in which an input is kept.
use Rattle.std.specs.Prelude.{List, [], ◌∷◌, ◌++◌, ◌≡◌, refl, ℕ, ◌-◌, length, take, replicate}
use Rattle.ceilings.specs.Ceilings.{most_width}

unfoldable pub zeros : List ℕ
zeros = replicate most_width 0

-- 64 bytes: those that there are, zeros after them
unfoldable pub padded : List ℕ → List ℕ
padded bytes = take most_width bytes ++ replicate (most_width - length bytes) 0

-- worked: two bytes, then zeros
padded_example : take 4 (padded (7 ∷ 8 ∷ [])) ≡ 7 ∷ 8 ∷ 0 ∷ 0 ∷ []
unfolding padded
padded_example = refl
