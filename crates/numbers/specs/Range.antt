-- A number and a range.
use Rattle.std.specs.Prelude.{Bool, true, false, ◌||◌, ◌≡◌, refl, ℕ, ltb}

abbrev pub outside : (least greatest n : ℕ) → Bool
outside least greatest n = ltb n least || ltb greatest n

-- worked: both ends of 1 to 4 lie inside, their neighbours do not
inside_example : (outside 1 4 1 ≡ false) × (outside 1 4 4 ≡ false)
inside_example = (refl, refl)

outside_example : (outside 1 4 0 ≡ true) × (outside 1 4 5 ≡ true)
outside_example = (refl, refl)
