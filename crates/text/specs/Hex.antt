-- Bytes as hexadecimal text, in ASCII, in lower case: two digits for each byte, that of its high half first.
use Rattle.std.specs.Prelude.{List, [], ◌∷◌, ◌≡◌, refl, ℕ, ◌+◌, ◌/◌, ◌%◌, ltb}
use Rattle.base.specs.Pick.{pick}

-- the digit of a number below 16: '0' is 48, 'a' is 97
unfoldable pub hex_digit : ℕ → ℕ
hex_digit n = pick (ltb n 10) (48 + n) (87 + n)

unfoldable pub hex_of : List ℕ → List ℕ
hex_of [] = []
hex_of (b ∷ bs) = hex_digit (b / 16) ∷ hex_digit (b % 16) ∷ hex_of bs

-- worked: "05ff"
hex_example : hex_of (5 ∷ 255 ∷ []) ≡ 48 ∷ 53 ∷ 102 ∷ 102 ∷ []
unfolding hex_of hex_digit
hex_example = refl
