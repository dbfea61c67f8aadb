-- Numbers as decimal text, in ASCII, the high digit first; a minus sign in front of a number below 0.
use Rattle.std.specs.Prelude.{List, [], ◌∷◌, ◌++◌, ◌≡◌, refl, ℕ, zero, suc, ◌+◌, ◌-◌, ◌*◌, ◌/◌, ◌%◌, ◌^◌, ◌<◌, ◌≤◌, ltb, leb, length, get_or, drop}
use Rattle.base.specs.Pick.{pick}
use Rattle.text.specs.declared.number.Numeral.{Numeral}

-- the digits of n, at most k of them
unfoldable pub digits : ℕ → ℕ → List ℕ
digits zero n = []
digits (suc k) n = pick (ltb n 10) ((48 + n) ∷ []) (digits k (n / 10) ++ (48 + n % 10) ∷ [])

-- a number as text: 39 digits hold every number below 2 ^ 128
unfoldable pub decimal_of : ℕ → List ℕ
decimal_of n = digits 39 n

-- the text of the number n - bias, which is below 0 where bias is above n
unfoldable pub signed_of : ℕ → ℕ → List ℕ
signed_of bias n = pick (leb bias n) (decimal_of (n - bias)) (45 ∷ decimal_of (bias - n))

-- the number that digits are, with those of m in front of them
unfoldable pub value_from : ℕ → List ℕ → ℕ
value_from m [] = m
value_from m (d ∷ ds) = value_from (m * 10 + (d - 48)) ds

unfoldable pub decimal_value : List ℕ → ℕ
decimal_value ds = value_from 0 ds

-- every element is a digit
abbrev pub AllDigits : List ℕ → Type 0
AllDigits l = (i : ℕ) → i < length l → (48 ≤ get_or l i 0) × (get_or l i 0 ≤ 57)

-- the text that a numeral holds: its bytes from `start` on
unfoldable pub text_of : Numeral → List ℕ
text_of r = drop r.start r.bytes

-- worked: "0"; "4660"; 2 ^ 64 is "18446744073709551616"; 2 ^ 128 - 1 is "340282366920938463463374607431768211455"; 2 ^ 31 - 1 with the bias 2 ^ 31 is "-1"
zero_example : decimal_of 0 ≡ 48 ∷ []
unfolding decimal_of digits
zero_example = refl

decimal_example : decimal_of 4660 ≡ 52 ∷ 54 ∷ 54 ∷ 48 ∷ []
unfolding decimal_of digits
decimal_example = refl

word_example : decimal_of (2 ^ 64) ≡ 49 ∷ 56 ∷ 52 ∷ 52 ∷ 54 ∷ 55 ∷ 52 ∷ 52 ∷ 48 ∷ 55 ∷ 51 ∷ 55 ∷ 48 ∷ 57 ∷ 53 ∷ 53 ∷ 49 ∷ 54 ∷ 49 ∷ 54 ∷ []
unfolding decimal_of digits
word_example = refl

largest_example : decimal_of (2 ^ 128 - 1) ≡ 51 ∷ 52 ∷ 48 ∷ 50 ∷ 56 ∷ 50 ∷ 51 ∷ 54 ∷ 54 ∷ 57 ∷ 50 ∷ 48 ∷ 57 ∷ 51 ∷ 56 ∷ 52 ∷ 54 ∷ 51 ∷ 52 ∷ 54 ∷ 51 ∷ 51 ∷ 55 ∷ 52 ∷ 54 ∷ 48 ∷ 55 ∷ 52 ∷ 51 ∷ 49 ∷ 55 ∷ 54 ∷ 56 ∷ 50 ∷ 49 ∷ 49 ∷ 52 ∷ 53 ∷ 53 ∷ []
unfolding decimal_of digits
largest_example = refl

signed_example : signed_of (2 ^ 31) (2 ^ 31 - 1) ≡ 45 ∷ 49 ∷ []
unfolding signed_of decimal_of digits
signed_example = refl

value_example : decimal_value (52 ∷ 54 ∷ 54 ∷ 48 ∷ []) ≡ 4660
unfolding decimal_value value_from
value_example = refl
