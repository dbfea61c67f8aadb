-- Laws of decimal text, for those who keep its definitions shut: the number back from its digits, how many digits there are, and what they are.
use borrow.Author.Tests.{lt-ltb, le-ltb, le-leb, lt-leb}
use mathlib.Core.Path.{◌≡◌, refl, sym, ◌∙◌, ap}
use mathlib.Core.Bool.{true, false}
use mathlib.Core.Logic.{⊎_elim}
use mathlib.Core.List.{List, [], ◌∷◌, ◌++◌}
use Prim.Native.Nat.{ℕ, zero, suc, ◌+◌, ◌-◌, ◌*◌, ◌/◌, ◌%◌, ◌^◌, ◌<◌, ◌≤◌}
use native.Mathlib.Omega.{arith}
use native.Mathlib.Nat.{lt_of_lt_of_le}
use Rattle.std.specs.Fmt.{decimal}
use Rattle.std.proofs.lemmas.Fmt.{decimal_from_appends_wide, length-decimal-le_wide}
use lib.Dec.{lit≤, lit<, leb}
use lib.ListN.{length, get_or, length-append, get_or-append}
use lib.Seq.{get_or_at}
use Rattle.base.specs.Pick.{pick}
use Rattle.base.proofs.Digits.{below_or_not, div_below}
use Rattle.text.specs.Decimal.{digits, decimal_of, signed_of, value_from, decimal_value, AllDigits}

-- a number of one digit, and one of more
pub digits_one : (k n : ℕ) → n < 10 → digits (suc k) n ≡ (48 + n) ∷ []
unfolding digits
digits_one k n h = rw (lt-ltb n 10 h)

pub digits_more : (k n : ℕ) → 10 ≤ n → digits (suc k) n ≡ digits k (n / 10) ++ (48 + n % 10) ∷ []
unfolding digits
digits_more k n h = rw (le-ltb n 10 h)

-- the number back from its digits
value_last : (m : ℕ) (ds : List ℕ) (d : ℕ) → value_from m (ds ++ d ∷ []) ≡ value_from m ds * 10 + (d - 48)
unfolding value_from
value_last m [] d = refl
value_last m (x ∷ ds) d = value_last (m * 10 + (x - 48)) ds d

value_digits : (k n : ℕ) → n < 10 ^ k → value_from 0 (digits k n) ≡ n
unfolding digits value_from
value_digits zero n h = omega arith
value_digits (suc k) n h =
    ⊎_elim
    (λ l. rw (digits_one k n l) (omega arith))
    (λ g. rw (digits_more k n g, value_last 0 (digits k (n / 10)) (48 + n % 10), value_digits k (n / 10) (div_below 10 k n (lit≤ tt) h)) (omega arith))
    (below_or_not n 10)

pub decimal_value_lem : (n : ℕ) → n < 10 ^ 39 → decimal_value (decimal_of n) ≡ n
unfolding decimal_of decimal_value
decimal_value_lem n h = value_digits 39 n h

pub decimal_one_to_one : (m n : ℕ) → m < 10 ^ 39 → n < 10 ^ 39 → decimal_of m ≡ decimal_of n → m ≡ n
decimal_one_to_one m n hm hn e = sym (decimal_value_lem m hm) ∙ ap decimal_value e ∙ decimal_value_lem n hn

-- there is a digit, and there are no more than it takes
digits_some : (k n : ℕ) → 1 ≤ length (digits (suc k) n)
digits_some k n =
    ⊎_elim
    (λ l. rw (digits_one k n l) (omega arith))
    (λ g. rw (digits_more k n g, length-append) (omega arith))
    (below_or_not n 10)

-- a number of more than one digit is not below 10
pub two_places : (k n : ℕ) → 10 ≤ n → n < 10 ^ k → 2 ≤ k
two_places zero n g h = absurd (omega arith)
two_places (suc zero) n g h = absurd (omega arith)
two_places (suc (suc k)) n g h = omega arith

digits-length : (f k n : ℕ) → n < 10 ^ k → 1 ≤ k → length (digits f n) ≤ k
unfolding digits
digits-length zero k n h p = omega arith
digits-length (suc f) zero n h p = absurd (omega arith)
digits-length (suc f) (suc k) n h p =
    ⊎_elim
    (λ l. rw (digits_one f n l) (omega arith))
    (λ g. rw (digits_more f n g, length-append) (omega (arith, digits-length f k (n / 10) (div_below 10 k n (lit≤ tt) h) (omega (arith, two_places (suc k) n g h)))))
    (below_or_not n 10)

pub decimal_some : (n : ℕ) → 1 ≤ length (decimal_of n)
unfolding decimal_of
decimal_some n = digits_some 38 n

pub signed_some : (bias n : ℕ) → 1 ≤ length (signed_of bias n)
unfolding signed_of
signed_some bias n =
    elim (leb bias n) as (λ b. 1 ≤ length (pick b (decimal_of (n - bias)) (45 ∷ decimal_of (bias - n)))) [ true ↦ decimal_some (n - bias) | false ↦ omega arith ]

pub decimal_length : (k n : ℕ) → n < 10 ^ k → 1 ≤ k → length (decimal_of n) ≤ k
unfolding decimal_of
decimal_length k n h p = digits-length 39 k n h p

-- of a number of w bits
pub decimal_bits : (w k n : ℕ) → 2 ^ w ≤ 10 ^ k → 1 ≤ k → n < 2 ^ w → length (decimal_of n) ≤ k
decimal_bits w k n e p h = decimal_length k n (lt_of_lt_of_le h e) p

module _ (n : ℕ) where
  pub decimal_16 : n < 2 ^ 16 → length (decimal_of n) ≤ 5
  decimal_16 = decimal_bits 16 5 n (lit≤ tt) (lit≤ tt)

  pub decimal_32 : n < 2 ^ 32 → length (decimal_of n) ≤ 10
  decimal_32 = decimal_bits 32 10 n (lit≤ tt) (lit≤ tt)

  pub decimal_64 : n < 2 ^ 64 → length (decimal_of n) ≤ 20
  decimal_64 = decimal_bits 64 20 n (lit≤ tt) (lit≤ tt)

  pub decimal_128 : n < 2 ^ 128 → length (decimal_of n) ≤ 39
  decimal_128 = decimal_bits 128 39 n (lit≤ tt) (lit≤ tt)

pub signed-length : (bias n : ℕ) → bias < 2 ^ 32 → n < 2 ^ 32 → length (signed_of bias n) ≤ 11
unfolding signed_of
signed-length bias n hb hn =
    ⊎_elim
    (λ l. rw (lt-leb bias n l) (omega (arith, decimal_32 (bias - n) (omega arith))))
    (λ g. rw (le-leb bias n g) (omega (arith, decimal_32 (n - bias) (omega arith))))
    (below_or_not n bias)

-- each is a digit
last_digit : (ds : List ℕ) (d : ℕ) → AllDigits ds → d < 10 → AllDigits (ds ++ (48 + d) ∷ [])
last_digit ds d all h i b =
    ⊎_elim
    (λ l. rw (get_or-append ds ((48 + d) ∷ []) 0 i l) (all i l))
    (λ g. rw (get_or_at ds (48 + d) [] 0 i (omega (arith, rw length-append at b))) (omega arith))
    (below_or_not i (length ds))

all_digits : (k n : ℕ) → AllDigits (digits k n)
unfolding digits
all_digits zero n = λ i b. absurd (omega arith)
all_digits (suc k) n =
    ⊎_elim
    (λ l. rw (digits_one k n l) (last_digit [] n (λ i b. absurd (omega arith)) l))
    (λ g. rw (digits_more k n g) (last_digit (digits k (n / 10)) (n % 10) (all_digits k (n / 10)) (omega arith)))
    (below_or_not n 10)

pub decimal_digits : (n : ℕ) → AllDigits (decimal_of n)
unfolding decimal_of
decimal_digits n = all_digits 39 n

-- the first is 0 of the number 0 alone
digits_first : (k n : ℕ) → n < 10 ^ k → get_or (digits k n) 0 0 ≡ 48 → n ≡ 0
unfolding digits
digits_first zero n h e = omega arith
digits_first (suc zero) n h e = omega (arith, rw (digits_one 0 n h) at e)
digits_first (suc (suc k)) n h e =
    ⊎_elim
    (λ l. omega (arith, rw (digits_one (suc k) n l) at e))
    (λ g. omega (arith, digits_first (suc k) (n / 10) (div_below 10 (suc k) n (lit≤ tt) h) (rw (digits_more (suc k) n g, get_or-append (digits (suc k) (n / 10)) ((48 + n % 10) ∷ []) 0 0 (digits_some k (n / 10))) at e)))
    (below_or_not n 10)

pub decimal_first : (n : ℕ) → n < 10 ^ 39 → get_or (decimal_of n) 0 0 ≡ 48 → n ≡ 0
unfolding decimal_of
decimal_first n h e = digits_first 39 n h e

-- the standard library's decimal text of a number is this text
pub decimal_std : (n : ℕ) → n < 2 ^ 128 → decimal_of n ≡ decimal n
unfolding decimal_of
decimal_std n h =
    let wide : n < 10 ^ 64 = lt_of_lt_of_le h (lit≤ tt) in
    decimal_from_appends_wide digits (record { one = digits_one; more = digits_more }) 39 n wide (length-decimal-le_wide 39 n (lit< tt) (lt_of_lt_of_le h (lit≤ tt)) wide)
