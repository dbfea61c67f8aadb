-- The local advantage (E-39), and whether one of its steps leaves i32 (E-40).
-- A number z within i32 is held as z + 2^31. So a sum of a held number and a plain one is held as their sum, and leaves i32 exactly when that is
-- 2^32 or more; a difference of two held numbers a and b is held as a + 2^31 - b, and leaves i32 exactly when b exceeds a + 2^31 or the rest is
-- 2^32 or more. The product has no bias: it is not negative, and leaves i32 exactly when it is 2^31 or more.
use Rattle.std.specs.Prelude.{Bool, true, false, ◌||◌, ◌≡◌, refl, ℕ, ◌+◌, ◌-◌, ◌*◌, ◌/◌, ◌^◌, min, ltb, leb, Result, Ok, Err, pos, ◌+ℤ◌, ◌-ℤ◌}
use Rattle.frame.specs.Bias.{bias32, signed}
use Rattle.answer.specs.declared.Refusal.{Refusal}
use Rattle.answer.specs.Number.{refusal_number}

-- min(rtt / 2, i32 max)
abbrev pub half_trip : ℕ → ℕ
half_trip round_trip = min (round_trip / 2) 0x7FFF_FFFF

abbrev pub product : (round_trip fps : ℕ) → ℕ
product round_trip fps = half_trip round_trip * fps

-- where the other end is thought to be
abbrev pub remote_frame : (received round_trip fps : ℕ) → ℕ
remote_frame received round_trip fps = received + product round_trip fps / 1000

abbrev pub product_overflows : (round_trip fps : ℕ) → Bool
product_overflows round_trip fps = leb (2 ^ 31) (product round_trip fps)

abbrev pub sum_overflows : (received round_trip fps : ℕ) → Bool
sum_overflows received round_trip fps = leb (2 ^ 32) (remote_frame received round_trip fps)

abbrev pub difference_overflows : (a b : ℕ) → Bool
difference_overflows a b = ltb (a + bias32) b || leb (2 ^ 32) (a + bias32 - b)

-- the advantage, as it is held
unfoldable pub advantage_of : (received round_trip fps local_frame : ℕ) → ℕ
advantage_of received round_trip fps local_frame = remote_frame received round_trip fps + bias32 - local_frame

-- 6: product, sum or difference leaves i32
unfoldable pub advantage_overflows : (received round_trip fps local_frame : ℕ) → Bool
advantage_overflows received round_trip fps local_frame =
    product_overflows round_trip fps || sum_overflows received round_trip fps || difference_overflows (remote_frame received round_trip fps) local_frame

-- an answer's number, and the advantage that comes with done
abbrev pub shown_advantage : Result ℕ Refusal → ℕ × ℕ
shown_advantage (Ok advantage) = (0, advantage)
shown_advantage (Err refusal) = (refusal_number refusal, 0)

-- worked (P14): rtt 100, fps 60, newest 10, local 12 give 1
p14 : advantage_of (bias32 + 10) 100 60 (bias32 + 12) ≡ bias32 + 1
unfolding advantage_of
p14 = refl

-- worked: a difference below 0, as the signed numbers have it: 10 + 3 - 20 is -7
below_zero : signed bias32 (advantage_of (bias32 + 10) 100 60 (bias32 + 20)) ≡ signed bias32 (bias32 + 10) +ℤ pos 3 -ℤ signed bias32 (bias32 + 20)
unfolding advantage_of signed
below_zero = refl

-- worked: at fps 60 the product of rtt 71,582,788 is 2,147,483,640, of 71,582,790 it is 2,147,483,700
last_product : product_overflows 71582788 60 ≡ false
last_product = refl

first_overflow : product_overflows 71582790 60 ≡ true
first_overflow = refl
