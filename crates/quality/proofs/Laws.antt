-- Laws for other crates: ranges, a reported advantage and back, the round trip time by the whole pong, and the local advantage over the signed numbers:
-- what it is, and that an overflow is answered exactly where product, sum or difference leaves i32.
use borrow.Author.Tests.{lt-ltb, le-ltb, lt-leb, ltb-false, leb-false, eqb-true, eqb-false}
use mathlib.Core.Bool.{true, false, ◌||◌}
use mathlib.Core.Path.{◌≡◌, refl, ◌∙◌}
use Prim.Native.Nat.{ℕ, ◌+◌, ◌-◌, ◌*◌, ◌/◌, ◌^◌, ◌≤◌, ◌<◌}
use native.Mathlib.Decide.{dec_lt}
use native.Mathlib.Omega.{arith}
use lib.Dec.{ltb, leb, eqb}
use lib.IntN.{ℤ, pos, ◌+ℤ◌, ◌-ℤ◌}
use lib.Signed.{mag}
use Rattle.base.specs.Pick.{pick}
use Rattle.base.proofs.Bools.{neither}
use Rattle.frame.specs.Bias.{bias32, bias16, signed}
use Rattle.frame.proofs.Signed.{signed_add, signed_within}
use Rattle.quality.specs.Quality.{clamped, widened, round_trip}
use Rattle.quality.specs.Advantage.{product, remote_frame, product_overflows, sum_overflows, difference_overflows, advantage_of, advantage_overflows}
use Rattle.quality.proofs.Held.{signed_raised, signed_difference, below_if_within, difference_if_within}

module _ (a : ℕ) where
  -- below i16, within and above
  clamped_low : a < bias32 - bias16 → clamped a ≡ 0
  unfolding clamped
  clamped_low h = rw (lt-ltb a (bias32 - bias16) h)

  clamped_within : bias32 - bias16 ≤ a → a < bias32 + bias16 → clamped a ≡ a - (bias32 - bias16)
  unfolding clamped
  clamped_within h k = rw (le-ltb a (bias32 - bias16) h, lt-ltb a (bias32 + bias16) k)

  clamped_high : bias32 + bias16 ≤ a → clamped a ≡ 65535
  unfolding clamped
  clamped_high h = rw (le-ltb a (bias32 - bias16) (omega arith), le-ltb a (bias32 + bias16) h)

  -- a reported advantage fits u16
  pub clamped_below : clamped a < 2 ^ 16
  clamped_below = elim (dec_lt a (bias32 - bias16)) [
    | yes h ↦ omega (arith, clamped_low h)
    | no h ↦ elim (dec_lt a (bias32 + bias16)) [
      | yes k ↦ omega (arith, clamped_within (omega arith) k)
      | no k ↦ omega (arith, clamped_high (omega arith))
    ]
  ]

  pub widened_below : a < 2 ^ 16 → widened a < 2 ^ 32
  unfolding widened
  widened_below h = omega arith

  -- a report gives what was held, where an i16 holds it
  pub widened-clamped : bias32 - bias16 ≤ a → a < bias32 + bias16 → widened (clamped a) ≡ a
  unfolding widened
  widened-clamped h k = omega (arith, clamped_within h k)

-- and what was reported is reported again
pub clamped-widened : (a : ℕ) → a < 2 ^ 16 → clamped (widened a) ≡ a
unfolding widened
clamped-widened a h = omega (arith, clamped_within (a + (bias32 - bias16)) (omega arith) (omega arith))

-- a reported advantage and the one held are the same signed number
pub widened-signed : (a : ℕ) → signed bias32 (widened a) ≡ signed bias16 a
unfolding widened
widened-signed a = signed_raised bias16 (bias32 - bias16) a

-- epoch minus the whole pong, 0 if negative
pub round_trip_is : (epoch low high : ℕ) → epoch < 2 ^ 64 → round_trip epoch low high ≡ epoch - (low + 2 ^ 64 * high)
unfolding round_trip
round_trip_is epoch low high h =
    elim (eqb high 0) as (λ b. eqb high 0 ≡ b → pick b (epoch - low) 0 ≡ epoch - (low + 2 ^ 64 * high)) [
      | true ↦ λ e. omega (arith, eqb-true high 0 e)
      | false ↦ λ e. omega (arith, eqb-false high 0 e)
    ]
    refl

-- the signed numbers of 32 bits
abbrev pub IsI32 : ℤ → Type 0
IsI32 z = mag z < bias32

module _ (received time fps frame : ℕ) where
  -- newest + product / 1000, and less the local frame
  abbrev pub sum : ℤ
  sum = signed bias32 received +ℤ pos (product time fps / 1000)

  abbrev pub difference : ℤ
  difference = sum -ℤ signed bias32 frame

  sum_is : signed bias32 (remote_frame received time fps) ≡ sum
  sum_is = signed_add bias32 received (product time fps / 1000)

  module _ (e : advantage_overflows received time fps frame ≡ false) where
    -- what the tests leave
    passes : (product_overflows time fps ≡ false) × (sum_overflows received time fps ≡ false) × (difference_overflows (remote_frame received time fps) frame ≡ false)
    unfolding advantage_overflows
    passes =
        let t = neither (product_overflows time fps || sum_overflows received time fps) (difference_overflows (remote_frame received time fps) frame) e in
        let u = neither (product_overflows time fps) (sum_overflows received time fps) t.0 in
        (u.0, u.1, t.1)

    difference_passes : (frame ≤ remote_frame received time fps + bias32) × (remote_frame received time fps + bias32 - frame < 2 ^ 32)
    difference_passes =
        let r : ℕ = remote_frame received time fps in
        let d = neither (ltb (r + bias32) frame) (leb (2 ^ 32) (r + bias32 - frame)) passes.2 in
        (ltb-false (r + bias32) frame d.0, leb-false (2 ^ 32) (r + bias32 - frame) d.1)

    -- an advantage fits u32
    pub advantage_below : advantage_of received time fps frame < 2 ^ 32
    unfolding advantage_of
    advantage_below = difference_passes.1

    pub advantage-signed : signed bias32 (advantage_of received time fps frame) ≡ difference
    unfolding advantage_of
    advantage-signed = signed_difference bias32 (remote_frame received time fps) frame difference_passes.0 ∙ rw sum_is

    -- where no overflow is answered, each step is within i32
    pub steps_within : (product time fps < 2 ^ 31) × IsI32 sum × IsI32 difference
    steps_within = (
      leb-false (2 ^ 31) (product time fps) passes.0,
      rw sum_is at (signed_within bias32 (remote_frame received time fps) (leb-false (2 ^ 32) (remote_frame received time fps) passes.1)),
      rw advantage-signed at (signed_within bias32 (advantage_of received time fps frame) advantage_below),
    )

  -- and none is answered where each is
  pub no_overflow : product time fps < 2 ^ 31 → IsI32 sum → IsI32 difference → advantage_overflows received time fps frame ≡ false
  unfolding advantage_overflows
  no_overflow p s d =
      let r : ℕ = remote_frame received time fps in
      let b : r < 2 ^ 32 = below_if_within bias32 r (rw sum_is s) in
      let m : (frame ≤ r + bias32) × (r + bias32 - frame < 2 ^ 32) = difference_if_within bias32 r frame (rw sum_is d) in
      rw (lt-leb (2 ^ 31) (product time fps) p, lt-leb (2 ^ 32) r b, le-ltb (r + bias32) frame m.0, lt-leb (2 ^ 32) (r + bias32 - frame) m.1)
