-- Laws of a numeral: its digits stand at the array's end, and their number determines where it starts.
use borrow.Author.Tests.{le-leb, lt-leb}
use borrow.Rule.Slice.PartMut.{put_mid}
use mathlib.Core.Path.{◌≡◌, sym, ◌∙◌, ap}
use mathlib.Core.List.{List, [], ◌++◌, append-nil}
use Prim.Native.Nat.{ℕ, ◌+◌, ◌-◌, ◌*◌, ◌^◌, ◌<◌, ◌≤◌}
use native.Mathlib.Omega.{arith}
use native.Mathlib.Nat.{add-zero}
use lib.ListN.{length, take, drop, set, length-drop, drop_of_length-le}
use lib.Seq.{take_all, drop_at, length-take-le}
use Rattle.base.proofs.Digits.{drop-set}
use Rattle.text.specs.declared.number.Numeral.{Numeral}
use Rattle.text.specs.Decimal.{decimal_of, signed_of, text_of}
use Rattle.text.proofs.DecimalLaws.{decimal_some, decimal_32}

-- digits that are copied to an array's end stand there from their start on
pub at_end : (blank digits part text : List ℕ) → length blank ≡ 40 → length digits ≤ 40 → part ≡ digits → digits ≡ text
    → text_of (record { bytes = put_mid (40 - length digits) (40 - (40 - length digits)) blank part; start = 40 - length digits }) ≡ text
unfolding text_of
at_end blank digits part text long few ep et =
    let a : ℕ = 40 - length digits in
    let nothing : drop (40 - a) (drop a blank) ≡ [] = drop_of_length-le (drop a blank) {i = 40 - a} (simp length-drop (omega arith)) in
    drop_at (take a blank) (part ++ drop (40 - a) (drop a blank)) a (length-take-le a blank (omega arith)) ∙ rw (nothing, append-nil) (ep ∙ et)

-- where a numeral starts: as many bytes before the array's end as the text has. What a slice from there on holds is the text
module _ (r : Numeral) (text : List ℕ) (long : length r.bytes ≡ 40) (e : text_of r ≡ text) where
  pub starts : 1 ≤ length text → r.start + length text ≡ 40
  unfolding text_of
  starts some = omega (arith, sym (length-drop r.start r.bytes) ∙ ap length e)

  pub sliced : take (40 - r.start) (drop r.start r.bytes) ≡ text
  unfolding text_of
  sliced = take_all (40 - r.start) (drop r.start r.bytes) (simp length-drop (omega arith)) ∙ e

-- a number of one word
pub one_word : (r : Numeral) (n : ℕ) → text_of r ≡ decimal_of (n + 2 ^ 64 * 0) → text_of r ≡ decimal_of n
one_word r n e = rw add-zero at e

-- a number that is not below 0 is its digits; of one below 0 there is a place before them, which takes the sign
module _ (bias n : ℕ) (r : Numeral) where
  pub not_negative : bias ≤ n → text_of r ≡ decimal_of (n - bias) → text_of r ≡ signed_of bias n
  unfolding signed_of
  not_negative h e = rw (le-leb bias n h) e

  module _ (long : length r.bytes ≡ 40) (small : bias < 2 ^ 32) (e : text_of r ≡ decimal_of (bias - n)) where
    pub sign_place : (1 ≤ r.start) × (r.start ≤ 39)
    sign_place =
        let some : 1 ≤ length (decimal_of (bias - n)) = decimal_some (bias - n) in
        let few : length (decimal_of (bias - n)) ≤ 10 = decimal_32 (bias - n) (omega arith) in
        let sum : r.start + length (decimal_of (bias - n)) ≡ 40 = starts r (decimal_of (bias - n)) long e some in
        (omega arith, omega arith)

    pub minus : n < bias → text_of (record { bytes = set r.bytes (r.start - 1) 45; start = r.start - 1 }) ≡ signed_of bias n
    unfolding signed_of text_of
    minus h =
        let inside : r.start - 1 < length r.bytes = omega (arith, sign_place.0, sign_place.1) in
        let back : r.start - 1 + 1 ≡ r.start = omega (arith, sign_place.0) in
        rw (lt-leb bias n h, drop-set r.bytes (r.start - 1) 45 inside, back, e)
