-- A flag and a report at a place, by what stands there.
use mathlib.Core.Path.{◌≡◌, refl, ◌∙◌}
use mathlib.Core.Bool.{Bool, true, false}
use mathlib.Core.List.{List}
use Prim.Native.Nat.{ℕ, zero, suc, ◌+◌, ◌<◌, ◌≤◌}
use native.Mathlib.Omega.{arith}
use native.Mathlib.Nat.{add_assoc}
use lib.ListN.{length, take, drop, get_or, length-drop}
use lib.Seq.{drop-cons, drop-drop}
use Rattle.base.specs.Little.{unle}
use Rattle.codec.specs.Read.{flag_of, flag, report}
use Rattle.codec.specs.Read.Reading.{got, fault}
use Rattle.frame.specs.Bias.{bias32, bits_of}
use Rattle.codec.specs.Front.{number_at}
use Rattle.codec.proofs.Takes.{takes_number, takes_frame}

bad_flag : (n : ℕ) (d : List ℕ) → 1 < n → flag_of n d ≡ fault 11
bad_flag zero d h = absurd (omega arith)
bad_flag (suc zero) d h = absurd (omega arith)
bad_flag (suc (suc n)) d h = refl

module _ (d : List ℕ) (at : ℕ) where
  one : at < length d → unle (take 1 (drop at d)) ≡ get_or d at 0
  unfolding unle
  one h = rw (drop-cons d at 0 h) (omega arith)

  pub flag_none : length d ≡ at → flag (drop at d) ≡ fault 9
  unfolding flag
  flag_none e = rw ((takes_number 1).short (drop at d) (rw length-drop (omega arith)))

  module _ (h : at < length d) where
    read_flag : flag (drop at d) ≡ flag_of (get_or d at 0) (drop (at + 1) d)
    unfolding flag
    read_flag = rw ((takes_number 1).whole (drop at d) (rw length-drop (omega arith)), one h, ← drop-drop 1 at d)

    pub flag_bad : 1 < get_or d at 0 → flag (drop at d) ≡ fault 11
    flag_bad k = read_flag ∙ bad_flag (get_or d at 0) (drop (at + 1) d) k

    pub flag_no : get_or d at 0 ≡ 0 → flag (drop at d) ≡ got false (drop (at + 1) d)
    flag_no k = read_flag ∙ rw k

    pub flag_yes : get_or d at 0 ≡ 1 → flag (drop at d) ≡ got true (drop (at + 1) d)
    flag_yes k = read_flag ∙ rw k

  pub report_fault : (n : ℕ) → flag (drop at d) ≡ fault n → report (drop at d) ≡ fault n
  unfolding report
  report_fault n e = rw e

  module _ (b : Bool) (e : flag (drop at d) ≡ got b (drop (at + 1) d)) where
    pub report_short : length d < at + 5 → report (drop at d) ≡ fault 9
    unfolding report
    report_short l = rw (e, takes_frame.short (drop (at + 1) d) (rw length-drop (omega arith)))

    pub report_good : at + 5 ≤ length d
        → report (drop at d) ≡ got (record { disconnected = b; last_frame = bits_of bias32 (number_at 4 (at + 1) d) }) (drop (at + 5) d)
    unfolding report number_at
    report_good h =
        rw (e, takes_frame.whole (drop (at + 1) d) (rw length-drop (omega arith)), drop-drop 4 (at + 1) d, add_assoc at 1 4)
