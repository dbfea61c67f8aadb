-- Reading one report after another: what is left to read gives what all gives.
use mathlib.Core.Path.{◌≡◌}
use mathlib.Core.List.{List}
use Prim.Native.Nat.{ℕ, zero, suc, ◌+◌, ◌-◌, ◌<◌}
use native.Mathlib.Omega.{arith}
use native.Mathlib.Numerals.{add-one}
use lib.ListN.{length, take, drop, set}
use lib.Seq.{take-suc-set}
use Rattle.codec.specs.Read.{report, reports}
use Rattle.codec.specs.Read.Reading.{got, fault}
use Rattle.codec.specs.declared.StatusReport.{StatusReport}

-- a report that is refused ends the reading
pub reports_fault : (k : ℕ) (rs : List StatusReport) (d : List ℕ) (n : ℕ) → 0 < k → report d ≡ fault n → reports k rs d ≡ fault n
unfolding reports
reports_fault zero rs d n p e = absurd (omega arith)
reports_fault (suc k) rs d n p e = rw e

-- a turn
pub reports_turn : (d : List ℕ) (at n i : ℕ) (list : List StatusReport) (r : StatusReport) → i < n → i < length list
    → report (drop at d) ≡ got r (drop (at + 5) d)
    → reports (n - (i + 1)) (take (i + 1) (set list i r)) (drop (at + 5) d) ≡ reports (n - i) (take i list) (drop at d)
unfolding reports
reports_turn d at n i list r h l g =
    let e : n - i ≡ suc (n - (i + 1)) = omega arith in
    rw (e, g, add-one i, take-suc-set list i r l)
