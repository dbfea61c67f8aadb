-- The statuses of an Input, one more.
use mathlib.Core.Path.{◌≡◌}
use mathlib.Core.List.{List, [], ◌∷◌, ◌++◌, append_assoc, append-nil}
use Prim.Native.Nat.{ℕ, ◌+◌, ◌*◌, ◌<◌}
use native.Mathlib.Omega.{arith}
use native.Mathlib.Numerals.{add-one}
use lib.ListN.{length, take, get_or}
use lib.Seq.{take-suc}
use Rattle.codec.specs.declared.StatusReport.{StatusReport}
use Rattle.message_line.specs.Line.{report_text, reports_text}
use Rattle.text.specs.Draft.{Adds}
use Rattle.text.specs.declared.draft.Draft.{Draft}
use Rattle.text.proofs.PieceLaws.{both_adds, wider}

reports_snoc : (rs : List StatusReport) (r : StatusReport) → reports_text (rs ++ r ∷ []) ≡ reports_text rs ++ report_text r
unfolding reports_text
reports_snoc [] r = append-nil (report_text r)
reports_snoc (x ∷ rs) r = rw (reports_snoc rs r, append_assoc)

-- a turn of the loop
pub statuses_turn : (l : List StatusReport) (i : ℕ) (z : StatusReport) (d e r : Draft) → i < length l → Adds d (reports_text (take i l)) (25 * i) e
    → Adds e (report_text (get_or l i z)) 25 r → Adds d (reports_text (take (i + 1) l)) (25 * (i + 1)) r
statuses_turn l i z d e r h a t =
    rw (add-one, take-suc l i z h, reports_snoc (take i l) (get_or l i z)) (wider _ _ _ _ (both_adds d _ _ _ _ e r a t) (omega arith))
