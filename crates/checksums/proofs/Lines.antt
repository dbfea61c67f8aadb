-- A report goes by one line in both modes: it keeps those from the line on, and a frame below the line is not stored.
use mathlib.Core.Bool.{Bool, true, false, false≢true}
use mathlib.Core.List.{List}
use mathlib.Core.Path.{◌≡◌, refl, sym, subst}
use Prim.Native.Nat.{ℕ, suc, ◌-◌, ◌*◌, ◌≤◌, ◌<◌}
use native.Mathlib.Omega.{arith}
use lib.Dec.{leb}
use lib.ListN.{length}
use Rattle.base.specs.Pick.{pick}
use Rattle.base.specs.Keyed.{put}
use Rattle.checksums.specs.declared.Checksum.{Checksum}
use Rattle.checksums.specs.Checksums.{checksum_frame, kept_from, cleaned, keep_line, overflows, others_full, full_after, with_report}
use Rattle.checksums.specs.Firm.{smallest}
use Rattle.checksums.specs.Report.{overflows_by, full_by, reported_by, line_by}
use Rattle.checksums.proofs.Firm.{by_firm, keeps_all, firm_below, firm_kept, firm_room}

-- the clean-up of the crate's rule is by the line alone, whatever the count
cleaned_line : (frame interval : ℕ) (l : List Checksum) → kept_from (keep_line (length l) frame interval) l ≡ cleaned frame interval l
unfolding cleaned keep_line
cleaned_line frame interval l =
    elim (leb 32 (length l)) as (λ b. kept_from (pick b (frame - 31 * interval) 0) l ≡ pick b (kept_from (frame - 31 * interval) l) l)
    [ true ↦ refl | false ↦ keeps_all l ]

-- its line is never above the frame
line_le : (count frame interval : ℕ) → keep_line count frame interval ≤ frame
unfolding keep_line
line_le count frame interval = elim (leb 32 count) as (λ b. pick b (frame - 31 * interval) 0 ≤ frame) [ true ↦ omega arith | false ↦ omega arith ]

-- 6: nothing else
pub early : (firm : Bool) (c : Checksum) (interval : ℕ) (l : List Checksum) → overflows_by firm c.frame interval l ≡ true
    → (full_by firm c.frame interval l ≡ false) × (reported_by firm c interval l ≡ l)
unfolding full_after with_report
early true c interval l o = absurd (false≢true o)
early false c interval l o = (rw o, rw o)

-- below the line nothing is stored
pub below_line : (firm : Bool) (c : Checksum) (interval : ℕ) (l : List Checksum) → c.frame < line_by firm c.frame interval l
    → (full_by firm c.frame interval l ≡ false) × (reported_by firm c interval l ≡ l)
below_line true c interval l h = (refl, firm_below c l h)
below_line false c interval l h = absurd (omega (arith, line_le (length l) c.frame interval))

-- 5: 64 others stay
pub full_line : (firm : Bool) (c : Checksum) (interval : ℕ) (l : List Checksum) → overflows_by firm c.frame interval l ≡ false → length l ≤ 64
    → full_by firm c.frame interval l ≡ others_full c.frame (kept_from (line_by firm c.frame interval l) l)
unfolding full_after
full_line true c interval l o few = sym (firm_room c l few)
full_line false c interval l o few = rw (o, cleaned_line c.frame interval l)

pub full_same : (firm : Bool) (c : Checksum) (interval : ℕ) (l : List Checksum) → full_by firm c.frame interval l ≡ true → reported_by firm c interval l ≡ l
unfolding with_report
full_same true c interval l f = absurd (false≢true f)
full_same false c interval l f =
    elim (overflows c.frame interval l) as (λ b. pick b l (pick (full_after c.frame interval l) l (put checksum_frame c (cleaned c.frame interval l))) ≡ l) [ true ↦ refl | false ↦ rw f ]

-- done: put into those from the line on
pub report_line : (firm : Bool) (c : Checksum) (interval : ℕ) (l : List Checksum) → overflows_by firm c.frame interval l ≡ false
    → line_by firm c.frame interval l ≤ c.frame → full_by firm c.frame interval l ≡ false
    → reported_by firm c interval l ≡ put checksum_frame c (kept_from (line_by firm c.frame interval l) l)
unfolding with_report
report_line true c interval l o h f = firm_kept c l h
report_line false c interval l o h f = rw (o, f, cleaned_line c.frame interval l)

-- what holds of the store, and of it with the report put into those from any line on, holds of the store after the report
pub by_report : (firm : Bool) (c : Checksum) (interval : ℕ) (l : List Checksum) (P : List Checksum → Type 0) → P l → ((n : ℕ) → P (put checksum_frame c (kept_from n l)))
    → P (reported_by firm c interval l)
unfolding with_report
by_report true c interval l P h f = by_firm c l P (λ _. subst (λ m. P (put checksum_frame c m)) (keeps_all l) (f 0)) (λ _ _ _. h) (λ _ _ _. f (suc (smallest l)))
by_report false c interval l P h f =
    elim (overflows c.frame interval l) as (λ o. P (pick o l (pick (full_after c.frame interval l) l (put checksum_frame c (cleaned c.frame interval l))))) [
      | true ↦ h
      | false ↦
          elim (full_after c.frame interval l) as (λ b. P (pick b l (put checksum_frame c (cleaned c.frame interval l))))
          [ true ↦ h | false ↦ subst (λ m. P (put checksum_frame c m)) (cleaned_line c.frame interval l) (f (keep_line (length l) c.frame interval)) ]
    ]
