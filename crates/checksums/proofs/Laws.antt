-- Laws of the checksums stored: what a report does to the list.
use borrow.Author.Tests.{le-leb, leb-false}
use mathlib.Core.Bool.{Bool, true, false}
use mathlib.Core.List.{List}
use mathlib.Core.Path.{◌≡◌, refl}
use Prim.Native.Nat.{ℕ, ◌-◌, ◌+◌, ◌*◌, ◌≤◌}
use native.Mathlib.Omega.{arith}
use lib.Dec.{leb, eqb}
use lib.ListN.{length}
use Rattle.base.specs.Pick.{pick}
use Rattle.base.specs.Keyed.{has, first_with, put, Distinct}
use Rattle.base.proofs.Kept.{kept-length}
use Rattle.base.proofs.Removal.{kept_distinct, kept_by_key, kept_first, put_has, put_first, put_distinct, put-length}
use Rattle.checksums.specs.declared.Checksum.{Checksum}
use Rattle.checksums.specs.Checksums.{checksum_frame, kept_from, cleaned, overflows, others_full, full_after, with_report}
use Rattle.checksums.specs.Report.{reported_by}
use Rattle.checksums.proofs.Firm.{firm_within}
use Rattle.checksums.proofs.Lines.{by_report}

-- the clean-up adds no frame, and keeps or drops one by the line alone
module _ (frame interval : ℕ) (l : List Checksum) where
  pub cleaned-length : length (cleaned frame interval l) ≤ length l
  unfolding cleaned
  cleaned-length = elim (leb 32 (length l)) as (λ b. length (pick b (kept_from (frame - 31 * interval) l) l) ≤ length l) [ true ↦ kept-length _ l | false ↦ omega arith ]

  pub cleaned-has : (k : ℕ) → has checksum_frame k (cleaned frame interval l) ≡ pick (leb 32 (length l)) (pick (leb (frame - 31 * interval) k) (has checksum_frame k l) false) (has checksum_frame k l)
  unfolding cleaned
  cleaned-has k =
      elim (leb 32 (length l)) as (λ b. has checksum_frame k (pick b (kept_from (frame - 31 * interval) l) l) ≡ pick b (pick (leb (frame - 31 * interval) k) (has checksum_frame k l) false) (has checksum_frame k l))
      [ true ↦ kept_by_key checksum_frame (leb (frame - 31 * interval)) k l | false ↦ refl ]

  pub cleaned_first : (k : ℕ) (d : Checksum) → frame - 31 * interval ≤ k → first_with checksum_frame k d (cleaned frame interval l) ≡ first_with checksum_frame k d l
  unfolding cleaned
  cleaned_first k d h =
      elim (leb 32 (length l)) as (λ b. first_with checksum_frame k d (pick b (kept_from (frame - 31 * interval) l) l) ≡ first_with checksum_frame k d l)
      [ true ↦ kept_first checksum_frame (leb (frame - 31 * interval)) k d l (le-leb _ _ h) | false ↦ refl ]

-- a report keeps frames distinct
pub report_distinct : (firm : Bool) (c : Checksum) (interval : ℕ) (l : List Checksum) → Distinct checksum_frame l → Distinct checksum_frame (reported_by firm c interval l)
report_distinct firm c interval l d =
    by_report firm c interval l (Distinct checksum_frame) d (λ n. put_distinct checksum_frame c (kept_from n l) (kept_distinct checksum_frame _ l d))

-- by the crate's rule it keeps the store within 64
module _ (c : Checksum) (interval : ℕ) (l : List Checksum) where
  default_bound : length l ≤ 64 → length (with_report c interval l) ≤ 64
  unfolding with_report full_after others_full
  default_bound h =
      let n = cleaned-length c.frame interval l in
      let p = put-length checksum_frame c (cleaned c.frame interval l) in
      elim (overflows c.frame interval l) as (λ o. length (pick o l (pick (pick o false (others_full c.frame (cleaned c.frame interval l))) l (put checksum_frame c (cleaned c.frame interval l)))) ≤ 64) [
        | true ↦ h
        | false ↦
            elim (has checksum_frame c.frame (cleaned c.frame interval l)) as (λ b. length (put checksum_frame c (cleaned c.frame interval l)) ≡ pick b (length (cleaned c.frame interval l)) (length (cleaned c.frame interval l) + 1) → length (pick (pick b false (leb 64 (length (cleaned c.frame interval l)))) l (put checksum_frame c (cleaned c.frame interval l))) ≤ 64) [
              | true ↦ λ q. omega arith
              | false ↦ λ q.
                  elim (leb 64 (length (cleaned c.frame interval l))) as (λ f. leb 64 (length (cleaned c.frame interval l)) ≡ f → length (pick f l (put checksum_frame c (cleaned c.frame interval l))) ≤ 64)
                  [ true ↦ λ _. h | false ↦ λ e. omega (arith, leb-false 64 (length (cleaned c.frame interval l)) e) ]
                  refl
            ]
            p
      ]

  -- a report that is done: its frame is stored with its checksum, every other as the clean-up left it
  module _ (o : overflows c.frame interval l ≡ false) (f : full_after c.frame interval l ≡ false) where
    pub report_is : with_report c interval l ≡ put checksum_frame c (cleaned c.frame interval l)
    unfolding with_report
    report_is = rw (o, f)

    pub report-has : (k : ℕ) → has checksum_frame k (with_report c interval l) ≡ pick (eqb k c.frame) true (has checksum_frame k (cleaned c.frame interval l))
    report-has k = rw report_is (put_has checksum_frame k c (cleaned c.frame interval l))

    pub report_first : (k : ℕ) (d : Checksum) → first_with checksum_frame k d (with_report c interval l) ≡ pick (eqb k c.frame) c (first_with checksum_frame k d (cleaned c.frame interval l))
    report_first k d = rw report_is (put_first checksum_frame k d c (cleaned c.frame interval l))

-- a report keeps the store within 64 in both modes; in firm mode 32 stay 32 (`firm_bound`)
pub report_bound : (firm : Bool) (c : Checksum) (interval : ℕ) (l : List Checksum) → length l ≤ 64 → length (reported_by firm c interval l) ≤ 64
report_bound true c interval l = firm_within c l 64 (omega arith)
report_bound false c interval l = default_bound c interval l
