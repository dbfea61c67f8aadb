-- A status list, one report more.
use mathlib.Core.Path.{◌≡◌, refl}
use mathlib.Core.List.{List, [], ◌∷◌, ◌++◌, append_assoc, append-nil}
use Prim.Native.Nat.{ℕ, zero, suc, ◌+◌, ◌*◌, ◌^◌, ◌<◌, ◌≤◌}
use native.Mathlib.Omega.{arith}
use native.Mathlib.Numerals.{add-one}
use lib.ListN.{length, take, get_or, length-append}
use lib.Seq.{take-suc, length-take-le}
use Rattle.codec.specs.Message.{FitsReports}
use Rattle.codec.specs.Bytes.{report_bytes, reports_bytes}
use Rattle.codec.specs.Put.{PutAs, ReportPut}
use Rattle.codec.proofs.Lengths.{report-length, reports-length}
use Rattle.codec.proofs.Put.{put_both}
use Rattle.codec.specs.declared.StatusReport.{StatusReport}

pub reports-append : (rs qs : List StatusReport) → reports_bytes (rs ++ qs) ≡ reports_bytes rs ++ reports_bytes qs
unfolding reports_bytes
reports-append [] qs = refl
reports-append (r ∷ rs) qs = rw (reports-append rs qs, append_assoc)

pub fits_snoc : (rs : List StatusReport) (r : StatusReport) → FitsReports rs → r.last_frame < 2 ^ 32 → FitsReports (rs ++ r ∷ [])
fits_snoc [] r f h zero d l = h
fits_snoc [] r f h (suc i) d l = absurd (omega arith)
fits_snoc (x ∷ rs) r f h zero d l = f zero d (omega arith)
fits_snoc (x ∷ rs) r f h (suc i) d l = fits_snoc rs r (λ j e k. f (suc j) e (omega arith)) h i d (omega arith)

-- a turn of the loop that puts one report after another
pub reports_turn : (l : List StatusReport) (i : ℕ) (d : StatusReport) (b : List ℕ) (at next : ℕ) (b' : List ℕ) (r : ℕ) (b'' : List ℕ) → i < length l
    → PutAs b at (reports_bytes (take i l)) next b' → FitsReports (take i l) → ReportPut (get_or l i d) b' next r b'' → at + 5 * i + 5 ≤ length b
    → PutAs b at (reports_bytes (take (i + 1) l)) r b'' × FitsReports (take (i + 1) l)
unfolding reports_bytes
reports_turn l i d b at next b' r b'' h p f q room =
    rw (add-one, take-suc l i d h, reports-append (take i l) (get_or l i d ∷ []), append-nil) (
      put_both b at (reports_bytes (take i l)) (report_bytes (get_or l i d))
          (omega (arith, length-append (reports_bytes (take i l)) (report_bytes (get_or l i d)), reports-length (take i l), length-take-le i l (omega arith), report-length (get_or l i d))) next b' p r b'' q.put,
      fits_snoc (take i l) (get_or l i d) f q.frame,
    )
