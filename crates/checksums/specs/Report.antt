-- A report by the setup's choice, firm or by the crate's rule: what `report` gives.
use Rattle.std.specs.Prelude.{Bool, true, false, List, ◌≡◌, refl, ℕ, length, Err}
use Rattle.base.specs.Pick.{pick}
use Rattle.base.specs.Keyed.{kept, has}
use Rattle.checksums.specs.declared.Checksum.{Checksum}
use Rattle.checksums.specs.declared.Checksums.{Checksums}
use Rattle.answer.specs.Number.{Answered, done}
use Rattle.answer.specs.declared.Refusal.{Refusal}
use Rattle.answer.specs.declared.Refusal.TheVariants.{Full, Overflow}
use Rattle.checksums.specs.Checksums.{stored, cleaned, checksum_frame, keep_line, too_early, overflows, others_full, full_after, with_report}
use Rattle.checksums.specs.Firm.{smallest, firmly, firm_line, risen}
use Rattle.checksums.specs.Worked.{biased, falling, all_of}

-- 6 and 5 come by the crate's rule alone (E-74)
abbrev pub overflows_by : (firm : Bool) → (frame interval : ℕ) → List Checksum → Bool
overflows_by firm frame interval l = pick firm false (overflows frame interval l)

abbrev pub full_by : (firm : Bool) → (frame interval : ℕ) → List Checksum → Bool
full_by firm frame interval l = pick firm false (full_after frame interval l)

-- the store with the report
abbrev pub reported_by : (firm : Bool) → Checksum → (interval : ℕ) → List Checksum → List Checksum
reported_by firm c interval l = pick firm (firmly c l) (with_report c interval l)

-- for the code: the line from which on checksums are kept, by the mode
abbrev pub line_by : (firm : Bool) → (frame interval : ℕ) → List Checksum → ℕ
line_by firm frame interval l = pick firm (firm_line (length l) (has checksum_frame frame l) (smallest l)) (keep_line (length l) frame interval)

-- 6 before 5; refused, the very store
pub record ReportedAs (s : Checksums) (c : Checksum) (interval : ℕ) (firm : Bool) (r : Answered) (new : Checksums) : Type 0 where
  pub answer : r ≡ pick (overflows_by firm c.frame interval (stored s)) (Err Overflow) (pick (full_by firm c.frame interval (stored s)) (Err Full) done)
  pub view : stored new ≡ reported_by firm c interval (stored s)
  pub same : (refusal : Refusal) → r ≡ Err refusal → new ≡ s

-- worked: after 163 down to 100 by the crate's rule, 99 is 5 by it, and not in firm mode; after 0 to 31, at interval 10,000, the least frame is 6 by it, and not in firm mode
abbrev stored64 : List Checksum
stored64 = all_of (falling 64 (biased 100)) 1

full_example : (full_by false (biased 99) 1 stored64 ≡ true) × (full_by true (biased 99) 1 stored64 ≡ false)
unfolding full_after others_full cleaned too_early kept has
full_example = (refl, refl)

overflow_example : (overflows_by false 0 10000 risen ≡ true) × (overflows_by true 0 10000 risen ≡ false)
unfolding too_early
overflow_example = (refl, refl)
