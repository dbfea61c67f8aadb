-- Two answers that a contract allows are equal, by name for each public function: stores up to what their array holds past the count.
use mathlib.Core.Bool.{Bool}
use mathlib.Core.List.{[]}
use mathlib.Core.Path.{◌≡◌, sym, ◌∙◌}
use Prim.Native.Nat.{ℕ}
use lib.ListN.{length, get_or}
use Rattle.std.proofs.Common.{Option}
use Rattle.answer.specs.Number.{Answered}
use Rattle.base.proofs.Settled.{settled}
use Rattle.checksums.specs.declared.Checksum.{Checksum}
use Rattle.checksums.specs.declared.Checksums.{Checksums}
use Rattle.checksums.specs.Checksums.{stored, blank_checksum, FoundAs}
use Rattle.checksums.specs.Report.{ReportedAs}

pub new_settled : (r s : Checksums) → stored r ≡ [] → stored s ≡ [] → stored r ≡ stored s
new_settled = settled stored []

module _ (c : Checksums) where
  pub count_settled : (r s : ℕ) → r ≡ length (stored c) → s ≡ length (stored c) → r ≡ s
  count_settled = settled (λ r. r) (length (stored c))

  pub entry_settled : (i : ℕ) (r s : Checksum) → r ≡ get_or (stored c) i blank_checksum → s ≡ get_or (stored c) i blank_checksum → r ≡ s
  entry_settled i = settled (λ r. r) (get_or (stored c) i blank_checksum)

  pub find_settled : (frame : ℕ) (r s : Option Checksum) → FoundAs c frame r → FoundAs c frame s → r ≡ s
  find_settled frame r s a b = a ∙ sym b

  pub report_settled : (x : Checksum) (interval : ℕ) (firm : Bool) (r s : Answered) (new other : Checksums) → ReportedAs c x interval firm r new → ReportedAs c x interval firm s other
      → (r ≡ s) × (stored new ≡ stored other)
  report_settled x interval firm r s new other a b = (a.answer ∙ sym b.answer, a.view ∙ sym b.view)
