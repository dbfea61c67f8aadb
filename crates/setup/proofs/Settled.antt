-- Two answers that a contract allows are equal, by name for each public function: of a setup its terms and the count of its handles, so that what their array holds past the count alone is open.
use mathlib.Core.Bool.{Bool}
use mathlib.Core.Path.{◌≡◌}
use Prim.Native.Nat.{ℕ}
use lib.ListN.{length}
use Rattle.base.proofs.Settled.{settled}
use Rattle.setup.specs.declared.Choices.{Choices}
use Rattle.setup.specs.declared.DesyncDetection.{DesyncDetection}
use Rattle.fixed_vec.specs.declared.FixedVec.{FixedVec}
use Rattle.setup.specs.declared.Setup.{Setup}
use Rattle.setup.specs.Setup.{choices_with, bad_setup, sorted, handle_list, terms_of, terms_with, SortedAs, receiving_width, sending_width, interval_of}

pub new_settled : (d : DesyncDetection) (r s : Choices) → r ≡ choices_with d → s ≡ choices_with d → r ≡ s
new_settled d = settled (λ r. r) (choices_with d)

module _ (g : Setup) where
  pub is_bad_settled : (r s : Bool) → r ≡ bad_setup g → s ≡ bad_setup g → r ≡ s
  is_bad_settled = settled (λ r. r) (bad_setup g)

  pub sorted_settled : (r s : Setup) → SortedAs g r → SortedAs g s → (terms_of r ≡ terms_of s) × (r.handles.count ≡ s.handles.count)
  sorted_settled r s p q =
      (settled terms_of (terms_with (sorted (handle_list g.handles)) g) r s p.0 q.0, settled (λ (x : Setup). x.handles.count) g.handles.count r s p.1 q.1)

  pub receiving_width_settled : (r s : ℕ) → r ≡ receiving_width (terms_of g) → s ≡ receiving_width (terms_of g) → r ≡ s
  receiving_width_settled = settled (λ r. r) (receiving_width (terms_of g))

  pub sending_width_settled : (r s : ℕ) → r ≡ sending_width (terms_of g) → s ≡ sending_width (terms_of g) → r ≡ s
  sending_width_settled = settled (λ r. r) (sending_width (terms_of g))

  pub interval_settled : (r s : ℕ) → r ≡ interval_of g.choices.desync_detection → s ≡ interval_of g.choices.desync_detection → r ≡ s
  interval_settled = settled (λ r. r) (interval_of g.choices.desync_detection)
