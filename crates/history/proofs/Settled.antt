-- Two answers that a contract allows are equal, by name for each public function: stores up to what their array holds past the count.
use mathlib.Core.List.{List, [], ◌∷◌}
use mathlib.Core.Path.{◌≡◌}
use Prim.Native.Nat.{ℕ}
use lib.ListN.{length, take}
use Rattle.base.proofs.Settled.{settled}
use Rattle.packing.specs.declared.input_bytes.InputBytes.{InputBytes}
use Rattle.history.specs.declared.History.{History}
use Rattle.history.specs.declared.Looked.{Looked}
use Rattle.history.specs.History.{received, blank_frame, newest_of, looked_at, packet_of, taken_above}

pub new_settled : (r s : History) → received r ≡ blank_frame ∷ [] → received s ≡ blank_frame ∷ [] → received r ≡ received s
new_settled = settled received (blank_frame ∷ [])

module _ (h : History) where
  pub count_settled : (r s : ℕ) → r ≡ length (received h) → s ≡ length (received h) → r ≡ s
  count_settled = settled (λ r. r) (length (received h))

  pub newest_settled : (r s : ℕ) → r ≡ newest_of (received h) → s ≡ newest_of (received h) → r ≡ s
  newest_settled = settled (λ r. r) (newest_of (received h))

  pub look_settled : (start : ℕ) (r s : Looked) → r ≡ looked_at start (received h) → s ≡ looked_at start (received h) → r ≡ s
  look_settled start = settled (λ r. r) (looked_at start (received h))

  pub take_in_settled : (payload : List ℕ) (start width : ℕ) (reference : InputBytes) (newest max_prediction : ℕ) (r s : History)
      → received r ≡ take 33 (taken_above newest max_prediction (received h) (packet_of start width reference.bytes payload))
      → received s ≡ take 33 (taken_above newest max_prediction (received h) (packet_of start width reference.bytes payload)) → received r ≡ received s
  take_in_settled payload start width reference newest max_prediction =
      settled received (take 33 (taken_above newest max_prediction (received h) (packet_of start width reference.bytes payload)))
