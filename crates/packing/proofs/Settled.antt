-- Two answers that a contract allows are equal, by name for each public function.
use mathlib.Core.Bool.{Bool}
use mathlib.Core.List.{List}
use mathlib.Core.Path.{◌≡◌, sym, ◌∙◌}
use Prim.Native.Nat.{ℕ, min}
use lib.ListN.{take, drop}
use Rattle.base.proofs.Settled.{settled}
use Rattle.packing.specs.Packing.{xors, decodable_length, frame_count, PlacedAs}
use Rattle.packing.specs.Pad.{padded}

pub frame_width_settled : (width r s : ℕ) → r ≡ min width 64 → s ≡ min width 64 → r ≡ s
frame_width_settled width = settled (λ r. r) (min width 64)

-- any call that lays bytes: the answer and the lent buffer
pub laid_settled : (before : List ℕ) (at : ℕ) (bytes : List ℕ) (r s : Bool) (after after' : List ℕ) → PlacedAs before at bytes r after → PlacedAs before at bytes s after'
    → (r ≡ s) × (after ≡ after')
laid_settled before at bytes r s after after' x y = (x.done ∙ sym y.done, x.lent ∙ sym y.lent)

pub pack_frame_settled : (before : List ℕ) (at : ℕ) (frame : List ℕ) (width : ℕ) (reference : List ℕ) (r s : Bool) (after after' : List ℕ)
    → PlacedAs before at (xors (take width frame) reference) r after → PlacedAs before at (xors (take width frame) reference) s after' → (r ≡ s) × (after ≡ after')
pack_frame_settled before at frame width reference = laid_settled before at (xors (take width frame) reference)

pub frame_at_settled : (payload : List ℕ) (at width : ℕ) (reference r s : List ℕ) → r ≡ padded (xors (take width (drop at payload)) reference)
    → s ≡ padded (xors (take width (drop at payload)) reference) → r ≡ s
frame_at_settled payload at width reference = settled (λ r. r) (padded (xors (take width (drop at payload)) reference))

pub decodable_settled : (n width : ℕ) (r s : Bool) → r ≡ decodable_length width n → s ≡ decodable_length width n → r ≡ s
decodable_settled n width = settled (λ r. r) (decodable_length width n)

pub frame_count_settled : (n width r s : ℕ) → r ≡ frame_count width n → s ≡ frame_count width n → r ≡ s
frame_count_settled n width = settled (λ r. r) (frame_count width n)
