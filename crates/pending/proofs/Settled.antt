-- Two answers that a contract allows are equal, by name for each public function: stores up to what their array holds past the count.
use mathlib.Core.Bool.{Bool}
use mathlib.Core.List.{List, []}
use mathlib.Core.Path.{◌≡◌, sym, ◌∙◌}
use Prim.Native.Nat.{ℕ}
use lib.ListN.{length}
use Rattle.answer.specs.Number.{Answered}
use Rattle.base.proofs.Settled.{settled}
use Rattle.packing.specs.declared.input_bytes.InputBytes.{InputBytes}
use Rattle.packing.specs.Packing.{PlacedAs}
use Rattle.packing.proofs.Settled.{laid_settled}
use Rattle.pending.specs.declared.Pending.{Pending}
use Rattle.pending.specs.Pending.{waiting, drops, first_frame, last_frame, payload, PushedAs, SizedAs, DroppedAs}

pub new_settled : (r s : Pending) → waiting r ≡ [] → waiting s ≡ [] → waiting r ≡ waiting s
new_settled = settled waiting []

module _ (p : Pending) where
  pub count_settled : (r s : ℕ) → r ≡ length (waiting p) → s ≡ length (waiting p) → r ≡ s
  count_settled = settled (λ r. r) (length (waiting p))

  pub push_settled : (x : InputBytes) (r s : Answered) (new new' : Pending) → PushedAs p x r new → PushedAs p x s new' → (r ≡ s) × (waiting new ≡ waiting new')
  push_settled x r s new new' a b = (a.ok ∙ sym b.ok, a.view ∙ sym b.view)

  pub drops_settled : (ack : ℕ) (r s : Bool) → r ≡ drops ack (waiting p) → s ≡ drops ack (waiting p) → r ≡ s
  drops_settled ack = settled (λ r. r) (drops ack (waiting p))

  pub drop_to_settled : (ack : ℕ) (reference r s : InputBytes) (new new' : Pending) → DroppedAs p ack reference r new → DroppedAs p ack reference s new'
      → (r ≡ s) × (waiting new ≡ waiting new')
  drop_to_settled ack reference r s new new' a b = (a.last ∙ sym b.last, a.view ∙ sym b.view)

  pub first_frame_settled : (none r s : ℕ) → r ≡ first_frame none (waiting p) → s ≡ first_frame none (waiting p) → r ≡ s
  first_frame_settled none = settled (λ r. r) (first_frame none (waiting p))

  pub last_frame_settled : (none r s : ℕ) → r ≡ last_frame none (waiting p) → s ≡ last_frame none (waiting p) → r ≡ s
  last_frame_settled none = settled (λ r. r) (last_frame none (waiting p))

  pub payload_size_settled : (width r s : ℕ) → SizedAs p width r → SizedAs p width s → r ≡ s
  payload_size_settled width r s a b = a.counted ∙ sym b.counted

  pub pack_all_settled : (before : List ℕ) (at width : ℕ) (reference : InputBytes) (r s : Bool) (after after' : List ℕ)
      → PlacedAs before at (payload width reference (waiting p)) r after → PlacedAs before at (payload width reference (waiting p)) s after' → (r ≡ s) × (after ≡ after')
  pack_all_settled before at width reference = laid_settled before at (payload width reference (waiting p))
