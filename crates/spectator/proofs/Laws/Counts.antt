-- Counts: a store whose count is set to the number of what it holds holds the same.
use mathlib.Core.List.{List}
use mathlib.Core.Path.{◌≡◌, ap, sym, ◌∙◌}
use Prim.Native.Nat.{ℕ}
use lib.ListN.{length, take}
use Rattle.base.proofs.Arrays.{take_count}
use Rattle.fixed_vec.specs.FixedVec.{held}
use Rattle.spectator.specs.declared.inputs.Inputs.{Inputs}
use Rattle.spectator.specs.declared.requests.Request.{Request}
use Rattle.spectator.specs.declared.session_events.SessionEvents.{SessionEvents}
use Rattle.spectator.specs.Stores.{inputs_of, events_of, request_of, InputsAs, EventsAs, RequestAs}

pub counted_view : {X : Type 0} (used : ℕ) (l : List X) (n : ℕ) → n ≡ length (take used l) → take n l ≡ take used l
counted_view used l n e = ap (λ (m : ℕ). take m l) e ∙ sym (take_count used l)

module _ (n : ℕ) where
  pub inputs_counted : (x : Inputs) → n ≡ length (inputs_of x) → InputsAs (inputs_of x) (record { entries = record { list = x.entries.list; count = n } })
  unfolding inputs_of held
  inputs_counted x e = (counted_view x.entries.count x.entries.list n e, e)

  pub events_counted : (x : SessionEvents) → n ≡ length (events_of x) → EventsAs (events_of x) (record { entries = record { list = x.entries.list; count = n } })
  unfolding events_of held
  events_counted x e = (counted_view x.entries.count x.entries.list n e, e)

  pub request-counted : (x : Request) → n ≡ length (request_of x) → RequestAs (request_of x) (record { inputs = record { list = x.inputs.list; count = n } })
  unfolding request_of held
  request-counted x e = (counted_view x.inputs.count x.inputs.list n e, e)

-- of a store that holds a list and counts it, the count is the number of what it holds
pub own_count : {X : Type 0} {held l : List X} {n : ℕ} → (held ≡ l) × (n ≡ length l) → n ≡ length held
own_count h = h.1 ∙ ap length (sym h.0)
