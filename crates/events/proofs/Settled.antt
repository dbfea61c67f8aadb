-- Two answers that a contract allows are equal, by name for each public function: stores up to what their array holds past the count.
use mathlib.Core.Bool.{Bool}
use mathlib.Core.List.{List, [], ◌∷◌, ◌++◌}
use mathlib.Core.Path.{◌≡◌, sym, ◌∙◌}
use Prim.Native.Nat.{ℕ}
use lib.ListN.{length, get_or}
use Rattle.std.proofs.Common.{Option}
use Rattle.answer.specs.Number.{Answered}
use Rattle.base.proofs.Settled.{settled}
use Rattle.packing.specs.Packing.{frames_of}
use Rattle.events.specs.declared.Entry.{Entry}
use Rattle.events.specs.declared.Events.{Events}
use Rattle.events.specs.Events.{held_events, has_room, given, ahead, blank_entry, announced_all, packet_fits, PushedAs}

pub new_settled : (r s : Events) → held_events r ≡ [] → held_events s ≡ [] → held_events r ≡ held_events s
new_settled = settled held_events []

module _ (e : Events) where
  pub count_settled : (r s : ℕ) → r ≡ length (held_events e) → s ≡ length (held_events e) → r ≡ s
  count_settled = settled (λ r. r) (length (held_events e))

  pub entry_settled : (i : ℕ) (r s : Entry) → r ≡ get_or (held_events e) i blank_entry → s ≡ get_or (held_events e) i blank_entry → r ≡ s
  entry_settled i = settled (λ r. r) (get_or (held_events e) i blank_entry)

  pushed_settled : (able : Bool) (more : List Entry) (r s : Answered) (new other : Events) → PushedAs e able more r new → PushedAs e able more s other
      → (r ≡ s) × (held_events new ≡ held_events other)
  pushed_settled able more r s new other a b = (a.answer ∙ sym b.answer, a.view ∙ sym b.view)

  pub push_settled : (x : Entry) (r s : Answered) (new other : Events) → PushedAs e (has_room (held_events e) 1) (x ∷ []) r new → PushedAs e (has_room (held_events e) 1) (x ∷ []) s other
      → (r ≡ s) × (held_events new ≡ held_events other)
  push_settled x = pushed_settled (has_room (held_events e) 1) (x ∷ [])

  module _ (first second : Option Entry) where
    abbrev pub both_events : List Entry
    both_events = given first ++ given second

    pub push_both_settled : (r s : Answered) (new other : Events) → PushedAs e (has_room (held_events e) (length both_events)) both_events r new
        → PushedAs e (has_room (held_events e) (length both_events)) both_events s other → (r ≡ s) × (held_events new ≡ held_events other)
    push_both_settled = pushed_settled (has_room (held_events e) (length both_events)) both_events

  module _ (resumed disconnected : Bool) (frame count : ℕ) (payload : List ℕ) (width : ℕ) (reference handles : List ℕ) (size : ℕ) where
    abbrev pub packet_able : Bool
    packet_able = packet_fits (held_events e ++ ahead resumed disconnected) frame count handles

    abbrev pub packet_events : List Entry
    packet_events = ahead resumed disconnected ++ announced_all frame size handles (frames_of width reference count payload)

    pub push_packet_settled : (r s : Answered) (new other : Events) → PushedAs e packet_able packet_events r new → PushedAs e packet_able packet_events s other
        → (r ≡ s) × (held_events new ≡ held_events other)
    push_packet_settled = pushed_settled packet_able packet_events
