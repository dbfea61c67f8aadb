-- When what a call would add does not fit, and what is left of a reaction where it does.
use borrow.Author.Tests.{lt-ltb, leb-true, leb-false, lt-leb, le-leb}
use mathlib.Core.Bool.{Bool, true, false, ◌||◌, ◌&&◌}
use mathlib.Core.List.{List, [], ◌∷◌}
use mathlib.Core.Path.{◌≡◌, refl, ◌∙◌}
use native.Mathlib.Nat.{add-zero}
use Prim.Native.Nat.{ℕ, ◌<◌, ◌+◌}
use lib.ListN.{length}
use Rattle.base.specs.Lay.{no_room}
use Rattle.codec.specs.Message.{Wire, table_size}
use Rattle.events.specs.Events.{has_room, held_events, PushedAs}
use Rattle.outbox.specs.Outbox.{queue_size}
use Rattle.endpoint_rules.specs.Seen.{Seen}
use Rattle.endpoint_rules.specs.Did.{Effect, refused, tested, done}
use Rattle.endpoint_rules.specs.Room.{buffer_full, is_full}
use Rattle.endpoint_rules.specs.Handshake.{Reaction}
use Rattle.endpoint_rules.specs.Step.{reacted}
use native.Mathlib.Omega.{arith}
use lib.Dec.{leb}
use Rattle.base.specs.Pick.{pick}
use Rattle.events.specs.declared.Entry.{Entry}
use Rattle.events.specs.declared.Events.{Events}
use Rattle.std.specs.Prelude.{Ok, Err}
use Rattle.answer.specs.Number.{Answered}
use Rattle.answer.specs.declared.Refusal.{Refusal}
use Rattle.answer.specs.declared.Refusal.TheVariants.{Full}

or-true : (x : Bool) → x || true ≡ true
or-true true = refl
or-true false = refl

module _ (buffer : List ℕ) (f : Effect) where
  pub full_events : has_room f.state.events (length f.events) ≡ false → is_full (length buffer) f ≡ true
  unfolding is_full
  full_events h = rw h

  pub room_none : f.out ≡ [] → has_room f.state.events (length f.events) ≡ true → is_full (length buffer) f ≡ false
  unfolding is_full buffer_full queue_size
  room_none o h = rw (h, o)

  module _ (w : Wire) (some : 0 < table_size w) (o : f.out ≡ w ∷ []) where
    pub full_buffer : no_room buffer f.state.queued (table_size w) ≡ true → is_full (length buffer) f ≡ true
    unfolding is_full buffer_full queue_size
    full_buffer h = rw (o, add-zero, lt-ltb 0 (table_size w) some, h, or-true)

    pub room_one : has_room f.state.events (length f.events) ≡ true → no_room buffer f.state.queued (table_size w) ≡ false → is_full (length buffer) f ≡ false
    unfolding is_full buffer_full queue_size
    room_one e h = rw (e, o, add-zero, lt-ltb 0 (table_size w) some, h)

-- a reaction that is tested for neither 12 nor 6, or meets neither
module _ (n : ℕ) (s : Seen) (r : Reaction) (short : r.too_long ≡ false) (within : r.overflows ≡ false) where
  pub reacted_choked : r.store_full ≡ true → reacted n s r ≡ refused 5 s
  unfolding reacted tested
  reacted_choked h = rw (short, within, h)

  pub reacted_full : is_full n r.effect ≡ true → reacted n s r ≡ refused 5 s
  unfolding reacted tested
  reacted_full h = rw (short, within, h, or-true)

  pub reacted-done : r.store_full ≡ false → is_full n r.effect ≡ false → reacted n s r ≡ done r.effect
  unfolding reacted tested
  reacted-done k h = rw (short, within, k, h)

-- several messages, or none
module _ (buffer : List ℕ) (f : Effect) where
  pub full_bytes : buffer_full (length buffer) f.state.queued (queue_size f.out) ≡ true → is_full (length buffer) f ≡ true
  unfolding is_full
  full_bytes h = rw (h, or-true)

  pub room-bytes : has_room f.state.events (length f.events) ≡ true → buffer_full (length buffer) f.state.queued (queue_size f.out) ≡ false → is_full (length buffer) f ≡ false
  unfolding is_full
  room-bytes e h = rw (e, h)

-- An event that is announced only where there is one: what the events are then, as if they had been asked to push it in any case.

-- n: how many there are
module _ (e : Events) (n : ℕ) (en : n ≡ length (held_events e)) where
  pub one_crowds : leb 640 n ≡ true → has_room (held_events e) 1 ≡ false
  unfolding has_room
  one_crowds h = lt-leb (length (held_events e) + 1) 640 (omega (arith, leb-true 640 n h))

  pub one_fits : leb 640 n ≡ false → has_room (held_events e) 1 ≡ true
  unfolding has_room
  one_fits h = le-leb (length (held_events e) + 1) 640 (omega (arith, leb-false 640 n h))

module _ (e : Events) (x : Entry) (n : ℕ) (en : n ≡ length (held_events e)) where
  abbrev pub PushedIf : Bool → Answered → Events → Type 0
  PushedIf announces r t = PushedAs e (has_room (held_events e) (length (pick announces (x ∷ []) []))) (pick announces (x ∷ []) []) r t

  pub crowded : (announces : Bool) → (announces && leb 640 n) ≡ true → PushedIf announces (Err Full) e
  crowded true h = let f : has_room (held_events e) 1 ≡ false = one_crowds e n en h in record { answer = rw f; view = rw f; same = λ _ _. refl }
  crowded false h = record { answer = cc; view = cc; same = λ _ _. refl }

  pub roomy : (announces : Bool) (r : Answered) (t : Events) → (announces && leb 640 n) ≡ false → announces ≡ true → PushedAs e (has_room (held_events e) 1) (x ∷ []) r t → r ≡ Ok tt
  roomy true r t h k ep = ep.answer ∙ rw (one_fits e n en h)
  roomy false r t h k ep = cc

-- what the answer of a push says of the room
pub room_known : (b : Bool) (r : Answered) → r ≡ pick b (Ok tt) (Err Full) → r ≡ Ok tt → b ≡ true
room_known true r h k = refl
room_known false r h k = cc

pub crowd_known : (b : Bool) (r : Answered) (z : Refusal) → r ≡ pick b (Ok tt) (Err Full) → r ≡ Err z → (b ≡ false) × (z ≡ Full)
crowd_known true r z h k = cc
crowd_known false r z h k = (refl, cc)
