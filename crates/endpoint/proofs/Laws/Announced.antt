-- An endpoint after what a call announces: only its events are others, and there was room for them.
use mathlib.Core.Bool.{Bool, true}
use mathlib.Core.List.{List, [], ◌++◌, append-nil}
use mathlib.Core.Path.{◌≡◌, ◌∙◌}
use lib.ListN.{length}
use Rattle.events.specs.declared.Entry.{Entry}
use Rattle.events.specs.declared.Events.{Events}
use Rattle.std.specs.Prelude.{Ok}
use Rattle.answer.specs.Number.{Answered}
use Rattle.events.specs.Events.{held_events, has_room, PushedAs}
use Rattle.endpoint.specs.declared.Endpoint.{Endpoint}
use Rattle.endpoint.proofs.Laws.Ends.{grown}
use Rattle.endpoint.proofs.Laws.Room.{room_known}

-- a store that nothing is pushed to
pub left_alone : (e : Events) (able : Bool) (more : List Entry) → able ≡ true → more ≡ [] → PushedAs e able more (Ok tt) e
left_alone e able more ea em = record { answer = rw ea; view = rw (ea, em, append-nil); same = λ z q. cc }

abbrev pub with_events_of : Endpoint → Events → Endpoint
with_events_of e events = grown e events e.queued

pub record AnnouncedAs (e : Endpoint) (more : List Entry) (s : Endpoint) : Type 0 where
  pub events : Events
  pub rest : s ≡ with_events_of e events
  pub room : has_room (held_events e.events) (length more) ≡ true
  pub view : held_events events ≡ held_events e.events ++ more

module _ (e : Endpoint) (more : List Entry) (s : Endpoint) where
  pub announced_all_lem : (r : Answered) (t : Events) → PushedAs e.events (has_room (held_events e.events) (length more)) more r t → r ≡ Ok tt → s ≡ with_events_of e t → AnnouncedAs e more s
  announced_all_lem r t et ok es =
      let room = room_known _ r et.answer ok in
      record { events = t; rest = es; room = room; view = et.view ∙ rw room }

  pub announced_nothing : more ≡ [] → has_room (held_events e.events) 0 ≡ true → s ≡ e → AnnouncedAs e more s
  announced_nothing none room es = record { events = e.events; rest = es; room = rw none room; view = rw (none, append-nil) }
