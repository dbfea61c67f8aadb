-- What owning an endpoint says of its array of events: its length, and so that a call which announces nothing has room for it.
use borrow.Author.Rules.{rules}
use borrow.Author.Tests.{le-leb}
use denote.Shadow.{shadow}
use mathlib.Core.Bool.{true}
use mathlib.Core.List.{List}
use mathlib.Core.Path.{◌≡◌}
use mir.Val.{Val}
use native.Mathlib.Omega.{arith}
use Prim.Native.Nat.{◌+◌, ◌≤◌}
use lib.ListN.{length}
use Rattle.base.proofs.Arrays.{unmap, view_le}
use Rattle.fixed_vec.specs.FixedVec.{held}
use Rattle.events.specs.declared.Events.{Events}
use Rattle.events.specs.Events.{held_events, has_room}
use Rattle.events.specs.contracts.Events as Events
use Rattle.endpoint.specs.declared.Endpoint.{Endpoint}
use Rattle.endpoint.specs.contracts.Endpoint as Endpoint

events_long : (e : Events) (vs : List Val) → shadow ((Events.the_field).row.own_val ((Events.the_type).to e) vs) → length e.entries.list ≡ 640
events_long e vs h = search (unmap, rules)

-- the events are the twelfth field
pub entries_long : (e : Endpoint) (vs : List Val) → shadow ((Endpoint.the_field).row.own_val ((Endpoint.the_type).to e) vs) → length e.events.entries.list ≡ 640
entries_long e vs h = events_long e.events _ h.1.1.1.1.1.1.1.1.1.1.1.1.1.0

pub events_most : (e : Events) → length e.entries.list ≡ 640 → length (held_events e) ≤ 640
unfolding held_events held
events_most e h = omega (arith, h, view_le e.entries.count e.entries.list)

pub no_event_fits : (e : Endpoint) → length e.events.entries.list ≡ 640 → has_room (held_events e.events) 0 ≡ true
unfolding has_room
no_event_fits e h = le-leb (length (held_events e.events) + 0) 640 (omega (arith, events_most e.events h))

pub acked_long : (e : Endpoint) (vs : List Val) → shadow ((Endpoint.the_field).row.own_val ((Endpoint.the_type).to e) vs) → length e.acked.bytes ≡ 64
acked_long e vs h = search rules
