-- `announce` leaves the events alone where none is due.
use Rattle.std.proofs.Common.{◌≡◌, refl, ◌-◌, [], length, arith}
use borrow.Author.Tests.{le-leb}
use Rattle.base.proofs.Arrays.{view_le}
use Rattle.events.specs.Events.{held_events, has_room}
use Rattle.fixed_vec.specs.FixedVec.{held}
use Rattle.endpoint.specs.Inside.Due.{due_events}
use Rattle.endpoint.proofs.Laws.Announced.{left_alone}
use Rattle.endpoint.proofs.Laws.Act.Due.{none_due}
use Rattle.endpoint.proofs.act.due.announce.Goals as goal

pub returns-then-event_count-eq0 : goal.returns-then-event_count-eq0
unfolding has_room held_events held
returns-then-event_count-eq0 c =
    let a = c.args in
    let e = a.events.now.entries in
    let none = none_due a.due (a.disconnect_timeout - a.notify_start) (omega (arith, c.event_count.ensures)) in
    rw none (left_alone a.events.now _ [] (le-leb _ _ (omega (arith, c.requires, view_le e.count e.list))) refl)
