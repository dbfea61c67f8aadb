-- The invariant: what is held, with what is left to announce, is the whole.
use Rattle.std.proofs.Common.{◌≡◌, ◌++◌, ◌+◌, ◌-◌, ◌≤◌, length, drop}
use Rattle.events.specs.Events.{held_events, announced}
use Rattle.events.proofs.Events.announce.Given as goal

abbrev pub invariant-loop-handle : goal.invariant-loop-handle
invariant-loop-handle l = (length (held_events l.self) + (length l.handles - l.handle-index) ≤ 640)
    × (held_events l.self ++ announced l.frame l.size l.rest (drop l.handle-index l.handles) ≡ held_events l.initial.self ++ announced l.frame l.size l.bytes l.handles)
