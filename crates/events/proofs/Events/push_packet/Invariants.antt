-- The invariant: what is held, with what is left to announce, is the whole, for which there is room.
use Rattle.std.proofs.Common.{◌≡◌, ◌++◌, ◌+◌, ◌-◌, ◌^◌, ◌≤◌, List, length}
use Rattle.packing.specs.Packing.{frames_of}
use Rattle.events.specs.declared.Entry.{Entry}
use Rattle.events.specs.Events.{held_events, announced_all}
use Rattle.events.proofs.Events.push_packet.Given as goal

abbrev pub invariant-loop-k : goal.invariant-loop-k
invariant-loop-k l =
    let f = l.frames in
    let all : List Entry = held_events l.initial.self ++ announced_all f.first l.size l.handles (frames_of f.width l.reference f.count l.payload) in
    (f.first + f.count ≤ 2 ^ 32) × (length all ≤ 640)
    × (held_events l.self ++ announced_all (f.first + l.k) l.size l.handles (frames_of f.width l.reference (f.count - l.k) l.rest) ≡ all)
