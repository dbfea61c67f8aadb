-- The invariant: those held, with those of them that are left, cut at 33, are what is to be held.
use Rattle.std.proofs.Common.{◌≡◌, ◌++◌, ◌+◌, ◌-◌, ◌*◌, ◌≤◌, length, take}
use Rattle.base.specs.Keyed.{kept}
use Rattle.packing.specs.Packing.{frames_of}
use Rattle.history.specs.History.{received, new_and_kept, numbered}
use Rattle.history.proofs.Laws.{coming}
use Rattle.history.proofs.History.append.Given as goal

abbrev pub invariant-loop-k : goal.invariant-loop-k
invariant-loop-k l = record {
  most : length (received l.self) ≤ 33;
  left : l.place + (l.count - l.k) * l.packet.width ≤ length l.payload;
  taken : take 33 (received l.self ++ kept (λ x. new_and_kept l.newest l.line.newest l.line.max_prediction x.frame) (coming l.packet.start l.packet.width l.packet.reference.bytes l.payload l.count l.k l.place))
      ≡ take 33 (received l.initial.self ++ kept (λ x. new_and_kept l.newest l.line.newest l.line.max_prediction x.frame) (numbered l.packet.start (frames_of l.packet.width l.packet.reference.bytes l.count l.payload)));
}
