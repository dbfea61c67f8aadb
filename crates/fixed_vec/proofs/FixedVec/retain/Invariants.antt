-- The invariant is `Keeping`.
use Rattle.std.proofs.Common.{◌≡◌, ◌≤◌, length}
use Rattle.base.proofs.InPlace.{Keeping}
use Rattle.fixed_vec.specs.FixedVec.{held}
use Rattle.fixed_vec.proofs.FixedVec.retain.Given as goal

abbrev pub invariant-loop-k : goal.invariant-loop-k
invariant-loop-k g l = record {
  reached : l.at ≤ l.k;
  most : l.count ≤ g.row.N;
  counted : l.count ≡ length (held l.initial.self);
  long : length l.self.list ≡ g.row.N;
  stays : Keeping (g.K.Test.passes l.keep) l.initial.self.count l.initial.self.list l.self.list l.at l.k;
}
