-- The chain counts those that are kept.
use Rattle.std.proofs.Common.{rules, ◌≡◌}
use lib.Dec.{leb}
use Rattle.fixed_vec.specs.FixedVec.{held}
use Rattle.checksums.specs.declared.Checksum.{Checksum}
use Rattle.checksums.specs.Checksums.{stored}
use Rattle.std.specs.List.{count_by}
use Rattle.checksums.proofs.Chains.{count_is}
use Rattle.checksums.proofs.Checksums.count_from.Goals as goal

pub returns : goal.returns
unfolding stored held
returns c =
    let a = c.args in
    let e : c.count.result ≡ count_by (λ (x : Checksum). leb a.line x.frame) (held a.self.now.entries) = search rules in
    count_is a.line (held a.self.now.entries) c.count.result e
