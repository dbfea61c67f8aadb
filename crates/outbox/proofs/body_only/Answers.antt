-- `body_only` writes a message with no reports and no payload, which is within the counts.
use Rattle.std.proofs.Common.{[], arith, rules}
use Rattle.codec.specs.Read.{body_only}
use Rattle.codec.proofs.Meant.{meant_body_only}
use Rattle.outbox.proofs.Writes.{queued}
use Rattle.outbox.proofs.body_only.Goals as goal

pub returns : goal.returns
returns c =
    let a = c.args in
    let none = c.no_reports in
    let write = c.write in
    queued a.out.now a.at (record { magic = a.magic; body = a.body; reports = none.result }) [] (omega (arith, none.ensures)) (omega arith) (search rules)
    (body_only a.magic a.body) (meant_body_only a.magic a.body none.result none.ensures) write.result write.new.out write.ensures
