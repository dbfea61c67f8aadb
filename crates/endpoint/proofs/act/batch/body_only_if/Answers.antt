-- `body_only_if` writes nothing where nothing is due.
use Rattle.endpoint.proofs.Laws.Act.Batch.{written_none}
use Rattle.endpoint.proofs.act.batch.body_only_if.Goals as goal

pub returns-then-not-due : goal.returns-then-not-due
returns-then-not-due c = rw c.if-not-due.true (written_none c.args.out.now c.args.at)
