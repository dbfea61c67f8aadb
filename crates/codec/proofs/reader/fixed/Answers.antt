-- The body by its kind, whose bytes the table says are there.
use Rattle.std.proofs.Common.{arith}
use Rattle.codec.proofs.Fronts.{fixed_front}
use Rattle.codec.proofs.reader.fixed.Goals as goal

pub returns : goal.returns
returns c =
    let none = c.no_reports in
    rw (c.u16_at.ensures, c.body_at.ensures) (fixed_front c.args.d.now c.args.kind none.result c.requires.0 c.requires.1 c.requires.2 c.requires.3 (omega arith) none.ensures)
