-- The word that the flag determines.
use Rattle.std.proofs.Common.{arith}
use Rattle.text.specs.Ascii.{ascii}
use Rattle.text.proofs.PieceLaws.{wider}
use Rattle.message_line.specs.Line.{field}
use Rattle.message_line.proofs.input.disconnect.Goals as goal

pub returns-then-requested : goal.returns-then-requested
unfolding field ascii
returns-then-requested c = rw c.if-requested.true (wider _ _ _ _ c.put.ensures (omega arith))

pub returns-else-requested : goal.returns-else-requested
unfolding field ascii
returns-else-requested c = rw c.if-requested.false c.put-else-requested.ensures
