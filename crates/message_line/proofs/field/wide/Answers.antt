-- A number of 128 bits has at most 39 digits.
use Rattle.std.proofs.Common.{rules}
use Rattle.text.proofs.DecimalLaws.{decimal_128}
use Rattle.text.proofs.PieceLaws.{then_put}
use Rattle.message_line.specs.Line.{wide_text}
use Rattle.message_line.proofs.field.wide.Goals as goal

pub returns : goal.returns
returns c =
    let a = c.args in
    then_put a.draft _ _ a.name.now (wide_text a.n) _ 39 c.put.ensures
    (rw c.from.ensures at (decimal_128 c.from.result (search rules))) c.requires (rw c.from.ensures at c.put_decimal.ensures)
