-- A number of one word has at most 20 digits.
use Rattle.std.proofs.Common.{rules}
use Rattle.text.specs.Decimal.{decimal_of}
use Rattle.text.proofs.DecimalLaws.{decimal_64}
use Rattle.text.proofs.PieceLaws.{then_put}
use Rattle.message_line.proofs.field.number.Goals as goal

pub returns : goal.returns
returns c =
    let a = c.args in
    then_put a.draft _ _ a.name.now (decimal_of a.n) _ 20 c.put.ensures (decimal_64 a.n (search rules)) c.requires (rw c.from.ensures at c.put_decimal.ensures)
