-- A sign and at most 10 digits.
use Rattle.std.proofs.Common.{rules}
use Rattle.text.specs.Decimal.{signed_of}
use Rattle.text.proofs.DecimalLaws.{signed-length}
use Rattle.text.proofs.PieceLaws.{then_put}
use Rattle.message_line.proofs.field.signed.Goals as goal

pub returns : goal.returns
returns c =
    let a = c.args in
    then_put a.draft _ _ a.name.now (signed_of a.bias a.n) _ 11 c.put.ensures (signed-length a.bias a.n (search rules) (search rules)) c.requires
    c.put_signed.ensures
