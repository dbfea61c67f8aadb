-- The number and a space, where it is not 0.
use Rattle.std.proofs.Common.{arith}
use Rattle.text.specs.Ascii.{ascii}
use Rattle.text.proofs.PieceLaws.{wider, same_piece, both_adds}
use Rattle.message_line.specs.Line.{field}
use Rattle.message_line.proofs.TextLaws.{some_bytes}
use Rattle.message_line.proofs.input.payload_length.Goals as goal

pub returns : goal.returns
unfolding field ascii
returns c =
    wider _ _ _ _
    (same_piece _ _ _ _ _ (some_bytes c.args.length c.if-length-eq0.false)
    (both_adds c.args.draft _ _ _ _ _ _ c.number-next.ensures c.put.ensures)) (omega arith)
