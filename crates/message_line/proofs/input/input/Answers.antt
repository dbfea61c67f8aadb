-- An Input's fields one after another.
use Rattle.std.proofs.Common.{refl, arith}
use Rattle.text.specs.Ascii.{ascii}
use Rattle.text.proofs.PieceLaws.{wider, same_piece, both_adds}
use Rattle.message_line.specs.Line.{field}
use Rattle.message_line.proofs.TextLaws.{input_fields}
use Rattle.message_line.proofs.input.input.Goals as goal

pub returns : goal.returns
unfolding field ascii
returns c =
    let a = c.args in
    wider _ _ _ _
    (same_piece _ _ _ _ _ (input_fields a.reports.now _ a.disconnect_requested a.start_frame a.ack_frame a.bytes refl)
    (both_adds a.draft _ _ _ _ _ _
    (both_adds a.draft _ _ _ _ _ _
    (both_adds a.draft _ _ _ _ _ _
    (both_adds a.draft _ _ _ _ _ _
    (both_adds a.draft _ _ _ _ _ _ c.number-next.ensures c.statuses-next.ensures)
    c.disconnect-next.ensures)
    c.signed-next.ensures)
    c.signed-next-2.ensures)
    c.payload_length.ensures)) (omega arith)
