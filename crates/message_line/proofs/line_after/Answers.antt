-- The three pieces, one after the other.
use Rattle.text.specs.Ascii.{ascii}
use Rattle.message_line.proofs.LayLaws.{line_page, three_pieces}
use Rattle.message_line.proofs.line_after.Goals as goal

pub returns : goal.returns
unfolding ascii
returns c = three_pieces _ _ _ _ _ _ _ c.lay-start.ensures (rw c.unwrap_or-end.ensures (line_page c.line.ensures)) c.lay.ensures
