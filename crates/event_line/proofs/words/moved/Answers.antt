-- The six pieces one after another; at most 16 bytes are there.
use Rattle.std.proofs.Common.{rules}
use Rattle.text.specs.Ascii.{ascii}
use Rattle.event_line.proofs.WordLaws.{input-added}
use Rattle.event_line.proofs.words.moved.Goals as goal

pub returns : goal.returns
unfolding ascii
returns c =
    let a = c.args in
    input-added a.draft c.requires a.frame a.player a.size a.input.now (search rules) (search rules) (search rules) _ _ _ _ _ _
    c.put.ensures c.put_signed.ensures c.put-2.ensures (rw c.from.ensures at c.put_decimal.ensures) c.put-3.ensures (rw c.filled.ensures at c.put_hex.ensures)
