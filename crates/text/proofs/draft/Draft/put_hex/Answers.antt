-- The digits stand behind the text, or the text as it was.
use Rattle.std.proofs.Common.{rules}
use Rattle.text.specs.Hex.{hex_of}
use Rattle.text.proofs.HexLaws.{hex_length}
use Rattle.text.proofs.DraftLaws.{put_done, put_none}
use Rattle.text.proofs.draft.Draft.put_hex.Goals as goal

pub returns-then-hex : goal.returns-then-hex
returns-then-hex c =
    put_done c.args.self.text (search rules) (hex_of c.args.piece.now) c.len-n.result (search rules) _ _ c.hex.ensures _ (rw hex_length) c.if-hex.true

pub returns-else-hex : goal.returns-else-hex
returns-else-hex c =
    put_none c.args.self.text (search rules) (hex_of c.args.piece.now) c.len-n.result (search rules) _ _ c.hex.ensures c.if-hex.false
