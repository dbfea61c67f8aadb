-- There is room for the piece.
use Rattle.std.proofs.Common.{arith}
use Rattle.text.proofs.PieceLaws.{put_adds}
use Rattle.message_line.proofs.draft.put.Goals as goal

pub returns : goal.returns
returns c = put_adds c.args.draft _ c.args.piece.now _ (omega arith) c.requires c.put.ensures
