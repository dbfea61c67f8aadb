-- One line.
use Rattle.std.proofs.Common.{arith}
use lib.Dec.{lit≤}
use Rattle.text.specs.Ascii.{ascii}
use Rattle.text.proofs.PieceLaws.{put_adds, both, wider}
use Rattle.event_line.specs.Lines.{under}
use Rattle.event_line.proofs.words.none.Goals as goal

pub returns : goal.returns
unfolding under ascii
returns c =
    let b = c.begun.ensures in
    wider _ _ _ _ (both _ _ _ _ _ _ b (put_adds _ _ _ 9 (lit≤ tt) (omega (arith, b.count)) c.put.ensures)) (omega arith)
