-- The letter, the event's words and a newline.
use Rattle.std.proofs.Common.{arith}
use lib.Dec.{lit≤}
use Rattle.text.specs.Ascii.{ascii}
use Rattle.text.proofs.PieceLaws.{put_adds, both}
use Rattle.event_line.specs.Lines.{under}
use Rattle.event_line.proofs.words.named.Goals as goal

pub returns : goal.returns
unfolding under ascii
returns c =
    let b = c.begun.ensures in
    let e = c.event.ensures in
    both _ _ _ _ _ _ (both _ _ _ _ _ _ b e) (put_adds _ _ _ 1 (lit≤ tt) (omega (arith, b.count, e.count)) c.put.ensures)
