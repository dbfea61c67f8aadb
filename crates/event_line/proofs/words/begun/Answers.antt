-- The letter and the colon.
use Rattle.std.proofs.Common.{arith}
use lib.Dec.{lit≤}
use Rattle.text.specs.Ascii.{ascii}
use Rattle.text.proofs.PieceLaws.{empty_holds, put_adds, both}
use Rattle.event_line.proofs.words.begun.Goals as goal

pub returns : goal.returns
unfolding ascii
returns c =
    let n = empty_holds _ c.new.ensures in
    let a = put_adds _ _ _ 1 (lit≤ tt) (omega (arith, n.count)) c.put.ensures in
    both _ _ _ _ _ _ (both _ _ _ _ _ _ n a) (put_adds _ _ _ 2 (lit≤ tt) (omega (arith, n.count, a.count)) c.put-2.ensures)
