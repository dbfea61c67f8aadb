-- The sum of the lengths does not fit, or the head and the payload's digits stand one after the other.
use Rattle.std.proofs.Common.{arith}
use Rattle.message_line.proofs.LayLaws.{no_room_lem, both_laid}
use Rattle.message_line.proofs.lay.Goals as goal
use Rattle.message_line.proofs.lay.Goals.{then-out-at-via-then-out-at, then-out-at-via-else-out-at+then-out-at-2, then-out-at-via-else-out-at+else-out-at-2+then-out-at-3}

pub returns-then-out-at : goal.returns-then-out-at
returns-then-out-at c =
    let a = c.args in
    no_room_lem a.out.now a.at a.head.now a.payload.now
    (elim c.then-out-at.branch [ then-out-at-via-then-out-at w ↦ omega arith | then-out-at-via-else-out-at+then-out-at-2 w ↦ omega arith | then-out-at-via-else-out-at+else-out-at-2+then-out-at-3 w ↦ omega arith ])

pub returns : goal.returns
returns c =
    let a = c.args in
    both_laid a.out.now a.at a.head.now a.payload.now _ _ _ _ c.append.ensures c.hex.ensures (omega arith)
