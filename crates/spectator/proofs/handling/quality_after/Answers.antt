-- The advantage is known, and set, or it leaves its range.
use Rattle.spectator.proofs.Laws.Handling.{quality_set, quality_kept}
use Rattle.spectator.proofs.handling.quality_after.Goals as goal

pub returns-in-Ok : goal.returns-in-Ok
returns-in-Ok c =
    let a = c.args in
    quality_set a.newest a.fps a.frame a.quality c.if-frame-eq-NULL_FRAME.false c.if-newest-eq-NULL_FRAME.false c.in-Ok.frames c.local.result
    c.in-Ok.ensures c.local.ensures

pub returns-in-Err : goal.returns-in-Err
returns-in-Err c =
    let a = c.args in
    quality_kept a.newest a.fps a.frame a.quality c.if-frame-eq-NULL_FRAME.false c.if-newest-eq-NULL_FRAME.false _ c.in-Err.ensures
