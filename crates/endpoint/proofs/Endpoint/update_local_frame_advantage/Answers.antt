-- `update_local_frame_advantage` passes on the refusal of the advantage, or notes it.
use mathlib.Core.Path.{sym, ◌∙◌, ap}
use Rattle.quality.specs.Advantage.{shown_advantage}
use Rattle.endpoint.proofs.Laws.Reports.{advantage-overflows, advantage-shown}
use Rattle.endpoint.proofs.Endpoint.update_local_frame_advantage.Goals as goal

pub returns : goal.returns
returns c =
    advantage-shown c.args.self c.args.local_frame c.newest-newest.result c.newest-newest.ensures c.if-local_frame-eq-NULL_FRAME.false c.if-newest-eq-NULL_FRAME.false _ c.local-self.result
    (sym (ap shown_advantage c.in-Ok.is) ∙ c.local_advantage-advantage.ensures) c.local-self.ensures

pub returns-in-Err : goal.returns-in-Err
returns-in-Err c =
    advantage-overflows c.args.self c.args.local_frame c.newest-newest.result c.newest-newest.ensures c.if-local_frame-eq-NULL_FRAME.false c.if-newest-eq-NULL_FRAME.false _
    (sym (ap shown_advantage c.in-Err.is) ∙ c.local_advantage-advantage.ensures)
