-- Refused early.
use Rattle.std.proofs.lemmas.Result.{err_from_is_err_and}
use Rattle.spectator.proofs.Laws.Advancing.{refused_early}
use Rattle.spectator.proofs.SpectatorSession.advance.Goals as goal

pub returns-in_err-advance_refusal : goal.returns-in_err-advance_refusal
returns-in_err-advance_refusal c =
    let p = err_from_is_err_and c.from_residual.result c.from_residual.ensures.1 in
    rw (p.1, p.2) (refused_early c.args.self.now _ c.in_err-advance_refusal.ensures)
