-- How far behind.
use Rattle.std.proofs.Common.{sym, ◌∙◌}
use Rattle.spectator.proofs.Laws.Getters.{behind_shown}
use Rattle.spectator.proofs.SpectatorSession.frames_behind_host.Goals as goal

pub returns : goal.returns
returns c = behind_shown c.args.self c.saturating_sub.result (sym c.behind_overflows.ensures ∙ c.if-behind_overflows.false) c.saturating_sub.ensures
