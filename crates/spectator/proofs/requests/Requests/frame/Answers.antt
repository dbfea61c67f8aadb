-- A frame that is there, with its count.
use Rattle.std.proofs.Common.{sym, ◌∙◌}
use Rattle.spectator.specs.Stores.{request_of}
use Rattle.spectator.proofs.Laws.Requests.{frame_some}
use Rattle.spectator.proofs.requests.Requests.frame.Goals as goal

pub returns : goal.returns
unfolding request_of
returns c = frame_some c.args.self.now c.args.i c.in-Some.field-0 (sym c.get.ensures ∙ c.in-Some.is) c.len.result c.len.ensures.value
