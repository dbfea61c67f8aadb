-- The array of the events is as long as its type says.
use Rattle.endpoint.proofs.Laws.Lengths.{entries_long}
use Rattle.endpoint.proofs.Endpoint.send_input.Goals as goal

pub send-answer-requires : goal.send-answer-requires
send-answer-requires c = entries_long c.args.self _ c.well_formed.0
