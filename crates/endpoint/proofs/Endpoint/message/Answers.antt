-- The array of the events is as long as its type says.
use Rattle.endpoint.proofs.Laws.Lengths.{entries_long}
use Rattle.endpoint.proofs.Endpoint.message.Goals as goal

pub handle_message-answer-requires : goal.handle_message-answer-requires
handle_message-answer-requires c = entries_long c.args.self _ c.well_formed.0
