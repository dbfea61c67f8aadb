-- Where the body is no SyncReply, its kind is another.
use Rattle.endpoint.proofs.Laws.Message.OtherKinds.{other_than_reply}
use Rattle.endpoint.proofs.message.body.reply_of.Goals as goal

pub returns-in_default : goal.returns-in_default
returns-in_default c = λ h. absurd (other_than_reply c.args.body c.in_default.not-SyncReply h)
