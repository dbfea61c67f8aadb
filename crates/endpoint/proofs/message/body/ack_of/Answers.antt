-- Where the body is no InputAck, its kind is another.
use Rattle.endpoint.proofs.Laws.Message.OtherKinds.{other_than_ack}
use Rattle.endpoint.proofs.message.body.ack_of.Goals as goal

pub returns-in_default : goal.returns-in_default
returns-in_default c = λ h. absurd (other_than_ack c.args.body c.in_default.not-InputAck h)
