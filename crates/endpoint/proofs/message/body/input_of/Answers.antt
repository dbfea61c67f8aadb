-- Where the body is no Input, its kind is another.
use Rattle.endpoint.proofs.Laws.Message.OtherKinds.{other_than_input}
use Rattle.endpoint.proofs.message.body.input_of.Goals as goal

pub returns-in_default : goal.returns-in_default
returns-in_default c = λ h. absurd (other_than_input c.args.body c.in_default.not-Input h)
