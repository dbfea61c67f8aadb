-- Where the body is no ChecksumReport, its kind is another.
use Rattle.endpoint.proofs.Laws.Message.OtherKinds.{other_than_report}
use Rattle.endpoint.proofs.message.body.checksum_of.Goals as goal

pub returns-in_default : goal.returns-in_default
returns-in_default c = λ h. absurd (other_than_report c.args.body c.in_default.not-ChecksumReport h)
