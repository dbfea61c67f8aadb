-- The name of each variant.
use Rattle.text.specs.Ascii.{ascii}
use Rattle.message_line.specs.Line.{kind_name}
use Rattle.message_line.proofs.body.kind.Goals as goal

pub returns-in-SyncRequest-clause-name : goal.returns-in-SyncRequest-clause-name
unfolding kind_name ascii
returns-in-SyncRequest-clause-name c = rw c.in-SyncRequest.is

pub returns-in-SyncReply-clause-name : goal.returns-in-SyncReply-clause-name
unfolding kind_name ascii
returns-in-SyncReply-clause-name c = rw c.in-SyncReply.is

pub returns-in-Input-clause-name : goal.returns-in-Input-clause-name
unfolding kind_name ascii
returns-in-Input-clause-name c = rw c.in-Input.is

pub returns-in-InputAck-clause-name : goal.returns-in-InputAck-clause-name
unfolding kind_name ascii
returns-in-InputAck-clause-name c = rw c.in-InputAck.is

pub returns-in-QualityReport-clause-name : goal.returns-in-QualityReport-clause-name
unfolding kind_name ascii
returns-in-QualityReport-clause-name c = rw c.in-QualityReport.is

pub returns-in-QualityReply-clause-name : goal.returns-in-QualityReply-clause-name
unfolding kind_name ascii
returns-in-QualityReply-clause-name c = rw c.in-QualityReply.is

pub returns-in-ChecksumReport-clause-name : goal.returns-in-ChecksumReport-clause-name
unfolding kind_name ascii
returns-in-ChecksumReport-clause-name c = rw c.in-ChecksumReport.is

pub returns-in-KeepAlive-clause-name : goal.returns-in-KeepAlive-clause-name
unfolding kind_name ascii
returns-in-KeepAlive-clause-name c = rw c.in-KeepAlive.is
