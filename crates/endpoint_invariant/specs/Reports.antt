-- The checksum reports that an endpoint takes in a run, read off the calls and their answers, oldest first (E-72).
use Rattle.std.specs.Prelude.{not, ◌&&◌, List, [], ◌∷◌, ◌++◌, ℕ, eqb}
use Rattle.base.specs.Pick.{pick}
use Rattle.checksums.specs.declared.Checksum.{Checksum}
use Rattle.codec.specs.Message.{Wire}
use Rattle.codec.specs.Read.{datagram, wire_in}
use Rattle.codec.specs.declared.MessageBody.{MessageBody}
use Rattle.codec.specs.declared.MessageBody.TheVariants.{SyncRequest, SyncReply, Input, InputAck, QualityReport, QualityReply, ChecksumReport, KeepAlive}
use Rattle.endpoint_rules.specs.Seen.{Seen}
use Rattle.endpoint_rules.specs.Checksum.{checksum_of}
use Rattle.endpoint_rules.specs.Call.{Call}
use Rattle.endpoint_rules.specs.Step.{ignored, step}

-- what a message reports
abbrev pub report_in : MessageBody → List Checksum
report_in (SyncRequest asked) = []
report_in (SyncReply reply) = []
report_in (Input disconnect start ack) = []
report_in (InputAck ack) = []
report_in (QualityReport advantage ping) = []
report_in (QualityReply pong) = []
report_in (ChecksumReport checksum frame) = checksum_of frame checksum ∷ []
report_in KeepAlive = []

-- it is taken where the call is answered with 0 and the message is not ignored
abbrev pub taken_if : (answer from : ℕ) → Wire → Seen → List Checksum
taken_if answer from w s = pick (eqb answer 0 && not (ignored from w.magic s)) (report_in w.body) []

abbrev pub report_taken : Call → Seen → List Checksum
report_taken (Call.synchronize now epoch nonce buffer) s = []
report_taken (Call.message from count w now epoch nonce buffer) s = taken_if (step (Call.message from count w now epoch nonce buffer) s).answer from w s
report_taken (Call.datagram from bytes now epoch nonce buffer) s = taken_if (step (Call.datagram from bytes now epoch nonce buffer) s).answer from (wire_in (datagram bytes)) s
report_taken (Call.act count statuses now epoch nonce buffer) s = []
report_taken (Call.send_input frame bytes count statuses now buffer) s = []
report_taken (Call.disconnect now) s = []
report_taken (Call.send_checksum_report frame checksum now buffer) s = []
report_taken (Call.update_local_frame_advantage local_frame) s = []
report_taken (Call.network_stats epoch) s = []
report_taken (Call.peer_connect_status handle) s = []
report_taken Call.take_events s = []
report_taken (Call.take_messages buffer) s = []
report_taken (Call.ask question) s = []

-- those of a run
unfoldable pub reports_taken : List Call → Seen → List Checksum
reports_taken [] s = []
reports_taken (c ∷ cs) s = report_taken c s ++ reports_taken cs (step c s).after
