-- The checksum reports that a session takes in a run, read off its calls and their answers, oldest first (E-72): those are taken that its endpoint takes.
use Rattle.std.specs.Prelude.{List, [], ◌∷◌, ◌++◌}
use Rattle.checksums.specs.declared.Checksum.{Checksum}
use Rattle.codec.specs.Read.{datagram, wire_in}
use Rattle.endpoint_invariant.specs.Reports.{taken_if}
use Rattle.spectator_rules.specs.Watch.{Watch}
use Rattle.spectator_rules.specs.Call.{Call}
use Rattle.spectator_rules.specs.Step.{step}

-- the session answers with 0, and its endpoint does not ignore the message
abbrev pub report_taken : Call → Watch → List Checksum
report_taken (Call.synchronize now epoch nonce buffer) w = []
report_taken (Call.message from count m now epoch nonce buffer) w = taken_if (step (Call.message from count m now epoch nonce buffer) w).answer from m w.host
report_taken (Call.datagram from bytes now epoch nonce buffer) w = taken_if (step (Call.datagram from bytes now epoch nonce buffer) w).answer from (wire_in (datagram bytes)) w.host
report_taken (Call.poll_remote_clients now epoch nonce buffer) w = []
report_taken Call.advance_frame w = []
report_taken (Call.take_messages buffer) w = []
report_taken Call.take_events w = []
report_taken (Call.network_stats epoch) w = []
report_taken Call.frames_behind_host w = []
report_taken Call.current_state w = []
report_taken Call.current_frame w = []
report_taken Call.num_players w = []

-- those of a run
unfoldable pub reports_taken : List Call → Watch → List Checksum
reports_taken [] w = []
reports_taken (c ∷ cs) w = report_taken c w ++ reports_taken cs (step c w).after
