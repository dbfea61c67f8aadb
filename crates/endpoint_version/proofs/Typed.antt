-- The values of the statements are those of the toolchain's types. What these say of an endpoint, of a setup, of a message and of a list of statuses (`Is`) is `IsEndpoint`,
-- `TypedSetup`, `IsMessage` and `IsStatuses` (laws `..-is`), so every machine value is covered; and where these hold there is a machine value that means it (laws
-- `..-means`), so nothing else is.
use mathlib.Core.List.{List, []}
use mathlib.Core.Path.{◌≡◌}
use borrow.Author.Rules.{rules}
use denote.Laws.{Is}
use denote.Param.{number}
use denote.RattleType.{RattleType}
use denote.Enum.Declared as Enum
use denote.Struct.Declared as Struct
use denote.Plain.{UInt}
use mir.Syntax.{w16, w32, w64}
use mir.Val.{Val}
use Prim.Native.Nat.{ℕ, ◌^◌, ◌<◌}
use lib.ListN.{length}
use Rattle.fixed_vec.specs.declared.FixedVec.{FixedVec}
use Rattle.fixed_vec.specs.contracts.FixedVec as FixedVecType
use Rattle.ceilings.specs.Ceilings.{most_players, most_input_size, most_width, most_pending, most_received, most_nonces, most_checksums, most_events}
use Rattle.packing.specs.declared.input_bytes.InputBytes.{InputBytes}
use Rattle.packing.specs.contracts.input_bytes.InputBytes as InputBytes
use Rattle.pending.specs.declared.Pending.{Pending}
use Rattle.pending.specs.contracts.Pending as Pending
use Rattle.history.specs.declared.History.{History}
use Rattle.history.specs.contracts.History as History
use Rattle.nonces.specs.declared.Nonces.{Nonces}
use Rattle.nonces.specs.contracts.Nonces as Nonces
use Rattle.checksums.specs.declared.Checksum.{Checksum}
use Rattle.checksums.specs.declared.Checksums.{Checksums}
use Rattle.checksums.specs.contracts.Checksum as Checksum
use Rattle.checksums.specs.contracts.Checksums as Checksums
use Rattle.status.specs.declared.ConnectionStatus.{ConnectionStatus}
use Rattle.status.specs.declared.list.Statuses.{Statuses}
use Rattle.status.specs.contracts.ConnectionStatus as ConnectionStatus
use Rattle.status.specs.contracts.list.Statuses as Statuses
use Rattle.events.specs.declared.Event.{Event}
use Rattle.events.specs.declared.Event.TheVariants as Announced
use Rattle.events.specs.declared.Entry.{Entry}
use Rattle.events.specs.declared.Events.{Events}
use Rattle.events.specs.contracts.Event as Event
use Rattle.events.specs.contracts.Entry as Entry
use Rattle.events.specs.contracts.Events as Events
use Rattle.codec.specs.Message.{FitsWide, FitsBody}
use Rattle.codec.specs.declared.Wide.{Wide}
use Rattle.codec.specs.declared.StatusReport.{StatusReport}
use Rattle.codec.specs.declared.MessageBody.{MessageBody}
use Rattle.codec.specs.declared.MessageBody.TheVariants as Body
use Rattle.codec.specs.declared.Message.{Message}
use Rattle.codec.specs.contracts.Wide as Wide
use Rattle.codec.specs.contracts.StatusReport as StatusReport
use Rattle.codec.specs.contracts.MessageBody as MessageBody
use Rattle.codec.specs.contracts.Message as Message
use Rattle.codec.proofs.Meant.{meant_magic, meant_body}
use Rattle.codec.proofs.Octets.{bytes_none}
use Rattle.setup.specs.declared.Setup.{Setup}
use Rattle.setup.specs.declared.DesyncDetection.{DesyncDetection}
use Rattle.setup.specs.declared.DesyncDetection.TheVariants.{Off, On}
use Rattle.setup.specs.contracts.Setup as Setup
use Rattle.setup.specs.contracts.Choices as Choices
use Rattle.setup.specs.contracts.DesyncDetection as DesyncDetection
use Rattle.timers.specs.declared.Clocks.{Clocks}
use Rattle.timers.specs.contracts.Clocks as Clocks
use Rattle.quality.specs.declared.Quality.{Quality}
use Rattle.quality.specs.contracts.Quality as Quality
use Rattle.endpoint_rules.specs.declared.Phase.{Phase}
use Rattle.endpoint_rules.specs.declared.Phase.TheVariants.{Initializing, Synchronizing, Running, Disconnected, Shutdown}
use Rattle.endpoint_rules.specs.contracts.Phase as Phase
use Rattle.endpoint_rules.specs.contracts.Flags as Flags
use Rattle.endpoint_invariant.specs.Each.{Each}
use Rattle.endpoint_invariant.specs.Typed.{IsU32, TypedDesync, TypedSetup}
use Rattle.endpoint_invariant.proofs.Typed.{wire_typed, setup_typed}
use Rattle.endpoint.specs.declared.Endpoint.{Endpoint}
use Rattle.endpoint.specs.contracts.Endpoint as Endpoint
use Rattle.endpoint.specs.contracts.Sync as Sync
use Rattle.endpoint_version.specs.Values.{IsStatuses, IsMessage, IsInput, IsPending, IsHistory, IsNonces, IsChecksum, IsChecksums, IsEvent, IsEntry, IsEvents, IsClocks, IsQuality, IsEndpoint}
use Rattle.endpoint_version.proofs.Machine.{array_is, bytes_are, Means, number_means, flag_means, ◌▸◌, struct_means, enum_means, array_means, bytes_mean}

-- ---- every machine value is one

-- what calls are given
pub statuses_is : (x : Statuses) (vs : List Val) → Is (Struct.row Statuses.the_type) x vs → IsStatuses x
statuses_is x vs h =
    let a = array_is (Struct.row ConnectionStatus.the_type) (λ (s : ConnectionStatus). IsU32 s.last_frame) (λ s ws k. search rules) most_players x.list _ h.1.1.0 in
    record { size = a.0; frames = a.1; count = search rules }

pub message_is : (m : Message) (vs : List Val) → Is (Struct.row Message.the_type) m vs → IsMessage m
message_is m vs h =
    let w = wire_typed m vs h [] bytes_none in
    let a = array_is (Struct.row StatusReport.the_type) (λ (r : StatusReport). IsU32 r.last_frame) (λ r ws k. search rules) most_players m.reports.list _ h.1.1.1.1.0.1.1.0 in
    record { magic = rw (meant_magic m []) at w.magic; body = rw (meant_body m []) at w.body; size = a.0; frames = a.1; count = search rules }

-- what an endpoint holds
input_is : (x : InputBytes) (vs : List Val) → Is (Struct.row InputBytes.the_type) x vs → IsInput x
input_is x vs h =
    let a = bytes_are most_width x.bytes _ h.1.1.1.0 in
    record { frame = h.1.1.0.1; size = a.0; bytes = a.1 }

pending_is : (x : Pending) (vs : List Val) → Is (Struct.row Pending.the_type) x vs → IsPending x
pending_is x vs h =
    let a = array_is (Struct.row InputBytes.the_type) IsInput input_is most_pending x.inputs.list _ h.1.1.0.1.1.0 in
    record { size = a.0; inputs = a.1; count = h.1.1.0.1.1.1.0.1 }

history_is : (x : History) (vs : List Val) → Is (Struct.row History.the_type) x vs → IsHistory x
history_is x vs h =
    let a = array_is (Struct.row InputBytes.the_type) IsInput input_is most_received x.inputs.list _ h.1.1.0.1.1.0 in
    record { size = a.0; inputs = a.1; count = h.1.1.0.1.1.1.0.1 }

nonces_is : (x : Nonces) (vs : List Val) → Is (Struct.row Nonces.the_type) x vs → IsNonces x
nonces_is x vs h =
    let a = array_is (UInt w32) IsU32 (λ n ws k. k.1) most_nonces x.list.list _ h.1.1.0.1.1.0 in
    record { size = a.0; nonces = a.1; count = h.1.1.0.1.1.1.0.1 }

checksum_is : (x : Checksum) (vs : List Val) → Is (Struct.row Checksum.the_type) x vs → IsChecksum x
checksum_is x vs h = (h.1.1.0.1, h.1.1.1.0.1, h.1.1.1.1.0.1)

checksums_is : (x : Checksums) (vs : List Val) → Is (Struct.row Checksums.the_type) x vs → IsChecksums x
checksums_is x vs h =
    let a = array_is (Struct.row Checksum.the_type) IsChecksum checksum_is most_checksums x.entries.list _ h.1.1.0.1.1.0 in
    record { size = a.0; checksums = a.1; count = h.1.1.0.1.1.1.0.1 }

event_is : (v : Event) (vs : List Val) → Is (Enum.row Event.the_type) v vs → IsEvent v
event_is (Announced.Synchronizing total count) vs h = search rules
event_is Announced.Synchronized vs h = tt
event_is (Announced.Input frame player) vs h = search rules
event_is Announced.Disconnected vs h = tt
event_is (Announced.NetworkInterrupted timeout) vs h = search rules
event_is Announced.NetworkResumed vs h = tt

entry_is : (x : Entry) (vs : List Val) → Is (Struct.row Entry.the_type) x vs → IsEntry x
entry_is x vs h =
    let a = bytes_are most_input_size x.input _ h.1.1.1.0 in
    record { event = event_is x.event _ h.1.1.0; size = a.0; bytes = a.1 }

events_is : (x : Events) (vs : List Val) → Is (Struct.row Events.the_type) x vs → IsEvents x
events_is x vs h =
    let a = array_is (Struct.row Entry.the_type) IsEntry entry_is most_events x.entries.list _ h.1.1.0.1.1.0 in
    record { size = a.0; entries = a.1; count = h.1.1.0.1.1.1.0.1 }

clocks_is : (c : Clocks) (vs : List Val) → Is (Struct.row Clocks.the_type) c vs → IsClocks c
clocks_is c vs h = record { quality = search rules; input = search rules; send = search rules; request = search rules; receive = search rules; shutdown = search rules }

quality_is : (q : Quality) (vs : List Val) → Is (Struct.row Quality.the_type) q vs → IsQuality q
quality_is q vs h = record { local = search rules; remote = search rules; trip = search rules; start = search rules }

-- its fields in their order
pub endpoint_is : (e : Endpoint) (vs : List Val) → Is (Struct.row Endpoint.the_type) e vs → IsEndpoint e
endpoint_is e vs h =
    record {
      setup = setup_typed e.setup _ h.1.1.0;
      pending = pending_is e.pending _ h.1.1.1.0;
      acked = input_is e.acked _ h.1.1.1.1.0;
      history = history_is e.history _ h.1.1.1.1.1.0;
      remaining = h.1.1.1.1.1.1.0.1.1.1.0.1;
      magic = h.1.1.1.1.1.1.0.1.1.1.1.0.1;
      nonces = nonces_is e.nonces _ h.1.1.1.1.1.1.1.0;
      clocks = clocks_is e.clocks _ h.1.1.1.1.1.1.1.1.0;
      quality = quality_is e.quality _ h.1.1.1.1.1.1.1.1.1.1.0;
      statuses = statuses_is e.statuses _ h.1.1.1.1.1.1.1.1.1.1.1.0;
      checksums = checksums_is e.checksums _ h.1.1.1.1.1.1.1.1.1.1.1.1.0;
      events = events_is e.events _ h.1.1.1.1.1.1.1.1.1.1.1.1.1.0;
      queued = h.1.1.1.1.1.1.1.1.1.1.1.1.1.1.0.1;
    }

-- ---- and nothing else is

-- a list of fixed size
list_means : (R : RattleType) (P : R.Denot → Type 0) → ((x : R.Denot) → P x → Means R x) → (n : ℕ) (x : FixedVec R.Denot n)
    → length x.list ≡ n → Each P x.list → x.count < 2 ^ 64 → Means (Struct.row (FixedVecType.the_type R (number n))) x
list_means R P one n x size each count =
    struct_means (FixedVecType.the_type R (number n)) x (array_means R P one n x.list size each ▸ number_means w64 x.count count ▸ tt)

-- what calls are given
status_means : (s : ConnectionStatus) → IsU32 s.last_frame → Means (Struct.row ConnectionStatus.the_type) s
status_means s h = struct_means ConnectionStatus.the_type s (flag_means s.disconnected ▸ number_means w32 s.last_frame h ▸ tt)

pub statuses_means : (x : Statuses) → IsStatuses x → Means (Struct.row Statuses.the_type) x
statuses_means x h =
    struct_means Statuses.the_type x (
    array_means (Struct.row ConnectionStatus.the_type) (λ (s : ConnectionStatus). IsU32 s.last_frame) status_means most_players x.list h.size h.frames ▸
    number_means w64 x.count h.count ▸ tt)

wide_means : (x : Wide) → FitsWide x → Means (Struct.row Wide.the_type) x
wide_means x h = struct_means Wide.the_type x (number_means w64 x.low h.0 ▸ number_means w64 x.high h.1 ▸ tt)

body_means : (b : MessageBody) → FitsBody b → Means (Enum.row MessageBody.the_type) b
body_means (Body.SyncRequest nonce) h = enum_means MessageBody.the_type (Body.SyncRequest nonce) (number_means w32 nonce h ▸ tt)
body_means (Body.SyncReply nonce) h = enum_means MessageBody.the_type (Body.SyncReply nonce) (number_means w32 nonce h ▸ tt)
body_means (Body.Input disconnect start ack) h =
    enum_means MessageBody.the_type (Body.Input disconnect start ack) (flag_means disconnect ▸ number_means w32 start h.0 ▸ number_means w32 ack h.1 ▸ tt)
body_means (Body.InputAck ack) h = enum_means MessageBody.the_type (Body.InputAck ack) (number_means w32 ack h ▸ tt)
body_means (Body.QualityReport advantage ping) h = enum_means MessageBody.the_type (Body.QualityReport advantage ping) (number_means w16 advantage h.0 ▸ wide_means ping h.1 ▸ tt)
body_means (Body.QualityReply pong) h = enum_means MessageBody.the_type (Body.QualityReply pong) (wide_means pong h ▸ tt)
body_means (Body.ChecksumReport checksum frame) h = enum_means MessageBody.the_type (Body.ChecksumReport checksum frame) (wide_means checksum h.0 ▸ number_means w32 frame h.1 ▸ tt)
body_means Body.KeepAlive h = enum_means MessageBody.the_type Body.KeepAlive tt

report_means : (r : StatusReport) → IsU32 r.last_frame → Means (Struct.row StatusReport.the_type) r
report_means r h = struct_means StatusReport.the_type r (flag_means r.disconnected ▸ number_means w32 r.last_frame h ▸ tt)

pub message_means : (m : Message) → IsMessage m → Means (Struct.row Message.the_type) m
message_means m h =
    struct_means Message.the_type m (
    number_means w16 m.magic h.magic ▸
    body_means m.body h.body ▸
    list_means (Struct.row StatusReport.the_type) (λ (r : StatusReport). IsU32 r.last_frame) report_means most_players m.reports h.size h.frames h.count ▸ tt)

desync_means : (d : DesyncDetection) → TypedDesync d → Means (Enum.row DesyncDetection.the_type) d
desync_means Off h = enum_means DesyncDetection.the_type Off tt
desync_means (On interval) h = enum_means DesyncDetection.the_type (On interval) (number_means w32 interval h ▸ tt)

pub setup_means : (g : Setup) → TypedSetup g → Means (Struct.row Setup.the_type) g
setup_means g h =
    let choices : Means (Struct.row Choices.the_type) g.choices = struct_means Choices.the_type g.choices (desync_means g.choices.desync_detection h.desync ▸ flag_means g.choices.firm_checksums ▸ tt) in
    struct_means Setup.the_type g (
    number_means w32 g.num_players h.players ▸
    list_means (UInt w32) IsU32 (number_means w32) most_players g.handles h.handles h.handle h.count ▸
    number_means w32 g.local_players h.local_players ▸
    number_means w32 g.input_size h.input_size ▸
    number_means w32 g.max_prediction h.max_prediction ▸
    number_means w64 g.disconnect_timeout h.disconnect_timeout ▸
    number_means w64 g.disconnect_notify_start h.notify_start ▸
    number_means w32 g.fps h.fps ▸
    number_means w16 g.magic h.magic ▸
    number_means w32 g.peer_addr h.peer ▸
    choices ▸ tt)

-- what an endpoint holds
input_means : (x : InputBytes) → IsInput x → Means (Struct.row InputBytes.the_type) x
input_means x h = struct_means InputBytes.the_type x (number_means w32 x.frame h.frame ▸ bytes_mean most_width x.bytes h.size h.bytes ▸ tt)

pending_means : (x : Pending) → IsPending x → Means (Struct.row Pending.the_type) x
pending_means x h =
    struct_means Pending.the_type x (list_means (Struct.row InputBytes.the_type) IsInput input_means most_pending x.inputs h.size h.inputs h.count ▸ tt)

history_means : (x : History) → IsHistory x → Means (Struct.row History.the_type) x
history_means x h =
    struct_means History.the_type x (list_means (Struct.row InputBytes.the_type) IsInput input_means most_received x.inputs h.size h.inputs h.count ▸ tt)

nonces_means : (x : Nonces) → IsNonces x → Means (Struct.row Nonces.the_type) x
nonces_means x h = struct_means Nonces.the_type x (list_means (UInt w32) IsU32 (number_means w32) most_nonces x.list h.size h.nonces h.count ▸ tt)

checksum_means : (x : Checksum) → IsChecksum x → Means (Struct.row Checksum.the_type) x
checksum_means x h = struct_means Checksum.the_type x (number_means w32 x.frame h.0 ▸ number_means w64 x.low h.1 ▸ number_means w64 x.high h.2 ▸ tt)

checksums_means : (x : Checksums) → IsChecksums x → Means (Struct.row Checksums.the_type) x
checksums_means x h =
    struct_means Checksums.the_type x (list_means (Struct.row Checksum.the_type) IsChecksum checksum_means most_checksums x.entries h.size h.checksums h.count ▸ tt)

event_means : (v : Event) → IsEvent v → Means (Enum.row Event.the_type) v
event_means (Announced.Synchronizing total count) h = enum_means Event.the_type (Announced.Synchronizing total count) (number_means w32 total h.0 ▸ number_means w32 count h.1 ▸ tt)
event_means Announced.Synchronized h = enum_means Event.the_type Announced.Synchronized tt
event_means (Announced.Input frame player) h = enum_means Event.the_type (Announced.Input frame player) (number_means w32 frame h.0 ▸ number_means w32 player h.1 ▸ tt)
event_means Announced.Disconnected h = enum_means Event.the_type Announced.Disconnected tt
event_means (Announced.NetworkInterrupted timeout) h = enum_means Event.the_type (Announced.NetworkInterrupted timeout) (number_means w64 timeout h ▸ tt)
event_means Announced.NetworkResumed h = enum_means Event.the_type Announced.NetworkResumed tt

entry_means : (x : Entry) → IsEntry x → Means (Struct.row Entry.the_type) x
entry_means x h = struct_means Entry.the_type x (event_means x.event h.event ▸ bytes_mean most_input_size x.input h.size h.bytes ▸ tt)

events_means : (x : Events) → IsEvents x → Means (Struct.row Events.the_type) x
events_means x h = struct_means Events.the_type x (list_means (Struct.row Entry.the_type) IsEntry entry_means most_events x.entries h.size h.entries h.count ▸ tt)

clocks_means : (c : Clocks) → IsClocks c → Means (Struct.row Clocks.the_type) c
clocks_means c h =
    struct_means Clocks.the_type c (
    number_means w64 c.running_last_quality_report h.quality ▸
    number_means w64 c.running_last_input_recv h.input ▸
    number_means w64 c.last_send_time h.send ▸
    number_means w64 c.last_sync_request_time h.request ▸
    number_means w64 c.last_recv_time h.receive ▸
    number_means w64 c.shutdown_timeout h.shutdown ▸ tt)

quality_means : (q : Quality) → IsQuality q → Means (Struct.row Quality.the_type) q
quality_means q h =
    struct_means Quality.the_type q (
    number_means w32 q.local_frame_advantage h.local ▸
    number_means w32 q.remote_frame_advantage h.remote ▸
    number_means w64 q.round_trip_time h.trip ▸
    number_means w64 q.stats_start_time h.start ▸ tt)

phase_means : (p : Phase) → Means (Enum.row Phase.the_type) p
phase_means Initializing = enum_means Phase.the_type Initializing tt
phase_means Synchronizing = enum_means Phase.the_type Synchronizing tt
phase_means Running = enum_means Phase.the_type Running tt
phase_means Disconnected = enum_means Phase.the_type Disconnected tt
phase_means Shutdown = enum_means Phase.the_type Shutdown tt

pub endpoint_means : (e : Endpoint) → IsEndpoint e → Means (Struct.row Endpoint.the_type) e
endpoint_means e h =
    let sync : Means (Struct.row Sync.the_type) e.sync
    = struct_means Sync.the_type e.sync (phase_means e.sync.phase ▸ number_means w32 e.sync.remaining h.remaining ▸ number_means w16 e.sync.remote_magic h.magic ▸ tt) in
    let flags : Means (Struct.row Flags.the_type) e.flags
    = struct_means Flags.the_type e.flags (flag_means e.flags.disconnect_notify_sent ▸ flag_means e.flags.disconnect_event_sent ▸ tt) in
    struct_means Endpoint.the_type e (
    setup_means e.setup h.setup ▸
    pending_means e.pending h.pending ▸
    input_means e.acked h.acked ▸
    history_means e.history h.history ▸
    sync ▸
    nonces_means e.nonces h.nonces ▸
    clocks_means e.clocks h.clocks ▸
    flags ▸
    quality_means e.quality h.quality ▸
    statuses_means e.statuses h.statuses ▸
    checksums_means e.checksums h.checksums ▸
    events_means e.events h.events ▸
    number_means w64 e.queued h.queued ▸ tt)
