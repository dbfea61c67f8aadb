-- Values of the code's types: every number has the width of its field, every array its length and elements of its type. A count of a store is any number of its width: what
-- it counts is left to the rules, and no ceiling (C-1 to C-20) is asked for.
use Rattle.std.specs.Prelude.{List, ◌≡◌, ℕ, length}
use Rattle.base.specs.Little.{Bytes}
use Rattle.ceilings.specs.Ceilings.{most_players, most_input_size, most_width, most_pending, most_received, most_nonces, most_checksums, most_events}
use Rattle.packing.specs.declared.input_bytes.InputBytes.{InputBytes}
use Rattle.pending.specs.declared.Pending.{Pending}
use Rattle.history.specs.declared.History.{History}
use Rattle.nonces.specs.declared.Nonces.{Nonces}
use Rattle.checksums.specs.declared.Checksum.{Checksum}
use Rattle.checksums.specs.declared.Checksums.{Checksums}
use Rattle.status.specs.declared.ConnectionStatus.{ConnectionStatus}
use Rattle.status.specs.declared.list.Statuses.{Statuses}
use Rattle.events.specs.declared.Event.{Event}
use Rattle.events.specs.declared.Entry.{Entry}
use Rattle.events.specs.declared.Events.{Events}
use Rattle.codec.specs.Message.{FitsBody}
use Rattle.codec.specs.declared.StatusReport.{StatusReport}
use Rattle.codec.specs.declared.Message.{Message}
use Rattle.timers.specs.declared.Clocks.{Clocks}
use Rattle.quality.specs.declared.Quality.{Quality}
use Rattle.endpoint_invariant.specs.Each.{Each}
use Rattle.endpoint_invariant.specs.Typed.{IsU16, IsU32, IsU64, TypedSetup}
use Rattle.endpoint.specs.declared.Endpoint.{Endpoint}

-- ---- what calls are given

-- a lent slice of bytes
abbrev pub IsSlice : List ℕ → Type 0
IsSlice bytes = Bytes bytes × IsU64 (length bytes)

pub record IsStatuses (x : Statuses) : Type 0 where
  pub size : length x.list ≡ most_players
  pub frames : Each (λ (s : ConnectionStatus). IsU32 s.last_frame) x.list
  pub count : IsU64 x.count

pub record IsMessage (m : Message) : Type 0 where
  pub magic : IsU16 m.magic
  pub body : FitsBody m.body
  pub size : length m.reports.list ≡ most_players
  pub frames : Each (λ (r : StatusReport). IsU32 r.last_frame) m.reports.list
  pub count : IsU64 m.reports.count

-- ---- what an endpoint holds

pub record IsInput (x : InputBytes) : Type 0 where
  pub frame : IsU32 x.frame
  pub size : length x.bytes ≡ most_width
  pub bytes : Bytes x.bytes

pub record IsPending (x : Pending) : Type 0 where
  pub size : length x.inputs.list ≡ most_pending
  pub inputs : Each IsInput x.inputs.list
  pub count : IsU64 x.inputs.count

pub record IsHistory (x : History) : Type 0 where
  pub size : length x.inputs.list ≡ most_received
  pub inputs : Each IsInput x.inputs.list
  pub count : IsU64 x.inputs.count

pub record IsNonces (x : Nonces) : Type 0 where
  pub size : length x.list.list ≡ most_nonces
  pub nonces : Each IsU32 x.list.list
  pub count : IsU64 x.list.count

abbrev pub IsChecksum : Checksum → Type 0
IsChecksum x = IsU32 x.frame × IsU64 x.low × IsU64 x.high

pub record IsChecksums (x : Checksums) : Type 0 where
  pub size : length x.entries.list ≡ most_checksums
  pub checksums : Each IsChecksum x.entries.list
  pub count : IsU64 x.entries.count

abbrev pub IsEvent : Event → Type 0
IsEvent (Event.Synchronizing total count) = IsU32 total × IsU32 count
IsEvent Event.Synchronized = Unit {0}
IsEvent (Event.Input frame player) = IsU32 frame × IsU32 player
IsEvent Event.Disconnected = Unit {0}
IsEvent (Event.NetworkInterrupted timeout) = IsU64 timeout
IsEvent Event.NetworkResumed = Unit {0}

pub record IsEntry (x : Entry) : Type 0 where
  pub event : IsEvent x.event
  pub size : length x.input ≡ most_input_size
  pub bytes : Bytes x.input

pub record IsEvents (x : Events) : Type 0 where
  pub size : length x.entries.list ≡ most_events
  pub entries : Each IsEntry x.entries.list
  pub count : IsU64 x.entries.count

pub record IsClocks (c : Clocks) : Type 0 where
  pub quality : IsU64 c.running_last_quality_report
  pub input : IsU64 c.running_last_input_recv
  pub send : IsU64 c.last_send_time
  pub request : IsU64 c.last_sync_request_time
  pub receive : IsU64 c.last_recv_time
  pub shutdown : IsU64 c.shutdown_timeout

pub record IsQuality (q : Quality) : Type 0 where
  pub local : IsU32 q.local_frame_advantage
  pub remote : IsU32 q.remote_frame_advantage
  pub trip : IsU64 q.round_trip_time
  pub start : IsU64 q.stats_start_time

-- of the handshake the phase is one of five, and of the flags each is one of two, whatever they are
pub record IsEndpoint (e : Endpoint) : Type 0 where
  pub setup : TypedSetup e.setup
  pub pending : IsPending e.pending
  pub acked : IsInput e.acked
  pub history : IsHistory e.history
  pub remaining : IsU32 e.sync.remaining
  pub magic : IsU16 e.sync.remote_magic
  pub nonces : IsNonces e.nonces
  pub clocks : IsClocks e.clocks
  pub quality : IsQuality e.quality
  pub statuses : IsStatuses e.statuses
  pub checksums : IsChecksums e.checksums
  pub events : IsEvents e.events
  pub queued : IsU64 e.queued
