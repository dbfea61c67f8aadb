-- A call's arguments, and a setup, are values of the code's types: the widths of numbers, arrays of their length. No ceiling (C-1 to C-20) is among them.
use Rattle.std.specs.Prelude.{List, ◌≡◌, ℕ, ◌^◌, ◌<◌, min, length}
use Rattle.base.specs.Little.{Bytes}
use Rattle.ceilings.specs.Ceilings.{most_players}
use Rattle.status.specs.declared.ConnectionStatus.{ConnectionStatus}
use Rattle.codec.specs.Message.{Wire, FitsWide, FitsBody, FitsReports}
use Rattle.setup.specs.declared.Setup.{Setup}
use Rattle.setup.specs.declared.DesyncDetection.{DesyncDetection}
use Rattle.setup.specs.declared.DesyncDetection.TheVariants.{Off, On}
use Rattle.endpoint_rules.specs.Call.{Call, Question}
use Rattle.endpoint_invariant.specs.Each.{Each}

abbrev pub IsU16 : ℕ → Type 0
IsU16 n = n < 2 ^ 16

abbrev pub IsU32 : ℕ → Type 0
IsU32 n = n < 2 ^ 32

abbrev pub IsU64 : ℕ → Type 0
IsU64 n = n < 2 ^ 64

-- of a list of statuses, four are given at most
pub record TypedStatuses (count : ℕ) (statuses : List ConnectionStatus) : Type 0 where
  pub few : length statuses ≡ min count most_players
  pub frames : Each (λ (x : ConnectionStatus). IsU32 x.last_frame) statuses

pub record TypedWire (w : Wire) : Type 0 where
  pub magic : IsU16 w.magic
  pub body : FitsBody w.body
  pub frames : FitsReports w.reports
  pub bytes : Bytes w.payload

-- the readings and the lent buffer's length that most calls are given
abbrev pub TypedPlace : (now epoch nonce buffer : ℕ) → Type 0
TypedPlace now epoch nonce buffer = IsU64 now × IsU64 epoch × IsU32 nonce × IsU64 buffer

abbrev pub TypedQuestion : Question → Type 0
TypedQuestion Question.handles = Unit {0}
TypedQuestion Question.is_synchronized = Unit {0}
TypedQuestion Question.is_running = Unit {0}
TypedQuestion (Question.is_handling_message from) = IsU32 from
TypedQuestion Question.newest_frame = Unit {0}
TypedQuestion Question.state = Unit {0}
TypedQuestion Question.checksums = Unit {0}

abbrev pub Typed : Call → Type 0
Typed (Call.synchronize now epoch nonce buffer) = TypedPlace now epoch nonce buffer
Typed (Call.message from count w now epoch nonce buffer) = IsU32 from × IsU64 count × TypedWire w × TypedPlace now epoch nonce buffer
Typed (Call.datagram from bytes now epoch nonce buffer) = IsU32 from × Bytes bytes × TypedPlace now epoch nonce buffer
Typed (Call.act count statuses now epoch nonce buffer) = IsU64 count × TypedStatuses count statuses × TypedPlace now epoch nonce buffer
Typed (Call.send_input frame bytes count statuses now buffer) = IsU32 frame × Bytes bytes × IsU64 count × TypedStatuses count statuses × IsU64 now × IsU64 buffer
Typed (Call.disconnect now) = IsU64 now
Typed (Call.send_checksum_report frame checksum now buffer) = IsU32 frame × FitsWide checksum × IsU64 now × IsU64 buffer
Typed (Call.update_local_frame_advantage local_frame) = IsU32 local_frame
Typed (Call.network_stats epoch) = IsU64 epoch
Typed (Call.peer_connect_status handle) = IsU64 handle
Typed Call.take_events = Unit {0}
Typed (Call.take_messages buffer) = IsU64 buffer
Typed (Call.ask question) = TypedQuestion question

abbrev pub TypedDesync : DesyncDetection → Type 0
TypedDesync Off = Unit {0}
TypedDesync (On interval) = IsU32 interval

pub record TypedSetup (g : Setup) : Type 0 where
  pub players : IsU32 g.num_players
  pub handles : length g.handles.list ≡ most_players
  pub handle : Each IsU32 g.handles.list
  pub count : IsU64 g.handles.count
  pub local_players : IsU32 g.local_players
  pub input_size : IsU32 g.input_size
  pub max_prediction : IsU32 g.max_prediction
  pub disconnect_timeout : IsU64 g.disconnect_timeout
  pub notify_start : IsU64 g.disconnect_notify_start
  pub fps : IsU32 g.fps
  pub magic : IsU16 g.magic
  pub peer : IsU32 g.peer_addr
  pub desync : TypedDesync g.choices.desync_detection
