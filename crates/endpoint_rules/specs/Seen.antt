-- What is seen of an endpoint: the lists that its stores hold and its plain fields, in small groups; and the state in which it is made.
use Rattle.std.specs.Prelude.{Bool, true, false, List, [], ◌∷◌, ℕ}
use Rattle.packing.specs.declared.input_bytes.InputBytes.{InputBytes}
use Rattle.history.specs.History.{blank_frame}
use Rattle.status.specs.declared.ConnectionStatus.{ConnectionStatus}
use Rattle.status.specs.Statuses.{default_statuses}
use Rattle.checksums.specs.declared.Checksum.{Checksum}
use Rattle.events.specs.declared.Entry.{Entry}
use Rattle.setup.specs.Setup.{Terms, terms_with, sorted, handle_list}
use Rattle.setup.specs.declared.Setup.{Setup}
use Rattle.timers.specs.declared.Clocks.{Clocks}
use Rattle.timers.specs.Timers as Timers
use Rattle.quality.specs.declared.Quality.{Quality}
use Rattle.quality.specs.Quality.{fresh_quality}
use Rattle.endpoint_rules.specs.declared.Flags.{Flags}
use Rattle.endpoint_rules.specs.declared.Phase.{Phase}
use Rattle.endpoint_rules.specs.declared.Phase.TheVariants.{Initializing, Synchronizing, Running, Disconnected, Shutdown}

-- what carries inputs: those sent and not acknowledged, oldest first, with the last acknowledged one; and those received
pub record Sender : Type 0 where
  pub pending : List InputBytes
  pub acked : InputBytes

pub record Receiver : Type 0 where
  pub history : List InputBytes

pub record Carried : Type 0 where
  pub sender : Sender
  pub receiver : Receiver

-- the handshake: replies still to come, nonces outstanding, and the other end's magic, 0 while the filter is off
pub record Sync : Type 0 where
  pub remaining : ℕ
  pub nonces : List ℕ
  pub remote_magic : ℕ

pub record Seen : Type 0 where
  pub setup : Terms
  pub carried : Carried
  pub phase : Phase
  pub sync : Sync
  pub clocks : Clocks
  pub flags : Flags
  pub quality : Quality
  pub statuses : List ConnectionStatus
  pub checksums : List Checksum
  pub events : List Entry
  pub queued : ℕ

-- ---- phases

abbrev pub is_initializing : Phase → Bool
is_initializing Initializing = true
is_initializing Synchronizing = false
is_initializing Running = false
is_initializing Disconnected = false
is_initializing Shutdown = false

abbrev pub is_synchronizing : Phase → Bool
is_synchronizing Initializing = false
is_synchronizing Synchronizing = true
is_synchronizing Running = false
is_synchronizing Disconnected = false
is_synchronizing Shutdown = false

abbrev pub is_running : Phase → Bool
is_running Initializing = false
is_running Synchronizing = false
is_running Running = true
is_running Disconnected = false
is_running Shutdown = false

abbrev pub is_disconnected : Phase → Bool
is_disconnected Initializing = false
is_disconnected Synchronizing = false
is_disconnected Running = false
is_disconnected Disconnected = true
is_disconnected Shutdown = false

abbrev pub is_shutdown : Phase → Bool
is_shutdown Initializing = false
is_shutdown Synchronizing = false
is_shutdown Running = false
is_shutdown Disconnected = false
is_shutdown Shutdown = true

-- ---- one group set, all else as it was

abbrev pub with_carried : Carried → Seen → Seen
with_carried x s = record { setup = s.setup; carried = x; phase = s.phase; sync = s.sync; clocks = s.clocks; flags = s.flags; quality = s.quality; statuses = s.statuses; checksums = s.checksums; events = s.events; queued = s.queued }

abbrev pub with_phase : Phase → Seen → Seen
with_phase x s = record { setup = s.setup; carried = s.carried; phase = x; sync = s.sync; clocks = s.clocks; flags = s.flags; quality = s.quality; statuses = s.statuses; checksums = s.checksums; events = s.events; queued = s.queued }

abbrev pub with_sync : Sync → Seen → Seen
with_sync x s = record { setup = s.setup; carried = s.carried; phase = s.phase; sync = x; clocks = s.clocks; flags = s.flags; quality = s.quality; statuses = s.statuses; checksums = s.checksums; events = s.events; queued = s.queued }

abbrev pub with_clocks : Clocks → Seen → Seen
with_clocks x s = record { setup = s.setup; carried = s.carried; phase = s.phase; sync = s.sync; clocks = x; flags = s.flags; quality = s.quality; statuses = s.statuses; checksums = s.checksums; events = s.events; queued = s.queued }

abbrev pub with_flags : Flags → Seen → Seen
with_flags x s = record { setup = s.setup; carried = s.carried; phase = s.phase; sync = s.sync; clocks = s.clocks; flags = x; quality = s.quality; statuses = s.statuses; checksums = s.checksums; events = s.events; queued = s.queued }

abbrev pub with_quality : Quality → Seen → Seen
with_quality x s = record { setup = s.setup; carried = s.carried; phase = s.phase; sync = s.sync; clocks = s.clocks; flags = s.flags; quality = x; statuses = s.statuses; checksums = s.checksums; events = s.events; queued = s.queued }

abbrev pub with_statuses : List ConnectionStatus → Seen → Seen
with_statuses x s = record { setup = s.setup; carried = s.carried; phase = s.phase; sync = s.sync; clocks = s.clocks; flags = s.flags; quality = s.quality; statuses = x; checksums = s.checksums; events = s.events; queued = s.queued }

abbrev pub with_checksums : List Checksum → Seen → Seen
with_checksums x s = record { setup = s.setup; carried = s.carried; phase = s.phase; sync = s.sync; clocks = s.clocks; flags = s.flags; quality = s.quality; statuses = s.statuses; checksums = x; events = s.events; queued = s.queued }

abbrev pub with_events : List Entry → Seen → Seen
with_events x s = record { setup = s.setup; carried = s.carried; phase = s.phase; sync = s.sync; clocks = s.clocks; flags = s.flags; quality = s.quality; statuses = s.statuses; checksums = s.checksums; events = x; queued = s.queued }

abbrev pub with_queued : ℕ → Seen → Seen
with_queued x s = record { setup = s.setup; carried = s.carried; phase = s.phase; sync = s.sync; clocks = s.clocks; flags = s.flags; quality = s.quality; statuses = s.statuses; checksums = s.checksums; events = s.events; queued = x }

-- ---- one clock set

abbrev pub quality_at : ℕ → Seen → Seen
quality_at now s = with_clocks (Timers.quality_at now s.clocks) s

abbrev pub input_at : ℕ → Seen → Seen
input_at now s = with_clocks (Timers.input_at now s.clocks) s

abbrev pub sent_at : ℕ → Seen → Seen
sent_at now s = with_clocks (Timers.sent_at now s.clocks) s

abbrev pub request_at : ℕ → Seen → Seen
request_at now s = with_clocks (Timers.request_at now s.clocks) s

abbrev pub heard_at : ℕ → Seen → Seen
heard_at now s = with_clocks (Timers.heard_at now s.clocks) s

abbrev pub shutdown_at : ℕ → Seen → Seen
shutdown_at time s = with_clocks (Timers.shutdown_at time s.clocks) s

-- ---- the endpoint as it is made: its clocks at now, both advantages 0, the blank frame in the history and as the reference
unfoldable pub made : Setup → ℕ → Seen
made g now =
    record {
      setup = terms_with (sorted (handle_list g.handles)) g;
      carried = record { sender = record { pending = []; acked = blank_frame }; receiver = record { history = blank_frame ∷ [] } };
      phase = Initializing;
      sync = record { remaining = 5; nonces = []; remote_magic = 0 };
      clocks = Timers.made_at now;
      flags = record { disconnect_notify_sent = false; disconnect_event_sent = false };
      quality = fresh_quality;
      statuses = default_statuses g.num_players;
      checksums = [];
      events = [];
      queued = 0;
    }
