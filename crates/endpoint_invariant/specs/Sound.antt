-- What holds of every endpoint after every run of calls from `new` on: `new` gives it and every call keeps it (laws `fresh_sound`, `step_sound`).
use Rattle.std.specs.Prelude.{true, false, ◌||◌, List, [], ◌∷◌, ◌≡◌, ◌⊎◌, ℕ, suc, ◌+◌, ◌-◌, ◌*◌, ◌^◌, ◌≤◌, ◌<◌, length, drop, replicate}
use Rattle.ceilings.specs.Ceilings.{most_width, most_pending, most_nonces, most_checksums, most_firm_checksums, most_events}
use Rattle.base.specs.Keyed.{Distinct}
use Rattle.base.specs.Little.{Bytes}
use Rattle.frame.specs.Bias.{bias32, bias16, null_frame}
use Rattle.packing.specs.Pad.{zeros}
use Rattle.packing.specs.declared.input_bytes.InputBytes.{InputBytes}
use Rattle.pending.specs.Pending.{first_frame}
use Rattle.history.specs.History.{newest_of, stays, Ascending, blank_frame}
use Rattle.status.specs.declared.ConnectionStatus.{ConnectionStatus}
use Rattle.checksums.specs.declared.Checksum.{Checksum}
use Rattle.timers.specs.declared.Clocks.{Clocks}
use Rattle.quality.specs.declared.Quality.{Quality}
use Rattle.endpoint_rules.specs.declared.Phase.{Phase}
use Rattle.setup.specs.Setup.{SoundSetup, sending_width, receiving_width}
use Rattle.endpoint_rules.specs.Seen.{Seen, Sender, Receiver, Sync, is_initializing, is_synchronizing, is_running}
use Rattle.endpoint_rules.specs.Sending.{last_accepted}
use Rattle.endpoint_invariant.specs.Each.{Each}

-- ---- what carries inputs

-- an input of a width: 64 bytes, zeros past the width; the blank frame is all zeros
pub record Kept (width : ℕ) (x : InputBytes) : Type 0 where
  pub bytes : Bytes x.bytes
  pub size : length x.bytes ≡ most_width
  pub past : drop width x.bytes ≡ replicate (most_width - width) 0
  pub blank : x.frame ≡ null_frame → x.bytes ≡ zeros

-- frames one after the other
unfoldable pub Consecutive : (first : ℕ) → List InputBytes → Type 0
Consecutive first [] = Unit {0}
Consecutive first (x ∷ xs) = (x.frame ≡ first) × Consecutive (suc first) xs

-- the source's assert: the last acknowledged frame is none, or the first pending one is the next
abbrev pub FollowsOn : Sender → Type 0
FollowsOn x = (x.acked.frame ≡ null_frame) ⊎ (first_frame (suc x.acked.frame) x.pending ≡ suc x.acked.frame)

pub record SoundSender (width : ℕ) (x : Sender) : Type 0 where
  pub count : length x.pending ≤ most_pending
  pub consecutive : Consecutive (first_frame bias32 x.pending) x.pending
  pub follows : FollowsOn x
  -- no pending frame is negative, the last acknowledged one is none or not negative, and the last accepted one is a frame
  pub first : bias32 ≤ first_frame bias32 x.pending
  pub acked : null_frame ≤ x.acked.frame
  pub last : last_accepted x < 2 ^ 32
  pub inputs : Each (Kept width) x.pending
  pub reference : Kept width x.acked

pub record SoundReceiver (width max_prediction : ℕ) (r : Receiver) : Type 0 where
  pub ascending : Ascending null_frame r.history
  -- the newest is in it, for it is not empty; so it never gives 5
  pub some : 1 ≤ length r.history
  pub count : length r.history ≤ 2 * max_prediction + 1
  -- all are at or above the keep line
  pub stay : Each (λ (x : InputBytes). stays (newest_of r.history) max_prediction x.frame ≡ true) r.history
  pub newest : newest_of r.history < 2 ^ 32
  -- while nothing is received, the blank frame is held
  pub none : newest_of r.history ≡ null_frame → r.history ≡ blank_frame ∷ []
  pub inputs : Each (Kept width) r.history

-- ---- the handshake

pub record SoundSync (phase : Phase) (x : Sync) : Type 0 where
  pub distinct : Distinct (λ n. n) x.nonces
  pub count : length x.nonces ≤ most_nonces
  pub nonces : Each (λ n. n < 2 ^ 32) x.nonces
  pub remaining : x.remaining ≤ 5
  pub magic : x.remote_magic < 2 ^ 16
  -- before synchronize nothing is outstanding; until the fifth reply one at least is to come, and the filter is off; after it none is
  pub initializing : is_initializing phase ≡ true → (x.nonces ≡ []) × (x.remote_magic ≡ 0)
  pub synchronizing : is_synchronizing phase ≡ true → (1 ≤ x.remaining) × (x.remote_magic ≡ 0)
  pub running : is_running phase ≡ true → x.remaining ≡ 0

-- ---- the plain fields

pub record SoundClocks (c : Clocks) : Type 0 where
  pub quality : c.running_last_quality_report < 2 ^ 62
  pub input : c.running_last_input_recv < 2 ^ 62
  pub send : c.last_send_time < 2 ^ 62
  pub request : c.last_sync_request_time < 2 ^ 62
  pub receive : c.last_recv_time < 2 ^ 62
  -- a time that was asked for, and no reading
  pub shutdown : c.shutdown_timeout < 2 ^ 62 + 5000

pub record SoundQuality (q : Quality) : Type 0 where
  pub local : q.local_frame_advantage < 2 ^ 32
  -- it came as an i16
  pub remote : (bias32 - bias16 ≤ q.remote_frame_advantage) × (q.remote_frame_advantage < bias32 + bias16)
  pub trip : q.round_trip_time < 2 ^ 62
  pub start : q.stats_start_time < 2 ^ 62

abbrev pub SoundStatus : ConnectionStatus → Type 0
SoundStatus x = x.last_frame < 2 ^ 32

abbrev pub SoundChecksum : Checksum → Type 0
SoundChecksum x = (x.frame < 2 ^ 32) × (x.low < 2 ^ 64) × (x.high < 2 ^ 64)

pub record Sound (s : Seen) : Type 0 where
  pub setup : SoundSetup s.setup
  pub sender : SoundSender (sending_width s.setup) s.carried.sender
  pub receiver : SoundReceiver (receiving_width s.setup) s.setup.max_prediction s.carried.receiver
  pub sync : SoundSync s.phase s.sync
  pub clocks : SoundClocks s.clocks
  -- an interruption is announced in Running alone
  pub notify : is_initializing s.phase || is_synchronizing s.phase ≡ true → s.flags.disconnect_notify_sent ≡ false
  pub quality : SoundQuality s.quality
  pub players : length s.statuses ≡ s.setup.players
  pub statuses : Each SoundStatus s.statuses
  pub frames : Distinct (λ (x : Checksum). x.frame) s.checksums
  pub checksums : (length s.checksums ≤ most_checksums) × Each SoundChecksum s.checksums
  -- in firm mode at most 32 (E-72)
  pub firm : s.setup.choices.firm_checksums ≡ true → length s.checksums ≤ most_firm_checksums
  pub events : length s.events ≤ most_events
