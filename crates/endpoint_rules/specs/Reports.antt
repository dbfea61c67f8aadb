-- Quality reports and replies, and what network_stats shows.
use Rattle.std.specs.Prelude.{Bool, not, ◌||◌, ℕ, ◌-◌, ltb, length}
use Rattle.codec.specs.declared.Wide.{Wide}
use Rattle.codec.specs.declared.MessageBody.TheVariants.{QualityReport, QualityReply}
use Rattle.quality.specs.Quality.{clamped, round_trip, remote_set, trip_noted}
use Rattle.quality.specs.declared.NetworkStats.{NetworkStats}
use Rattle.endpoint_rules.specs.declared.Phase.{Phase}
use Rattle.endpoint_rules.specs.Seen.{Seen, is_synchronizing, is_running, with_quality, quality_at}
use Rattle.endpoint_rules.specs.Did.{Effect, change, queue}
use Rattle.endpoint_rules.specs.Handshake.{Reaction, plainly}

-- low half epoch, high half 0
abbrev pub ping_of : ℕ → Wide
ping_of epoch = record { low = epoch; high = 0 }

unfoldable pub report_queued : (now epoch : ℕ) → Effect → Effect
report_queued now epoch e = queue now (QualityReport (clamped e.state.quality.local_frame_advantage) (ping_of epoch)) (change (quality_at now) e)

unfoldable pub remote_advantage : ℕ → Seen → Seen
remote_advantage advantage s =
    with_quality (remote_set advantage s.quality) s

-- the ping goes back as the pong (E-33)
unfoldable pub on_quality_report : (now advantage : ℕ) → (ping : Wide) → Effect → Reaction
on_quality_report now advantage ping e = plainly (queue now (QualityReply ping) (change (remote_advantage advantage) e))

unfoldable pub round_trip_noted : ℕ → Seen → Seen
round_trip_noted time s =
    with_quality (trip_noted time s.quality) s

unfoldable pub on_quality_reply : (epoch : ℕ) → (pong : Wide) → Effect → Reaction
on_quality_reply epoch pong e = plainly (change (round_trip_noted (round_trip epoch pong.low pong.high)) e)

-- 14 (N-14): neither synchronizing nor running
abbrev pub not_synchronized_in : Phase → Bool
not_synchronized_in phase = not (is_synchronizing phase || is_running phase)

abbrev pub not_synchronized : Seen → Bool
not_synchronized s = not_synchronized_in s.phase

-- 15 (N-15): less than a second since the start, or before it
abbrev pub early_by : (start epoch : ℕ) → Bool
early_by start epoch = ltb (epoch - start) 1000

abbrev pub not_enough_data : (epoch : ℕ) → Seen → Bool
not_enough_data epoch s = early_by s.quality.stats_start_time epoch

unfoldable pub stats_of : Seen → NetworkStats
stats_of s =
    record {
      ping = s.quality.round_trip_time;
      send_queue_len = length s.carried.sender.pending;
      local_frames_behind = s.quality.local_frame_advantage;
      remote_frames_behind = s.quality.remote_frame_advantage;
    }
