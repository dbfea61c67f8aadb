-- Reported advantages and the round trip time (E-33, E-34, E-42), and what each step changes of a connection's quality.
use Rattle.std.specs.Prelude.{◌≡◌, refl, ℕ, ◌+◌, ◌-◌, ltb, eqb}
use Rattle.base.specs.Pick.{pick}
use Rattle.frame.specs.Bias.{bias32, bias16}
use Rattle.quality.specs.declared.Quality.{Quality}

-- an advantage as it is reported, cut to i16 (E-42). Both numbers are held with their bias, and 2^31 - 2^15 lies between the two.
unfoldable pub clamped : ℕ → ℕ
clamped advantage = pick (ltb advantage (bias32 - bias16)) 0 (pick (ltb advantage (bias32 + bias16)) (advantage - (bias32 - bias16)) 65535)

-- an advantage as it travels, as an i32
unfoldable pub widened : ℕ → ℕ
widened advantage = advantage + (bias32 - bias16)

-- the round trip time by a pong (E-34); the pong is two halves, and one with a high half is past every epoch
unfoldable pub round_trip : (epoch low high : ℕ) → ℕ
round_trip epoch low high = pick (eqb high 0) (epoch - low) 0

-- as an endpoint starts: both advantages 0
abbrev pub fresh_quality : Quality
fresh_quality =
    record {
      local_frame_advantage = bias32;
      remote_frame_advantage = bias32;
      round_trip_time = 0;
      stats_start_time = 0;
    }

-- ---- one part set, all else as it was

abbrev pub started_at : ℕ → Quality → Quality
started_at epoch q =
    record {
      local_frame_advantage = q.local_frame_advantage;
      remote_frame_advantage = q.remote_frame_advantage;
      round_trip_time = q.round_trip_time;
      stats_start_time = epoch;
    }

abbrev pub remote_set : ℕ → Quality → Quality
remote_set advantage q =
    record {
      local_frame_advantage = q.local_frame_advantage;
      remote_frame_advantage = widened advantage;
      round_trip_time = q.round_trip_time;
      stats_start_time = q.stats_start_time;
    }

abbrev pub trip_noted : ℕ → Quality → Quality
trip_noted time q =
    record {
      local_frame_advantage = q.local_frame_advantage;
      remote_frame_advantage = q.remote_frame_advantage;
      round_trip_time = time;
      stats_start_time = q.stats_start_time;
    }

abbrev pub local_set : ℕ → Quality → Quality
local_set advantage q =
    record {
      local_frame_advantage = advantage;
      remote_frame_advantage = q.remote_frame_advantage;
      round_trip_time = q.round_trip_time;
      stats_start_time = q.stats_start_time;
    }

-- worked (P13): 40,000 is reported as 32,767, and -40,000 as -32,768
high_example : clamped (bias32 + 40000) ≡ bias16 + 32767
unfolding clamped
high_example = refl

low_example : clamped (bias32 - 40000) ≡ bias16 - 32768
unfolding clamped
low_example = refl

-- worked: -3 as it travels, and as it is held
travelling_example : clamped (bias32 - 3) ≡ bias16 - 3
unfolding clamped
travelling_example = refl

widened_example : widened (bias16 - 3) ≡ bias32 - 3
unfolding widened
widened_example = refl

-- worked: pong 900 at 1000, pong 1100 at 1000, and a pong above u64
trip_example : round_trip 1000 900 0 ≡ 100
unfolding round_trip
trip_example = refl

negative_example : round_trip 1000 1100 0 ≡ 0
unfolding round_trip
negative_example = refl

far_example : round_trip 1000 900 1 ≡ 0
unfolding round_trip
far_example = refl
