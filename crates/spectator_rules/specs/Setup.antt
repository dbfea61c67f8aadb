-- The setup of a session (C-18 to C-20, S-1): the setup of its own endpoint, and when a number lies outside.
use Rattle.std.specs.Prelude.{Bool, ◌||◌, [], ◌∷◌, ℕ, ltb}
use Rattle.numbers.specs.Range.{outside}
use Rattle.ceilings.specs.Ceilings.{most_slots, most_session_events}
use Rattle.setup.specs.Setup.{any_of, bad_setup}
use Rattle.setup.specs.declared.Setup.{Setup}
use Rattle.spectator_rules.specs.declared.Limits.{Limits}
use Rattle.spectator_rules.specs.declared.SessionSetup.{SessionSetup}

-- its handles are 0 up to players - 1; it sends no inputs, so that one local player stands for none
unfoldable pub host_setup : SessionSetup → Setup
host_setup g =
    record {
      num_players = g.num_players;
      handles = record { list = 0 ∷ 1 ∷ 2 ∷ 3 ∷ []; count = g.num_players };
      local_players = 1;
      input_size = g.input_size;
      max_prediction = g.max_prediction;
      disconnect_timeout = g.disconnect_timeout;
      disconnect_notify_start = g.disconnect_notify_start;
      fps = g.fps;
      magic = g.magic;
      peer_addr = g.peer_addr;
      choices = g.choices;
    }

-- the most of `max_frames_behind` and of `catchup_speed` (C-20)
abbrev pub most_frames : ℕ
most_frames = 65535

-- limits outside their ceilings (C-18 to C-20)
unfoldable pub bad_limits : Limits → Bool
bad_limits l =
    any_of (outside 2 most_slots l.slots
    ∷ outside 1 most_session_events l.session_events
    ∷ ltb most_frames l.max_frames_behind
    ∷ ltb most_frames l.catchup_speed
    ∷ [])

-- 1 (N-1): a number is outside its range
unfoldable pub bad_session : SessionSetup → Bool
bad_session g = bad_setup (host_setup g) || bad_limits g.limits
