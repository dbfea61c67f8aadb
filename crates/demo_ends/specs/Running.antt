-- A plain setup of two players, and an endpoint as the handshake leaves it.
use Rattle.std.specs.Prelude.{[], ◌∷◌, ℕ}
use Rattle.setup.specs.declared.Setup.{Setup}
use Rattle.setup.specs.declared.DesyncDetection.TheVariants.{On}
use Rattle.setup.specs.Setup.{choices_with}
use Rattle.endpoint_rules.specs.declared.Phase.TheVariants.{Running}
use Rattle.endpoint_rules.specs.Seen.{Seen, with_phase, with_sync}

-- one player at each end, inputs of a byte; `player` is the one at the other end
unfoldable pub two_players : (magic peer player : ℕ) → Setup
two_players magic peer player =
    record {
      num_players = 2;
      handles = record { list = player ∷ 0 ∷ 0 ∷ 0 ∷ []; count = 1 };
      local_players = 1;
      input_size = 1;
      max_prediction = 8;
      disconnect_timeout = 2000;
      disconnect_notify_start = 500;
      fps = 60;
      magic = magic;
      peer_addr = peer;
      choices = choices_with (On 1);
    }

-- in Running, with no reply to come and the filter on the other end's magic; all else as it was
unfoldable pub synchronized_with : (magic : ℕ) → Seen → Seen
synchronized_with magic s = with_phase Running (with_sync (record { remaining = 0; nonces = s.sync.nonces; remote_magic = magic }) s)
