-- One player's connection status: whether the player is disconnected, and the last frame (biased) that is had from the player.
use Rattle.std.specs.Prelude.{◌≡◌, refl, Bool, true, false, ◌||◌, ℕ, max}
use Rattle.frame.specs.Bias.{null_frame}
use Rattle.status.specs.declared.ConnectionStatus.{ConnectionStatus}

-- before anything is heard
unfoldable pub default_status : ConnectionStatus
default_status = record { disconnected = false; last_frame = null_frame }

-- the status that a report of two fields gives: the one way by which a report enters the record
unfoldable pub reported : Bool → ℕ → ConnectionStatus
reported d f = record { disconnected = d; last_frame = f }

-- the or of the flags (M-1), the larger of the frames (M-2)
unfoldable pub merged : ConnectionStatus → ConnectionStatus → ConnectionStatus
merged x y = record {
  disconnected = x.disconnected || y.disconnected;
  last_frame = max x.last_frame y.last_frame;
}

-- worked: a disconnected player stays so when a later report says false, and the later frame stays; neither record as it is would do
flag-stays : merged (reported true 7) (reported false 9) ≡ reported true 9
unfolding merged reported
flag-stays = refl

later_stays : merged (reported false 9) (reported true 7) ≡ reported true 9
unfolding merged reported
later_stays = refl

neither : merged (reported false 9) (reported false 7) ≡ reported false 9
unfolding merged reported
neither = refl
