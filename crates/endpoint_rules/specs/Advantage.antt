-- The update of the local advantage.
use Rattle.std.specs.Prelude.{Bool, not, ◌&&◌, ℕ, eqb}
use Rattle.base.specs.Pick.{pick}
use Rattle.frame.specs.Bias.{null_frame}
use Rattle.quality.specs.Quality.{local_set}
use Rattle.quality.specs.Advantage.{advantage_of, advantage_overflows}
use Rattle.endpoint_rules.specs.Seen.{Seen, with_quality}
use Rattle.endpoint_rules.specs.Sending.{newest}

-- both frames are known (E-41)
abbrev pub both_known : (local_frame : ℕ) → Seen → Bool
both_known local_frame s = not (eqb local_frame null_frame) && not (eqb (newest s) null_frame)

abbrev pub local_overflows : (local_frame : ℕ) → Seen → Bool
local_overflows local_frame s = both_known local_frame s && advantage_overflows (newest s) s.quality.round_trip_time s.setup.fps local_frame

unfoldable pub local_advantage : (local_frame : ℕ) → Seen → Seen
local_advantage local_frame s =
    with_quality (local_set (advantage_of (newest s) s.quality.round_trip_time s.setup.fps local_frame) s.quality) s

unfoldable pub advantage_updated : (local_frame : ℕ) → Seen → Seen
advantage_updated local_frame s = pick (both_known local_frame s) (local_advantage local_frame s) s
