-- Text of one line: every byte is a space or stands after it in ASCII, so none is a newline.
use Rattle.std.specs.Prelude.{List, ℕ, ◌<◌, ◌≤◌, length, get_or}

pub record Printed (text : List ℕ) : Type 0 where
  pub each : (i : ℕ) → i < length text → 32 ≤ get_or text i 0
