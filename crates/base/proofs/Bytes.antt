-- Laws of lists of bytes: their parts are bytes.
use mathlib.Core.List.{List, [], ◌∷◌}
use Prim.Native.Nat.{ℕ, zero, suc, ◌+◌}
use native.Mathlib.Omega.{arith}
use lib.ListN.{take, drop}
use lib.Seq.{get_or-drop}
use Rattle.base.specs.Little.{Bytes}

pub bytes_take : (k : ℕ) (l : List ℕ) → Bytes l → Bytes (take k l)
bytes_take zero l h i = omega arith
bytes_take (suc k) [] h i = omega arith
bytes_take (suc k) (b ∷ bs) h zero = h 0
bytes_take (suc k) (b ∷ bs) h (suc i) = bytes_take k bs (λ j. h (suc j)) i

pub bytes_drop : (k : ℕ) (l : List ℕ) → Bytes l → Bytes (drop k l)
bytes_drop k l h i = rw get_or-drop (h (k + i))
