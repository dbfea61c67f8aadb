-- What holds of each element of two lists holds of each element of the one after the other.
use mathlib.Core.List.{List, [], ◌∷◌, ◌++◌}
use Prim.Native.Nat.{ℕ, zero, suc, ◌<◌}
use native.Mathlib.Omega.{arith}
use lib.ListN.{length, get_or}

pub each_append : {X : Type 0} (P : X → Type 0) (z : X) (l m : List X) → ((i : ℕ) → i < length l → P (get_or l i z)) → ((i : ℕ) → i < length m → P (get_or m i z))
    → (i : ℕ) → i < length (l ++ m) → P (get_or (l ++ m) i z)
each_append P z [] m p q i h = q i h
each_append P z (x ∷ l) m p q zero h = p zero (omega arith)
each_append P z (x ∷ l) m p q (suc i) h = each_append P z l m (λ j k. p (suc j) (omega arith)) q i (omega arith)
