-- A list in an array of its full length: behind it stand as many blanks as are missing.
use mathlib.Core.List.{List, ◌++◌, append-nil}
use mathlib.Core.Path.{◌≡◌, ◌∙◌}
use native.Mathlib.Omega.{arith}
use Prim.Native.Nat.{ℕ, ◌-◌, ◌≤◌, min}
use lib.ListN.{length, take, replicate, length-append, length-replicate}
use lib.Seq.{take_all}
use Rattle.base.proofs.Padded.{take_join, take_alike}
use Rattle.endpoint_invariant.specs.Each.{Each}
use Rattle.endpoint_invariant.proofs.Eaches.{each_append, each_replicate}

module _ {X : Type 0} (most : ℕ) (blank : X) where
  -- a list that is longer than the array stays as it is
  abbrev pub filled : List X → List X
  filled l = l ++ replicate (most - length l) blank

  pub filled_size : (l : List X) → length l ≤ most → length (filled l) ≡ most
  filled_size l h = length-append l (replicate (most - length l) blank) ∙ omega (arith, length-replicate (most - length l) blank)

  pub filled_each : (P : X → Type 0) → P blank → (l : List X) → Each P l → Each P (filled l)
  filled_each P b l h = each_append P l _ h (each_replicate P (most - length l) blank b)

  -- its front is the list, by a count that takes no blank
  filled_front : (l : List X) (n : ℕ) → length l ≤ n → min (n - length l) (most - length l) ≡ 0 → take n (filled l) ≡ l
  filled_front l n h e =
      rw (take_join n l (replicate (most - length l) blank), take_all n l h, take_alike (n - length l) (most - length l) blank, e, append-nil)

  -- by its length
  pub filled_held : (l : List X) → take (length l) (filled l) ≡ l
  filled_held l = filled_front l (length l) (omega arith) (omega arith)

  -- by a count beyond the array too
  pub filled_counted : (l : List X) (n : ℕ) → length l ≡ min n most → take n (filled l) ≡ l
  filled_counted l n h = filled_front l n (omega arith) (omega arith)
