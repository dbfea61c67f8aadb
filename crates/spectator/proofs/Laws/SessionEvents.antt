-- One more session event: at the end where there is room, else the oldest dropped for it.
use mathlib.Core.List.{List, [], ◌∷◌, ◌++◌}
use mathlib.Core.Path.{◌≡◌}
use Prim.Native.Nat.{ℕ, ◌+◌, ◌-◌, ◌≤◌, min}
use native.Mathlib.Nat.{sub-zero}
use native.Mathlib.Omega.{arith}
use lib.ListN.{length, drop, length-append}
use lib.Seq.{drop-length, drop-append-le}
use Rattle.base.specs.Last.{last_of}
use Rattle.spectator_rules.specs.declared.SessionEntry.{SessionEntry}
use Rattle.spectator_rules.specs.Handling.{event_added}

module _ (most : ℕ) (x : SessionEntry) (l : List SessionEntry) where
  pub announced_none : min most 128 ≡ 0 → [] ≡ event_added most x l
  unfolding event_added last_of
  announced_none h = rw (h, sub-zero, drop-length)

  -- n: how many are dropped for it
  pub announced : (n : ℕ) → n ≡ length l + 1 - min most 128 → 1 ≤ min most 128 → length l ≤ 128 → drop n l ++ x ∷ [] ≡ event_added most x l
  unfolding event_added last_of
  announced n e h b =
      let z : length (l ++ x ∷ []) - min most 128 ≡ n = omega (arith, length-append l (x ∷ [])) in
      rw (z, drop-append-le n l (x ∷ []) (omega arith))
