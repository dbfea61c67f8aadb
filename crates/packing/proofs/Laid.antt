-- The two answers of a call that lays bytes at a place of a lent buffer.
use borrow.Author.Tests.{lt-ltb, le-ltb}
use mathlib.Core.Path.{◌≡◌}
use mathlib.Core.Bool.{true, false}
use mathlib.Core.List.{List}
use Prim.Native.Nat.{ℕ, ◌+◌, ◌≤◌, ◌<◌}
use lib.ListN.{length}
use lib.Seq.{paste, take-length}
use Rattle.base.specs.Lay.{laid_at}
use Rattle.packing.specs.Packing.{PlacedAs}

module _ (before : List ℕ) (at : ℕ) (bytes : List ℕ) where
  pub laid_not : length before < at + length bytes → PlacedAs before at bytes false before
  laid_not h = record { done = rw (lt-ltb _ _ h); lent = rw (lt-ltb _ _ h) }

  pub laid_all : (after : List ℕ) → at + length bytes ≤ length before → after ≡ laid_at before at bytes → PlacedAs before at bytes true after
  laid_all after h e = record { done = rw (le-ltb _ _ h); lent = rw (le-ltb _ _ h) e }

  -- a copy of all of them is them laid
  pub laid_paste : (n : ℕ) → n ≡ length bytes → paste before at bytes n ≡ laid_at before at bytes
  unfolding laid_at
  laid_paste n e = rw (e, take-length)
