-- Laws of the last ones of a list (specs/Last.antt), over the element type.
use mathlib.Core.List.{List, ◌∷◌}
use mathlib.Core.Path.{◌≡◌}
use Prim.Native.Nat.{ℕ, ◌-◌, ◌≤◌}
use native.Mathlib.Omega.{arith}
use lib.ListN.{length, length-drop}
use Rattle.base.specs.Last.{last_of}

module _ {X : Type 0} (n : ℕ) where
  -- n at the most
  pub last_few : (l : List X) → length (last_of n l) ≤ n
  unfolding last_of
  last_few l = rw length-drop (omega arith)

  -- where there are no more, all
  pub last_all : (l : List X) → length l ≤ n → last_of n l ≡ l
  unfolding last_of
  last_all l h =
      let none : length l - n ≡ 0 = omega arith in
      rw none

  -- where there is one more, all but the first
  pub last_rest : (x : X) (l : List X) → length l ≡ n → last_of n (x ∷ l) ≡ l
  unfolding last_of
  last_rest x l h =
      let one : length (x ∷ l) - n ≡ 1 = omega arith in
      rw one
