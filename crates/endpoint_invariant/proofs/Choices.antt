-- Tests of a call that did not hold, and choices by one.
use mathlib.Core.Bool.{Bool, true, false, ◌&&◌}
use mathlib.Core.Path.{◌≡◌, refl}
use Prim.Native.Nat.{ℕ, suc}
use native.Mathlib.Omega.{arith}
use Rattle.base.specs.Pick.{pick}

pub never : {A : Type 0} → false ≡ true → A
never e = absurd (let z : ◌≡◌ {A = ℕ} 0 1 = cc in omega arith)

pub and_none : (a b : Bool) → a && b ≡ false → a ≡ true → b ≡ false
and_none true b e h = e
and_none false b e h = never h

-- the first test of a list of refusals, where none was given
pub passes : (t : Bool) (n r : ℕ) → pick t (suc n) r ≡ 0 → (t ≡ false) × (r ≡ 0)
passes true n r e = absurd (omega arith)
passes false n r e = (refl, e)

-- what holds of both holds of the one chosen
pub by_pick : {A : Type 0} (P : A → Type 0) (t : Bool) (a b : A) → (t ≡ true → P a) → (t ≡ false → P b) → P (pick t a b)
by_pick P true a b f g = f refl
by_pick P false a b f g = g refl
