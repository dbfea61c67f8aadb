-- What is known of each of two tests that are asked together, and when two are the same.
use mathlib.Core.Bool.{Bool, true, false, ◌&&◌, ◌||◌}
use mathlib.Core.Path.{◌≡◌, refl, sym}
use Rattle.base.specs.Pick.{pick}

pub both : (x y : Bool) → (x && y) ≡ true → (x ≡ true) × (y ≡ true)
both true y h = (refl, h)
both false y h = (cc, cc)

pub neither : (x y : Bool) → (x || y) ≡ false → (x ≡ false) × (y ≡ false)
neither true y h = (cc, cc)
neither false y h = (refl, h)

-- two that hold under the same conditions
pub alike : (x y : Bool) → (x ≡ true → y ≡ true) → (y ≡ true → x ≡ true) → x ≡ y
alike true y f g = sym (f refl)
alike false true f g = g refl
alike false false f g = refl

-- one that is asked only where another holds: both hold
pub pick_and : (x y : Bool) → pick x y false ≡ x && y
pick_and true y = refl
pick_and false y = refl
