-- Tests joined by or, one after the other, are whether one of them holds; where none does, each is false.
use mathlib.Core.Bool.{Bool, true, false, ◌||◌}
use mathlib.Core.List.{List, [], ◌∷◌, foldl}
use mathlib.Core.Path.{◌≡◌, refl}
use Rattle.base.specs.Pick.{pick}
use Rattle.setup.specs.Setup.{any_of}

pub or_any : (t : Bool) (ts : List Bool) → foldl ◌||◌ t ts ≡ any_of (t ∷ ts)
or_any true [] = refl
or_any false [] = refl
or_any true (s ∷ ts) = or_any true ts
or_any false (s ∷ ts) = or_any s ts

pub neither : (s t : Bool) → pick s true t ≡ false → (s ≡ false) × (t ≡ false)
neither true t e = (e, cc)
neither false t e = (refl, e)

abbrev pub NoneOf : List Bool → Type 0
NoneOf [] = Unit {0}
NoneOf (t ∷ ts) = (t ≡ false) × NoneOf ts

pub none_holds : (ts : List Bool) → any_of ts ≡ false → NoneOf ts
none_holds [] e = tt
none_holds (t ∷ ts) e = let n = neither t (any_of ts) e in (n.0, none_holds ts n.1)
