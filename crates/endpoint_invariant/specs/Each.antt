-- What holds of every element of a list.
use Rattle.std.specs.Prelude.{List, [], ◌∷◌}

unfoldable pub Each : {X : Type 0} → (X → Type 0) → List X → Type 0
Each P [] = Unit {0}
Each P (x ∷ xs) = P x × Each P xs
