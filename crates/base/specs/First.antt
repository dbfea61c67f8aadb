-- The refusals of a call, as one list in their order (N-20): the number beside the first test that holds, 0 where none does.
use Rattle.std.specs.Prelude.{Bool, true, false, List, [], ◌∷◌, ◌≡◌, refl, ℕ}
use Rattle.base.specs.Pick.{pick}

abbrev pub first_of : List (Bool × ℕ) → ℕ
first_of [] = 0
first_of (t ∷ ts) = pick t.0 t.1 (first_of ts)

-- worked: the first that holds wins, and none is done
first_wins : first_of ((false, 8) ∷ (true, 3) ∷ (true, 5) ∷ []) ≡ 3
first_wins = refl

none_holds : first_of ((false, 8) ∷ (false, 5) ∷ []) ≡ 0
none_holds = refl
