-- The one table of sizes (W-7).
use Rattle.std.specs.Prelude.{List, [], ◌∷◌, ℕ, get_or}

-- total sizes by kind; an Input adds 5 per status and 1 per payload byte
abbrev pub fixed_sizes : List ℕ
fixed_sizes = 10 ∷ 10 ∷ 31 ∷ 10 ∷ 24 ∷ 22 ∷ 26 ∷ 6 ∷ []

abbrev pub fixed_size : ℕ → ℕ
fixed_size kind = get_or fixed_sizes kind 0
