-- Two answers that a contract allows are equal, once for every contract that is an equation: `shown r ≡ x` leaves no choice of `shown r`,
-- where `shown` is what of an answer, a state or a lent buffer counts (the answer itself, its number, a store's view).
use mathlib.Core.Path.{◌≡◌, sym, ◌∙◌}

pub settled : {R A : Type 0} (shown : R → A) (x : A) (r s : R) → shown r ≡ x → shown s ≡ x → shown r ≡ shown s
settled shown x r s e f = e ∙ sym f
