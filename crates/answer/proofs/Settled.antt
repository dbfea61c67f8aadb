-- Two answers that a contract allows are equal, by name for each public function.
use Rattle.std.proofs.Common.{◌≡◌, ℕ}
use Rattle.base.proofs.Settled.{settled}
use Rattle.answer.specs.Number.{Answered, number_of, refusal_number}
use Rattle.answer.specs.declared.Refusal.{Refusal}

pub number_of_settled : (a : Answered) (r s : ℕ) → r ≡ number_of a → s ≡ number_of a → r ≡ s
number_of_settled a = settled (λ r. r) (number_of a)

pub number_settled : (a : Refusal) (r s : ℕ) → r ≡ refusal_number a → s ≡ refusal_number a → r ≡ s
number_settled a = settled (λ r. r) (refusal_number a)
