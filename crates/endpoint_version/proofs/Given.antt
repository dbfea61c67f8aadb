-- An answer by its number, with what is given where it is done.
use borrow.Author.Tests.{ne_eqb}
use mathlib.Core.Path.{◌≡◌, refl, sym}
use Prim.Native.Nat.{ℕ}
use lib.Dec.{eqb}
use Rattle.std.specs.Prelude.{Result, Ok, Err}
use Rattle.base.specs.Pick.{pick}
use Rattle.answer.specs.Number.{Answered, number_of, refusal_number}
use Rattle.answer.specs.declared.Refusal.{Refusal}
use Rattle.answer.proofs.Refused.{not_done}
use Rattle.quality.specs.declared.NetworkStats.{NetworkStats}
use Rattle.endpoint_rules.specs.Value.{Value}
use Rattle.endpoint.specs.Taken.{answer_in, count_in}
use Rattle.endpoint.specs.Shown.{shown_stats}

abbrev pub given : {X : Type 0} → Answered → X → Result X Refusal
given (Ok u) x = Ok x
given (Err r) x = Err r

pub given_answer : (a : Answered) (n : ℕ) → answer_in (given a n) ≡ a
given_answer (Ok u) n = refl
given_answer (Err r) n = refl

pub given_count : (a : Answered) (n : ℕ) → ((number_of a ≡ 0 → ⊥) → n ≡ 0) → count_in (given a n) ≡ n
given_count (Ok u) n h = refl
given_count (Err r) n h = sym (h (not_done r))

pub given_stats : (a : Answered) (s : NetworkStats) → shown_stats (given a s) ≡ (number_of a, pick (eqb (number_of a) 0) (Value.stats s) Value.nothing)
given_stats (Ok u) s = refl
given_stats (Err r) s = rw (ne_eqb (refusal_number r) 0 (not_done r))
