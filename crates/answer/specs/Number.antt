-- The number of each answer (N-1 to N-18), and the answer of each number; that the number determines the answer stands in proofs/Number.antt.
use Rattle.std.specs.Prelude.{List, [], ◌∷◌, ◌≡◌, ℕ, zero, suc, ◌+◌, ◌≤◌, ◌<◌, get_or, Result, Ok, Err}
use Rattle.std.proofs.Common.{sym, ◌∙◌, zero-add, add-zero, arith}
use Rattle.std.proofs.Math.ListN.{get_or-map}
use Rattle.answer.specs.declared.Refusal.{Refusal}
use Rattle.answer.specs.declared.Refusal.TheVariants.{BadSetup, WrongState, BadLength, BadFrame, Full, Overflow, BadHandle, BadClock, Short, BadKind, BadBool, TooLong, Extra, NotSynchronized, NotEnoughData, PredictionThreshold, SpectatorTooFarBehind}

-- what the code calls an Answer: done, or a refusal
abbrev pub Answered : Type 0
Answered = Result Unit Refusal

abbrev pub done : Answered
done = Ok tt

abbrev pub refusal_number : Refusal → ℕ
refusal_number BadSetup = 1
refusal_number WrongState = 2
refusal_number BadLength = 3
refusal_number BadFrame = 4
refusal_number Full = 5
refusal_number Overflow = 6
refusal_number BadHandle = 7
refusal_number BadClock = 8
refusal_number Short = 9
refusal_number BadKind = 10
refusal_number BadBool = 11
refusal_number TooLong = 12
refusal_number Extra = 13
refusal_number NotSynchronized = 14
refusal_number NotEnoughData = 15
refusal_number PredictionThreshold = 16
refusal_number SpectatorTooFarBehind = 17

abbrev pub number_of : Answered → ℕ
number_of (Ok u) = 0
number_of (Err refusal) = refusal_number refusal

-- all of them by their numbers, and the answer that has a number
abbrev pub answers : List Answered
answers =
    done ∷ Err BadSetup ∷ Err WrongState ∷ Err BadLength ∷ Err BadFrame ∷ Err Full ∷ Err Overflow ∷ Err BadHandle ∷ Err BadClock ∷ Err Short ∷ Err BadKind ∷ Err BadBool ∷ Err TooLong ∷ Err Extra ∷ Err NotSynchronized ∷ Err NotEnoughData ∷ Err PredictionThreshold ∷ Err SpectatorTooFarBehind ∷ []

abbrev pub answer_of : ℕ → Answered
answer_of n = get_or answers n (Err SpectatorTooFarBehind)

-- every number up to 17 is its answer's
abbrev from : (first count : ℕ) → List ℕ
from first zero = []
from first (suc count) = first ∷ from (suc first) count

from_at : (first count n d : ℕ) → n < count → get_or (from first count) n d ≡ first + n
from_at first zero n d h = absurd (omega arith)
from_at first (suc count) zero d h = sym (add-zero first)
from_at first (suc count) (suc n) d h = let e = from_at (suc first) count n d (omega arith) in omega arith

pub number_back : (n : ℕ) → n ≤ 17 → number_of (answer_of n) ≡ n
number_back n h = sym (get_or-map number_of answers n (Err SpectatorTooFarBehind)) ∙ from_at 0 18 n 17 (omega arith) ∙ zero-add n
