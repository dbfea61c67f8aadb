-- An answer back from its number, so that the number determines the answer (N-1 to N-18).
use Rattle.std.proofs.Common.{◌≡◌, refl, sym, ◌∙◌, ap, Ok, Err}
use Rattle.answer.specs.declared.Refusal.TheVariants.{BadSetup, WrongState, BadLength, BadFrame, Full, Overflow, BadHandle, BadClock, Short, BadKind, BadBool, TooLong, Extra, NotSynchronized, NotEnoughData, PredictionThreshold, SpectatorTooFarBehind}
use Rattle.answer.specs.Number.{Answered, number_of, answer_of}

back : (a : Answered) → answer_of (number_of a) ≡ a
back (Ok u) = refl
back (Err BadSetup) = refl
back (Err WrongState) = refl
back (Err BadLength) = refl
back (Err BadFrame) = refl
back (Err Full) = refl
back (Err Overflow) = refl
back (Err BadHandle) = refl
back (Err BadClock) = refl
back (Err Short) = refl
back (Err BadKind) = refl
back (Err BadBool) = refl
back (Err TooLong) = refl
back (Err Extra) = refl
back (Err NotSynchronized) = refl
back (Err NotEnoughData) = refl
back (Err PredictionThreshold) = refl
back (Err SpectatorTooFarBehind) = refl

-- two answers with one number are equal
pub number_determines : (a b : Answered) → number_of a ≡ number_of b → a ≡ b
number_determines a b e = sym (back a) ∙ ap answer_of e ∙ back b
