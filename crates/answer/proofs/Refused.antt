-- A refusal is not done: its number is not 0.
use Rattle.std.proofs.Common.{◌≡◌, arith}
use Rattle.answer.specs.declared.Refusal.{Refusal}
use Rattle.answer.specs.declared.Refusal.TheVariants.{BadSetup, WrongState, BadLength, BadFrame, Full, Overflow, BadHandle, BadClock, Short, BadKind, BadBool, TooLong, Extra, NotSynchronized, NotEnoughData, PredictionThreshold, SpectatorTooFarBehind}
use Rattle.answer.specs.Number.{refusal_number}

pub not_done : (r : Refusal) → refusal_number r ≡ 0 → ⊥
not_done BadSetup e = omega arith
not_done WrongState e = omega arith
not_done BadLength e = omega arith
not_done BadFrame e = omega arith
not_done Full e = omega arith
not_done Overflow e = omega arith
not_done BadHandle e = omega arith
not_done BadClock e = omega arith
not_done Short e = omega arith
not_done BadKind e = omega arith
not_done BadBool e = omega arith
not_done TooLong e = omega arith
not_done Extra e = omega arith
not_done NotSynchronized e = omega arith
not_done NotEnoughData e = omega arith
not_done PredictionThreshold e = omega arith
not_done SpectatorTooFarBehind e = omega arith
