-- What refuses a message that is let in (12, 6, 5): what is known where nothing does, and the way out where something does.
use Rattle.std.proofs.Common.{◌≡◌, refl, Bool, true, false, Ok, Err}
use Rattle.answer.specs.Number.{Answered}
use Rattle.answer.specs.declared.Refusal.{Refusal}
use Rattle.answer.specs.declared.Refusal.TheVariants.{Full, Overflow, TooLong}
use Rattle.endpoint.specs.Inside.Admission.{WeighedAs}

pub let_in : (long overflows full : Bool) → WeighedAs long overflows full (Ok tt) → (long ≡ false) × (overflows ≡ false) × (full ≡ false)
let_in true overflows full h = cc
let_in false true full h = cc
let_in false false true h = cc
let_in false false false h = (refl, refl, refl)

-- T: how the call ends with an answer
pub kept_out : (T : Answered → Type 0) (long overflows full : Bool) → (long ≡ true → T (Err TooLong)) → (long ≡ false → overflows ≡ true → T (Err Overflow))
    → (long ≡ false → overflows ≡ false → full ≡ true → T (Err Full)) → (r : Refusal) → WeighedAs long overflows full (Err r) → T (Err r)
kept_out T true overflows full a b c r h = rw h (a refl)
kept_out T false true full a b c r h = rw h (b refl refl)
kept_out T false false true a b c r h = rw h (c refl refl refl)
kept_out T false false false a b c r h = cc
