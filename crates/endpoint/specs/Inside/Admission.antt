-- What refuses a message that is let in, by what it is tested for.
use Rattle.std.specs.Prelude.{Bool, ◌≡◌, Ok, Err}
use Rattle.base.specs.Pick.{pick}
use Rattle.answer.specs.Number.{Answered}
use Rattle.answer.specs.declared.Refusal.TheVariants.{Full, Overflow, TooLong}

-- 12, 6, 5 in this order
abbrev pub WeighedAs : (too_long overflows full : Bool) → Answered → Type 0
WeighedAs too_long overflows full r =
    r ≡ pick too_long (Err TooLong) (pick overflows (Err Overflow) (pick full (Err Full) (Ok tt)))
