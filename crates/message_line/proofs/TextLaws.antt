-- The pieces of an Input's fields, put together.
use borrow.Author.Tests.{eq-eqb, ne_eqb}
use mathlib.Core.Path.{◌≡◌}
use mathlib.Core.Bool.{Bool}
use mathlib.Core.List.{List, ◌++◌, append-nil}
use Prim.Native.Nat.{ℕ}
use lib.ListN.{length}
use Rattle.base.specs.Pick.{pick}
use Rattle.text.specs.Decimal.{decimal_of}
use Rattle.codec.specs.declared.StatusReport.{StatusReport}
use Rattle.codec.specs.declared.MessageBody.TheVariants.{Input}
use Rattle.text.specs.Ascii.{ascii}
use Rattle.message_line.specs.Line.{field, frame_text, reports_text, bytes_text, fields_text}

module _ (n : ℕ) where
  pub no_bytes : n ≡ 0 → field "bytes" (decimal_of n) ≡ bytes_text n
  unfolding bytes_text
  no_bytes h = rw (eq-eqb n 0 h, append-nil)

  pub some_bytes : (n ≡ 0 → ⊥) → field "bytes" (decimal_of n) ++ ascii " " ≡ bytes_text n
  unfolding bytes_text
  some_bytes h = rw (ne_eqb n 0 h)

pub input_fields : (rs : List StatusReport) (count : ℕ) (disconnect : Bool) (start ack n : ℕ) → count ≡ length rs
    → field "statuses" (decimal_of count) ++ reports_text rs ++ field "disconnect" (ascii (pick disconnect "true" "false")) ++ field "start" (frame_text start)
    ++ field "ack" (frame_text ack) ++ bytes_text n
    ≡ fields_text (Input disconnect start ack) rs n
unfolding fields_text
input_fields rs count disconnect start ack n e = rw e
