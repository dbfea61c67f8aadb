-- P1 (B-1), the printed part: the codec's laws and the line's definition.
use mathlib.Core.Path.{◌≡◌, sym, ◌∙◌, ap}
use mathlib.Core.List.{[], ◌∷◌, ◌++◌}
use Rattle.text.specs.Decimal.{decimal_of, signed_of, digits}
use Rattle.text.specs.Hex.{hex_of}
use Rattle.codec.specs.Read.{datagram}
use Rattle.codec.specs.Read.Reading.{got}
use Rattle.codec.proofs.Laws.{read-bytes}
use Rattle.codec.proofs.Bouts.{p1_message, p1_bytes, p1_fits, P1}
use Rattle.text.specs.Ascii.{ascii}
use Rattle.message_line.specs.Line.{field, kind_name, fields_text, head_text, wire_line, line_of}

reads : datagram p1_bytes ≡ got p1_message []
reads = ap datagram (sym P1) ∙ read-bytes p1_message p1_fits

-- the line and a newline
pub P1_printed : line_of p1_bytes ++ 10 ∷ [] ≡ ascii "InputAck magic 4660 ack -1\n"
unfolding line_of wire_line head_text kind_name fields_text field ascii decimal_of signed_of digits hex_of
P1_printed = rw reads
