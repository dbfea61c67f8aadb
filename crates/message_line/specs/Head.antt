-- Inside: a line up to the payload.
use Rattle.std.specs.Prelude.{List, ℕ, eqb}
use Rattle.base.specs.Pick.{pick}
use Rattle.codec.specs.Read.{datagram, number_in, wire_in}
use Rattle.message_line.specs.Line.{head_text, refused_line}

-- a datagram's line up to the payload, of which n bytes follow
unfoldable pub head_of : List ℕ → ℕ → List ℕ
head_of d n =
    let w = wire_in (datagram d) in
    pick (eqb (number_in (datagram d)) 0) (head_text w.magic w.body w.reports n) (refused_line (number_in (datagram d)))
