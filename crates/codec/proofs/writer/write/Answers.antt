-- The head's answer is the whole message's where there is no payload; an Input's payload has its room after the head.
use Rattle.std.proofs.Common.{◌≡◌, ◌∙◌, true, sym, arith, rules}
use Rattle.codec.specs.Message.{is_input}
use Rattle.codec.proofs.Laid.{room_after, other_written, input-written}
use Rattle.codec.proofs.writer.write.Goals as goal

pub returns-then-not-is_input : goal.returns-then-not-is_input
returns-then-not-is_input c =
    let a = c.args in
    let h = c.in_ok-end in
    other_written a.out.now a.at a.message a.payload.now h.end c.write_head.new.out h.ensures (λ i. omega (arith, c.type_inv.payload i))
    (sym c.is_input.ensures ∙ c.if-not-is_input.true)

pub put-requires : goal.put-requires
put-requires c =
    let a = c.args in
    let h = c.in_ok-end in
    let input : is_input a.message.body ≡ true = sym c.is_input.ensures ∙ c.if-not-is_input.false in
    omega (arith, room_after a.out.now a.at a.message a.payload.now h.end c.write_head.new.out h.ensures (search rules) input)

pub returns : goal.returns
returns c =
    let a = c.args in
    let h = c.in_ok-end in
    let p = c.put in
    let input : is_input a.message.body ≡ true = sym c.is_input.ensures ∙ c.if-not-is_input.false in
    let room = room_after a.out.now a.at a.message a.payload.now h.end c.write_head.new.out h.ensures (search rules) input in
    input-written a.out.now a.at a.message a.payload.now h.end c.write_head.new.out h.ensures p.new.out p.result (λ i. omega (arith, c.type_inv.payload i)) input
    (omega (arith, h.ensures.end, room)) p.ensures.next p.ensures.laid
