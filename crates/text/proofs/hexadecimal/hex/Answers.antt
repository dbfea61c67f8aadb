-- The digits of one byte after another are laid, and at the end those of all.
use Rattle.std.proofs.Common.{◌≡◌, length, arith}
use lib.Seq.{take-length}
use Rattle.text.specs.Hex.{hex_of}
use Rattle.text.proofs.AppendLaws.{placed}
use Rattle.text.proofs.HexLaws.{hex_length, hex_turn}
use Rattle.text.proofs.hexadecimal.hex.Goals as goal

pub loop-b-preserved : goal.loop-b-preserved
loop-b-preserved c =
    let a = c.args in
    let l = c.loop-b in (
      omega arith,
      hex_turn a.out.now a.at a.bytes.now (omega arith) l.b-index l.out l.place _ _ (omega arith) l.invariant.0 l.invariant.1 c.digit.ensures
          c.digit-in-loop-b.ensures,
    )

pub returns : goal.returns
returns c =
    let a = c.args in
    let l = c.loop-b in
    let e : l.b-index ≡ length a.bytes.now = omega arith in
    placed a.out.now a.at (hex_of a.bytes.now) l.out (omega (arith, hex_length a.bytes.now)) (rw (e, take-length) at l.invariant.1)
