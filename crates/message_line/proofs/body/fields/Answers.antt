-- An Input has no more reports than their array; the advantage stands before the ping.
use Rattle.std.proofs.Common.{◌≡◌, length, length-take, arith, rules}
use Rattle.fixed_vec.specs.FixedVec.{held}
use Rattle.text.specs.Ascii.{ascii}
use Rattle.text.proofs.PieceLaws.{wider, both_adds}
use Rattle.message_line.specs.Line.{field, fields_text}
use Rattle.message_line.proofs.body.fields.Goals as goal

pub input-requires : goal.input-requires
unfolding held
input-requires c =
    let long : length c.args.message.reports.list ≡ 4 = search rules in
    (c.requires, rw c.as_slice.ensures.value (simp length-take (omega arith)))

pub returns-in-Input : goal.returns-in-Input
unfolding held
returns-in-Input c = rw (c.in-Input.is, ← c.as_slice.ensures.value) c.input.ensures

pub returns-in-QualityReport : goal.returns-in-QualityReport
unfolding fields_text field ascii
returns-in-QualityReport c =
    rw c.in-QualityReport.is
    (wider _ _ _ _ (both_adds c.args.draft _ _ _ _ _ _ (rw c.from-in-QualityReport.ensures at c.signed-next.ensures) c.wide.ensures) (omega arith))
