-- One report a turn.
use Rattle.std.proofs.Common.{◌≡◌, ◌∙◌, ◌+◌, ◌*◌, [], refl, sym, take, drop, length-set, arith}
use native.Mathlib.Nat.{sub_self}
use Rattle.codec.specs.Read.{reports}
use Rattle.codec.specs.Read.Reading.{got}
use Rattle.codec.proofs.Statuses.{reports_turn}
use Rattle.codec.proofs.reader.reports_of.Goals as goal

pub loop-i-preserved : goal.loop-i-preserved
loop-i-preserved c =
    let a = c.args in
    let l = c.loop-i in
    let d = a.d.now in
    let r = c.in_ok-found in
    let next : 14 + 5 * l.i + 5 ≡ 14 + 5 * (l.i + 1) = omega arith in (
      omega (arith, r.ensures.0),
      rw length-set l.invariant.1,
      rw next at (reports_turn d (14 + 5 * l.i) a.count l.i l.found.list r.field-0 (omega arith) (omega arith) r.ensures.1) ∙ l.invariant.2,
    )

pub returns : goal.returns
unfolding reports
returns c =
    let a = c.args in
    let l = c.loop-i in
    let e : l.i ≡ a.count = omega arith in
    let done : reports a.count [] (drop 14 a.d.now) ≡ got (take a.count l.found.list) (drop (14 + 5 * a.count) a.d.now)
    = sym l.invariant.2 ∙ rw (e, sub_self) in
    (refl, rw e at l.invariant.0, done)
