-- The whole Input, whose fields and payload stand there.
use Rattle.std.proofs.Common.{◌≡◌, ◌∙◌, ◌+◌, ◌*◌, ◌≤◌, ℕ, sym, ap, length, take, drop, length-take, arith, rules}
use native.Mathlib.Nat.{add-sub_cancel_left}
use Rattle.codec.specs.Message.{is_input, report_list, meant}
use Rattle.codec.specs.Read.Reading.{got}
use Rattle.codec.specs.Front.{number_at}
use Rattle.codec.proofs.Fronts.{found_front}
use Rattle.codec.proofs.Inputs.{whole_input, input_at}
use Rattle.codec.proofs.reader.after_reports.Goals as goal

pub returns : goal.returns
unfolding meant is_input
returns c =
    let d = c.args.d.now in
    let r = c.args.reports in
    let f = c.in_ok-disconnect_requested in
    let at = 14 + 5 * r.count in
    let start = 31 + 5 * r.count in
    let b = c.u64_at-b in
    let n = number_at 8 (at + 9) d in
    let m : n ≤ 8256 = rw b.ensures at c.if-b.false in
    let room : start + b.result ≤ length d = omega arith in
    let same : at + 17 + n ≡ start + b.result = rw b.ensures (omega arith) in
    let from : at + 17 ≡ start = omega arith in
    let w = input_at (number_at 2 0 d) (report_list r) f.disconnect_requested at n d in
    let e = whole_input d at (number_at 2 0 d) (report_list r) f.disconnect_requested f.ensures.1 (omega arith) m (rw same room) in
    let long : length r.list ≡ 4 = search rules in
    let counted : length (take r.count r.list) ≡ r.count = omega (arith, length-take r.count r.list) in
    found_front d _ _ start (start + b.result) w (e ∙ ap (λ (k : ℕ). got w (drop k d)) same)
    (rw (c.u16_at.ensures, c.frame_at.ensures, c.frame_at-2.ensures))
    (sym counted) (omega arith) room (rw (from, ← b.ensures, add-sub_cancel_left))
