-- The first frame that is left refuses as all that are left do, or is there.
use Rattle.std.proofs.Common.{◌≡◌, ◌∙◌, suc, ◌+◌, ◌-◌, sym, arith}
use Rattle.std.proofs.lemmas.Result.{err_from_is_err_and}
use Rattle.answer.specs.Number.{refusal_number}
use Rattle.answer.proofs.Refused.{not_done}
use Rattle.spectator.specs.Stores.{inputs_of}
use Rattle.spectator_rules.specs.Advance.{frame_refusal_by, frames_refusal_by}
use Rattle.spectator.proofs.Laws.Requests.{refusals_next, refusals_here, refusals_none}
use Rattle.spectator.proofs.inputs.Inputs.frames_refusal.Goals as goal

pub returns-in_err-frame_refusal : goal.returns-in_err-frame_refusal
returns-in_err-frame_refusal c =
    let a = c.args in
    let l = c.loop-k in
    let x = c.in_err-frame_refusal in
    let p = err_from_is_err_and c.from_residual.result c.from_residual.ensures.1 in
    let here : refusal_number x.field-0.0 ≡ frame_refusal_by a.slots (a.frame + l.k) (inputs_of a.self.now) = x.ensures in
    let m : a.n - l.k ≡ suc (a.n - (l.k + 1)) = omega arith in
    rw (p.1, p.2)
    (here
    ∙ sym (refusals_here a.slots (inputs_of a.self.now) (a.n - (l.k + 1)) (a.frame + l.k) (λ z. not_done x.field-0.0 (here ∙ z)))
    ∙ rw (← m) l.invariant)

pub loop-k-preserved : goal.loop-k-preserved
loop-k-preserved c =
    let a = c.args in
    let l = c.loop-k in
    let m : a.n - l.k ≡ suc (a.n - (l.k + 1)) = omega arith in
    let f : a.frame + (l.k + 1) ≡ suc (a.frame + l.k) = omega arith in
    let h : frames_refusal_by a.slots (suc (a.n - (l.k + 1))) (a.frame + l.k) (inputs_of a.self.now) ≡ frames_refusal_by a.slots a.n a.frame (inputs_of a.self.now) = rw m at l.invariant in
    let here : 0 ≡ frame_refusal_by a.slots (a.frame + l.k) (inputs_of a.self.now) = c.in_ok-frame_refusal.ensures in
    rw f (sym (refusals_next a.slots (inputs_of a.self.now) (a.n - (l.k + 1)) (a.frame + l.k) (sym here)) ∙ h)

pub returns : goal.returns
returns c =
    let a = c.args in
    let l = c.loop-k in
    let m : a.n - l.k ≡ 0 = omega arith in
    sym (refusals_none a.slots (inputs_of a.self.now) (a.frame + l.k)) ∙ rw (← m) l.invariant
