-- `send` refuses as each step says, or queues the Input.
use Rattle.std.proofs.Common.{◌≡◌, ℕ, false, not, ◌||◌, eqb}
use borrow.Author.Tests.{eq-eqb, le-leb, lt-leb}
use mathlib.Core.Path.{sym, ◌∙◌, ap}
use Rattle.endpoint_rules.specs.Seen.{is_running}
use Rattle.endpoint.proofs.Laws.Lengths.{no_event_fits}
use Rattle.endpoint.proofs.Laws.Ends.{passed_on}
use Rattle.endpoint.proofs.Laws.Sending.{Announcing, announces_one, announces_none, send_frame, send_crowded, send_unannounced, send_choked, send_done}
use Rattle.endpoint.proofs.Endpoint.send.Goals as goal
use Rattle.endpoint.proofs.Endpoint.send.Goals.{then-announces, else-announces}

-- both lists are of their lengths
as_wide : (a b n w : ℕ) → a ≡ b → n ≡ w → not (eqb a b) || not (eqb n w) ≡ false
as_wide a b n w h k = rw (eq-eqb a b h, eq-eqb n w k)

pub returns-then-is_bad_frame : goal.returns-then-is_bad_frame
returns-then-is_bad_frame c =
    let a = c.args in
    send_frame a.self.now a.frame a.bytes.now a.statuses a.now a.out.now (sym c.is_bad.ensures ∙ c.if-is_bad.false) c.sending_width-width.result c.sending_width-width.ensures
    (as_wide _ _ _ _ c.if-statuses-self.false c.if-bytes-width.false) (ap is_running c.in-Running.is) c.last_frame.result c.last_frame.ensures
    (sym c.is_bad_frame.ensures ∙ c.if-is_bad_frame.true)

pub returns-in_err-push : goal.returns-in_err-push
returns-in_err-push c =
    let a = c.args in
    rw (passed_on c.from_residual.result _ c.from_residual.ensures.1)
    (send_crowded a.self.now a.frame a.bytes.now a.statuses a.now a.out.now (sym c.is_bad.ensures ∙ c.if-is_bad.false) c.sending_width-width.result c.sending_width-width.ensures
    (as_wide _ _ _ _ c.if-statuses-self.false c.if-bytes-width.false) (ap is_running c.in-Running.is) c.last_frame.result c.last_frame.ensures
    (sym c.is_bad_frame.ensures ∙ c.if-is_bad_frame.false) c.frame_at.result c.frame_at.ensures c.push.result c.push.new.self c.push.ensures _ c.in_err-push.was)

pub returns-then-events_full : goal.returns-then-events_full
returns-then-events_full c =
    let a = c.args in
    send_unannounced a.self.now a.frame a.bytes.now a.statuses a.now a.out.now (sym c.is_bad.ensures ∙ c.if-is_bad.false) c.sending_width-width.result c.sending_width-width.ensures
    (as_wide _ _ _ _ c.if-statuses-self.false c.if-bytes-width.false) (ap is_running c.in-Running.is) c.last_frame.result c.last_frame.ensures
    (sym c.is_bad_frame.ensures ∙ c.if-is_bad_frame.false) c.frame_at.result c.frame_at.ensures c.push.result c.push.new.self c.push.ensures c.in_ok-push.was
    c.count-announces.result c.count-announces.ensures
    c.count.result c.count.ensures (sym c.events_full.ensures ∙ c.if-events_full.true)

pub returns-in_err-end : goal.returns-in_err-end
returns-in_err-end c =
    let a = c.args in
    rw (passed_on c.from_residual-in_err-end.result _ c.from_residual-in_err-end.ensures.1)
    (send_choked a.self.now a.frame a.bytes.now a.statuses a.now a.out.now (sym c.is_bad.ensures ∙ c.if-is_bad.false) c.sending_width-width.result c.sending_width-width.ensures
    (as_wide _ _ _ _ c.if-statuses-self.false c.if-bytes-width.false) (ap is_running c.in-Running.is) c.last_frame.result c.last_frame.ensures
    (sym c.is_bad_frame.ensures ∙ c.if-is_bad_frame.false) c.frame_at.result c.frame_at.ensures c.push.result c.push.new.self c.push.ensures c.in_ok-push.was
    c.count-announces.result c.count-announces.ensures
    c.newest.result c.newest.ensures _ _ c.in_err-end.ensures)

pub returns : goal.returns
returns c =
    let a = c.args in
    let announcing : Announcing a.self.now c.count-announces.result c.if-announces.self = elim c.if-announces.branch [
      | then-announces w ↦
          announces_one a.self.now c.count-announces.result c.count.result c.count.ensures w.push-then-announces.result w.push-then-announces.new.self (sym c.events_full.ensures ∙ c.if-events_full.false) (le-leb _ _ w.if-announces.true)
          w.push-then-announces.ensures c.if-announces.self w.self-is
      | else-announces w ↦ announces_none a.self.now c.count-announces.result (lt-leb _ _ w.if-announces.false) (no_event_fits a.self.now c.requires) c.if-announces.self w.self-is
    ] in
    send_done a.self.now a.frame a.bytes.now a.statuses a.now a.out.now (sym c.is_bad.ensures ∙ c.if-is_bad.false) c.sending_width-width.result c.sending_width-width.ensures
    (as_wide _ _ _ _ c.if-statuses-self.false c.if-bytes-width.false) (ap is_running c.in-Running.is) c.last_frame.result c.last_frame.ensures
    (sym c.is_bad_frame.ensures ∙ c.if-is_bad_frame.false) c.frame_at.result c.frame_at.ensures c.push.result c.push.new.self c.push.ensures c.in_ok-push.was
    c.count-announces.result c.count-announces.ensures
    c.newest.result c.newest.ensures _ _ c.in_ok-end.ensures c.if-announces.self announcing c.sent-self.result c.sent-self.ensures
