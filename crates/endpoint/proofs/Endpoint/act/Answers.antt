-- `act` tests clocks and count, and does what its phase brings.
use mathlib.Core.Logic.{inl, inr}
use mathlib.Core.Path.{sym, ◌∙◌, subst₂}
use Rattle.endpoint.proofs.Laws.Handshake.{good_clocks}
use Rattle.endpoint.proofs.Laws.Lengths.{entries_long, acked_long, no_event_fits}
use Rattle.endpoint.proofs.Laws.Act.Ways.{Resent, Packed, resent_none, resent_some, packed_none, size_is, packed_some, announced_full, announced_fits, announced_all, running_unannounced, running_full, running-done, synchronizing_idle, synchronizing_full, synchronizing_done, disconnected_idle, disconnected_over, act_synchronizing, act_running, act_disconnected, act_idle}
use Rattle.endpoint.proofs.Endpoint.act.Goals as goal
use Rattle.endpoint.proofs.Endpoint.act.Goals.{Joined-sends, then-sends+else-buffer_full, else-sends, then-due, else-due}

pub returns-in-Err : goal.returns-in-Err
returns-in-Err c =
    let a = c.args in
    let good = good_clocks a.now a.epoch _ _ c.is_bad.ensures c.if-is_bad.false c.is_bad-else-is_bad.ensures c.if-is_bad-2.false in
    act_synchronizing a.self a.out.now a.statuses a.now a.epoch a.nonce good c.if-statuses-self.false c.in-Synchronizing.is _ _
    (synchronizing_full a.self a.out.now a.now a.nonce (sym c.passed.ensures ∙ c.if-passed.true) _ _ _ (rw c.in-Err.is at c.request.ensures))

pub returns-in-Ok : goal.returns-in-Ok
returns-in-Ok c =
    let a = c.args in
    let good = good_clocks a.now a.epoch _ _ c.is_bad.ensures c.if-is_bad.false c.is_bad-else-is_bad.ensures c.if-is_bad-2.false in
    act_synchronizing a.self a.out.now a.statuses a.now a.epoch a.nonce good c.if-statuses-self.false c.in-Synchronizing.is _ _
    (synchronizing_done a.self a.out.now a.now a.nonce (sym c.passed.ensures ∙ c.if-passed.true) _ _ (rw c.in-Ok.is at c.request.ensures)
    (no_event_fits a.self (entries_long a.self _ c.well_formed.0)) c.issue.new.self c.issue.ensures)

pub returns-else-passed : goal.returns-else-passed
returns-else-passed c =
    let a = c.args in
    let good = good_clocks a.now a.epoch _ _ c.is_bad.ensures c.if-is_bad.false c.is_bad-else-is_bad.ensures c.if-is_bad-2.false in
    act_synchronizing a.self a.out.now a.statuses a.now a.epoch a.nonce good c.if-statuses-self.false c.in-Synchronizing.is _ _
    (synchronizing_idle a.self a.out.now a.now a.nonce (no_event_fits a.self (entries_long a.self _ c.well_formed.0)) (sym c.passed.ensures ∙ c.if-passed.false))

pub returns-then-count-announced-gt-MOST_EVENTS : goal.returns-then-count-announced-gt-MOST_EVENTS
returns-then-count-announced-gt-MOST_EVENTS c =
    let a = c.args in
    let good = good_clocks a.now a.epoch _ _ c.is_bad.ensures c.if-is_bad.false c.is_bad-else-is_bad.ensures c.if-is_bad-2.false in
    let count = c.count-pending in
    let due = c.due_at-due in
    act_running a.self a.out.now a.statuses a.now a.epoch a.nonce good c.if-statuses-self.false c.in-Running.is _ _
    (running_unannounced a.self a.out.now a.statuses a.now a.epoch due.result count.result count.ensures due.ensures
    (announced_full a.self a.out.now a.statuses a.now a.epoch due.result c.count.result c.event_count-announced.result c.count.ensures c.event_count-announced.ensures c.if-count-announced-gt-MOST_EVENTS.true))

pub returns-then-buffer_full : goal.returns-then-buffer_full
returns-then-buffer_full c =
    let a = c.args in
    let good = good_clocks a.now a.epoch _ _ c.is_bad.ensures c.if-is_bad.false c.is_bad-else-is_bad.ensures c.if-is_bad-2.false in
    let count = c.count-pending in
    let due = c.due_at-due in
    let full = c.buffer_full in
    let size = c.size-size in
    let wide = c.sending_width-width in
    act_running a.self a.out.now a.statuses a.now a.epoch a.nonce good c.if-statuses-self.false c.in-Running.is _ _
    (running_full a.self a.out.now a.statuses a.now a.epoch due.result count.result count.ensures due.ensures
    (size_is a.self a.out.now a.statuses a.now a.epoch due.result wide.result size.result full.result wide.ensures (acked_long a.self _ c.well_formed.0) size.ensures full.ensures ∙ c.if-buffer_full.true))

-- what is due is queued, the pending inputs first
packed : (c : Joined-sends) → Packed c.args.self c.args.out.now c.args.statuses c.args.now c.args.epoch c.due_at-due.result c.if-sends.self c.if-sends.out
packed c =
    let a = c.args in
    let d = c.due_at-due.result in
    elim c.if-sends.branch [
      | then-sends+else-buffer_full w ↦
          let width = w.sending_width-width.result in
          let resent : Resent a.self a.out.now a.statuses a.now a.epoch d width w.if-due.self w.if-due.out = elim w.if-due.branch [
            | then-due v ↦ subst₂ (Resent a.self a.out.now a.statuses a.now a.epoch d width) (sym v.self-is) (sym v.out-is) (resent_some a.self a.out.now a.statuses a.now a.epoch d width v.if-due.true v.newest.result v.newest.ensures v.pending_input.result _ v.pending_input.ensures _ v.unwrap_or.ensures)
            | else-due v ↦ subst₂ (Resent a.self a.out.now a.statuses a.now a.epoch d width) (sym v.self-is) (sym v.out-is) (resent_none a.self a.out.now a.statuses a.now a.epoch d width v.if-due.false)
          ] in
          subst₂ (Packed a.self a.out.now a.statuses a.now a.epoch d) (sym w.self-is) (sym w.out-is) (packed_some a.self a.out.now a.statuses a.now a.epoch d width w.size-size.result w.buffer_full.result w.sending_width-width.ensures (acked_long a.self _ c.well_formed.0) w.size-size.ensures w.buffer_full.ensures w.if-due.self w.if-due.out resent w.write_reports.result _ w.write_reports.ensures w.if-buffer_full.false)
      | else-sends w ↦ subst₂ (Packed a.self a.out.now a.statuses a.now a.epoch d) (sym w.self-is) (sym w.out-is) (packed_none a.self a.out.now a.statuses a.now a.epoch d (sym c.sends.ensures ∙ w.if-sends.false))
    ]

-- and announced
pub returns-after-sends : goal.returns-after-sends
returns-after-sends c =
    let a = c.args in
    let good = good_clocks a.now a.epoch _ _ c.is_bad.ensures c.if-is_bad.false c.is_bad-else-is_bad.ensures c.if-is_bad-2.false in
    let count = c.count-pending in
    let due = c.due_at-due in
    let n = c.count in
    let m = c.event_count-announced in
    let queued = packed (goal.at.returns-after-sends c).Joined-sends in
    let announced = announced_all a.self a.out.now a.statuses a.now a.epoch due.result n.result m.result n.ensures m.ensures c.if-sends.self queued.0 c.if-count-announced-gt-MOST_EVENTS.false c.announce.result c.announce.new.events c.announce.ensures in
    act_running a.self a.out.now a.statuses a.now a.epoch a.nonce good c.if-statuses-self.false c.in-Running.is _ _
    (running-done a.self a.out.now a.statuses a.now a.epoch due.result count.result count.ensures due.ensures
    c.if-sends.self _ c.if-sends.out c.clocks_after-self.result c.flags_after-self.result
    (announced_fits a.self a.out.now a.statuses a.now a.epoch due.result n.result m.result n.ensures m.ensures c.if-count-announced-gt-MOST_EVENTS.false)
    queued announced c.clocks_after-self.ensures c.flags_after-self.ensures)

pub returns-then-self-now : goal.returns-then-self-now
returns-then-self-now c =
    let a = c.args in
    let good = good_clocks a.now a.epoch _ _ c.is_bad.ensures c.if-is_bad.false c.is_bad-else-is_bad.ensures c.if-is_bad-2.false in
    act_disconnected a.self a.out.now a.statuses a.now a.epoch a.nonce good c.if-statuses-self.false c.in-Disconnected.is _
    (disconnected_over a.self a.now (no_event_fits a.self (entries_long a.self _ c.well_formed.0)) c.if-self-now.true)

pub returns-else-self-now : goal.returns-else-self-now
returns-else-self-now c =
    let a = c.args in
    let good = good_clocks a.now a.epoch _ _ c.is_bad.ensures c.if-is_bad.false c.is_bad-else-is_bad.ensures c.if-is_bad-2.false in
    act_disconnected a.self a.out.now a.statuses a.now a.epoch a.nonce good c.if-statuses-self.false c.in-Disconnected.is _
    (disconnected_idle a.self a.now (no_event_fits a.self (entries_long a.self _ c.well_formed.0)) c.if-self-now.false)

pub returns-in-Initializing : goal.returns-in-Initializing
returns-in-Initializing c =
    let a = c.args in
    let good = good_clocks a.now a.epoch _ _ c.is_bad.ensures c.if-is_bad.false c.is_bad-else-is_bad.ensures c.if-is_bad-2.false in
    act_idle a.self a.out.now a.statuses a.now a.epoch a.nonce good c.if-statuses-self.false (no_event_fits a.self (entries_long a.self _ c.well_formed.0)) (elim c.in-Initializing.is [ inl e ↦ inl (rw e) | inr e ↦ inr (rw e) ])
