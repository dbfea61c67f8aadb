-- Each return of `handle_message`, by the law of its way out in Laws/Message.
use mathlib.Core.Bool.{false, ◌&&◌, ◌||◌}
use mathlib.Core.List.{List, [], ◌∷◌, ◌++◌}
use mathlib.Core.Path.{◌≡◌, sym, ◌∙◌, ap, subst, refl}
use native.Mathlib.Omega.{arith}
use Prim.Native.Nat.{ℕ, ◌-◌}
use lib.Dec.{T}
use lib.ListN.{length, take, drop, length-drop}
use lib.Seq.{take_all}
use types.Run.{OneOf}
use Rattle.base.proofs.Tags.{noneb, none_of}
use Rattle.fixed_vec.specs.FixedVec.{held}
use Rattle.packing.specs.Packing.{frames_of}
use Rattle.packing.specs.Pad.{zeros}
use Rattle.history.specs.History.{blank_frame}
use Rattle.setup.specs.Setup.{handle_list}
use Rattle.events.specs.declared.Entry.{Entry}
use Rattle.events.specs.Events.{held_events, ahead, announced_all, packet_fits, PushedAs}
use Rattle.codec.proofs.KindNumbers.{kind_is_one}
use Rattle.nonces.specs.Nonces.{outstanding, is_outstanding}
use Rattle.timers.specs.Timers.{bad_clock}
use Rattle.endpoint_rules.specs.Seen.{is_synchronizing}
use Rattle.endpoint_rules.specs.declared.Phase.{Phase}
use Rattle.endpoint_rules.specs.declared.Phase.TheVariants.{Initializing, Synchronizing, Running, Disconnected, Shutdown}
use Rattle.endpoint_rules.specs.Step.{ignored_by}
use Rattle.endpoint.specs.Inside.Packet.{found_of}
use Rattle.endpoint.proofs.Laws.Message.InputAck.{drops_some}
use Rattle.endpoint.proofs.Laws.Message.Input.{packet_refused, packet_unannounced, packet_announced, packet_read, packet_unread}
use Rattle.endpoint.proofs.Laws.Announced.{with_events_of}
use Rattle.endpoint.proofs.Laws.Ends.{passed_on, remade}
use Rattle.endpoint.proofs.Laws.Handshake.{good_clocks}
use Rattle.endpoint.proofs.Laws.Message.Bodies.{message-ignored}
use Rattle.endpoint.proofs.Laws.Message.Ways.{reply_passes, reply_crowded, reply_choked, Counted, counted_more, counted_last, input_passes, only_crowded, ack_crowded, weighed_refused, react_refuses, Left, only_left, ack_left, weighed_left, react_left, ends_quiet, ends_announced}
use borrow.Author.Rules.{rules}
use Rattle.endpoint.proofs.Endpoint.handle_message.Goals as goal
use Rattle.endpoint.proofs.Endpoint.handle_message.Goals.{Else-is_ignored, After-announce, Joined-kind_of}
use Rattle.endpoint.proofs.Endpoint.handle_message.Goals.{in-Synchronizing+else-spend, in_default-phase, in-0-1, in_default+then-this-lt6, in-1+else-full, in-2+else-not-opened+else-full-2, in-3+else-full-3, in-6+in_ok-weigh_report-in-6, in-0+in_ok-reacted-in-0, then-resumes, else-resumes, then-remaining-gt0+in_ok-request-in-1, else-remaining-gt0}

-- an open door: the clocks are within their ceilings, and the message is not ignored
good : (h : Else-is_ignored) → bad_clock h.args.now || bad_clock h.args.epoch ≡ false
good h = good_clocks h.args.now h.args.epoch _ _ h.is_bad.ensures h.if-is_bad.false h.is_bad-else-is_bad.ensures h.if-is_bad-2.false

heeded : (h : Else-is_ignored) →
    let a = h.args in
    ignored_by a.self.now.sync.phase a.self.now.setup.peer_addr a.self.now.sync.remote_magic a.from a.message.magic ≡ false
heeded h = sym h.is_ignored.ensures ∙ h.if-is_ignored.false

pub returns-then-is_ignored : goal.returns-then-is_ignored
returns-then-is_ignored c =
    let a = c.args in
    message-ignored a.self.now a.from a.message a.payload.now a.now a.epoch a.nonce a.out.now
    (good_clocks a.now a.epoch _ _ c.is_bad.ensures c.if-is_bad.false c.is_bad-else-is_bad.ensures c.if-is_bad-2.false) (sym c.is_ignored.ensures ∙ c.if-is_ignored.true)

pub returns-in_err-push-in-1 : goal.returns-in_err-push-in-1
returns-in_err-push-in-1 c =
    let h = (goal.at.returns-in_err-push-in-1 c).Else-is_ignored in
    let a = c.args in
    rw (passed_on c.from_residual.result _ c.from_residual.ensures.1)
    (reply_crowded a.self.now a.from a.message a.payload.now a.now a.epoch a.nonce a.out.now (good h) (heeded h)
    _ (c.reply_of-reply.ensures (sym c.kind_of.ensures ∙ c.in-1.is)) c.in-Synchronizing.is c.saturating_sub-remaining.result c.saturating_sub-remaining.ensures c.spend.result c.spend.new.self c.spend.ensures c.if-spend.true
    c.progress.result c.push.new.self _ c.in_err-push-in-1.ensures)

pub returns-in_err-request-in-1 : goal.returns-in_err-request-in-1
returns-in_err-request-in-1 c =
    let h = (goal.at.returns-in_err-request-in-1 c).Else-is_ignored in
    let a = c.args in
    rw (passed_on c.from_residual-in_err-request-in-1.result _ c.from_residual-in_err-request-in-1.ensures.1)
    (reply_choked a.self.now a.from a.message a.payload.now a.now a.epoch a.nonce a.out.now (good h) (heeded h)
    _ (c.reply_of-reply.ensures (sym c.kind_of.ensures ∙ c.in-1.is)) c.in-Synchronizing.is c.saturating_sub-remaining.result c.saturating_sub-remaining.ensures c.spend.result c.spend.new.self c.spend.ensures c.if-spend.true
    c.progress.result c.push.new.self c.if-remaining-gt0.true _ _ _ c.in_err-request-in-1.ensures)

pub returns-then-spend : goal.returns-then-spend
returns-then-spend c =
    let h = (goal.at.returns-then-spend c).Else-is_ignored in
    let a = c.args in
    let counted : Counted a.self.now a.from a.message a.payload.now a.now a.epoch a.nonce a.out.now (good h) (heeded h)
    _ (c.reply_of-reply.ensures (sym c.kind_of.ensures ∙ c.in-1.is)) c.in-Synchronizing.is c.saturating_sub-remaining.result c.saturating_sub-remaining.ensures c.spend.result c.spend.new.self c.spend.ensures c.if-spend.true
    c.progress.result c.push.new.self c.progress.ensures c.in_ok-push-in-1.ensures c.if-remaining-gt0.self c.if-remaining-gt0.out =
    elim c.if-remaining-gt0.branch [
      | then-remaining-gt0+in_ok-request-in-1 w ↦ rw (w.self-is, w.out-is) (counted_more a.self.now a.from a.message a.payload.now a.now a.epoch a.nonce a.out.now (good h) (heeded h)
          _ (c.reply_of-reply.ensures (sym c.kind_of.ensures ∙ c.in-1.is)) c.in-Synchronizing.is c.saturating_sub-remaining.result c.saturating_sub-remaining.ensures c.spend.result c.spend.new.self c.spend.ensures c.if-spend.true
          c.progress.result c.push.new.self c.progress.ensures c.in_ok-push-in-1.ensures w.if-remaining-gt0.true _ _ w.in_ok-request-in-1.ensures)
      | else-remaining-gt0 w ↦ rw (w.self-is, w.out-is) (counted_last a.self.now a.from a.message a.payload.now a.now a.epoch a.nonce a.out.now (good h) (heeded h)
          _ (c.reply_of-reply.ensures (sym c.kind_of.ensures ∙ c.in-1.is)) c.in-Synchronizing.is c.saturating_sub-remaining.result c.saturating_sub-remaining.ensures c.spend.result c.spend.new.self c.spend.ensures c.if-spend.true
          c.progress.result c.push.new.self c.progress.ensures c.in_ok-push-in-1.ensures w.if-remaining-gt0.false)
    ] in
    counted c.heard-self.result c.heard-self.ensures

-- a phase that is another
other_phase : (p : Phase) → (p ≡ Synchronizing → ⊥) → is_synchronizing p ≡ false
other_phase Initializing h = refl
other_phase Synchronizing h = absurd (h refl)
other_phase Running h = refl
other_phase Disconnected h = refl
other_phase Shutdown h = refl

pub returns-then-full : goal.returns-then-full
returns-then-full c =
    let h = (goal.at.returns-then-full c).Else-is_ignored in
    let a = c.args in
    let u : is_synchronizing a.self.now.sync.phase && is_outstanding c.reply_of-reply.result (outstanding a.self.now.nonces) ≡ false =
    elim c.match-phase.branch [
      | in-Synchronizing+else-spend v ↦ rw (ap is_synchronizing v.in-Synchronizing.is) (sym v.spend.ensures.found ∙ v.if-spend.false)
      | in_default-phase v ↦ rw (other_phase a.self.now.sync.phase v.in_default-phase.not-Synchronizing)
    ] in
    (only_crowded a.self.now a.from a.message a.payload.now a.now a.epoch a.nonce a.out.now (good h) (heeded h)
    c.is_resuming-resumes.result c.is_resuming-resumes.ensures c.count.result c.count.ensures c.events_full-full.result c.events_full-full.ensures
    (reply_passes a.self.now a.from a.message a.payload.now a.now a.epoch a.nonce a.out.now (good h) (heeded h)
    _ (c.reply_of-reply.ensures (sym c.kind_of.ensures ∙ c.in-1.is)) u) c.if-full.true)

pub returns-in_err-admit-in-2 : goal.returns-in_err-admit-in-2
returns-in_err-admit-in-2 c =
    let h = (goal.at.returns-in_err-admit-in-2 c).Else-is_ignored in
    let a = c.args in
    rw (passed_on c.from_residual-in_err-admit-in-2.result _ c.from_residual-in_err-admit-in-2.ensures.1)
    (packet_refused a.self.now a.from a.message a.payload.now a.now a.epoch a.nonce a.out.now (good h) (heeded h)
    _ _ _ (c.input_of-head.ensures (sym c.kind_of.ensures ∙ c.in-2.is)) c.open-opened.result c.open-opened.ensures c.if-not-opened.true c.inform-informed.result c.inform-informed.ensures
    _ c.in_err-admit-in-2.ensures)

-- the reference, of 64 bytes, and what is announced with it
reference : (c : After-announce) → c.unwrap_or-reference.result ≡ (found_of c.open-opened.result).input
unfolding blank_frame zeros
reference c = c.unwrap_or-reference.ensures

wide : (c : After-announce) → length (found_of c.open-opened.result).input.bytes ≡ 64
wide c = let w : length c.unwrap_or-reference.result.bytes ≡ 64 = search rules in rw (reference c) at w

pushed : (c : After-announce) →
    let ahead_of : List Entry = ahead c.inform-informed.result.resumes c.inform-informed.result.disconnects in
    let handles : List ℕ = handle_list c.args.self.now.setup.handles in
    let news = c.news_of-news.result in
    PushedAs c.args.self.now.events (packet_fits (held_events c.args.self.now.events ++ ahead_of) news.first news.count handles)
    (ahead_of ++ announced_all news.first c.args.self.now.setup.input_size handles (frames_of c.receiving_width-width.result (found_of c.open-opened.result).input.bytes news.count (drop news.at c.args.payload.now)))
    c.announce.result c.announce.new.events
unfolding held
pushed c =
    let p = c.args.payload.now in
    let n = c.news_of-news.result.at in
    let rest : take (length p - n) (drop n p) ≡ drop n p = take_all (length p - n) (drop n p) (simp length-drop (omega arith)) in
    rw (reference c, c.as_slice.ensures.value, rest) at c.announce.ensures

pub returns-in_err-announce-in-2 : goal.returns-in_err-announce-in-2
returns-in_err-announce-in-2 c =
    let h = (goal.at.returns-in_err-announce-in-2 c).Else-is_ignored in
    let q = (goal.at.returns-in_err-announce-in-2 c).After-announce in
    let a = c.args in
    rw (passed_on c.from_residual-in_err-announce-in-2.result _ c.from_residual-in_err-announce-in-2.ensures.1, c.announce.ensures.same _ c.in_err-announce-in-2.was)
    (packet_unannounced a.self.now a.from a.message a.payload.now a.now a.epoch a.nonce a.out.now (good h) (heeded h)
    _ _ _ (c.input_of-head.ensures (sym c.kind_of.ensures ∙ c.in-2.is)) c.open-opened.result c.open-opened.ensures c.if-not-opened.true c.inform-informed.result c.inform-informed.ensures
    c.in_ok-admit-in-2.ensures c.receiving_width-width.result c.receiving_width-width.ensures
    (wide q) c.news_of-news.result c.news_of-news.ensures c.announce.result c.announce.new.events (pushed q) _ c.in_err-announce-in-2.was)

pub returns-then-opened : goal.returns-then-opened
returns-then-opened c =
    let h = (goal.at.returns-then-opened c).Else-is_ignored in
    let q = (goal.at.returns-then-opened c).After-announce in
    let a = c.args in
    let s = with_events_of a.self.now c.announce.new.events in
    let t = remade s c.acknowledge-self.new.pending c.acknowledge-self.result s.history s.sync s.nonces s.clocks s.flags s.quality s.statuses s.checksums s.events s.queued in
    let announced = packet_announced a.self.now a.from a.message a.payload.now a.now a.epoch a.nonce a.out.now (good h) (heeded h)
    _ _ _ (c.input_of-head.ensures (sym c.kind_of.ensures ∙ c.in-2.is)) c.open-opened.result c.open-opened.ensures c.if-not-opened.true c.inform-informed.result c.inform-informed.ensures
    c.in_ok-admit-in-2.ensures c.receiving_width-width.result c.receiving_width-width.ensures
    (wide q) c.news_of-news.result c.news_of-news.ensures c.announce.result c.announce.new.events (pushed q) c.in_ok-announce-in-2.was s refl in
    let dropped = drops_some c.input_of-head.result.ack_frame s t c.acknowledge-self.result c.acknowledge-self.new.pending c.acknowledge-self.ensures refl in
    packet_read a.self.now a.from a.message a.payload.now a.now a.epoch a.nonce a.out.now (good h) (heeded h)
    _ _ _ (c.input_of-head.ensures (sym c.kind_of.ensures ∙ c.in-2.is)) c.open-opened.result c.open-opened.ensures c.if-not-opened.true c.inform-informed.result c.inform-informed.ensures
    c.in_ok-admit-in-2.ensures c.receiving_width-width.result c.receiving_width-width.ensures
    s announced t dropped c.noted-self.result (rw c.is_some.ensures at c.noted-self.ensures) c.if-opened.true
    c.take_in.new.self (rw (reference q) at c.take_in.ensures) c.newest.result c.newest.ensures c.body_only.result c.body_only.new.out c.body_only.ensures _ c.unwrap_or-self.ensures

pub returns-else-opened : goal.returns-else-opened
returns-else-opened c =
    let h = (goal.at.returns-else-opened c).Else-is_ignored in
    let q = (goal.at.returns-else-opened c).After-announce in
    let a = c.args in
    let s = with_events_of a.self.now c.announce.new.events in
    let t = remade s c.acknowledge-self.new.pending c.acknowledge-self.result s.history s.sync s.nonces s.clocks s.flags s.quality s.statuses s.checksums s.events s.queued in
    let announced = packet_announced a.self.now a.from a.message a.payload.now a.now a.epoch a.nonce a.out.now (good h) (heeded h)
    _ _ _ (c.input_of-head.ensures (sym c.kind_of.ensures ∙ c.in-2.is)) c.open-opened.result c.open-opened.ensures c.if-not-opened.true c.inform-informed.result c.inform-informed.ensures
    c.in_ok-admit-in-2.ensures c.receiving_width-width.result c.receiving_width-width.ensures
    (wide q) c.news_of-news.result c.news_of-news.ensures c.announce.result c.announce.new.events (pushed q) c.in_ok-announce-in-2.was s refl in
    let dropped = drops_some c.input_of-head.result.ack_frame s t c.acknowledge-self.result c.acknowledge-self.new.pending c.acknowledge-self.ensures refl in
    packet_unread a.self.now a.from a.message a.payload.now a.now a.epoch a.nonce a.out.now (good h) (heeded h)
    _ _ _ (c.input_of-head.ensures (sym c.kind_of.ensures ∙ c.in-2.is)) c.open-opened.result c.open-opened.ensures c.if-not-opened.true c.inform-informed.result c.inform-informed.ensures
    c.in_ok-admit-in-2.ensures c.receiving_width-width.result c.receiving_width-width.ensures
    s announced t dropped c.noted-self.result (rw c.is_some.ensures at c.noted-self.ensures) c.if-opened.false

pub returns-then-full-2 : goal.returns-then-full-2
returns-then-full-2 c =
    let h = (goal.at.returns-then-full-2 c).Else-is_ignored in
    let a = c.args in
    (only_crowded a.self.now a.from a.message a.payload.now a.now a.epoch a.nonce a.out.now (good h) (heeded h)
    c.is_resuming-resumes.result c.is_resuming-resumes.ensures c.count.result c.count.ensures c.events_full-full.result c.events_full-full.ensures
    (input_passes a.self.now a.from a.message a.payload.now a.now a.epoch a.nonce a.out.now (good h) (heeded h)
    _ _ _ (c.input_of-head.ensures (sym c.kind_of.ensures ∙ c.in-2.is)) c.open-opened.result c.open-opened.ensures c.if-not-opened.false) c.if-full-2.true)

pub returns-then-full-3 : goal.returns-then-full-3
returns-then-full-3 c =
    let h = (goal.at.returns-then-full-3 c).Else-is_ignored in
    let a = c.args in
    (ack_crowded a.self.now a.from a.message a.payload.now a.now a.epoch a.nonce a.out.now (good h) (heeded h)
    c.is_resuming-resumes.result c.is_resuming-resumes.ensures c.count.result c.count.ensures c.events_full-full.result c.events_full-full.ensures
    _ (c.ack_of-ack_frame.ensures (sym c.kind_of.ensures ∙ c.in-3.is)) c.if-full-3.true)

pub returns-in_err-weigh_report-in-6 : goal.returns-in_err-weigh_report-in-6
returns-in_err-weigh_report-in-6 c =
    let h = (goal.at.returns-in_err-weigh_report-in-6 c).Else-is_ignored in
    let a = c.args in
    rw (passed_on c.from_residual-in_err-weigh_report-in-6.result _ c.from_residual-in_err-weigh_report-in-6.ensures.1)
    (weighed_refused a.self.now a.from a.message a.payload.now a.now a.epoch a.nonce a.out.now (good h) (heeded h)
    c.is_resuming-resumes.result c.is_resuming-resumes.ensures c.count.result c.count.ensures c.events_full-full.result c.events_full-full.ensures
    _ _ (c.checksum_of.ensures (sym c.kind_of.ensures ∙ c.in-6.is)) c.interval.result c.interval.ensures c.report-reported.result c.report-reported.new.self c.report-reported.ensures
    c.weigh_report.result c.weigh_report.ensures.overflow c.weigh_report.ensures.full c.weigh_report.ensures.done _ c.in_err-weigh_report-in-6.was)

-- a number above 7 is no body's
pub returns-in_default : goal.returns-in_default
returns-in_default c =
    let k = c.kind_of.result in
    let n : (k ≡ 0 → ⊥) × (k ≡ 1 → ⊥) × (k ≡ 2 → ⊥) × (k ≡ 3 → ⊥) × (k ≡ 6 → ⊥) × (k ≡ 7 → ⊥) =
    (grind arith, grind arith, grind arith, grind arith, grind arith, grind arith) in
    absurd (kind_is_one c.args.message.body k c.kind_of.ensures
    n.0 n.1 n.2 n.3 (λ z. omega arith) (λ z. omega arith) n.4 n.5)

-- a kind that is only reacted to has a number of its own
abbrev Others : ℕ → Type 0
Others n = (n ≡ 1 → ⊥) × (n ≡ 2 → ⊥) × (n ≡ 3 → ⊥) × (n ≡ 6 → ⊥)

one_other : (n : ℕ) → OneOf (0 ∷ 7 ∷ []) n → Others n
one_other n k =
    let not : (i : ℕ) → T (noneb (0 ∷ 7 ∷ []) i) → n ≡ i → ⊥ = λ i t z. none_of (0 ∷ 7 ∷ []) i t (subst (OneOf (0 ∷ 7 ∷ [])) z k) in
    (not 1 tt, not 2 tt, not 3 tt, not 6 tt)

pub returns-in_err-reacted-in-0 : goal.returns-in_err-reacted-in-0
returns-in_err-reacted-in-0 c =
    let h = (goal.at.returns-in_err-reacted-in-0 c).Else-is_ignored in
    let a = c.args in
    let o : Others c.kind_of.result =
    elim c.in-0-1.branch [
      | in-0-1 v ↦ one_other c.kind_of.result v.in-0-1.keys5
      | in_default+then-this-lt6 v ↦ (v.in_default-1.rest.0.0.0.0.1, v.in_default-1.rest.0.0.0.1, v.in_default-1.rest.0.0.1, v.in_default-1.rest.0.1)
    ] in
    rw (passed_on c.from_residual-in_err-reacted-in-0.result _ c.from_residual-in_err-reacted-in-0.ensures.1)
    (react_refuses a.self.now a.from a.message a.payload.now a.now a.epoch a.nonce a.out.now (good h) (heeded h)
    c.is_resuming-resumes.result c.is_resuming-resumes.ensures c.count.result c.count.ensures c.events_full-full.result c.events_full-full.ensures
    c.react.result c.react.new.out c.react.ensures c.kind_of.result c.kind_of.ensures o _ c.in_err-reacted-in-0.was)

-- what the match leaves, on each of its sides
left : (c : Joined-kind_of) →
    let h = (goal.at.Joined-kind_of c).Else-is_ignored in
    let a = c.args in
    Left a.self.now a.from a.message a.payload.now a.now a.epoch a.nonce a.out.now (good h) (heeded h)
    c.is_resuming-resumes.result c.is_resuming-resumes.ensures c.count.result c.count.ensures c.events_full-full.result c.events_full-full.ensures
    c.match-kind_of.self c.match-kind_of.out
left c =
    let h = (goal.at.Joined-kind_of c).Else-is_ignored in
    let a = c.args in
    elim c.match-kind_of.branch [
      | in-1+else-full w ↦
          let u : is_synchronizing a.self.now.sync.phase && is_outstanding w.reply_of-reply.result (outstanding a.self.now.nonces) ≡ false =
          elim w.match-phase.branch [
            | in-Synchronizing+else-spend v ↦ rw (ap is_synchronizing v.in-Synchronizing.is) (sym v.spend.ensures.found ∙ v.if-spend.false)
            | in_default-phase v ↦ rw (other_phase a.self.now.sync.phase v.in_default-phase.not-Synchronizing)
          ] in
          rw (w.self-is, w.out-is) (only_left a.self.now a.from a.message a.payload.now a.now a.epoch a.nonce a.out.now (good h) (heeded h)
          c.is_resuming-resumes.result c.is_resuming-resumes.ensures c.count.result c.count.ensures c.events_full-full.result c.events_full-full.ensures
          (reply_passes a.self.now a.from a.message a.payload.now a.now a.epoch a.nonce a.out.now (good h) (heeded h)
          _ (w.reply_of-reply.ensures (sym c.kind_of.ensures ∙ w.in-1.is)) u) w.if-full.false)
      | in-2+else-not-opened+else-full-2 w ↦
          rw (w.self-is, w.out-is) (only_left a.self.now a.from a.message a.payload.now a.now a.epoch a.nonce a.out.now (good h) (heeded h)
          c.is_resuming-resumes.result c.is_resuming-resumes.ensures c.count.result c.count.ensures c.events_full-full.result c.events_full-full.ensures
          (input_passes a.self.now a.from a.message a.payload.now a.now a.epoch a.nonce a.out.now (good h) (heeded h)
          _ _ _ (w.input_of-head.ensures (sym c.kind_of.ensures ∙ w.in-2.is)) w.open-opened.result w.open-opened.ensures w.if-not-opened.false) w.if-full-2.false)
      | in-3+else-full-3 w ↦
          rw (w.self-is, w.out-is) (ack_left a.self.now a.from a.message a.payload.now a.now a.epoch a.nonce a.out.now (good h) (heeded h)
          c.is_resuming-resumes.result c.is_resuming-resumes.ensures c.count.result c.count.ensures c.events_full-full.result c.events_full-full.ensures
          _ (w.ack_of-ack_frame.ensures (sym c.kind_of.ensures ∙ w.in-3.is)) w.if-full-3.false w.drop_to-self.result w.drop_to-self.new.self w.drop_to-self.ensures)
      | in-6+in_ok-weigh_report-in-6 w ↦
          rw (w.self-is, w.out-is) (weighed_left a.self.now a.from a.message a.payload.now a.now a.epoch a.nonce a.out.now (good h) (heeded h)
          c.is_resuming-resumes.result c.is_resuming-resumes.ensures c.count.result c.count.ensures c.events_full-full.result c.events_full-full.ensures
          _ _ (w.checksum_of.ensures (sym c.kind_of.ensures ∙ w.in-6.is)) w.interval.result w.interval.ensures w.report-reported.result w.report-reported.new.self w.report-reported.ensures
          w.weigh_report.result w.weigh_report.ensures.overflow w.weigh_report.ensures.full w.weigh_report.ensures.done w.in_ok-weigh_report-in-6.was)
      | in-0+in_ok-reacted-in-0 w ↦
          let o : Others c.kind_of.result =
          elim w.in-0-1.branch [
            | in-0-1 v ↦ one_other c.kind_of.result v.in-0-1.keys5
            | in_default+then-this-lt6 v ↦ (v.in_default-1.rest.0.0.0.0.1, v.in_default-1.rest.0.0.0.1, v.in_default-1.rest.0.0.1, v.in_default-1.rest.0.1)
          ] in
          rw (w.self-is, w.out-is) (react_left a.self.now a.from a.message a.payload.now a.now a.epoch a.nonce a.out.now (good h) (heeded h)
          c.is_resuming-resumes.result c.is_resuming-resumes.ensures c.count.result c.count.ensures c.events_full-full.result c.events_full-full.ensures
          w.react.result w.react.new.out w.react.ensures c.kind_of.result c.kind_of.ensures o _ w.in_ok-reacted-in-0.was)
    ]

pub returns : goal.returns
returns c =
    let h = (goal.at.returns c).Else-is_ignored in
    let a = c.args in
    let l = left (goal.at.returns c).Joined-kind_of in
    (elim c.if-resumes.branch [
      | then-resumes w ↦ rw w.self-is (ends_announced a.self.now a.from a.message a.payload.now a.now a.epoch a.nonce a.out.now (good h) (heeded h)
          c.is_resuming-resumes.result c.is_resuming-resumes.ensures c.count.result c.count.ensures c.events_full-full.result c.events_full-full.ensures
          c.match-kind_of.self c.match-kind_of.out l c.heard-self-2.result (rw w.self-is at c.heard-self-2.ensures) w.if-resumes.true _ refl w.push-then-resumes.result w.push-then-resumes.new.self w.push-then-resumes.ensures)
      | else-resumes w ↦ rw w.self-is (ends_quiet a.self.now a.from a.message a.payload.now a.now a.epoch a.nonce a.out.now (good h) (heeded h)
          c.is_resuming-resumes.result c.is_resuming-resumes.ensures c.count.result c.count.ensures c.events_full-full.result c.events_full-full.ensures
          c.match-kind_of.self c.match-kind_of.out l c.heard-self-2.result (rw w.self-is at c.heard-self-2.ensures) w.if-resumes.false c.requires)
    ])
