-- One more event handled.
use Rattle.std.proofs.Common.{◌≡◌, ◌∙◌, refl, sym, ap, get_or, length, arith}
use Rattle.events.specs.Events.{held_events, blank_entry}
use Rattle.events.specs.declared.Entry.{Entry}
use Rattle.spectator_rules.specs.Handling.{handled}
use Rattle.spectator.specs.Session.{seen}
use Rattle.spectator.proofs.Laws.Handling.{handled_turn, handled_end, newest_shown, terms_kept}
use Rattle.spectator.proofs.SpectatorSession.handle_all.Goals as goal

pub loop-i-init : goal.loop-i-init
loop-i-init c = (refl, λ k. k, record { setup = refl; count = refl }, refl)

pub handle-requires : goal.handle-requires
unfolding seen
handle-requires c = newest_shown c.args.self.now.host _ c.last_recv_frame-newest.ensures ∙ sym c.loop-i.invariant.3

pub loop-i-preserved : goal.loop-i-preserved
loop-i-preserved c =
    let es = held_events c.args.events.now in
    let l = c.loop-i in
    let h = c.handle.ensures in
    let next : seen c.handle.new.self ≡ handled (get_or es l.i blank_entry) (seen l.self) = h.after ∙ ap (λ (x : Entry). handled x (seen l.self)) c.entry.ensures in (
      handled_turn es l.i _ _ (omega (arith, c.count-i-end.ensures)) next ∙ l.invariant.0,
      λ k. h.counted (l.invariant.1 k),
      terms_kept _ _ _ l.invariant.2 h.terms,
      h.newest ∙ l.invariant.3,
    )

pub returns : goal.returns
returns c =
    let es = held_events c.args.events.now in
    let l = c.loop-i in
    let end : l.i ≡ length es = omega (arith, c.count-i-end.ensures) in
    record { after = handled_end es l.i (seen l.self) end ∙ l.invariant.0; counted = l.invariant.1; terms = l.invariant.2; newest = l.invariant.3 }
