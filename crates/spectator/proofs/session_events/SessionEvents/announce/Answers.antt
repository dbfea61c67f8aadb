-- The oldest are dropped for it, so there is room for one more.
use Rattle.std.proofs.Common.{◌≡◌, ◌∙◌, ◌+◌, ◌-◌, ◌<◌, ◌≤◌, length, length-drop, drop, ap, arith}
use borrow.Author.Tests.{lt-ltb}
use Prim.Native.Nat.{min}
use Rattle.fixed_vec.specs.FixedVec.{held}
use Rattle.spectator.specs.Stores.{events_of}
use Rattle.spectator_rules.specs.Handling.{event_added}
use Rattle.spectator.proofs.Laws.SessionEvents.{announced}
use Rattle.spectator.proofs.Laws.Counts.{counted_view}
use Rattle.spectator.proofs.session_events.SessionEvents.announce.Goals as goal

pub returns : goal.returns
unfolding events_of held
returns c =
    let a = c.args in
    let l = held a.self.now.entries in
    let over = c.saturating_sub-over.result in
    let most : 1 ≤ min a.most 128 = omega (arith, c.min-most.ensures) in
    let few : length l ≤ 128 = omega (arith, c.len.ensures.value, c.len.ensures.fits) in
    let many : over ≡ length l + 1 - min a.most 128 = omega (arith, c.saturating_sub-over.ensures, c.min-most.ensures, c.len.ensures.value) in
    let front : held c.remove_front.new.self ≡ drop over l = c.remove_front.ensures in
    let room : length (held c.remove_front.new.self) < 128 = rw front (omega (arith, length-drop over l)) in
    let view : held c.push.new.self ≡ event_added a.most a.entry l = rw (lt-ltb _ _ room, front, announced a.most a.entry l over many most few) at c.push.ensures.1 in
    (counted_view c.push.new.self.count c.push.new.self.list c.len-self.result c.len-self.ensures.value ∙ view, c.len-self.ensures.value ∙ ap length view)
