-- Of the others the newest 255 stay, so there is room for one more.
use Rattle.std.proofs.Common.{◌≡◌, ◌∙◌, ap, ◌-◌, ◌<◌, ℕ, length, arith}
use borrow.Author.Tests.{lt-ltb}
use lib.ListN.{length-drop}
use Rattle.base.specs.Last.{last_of}
use Rattle.fixed_vec.specs.FixedVec.{held}
use Rattle.nonces.specs.Nonces.{outstanding, spent, issued}
use Rattle.nonces.proofs.Laws.{renewed_none}
use Rattle.nonces.proofs.Nonces.issue.Goals as goal

pub unwrap-requires : goal.unwrap-requires
unfolding outstanding
unwrap-requires c =
    let few : length (held c.remove_front.new.self) < 256 =
    omega (arith, ap length c.remove_front.ensures, length-drop c.saturating_sub-over.result (held c.forget.new.self.list)) in
    rw (c.push.ensures.0, lt-ltb (length (held c.remove_front.new.self)) 256 few)

pub returns : goal.returns
unfolding outstanding issued last_of
returns c =
    let l = held c.args.self.now.list in
    let few : length (held c.remove_front.new.self) < 256 =
    omega (arith, ap length c.remove_front.ensures, length-drop c.saturating_sub-over.result (held c.forget.new.self.list)) in
    let others : held c.forget.new.self.list ≡ spent c.args.nonce l = c.forget.ensures.view ∙ renewed_none c.args.nonce l in
    let over : c.saturating_sub-over.result ≡ length (spent c.args.nonce l) - 255 = c.saturating_sub-over.ensures ∙ ap (λ (n : ℕ). n - 255) (c.count.ensures ∙ ap length others) in
    c.push.ensures.1 ∙ rw (lt-ltb (length (held c.remove_front.new.self)) 256 few, c.remove_front.ensures, others, over)
