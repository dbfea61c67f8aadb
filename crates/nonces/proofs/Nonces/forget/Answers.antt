-- `contains` says whether it is outstanding, and `retain` leaves all but it.
use Rattle.std.proofs.Common.{◌≡◌, ◌∙◌}
use Rattle.fixed_vec.specs.FixedVec.{held}
use Rattle.base.specs.Keyed.{without}
use Rattle.nonces.specs.Nonces.{outstanding, is_outstanding}
use Rattle.nonces.proofs.Laws.{has_any, forgets, forgets_none}
use Rattle.nonces.proofs.Nonces.forget.Goals as goal

pub returns-then-found : goal.returns-then-found
unfolding outstanding without
returns-then-found c =
    let a = c.args in
    let e : c.contains-found.result ≡ is_outstanding a.nonce (held a.self.now.list) = c.contains-found.ensures.value ∙ rw c.as_slice.ensures.value (has_any a.nonce (held a.self.now.list)) in
    forgets a.self.now a.nonce _ e _ c.if-found.true c.retain.ensures.value

pub returns-else-found : goal.returns-else-found
unfolding outstanding
returns-else-found c =
    let a = c.args in
    let e : c.contains-found.result ≡ is_outstanding a.nonce (held a.self.now.list) = c.contains-found.ensures.value ∙ rw c.as_slice.ensures.value (has_any a.nonce (held a.self.now.list)) in
    forgets_none a.self.now a.nonce _ e c.if-found.false
