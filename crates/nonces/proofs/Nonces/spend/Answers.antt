-- The nonce is gone where it was outstanding; where none is issued after it, that is all.
use Rattle.nonces.proofs.Laws.{absent, stops}
use Rattle.nonces.proofs.Nonces.spend.Goals.{else-found-via-then-found+else-goes_on, else-found-via-else-found}
use Rattle.nonces.proofs.Nonces.spend.Goals as goal

pub returns-else-found : goal.returns-else-found
returns-else-found c =
    let a = c.args in
    let f = c.forget-found in
    elim c.else-found.branch [
      | else-found-via-then-found+else-goes_on w ↦ stops a.self.now a.nonce _ a.goes_on a.next _ f.ensures w.if-goes_on.false
      | else-found-via-else-found w ↦ absent a.self.now a.nonce _ a.goes_on a.next _ f.ensures w.if-found.false
    ]
