-- Two answers that a contract allows are equal, by name for each public function: stores up to what their array holds past the count.
use mathlib.Core.Bool.{Bool}
use mathlib.Core.List.{[]}
use mathlib.Core.Path.{◌≡◌, sym, ◌∙◌}
use Prim.Native.Nat.{ℕ}
use lib.ListN.{length}
use Rattle.base.proofs.Settled.{settled}
use Rattle.nonces.specs.declared.Nonces.{Nonces}
use Rattle.nonces.specs.Nonces.{outstanding, issued, SpentAs}

pub new_settled : (r s : Nonces) → outstanding r ≡ [] → outstanding s ≡ [] → outstanding r ≡ outstanding s
new_settled = settled outstanding []

module _ (n : Nonces) where
  pub count_settled : (r s : ℕ) → r ≡ length (outstanding n) → s ≡ length (outstanding n) → r ≡ s
  count_settled = settled (λ r. r) (length (outstanding n))

  module _ (nonce : ℕ) where
    pub issue_settled : (r s : Nonces) → outstanding r ≡ issued nonce (outstanding n) → outstanding s ≡ issued nonce (outstanding n) → outstanding r ≡ outstanding s
    issue_settled = settled outstanding (issued nonce (outstanding n))

    pub spend_settled : (goes_on : Bool) (next : ℕ) (r s : Bool) (new other : Nonces) → SpentAs n nonce goes_on next r new → SpentAs n nonce goes_on next s other
        → (r ≡ s) × (outstanding new ≡ outstanding other)
    spend_settled goes_on next r s new other a b = (a.found ∙ sym b.found, a.view ∙ sym b.view)
