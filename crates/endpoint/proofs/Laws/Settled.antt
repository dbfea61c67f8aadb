-- Two answers that a call's contract allows are equal, as are the states after them, with their setups and the counts of their statuses, and the lent buffers.
use mathlib.Core.List.{List}
use mathlib.Core.Path.{◌≡◌, sym, ◌∙◌}
use Prim.Native.Nat.{ℕ}
use Rattle.answer.proofs.Number.{number_determines}
use Rattle.endpoint_rules.specs.Did.{Did}
use Rattle.endpoint.specs.declared.Endpoint.{Endpoint}
use Rattle.endpoint.specs.declared.Ended.{Ended}
use Rattle.endpoint.specs.Endpoint.{seen, SameTerms, DidAs, DoneAs}

-- what has the terms of one endpoint has each other's
pub same_terms : (e : Endpoint) {r s : Endpoint} → SameTerms e r → SameTerms e s → SameTerms r s
same_terms e a b = record { setup = b.setup ∙ sym a.setup; count = b.count ∙ sym a.count }

module _ (e : Endpoint) (d : Did) where
  pub done_settled : (r s : Ended) → DoneAs e d r → DoneAs e d s
      → (r.answer ≡ s.answer) × (seen r.endpoint ≡ seen s.endpoint) × SameTerms r.endpoint s.endpoint
  done_settled r s a b = (number_determines r.answer s.answer (a.answer ∙ sym b.answer), a.after ∙ sym b.after, same_terms e a.terms b.terms)

  pub did_settled : (buffer : List ℕ) (r s : Ended) (b c : List ℕ) → DidAs e d buffer r b → DidAs e d buffer s c
      → (r.answer ≡ s.answer) × (seen r.endpoint ≡ seen s.endpoint) × SameTerms r.endpoint s.endpoint × (b ≡ c)
  did_settled buffer r s b c x y =
      (number_determines r.answer s.answer (x.answer ∙ sym y.answer), x.after ∙ sym y.after, same_terms e x.terms y.terms, x.lent ∙ sym y.lent)
