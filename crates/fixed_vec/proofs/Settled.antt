-- Two answers that a contract allows are equal, by name for each public function: lists up to what their array holds past the count.
use Rattle.std.proofs.Common.{◌≡◌, List, [], ℕ, ◌-◌, Bool, length, drop, slice_get, slice_set, Option, Result, sym, ◌∙◌}
use Rattle.base.specs.Keyed.{kept}
use Rattle.base.proofs.Settled.{settled}
use Rattle.fixed_vec.specs.declared.FixedVec.{FixedVec}
use Rattle.fixed_vec.specs.FixedVec.{held, PushedAs, ExtendedAs}

module _ {T : Type 0} {N : ℕ} where
  pub new_settled : (r s : FixedVec T N) → held r ≡ [] → held s ≡ [] → held r ≡ held s
  new_settled = settled held []

  pub clear_settled : (r s : FixedVec T N) → held r ≡ [] → held s ≡ [] → held r ≡ held s
  clear_settled = settled held []

  module _ (v : FixedVec T N) where
    pub len_settled : (r s : ℕ) → r ≡ length (held v) → s ≡ length (held v) → r ≡ s
    len_settled = settled (λ r. r) (length (held v))

    pub as_slice_settled : (r s : List T) → r ≡ held v → s ≡ held v → r ≡ s
    as_slice_settled = settled (λ r. r) (held v)

    pub get_settled : (at : ℕ) (r s : Option T) → r ≡ slice_get (held v) at → s ≡ slice_get (held v) at → r ≡ s
    get_settled at = settled (λ r. r) (slice_get (held v) at)

    pub first_settled : (r s : Option T) → r ≡ slice_get (held v) 0 → s ≡ slice_get (held v) 0 → r ≡ s
    first_settled = settled (λ r. r) (slice_get (held v) 0)

    pub last_settled : (r s : Option T) → r ≡ slice_get (held v) (length (held v) - 1) → s ≡ slice_get (held v) (length (held v) - 1) → r ≡ s
    last_settled = settled (λ r. r) (slice_get (held v) (length (held v) - 1))

    -- the answer and the list
    pub extend_from_slice_settled : (more : List T) (r s : Bool) (new new' : FixedVec T N) → ExtendedAs N v more r new → ExtendedAs N v more s new' → (r ≡ s) × (held new ≡ held new')
    extend_from_slice_settled more r s new new' p q = (p.0 ∙ sym q.0, p.1 ∙ sym q.1)

    -- the answer and the list
    pub push_settled : (x : T) (r s : Result Unit T) (new new' : FixedVec T N) → PushedAs N v x r new → PushedAs N v x s new' → (r ≡ s) × (held new ≡ held new')
    push_settled x r s new new' p q = (p.0 ∙ sym q.0, p.1 ∙ sym q.1)

    pub set_settled : (at : ℕ) (x : T) (r s : FixedVec T N) → held r ≡ slice_set (held v) at x → held s ≡ slice_set (held v) at x → held r ≡ held s
    set_settled at x = settled held (slice_set (held v) at x)

    pub remove_front_settled : (n : ℕ) (r s : FixedVec T N) → held r ≡ drop n (held v) → held s ≡ drop n (held v) → held r ≡ held s
    remove_front_settled n = settled held (drop n (held v))

    pub retain_settled : (passes : T → Bool) (r s : FixedVec T N) → held r ≡ kept passes (held v) → held s ≡ kept passes (held v) → held r ≡ held s
    retain_settled passes = settled held (kept passes (held v))
