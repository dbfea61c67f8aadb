-- Lists of distinct keys, whatever their elements: one whose keys the other holds is not longer.
use borrow.Author.Tests.{eq-eqb}
use mathlib.Core.Bool.{true, false, true≢false}
use mathlib.Core.List.{List, [], ◌∷◌}
use mathlib.Core.Path.{◌≡◌, refl, sym, ◌∙◌}
use Prim.Native.Nat.{ℕ, ◌≤◌}
use native.Mathlib.Omega.{arith}
use lib.Dec.{eqb}
use lib.ListN.{length}
use Rattle.base.specs.Pick.{pick}
use Rattle.base.specs.Keyed.{has, without, Distinct}
use Rattle.base.proofs.Removal.{without_others, without-shorter}

module _ {X Y : Type 0} (key : X → ℕ) (other : Y → ℕ) where
  pub keys_fewer : (l : List X) (m : List Y) → Distinct key l → ((k : ℕ) → has key k l ≡ true → has other k m ≡ true) → length l ≤ length m
  unfolding Distinct has
  keys_fewer [] m d h = omega arith
  keys_fewer (x ∷ xs) m d h =
      let first : has other (key x) m ≡ true = h (key x) (rw (eq-eqb (key x) (key x) refl)) in
      let rest = keys_fewer xs (without other (key x) m) d.1 (λ k e.
      without_others other k (key x) m (λ q. let no : has key (key x) xs ≡ true = rw q at e in true≢false (sym no ∙ d.0))
      ∙ h k (elim (eqb k (key x)) as (λ b. pick b true (has key k xs) ≡ true) [ true ↦ refl | false ↦ e ])) in
      omega (arith, without-shorter other (key x) m first, rest)
