-- What holds of every element holds of those of a list that is joined, cut, sieved or put into.
use mathlib.Core.Bool.{Bool, true, false}
use mathlib.Core.List.{List, [], ◌∷◌, ◌++◌}
use mathlib.Core.Path.{◌≡◌, refl}
use Prim.Native.Nat.{ℕ, zero, suc, ◌-◌}
use lib.Dec.{eqb}
use lib.ListN.{length, drop, replicate}
use Rattle.base.specs.Pick.{pick}
use Rattle.base.specs.Keyed.{kept, put}
use Rattle.base.specs.Last.{last_of}
use Rattle.endpoint_invariant.specs.Each.{Each}

module _ {X : Type 0} (P : X → Type 0) where
  pub each_all : ((x : X) → P x) → (l : List X) → Each P l
  unfolding Each
  each_all f [] = tt
  each_all f (x ∷ l) = (f x, each_all f l)

  pub each_append : (l m : List X) → Each P l → Each P m → Each P (l ++ m)
  unfolding Each
  each_append [] m h k = k
  each_append (x ∷ l) m h k = (h.0, each_append l m h.1 k)

  pub each_behind : (l m : List X) → Each P (l ++ m) → Each P m
  unfolding Each
  each_behind [] m h = h
  each_behind (x ∷ l) m h = each_behind l m h.1

  pub each_drop : (n : ℕ) (l : List X) → Each P l → Each P (drop n l)
  unfolding Each
  each_drop zero l h = h
  each_drop (suc n) [] h = h
  each_drop (suc n) (x ∷ l) h = each_drop n l h.1

  pub each_last : (n : ℕ) (l : List X) → Each P l → Each P (last_of n l)
  unfolding last_of
  each_last n l h = each_drop (length l - n) l h

  pub each_kept : (p : X → Bool) (l : List X) → Each P l → Each P (kept p l)
  unfolding Each kept
  each_kept p [] h = tt
  each_kept p (x ∷ l) h =
      elim (p x) as (λ b. Each P (pick b (x ∷ kept p l) (kept p l))) [ true ↦ (h.0, each_kept p l h.1) | false ↦ each_kept p l h.1 ]

  pub each_put : (key : X → ℕ) (y : X) (l : List X) → P y → Each P l → Each P (put key y l)
  unfolding Each put
  each_put key y [] p h = (p, tt)
  each_put key y (x ∷ l) p h =
      elim (eqb (key y) (key x)) as (λ b. Each P (pick b (y ∷ l) (x ∷ put key y l))) [ true ↦ (p, h.1) | false ↦ (h.0, each_put key y l p h.1) ]

  pub each_also : (Q : X → Type 0) → ((x : X) → P x → Q x) → (l : List X) → Each P l → Each Q l
  unfolding Each
  each_also Q f [] h = tt
  each_also Q f (x ∷ l) h = (f x h.0, each_also Q f l h.1)

  pub each_replicate : (n : ℕ) (x : X) → P x → Each P (replicate n x)
  unfolding Each
  each_replicate zero x p = tt
  each_replicate (suc n) x p = (p, each_replicate n x p)

-- those kept pass the test
pub each_passes : {X : Type 0} (p : X → Bool) (l : List X) → Each (λ x. p x ≡ true) (kept p l)
unfolding Each kept
each_passes p [] = tt
each_passes p (x ∷ l) =
    elim (p x) as (λ b. p x ≡ b → Each (λ y. p y ≡ true) (pick b (x ∷ kept p l) (kept p l)))
    [ true ↦ λ e. (e, each_passes p l) | false ↦ λ e. each_passes p l ] refl
