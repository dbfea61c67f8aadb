-- Laws of the keys of a list, in their order (`map key`), over the element type and its key: which they are, those of what is kept and of a list with one put in, and
-- that they determine a list, with what is found of each.
use borrow.Author.Tests.{eq-eqb, ne_eqb, eqb-true}
use mathlib.Core.Bool.{Bool, true, false, true≢false}
use mathlib.Core.List.{List, [], ◌∷◌, ◌++◌, map}
use mathlib.Core.Path.{◌≡◌, refl, sym, ◌∙◌, ap}
use Prim.Native.Nat.{ℕ}
use lib.Dec.{eqb}
use Rattle.base.specs.Pick.{pick}
use Rattle.base.specs.Keyed.{kept, has, first_with, put, Distinct}

-- a choice between two lists with the same first element
pub cons_pick : {X : Type 0} (b : Bool) (x : X) (l m : List X) → x ∷ pick b l m ≡ pick b (x ∷ l) (x ∷ m)
cons_pick true x l m = refl
cons_pick false x l m = refl

-- a number is its own key
abbrev pub self : ℕ → ℕ
self n = n

-- two tests that agree on what a list holds keep the same
pub kept_alike : (p q : ℕ → Bool) (l : List ℕ) → ((k : ℕ) → has self k l ≡ true → p k ≡ q k) → kept p l ≡ kept q l
unfolding kept has
kept_alike p q [] h = refl
kept_alike p q (x ∷ xs) h =
    rw (h x (rw (eq-eqb x x refl)), kept_alike p q xs (λ k e. h k (elim (eqb k x) as (λ b. pick b true (has self k xs) ≡ true) [ true ↦ refl | false ↦ e ])))

module _ {X : Type 0} (key : X → ℕ) where
  -- the keys are those that are held
  pub keys_has : (k : ℕ) (l : List X) → has self k (map key l) ≡ has key k l
  unfolding has
  keys_has k [] = refl
  keys_has k (x ∷ xs) = rw (keys_has k xs)

  -- where none of them stands twice, none does in the list
  pub keys_distinct : (l : List X) → Distinct self (map key l) → Distinct key l
  unfolding Distinct
  keys_distinct [] d = tt
  keys_distinct (x ∷ xs) d = (sym (keys_has (key x) xs) ∙ d.0, keys_distinct xs d.1)

  -- the keys of what a test of the key keeps
  pub keys_kept : (t : ℕ → Bool) (l : List X) → map key (kept (λ x. t (key x)) l) ≡ kept t (map key l)
  unfolding kept
  keys_kept t [] = refl
  keys_kept t (x ∷ xs) =
      elim (t (key x)) as (λ b. map key (pick b (x ∷ kept (λ y. t (key y)) xs) (kept (λ y. t (key y)) xs)) ≡ pick b (key x ∷ kept t (map key xs)) (kept t (map key xs)))
      [ true ↦ ap (λ (r : List ℕ). key x ∷ r) (keys_kept t xs) | false ↦ keys_kept t xs ]

  -- the keys with one put in: as they were, or with its key at the end where that is new
  pub keys_put : (y : X) (l : List X) → map key (put key y l) ≡ pick (has key (key y) l) (map key l) (map key l ++ key y ∷ [])
  unfolding has put
  keys_put y [] = refl
  keys_put y (x ∷ xs) =
      elim (eqb (key y) (key x)) as (λ b. eqb (key y) (key x) ≡ b → map key (pick b (y ∷ xs) (x ∷ put key y xs)) ≡ pick (pick b true (has key (key y) xs)) (key x ∷ map key xs) (key x ∷ map key xs ++ key y ∷ [])) [
        | true ↦ λ e. rw (eqb-true (key y) (key x) e)
        | false ↦ λ _. rw (keys_put y xs) (cons_pick (has key (key y) xs) (key x) (map key xs) (map key xs ++ key y ∷ []))
      ]
      refl

  -- two lists with the same keys in the same order, none twice, of which the same is found under each, are the same
  pub keys_settle : (d : X) (l m : List X) → map key l ≡ map key m → Distinct key l → ((k : ℕ) → has key k l ≡ true → first_with key k d l ≡ first_with key k d m) → l ≡ m
  unfolding has first_with Distinct
  keys_settle d [] [] e once h = refl
  keys_settle d [] (y ∷ m) e once h = cc
  keys_settle d (x ∷ l) [] e once h = cc
  keys_settle d (x ∷ l) (y ∷ m) e once h = ap (λ (z : X). z ∷ l) first ∙ ap (λ (r : List X). y ∷ r) (keys_settle d l m rest once.1 others)
    where
      same : key x ≡ key y
      same = cc

      rest : map key l ≡ map key m
      rest = cc

      first : x ≡ y
      first = rw (eq-eqb (key x) (key x) refl, eq-eqb (key x) (key y) same) at (h (key x) (rw (eq-eqb (key x) (key x) refl)))

      -- one that stands behind the first has another key
      others : (k : ℕ) → has key k l ≡ true → first_with key k d l ≡ first_with key k d m
      others k i =
          let n : k ≡ key x → ⊥ = λ q. true≢false (sym i ∙ ap (λ j. has key j l) q ∙ once.0) in
          rw (ne_eqb k (key x) n, ne_eqb k (key y) (λ q. n (q ∙ sym same))) at (h k (rw (ne_eqb k (key x) n) i))
