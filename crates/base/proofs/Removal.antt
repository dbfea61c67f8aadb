-- Laws of keyed elements (specs/Keyed.antt), over the element type and its key: the loops of a store that search its view, and what holds of the list before and after.
use borrow.Author.Tests.{eq-eqb, ne_eqb, eqb-true, eqb-false, lt-ltb}
use mathlib.Core.Bool.{Bool, true, false, not, ◌&&◌, and-true}
use mathlib.Core.List.{List, [], ◌∷◌, ◌++◌}
use mathlib.Core.Path.{◌≡◌, refl, sym, ◌∙◌, ap}
use Prim.Native.Nat.compare
use Prim.Native.Nat.{ℕ, zero, suc, ◌+◌, ◌<◌, ◌≤◌}
use native.Mathlib.Omega.{arith}
use lib.Dec.{eqb, ltb}
use lib.ListN.{length, take, drop, set, get_or, drop_of_length-le}
use Rattle.base.specs.Pick.{pick}
use Rattle.base.specs.Keyed.{kept, has, first_with, place, without, put, Distinct}
use Rattle.base.proofs.Kept.{view_cons, kept-length}

module _ {X : Type 0} where
  -- a loop that looks for a key in a view
  module _ (key : X → ℕ) (k u : ℕ) (L : List X) (i : ℕ) where
    module _ (d : X) (h : i < length (take u L)) where
      pub has_here : k ≡ key (get_or L i d) → has key k (drop i (take u L)) ≡ true
      unfolding has
      has_here e = rw (view_cons u L i d h, eq-eqb k (key (get_or L i d)) e)

      pub has_later : (k ≡ key (get_or L i d) → ⊥) → has key k (drop i (take u L)) ≡ has key k (drop (i + 1) (take u L))
      unfolding has
      has_later e = rw (view_cons u L i d h, ne_eqb k (key (get_or L i d)) e)

      pub place_here : k ≡ key (get_or L i d) → place key k (drop i (take u L)) ≡ 0
      unfolding place
      place_here e = rw (view_cons u L i d h, eq-eqb k (key (get_or L i d)) e)

      pub place_later : (k ≡ key (get_or L i d) → ⊥) → place key k (drop i (take u L)) ≡ suc (place key k (drop (i + 1) (take u L)))
      unfolding place
      place_later e = rw (view_cons u L i d h, ne_eqb k (key (get_or L i d)) e)

    module _ (h : length (take u L) ≤ i) where
      pub has_end : has key k (drop i (take u L)) ≡ false
      unfolding has
      has_end = rw (drop_of_length-le (take u L) h)

      pub place_end : place key k (drop i (take u L)) ≡ 0
      unfolding place
      place_end = rw (drop_of_length-le (take u L) h)

-- what is kept of a list, and the list without a key
module _ {X : Type 0} (key : X → ℕ) where
  -- what is kept holds no key more, and is distinct where the list is
  pub kept-has : (p : X → Bool) (k : ℕ) (l : List X) → has key k l ≡ false → has key k (kept p l) ≡ false
  unfolding kept has
  kept-has p k [] e = refl
  kept-has p k (x ∷ xs) e =
      let rest : has key k xs ≡ false = elim (eqb k (key x)) as (λ b. pick b true (has key k xs) ≡ false → has key k xs ≡ false) [ true ↦ λ f. cc | false ↦ λ f. f ] e in
      elim (p x) as (λ b. has key k (pick b (x ∷ kept p xs) (kept p xs)) ≡ false)
      [ true ↦ rw (kept-has p k xs rest) (rw rest at e) | false ↦ kept-has p k xs rest ]

  pub kept_distinct : (p : X → Bool) (l : List X) → Distinct key l → Distinct key (kept p l)
  unfolding kept Distinct
  kept_distinct p [] d = tt
  kept_distinct p (x ∷ xs) d =
      elim (p x) as (λ b. Distinct key (pick b (x ∷ kept p xs) (kept p xs)))
      [ true ↦ (kept-has p (key x) xs d.0, kept_distinct p xs d.1) | false ↦ kept_distinct p xs d.1 ]

  -- a test of the key keeps or drops a key whole
  pub kept_by_key : (t : ℕ → Bool) (k : ℕ) (l : List X) → has key k (kept (λ x. t (key x)) l) ≡ pick (t k) (has key k l) false
  unfolding kept has
  kept_by_key t k [] = elim (t k) as (λ b. false ≡ pick b false false) [ true ↦ refl | false ↦ refl ]
  kept_by_key t k (x ∷ xs) =
      let ih = kept_by_key t k xs in
      elim (eqb k (key x)) as (λ b. eqb k (key x) ≡ b → has key k (pick (t (key x)) (x ∷ kept (λ y. t (key y)) xs) (kept (λ y. t (key y)) xs)) ≡ pick (t k) (pick b true (has key k xs)) false) [
        | true ↦ λ e.
            let q = eqb-true k (key x) e in
            rw (← q)
            (elim (t k) as (λ b. t k ≡ b → has key k (pick b (x ∷ kept (λ y. t (key y)) xs) (kept (λ y. t (key y)) xs)) ≡ pick b true false)
            [ true ↦ λ _. rw e | false ↦ λ n. ih ∙ rw n ]
            refl)
        | false ↦ λ e.
            elim (t (key x)) as (λ b. has key k (pick b (x ∷ kept (λ y. t (key y)) xs) (kept (λ y. t (key y)) xs)) ≡ pick (t k) (has key k xs) false)
            [ true ↦ rw e ih | false ↦ ih ]
      ]
      refl

  pub kept_first : (t : ℕ → Bool) (k : ℕ) (d : X) (l : List X) → t k ≡ true → first_with key k d (kept (λ x. t (key x)) l) ≡ first_with key k d l
  unfolding kept first_with
  kept_first t k d [] h = refl
  kept_first t k d (x ∷ xs) h =
      let ih = kept_first t k d xs h in
      elim (eqb k (key x)) as (λ b. eqb k (key x) ≡ b → first_with key k d (pick (t (key x)) (x ∷ kept (λ y. t (key y)) xs) (kept (λ y. t (key y)) xs)) ≡ pick b x (first_with key k d xs)) [
        | true ↦ λ e. rw (← eqb-true k (key x) e, h, e)
        | false ↦ λ e.
            elim (t (key x)) as (λ b. first_with key k d (pick b (x ∷ kept (λ y. t (key y)) xs) (kept (λ y. t (key y)) xs)) ≡ first_with key k d xs)
            [ true ↦ rw e ih | false ↦ ih ]
      ]
      refl

  -- the key is gone, the others stay
  pub without_gone : (k : ℕ) (l : List X) → has key k (without key k l) ≡ false
  unfolding without
  without_gone k l = kept_by_key (λ j. not (eqb k j)) k l ∙ rw (eq-eqb k k refl)

  pub without_others : (j k : ℕ) (l : List X) → (j ≡ k → ⊥) → has key j (without key k l) ≡ has key j l
  unfolding without
  without_others j k l n = kept_by_key (λ i. not (eqb k i)) j l ∙ rw (ne_eqb k j (λ q. n (sym q)))

  -- without a key that is not held, a list is as it was; without one that is, one shorter
  pub without_none : (k : ℕ) (l : List X) → has key k l ≡ false → without key k l ≡ l
  unfolding without kept has
  without_none k [] e = refl
  without_none k (x ∷ xs) e =
      elim (eqb k (key x)) as (λ b. pick b true (has key k xs) ≡ false → pick (not b) (x ∷ without key k xs) (without key k xs) ≡ x ∷ xs)
      [ true ↦ λ f. cc | false ↦ λ f. ap (λ (r : List X). x ∷ r) (without_none k xs f) ]
      e

  pub without-shorter : (k : ℕ) (l : List X) → has key k l ≡ true → length (without key k l) < length l
  unfolding without kept has
  without-shorter k [] e = let z : ◌≡◌ {A = ℕ} 0 1 = cc in absurd (omega arith)
  without-shorter k (x ∷ xs) e =
      elim (eqb k (key x)) as (λ b. pick b true (has key k xs) ≡ true → length (pick (not b) (x ∷ without key k xs) (without key k xs)) < suc (length xs))
      [ true ↦ λ f. omega (arith, kept-length (λ y. not (eqb k (key y))) xs) | false ↦ λ f. omega (arith, without-shorter k xs f) ]
      e

  pub without-length : (k : ℕ) (l : List X) → Distinct key l → has key k l ≡ true → length (without key k l) + 1 ≡ length l
  unfolding without kept has Distinct
  without-length k [] d e = let z : ◌≡◌ {A = ℕ} 0 1 = cc in absurd (omega arith)
  without-length k (x ∷ xs) d e =
      elim (eqb k (key x)) as (λ b. eqb k (key x) ≡ b → pick b true (has key k xs) ≡ true → length (pick (not b) (x ∷ without key k xs) (without key k xs)) + 1 ≡ suc (length xs))
      [ true ↦ λ q f. rw (without_none k xs (rw (← eqb-true k (key x) q) at d.0)) (omega arith) | false ↦ λ q f. omega (arith, without-length k xs d.1 f) ]
      refl e

  -- keys of a list with one more at the end
  pub has-append : (k : ℕ) (l r : List X) → has key k (l ++ r) ≡ pick (has key k l) true (has key k r)
  unfolding has
  has-append k [] r = refl
  has-append k (x ∷ xs) r =
      elim (eqb k (key x)) as (λ b. pick b true (has key k (xs ++ r)) ≡ pick (pick b true (has key k xs)) true (has key k r))
      [ true ↦ refl | false ↦ has-append k xs r ]

  pub distinct_end : (l : List X) (x : X) → Distinct key l → has key (key x) l ≡ false → Distinct key (l ++ x ∷ [])
  unfolding has Distinct
  distinct_end [] x d e = (refl, tt)
  distinct_end (y ∷ ys) x d e =
      elim (eqb (key x) (key y)) as (λ b. eqb (key x) (key y) ≡ b → pick b true (has key (key x) ys) ≡ false → Distinct key (y ∷ ys ++ x ∷ [])) [
        | true ↦ λ q f. let z : ◌≡◌ {A = ℕ} 0 1 = cc in absurd (omega arith)
        | false ↦ λ q f. (rw (has-append (key y) ys (x ∷ []), d.0, ne_eqb (key y) (key x) (λ s. eqb-false (key x) (key y) q (sym s))), distinct_end ys x d.1 f)
      ]
      refl e

  -- keys of a list without its first ones
  pub drop-gone : (k i : ℕ) (l : List X) → has key k l ≡ false → has key k (drop i l) ≡ false
  unfolding has
  drop-gone k zero l e = e
  drop-gone k (suc i) [] e = refl
  drop-gone k (suc i) (x ∷ xs) e =
      elim (eqb k (key x)) as (λ b. pick b true (has key k xs) ≡ false → has key k (drop i xs) ≡ false)
      [ true ↦ λ f. cc | false ↦ λ f. drop-gone k i xs f ]
      e

  pub drop_distinct : (i : ℕ) (l : List X) → Distinct key l → Distinct key (drop i l)
  unfolding Distinct
  drop_distinct zero l d = d
  drop_distinct (suc i) [] d = tt
  drop_distinct (suc i) (x ∷ xs) d = drop_distinct i xs d.1

  -- no key stands twice, so one is held behind the first i exactly where it is held and is not among these
  pub drop-has : (k i : ℕ) (l : List X) → Distinct key l → has key k (drop i l) ≡ has key k l && not (has key k (take i l))
  unfolding has Distinct
  drop-has k zero l d = sym (and-true (has key k l))
  drop-has k (suc i) [] d = refl
  drop-has k (suc i) (x ∷ xs) d =
      elim (eqb k (key x)) as (λ b. eqb k (key x) ≡ b → has key k (drop i xs) ≡ pick b true (has key k xs) && not (pick b true (has key k (take i xs))))
      [ true ↦ λ q. drop-gone k i xs (rw (eqb-true k (key x) q) d.0) | false ↦ λ q. drop-has k i xs d.1 ]
      refl

  -- the place of a key: below the length exactly where it is held, and what stands there is the first of the key
  pub has-place : (k : ℕ) (l : List X) → has key k l ≡ ltb (place key k l) (length l)
  unfolding has place
  has-place k [] = refl
  has-place k (x ∷ xs) =
      elim (eqb k (key x)) as (λ b. pick b true (has key k xs) ≡ ltb (pick b zero (suc (place key k xs))) (suc (length xs)))
      [ true ↦ rw (lt-ltb 0 (suc (length xs)) (omega arith)) | false ↦ rw compare.suc-suc (has-place k xs) ]

  pub place-le : (k : ℕ) (l : List X) → place key k l ≤ length l
  unfolding place
  place-le k [] = omega arith
  place-le k (x ∷ xs) =
      let n = place-le k xs in
      elim (eqb k (key x)) as (λ b. pick b zero (suc (place key k xs)) ≤ suc (length xs)) [ true ↦ omega arith | false ↦ omega arith ]

  pub first_place : (k : ℕ) (d : X) (l : List X) → first_with key k d l ≡ get_or l (place key k l) d
  unfolding first_with place
  first_place k d [] = refl
  first_place k d (x ∷ xs) =
      elim (eqb k (key x)) as (λ b. pick b x (first_with key k d xs) ≡ get_or (x ∷ xs) (pick b zero (suc (place key k xs))) d)
      [ true ↦ refl | false ↦ first_place k d xs ]

  -- one put in stands at its key's place, or at the end
  pub put_held : (y : X) (l : List X) → has key (key y) l ≡ true → put key y l ≡ set l (place key (key y) l) y
  unfolding has place put
  put_held y [] e = cc
  put_held y (x ∷ xs) e =
      elim (eqb (key y) (key x)) as (λ b. pick b true (has key (key y) xs) ≡ true → pick b (y ∷ xs) (x ∷ put key y xs) ≡ set (x ∷ xs) (pick b zero (suc (place key (key y) xs))) y)
      [ true ↦ λ f. refl | false ↦ λ f. ap (λ (r : List X). x ∷ r) (put_held y xs f) ]
      e

  pub put_new : (y : X) (l : List X) → has key (key y) l ≡ false → put key y l ≡ l ++ y ∷ []
  unfolding has put
  put_new y [] e = refl
  put_new y (x ∷ xs) e =
      elim (eqb (key y) (key x)) as (λ b. pick b true (has key (key y) xs) ≡ false → pick b (y ∷ xs) (x ∷ put key y xs) ≡ x ∷ xs ++ y ∷ [])
      [ true ↦ λ f. cc | false ↦ λ f. ap (λ (r : List X). x ∷ r) (put_new y xs f) ]
      e

  -- its key is held after, and the others as before
  pub put_has : (k : ℕ) (y : X) (l : List X) → has key k (put key y l) ≡ pick (eqb k (key y)) true (has key k l)
  unfolding has put
  put_has k y [] = refl
  put_has k y (x ∷ xs) =
      elim (eqb (key y) (key x)) as (λ b. eqb (key y) (key x) ≡ b → has key k (pick b (y ∷ xs) (x ∷ put key y xs)) ≡ pick (eqb k (key y)) true (pick (eqb k (key x)) true (has key k xs))) [
        | true ↦ λ e. rw (← eqb-true (key y) (key x) e) (elim (eqb k (key y)) as (λ b. pick b true (has key k xs) ≡ pick b true (pick b true (has key k xs))) [ true ↦ refl | false ↦ refl ])
        | false ↦ λ e.
            rw (put_has k y xs)
            (elim (eqb k (key x)) as (λ b. pick b true (pick (eqb k (key y)) true (has key k xs)) ≡ pick (eqb k (key y)) true (pick b true (has key k xs)))
            [ true ↦ elim (eqb k (key y)) as (λ b. true ≡ pick b true true) [ true ↦ refl | false ↦ refl ] | false ↦ refl ])
      ]
      refl

  -- it is found after, and the others as before
  pub put_first : (k : ℕ) (d y : X) (l : List X) → first_with key k d (put key y l) ≡ pick (eqb k (key y)) y (first_with key k d l)
  unfolding first_with put
  put_first k d y [] = refl
  put_first k d y (x ∷ xs) =
      elim (eqb (key y) (key x)) as (λ b. eqb (key y) (key x) ≡ b → first_with key k d (pick b (y ∷ xs) (x ∷ put key y xs)) ≡ pick (eqb k (key y)) y (pick (eqb k (key x)) x (first_with key k d xs))) [
        | true ↦ λ e. rw (← eqb-true (key y) (key x) e) (elim (eqb k (key y)) as (λ b. pick b y (first_with key k d xs) ≡ pick b y (pick b x (first_with key k d xs))) [ true ↦ refl | false ↦ refl ])
        | false ↦ λ e.
            elim (eqb k (key x)) as (λ b. eqb k (key x) ≡ b → pick b x (first_with key k d (put key y xs)) ≡ pick (eqb k (key y)) y (pick b x (first_with key k d xs)))
            [ true ↦ λ q. rw (ne_eqb k (key y) (λ r. eqb-false (key y) (key x) e (sym r ∙ eqb-true k (key x) q))) | false ↦ λ q. put_first k d y xs ]
            refl
      ]
      refl

  pub put_distinct : (y : X) (l : List X) → Distinct key l → Distinct key (put key y l)
  unfolding has put Distinct
  put_distinct y [] d = (refl, tt)
  put_distinct y (x ∷ xs) d =
      elim (eqb (key y) (key x)) as (λ b. eqb (key y) (key x) ≡ b → Distinct key (pick b (y ∷ xs) (x ∷ put key y xs))) [
        | true ↦ λ e. (rw (eqb-true (key y) (key x) e) d.0, d.1)
        | false ↦ λ e. (put_has (key x) y xs ∙ rw (ne_eqb (key x) (key y) (λ q. eqb-false (key y) (key x) e (sym q))) d.0, put_distinct y xs d.1)
      ]
      refl

  -- one more where its key is new, else as many
  pub put-length : (y : X) (l : List X) → length (put key y l) ≡ pick (has key (key y) l) (length l) (length l + 1)
  unfolding has put
  put-length y [] = refl
  put-length y (x ∷ xs) =
      elim (eqb (key y) (key x)) as (λ b. length (pick b (y ∷ xs) (x ∷ put key y xs)) ≡ pick (pick b true (has key (key y) xs)) (suc (length xs)) (suc (length xs) + 1)) [
        | true ↦ refl
        | false ↦
            rw (put-length y xs) (elim (has key (key y) xs) as (λ b. suc (pick b (length xs) (length xs + 1)) ≡ pick b (suc (length xs)) (suc (length xs) + 1)) [ true ↦ refl | false ↦ omega arith ])
      ]
