-- Laws of the elements that pass a test (specs/Keyed.antt), over the element type: the loops of a store that write them, and what holds of the list.
use mathlib.Core.Bool.{Bool, true, false}
use mathlib.Core.List.{List, [], ◌∷◌, ◌++◌, append-nil}
use mathlib.Core.Path.{◌≡◌, refl, sym, ◌∙◌, ap}
use Prim.Native.Nat.{ℕ, suc, ◌+◌, ◌<◌, ◌≤◌}
use native.Mathlib.Omega.{arith}
use native.Mathlib.Numerals.{add-one}
use lib.ListN.{length, take, drop, set, get_or, drop_of_length-le}
use lib.Seq.{drop-cons, take-suc-set, append_snoc}
use Rattle.base.specs.Pick.{pick}
use Rattle.base.specs.Keyed.{kept}
use Rattle.base.proofs.Arrays.{view_at}

module _ {X : Type 0} where
  -- an element written behind the first w of an array stands before what is to follow
  pub next_turn : (l : List X) (w : ℕ) (x : X) (rest : List X) → w < length l → take (w + 1) (set l w x) ++ rest ≡ take w l ++ x ∷ rest
  next_turn l w x rest h = rw (add-one, take-suc-set, append_snoc)

  -- what is left of a view at i: its element, and the rest
  pub view_cons : (u : ℕ) (L : List X) (i : ℕ) (d : X) → i < length (take u L) → drop i (take u L) ≡ get_or L i d ∷ drop (i + 1) (take u L)
  view_cons u L i d h = rw (add-one, drop-cons (take u L) i d h, view_at u L i d h)

  module _ (p : X → Bool) where
    -- a loop that writes what passes a test behind what passed before it, the first w of l: it meets x, and rest is left
    module _ (l : List X) (w : ℕ) (x : X) (rest : List X) where
      pub kept_took : w < length l → p x ≡ true → take (w + 1) (set l w x) ++ kept p rest ≡ take w l ++ kept p (x ∷ rest)
      unfolding kept
      kept_took h e = next_turn l w x (kept p rest) h ∙ rw e

      pub kept_left : p x ≡ false → take w l ++ kept p rest ≡ take w l ++ kept p (x ∷ rest)
      unfolding kept
      kept_left e = rw e

    -- the same over a view u L: its two turns, and its end
    module _ (u : ℕ) (L l : List X) (w i : ℕ) where
      module _ (d : X) (T : List X) (h : i < length (take u L)) (inv : take w l ++ kept p (drop i (take u L)) ≡ T) where
        pub keep_turn : w < length l → p (get_or L i d) ≡ true → take (w + 1) (set l w (get_or L i d)) ++ kept p (drop (i + 1) (take u L)) ≡ T
        keep_turn r e = kept_took l w (get_or L i d) (drop (i + 1) (take u L)) r e ∙ (rw (view_cons u L i d h) at inv)

        pub leave_turn : p (get_or L i d) ≡ false → take w l ++ kept p (drop (i + 1) (take u L)) ≡ T
        leave_turn e = kept_left l w (get_or L i d) (drop (i + 1) (take u L)) e ∙ (rw (view_cons u L i d h) at inv)

      pub keep_end : length (take u L) ≤ i → take w l ++ kept p (drop i (take u L)) ≡ kept p (take u L) → take w l ≡ kept p (take u L)
      unfolding kept
      keep_end h inv = sym (append-nil (take w l)) ∙ (rw (drop_of_length-le (take u L) h) at inv)

    -- what is kept is no longer
    pub kept-length : (l : List X) → length (kept p l) ≤ length l
    unfolding kept
    kept-length [] = omega arith
    kept-length (x ∷ xs) =
        let n = kept-length xs in
        elim (p x) as (λ b. length (pick b (x ∷ kept p xs) (kept p xs)) ≤ suc (length xs)) [ true ↦ omega arith | false ↦ omega arith ]

    -- all pass: so all are kept
    pub kept_all : ((x : X) → p x ≡ true) → (l : List X) → kept p l ≡ l
    unfolding kept
    kept_all h [] = refl
    kept_all h (x ∷ xs) = rw (h x, kept_all h xs)

    -- as many are kept as there were: so all
    pub kept_whole : (l : List X) → length l ≤ length (kept p l) → kept p l ≡ l
    unfolding kept
    kept_whole [] h = refl
    kept_whole (x ∷ xs) h =
        elim (p x) as (λ b. suc (length xs) ≤ length (pick b (x ∷ kept p xs) (kept p xs)) → pick b (x ∷ kept p xs) (kept p xs) ≡ x ∷ xs)
        [ true ↦ λ g. ap (λ (r : List X). x ∷ r) (kept_whole xs (omega arith)) | false ↦ λ g. absurd (omega (arith, kept-length xs)) ]
        h

    pub kept_append : (l m : List X) → kept p (l ++ m) ≡ kept p l ++ kept p m
    unfolding kept
    kept_append [] m = refl
    kept_append (x ∷ l) m =
        elim (p x) as (λ b. pick b (x ∷ kept p (l ++ m)) (kept p (l ++ m)) ≡ pick b (x ∷ kept p l) (kept p l) ++ kept p m)
        [ true ↦ ap (λ (r : List X). x ∷ r) (kept_append l m) | false ↦ kept_append l m ]

    -- two tests, one after the other
    pub kept-kept : (q : X → Bool) (l : List X) → kept q (kept p l) ≡ kept (λ x. pick (p x) (q x) false) l
    unfolding kept
    kept-kept q [] = refl
    kept-kept q (x ∷ l) =
        elim (p x) as (λ b. kept q (pick b (x ∷ kept p l) (kept p l)) ≡ pick (pick b (q x) false) (x ∷ kept (λ y. pick (p y) (q y) false) l) (kept (λ y. pick (p y) (q y) false) l))
        [ true ↦ rw (kept-kept q l) | false ↦ kept-kept q l ]
