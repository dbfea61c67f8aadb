-- Laws of the nonces outstanding, on their list: which are outstanding after an issue, which one is forgotten, no nonce twice, lengths.
use borrow.Author.Tests.{lt-ltb, le-ltb, eq-eqb, ne_eqb, eqb-true, eqb-false}
use mathlib.Core.Bool.{Bool, true, false, not, ◌&&◌, ◌||◌, and-false}
use mathlib.Core.List.{List, [], ◌∷◌, ◌++◌, append_assoc}
use mathlib.Core.Path.{◌≡◌, refl, sym, ◌∙◌, ap}
use Prim.Native.Nat.{ℕ, ◌+◌, ◌-◌, ◌≤◌}
use native.Mathlib.Omega.{arith}
use lib.Dec.{eqb, ltb}
use lib.ListN.{length, take, drop, length-take, length-append, take-append-drop}
use Rattle.std.specs.List.{list_any}
use Rattle.base.specs.Pick.{pick}
use Rattle.base.specs.Keyed.{has, without, Distinct}
use Rattle.base.specs.Last.{last_of}
use Rattle.base.proofs.Kept.{kept-length}
use Rattle.base.proofs.Last.{last_few, last_all, last_rest}
use Rattle.base.proofs.Removal.{kept_distinct, without_gone, without_others, without_none, without-shorter, without-length, has-append, distinct_end, drop-gone, drop_distinct, drop-has}
use Rattle.nonces.specs.declared.Nonces.{Nonces}
use Rattle.nonces.specs.Nonces.{outstanding, is_outstanding, spent, issued, forgotten, renewed, SpentAs}

module _ (nonce : ℕ) (l : List ℕ) where
  -- ---- spent

  -- after it is spent a nonce is not outstanding, and the others are as before
  pub spent-gone : is_outstanding nonce (spent nonce l) ≡ false
  spent-gone = without_gone (λ x. x) nonce l

  pub spent_others : (j : ℕ) → (j ≡ nonce → ⊥) → is_outstanding j (spent nonce l) ≡ is_outstanding j l
  spent_others j n = without_others (λ x. x) j nonce l n

  -- no nonce stands twice
  pub spent_distinct : Distinct (λ x. x) l → Distinct (λ x. x) (spent nonce l)
  unfolding without
  spent_distinct d = kept_distinct (λ x. x) _ l d

  -- one less, where it was outstanding
  pub spent-length : Distinct (λ x. x) l → is_outstanding nonce l ≡ true → length (spent nonce l) + 1 ≡ length l
  spent-length d e = without-length (λ x. x) nonce l d e

  -- fewer are left exactly where it was outstanding
  pub spent_fewer : ltb (length (spent nonce l)) (length l) ≡ is_outstanding nonce l
  spent_fewer =
      elim (is_outstanding nonce l) as (λ b. is_outstanding nonce l ≡ b → ltb (length (spent nonce l)) (length l) ≡ b)
      [ true ↦ λ e. lt-ltb _ _ (without-shorter (λ x. x) nonce l e) | false ↦ λ e. rw (without_none (λ x. x) nonce l e) (le-ltb (length l) (length l) (omega arith)) ]
      refl

  -- ---- forgotten

  -- with at most 255 others outstanding none is forgotten; with one more the oldest is, and no other
  pub forgotten_none : length (spent nonce l) ≤ 255 → forgotten nonce l ≡ []
  unfolding forgotten
  forgotten_none h =
      let none : length (spent nonce l) - 255 ≡ 0 = omega arith in
      rw none

  pub forgotten_oldest : (x : ℕ) (rest : List ℕ) → spent nonce l ≡ x ∷ rest → length rest ≡ 255 → forgotten nonce l ≡ x ∷ []
  unfolding forgotten
  forgotten_oldest x rest e h =
      let one : length (x ∷ rest) - 255 ≡ 1 = omega arith in
      rw (e, one)

  -- of at most 256 at most one
  pub forgotten_one : length l ≤ 256 → length (forgotten nonce l) ≤ 1
  unfolding forgotten without
  forgotten_one few = omega (arith, length-take (length (spent nonce l) - 255) (spent nonce l), kept-length (λ x. not (eqb nonce x)) l)

  -- ---- issued

  -- what is forgotten, and behind it what is outstanding after: the list as it would be if this issue forgot none
  pub issued_order : forgotten nonce l ++ issued nonce l ≡ spent nonce l ++ nonce ∷ []
  unfolding forgotten issued last_of
  issued_order =
      let gone = length (spent nonce l) - 255 in
      sym (append_assoc (take gone (spent nonce l)) (drop gone (spent nonce l)) (nonce ∷ [])) ∙ ap (λ (r : List ℕ). r ++ nonce ∷ []) (take-append-drop gone (spent nonce l))

  -- The next two laws say what is outstanding after, wherever at most 256 others are outstanding: so in every store.
  -- With at most 255 others outstanding it is the crate's rule
  pub issued_all : length (spent nonce l) ≤ 255 → issued nonce l ≡ spent nonce l ++ nonce ∷ []
  unfolding issued
  issued_all h = rw (last_all 255 (spent nonce l) h)

  -- with 256 others the oldest goes, and no other
  pub issued_forgets : (x : ℕ) (rest : List ℕ) → spent nonce l ≡ x ∷ rest → length rest ≡ 255 → issued nonce l ≡ rest ++ nonce ∷ []
  unfolding issued
  issued_forgets x rest e h = rw (e, last_rest 255 x rest h)

  -- after it is issued it is outstanding
  pub issued-has : is_outstanding nonce (issued nonce l) ≡ true
  unfolding issued last_of has
  issued-has =
      rw (has-append (λ x. x) nonce (last_of 255 (spent nonce l)) (nonce ∷ []), eq-eqb nonce nonce refl, drop-gone (λ x. x) nonce (length (spent nonce l) - 255) (spent nonce l) spent-gone)

  -- any other is outstanding exactly where it was and is not forgotten
  pub issued_others : Distinct (λ x. x) l → (j : ℕ) → (j ≡ nonce → ⊥) → is_outstanding j (issued nonce l) ≡ is_outstanding j l && not (is_outstanding j (forgotten nonce l))
  unfolding issued forgotten last_of has
  issued_others d j n =
      rw (has-append (λ x. x) j (last_of 255 (spent nonce l)) (nonce ∷ []), ne_eqb j nonce n, drop-has (λ x. x) j (length (spent nonce l) - 255) (spent nonce l) (spent_distinct d), spent_others j n)
      (elim (is_outstanding j l && not (is_outstanding j (take (length (spent nonce l) - 255) (spent nonce l)))) as (λ b. pick b true false ≡ b) [ true ↦ refl | false ↦ refl ])

  -- so what is forgotten is not outstanding any more
  pub forgotten-gone : Distinct (λ x. x) l → (j : ℕ) → (j ≡ nonce → ⊥) → is_outstanding j (forgotten nonce l) ≡ true → is_outstanding j (issued nonce l) ≡ false
  forgotten-gone d j n e = issued_others d j n ∙ rw e (and-false (is_outstanding j l))

  -- no nonce stands twice
  pub issued_distinct : Distinct (λ x. x) l → Distinct (λ x. x) (issued nonce l)
  unfolding issued last_of
  issued_distinct d =
      distinct_end (λ x. x) (last_of 255 (spent nonce l)) nonce (drop_distinct (λ x. x) (length (spent nonce l) - 255) (spent nonce l) (spent_distinct d))
      (drop-gone (λ x. x) nonce (length (spent nonce l) - 255) (spent nonce l) spent-gone)

  -- never more than 256, however many there were
  pub issued_bound : length (issued nonce l) ≤ 256
  unfolding issued
  issued_bound = omega (arith, last_few 255 (spent nonce l), length-append (last_of 255 (spent nonce l)) (nonce ∷ []))

-- at most 256 are outstanding, and one of them is issued again or spent: then none is forgotten
module _ (nonce : ℕ) (l : List ℕ) (few : length l ≤ 256) (e : is_outstanding nonce l ≡ true) where
  others_few : length (spent nonce l) ≤ 255
  others_few = omega (arith, without-shorter (λ x. x) nonce l e)

  pub again_forgets_none : forgotten nonce l ≡ []
  again_forgets_none = forgotten_none nonce l others_few

  -- issued again it counts once: there are as many as before
  pub issued_again : Distinct (λ x. x) l → length (issued nonce l) ≡ length l
  issued_again d = rw (issued_all nonce l others_few) (length-append (spent nonce l) (nonce ∷ []) ∙ without-length (λ x. x) nonce l d e)

  -- once it is spent, whichever is issued next
  pub next_forgets_none : (next : ℕ) → forgotten next (spent nonce l) ≡ []
  unfolding without
  next_forgets_none next = forgotten_none next (spent nonce l) (omega (arith, others_few, kept-length (λ x. not (eqb next x)) (spent nonce l)))

-- ---- for the code

-- what the slice's `contains` answers
pub has_any : (nonce : ℕ) (l : List ℕ) → list_any (λ y. eqb y nonce) l ≡ is_outstanding nonce l
unfolding has
has_any nonce [] = refl
has_any nonce (x ∷ l) =
    elim (eqb x nonce) as (λ b. eqb x nonce ≡ b → (b || list_any (λ y. eqb y nonce) l) ≡ pick (eqb nonce x) true (has (λ y. y) nonce l))
    [ true ↦ λ e. rw (eq-eqb nonce x (sym (eqb-true x nonce e))) | false ↦ λ e. rw (ne_eqb nonce x (λ q. eqb-false x nonce e (sym q))) (has_any nonce l) ]
    refl

-- spent, and none issued: also where it was not outstanding, all but it are left
pub renewed_none : (nonce : ℕ) (l : List ℕ) → renewed nonce false 0 l ≡ spent nonce l
unfolding renewed
renewed_none nonce l =
    elim (is_outstanding nonce l) as (λ b. is_outstanding nonce l ≡ b → pick b (spent nonce l) l ≡ spent nonce l)
    [ true ↦ λ _. refl | false ↦ λ e. sym (without_none (λ x. x) nonce l e) ]
    refl

module _ (s : Nonces) (nonce : ℕ) (r : Bool) where
  module _ (e : r ≡ is_outstanding nonce (outstanding s)) where
    pub forgets : (new : Nonces) → r ≡ true → outstanding new ≡ spent nonce (outstanding s) → SpentAs s nonce false 0 r new
    forgets new f v = record { found = e; view = v ∙ sym (renewed_none nonce (outstanding s)); same = λ q. cc }

    pub forgets_none : r ≡ false → SpentAs s nonce false 0 r s
    unfolding renewed
    forgets_none f = record { found = e; view = rw (sym e ∙ f); same = λ _. refl }

  -- then the next one is issued where the handshake goes on
  module _ (goes_on : Bool) (next : ℕ) (mid : Nonces) (a : SpentAs s nonce false 0 r mid) where
    pub goes : (new : Nonces) → r ≡ true → goes_on ≡ true → outstanding new ≡ issued next (outstanding mid) → SpentAs s nonce goes_on next r new
    unfolding renewed
    goes new f on v =
        record { found = a.found; view = v ∙ ap (issued next) (a.view ∙ renewed_none nonce (outstanding s)) ∙ rw (sym a.found ∙ f, on); same = λ q. cc }

    pub stops : goes_on ≡ false → SpentAs s nonce goes_on next r mid
    unfolding renewed
    stops over = record { found = a.found; view = a.view ∙ rw over; same = a.same }

    pub absent : r ≡ false → SpentAs s nonce goes_on next r mid
    unfolding renewed
    absent f = record { found = a.found; view = a.view ∙ rw (sym a.found ∙ f); same = a.same }
