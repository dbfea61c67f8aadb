-- The frames of a store in firm mode stand in the order of their first reports (E-75). A report that is taken keeps them so: its frame is held and stays at its place, or is
-- reported for the first time and comes last.
use borrow.Author.Tests.{eq-eqb, ne_eqb, eqb-true, eqb-false, ltb-true}
use mathlib.Core.Bool.{Bool, true, false, true≢false, not, ◌||◌, and_comm}
use mathlib.Core.List.{List, [], ◌∷◌, ◌++◌, map, append-nil}
use mathlib.Core.Path.{◌≡◌, refl, sym, ◌∙◌, ap}
use Prim.Native.Nat.{ℕ, suc}
use native.Mathlib.Omega.{arith}
use lib.Dec.{eqb, leb, ltb}
use lib.ListN.{length}
use Rattle.base.specs.Pick.{pick}
use Rattle.base.specs.Keyed.{kept, has, without, put}
use Rattle.base.proofs.Bools.{pick_and}
use Rattle.base.proofs.Keys.{cons_pick, self, kept_alike, keys_kept, keys_put}
use Rattle.base.proofs.Kept.{kept_append, kept-kept}
use Rattle.base.proofs.Removal.{kept-has, kept_by_key, put_has}
use Rattle.checksums.specs.declared.Checksum.{Checksum}
use Rattle.checksums.specs.Checksums.{checksum_frame, kept_from}
use Rattle.checksums.specs.Firm.{smallest, firmly}
use Rattle.checksums.specs.Largest.{frames_of}
use Rattle.checksums.proofs.Firm.{by_firm, keeps_all}
use Rattle.checksums.proofs.Larger.{frames_has}
use Rattle.checksums.proofs.Members.{Members, held_reported, few_unreported, above_unreported}

-- ---- the distinct frames of one report more: its frame comes last where it is new. First without a number, which may be that one
without_end : (k new : ℕ) (old : Bool) (l : List ℕ) → without self k (pick old l (l ++ new ∷ [])) ≡ pick (pick (eqb new k) true old) (without self k l) (without self k l ++ new ∷ [])
unfolding without kept
without_end k new true l = elim (eqb new k) as (λ b. without self k l ≡ pick (pick b true true) (without self k l) (without self k l ++ new ∷ [])) [ true ↦ refl | false ↦ refl ]
without_end k new false l =
    kept_append (λ x. not (eqb k x)) l (new ∷ [])
    ∙ elim (eqb new k) as (λ b. eqb new k ≡ b → without self k l ++ pick (not (eqb k new)) (new ∷ []) [] ≡ pick (pick b true false) (without self k l) (without self k l ++ new ∷ [])) [
      | true ↦ λ e. rw (eq-eqb k new (sym (eqb-true new k e))) (append-nil (without self k l))
      | false ↦ λ e. rw (ne_eqb k new (λ q. eqb-false new k e (sym q)))
    ]
    refl

frames_end : (c : Checksum) (reports : List Checksum) → frames_of (reports ++ c ∷ []) ≡ pick (has checksum_frame c.frame reports) (frames_of reports) (frames_of reports ++ c.frame ∷ [])
unfolding frames_of without kept has
frames_end c [] = refl
frames_end c (x ∷ xs) =
    rw (frames_end c xs, without_end x.frame c.frame (has checksum_frame c.frame xs) (frames_of xs))
    (cons_pick (has checksum_frame c.frame (x ∷ xs)) x.frame (without self x.frame (frames_of xs)) (without self x.frame (frames_of xs) ++ c.frame ∷ []))

-- ---- the frames of a store are those distinct ones that it holds, in the same order
abbrev pub InOrder : (reports l : List Checksum) → Type 0
InOrder reports l = map checksum_frame l ≡ kept (λ k. has checksum_frame k l) (frames_of reports)

module _ (reports l : List Checksum) (o : InOrder reports l) (c : Checksum) where
  abbrev f : ℕ
  f = c.frame

  abbrev after : List Checksum
  after = reports ++ c ∷ []

  -- its frame is held: no frame moves
  order_again : has checksum_frame f l ≡ true → has checksum_frame f reports ≡ true → InOrder after (put checksum_frame c l)
  order_again e old =
      rw (keys_put checksum_frame c l, frames_end c reports, e, old) (o ∙ kept_alike _ _ (frames_of reports) (λ k _. sym (same k)))
    where
      same : (k : ℕ) → has checksum_frame k (put checksum_frame c l) ≡ has checksum_frame k l
      same k =
          put_has checksum_frame k c l
          ∙ elim (eqb k f) as (λ b. eqb k f ≡ b → pick b true (has checksum_frame k l) ≡ has checksum_frame k l)
          [ true ↦ λ q. rw (eqb-true k f q, e) | false ↦ λ _. refl ]
          refl

  -- it is not held, and not stored: whether it is new or not, it is none of those that are held
  order_stays : has checksum_frame f l ≡ false → InOrder after l
  unfolding kept
  order_stays fresh =
      rw (frames_end c reports)
      (elim (has checksum_frame f reports) as (λ b. map checksum_frame l ≡ kept (λ k. has checksum_frame k l) (pick b (frames_of reports) (frames_of reports ++ f ∷ [])))
      [ true ↦ o | false ↦ rw (kept_append (λ k. has checksum_frame k l) (frames_of reports) (f ∷ []), fresh, append-nil (kept (λ k. has checksum_frame k l) (frames_of reports))) o ])

  -- it is reported for the first time, and put into those from a line on: they close up, and it comes last
  module _ (line : ℕ) (new : has checksum_frame f reports ≡ false) (fresh : has checksum_frame f l ≡ false) where
    abbrev upper : List Checksum
    upper = kept_from line l

    abbrev held_after : ℕ → Bool
    held_after k = has checksum_frame k (put checksum_frame c upper)

    -- of the frames reported before, those are held after it that were held and are not below the line
    still_held : (k : ℕ) → has self k (frames_of reports) ≡ true → pick (has checksum_frame k l) (leb line k) false ≡ held_after k
    still_held k i =
        let other : k ≡ f → ⊥ = λ q. true≢false (sym i ∙ frames_has k reports ∙ ap (λ j. has checksum_frame j reports) q ∙ new) in
        rw (put_has checksum_frame k c upper, ne_eqb k f other, kept_by_key checksum_frame (leb line) k l)
        (pick_and (has checksum_frame k l) (leb line k) ∙ and_comm (has checksum_frame k l) (leb line k) ∙ sym (pick_and (leb line k) (has checksum_frame k l)))

    upper_order : map checksum_frame upper ≡ kept held_after (frames_of reports)
    upper_order =
        keys_kept checksum_frame (leb line) l
        ∙ ap (kept (leb line)) o
        ∙ kept-kept (λ k. has checksum_frame k l) (leb line) (frames_of reports)
        ∙ kept_alike _ _ (frames_of reports) still_held

    order_put : InOrder after (put checksum_frame c upper)
    unfolding kept
    order_put =
        let last : held_after f ≡ true = put_has checksum_frame f c upper ∙ rw (eq-eqb f f refl) in
        rw (keys_put checksum_frame c upper, kept-has checksum_frame (λ x. leb line x.frame) f l fresh, frames_end c reports, new, kept_append held_after (frames_of reports) (f ∷ []), last, upper_order)

  -- so the step keeps the order, where the largest are held: a frame that it puts anew was not reported before
  pub firm_order : Members reports l → InOrder after (firmly c l)
  firm_order b =
      by_firm c l (InOrder after) put_in (λ fresh _ _. order_stays fresh) (λ fresh many a. order_put (suc (smallest l)) (above_unreported reports l b f (omega arith) a fresh) fresh)
    where
      put_in : (has checksum_frame f l || ltb (length l) 32) ≡ true → InOrder after (put checksum_frame c l)
      put_in e =
          elim (has checksum_frame f l) as (λ x. has checksum_frame f l ≡ x → (x || ltb (length l) 32) ≡ true → InOrder after (put checksum_frame c l)) [
            | true ↦ λ q _. order_again q (held_reported reports l b f q)
            | false ↦ λ q few. rw (keeps_all l) at (order_put 0 (few_unreported reports l b f (ltb-true (length l) 32 few) q) q)
          ]
          refl e
