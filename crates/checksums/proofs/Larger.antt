-- Laws of how many distinct frames larger than a frame were reported: which frames are counted, what bounds the count, and what one report more does to it.
use borrow.Author.Tests.{eq-eqb, eqb-true, eqb-false, lt-ltb, le-ltb, ltb-true}
use mathlib.Core.Bool.{Bool, true, false, false≢true}
use mathlib.Core.List.{List, [], ◌∷◌, ◌++◌}
use mathlib.Core.Logic.{◌⊎◌, inl, inr, ⊎_elim}
use mathlib.Core.Path.{◌≡◌, refl, sym, ◌∙◌, ap}
use Prim.Native.Nat.{ℕ, suc, ◌≤◌, ◌<◌}
use native.Mathlib.Omega.{arith}
use lib.Dec.{eqb, ltb}
use lib.ListN.{length}
use Rattle.base.specs.Pick.{pick}
use Rattle.base.specs.Keyed.{kept, has, without, Distinct}
use Rattle.base.proofs.Keys.{self}
use Rattle.base.proofs.Counting.{keys_fewer}
use Rattle.base.proofs.Removal.{kept_by_key, kept_distinct, has-append, without_gone, without-length, without_others}
use Rattle.checksums.specs.declared.Checksum.{Checksum}
use Rattle.checksums.specs.Checksums.{checksum_frame}
use Rattle.checksums.specs.Largest.{frames_of, count_larger, latest}

-- a key is held with a new one where it is that one, or was held
module _ (k new : ℕ) (old all : Bool) (added : all ≡ pick (eqb k new) true old) where
  pub added_or : all ≡ true → (k ≡ new) ⊎ (old ≡ true)
  added_or e =
      elim (eqb k new) as (λ b. eqb k new ≡ b → pick b true old ≡ true → (k ≡ new) ⊎ (old ≡ true))
      [ true ↦ λ q _. inl (eqb-true k new q) | false ↦ λ _ f. inr f ]
      refl (sym added ∙ e)

  pub added_in : (k ≡ new) ⊎ (old ≡ true) → all ≡ true
  added_in = ⊎_elim (λ q. added ∙ rw (eq-eqb k new q)) (λ e. added ∙ elim (eqb k new) as (λ b. pick b true old ≡ true) [ true ↦ refl | false ↦ e ])

-- ---- the distinct frames: those that were reported, none twice
pub frames_has : (k : ℕ) (reports : List Checksum) → has self k (frames_of reports) ≡ has checksum_frame k reports
unfolding frames_of has
frames_has k [] = refl
frames_has k (c ∷ cs) =
    elim (eqb k c.frame) as (λ b. eqb k c.frame ≡ b → pick b true (has self k (without self c.frame (frames_of cs))) ≡ pick b true (has checksum_frame k cs))
    [ true ↦ λ _. refl | false ↦ λ e. without_others self k c.frame (frames_of cs) (eqb-false k c.frame e) ∙ frames_has k cs ]
    refl

pub frames_distinct : (reports : List Checksum) → Distinct self (frames_of reports)
unfolding frames_of without Distinct
frames_distinct [] = tt
frames_distinct (c ∷ cs) = (without_gone self c.frame (frames_of cs), kept_distinct self _ (frames_of cs) (frames_distinct cs))

-- ---- those above a frame
abbrev above : ℕ → List Checksum → List ℕ
above k reports = kept (ltb k) (frames_of reports)

above-has : (k j : ℕ) (reports : List Checksum) → has self j (above k reports) ≡ pick (ltb k j) (has checksum_frame j reports) false
above-has k j reports = kept_by_key self (ltb k) j (frames_of reports) ∙ rw (frames_has j reports)

above_distinct : (k : ℕ) (reports : List Checksum) → Distinct self (above k reports)
above_distinct k reports = kept_distinct self (ltb k) (frames_of reports) (frames_distinct reports)

above_in : (k j : ℕ) (reports : List Checksum) → (k < j) × (has checksum_frame j reports ≡ true) → has self j (above k reports) ≡ true
above_in k j reports h = above-has k j reports ∙ rw (lt-ltb k j h.0, h.1)

above_out : (k j : ℕ) (reports : List Checksum) → has self j (above k reports) ≡ true → (k < j) × (has checksum_frame j reports ≡ true)
above_out k j reports e =
    elim (ltb k j) as (λ b. ltb k j ≡ b → pick b (has checksum_frame j reports) false ≡ true → (k < j) × (has checksum_frame j reports ≡ true))
    [ true ↦ λ q f. (ltb-true k j q, f) | false ↦ λ _ f. absurd (false≢true f) ]
    refl (sym (above-has k j reports) ∙ e)

-- ---- bounds: a list of larger frames that were reported is not longer, one that holds all of them is not shorter
pub larger_least : (k : ℕ) (reports l : List Checksum) → Distinct checksum_frame l → ((j : ℕ) → has checksum_frame j l ≡ true → (k < j) × (has checksum_frame j reports ≡ true)) → length l ≤ count_larger k reports
unfolding count_larger
larger_least k reports l d h = keys_fewer checksum_frame self l (above k reports) d (λ j e. above_in k j reports (h j e))

pub larger_most : (k : ℕ) (reports l : List Checksum) → ((j : ℕ) → k < j → has checksum_frame j reports ≡ true → has checksum_frame j l ≡ true) → count_larger k reports ≤ length l
unfolding count_larger
larger_most k reports l h =
    keys_fewer self checksum_frame (above k reports) l (above_distinct k reports) (λ j e.
    let o = above_out k j reports e in
    h j o.0 o.1)

-- ---- two counts: what is counted in the first is counted in the second
module _ (j k : ℕ) (first second : List Checksum) (within : (i : ℕ) → j < i → has checksum_frame i first ≡ true → (k < i) × (has checksum_frame i second ≡ true)) where
  larger_within : count_larger j first ≤ count_larger k second
  unfolding count_larger
  larger_within =
      keys_fewer self self (above j first) (above k second) (above_distinct j first) (λ i e.
      let o = above_out j i first e in
      above_in k i second (within i o.0 o.1))

  -- and one is counted in the second alone
  larger_less : (n : ℕ) → has self n (above j first) ≡ false → (k < n) × (has checksum_frame n second ≡ true) → count_larger j first < count_larger k second
  unfolding count_larger has Distinct
  larger_less n fresh more =
      let fewer = keys_fewer self self (n ∷ above j first) (above k second) (fresh, above_distinct j first) counted in
      omega arith
    where
      counted : (i : ℕ) → has self i (n ∷ above j first) ≡ true → has self i (above k second) ≡ true
      counted i e =
          ⊎_elim (λ q. rw q (above_in k n second more)) (λ f.
          let o = above_out j i first f in
          above_in k i second (within i o.0 o.1))
          (added_or i n (has self i (above j first)) _ refl e)

module _ (k j : ℕ) (reports : List Checksum) where
  -- no more are larger than a larger frame
  pub larger_falls : k ≤ j → count_larger j reports ≤ count_larger k reports
  larger_falls h = larger_within j k reports reports (λ i b e. (omega arith, e))

  -- fewer, where that was reported itself
  pub larger_strict : k < j → has checksum_frame j reports ≡ true → count_larger j reports < count_larger k reports
  larger_strict h e = larger_less j k reports reports (λ i b f. (omega arith, f)) j (above-has j j reports ∙ rw (le-ltb j j (omega arith))) (h, e)

-- a store that holds all frames reported, none twice, holds more than are larger than one of its own
pub larger_all : (k : ℕ) (reports l : List Checksum) → Distinct checksum_frame l → has checksum_frame k l ≡ true → ((j : ℕ) → has checksum_frame j reports ≡ true → has checksum_frame j l ≡ true) → count_larger k reports < length l
larger_all k reports l d e h =
    let most = larger_most k reports (without checksum_frame k l) (λ j b i. without_others checksum_frame j k l (λ q. omega arith) ∙ h j i) in
    omega (arith, without-length checksum_frame k l d e)

-- ---- one report more
module _ (c : Checksum) where
  -- the last report of a frame
  pub latest_end : (k : ℕ) (d : Checksum) (reports : List Checksum) → latest k d (reports ++ c ∷ []) ≡ pick (eqb k c.frame) c (latest k d reports)
  unfolding latest
  latest_end k d [] = refl
  latest_end k d (x ∷ xs) = latest_end k (pick (eqb k x.frame) x d) xs

  module _ (reports : List Checksum) (k : ℕ) where
    end_has : has checksum_frame k (reports ++ c ∷ []) ≡ pick (eqb k c.frame) true (has checksum_frame k reports)
    unfolding has
    end_has =
        has-append checksum_frame k reports (c ∷ [])
        ∙ elim (has checksum_frame k reports) as (λ b. pick b true (pick (eqb k c.frame) true false) ≡ pick (eqb k c.frame) true b)
        [ true ↦ elim (eqb k c.frame) as (λ b. true ≡ pick b true true) [ true ↦ refl | false ↦ refl ] | false ↦ refl ]

    pub end_or : has checksum_frame k (reports ++ c ∷ []) ≡ true → (k ≡ c.frame) ⊎ (has checksum_frame k reports ≡ true)
    end_or = added_or k c.frame (has checksum_frame k reports) (has checksum_frame k (reports ++ c ∷ [])) end_has

    pub end_in : (k ≡ c.frame) ⊎ (has checksum_frame k reports ≡ true) → has checksum_frame k (reports ++ c ∷ []) ≡ true
    end_in = added_in k c.frame (has checksum_frame k reports) (has checksum_frame k (reports ++ c ∷ [])) end_has

  module _ (reports : List Checksum) (k : ℕ) where
    -- no fewer are larger
    pub larger_grows : count_larger k reports ≤ count_larger k (reports ++ c ∷ [])
    larger_grows = larger_within k k reports (reports ++ c ∷ []) (λ i b e. (b, end_in reports i (inr e)))

    -- no more, where the new frame is not larger, or was reported before
    pub larger_low : c.frame ≤ k → count_larger k (reports ++ c ∷ []) ≤ count_larger k reports
    larger_low h = larger_within k k (reports ++ c ∷ []) reports (λ i b e. (b, ⊎_elim (λ q. absurd (omega arith)) (λ f. f) (end_or reports i e)))

    pub larger_old : has checksum_frame c.frame reports ≡ true → count_larger k (reports ++ c ∷ []) ≤ count_larger k reports
    larger_old h = larger_within k k (reports ++ c ∷ []) reports (λ i b e. (b, ⊎_elim (λ q. ap (λ j. has checksum_frame j reports) q ∙ h) (λ f. f) (end_or reports i e)))

    -- more, where it is larger and was not
    pub larger_new : has checksum_frame c.frame reports ≡ false → k < c.frame → count_larger k reports < count_larger k (reports ++ c ∷ [])
    larger_new h b =
        larger_less k k reports (reports ++ c ∷ []) (λ i a e. (a, end_in reports i (inr e))) c.frame
        (above-has k c.frame reports ∙ rw (lt-ltb k c.frame b, h))
        (b, end_in reports c.frame (inl refl))

    -- by one at most
    pub larger_by_one : count_larger k (reports ++ c ∷ []) ≤ suc (count_larger k reports)
    unfolding count_larger has
    larger_by_one =
        keys_fewer self self (above k (reports ++ c ∷ [])) (c.frame ∷ above k reports) (above_distinct k (reports ++ c ∷ [])) (λ i e.
        let o = above_out k i (reports ++ c ∷ []) e in
        added_in i c.frame (has self i (above k reports)) _ refl (⊎_elim (λ q. inl q) (λ f. inr (above_in k i reports (o.0, f))) (end_or reports i o.1)))
