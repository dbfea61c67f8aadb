-- Which frames a store in firm mode holds, and with which checksums, in whatever order: a store that holds the 32 largest of some reports holds those of one report
-- more, once that is taken. The proof goes by what the step does, and counts how many of the frames reported are larger (Larger.antt). The order is Order.antt's.
use borrow.Author.Tests.{ne_eqb, lt-ltb, ltb-true, leb-true, le-leb}
use mathlib.Core.Bool.{true, false, true≢false, false≢true, ◌&&◌, ◌||◌}
use mathlib.Core.List.{List, [], ◌∷◌, ◌++◌}
use mathlib.Core.Logic.{◌⊎◌, inl, inr, ⊎_elim}
use mathlib.Core.Path.{◌≡◌, refl, sym, ◌∙◌, ap}
use Prim.Native.Nat.{ℕ, zero, suc, ◌+◌, ◌≤◌, ◌<◌}
use native.Mathlib.Omega.{arith}
use lib.Dec.{eqb, leb, ltb}
use lib.ListN.{length}
use Rattle.base.specs.Pick.{pick}
use Rattle.base.specs.Keyed.{has, first_with, without, put, Distinct}
use Rattle.base.proofs.Bools.{both, alike}
use Rattle.base.proofs.Digits.{below_or_not}
use Rattle.base.proofs.Removal.{kept_by_key, kept_distinct, kept_first, put_has, put_first, put-length, without_gone, without_others, without-length}
use Rattle.checksums.specs.declared.Checksum.{Checksum}
use Rattle.checksums.specs.Checksums.{checksum_frame, blank_checksum, kept_from}
use Rattle.checksums.specs.Firm.{smallest, firmly}
use Rattle.checksums.specs.Largest.{count_larger, latest}
use Rattle.checksums.proofs.Firm.{by_firm, firm_distinct}
use Rattle.checksums.proofs.Larger.{larger_least, larger_most, larger_falls, larger_strict, larger_all, larger_grows, larger_low, larger_old, larger_new, larger_by_one, added_or, added_in, end_or, end_in, latest_end}
use Rattle.checksums.proofs.Smallest.{smallest-le, smallest-has}

-- the checksums of a store are the latest
abbrev pub Latest : (reports l : List Checksum) → Type 0
Latest reports l = (k : ℕ) → has checksum_frame k l ≡ true → first_with checksum_frame k blank_checksum l ≡ latest k blank_checksum reports

-- those frames are held of which fewer than 32 larger ones were reported, each once and with its latest checksum
pub record Members (reports l : List Checksum) : Type 0 where
  pub frames : (k : ℕ) → has checksum_frame k l ≡ has checksum_frame k reports && ltb (count_larger k reports) 32
  pub checksums : Latest reports l
  pub once : Distinct checksum_frame l

-- a frame is among the largest: it was reported, and fewer than 32 larger ones were
abbrev Among : (reports : List Checksum) → ℕ → Type 0
Among reports k = (has checksum_frame k reports ≡ true) × (count_larger k reports < 32)

-- a store holds the largest: what it holds is among them, and what is among them it holds
holds : (reports l : List Checksum) → ((k : ℕ) → has checksum_frame k l ≡ true → Among reports k) → ((k : ℕ) → Among reports k → has checksum_frame k l ≡ true) → Latest reports l → Distinct checksum_frame l
    → Members reports l
holds reports l into out sums d =
    record {
      frames = λ k.
          alike (has checksum_frame k l) (has checksum_frame k reports && ltb (count_larger k reports) 32)
          (λ e. let a = into k e in rw (a.0, lt-ltb (count_larger k reports) 32 a.1))
          (λ e. let b = both (has checksum_frame k reports) (ltb (count_larger k reports) 32) e in out k (b.0, ltb-true (count_larger k reports) 32 b.1));
      checksums = sums;
      once = d;
    }

module _ (reports l : List Checksum) (h : Members reports l) where
  known : (k : ℕ) → has checksum_frame k l ≡ true → Among reports k
  known k e =
      let b = both (has checksum_frame k reports) (ltb (count_larger k reports) 32) (sym (h.frames k) ∙ e) in
      (b.0, ltb-true (count_larger k reports) 32 b.1)

  held : (k : ℕ) → Among reports k → has checksum_frame k l ≡ true
  held k a = h.frames k ∙ rw (a.0, lt-ltb (count_larger k reports) 32 a.1)

  -- the smallest is held; all others that are were reported, and are larger
  least : 1 ≤ length l → Among reports (smallest l)
  least some = known (smallest l) (smallest-has l some)

  least_rest : 1 ≤ length l → length l ≤ suc (count_larger (smallest l) reports)
  unfolding without
  least_rest some =
      omega (arith, without-length checksum_frame (smallest l) l h.once (smallest-has l some), larger_least (smallest l) reports rest (kept_distinct checksum_frame _ l h.once) above)
    where
      rest : List Checksum
      rest = without checksum_frame (smallest l) l

      above : (j : ℕ) → has checksum_frame j rest ≡ true → (smallest l < j) × (has checksum_frame j reports ≡ true)
      above j e =
          let other : j ≡ smallest l → ⊥ = λ q. true≢false (sym e ∙ ap (λ i. has checksum_frame i rest) q ∙ without_gone checksum_frame (smallest l) l) in
          let old : has checksum_frame j l ≡ true = sym (without_others checksum_frame j (smallest l) l other) ∙ e in
          let low = smallest-le j l old in
          ⊎_elim (λ b. (b, (known j old).0)) (λ b. absurd (other (omega arith))) (below_or_not (smallest l) j)

  -- so no more than 32 are held
  pub members_few : length l ≤ 32
  members_few = ⊎_elim (λ b. absurd (omega (arith, least_rest (omega arith), (least (omega arith)).1))) (λ b. b) (below_or_not 32 (length l))

  -- while fewer than 32 are held, all that were reported are: of one that is not all larger ones would be, and be 32. By how many are larger, which falls
  all_held : length l < 32 → (n k : ℕ) → count_larger k reports < n → has checksum_frame k reports ≡ true → has checksum_frame k l ≡ true
  all_held few zero k b e = absurd (omega arith)
  all_held few (suc n) k b e =
      let most = larger_most k reports l (λ j a i. all_held few n j (omega (arith, larger_strict k j reports a i)) i) in
      held k (e, omega arith)

  -- ---- a frame that is held was reported; one that is not was not, while fewer than 32 are held or where it is above the smallest
  pub held_reported : (k : ℕ) → has checksum_frame k l ≡ true → has checksum_frame k reports ≡ true
  held_reported k e = (known k e).0

  unheld : (k : ℕ) → (has checksum_frame k reports ≡ true → has checksum_frame k l ≡ true) → has checksum_frame k l ≡ false → has checksum_frame k reports ≡ false
  unheld k h fresh =
      elim (has checksum_frame k reports) as (λ b. has checksum_frame k reports ≡ b → b ≡ false)
      [ true ↦ λ e. sym (h e) ∙ fresh | false ↦ λ _. refl ]
      refl

  pub few_unreported : (k : ℕ) → length l < 32 → has checksum_frame k l ≡ false → has checksum_frame k reports ≡ false
  few_unreported k few = unheld k (all_held few (suc (count_larger k reports)) k (omega arith))

  -- no more are larger than it than are larger than the smallest
  pub above_unreported : (k : ℕ) → 1 ≤ length l → smallest l < k → has checksum_frame k l ≡ false → has checksum_frame k reports ≡ false
  above_unreported k some b = unheld k (λ e. held k (e, omega (arith, (least some).1, larger_falls (smallest l) k reports (omega arith))))

  -- ---- one report more, by what the step does with it
  module _ (c : Checksum) where
    abbrev f : ℕ
    f = c.frame

    abbrev after : List Checksum
    after = reports ++ c ∷ []

    -- what was reported before and is still among the largest is held
    still : (k : ℕ) → Among after k → has checksum_frame k reports ≡ true → has checksum_frame k l ≡ true
    still k a i = held k (i, omega (arith, a.1, larger_grows c reports k))

    -- put into m: a frame is the new one or in m; all are held where m has the old ones, with the latest checksums where m has them
    put_or : (m : List Checksum) (k : ℕ) → has checksum_frame k (put checksum_frame c m) ≡ true → (k ≡ f) ⊎ (has checksum_frame k m ≡ true)
    put_or m k = added_or k f (has checksum_frame k m) (has checksum_frame k (put checksum_frame c m)) (put_has checksum_frame k c m)

    put_all : (m : List Checksum) (k : ℕ) → (has checksum_frame k reports ≡ true → has checksum_frame k m ≡ true) → has checksum_frame k after ≡ true → has checksum_frame k (put checksum_frame c m) ≡ true
    put_all m k old e =
        added_in k f (has checksum_frame k m) (has checksum_frame k (put checksum_frame c m)) (put_has checksum_frame k c m) (⊎_elim (λ q. inl q) (λ i. inr (old i)) (end_or c reports k e))

    put-latest : (m : List Checksum) → Latest reports m → Latest after (put checksum_frame c m)
    put-latest m sums k e =
        put_first checksum_frame k blank_checksum c m
        ∙ elim (eqb k f) as (λ b. pick b true (has checksum_frame k m) ≡ true → pick b c (first_with checksum_frame k blank_checksum m) ≡ pick b c (latest k blank_checksum reports))
        [ true ↦ λ _. refl | false ↦ λ g. sums k g ]
        (sym (put_has checksum_frame k c m) ∙ e)
        ∙ sym (latest_end c k blank_checksum reports)

    -- its frame is held: it was reported before, so no count changes
    again : has checksum_frame f l ≡ true → Distinct checksum_frame (put checksum_frame c l) → Members after (put checksum_frame c l)
    again e d = holds after (put checksum_frame c l) into (λ k a. put_all l k (still k a) a.0) (put-latest l h.checksums) d
      where
        into : (k : ℕ) → has checksum_frame k (put checksum_frame c l) ≡ true → Among after k
        into k i =
            let a = known k (⊎_elim (λ q. ap (λ j. has checksum_frame j l) q ∙ e) (λ g. g) (put_or l k i)) in
            (end_in c reports k (inr a.0), omega (arith, a.1, larger_old c reports k (known f e).0))

    -- it is not, and fewer than 32 are: all frames are held before and after, and no more than 32
    more : has checksum_frame f l ≡ false → length l < 32 → Distinct checksum_frame (put checksum_frame c l) → Members after (put checksum_frame c l)
    more fresh few d = holds after (put checksum_frame c l) into (λ k a. all k a.0) (put-latest l h.checksums) d
      where
        all : (k : ℕ) → has checksum_frame k after ≡ true → has checksum_frame k (put checksum_frame c l) ≡ true
        all k = put_all l k (all_held few (suc (count_larger k reports)) k (omega arith))

        long : length (put checksum_frame c l) ≡ length l + 1
        long = put-length checksum_frame c l ∙ rw fresh

        into : (k : ℕ) → has checksum_frame k (put checksum_frame c l) ≡ true → Among after k
        into k i =
            (end_in c reports k (⊎_elim (λ q. inl q) (λ g. inr (known k g).0) (put_or l k i)), omega (arith, larger_all k after (put checksum_frame c l) d i all, long))

    -- it is not, 32 are, and it is smaller than all of them: 32 larger ones were reported
    not_stored : has checksum_frame f l ≡ false → 32 ≤ length l → f < smallest l → Members after l
    not_stored fresh many b = holds after l into (λ k a. still k a (old k a)) sums h.once
      where
        some : 1 ≤ length l
        some = omega arith

        full : 32 ≤ count_larger f after
        full = omega (arith, least_rest some, larger_strict f (smallest l) reports b (least some).0, larger_grows c reports f)

        into : (k : ℕ) → has checksum_frame k l ≡ true → Among after k
        into k i =
            let a = known k i in
            let low = smallest-le k l i in
            (end_in c reports k (inr a.0), omega (arith, a.1, larger_low c reports k (omega arith)))

        old : (k : ℕ) → Among after k → has checksum_frame k reports ≡ true
        old k a = ⊎_elim (λ q. let z : count_larger f after < 32 = rw q at a.1 in absurd (omega (arith, full))) (λ e. e) (end_or c reports k a.0)

        sums : Latest after l
        sums k i = h.checksums k i ∙ sym (latest_end c k blank_checksum reports ∙ rw (ne_eqb k f (λ q. true≢false (sym i ∙ ap (λ j. has checksum_frame j l) q ∙ fresh))))

    -- it is not, 32 are, and it is larger than the smallest, which is dropped: that has 32 larger ones now, and each frame above it fewer
    abbrev upper : List Checksum
    upper = kept_from (suc (smallest l)) l

    upper_has : (k : ℕ) → has checksum_frame k upper ≡ pick (leb (suc (smallest l)) k) (has checksum_frame k l) false
    upper_has k = kept_by_key checksum_frame (leb (suc (smallest l))) k l

    upper_out : (k : ℕ) → has checksum_frame k upper ≡ true → (smallest l < k) × (has checksum_frame k l ≡ true)
    upper_out k e =
        elim (leb (suc (smallest l)) k) as (λ x. leb (suc (smallest l)) k ≡ x → pick x (has checksum_frame k l) false ≡ true → (smallest l < k) × (has checksum_frame k l ≡ true))
        [ true ↦ λ q g. (leb-true (suc (smallest l)) k q, g) | false ↦ λ _ g. absurd (false≢true g) ]
        refl (sym (upper_has k) ∙ e)

    dropped : has checksum_frame f l ≡ false → 32 ≤ length l → smallest l < f → Distinct checksum_frame (put checksum_frame c upper) → Members after (put checksum_frame c upper)
    dropped fresh many b d = holds after (put checksum_frame c upper) into out (put-latest upper sums) d
      where
        some : 1 ≤ length l
        some = omega arith

        unreported : has checksum_frame f reports ≡ false
        unreported = above_unreported f some b fresh

        -- the smallest and what is below it have 32 larger ones with this report
        above : (k : ℕ) → count_larger k after < 32 → smallest l < k
        above k a =
            ⊎_elim (λ g. g) (λ g. absurd (omega (arith, least_rest some, larger_falls k (smallest l) reports g, larger_new c reports k unreported (omega arith)))) (below_or_not (smallest l) k)

        into : (k : ℕ) → has checksum_frame k (put checksum_frame c upper) ≡ true → Among after k
        into k i =
            ⊎_elim
            (λ q. (end_in c reports k (inl q), omega (arith, (least some).1, larger_low c reports k (omega arith), larger_falls (smallest l) k reports (omega arith))))
            (λ g.
            let u = upper_out k g in
            let a = known k u.1 in
            (end_in c reports k (inr a.0), omega (arith, (least some).1, larger_by_one c reports k, larger_strict (smallest l) k reports u.0 a.0)))
            (put_or upper k i)

        out : (k : ℕ) → Among after k → has checksum_frame k (put checksum_frame c upper) ≡ true
        out k a = put_all upper k (λ i. upper_has k ∙ rw (le-leb (suc (smallest l)) k (above k a.1), still k a i)) a.0

        sums : Latest reports upper
        sums k e =
            let u = upper_out k e in
            kept_first checksum_frame (leb (suc (smallest l))) k blank_checksum l (le-leb (suc (smallest l)) k u.0) ∙ h.checksums k u.1

    -- a store with the largest has them with one report more, once the step has taken it
    pub firm_members : Members after (firmly c l)
    firm_members =
        by_firm c l (λ m. Distinct checksum_frame m → Members after m)
        (λ e.
        elim (has checksum_frame f l) as (λ b. has checksum_frame f l ≡ b → (b || ltb (length l) 32) ≡ true → Distinct checksum_frame (put checksum_frame c l) → Members after (put checksum_frame c l))
        [ true ↦ λ q _. again q | false ↦ λ q g. more q (ltb-true (length l) 32 g) ]
        refl e)
        (λ fresh many b _. not_stored fresh many b) dropped (firm_distinct c l h.once)
