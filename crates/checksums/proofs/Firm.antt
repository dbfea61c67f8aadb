-- Laws of a report in firm mode: how many are stored after it, that no frame is stored twice, and what its line keeps.
use borrow.Author.Tests.{le-ltb, ltb-true, ltb-false, le-leb, lt-leb}
use mathlib.Core.Bool.{Bool, true, false, true≢false, ◌||◌}
use mathlib.Core.List.{List}
use mathlib.Core.Logic.{⊎_elim}
use mathlib.Core.Path.{◌≡◌, refl, sym, ◌∙◌, ap}
use Prim.Native.Nat.{ℕ, suc, ◌+◌, ◌≤◌, ◌<◌}
use native.Mathlib.Omega.{arith}
use lib.Dec.{ltb, leb}
use lib.ListN.{length}
use Rattle.base.specs.Pick.{pick}
use Rattle.base.specs.Keyed.{has, put, Distinct}
use Rattle.base.proofs.Bools.{neither}
use Rattle.base.proofs.Digits.{below_or_not}
use Rattle.base.proofs.Kept.{kept_all}
use Rattle.base.proofs.Removal.{kept_distinct, put_distinct, put-length}
use Rattle.checksums.specs.declared.Checksum.{Checksum}
use Rattle.checksums.specs.Checksums.{checksum_frame, kept_from, others_full}
use Rattle.checksums.specs.Firm.{smallest, firmly, firm_line}
use Rattle.checksums.proofs.Smallest.{smallest-has, above_fewer}

-- from the least frame on all are kept
pub keeps_all : (l : List Checksum) → kept_from 0 l ≡ l
keeps_all = kept_all _ (λ (x : Checksum). le-leb 0 x.frame (omega arith))

module _ (c : Checksum) (l : List Checksum) where
  -- by what a report in firm mode does: it is put, it is not stored, or the smallest is dropped and it is put
  pub by_firm : (P : List Checksum → Type 0)
      → ((has checksum_frame c.frame l || ltb (length l) 32) ≡ true → P (put checksum_frame c l))
      → (has checksum_frame c.frame l ≡ false → 32 ≤ length l → c.frame < smallest l → P l)
      → (has checksum_frame c.frame l ≡ false → 32 ≤ length l → smallest l < c.frame → P (put checksum_frame c (kept_from (suc (smallest l)) l)))
      → P (firmly c l)
  unfolding firmly
  by_firm P few below drops =
      elim (has checksum_frame c.frame l || ltb (length l) 32) as
      (λ b. (has checksum_frame c.frame l || ltb (length l) 32) ≡ b → P (pick b (put checksum_frame c l) (pick (ltb c.frame (smallest l)) l (put checksum_frame c (kept_from (suc (smallest l)) l))))) [
        | true ↦ λ e. few e
        | false ↦ λ e.
            let n = neither (has checksum_frame c.frame l) (ltb (length l) 32) e in
            let many = ltb-false (length l) 32 n.1 in
            elim (ltb c.frame (smallest l)) as (λ b. ltb c.frame (smallest l) ≡ b → P (pick b l (put checksum_frame c (kept_from (suc (smallest l)) l))))
            [ true ↦ λ q. below n.0 many (ltb-true c.frame (smallest l) q) | false ↦ λ q. drops n.0 many (above n.0 many (ltb-false c.frame (smallest l) q)) ]
            refl
      ]
      refl
    where
      -- a frame that is not stored is not the smallest
      above : has checksum_frame c.frame l ≡ false → 32 ≤ length l → smallest l ≤ c.frame → smallest l < c.frame
      above new many h =
          ⊎_elim (λ b. b) (λ b.
          let q : smallest l ≡ c.frame = omega arith in
          absurd (true≢false (sym (smallest-has l (omega arith)) ∙ ap (λ k. has checksum_frame k l) q ∙ new)))
          (below_or_not (smallest l) c.frame)

  -- a store of 32 or fewer stays so, and one of 64 or fewer too
  pub firm_within : (n : ℕ) → 32 ≤ n → length l ≤ n → length (firmly c l) ≤ n
  firm_within n h few =
      by_firm (λ m. length m ≤ n)
      (λ e.
      elim (has checksum_frame c.frame l) as (λ b. (b || ltb (length l) 32) ≡ true → length (put checksum_frame c l) ≡ pick b (length l) (length l + 1) → length (put checksum_frame c l) ≤ n)
      [ true ↦ λ _ p. omega arith | false ↦ λ f p. omega (arith, ltb-true (length l) 32 f) ]
      e (put-length checksum_frame c l))
      (λ _ _ _. few)
      (λ _ many _. omega (arith, put_most (kept_from (suc (smallest l)) l), above_fewer l (omega arith)))
    where
      put_most : (m : List Checksum) → length (put checksum_frame c m) ≤ length m + 1
      put_most m =
          rw (put-length checksum_frame c m)
          (elim (has checksum_frame c.frame m) as (λ b. pick b (length m) (length m + 1) ≤ length m + 1) [ true ↦ omega arith | false ↦ omega arith ])

  pub firm_bound : length l ≤ 32 → length (firmly c l) ≤ 32
  firm_bound = firm_within 32 (omega arith)

  pub firm_distinct : Distinct checksum_frame l → Distinct checksum_frame (firmly c l)
  firm_distinct d =
      by_firm (Distinct checksum_frame) (λ _. put_distinct checksum_frame c l d) (λ _ _ _. d) (λ _ _ _.
      put_distinct checksum_frame c _ (kept_distinct checksum_frame _ l d))

  -- ---- by its line (`firm_line`): a frame below it is not stored; any other is put into those that it keeps, and they are fewer than 64 others
  abbrev line : ℕ
  line = firm_line (length l) (has checksum_frame c.frame l) (smallest l)

  pub firm_below : c.frame < line → firmly c l ≡ l
  unfolding firm_line
  firm_below h =
      by_firm (λ m. m ≡ l) (λ e. let z : c.frame < 0 = rw e at h in absurd (omega arith)) (λ _ _ _. refl) (λ new many b.
      let q : c.frame < suc (smallest l) = rw (new, le-ltb (length l) 32 many) at h in
      absurd (omega arith))

  pub firm_kept : line ≤ c.frame → firmly c l ≡ put checksum_frame c (kept_from line l)
  unfolding firm_line
  firm_kept h =
      by_firm (λ m. m ≡ put checksum_frame c (kept_from line l)) (λ e. rw (e, keeps_all l)) (λ new many b.
      let q : suc (smallest l) ≤ c.frame = rw (new, le-ltb (length l) 32 many) at h in
      absurd (omega arith)) (λ new many _. rw (new, le-ltb (length l) 32 many))

  pub firm_room : length l ≤ 64 → others_full c.frame (kept_from line l) ≡ false
  unfolding firm_line others_full
  firm_room few =
      elim (has checksum_frame c.frame l) as (λ b. has checksum_frame c.frame l ≡ b → pick (has checksum_frame c.frame (kept_from (pick (b || ltb (length l) 32) 0 (suc (smallest l))) l)) false (leb 64 (length (kept_from (pick (b || ltb (length l) 32) 0 (suc (smallest l))) l))) ≡ false) [
        | true ↦ λ e. rw (keeps_all l, e)
        | false ↦ λ e.
            elim (ltb (length l) 32) as (λ b. ltb (length l) 32 ≡ b → pick (has checksum_frame c.frame (kept_from (pick b 0 (suc (smallest l))) l)) false (leb 64 (length (kept_from (pick b 0 (suc (smallest l))) l))) ≡ false)
            [ true ↦ λ q. rw (keeps_all l, e) (lt-leb 64 (length l) (omega (arith, ltb-true (length l) 32 q))) | false ↦ λ q. unless (has checksum_frame c.frame (kept_from (suc (smallest l)) l)) _ (lt-leb 64 (length (kept_from (suc (smallest l)) l)) (omega (arith, ltb-false (length l) 32 q, above_fewer l (omega (arith, ltb-false (length l) 32 q))))) ]
            refl
      ]
      refl
    where
      unless : (b x : Bool) → x ≡ false → pick b false x ≡ false
      unless true x h = refl
      unless false x h = h
