-- The customer's sentence (E-72, E-75): a store that holds the 32 largest frames of some reports, in the order of their first reports and with the latest checksums,
-- holds those of one report more, once that is taken in firm mode.
use mathlib.Core.Bool.{false≢true, ◌&&◌, and_comm}
use mathlib.Core.List.{List, [], ◌∷◌, ◌++◌, append-nil}
use mathlib.Core.Path.{◌≡◌, refl, sym, ◌∙◌, ap}
use Prim.Native.Nat.{ℕ, ◌≤◌}
use lib.Dec.{ltb}
use lib.ListN.{length}
use lib.Seq.{append_snoc}
use Rattle.base.specs.Keyed.{kept, has, Distinct}
use Rattle.base.proofs.Bools.{pick_and}
use Rattle.base.proofs.Keys.{self, kept_alike, keys_has, keys_distinct, keys_settle}
use Rattle.base.proofs.Removal.{kept_by_key, kept_distinct}
use Rattle.checksums.specs.declared.Checksum.{Checksum}
use Rattle.checksums.specs.Checksums.{checksum_frame, blank_checksum}
use Rattle.checksums.specs.Firm.{firmly, firmly_all}
use Rattle.checksums.specs.Largest.{frames_of, count_larger, HoldsLargest}
use Rattle.checksums.proofs.Larger.{frames_has, frames_distinct}
use Rattle.checksums.proofs.Members.{Members, members_few, firm_members}
use Rattle.checksums.proofs.Order.{firm_order}

-- before any report nothing is held
pub none_held : HoldsLargest [] []
unfolding frames_of kept has
none_held = record { frames = refl; checksums = λ k e. absurd (false≢true e) }

-- ---- what a store that holds the largest has: the frames, none twice, and no more than 32
module _ (reports l : List Checksum) (h : HoldsLargest reports l) where
  -- a frame is held exactly where it was reported and fewer than 32 larger ones were
  pub largest_has : (k : ℕ) → has checksum_frame k l ≡ has checksum_frame k reports && ltb (count_larger k reports) 32
  largest_has k =
      sym (keys_has checksum_frame k l)
      ∙ ap (has self k) h.frames
      ∙ kept_by_key self (λ j. ltb (count_larger j reports) 32) k (frames_of reports)
      ∙ rw (frames_has k reports) (pick_and (ltb (count_larger k reports) 32) (has checksum_frame k reports))
      ∙ and_comm (ltb (count_larger k reports) 32) (has checksum_frame k reports)

  pub largest_once : Distinct checksum_frame l
  largest_once = keys_distinct checksum_frame l (rw h.frames (kept_distinct self _ (frames_of reports) (frames_distinct reports)))

  members : Members reports l
  members = record { frames = largest_has; checksums = h.checksums; once = largest_once }

  pub largest_few : length l ≤ 32
  largest_few = members_few reports l members

-- two stores that hold the largest of the same reports are the same
pub largest_settled : (reports l m : List Checksum) → HoldsLargest reports l → HoldsLargest reports m → l ≡ m
largest_settled reports l m h g =
    keys_settle checksum_frame blank_checksum l m (h.frames ∙ sym g.frames) (largest_once reports l h) (λ k e.
    h.checksums k e ∙ sym (g.checksums k (largest_has reports m g k ∙ sym (largest_has reports l h k) ∙ e)))

-- ---- one report more
-- on the frames reported, to be held and to have fewer than 32 larger ones are the same
same_test : (reports l : List Checksum) → Members reports l → kept (λ k. has checksum_frame k l) (frames_of reports) ≡ kept (λ k. ltb (count_larger k reports) 32) (frames_of reports)
same_test reports l b = kept_alike _ _ (frames_of reports) (λ k e. b.frames k ∙ rw (sym (frames_has k reports) ∙ e))

-- a store that holds the largest holds them with one report more, once the step has taken it: the right frames (Members.antt) in the right order (Order.antt)
pub firm_holds : (reports l : List Checksum) (c : Checksum) → HoldsLargest reports l → HoldsLargest (reports ++ c ∷ []) (firmly c l)
firm_holds reports l c h =
    let before = members reports l h in
    let after = firm_members reports l before c in
    let order = firm_order reports l (h.frames ∙ sym (same_test reports l before)) c before in
    record { frames = order ∙ same_test (reports ++ c ∷ []) (firmly c l) after; checksums = after.checksums }

-- and so with any number of reports, taken one after the other
pub all_hold : (reports l more : List Checksum) → HoldsLargest reports l → HoldsLargest (reports ++ more) (firmly_all more l)
all_hold reports l [] h = rw (append-nil reports) h
all_hold reports l (c ∷ cs) h = rw (← append_snoc reports c cs) (all_hold (reports ++ c ∷ []) (firmly c l) cs (firm_holds reports l c h))
