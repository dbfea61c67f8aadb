-- The loop of a store that keeps in its own array what passes a test: each that stays is written behind those that stayed before it.
use mathlib.Core.Bool.{Bool, true, false}
use mathlib.Core.List.{List, ◌++◌}
use mathlib.Core.Path.{◌≡◌, refl, sym, ◌∙◌}
use Prim.Native.Nat.{ℕ, ◌+◌, ◌≤◌, ◌<◌}
use native.Mathlib.Omega.{arith}
use native.Mathlib.Nat.{add-zero}
use lib.ListN.{length, take, drop, set, get_or, take-append-drop}
use lib.Seq.{get_or-drop, drop-set-lt, drop-drop, length-take-le}
use Rattle.base.specs.Keyed.{kept}
use Rattle.base.proofs.Arrays.{take_count}
use Rattle.base.proofs.Kept.{keep_turn, leave_turn, keep_end, kept_whole}

module _ {X : Type 0} (p : X → Bool) (u : ℕ) (L : List X) where
  -- at the i-th of the first u of the array L, which is l by now and has w that stayed at its front
  pub record Keeping (l : List X) (w i : ℕ) : Type 0 where
    pub ahead : drop i l ≡ drop i L
    pub view : take w l ++ kept p (drop i (take u L)) ≡ kept p (take u L)

  pub keeping_start : Keeping L 0 0
  keeping_start = record { ahead = refl; view = refl }

  module _ (l : List X) (w i : ℕ) (g : Keeping l w i) where
    module _ (d : X) (h : i < length (take u L)) where
      -- what is read is not yet overwritten
      unwritten : get_or l i d ≡ get_or L i d
      unwritten =
          let e : get_or l (i + 0) d ≡ get_or L (i + 0) d = sym (get_or-drop i l 0 d) ∙ rw g.ahead (get_or-drop i L 0 d) in
          rw add-zero at e

      further : drop (i + 1) l ≡ drop (i + 1) L
      further = sym (drop-drop 1 i l) ∙ rw g.ahead (drop-drop 1 i L)

      pub keeping_took : w ≤ i → w < length l → p (get_or l i d) ≡ true → Keeping (set l w (get_or l i d)) (w + 1) (i + 1)
      keeping_took b r e =
          record {
            ahead = drop-set-lt (i + 1) l w (get_or l i d) (omega arith) ∙ further;
            view = rw unwritten (keep_turn p u L l w i d (kept p (take u L)) h g.view r (rw unwritten at e));
          }

      pub keeping_left : p (get_or l i d) ≡ false → Keeping l w (i + 1)
      keeping_left e = record { ahead = further; view = leave_turn p u L l w i d (kept p (take u L)) h g.view (rw unwritten at e) }

    pub keeping_end : length (take u L) ≤ i → take w l ≡ kept p (take u L)
    keeping_end h = keep_end p u L l w i h g.view

  -- where as many stayed as there were, each was written where it stood: the array is as it was
  pub keeping_all : (l : List X) (w i : ℕ) → take w l ≡ kept p (take u L) → drop i l ≡ drop i L → length (take u L) ≤ i → i ≤ w → w ≤ length l → l ≡ L
  keeping_all l w i front past b a r =
      let m : length (take w l) ≡ w = length-take-le w l r in
      let k : take w l ≡ take u L = front ∙ kept_whole p (take u L) (omega (arith, rw front at m)) in
      let e : w ≡ i = omega (arith, rw k at m) in
      let c : length (take u L) ≡ i = omega (arith, rw k at m) in
      let q : take i l ≡ take i L = rw e at k ∙ take_count u L ∙ rw c in
      sym (take-append-drop i l) ∙ rw (q, past) (take-append-drop i L)
