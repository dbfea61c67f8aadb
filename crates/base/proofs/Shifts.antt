-- Laws of moving elements to the front of an array in place, over the element type.
use mathlib.Core.Path.{◌≡◌, sym, ◌∙◌}
use mathlib.Core.List.{List}
use Prim.Native.Nat.{ℕ, ◌+◌, ◌<◌}
use native.Mathlib.Omega.{arith}
use lib.ListN.{length, take, drop, set, get_or}
use lib.Seq.{get_or-drop, drop-set-lt, drop-drop}
use Rattle.base.proofs.Arrays.{shift_turn}

module _ {X : Type 0} (l L : List X) (k i : ℕ) (d : X) (same : drop i l ≡ drop i L) where
  -- what is read is not yet overwritten
  read-ahead : get_or l (i + k) d ≡ get_or L (i + k) d
  read-ahead = sym (get_or-drop i l k d) ∙ rw same (get_or-drop i L k d)

  -- a turn of the loop that moves what stands from k on to the front: l is the array now, L the array as it was
  pub move_turn : i < length l → i + k < length L → take i l ≡ take i (drop k L) → take (i + 1) (set l i (get_or l (i + k) d)) ≡ take (i + 1) (drop k L)
  move_turn h b e = rw read-ahead (shift_turn l L k i d h b e)

  pub move_rest : drop (i + 1) (set l i (get_or l (i + k) d)) ≡ drop (i + 1) L
  move_rest = drop-set-lt (i + 1) l i (get_or l (i + k) d) (omega arith) ∙ sym (drop-drop 1 i l) ∙ rw same (drop-drop 1 i L)
