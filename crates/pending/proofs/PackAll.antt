-- A turn of the loop that packs all inputs: what is left to lay, laid after this frame, gives what was left before it.
use borrow.Author.Tests.{le-ltb}
use mathlib.Core.Path.{◌≡◌, ◌∙◌, ap}
use mathlib.Core.Bool.{Bool}
use mathlib.Core.List.{List, [], ◌∷◌, ◌++◌, map}
use Prim.Native.Nat.{ℕ, zero, suc, ◌+◌, ◌*◌, ◌≤◌, ◌<◌, min}
use native.Mathlib.Omega.{arith}
use native.Mathlib.Nat.{suc-mul}
use native.Mathlib.Numerals.{add-one}
use lib.ListN.{length, take, drop, get_or, length-append, length-take}
use lib.Seq.{drop-cons}
use Rattle.base.specs.Lay.{laid_at}
use Rattle.base.proofs.Lay.{laid_length, laid_join}
use Rattle.packing.specs.Packing.{xors, pack, PlacedAs}
use Rattle.packing.proofs.Laws.{xors-length}
use Rattle.packing.specs.declared.input_bytes.InputBytes.{InputBytes}
use Rattle.pending.specs.Pending.{sent_bytes}

-- what is left to lay from the k-th on
abbrev pub left : List ℕ → ℕ → ℕ → List InputBytes → List ℕ
left r width k l = pack r (map (sent_bytes width) (drop k l))

-- the bytes of a frame are no more than its width; so where the payload has the length of so many whole frames, each of them is whole
module _ (r : List ℕ) (width : ℕ) (w : length r ≡ 64) where
  frame_most : (x : InputBytes) → length (xors (take width x.bytes) r) ≤ min width 64
  frame_most x = omega (arith, xors-length (take width x.bytes) r, length-take width x.bytes)

  frames_most : (l : List InputBytes) → length (pack r (map (sent_bytes width) l)) ≤ length l * min width 64
  unfolding pack
  frames_most [] = omega arith
  frames_most (x ∷ l) = rw (length-append, suc-mul) (omega (arith, frame_most x, frames_most l))

  frame_whole : (l : List InputBytes) (k : ℕ) (d : InputBytes) → k < length l → length (pack r (map (sent_bytes width) l)) ≡ length l * min width 64
      → length (xors (take width (get_or l k d).bytes) r) ≡ min width 64
  unfolding pack
  frame_whole [] k d h e = absurd (omega arith)
  frame_whole (x ∷ l) k d h e =
      let f = frame_most x in
      let m = frames_most l in
      let s : length (xors (take width x.bytes) r) + length (pack r (map (sent_bytes width) l)) ≡ length l * min width 64 + min width 64 = rw (length-append, suc-mul) at e in
      elim k as (λ j. j < suc (length l) → length (xors (take width (get_or (x ∷ l) j d).bytes) r) ≡ min width 64)
      [ zero ↦ λ b. omega arith | suc j ↦ λ b. frame_whole l j d (omega arith) (omega arith) ] h

pub record Turned (r : List ℕ) (width : ℕ) (l : List InputBytes) (k : ℕ) (out : List ℕ) (place : ℕ) (after : List ℕ) : Type 0 where
  pub long : length after ≡ length out
  pub room : place + min width 64 + length (left r width (k + 1) l) ≤ length out
  pub laid : laid_at after (place + min width 64) (left r width (k + 1) l) ≡ laid_at out place (left r width k l)

module _ (r : List ℕ) (width : ℕ) (l : List InputBytes) (k : ℕ) (d : InputBytes) (h : k < length l) (w : length r ≡ 64)
    (f : length (left r width 0 l) ≡ length l * min width 64) where
  frame : List ℕ
  frame = xors (take width (get_or l k d).bytes) r

  frame-length : length frame ≡ min width 64
  unfolding frame
  frame-length = frame_whole r width w l k d h f

  left_turn : left r width k l ≡ frame ++ left r width (k + 1) l
  unfolding pack frame
  left_turn = rw (add-one, drop-cons l k d h)

  pub turned : (out : List ℕ) (place : ℕ) (after : List ℕ) (ok : Bool) → place + length (left r width k l) ≤ length out
      → PlacedAs out place (xors (take width (get_or l k d).bytes) r) ok after → Turned r width l k out place after
  unfolding frame
  turned out place after ok fits e =
      let n = frame-length in
      let m : length (left r width k l) ≡ length frame + length (left r width (k + 1) l)
      = ap length left_turn ∙ length-append frame (left r width (k + 1) l) in
      let room : place + length frame ≤ length out = omega arith in
      let now : after ≡ laid_at out place frame = e.lent ∙ rw (le-ltb _ _ room) in
      let join = laid_join out place frame (left r width (k + 1) l) (omega arith) in
      record {
        long = rw now (laid_length out place frame room);
        room = omega arith;
        laid = rw (now, left_turn, ← n, join);
      }
