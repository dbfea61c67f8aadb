-- `pack_frame` writes the frame's bytes, each XOR the reference's, once it knows that they fit.
use Rattle.std.proofs.Common.{rules, ◌≡◌, min, take, ℕ, ◌<◌, length, arith, add-one, List, sym, ◌∙◌}
use lib.Bits.{bit_xor}
use lib.ListN.{get_or, length-take}
use lib.Seq.{paste-suc, get_or-take}
use Rattle.packing.specs.Packing.{xors}
use Rattle.packing.proofs.Laws.{xors-length, xors_at}
use Rattle.packing.proofs.Laid.{laid_not, laid_all, laid_paste}
use Rattle.packing.proofs.pack_frame.Goals as goal

-- the bytes to be laid, and how many they are
module _ (frame reference : List ℕ) (width : ℕ) (hf : length frame ≡ 64) (hr : length reference ≡ 64) where
  long : length (xors (take width frame) reference) ≡ min width 64
  long = xors-length (take width frame) reference ∙ omega (arith, length-take width frame)

  byte : (i w : ℕ) → w ≡ min width 64 → i < w → bit_xor (get_or (take w frame) i 0) (get_or reference i 0) ≡ get_or (xors (take width frame) reference) i 0
  byte i w e h =
      let n = length-take width frame in
      rw (get_or-take w frame i 0 h) (sym (xors_at (take width frame) reference i (omega arith) (omega arith) ∙ rw (get_or-take width frame i 0 (omega arith))))

pub returns-then-out-at : goal.returns-then-out-at
returns-then-out-at c =
    let n = long c.args.frame.now c.args.reference.now c.args.width (search rules) (search rules) in
    laid_not c.args.out.now c.args.at (xors (take c.args.width c.args.frame.now) c.args.reference.now) (omega (arith, c.frame_width-w.ensures))

pub loop-i-preserved : goal.loop-i-preserved
loop-i-preserved c =
    let a = c.args in
    let l = c.loop-i in
    let w = c.frame_width-w in
    let f : length a.frame.now ≡ 64 = search rules in
    let r : length a.reference.now ≡ 64 = search rules in
    let t = length-take w.result a.frame.now in
    let n = long a.frame.now a.reference.now a.width f r in
    let b = byte a.frame.now a.reference.now a.width f r l.i w.result w.ensures (omega arith) in
    rw (b, l.invariant, paste-suc a.out.now a.at (xors (take a.width a.frame.now) a.reference.now) l.i 0 (omega (arith, w.ensures)) (omega (arith, w.ensures)), add-one)

pub returns : goal.returns
returns c =
    let a = c.args in
    let l = c.loop-i in
    let w = c.frame_width-w in
    let f : length a.frame.now ≡ 64 = search rules in
    let r : length a.reference.now ≡ 64 = search rules in
    let t = length-take w.result a.frame.now in
    let n = long a.frame.now a.reference.now a.width f r in
    laid_all a.out.now a.at (xors (take a.width a.frame.now) a.reference.now) _ (omega (arith, w.ensures))
    (l.invariant ∙ laid_paste a.out.now a.at (xors (take a.width a.frame.now) a.reference.now) l.i (omega (arith, w.ensures)))
