-- Laws of padded bytes: what a loop laid over zeros, and what padding gives back.
use mathlib.Core.Path.{◌≡◌, refl}
use mathlib.Core.List.{List, [], ◌∷◌, ◌++◌}
use Prim.Native.Nat.{ℕ, zero, suc, ◌-◌, ◌≤◌, min}
use native.Mathlib.Omega.{arith}
use lib.Bits.{xor_zero_l, xor_comm}
use lib.ListN.{length, take, drop, replicate, length-replicate, length-take, take-append-drop}
use lib.Seq.{take_all, take-take, length-take-le}
use Rattle.base.proofs.Padded.{pad_length, pad_over}
use Rattle.packing.specs.Packing.{xors}
use Rattle.packing.specs.Pad.{zeros, padded}

pub zeros-length : length zeros ≡ 64
unfolding zeros
zeros-length = length-replicate {A = ℕ} 64 0

pub padded-length : (bytes : List ℕ) → length (padded bytes) ≡ 64
unfolding padded
padded-length bytes = pad_length 0 64 bytes

-- bytes laid over zeros, up to the shorter's end, are the padded bytes
pub laid_over : (bytes out : List ℕ) (i : ℕ) → i ≡ min 64 (length bytes) → out ≡ take i bytes ++ drop i zeros → out ≡ padded bytes
unfolding padded zeros
laid_over bytes out i m e = pad_over 0 64 bytes out i m e

-- an input kept with zeros past its width is its first bytes, padded
pub padded-take : (width : ℕ) (bytes : List ℕ) → width ≤ 64 → length bytes ≡ 64 → drop width bytes ≡ replicate (64 - width) 0
    → padded (take width bytes) ≡ bytes
unfolding padded
padded-take width bytes h n z =
    let l : length (take width bytes) ≡ width = length-take-le width bytes (omega arith) in
    rw (take_all 64 (take width bytes) (omega arith), l, ← z) (take-append-drop width bytes)

-- XOR zeros changes nothing, so that such a frame is its bytes, padded
xors-zeros : (n : ℕ) (bytes : List ℕ) → xors bytes (replicate n 0) ≡ take n bytes
unfolding xors
xors-zeros zero [] = refl
xors-zeros zero (x ∷ bytes) = refl
xors-zeros (suc n) [] = refl
xors-zeros (suc n) (x ∷ bytes) = rw (xor_comm x 0, xor_zero_l x, xors-zeros n bytes)

pub padded_plain : (bytes : List ℕ) → padded (xors bytes (replicate 64 0)) ≡ padded bytes
unfolding padded
padded_plain bytes =
    let n : 64 - length (take 64 bytes) ≡ 64 - length bytes = omega (arith, length-take 64 bytes) in
    rw (xors-zeros, n, take-take 64 64 bytes (omega arith))
