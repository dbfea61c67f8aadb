-- Inputs as they are kept: the blank one, and those padded from bytes of a width.
use mathlib.Core.List.{List, [], ◌∷◌, map}
use mathlib.Core.Path.{◌≡◌, refl}
use Prim.Native.Nat.{ℕ, zero, suc, ◌-◌, ◌≤◌}
use native.Mathlib.Omega.{arith}
use lib.Bits.{bit_xor, xor_lt}
use lib.ListN.{length, take, drop, replicate}
use lib.Seq.{take_all, drop_at}
use Rattle.base.specs.Little.{Bytes}
use Rattle.base.proofs.Arrays.{drop-replicate}
use Rattle.base.proofs.Bytes.{bytes_take}
use Rattle.frame.specs.Bias.{null_frame}
use Rattle.codec.proofs.Octets.{bytes_none, bytes-cons, bytes-append}
use Rattle.packing.specs.Packing.{xors, pack}
use Rattle.packing.specs.Pad.{zeros, padded}
use Rattle.packing.specs.declared.input_bytes.InputBytes.{InputBytes}
use Rattle.packing.proofs.Pads.{zeros-length, padded-length}
use Rattle.packing.proofs.Inputs.{Full}
use Rattle.history.specs.History.{blank_frame}
use Rattle.pending.specs.Pending.{sent_bytes, payload}
use Rattle.endpoint_invariant.specs.Each.{Each}
use Rattle.endpoint_invariant.specs.Sound.{Kept}

-- ---- bytes

pub bytes-zeros : (n : ℕ) → Bytes (replicate n 0)
bytes-zeros zero = bytes_none
bytes-zeros (suc n) = bytes-cons 0 (replicate n 0) (omega arith) (bytes-zeros n)

pub bytes-xors : (l m : List ℕ) → Bytes l → Bytes m → Bytes (xors l m)
unfolding xors
bytes-xors [] m h k = bytes_none
bytes-xors (x ∷ l) [] h k = bytes_none
bytes-xors (x ∷ l) (y ∷ m) h k = bytes-cons (bit_xor x y) (xors l m) (xor_lt 8 x y (h 0) (k 0)) (bytes-xors l m (λ i. h (suc i)) (λ i. k (suc i)))

-- ---- one input

pub kept_blank : (width : ℕ) → Kept width blank_frame
unfolding blank_frame zeros
kept_blank width = record { bytes = all; size = zeros-length; past = past; blank = λ _. refl }
  where
    all : Bytes zeros
    all = bytes-zeros 64

    past : drop width zeros ≡ replicate (64 - width) 0
    past = drop-replicate width 64 0

-- zeros past the bytes that there are
pub kept-padded : (width frame : ℕ) (bytes : List ℕ) → Bytes bytes → length bytes ≡ width → width ≤ 64 → (frame ≡ null_frame → ⊥) → Kept width (record { frame = frame; bytes = padded bytes })
unfolding padded
kept-padded width frame bytes h n few some = record {
  bytes = bytes-append (take 64 bytes) (replicate (64 - length bytes) 0) (bytes_take 64 bytes h) (bytes-zeros (64 - length bytes));
  size = padded-length bytes;
  past = rw (take_all 64 bytes (omega arith), n) (drop_at bytes (replicate (64 - width) 0) width n);
  blank = λ e. absurd (some e);
}

-- ---- a payload

pub kept_full : (width : ℕ) (l : List InputBytes) → Each (Kept width) l → Full l
unfolding Each Full
kept_full width [] h = tt
kept_full width (x ∷ l) h = (h.0.size, kept_full width l h.1)

pub bytes-payload : (width : ℕ) (reference : InputBytes) (l : List InputBytes) → Kept width reference → Each (Kept width) l → Bytes (payload width reference l)
unfolding Each payload pack
bytes-payload width reference [] r h = bytes_none
bytes-payload width reference (x ∷ l) r h =
    bytes-append (xors (take width x.bytes) reference.bytes) (pack reference.bytes (map (sent_bytes width) l))
    (bytes-xors (take width x.bytes) reference.bytes (bytes_take width x.bytes h.0.bytes) r.bytes)
    (bytes-payload width reference l r h.1)
