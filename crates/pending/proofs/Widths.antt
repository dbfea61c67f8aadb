-- The frames packed from a store all have the width, so the size of its payload is determined by their number.
use mathlib.Core.Path.{◌≡◌, ◌∙◌}
use mathlib.Core.List.{List, [], ◌∷◌, map}
use Prim.Native.Nat.{ℕ, ◌*◌, ◌≤◌, min}
use native.Mathlib.Omega.{arith}
use native.Mathlib.Nat.{mul-le-mul}
use lib.ListN.{length, length-take, length-map}
use Rattle.packing.specs.Packing.{Wide}
use Rattle.packing.specs.declared.input_bytes.InputBytes.{InputBytes}
use Rattle.packing.proofs.Laws.{pack-length}
use Rattle.packing.proofs.Inputs.{Full}
use Rattle.pending.specs.declared.Pending.{Pending}
use Rattle.pending.specs.Pending.{waiting, sent_bytes, payload, SizedAs}
use Rattle.pending.proofs.Laws.{waiting-le}

pub frames_wide : (width : ℕ) (l : List InputBytes) → Full l → Wide (min width 64) (map (sent_bytes width) l)
unfolding Full Wide
frames_wide width [] h = tt
frames_wide width (x ∷ l) h = (length-take width x.bytes ∙ rw h.0, frames_wide width l h.1)

-- the size of a payload
pub payload-length : (width : ℕ) (reference : InputBytes) (l : List InputBytes) → Full l → length reference.bytes ≡ 64
    → length (payload width reference l) ≡ length l * min width 64
unfolding payload
payload-length width reference l h r =
    pack-length (min width 64) reference.bytes (omega arith) (map (sent_bytes width) l) (frames_wide width l h)
    ∙ rw (length-map l (sent_bytes width))

-- it is at most 129 frames of 64 bytes
pub payload_most : (p : Pending) (width r : ℕ) → length p.inputs.list ≡ 129 → SizedAs p width r → r ≤ 8256
payload_most p width r long e =
    let many : length (waiting p) ≤ 129 = omega (arith, waiting-le p) in
    let wide : min width 64 ≤ 64 = omega arith in
    rw e.counted (mul-le-mul many wide)
