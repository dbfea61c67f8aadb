-- The bytes of an input held are 64, since that is their array's length.
use borrow.Author.Rules.{rules}
use mathlib.Core.Path.{◌≡◌}
use mathlib.Core.List.{List, [], ◌∷◌}
use Prim.Native.Nat.{ℕ, zero, suc, ◌<◌}
use native.Mathlib.Nat.{not-suc-le-zero, le_of_suc-le-suc}
use lib.ListN.{length, take, get_or}
use mir.Val.{Val}
use denote.Array.{each}
use denote.Shadow.{shadow}
use Rattle.base.proofs.Arrays.{unmap}
use Rattle.packing.specs.declared.input_bytes.InputBytes.{InputBytes}
use Rattle.packing.specs.contracts.input_bytes.InputBytes.{the_row}

-- every input has 64 bytes
unfoldable pub Full : List InputBytes → Type 0
Full [] = Unit {0}
Full (x ∷ xs) = (length x.bytes ≡ 64) × Full xs

-- an array of inputs is so
pub slots_full : (l : List InputBytes) (us : List Val) → shadow (each the_row.Denot the_row.own_val l us) → Full l
unfolding Full
slots_full [] us p = tt
slots_full (x ∷ l) [] p = absurd p
slots_full (x ∷ l) (u ∷ us) p = (let q = p.0 in search (unmap, rules), slots_full l us p.1)

pub take_full : (n : ℕ) (l : List InputBytes) → Full l → Full (take n l)
unfolding Full
take_full zero l h = tt
take_full (suc n) [] h = tt
take_full (suc n) (x ∷ l) h = (h.0, take_full n l h.1)

pub full_at : (l : List InputBytes) (k : ℕ) (d : InputBytes) → Full l → k < length l → length (get_or l k d).bytes ≡ 64
unfolding Full
full_at [] k d h b = absurd (not-suc-le-zero b)
full_at (x ∷ l) zero d h b = h.0
full_at (x ∷ l) (suc k) d h b = full_at l k d h.1 (le_of_suc-le-suc b)
