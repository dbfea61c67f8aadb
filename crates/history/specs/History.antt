-- The inputs received: what the history holds, the newest frame, and what a packet does to it.
use Rattle.std.specs.Prelude.{◌≡◌, refl, Bool, true, false, List, [], ◌∷◌, ◌++◌, ℕ, zero, suc, ◌+◌, ◌-◌, ◌*◌, ◌^◌, ◌≤◌, max, ltb, leb, eqb, take, Some, None}
use Rattle.base.specs.Pick.{pick}
use Rattle.base.specs.Keyed.{kept}
use Rattle.fixed_vec.specs.FixedVec.{held}
use Rattle.frame.specs.Bias.{null_frame}
use Rattle.packing.specs.Packing.{unpack}
use Rattle.packing.specs.Pad.{zeros, padded}
use Rattle.packing.specs.declared.input_bytes.InputBytes.{InputBytes}
use Rattle.history.specs.declared.History.{History}
use Rattle.history.specs.declared.Looked.{Looked}

-- the inputs held; a count beyond the array is the array's length
unfoldable pub received : History → List InputBytes
received h = held h.inputs

-- what is held before anything is received
unfoldable pub blank_frame : InputBytes
blank_frame = record { frame = null_frame; bytes = zeros }

unfoldable pub highest : List InputBytes → ℕ
highest [] = 0
highest (x ∷ xs) = max x.frame (highest xs)

-- the newest frame: the highest, and -1 where there is none
unfoldable pub newest_of : List InputBytes → ℕ
newest_of [] = null_frame
newest_of (x ∷ xs) = highest (x ∷ xs)

-- what is found of a frame
pub record Found : Type 0 where
  pub held : Bool
  pub input : InputBytes

-- the input of a frame; where it is not held, the blank one stands beside the answer
unfoldable pub found_in : ℕ → List InputBytes → Found
found_in f [] = record { held = false; input = blank_frame }
found_in f (x ∷ xs) = pick (eqb x.frame f) (record { held = true; input = x }) (found_in f xs)

-- the frame of a packet's reference (E-22): by numbers alone, and of what is held
abbrev pub reference_by : (newest start : ℕ) → ℕ
reference_by newest start = pick (eqb newest null_frame) null_frame (start - 1)

unfoldable pub reference_frame : ℕ → List InputBytes → ℕ
reference_frame start history = reference_by (newest_of history) start

-- what is found, if it is held, beside the newest frame
abbrev pub beside : ℕ → Found → Looked
beside newest found = record { newest = newest; reference = pick found.held (Some found.input) None }

-- the newest frame, and what is found of the reference of a packet from a frame on
unfoldable pub looked_at : ℕ → List InputBytes → Looked
looked_at start l = beside (newest_of l) (found_in (reference_frame start l) l)

-- at or above the keep line: frame >= newest - 2 max_prediction (E-29)
abbrev pub stays : ℕ → ℕ → ℕ → Bool
stays newest max_prediction frame = leb newest (frame + 2 * max_prediction)

-- those at or above the keep line of a newest frame; and of their own newest
abbrev pub at_line_of : ℕ → ℕ → List InputBytes → List InputBytes
at_line_of newest max_prediction l = kept (λ x. stays newest max_prediction x.frame) l

unfoldable pub at_line : ℕ → List InputBytes → List InputBytes
at_line max_prediction l = at_line_of (newest_of l) max_prediction l

-- those above a frame
unfoldable pub above : ℕ → List InputBytes → List InputBytes
above newest l = kept (λ x. ltb newest x.frame) l

-- frames one after the other from a first number on
unfoldable pub numbered : ℕ → List (List ℕ) → List InputBytes
numbered start [] = []
numbered start (f ∷ fs) = record { frame = start; bytes = padded f } ∷ numbered (suc start) fs

-- the frames of a packet; those past the largest frame have no number (not reachable: such a packet is refused by 6)
unfoldable pub packet_of : ℕ → ℕ → List ℕ → List ℕ → List InputBytes
packet_of start width reference payload = numbered start (take (2 ^ 32 - start) (unpack width reference payload))

-- append all frames of a packet above the newest, then keep those at or above the keep line
unfoldable pub taken_in : ℕ → List InputBytes → List InputBytes → List InputBytes
taken_in max_prediction l packet = at_line max_prediction (l ++ above (newest_of l) packet)

-- `taken_in` for code that is given the newest frame as a number, and so knows the one after it: with the list's own newest it is `taken_in` (law
-- `taken-newest`)
unfoldable pub taken_above : ℕ → ℕ → List InputBytes → List InputBytes → List InputBytes
taken_above newest max_prediction l packet = at_line_of (max newest (highest packet)) max_prediction (l ++ above newest packet)

-- the newest after it, by numbers alone
unfoldable pub newest_after : ℕ → ℕ → ℕ → ℕ
newest_after newest start zero = newest
newest_after newest start (suc n) = max newest (start + n)

-- new, and not below the keep line of the newest after it
abbrev pub new_and_kept : ℕ → ℕ → ℕ → ℕ → Bool
new_and_kept newest last max_prediction frame = pick (ltb newest frame) (stays last max_prediction frame) false

-- frames ascending, none below a first number
unfoldable pub Ascending : ℕ → List InputBytes → Type 0
Ascending low [] = Unit {0}
Ascending low (x ∷ xs) = (low ≤ x.frame) × Ascending (suc x.frame) xs

-- worked: at max_prediction 1, frames 11 to 14 after frame 10 leave 12, 13 and 14
input : ℕ → InputBytes
input f = record { frame = f; bytes = [] }

leaves : taken_in 1 (input 10 ∷ []) (input 9 ∷ input 10 ∷ input 11 ∷ input 12 ∷ input 13 ∷ input 14 ∷ []) ≡ input 12 ∷ input 13 ∷ input 14 ∷ []
unfolding taken_in at_line above kept newest_of highest input
leaves = refl

-- worked: with the list's own newest, the same of that packet
leaves_above : taken_above 10 1 (input 10 ∷ []) (input 9 ∷ input 10 ∷ input 11 ∷ input 12 ∷ input 13 ∷ input 14 ∷ []) ≡ input 12 ∷ input 13 ∷ input 14 ∷ []
unfolding taken_above above kept highest input
leaves_above = refl

-- worked: a packet that comes again leaves the history as it was
again : taken_in 1 (input 10 ∷ input 11 ∷ []) (input 10 ∷ input 11 ∷ []) ≡ input 10 ∷ input 11 ∷ []
unfolding taken_in at_line above kept newest_of highest input
again = refl

-- worked: a packet from frame 12 on after 10 and 11 is packed against 11, a first one against the blank frame; one from 13 on against 12, which is not held
looks : looked_at 12 (input 10 ∷ input 11 ∷ []) ≡ record { newest = 11; reference = Some (input 11) }
unfolding looked_at reference_frame found_in newest_of highest input
looks = refl

looks_first : looked_at 12 (blank_frame ∷ []) ≡ record { newest = null_frame; reference = Some blank_frame }
unfolding looked_at reference_frame found_in newest_of highest blank_frame
looks_first = refl

looks_in_vain : looked_at 13 (input 10 ∷ input 11 ∷ []) ≡ record { newest = 11; reference = None }
unfolding looked_at reference_frame found_in newest_of highest input
looks_in_vain = refl
