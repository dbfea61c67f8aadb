-- The inputs sent and not yet acknowledged: what the store holds, and what its calls do to that.
use Rattle.std.specs.Prelude.{◌≡◌, refl, Bool, false, List, [], ◌∷◌, ◌++◌, map, ℕ, ◌*◌, ◌≤◌, min, ltb, leb, length, take, Err}
use Rattle.base.specs.Pick.{pick}
use Rattle.answer.specs.Number.{Answered, done}
use Rattle.answer.specs.declared.Refusal.TheVariants.{Full}
use Rattle.ceilings.specs.Ceilings.{most_width, most_pending, most_payload}
use Rattle.fixed_vec.specs.FixedVec.{held}
use Rattle.packing.specs.Packing.{pack}
use Rattle.packing.specs.declared.input_bytes.InputBytes.{InputBytes}
use Rattle.pending.specs.declared.Pending.{Pending}

-- the inputs held, oldest first; a count beyond the array is the array's length
unfoldable pub waiting : Pending → List InputBytes
waiting p = held p.inputs

-- room for one more
unfoldable pub room : List InputBytes → Bool
room l = ltb (length l) most_pending

-- one more at the end, where there is room
unfoldable pub pushed : List InputBytes → InputBytes → List InputBytes
pushed l x = pick (room l) (l ++ x ∷ []) l

-- whether the first input has a frame of at most ack
unfoldable pub drops : ℕ → List InputBytes → Bool
drops ack [] = false
drops ack (x ∷ xs) = leb x.frame ack

-- what is left when the leading inputs with a frame of at most ack are dropped
unfoldable pub drop_to : ℕ → List InputBytes → List InputBytes
drop_to ack [] = []
drop_to ack (x ∷ xs) = pick (leb x.frame ack) (drop_to ack xs) (x ∷ xs)

-- the reference after it: the last input so dropped, the old one where none is
unfoldable pub last_to : ℕ → InputBytes → List InputBytes → InputBytes
last_to ack reference [] = reference
last_to ack reference (x ∷ xs) = pick (leb x.frame ack) (last_to ack x xs) reference

-- the frame of the first input, of the last one, or the one given where there is none
unfoldable pub first_frame : ℕ → List InputBytes → ℕ
first_frame none [] = none
first_frame none (x ∷ xs) = x.frame

unfoldable pub last_frame : ℕ → List InputBytes → ℕ
last_frame none [] = none
last_frame none (x ∷ xs) = last_frame x.frame xs

-- the bytes of an input that count
abbrev pub sent_bytes : ℕ → InputBytes → List ℕ
sent_bytes width x = take width x.bytes

-- all inputs packed against the reference
unfoldable pub payload : ℕ → InputBytes → List InputBytes → List ℕ
payload width reference l = pack reference.bytes (map (sent_bytes width) l)

-- done where there was room, else refused and the very store
pub record PushedAs (p : Pending) (x : InputBytes) (r : Answered) (new : Pending) : Type 0 where
  pub ok : r ≡ pick (room (waiting p)) done (Err Full)
  pub view : waiting new ≡ pushed (waiting p) x
  pub same : r ≡ Err Full → new ≡ p

-- the size of all inputs packed, against any reference
pub record SizedAs (p : Pending) (width : ℕ) (r : ℕ) : Type 0 where
  pub counted : r ≡ length (waiting p) * min width most_width
  pub packed : (reference : InputBytes) → length reference.bytes ≡ most_width → length (payload width reference (waiting p)) ≡ r
  pub most : r ≤ most_payload

-- the reference after it, and what is left
pub record DroppedAs (p : Pending) (ack : ℕ) (reference : InputBytes) (r : InputBytes) (new : Pending) : Type 0 where
  pub last : r ≡ last_to ack reference (waiting p)
  pub view : waiting new ≡ drop_to ack (waiting p)

-- worked: an ack of frame 2 drops frames 1 and 2; frame 2 is the new reference
frame-of : ℕ → InputBytes
frame-of f = record { frame = f; bytes = [] }

dropped : drop_to 2 (frame-of 1 ∷ frame-of 2 ∷ frame-of 3 ∷ []) ≡ frame-of 3 ∷ []
unfolding drop_to frame-of
dropped = refl

refers : last_to 2 (frame-of 0) (frame-of 1 ∷ frame-of 2 ∷ frame-of 3 ∷ []) ≡ frame-of 2
unfolding last_to frame-of
refers = refl
