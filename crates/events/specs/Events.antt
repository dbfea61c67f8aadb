-- The events held, and how frames are announced (E-26, E-27).
use Rattle.std.specs.Prelude.{Bool, true, false, List, [], ◌∷◌, ◌++◌, ◌≡◌, refl, ℕ, ◌+◌, ◌-◌, ◌*◌, ◌^◌, leb, length, take, drop, replicate, Option, Some, None, Err}
use Rattle.base.specs.Pick.{pick}
use Rattle.ceilings.specs.Ceilings.{most_events, most_input_size}
use Rattle.answer.specs.Number.{Answered, done}
use Rattle.answer.specs.declared.Refusal.{Refusal}
use Rattle.answer.specs.declared.Refusal.TheVariants.{Full}
use Rattle.fixed_vec.specs.FixedVec.{held}
use Rattle.packing.specs.declared.input_bytes.InputBytes.{InputBytes}
use Rattle.events.specs.declared.Entry.{Entry}
use Rattle.events.specs.declared.Events.{Events}
use Rattle.events.specs.declared.Event.{Event}

-- the events held, oldest first; a count beyond the array is the array's length
unfoldable pub held_events : Events → List Entry
held_events e = held e.entries

-- room for n more
unfoldable pub has_room : List Entry → ℕ → Bool
has_room l n = leb (length l + n) most_events

-- 16 bytes: an input, zeros after it
unfoldable pub input_of : List ℕ → List ℕ
input_of bytes = take most_input_size bytes ++ replicate (most_input_size - length bytes) 0

-- an event that has no input
abbrev pub without_input : Event → Entry
without_input e = record { event = e; input = replicate most_input_size 0 }

unfoldable pub blank_entry : Entry
blank_entry = without_input Event.Synchronized

-- two events in their order, each where it is announced
unfoldable pub both : Bool → Entry → Bool → Entry → List Entry
both first one second other = pick first (one ∷ []) [] ++ pick second (other ∷ []) []

-- an event that is there, or none
abbrev pub given : Option Entry → List Entry
given (Some entry) = entry ∷ []
given None = []

-- what an Input may announce ahead of its inputs
unfoldable pub ahead : (resumed disconnected : Bool) → List Entry
ahead resumed disconnected = both resumed (without_input Event.NetworkResumed) disconnected (without_input Event.Disconnected)

-- one player's input of a frame
unfoldable pub input_entry : (frame player : ℕ) → List ℕ → Entry
input_entry frame player bytes = record { event = Event.Input frame player; input = input_of bytes }

-- one frame, once per handle in their order, each with the next `size` of the frame's bytes
unfoldable pub announced : (frame size : ℕ) → (bytes handles : List ℕ) → List Entry
announced frame size bytes [] = []
announced frame size bytes (h ∷ hs) = input_entry frame h (take size bytes) ∷ announced frame size (drop size bytes) hs

-- frames one after another, each once per handle (E-26)
unfoldable pub announced_each : (size : ℕ) → (handles : List ℕ) → List InputBytes → List Entry
announced_each size handles [] = []
announced_each size handles (x ∷ xs) = announced x.frame size x.bytes handles ++ announced_each size handles xs

-- frames with their numbers, from a first one on
unfoldable pub frames_from : (frame : ℕ) → List (List ℕ) → List InputBytes
frames_from frame [] = []
frames_from frame (bytes ∷ rest) = record { frame = frame; bytes = bytes } ∷ frames_from (frame + 1) rest

-- the same for code that is given the frames of a payload, of which the first has a number
unfoldable pub announced_all : (frame size : ℕ) → (handles : List ℕ) → (frames : List (List ℕ)) → List Entry
announced_all frame size handles frames = announced_each size handles (frames_from frame frames)

-- room for all events of `count` frames, whose numbers are frames (they are where 6 was tested)
unfoldable pub packet_fits : List Entry → (frame count : ℕ) → (handles : List ℕ) → Bool
packet_fits l frame count handles = pick (leb (frame + count) (2 ^ 32)) (has_room l (count * length handles)) false

-- all of some entries at the end where the call is able to, else Full and nothing changes
pub record PushedAs (e : Events) (able : Bool) (more : List Entry) (r : Answered) (new : Events) : Type 0 where
  pub answer : r ≡ pick able done (Err Full)
  pub view : held_events new ≡ pick able (held_events e ++ more) (held_events e)
  pub same : (refusal : Refusal) → r ≡ Err refusal → new ≡ e

-- worked: frame 7 of two players with two bytes each
frame_example : announced 7 2 (1 ∷ 2 ∷ 3 ∷ 4 ∷ []) (0 ∷ 3 ∷ []) ≡ input_entry 7 0 (1 ∷ 2 ∷ []) ∷ input_entry 7 3 (3 ∷ 4 ∷ []) ∷ []
unfolding announced
frame_example = refl

-- worked: two frames of one player (P3)
packet_example : announced_all 7 1 (1 ∷ []) ((5 ∷ []) ∷ (7 ∷ []) ∷ []) ≡ input_entry 7 1 (5 ∷ []) ∷ input_entry 8 1 (7 ∷ []) ∷ []
unfolding announced announced_all announced_each frames_from
packet_example = refl

-- worked: of two events the first alone, and both in their order
first_example : both true (without_input Event.NetworkResumed) false (without_input Event.Disconnected) ≡ without_input Event.NetworkResumed ∷ []
unfolding both
first_example = refl

ahead_example : ahead true true ≡ without_input Event.NetworkResumed ∷ without_input Event.Disconnected ∷ []
unfolding ahead both
ahead_example = refl
