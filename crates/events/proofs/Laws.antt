-- Laws of announcing frames: the loops that write a frame's entries, the lengths, and that zeros after a frame change nothing.
use borrow.Author.Tests.{leb-true, leb-false, le-leb}
use mathlib.Core.Bool.{Bool, true, false}
use mathlib.Core.List.{List, [], ◌∷◌, ◌++◌, append-nil, append_assoc}
use mathlib.Core.Path.{◌≡◌, refl, sym, ◌∙◌, ap}
use Prim.Native.Nat.{ℕ, suc, ◌+◌, ◌-◌, ◌*◌, ◌^◌, ◌<◌, ◌≤◌, min}
use native.Mathlib.Omega.{arith}
use native.Mathlib.Nat.{zero-mul, suc-mul}
use native.Mathlib.Numerals.{add-one}
use lib.Dec.{leb}
use lib.ListN.{length, take, drop, get_or, replicate, length-append, drop_of_length-le}
use lib.Seq.{drop-cons, take_all}
use Rattle.base.specs.Pick.{pick}
use Rattle.base.proofs.Arrays.{drop-replicate}
use Rattle.base.proofs.Padded.{take_join, drop_join, take_alike, pad_more}
use Rattle.packing.specs.Packing.{xors, frames_of}
use Rattle.packing.specs.Pad.{padded}
use Rattle.packing.proofs.Laws.{xors-length, frames_length}
use Rattle.events.specs.declared.Entry.{Entry}
use Rattle.events.specs.declared.Events.{Events}
use Rattle.std.proofs.Common.{Some, None}
use Rattle.std.specs.Bool.{then_some}
use Rattle.events.specs.declared.Event.TheVariants.{NetworkResumed, Disconnected}
use Rattle.answer.specs.Number.{Answered, done}
use Rattle.fixed_vec.specs.FixedVec.{held}
use Rattle.events.specs.Events.{held_events, without_input, has_room, both, ahead, given, input_of, input_entry, announced, announced_each, announced_all, frames_from, packet_fits, PushedAs}

-- a place beyond the end is the end
pub drop_min : (k n : ℕ) (l : List ℕ) → length l ≡ n → drop (min k n) l ≡ drop k l
drop_min k n l e =
    elim (leb n k) as (λ b. leb n k ≡ b → drop (min k n) l ≡ drop k l) [
      | true ↦ λ q.
          let m : min k n ≡ n = omega (arith, leb-true n k q) in
          rw (m, drop_of_length-le l {i = n} (omega arith), drop_of_length-le l {i = k} (omega (arith, leb-true n k q)))
      | false ↦ λ q. let m : min k n ≡ k = omega (arith, leb-false n k q) in rw m
    ]
    refl

-- as many events as handles
pub announced-length : (frame size : ℕ) (bytes hs : List ℕ) → length (announced frame size bytes hs) ≡ length hs
unfolding announced
announced-length frame size bytes [] = refl
announced-length frame size bytes (h ∷ hs) = ap suc (announced-length frame size (drop size bytes) hs)

-- a size beyond the end is the whole
pub take_min : (k : ℕ) (l : List ℕ) → take (min k (length l)) l ≡ take k l
take_min k l =
    elim (leb (length l) k) as (λ b. leb (length l) k ≡ b → take (min k (length l)) l ≡ take k l) [
      | true ↦ λ q.
          let h = leb-true (length l) k q in
          let m : min k (length l) ≡ length l = omega arith in
          rw m (take_all (length l) l (omega arith) ∙ sym (take_all k l h))
      | false ↦ λ q. let m : min k (length l) ≡ k = omega (arith, leb-false (length l) k q) in rw m
    ]
    refl

-- a loop that announces a frame: a turn and the end
module _ (frame size : ℕ) (l T : List Entry) (rest hs : List ℕ) (i : ℕ) (inv : l ++ announced frame size rest (drop i hs) ≡ T) where
  pub frame_turn : i < length hs
      → (l ++ input_entry frame (get_or hs i 0) (take (min size (length rest)) rest) ∷ []) ++ announced frame size (drop (min size (length rest)) rest) (drop (i + 1) hs) ≡ T
  unfolding announced
  frame_turn h = rw (append_assoc, add-one, take_min size rest, drop_min size (length rest) rest refl) (rw (drop-cons hs i 0 h) at inv)

  pub frame_end : length hs ≤ i → l ≡ T
  unfolding announced
  frame_end h = sym (append-nil l) ∙ (rw (drop_of_length-le hs h) at inv)

-- zeros after its bytes change nothing that is announced of a frame
announced-zeros : (frame size : ℕ) (bytes hs : List ℕ) (m : ℕ) → announced frame size (bytes ++ replicate m 0) hs ≡ announced frame size bytes hs
unfolding announced input_entry input_of
announced-zeros frame size bytes [] m = refl
announced-zeros frame size bytes (h ∷ hs) m =
    rw (take_join size bytes (replicate m 0), drop_join size bytes (replicate m 0), take_alike {X = ℕ} (size - length bytes) m 0, drop-replicate {X = ℕ} (size - length bytes) m 0)
    (rw (pad_more 0 16 (take size bytes) (min (size - length bytes) m), announced-zeros frame size (drop size bytes) hs (m - (size - length bytes))))

pub announced-padded : (frame size : ℕ) (bytes hs : List ℕ) → length bytes ≤ 64 → announced frame size (padded bytes) hs ≡ announced frame size bytes hs
unfolding padded
announced-padded frame size bytes hs h = rw (take_all 64 bytes h) (announced-zeros frame size bytes hs (64 - length bytes))

-- as many events as frames and handles
pub announced_all-length : (frame size : ℕ) (hs : List ℕ) (fs : List (List ℕ)) → length (announced_all frame size hs fs) ≡ length fs * length hs
unfolding announced_all announced_each frames_from
announced_all-length frame size hs [] = sym (zero-mul (length hs))
announced_all-length frame size hs (bytes ∷ fs) =
    length-append (announced frame size bytes hs) (announced_all (frame + 1) size hs fs)
    ∙ rw (announced-length frame size bytes hs, announced_all-length (frame + 1) size hs fs, suc-mul) (omega arith)

-- where the room test of a packet holds, its numbers are frames, and all its events fit
each : (x y : Bool) → pick x y false ≡ true → (x ≡ true) × (y ≡ true)
each true y e = (refl, e)
each false y e = (cc, cc)

pub packet_fits_true : (l : List Entry) (frame count : ℕ) (hs : List ℕ) → packet_fits l frame count hs ≡ true → (frame + count ≤ 2 ^ 32) × (length l + count * length hs ≤ 640)
unfolding packet_fits has_room
packet_fits_true l frame count hs t =
    let b = each (leb (frame + count) (2 ^ 32)) (leb (length l + count * length hs) 640) t in
    (leb-true _ _ b.0, leb-true _ _ b.1)

-- a loop that goes through a packet's frames, over the entries l before this turn: a turn, the end, and the room that is left
module _ (frame size w : ℕ) (r hs rest : List ℕ) (count k : ℕ) (l T : List Entry) (inv : l ++ announced_all (frame + k) size hs (frames_of w r (count - k) rest) ≡ T) where
  pub packet_turn : (t : List Entry) (bytes : List ℕ) → k < count → length r ≤ 64
      → bytes ≡ padded (xors (take w rest) r)
      → t ≡ l ++ announced (frame + k) size bytes hs
      → t ++ announced_all (frame + (k + 1)) size hs (frames_of w r (count - (k + 1)) (drop (min w (length rest)) rest)) ≡ T
  unfolding announced_all announced_each frames_from frames_of
  packet_turn t bytes h hr b e =
      let n : count - k ≡ suc (count - (k + 1)) = omega arith in
      let g : frame + (k + 1) ≡ frame + k + 1 = omega arith in
      let x = announced-padded (frame + k) size (xors (take w rest) r) hs (omega (arith, xors-length (take w rest) r)) in
      rw (e, b, x, g, drop_min w (length rest) rest refl, append_assoc) (rw n at inv)

  pub packet_end : count ≤ k → l ≡ T
  unfolding announced_all announced_each frames_from frames_of
  packet_end h = let n : count - k ≡ 0 = omega arith in sym (append-nil l) ∙ (rw n at inv)

  pub packet_room : k < count → length l + length hs ≤ length T
  packet_room h =
      let n : count - k ≡ suc (count - (k + 1)) = omega arith in
      let a : length (announced_all (frame + k) size hs (frames_of w r (count - k) rest)) ≡ (count - (k + 1)) * length hs + length hs =
      announced_all-length (frame + k) size hs (frames_of w r (count - k) rest) ∙ rw (frames_length w r (count - k) rest, n, suc-mul) in
      omega (arith, ap length inv, length-append l (announced_all (frame + k) size hs (frames_of w r (count - k) rest)))

-- a count of 0 holds nothing
pub held_none : (l : List Entry) → held_events (record { entries = record { list = l; count = 0 } }) ≡ []
unfolding held_events held
held_none l = refl

-- room: 640 at most are held after, and where the numbers are frames only the room decides
pub pushed_bound : (l more : List Entry) → length l ≤ 640 → length (pick (has_room l (length more)) (l ++ more) l) ≤ 640
unfolding has_room
pushed_bound l more h =
    elim (leb (length l + length more) 640) as (λ b. leb (length l + length more) 640 ≡ b → length (pick b (l ++ more) l) ≤ 640)
    [ true ↦ λ e. omega (arith, length-append l more, leb-true (length l + length more) 640 e) | false ↦ λ _. h ]
    refl

pub packet_fits_lem : (l : List Entry) (frame count : ℕ) (hs : List ℕ) → frame + count ≤ 2 ^ 32 → packet_fits l frame count hs ≡ has_room l (count * length hs)
unfolding packet_fits
packet_fits_lem l frame count hs h = rw (le-leb (frame + count) (2 ^ 32) h)

pub packet_length : (frame size w : ℕ) (r hs p : List ℕ) (count : ℕ) → length (announced_all frame size hs (frames_of w r count p)) ≡ count * length hs
packet_length frame size w r hs p count = announced_all-length frame size hs (frames_of w r count p) ∙ rw (frames_length w r count p)

-- how many of two are announced
pub both-length : (first : Bool) (one : Entry) (second : Bool) (other : Entry) → length (both first one second other) ≡ pick first 1 0 + pick second 1 0
unfolding both
both-length true one true other = refl
both-length true one false other = refl
both-length false one true other = refl
both-length false one false other = refl

-- two, each where it is announced, are those of two that are given
pub both_given : (first : Bool) (one : Entry) (second : Bool) (other : Entry) → both first one second other ≡ given (pick first (Some one) None) ++ given (pick second (Some other) None)
unfolding both
both_given true one true other = refl
both_given true one false other = refl
both_given false one true other = refl
both_given false one false other = refl

-- what an Input announces ahead of its inputs
pub ahead_given : (resumed disconnected : Bool) → given (then_some resumed (without_input NetworkResumed)) ++ given (then_some disconnected (without_input Disconnected)) ≡ ahead resumed disconnected
unfolding ahead both
ahead_given true true = refl
ahead_given true false = refl
ahead_given false true = refl
ahead_given false false = refl

-- one event, announced or not
module _ (e : Events) (announces : Bool) (entry : Entry) where
  abbrev More : List Entry
  More = pick announces (entry ∷ []) []

  pub pushed_if : (r : Answered) (new : Events) → announces ≡ true → PushedAs e (has_room (held_events e) 1) (entry ∷ []) r new
      → PushedAs e (has_room (held_events e) (length More)) More r new
  pushed_if r new h p = rw h p

  pub not_pushed : announces ≡ false → length (held_events e) ≤ 640 → PushedAs e (has_room (held_events e) (length More)) More done e
  unfolding has_room
  not_pushed h l =
      let t : leb (length (held_events e) + 0) 640 ≡ true = le-leb (length (held_events e) + 0) 640 (omega arith) in
      rw h (record { answer = rw t; view = rw (t, append-nil); same = λ _ _. refl })
