-- The receiver stays sound when a packet is taken in, and its history is never full.
use borrow.Author.Tests.{le-leb}
use mathlib.Core.Bool.{Bool, true, false}
use mathlib.Core.List.{List, [], ◌∷◌, ◌++◌}
use mathlib.Core.Path.{◌≡◌, refl, sym, ◌∙◌, ap}
use Prim.Native.Nat.{ℕ, zero, suc, ◌+◌, ◌-◌, ◌*◌, ◌^◌, ◌≤◌, ◌<◌, min}
use native.Mathlib.Omega.{arith}
use native.Mathlib.Nat.{mul-le-mul, suc-mul, div-add-mod'}
use lib.Dec.{eqb}
use lib.ListN.{length, take, drop, length-take, length-drop}
use Rattle.base.specs.Pick.{pick}
use Rattle.base.specs.Keyed.{kept}
use Rattle.base.specs.Little.{Bytes}
use Rattle.base.proofs.Bytes.{bytes_take, bytes_drop}
use Rattle.frame.specs.Bias.{bias32, null_frame}
use Rattle.packing.specs.Packing.{frame_count, frames_of, unpack, decodable}
use Rattle.packing.specs.declared.input_bytes.InputBytes.{InputBytes}
use Rattle.packing.proofs.Laws.{xors-length, unpack-take}
use Rattle.history.specs.History.{blank_frame, highest, newest_of, Found, found_in, stays, at_line, above, numbered, packet_of, taken_in, newest_after, Ascending}
use Rattle.history.proofs.TakenIn.{newest-kept, newest-taken, ascending_numbered, taken_ascending, taken_few, taken_fits}
use Rattle.setup.specs.Setup.{Terms, SoundSetup, receiving_width}
use Rattle.setup.proofs.Laws.{receiving_within}
use Rattle.endpoint_rules.specs.Seen.{Receiver}
use Rattle.endpoint_rules.specs.Receiving.{Reception, reference, taken, received_if, receive}
use Rattle.endpoint_invariant.specs.Each.{Each}
use Rattle.endpoint_invariant.specs.Sound.{Kept, SoundReceiver}
use Rattle.endpoint_invariant.proofs.Eaches.{each_append, each_kept, each_also, each_passes}
use Rattle.endpoint_invariant.proofs.Padding.{bytes-xors, kept_blank, kept-padded}

abbrev pub holds : List InputBytes → Receiver
holds l = record { history = l }

-- ---- made

pub made_receiver : (width max_prediction : ℕ) → SoundReceiver width max_prediction (holds (blank_frame ∷ []))
unfolding Ascending newest_of highest blank_frame Each
made_receiver width max_prediction =
    record {
      ascending = (omega arith, tt);
      some = omega arith;
      count = omega arith;
      stay = (le-leb null_frame (null_frame + 2 * max_prediction) (omega arith), tt);
      newest = omega arith;
      none = λ _. refl;
      inputs = (kept_blank width, tt);
    }

-- ---- frames ascending, and those not below a first

ascending_each : (low : ℕ) (l : List InputBytes) → Ascending low l → Each (λ (x : InputBytes). low ≤ x.frame) l
unfolding Ascending Each
ascending_each low [] h = tt
ascending_each low (x ∷ l) h =
    (h.0, each_also (λ (y : InputBytes). suc x.frame ≤ y.frame) (λ (y : InputBytes). low ≤ y.frame) (λ y q. omega (arith, h.0)) l (ascending_each (suc x.frame) l h.1))

ascending_raised : (low : ℕ) (l : List InputBytes) → Ascending 0 l → Each (λ (x : InputBytes). low ≤ x.frame) l → Ascending low l
unfolding Ascending Each
ascending_raised low [] h k = tt
ascending_raised low (x ∷ l) h k = (k.0, h.1)

ascending_any : (low : ℕ) (l : List InputBytes) → Ascending low l → Ascending 0 l
unfolding Ascending
ascending_any low [] h = tt
ascending_any low (x ∷ l) h = (omega arith, h.1)

-- ---- the frames of a packet

abbrev IsFrame : (width : ℕ) → List ℕ → Type 0
IsFrame width f = Bytes f × (length f ≡ width)

module _ (width : ℕ) (r : List ℕ) (long : width ≤ length r) (are : Bytes r) where
  frames_each : (n : ℕ) (p : List ℕ) → n * width ≤ length p → Bytes p → Each (IsFrame width) (frames_of width r n p)
  unfolding Each frames_of
  frames_each zero p k h = tt
  frames_each (suc n) p k h =
      let m = suc-mul n width in
      let t = length-take width p in (
        (bytes-xors (take width p) r (bytes_take width p h) are, omega (arith, xors-length (take width p) r)),
        frames_each n (drop width p) (omega (arith, length-drop width p)) (bytes_drop width p h),
      )

  unpacked_each : (n : ℕ) (p : List ℕ) → Bytes p → Each (IsFrame width) (take n (unpack width r p))
  unpacked_each n p h =
      let few : min n (frame_count width (length p)) ≤ frame_count width (length p) = omega arith in
      let all : min n (frame_count width (length p)) * width ≤ frame_count width (length p) * width = mul-le-mul few (omega arith) in
      rw (unpack-take width r n p) (frames_each (min n (frame_count width (length p))) p (omega (arith, div-add-mod' (length p) width)) h)

numbered-kept : (width start : ℕ) (fs : List (List ℕ)) → width ≤ 64 → bias32 ≤ start → Each (IsFrame width) fs → Each (Kept width) (numbered start fs)
unfolding Each numbered
numbered-kept width start [] few from h = tt
numbered-kept width start (f ∷ fs) few from h =
    (kept-padded width start f h.0.0 h.0.1 few (λ e. omega arith), numbered-kept width (suc start) fs few (omega arith) h.1)

-- of a frame that a packet brings: its number is one of a frame that is not negative, and it is made of bytes
abbrev pub Brought : InputBytes → Type 0
Brought x = (bias32 ≤ x.frame) × (x.frame < 2 ^ 32) × Bytes x.bytes

numbered_brought : (width start : ℕ) (fs : List (List ℕ)) → width ≤ 64 → bias32 ≤ start → start + length fs ≤ 2 ^ 32 → Each (IsFrame width) fs → Each Brought (numbered start fs)
unfolding Each numbered
numbered_brought width start [] few from upto h = tt
numbered_brought width start (f ∷ fs) few from upto h = (
  (from, omega arith, (kept-padded width start f h.0.0 h.0.1 few (λ e. omega arith)).bytes),
  numbered_brought width (suc start) fs few (omega arith) (omega arith) h.1,
)

found_kept : (width f : ℕ) (l : List InputBytes) → Each (Kept width) l → Kept width (found_in f l).input
unfolding Each found_in
found_kept width f [] h = kept_blank width
found_kept width f (x ∷ l) h =
    elim (eqb x.frame f) as (λ b. Kept width (pick {A = Found} b (record { held = true; input = x }) (found_in f l)).input) [ true ↦ h.0 | false ↦ found_kept width f l h.1 ]

-- ---- a packet taken in

-- the test by another name of the newest
stay_as : (newest max_prediction : ℕ) (l : List InputBytes) → newest_of l ≡ newest → Each (λ (x : InputBytes). stays newest max_prediction x.frame ≡ true) l
    → Each (λ (x : InputBytes). stays (newest_of l) max_prediction x.frame ≡ true) l
stay_as newest max_prediction l e h = rw e h

-- a packet's frames are not negative
after_small : (newest start count : ℕ) → newest < 2 ^ 32 → start + count ≤ 2 ^ 32 → newest_after newest start count < 2 ^ 32
unfolding newest_after
after_small newest start zero h k = h
after_small newest start (suc n) h k = omega arith

after_null : (newest start : ℕ) (fs : List (List ℕ)) → bias32 ≤ start → newest_after newest start (length fs) ≡ null_frame → (newest ≡ null_frame) × (fs ≡ [])
unfolding newest_after
after_null newest start [] h e = (e, refl)
after_null newest start (f ∷ fs) h e = absurd (omega arith)

-- nothing received, and no frame comes
none_taken : (max_prediction : ℕ) → taken_in max_prediction (blank_frame ∷ []) [] ≡ blank_frame ∷ []
unfolding taken_in at_line above kept newest_of highest blank_frame
none_taken max_prediction = rw (le-leb null_frame (null_frame + 2 * max_prediction) (omega arith))

some_in : (l : List InputBytes) → (newest_of l ≡ null_frame → l ≡ blank_frame ∷ []) → 1 ≤ length l
unfolding newest_of
some_in [] f = absurd (omega (arith, ap length (f refl)))
some_in (x ∷ l) f = omega arith

-- the history never gives 5: whatever packet comes, all that is to be kept fits
pub never_full : (width max_prediction : ℕ) (l : List InputBytes) → max_prediction ≤ 16 → SoundReceiver width max_prediction (holds l) → (start w : ℕ) (r payload : List ℕ)
    → take 33 (taken_in max_prediction l (packet_of start w r payload)) ≡ taken_in max_prediction l (packet_of start w r payload)
unfolding packet_of
never_full width max_prediction l few h start w r payload = taken_fits max_prediction l start _ (ascending_any null_frame l h.ascending) few

module _ (width max_prediction start : ℕ) (fs : List (List ℕ)) (l : List InputBytes) (narrow : width ≤ 64) (from : bias32 ≤ start)
    (upto : start + length fs ≤ 2 ^ 32) (frames : Each (IsFrame width) fs) (h : SoundReceiver width max_prediction (holds l)) where
  abbrev after : List InputBytes
  after = taken_in max_prediction l (numbered start fs)

  ascends : Ascending 0 l
  ascends = ascending_any null_frame l h.ascending

  -- what holds of the inputs before and of the packet's holds of those after
  after_each : (P : InputBytes → Type 0) → Each P l → Each P (numbered start fs) → Each P after
  unfolding taken_in at_line above
  after_each P a b = each_kept P _ _ (each_append P l _ a (each_kept P _ _ b))

  after_stay : Each (λ (x : InputBytes). stays (newest_of after) max_prediction x.frame ≡ true) after
  unfolding taken_in at_line
  after_stay =
      let m : List InputBytes = l ++ above (newest_of l) (numbered start fs) in
      stay_as (newest_of m) max_prediction (at_line max_prediction m) (newest-kept max_prediction m) (each_passes (λ (x : InputBytes). stays (newest_of m) max_prediction x.frame) m)

  after_none : newest_of after ≡ null_frame → after ≡ blank_frame ∷ []
  unfolding numbered
  after_none e =
      let t = after_null (newest_of l) start fs from (sym (newest-taken max_prediction l start fs) ∙ e) in
      rw (t.1, h.none t.0) (none_taken max_prediction)

  pub taken_sound : SoundReceiver width max_prediction (holds after)
  taken_sound =
      record {
        ascending = ascending_raised null_frame after (taken_ascending max_prediction l start fs ascends)
            (after_each (λ (x : InputBytes). null_frame ≤ x.frame) (ascending_each null_frame l h.ascending)
            (each_also (λ (x : InputBytes). start ≤ x.frame) (λ (x : InputBytes). null_frame ≤ x.frame) (λ x q. omega arith) (numbered start fs)
            (ascending_each start (numbered start fs) (ascending_numbered start fs))));
        some = some_in after after_none;
        count = taken_few max_prediction l start fs ascends;
        stay = after_stay;
        newest = rw (newest-taken max_prediction l start fs) (after_small (newest_of l) start (length fs) h.newest upto);
        none = after_none;
        inputs = after_each (Kept width) h.inputs (numbered-kept width start fs narrow from frames);
      }

-- ---- received

pub record SoundGot (width max_prediction : ℕ) (g : Reception) : Type 0 where
  pub receiver : SoundReceiver width max_prediction g.receiver
  pub acks : Each (λ n. n < 2 ^ 32) g.acks

module _ (t : Terms) (s : SoundSetup t) (start : ℕ) (payload : List ℕ) (from : bias32 ≤ start) (small : start < 2 ^ 32) (are : Bytes payload)
    (l : List InputBytes) (h : SoundReceiver (receiving_width t) t.max_prediction (holds l)) where
  abbrev frames : List ℕ → List (List ℕ)
  frames r = take (2 ^ 32 - start) (unpack (receiving_width t) r payload)

  upto : (r : List ℕ) → start + length (frames r) ≤ 2 ^ 32
  upto r = omega (arith, length-take (2 ^ 32 - start) (unpack (receiving_width t) r payload))

  module _ (x : InputBytes) (k : Kept (receiving_width t) x) where
    abbrev packet : List InputBytes
    packet = packet_of start (receiving_width t) x.bytes payload

    each_frame : Each (IsFrame (receiving_width t)) (frames x.bytes)
    each_frame =
        let w = receiving_within t s in
        unpacked_each (receiving_width t) x.bytes (omega (arith, k.size)) k.bytes (2 ^ 32 - start) payload are

    packet_sound : SoundReceiver (receiving_width t) t.max_prediction (holds (taken_in t.max_prediction l packet))
    unfolding packet_of
    packet_sound =
        let w = receiving_within t s in
        taken_sound (receiving_width t) t.max_prediction start (frames x.bytes) l w.1 from (upto x.bytes) each_frame h

    got_sound : (is_held is_decodable : Bool) → SoundGot (receiving_width t) t.max_prediction (received_if is_held is_decodable t.max_prediction packet (holds l))
    unfolding received_if taken Each
    got_sound false d = record { receiver = h; acks = tt }
    got_sound true false = record { receiver = h; acks = tt }
    got_sound true true =
        rw (never_full (receiving_width t) t.max_prediction l s.max_prediction h start (receiving_width t) x.bytes payload)
        (record { receiver = packet_sound; acks = (packet_sound.newest, tt) })

    got_brought : (is_held is_decodable : Bool) → Each Brought (received_if is_held is_decodable t.max_prediction packet (holds l)).new_frames
    unfolding received_if taken packet_of above Each
    got_brought false d = tt
    got_brought true false = tt
    got_brought true true =
        let w = receiving_within t s in
        each_kept Brought _ _ (numbered_brought (receiving_width t) start (frames x.bytes) w.1 from (upto x.bytes) each_frame)

  pub received_sound : SoundGot (receiving_width t) t.max_prediction (receive t start payload (holds l))
  unfolding receive
  received_sound =
      let found : Found = reference start (holds l) in
      got_sound found.input (found_kept (receiving_width t) _ l h.inputs) found.held (decodable (receiving_width t) payload)

  -- of all frames that are announced
  pub received_brought : Each Brought (receive t start payload (holds l)).new_frames
  unfolding receive
  received_brought =
      let found : Found = reference start (holds l) in
      got_brought found.input (found_kept (receiving_width t) _ l h.inputs) found.held (decodable (receiving_width t) payload)
