-- Every event that a call announces is an announcement (`Announcement`): its numbers are in their ranges, and the bytes beside it are an input with zeros behind it, or zeros.
use mathlib.Core.List.Memᴰ.{head as here}
use mathlib.Core.List.Memᴰ.{tail as there}
use mathlib.Core.List.{List, [], ◌∷◌, ◌++◌, Memᴰ as Mem}
use mathlib.Core.Path.{◌≡◌, refl}
use Prim.Native.Nat.{ℕ, suc, ◌-◌, ◌^◌, ◌≤◌, ◌<◌}
use native.Mathlib.Omega.{arith}
use lib.ListN.{length, take, drop, replicate, length-take, drop_of_length-le}
use lib.Seq.{take_all}
use Rattle.base.specs.Little.{Bytes}
use Rattle.base.proofs.Arrays.{drop-replicate}
use Rattle.base.proofs.Bytes.{bytes_take, bytes_drop}
use Rattle.base.proofs.Padded.{drop_join, pad_length}
use Rattle.frame.specs.Bias.{bias32}
use Rattle.codec.proofs.Octets.{bytes-append}
use Rattle.packing.specs.declared.input_bytes.InputBytes.{InputBytes}
use Rattle.events.specs.Events.{input_of, input_entry, announced, announced_each}
use Rattle.setup.specs.Setup.{Terms, SoundSetup, Sorted, most_handle}
use Rattle.endpoint_rules.specs.Seen.{Seen}
use Rattle.endpoint_rules.specs.Call.{Call}
use Rattle.endpoint_rules.specs.Step.{step}
use Rattle.endpoint_invariant.specs.Each.{Each}
use Rattle.endpoint_invariant.specs.Runs.{handed}
use Rattle.endpoint_invariant.specs.Typed.{Typed}
use Rattle.endpoint_invariant.specs.Sound.{Sound}
use Rattle.endpoint_invariant.specs.Announcement.{Announcement}
use Rattle.endpoint_invariant.proofs.Eaches.{each_append, each_behind, each_also}
use Rattle.endpoint_invariant.proofs.Padding.{bytes-zeros}
use Rattle.endpoint_invariant.proofs.Receivers.{Brought, received_brought}
use Rattle.endpoint_invariant.proofs.Announced.{step-announces}
use Rattle.endpoint_invariant.proofs.Telling.{Others, step_tells}
use Rattle.endpoint_invariant.proofs.Staying.{step_setup}

-- ---- handles

members : (l : List ℕ) → Each (λ x. Mem x l) l
unfolding Each
members [] = tt
members (x ∷ l) = (here refl, each_also (λ y. Mem y l) (λ y. Mem y (x ∷ l)) (λ y m. there m) l (members l))

sorted_below : (low greatest : ℕ) (l : List ℕ) → Sorted low greatest l → Each (λ x. x ≤ greatest) l
unfolding Each Sorted
sorted_below low greatest [] h = tt
sorted_below low greatest (x ∷ l) h = (h.0.1, sorted_below (suc x) greatest l h.1)

-- ---- the input of a player beside an event

-- a part of at most `size` bytes, zeros behind it
input_past : (size : ℕ) → size ≤ 16 → (part : List ℕ) → length part ≤ size → drop size (input_of part) ≡ replicate (16 - size) 0
unfolding input_of
input_past size few part short =
    let rest : (16 - length part) - (size - length part) ≡ 16 - size = omega arith in
    rw (take_all 16 part (omega arith), drop_join size part (replicate (16 - length part) 0), drop_of_length-le part {i = size} short, drop-replicate {X = ℕ} (size - length part) (16 - length part) 0, rest)

input-bytes : (part : List ℕ) → Bytes part → Bytes (input_of part)
unfolding input_of
input-bytes part are = bytes-append (take 16 part) (replicate (16 - length part) 0) (bytes_take 16 part are) (bytes-zeros (16 - length part))

input_size_lem : (part : List ℕ) → length (input_of part) ≡ 16
unfolding input_of
input_size_lem part = pad_length 0 16 part

-- ---- frames

module _ (t : Terms) (s : SoundSetup t) where
  frame-announced : (frame : ℕ) → bias32 ≤ frame → frame < 2 ^ 32 → (bytes hs : List ℕ) → Bytes bytes → Each (λ h. Mem h t.handles) hs → Each (λ h. h ≤ most_handle) hs
      → Each (Announcement t) (announced frame t.input_size bytes hs)
  unfolding Each announced input_entry
  frame-announced frame from small bytes [] are m k = tt
  frame-announced frame from small bytes (h ∷ hs) are m k =
      let part : List ℕ = take t.input_size bytes in
      let short : length part ≤ t.input_size = omega (arith, length-take t.input_size bytes) in (
        record {
          number = (from, small);
          handle = (m.0, k.0);
          size = input_size_lem part;
          bytes = input-bytes part (bytes_take t.input_size bytes are);
          past = input_past t.input_size s.input_size.1 part short;
        },
        frame-announced frame from small (drop t.input_size bytes) hs (bytes_drop t.input_size bytes are) m.1 k.1,
      )

  frames_announced : (l : List InputBytes) → Each Brought l → Each (Announcement t) (announced_each t.input_size t.handles l)
  unfolding Each announced_each
  frames_announced [] h = tt
  frames_announced (x ∷ l) h =
      each_append (Announcement t) (announced x.frame t.input_size x.bytes t.handles) (announced_each t.input_size t.handles l)
      (frame-announced x.frame h.0.0 h.0.1 x.bytes t.handles h.0.2 (members t.handles) (sorted_below 0 most_handle t.handles s.sorted))
      (frames_announced l h.1)

-- ---- calls

others_announced : (s : Seen) → Sound s → Others (Announcement s.setup) s
others_announced s h =
    record {
      synchronizing = λ more. (refl, (omega (arith, h.sync.remaining), omega arith), refl);
      synchronized = refl;
      disconnected = refl;
      interrupted = (refl, omega (arith, h.setup.disconnect_timeout), refl);
      resumed = refl;
    }

pub step_announcements : (c : Call) → Typed c → (s : Seen) → Sound s → Each (Announcement s.setup) (step c s).events
step_announcements c t s h =
    (step_tells (Announcement s.setup) s (others_announced s h) c (λ w typed disconnect start ack q from.
    let number : start < 2 ^ 32 = (rw q at (typed t).body).0 in
    frames_announced s.setup h.setup _ (received_brought s.setup h.setup start w.payload from number (typed t).bytes s.carried.receiver.history h.receiver))
    ).events

-- so where each event held is one, each that is held after a call is one, too
pub held_announcements : (c : Call) → Typed c → (s : Seen) → Sound s → Each (Announcement s.setup) s.events
    → Each (Announcement (step c s).after.setup) (step c s).after.events
held_announcements c t s h k =
    let all : Each (Announcement s.setup) (handed c s ++ (step c s).after.events)
    = rw (step-announces c s) (each_append (Announcement s.setup) s.events (step c s).events k (step_announcements c t s h)) in
    rw (step_setup c s) (each_behind (Announcement s.setup) (handed c s) (step c s).after.events all)
