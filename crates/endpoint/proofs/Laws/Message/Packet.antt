-- A packet's frames above the newest: those left when the known ones are skipped, announced one after another.
use borrow.Author.Tests.{lt-ltb, le-leb, ltb-true, ltb-false}
use mathlib.Core.Bool.{Bool, true, false}
use mathlib.Core.List.{List, [], ◌∷◌, ◌++◌, append-nil}
use mathlib.Core.Path.{◌≡◌, refl, ◌∙◌}
use Prim.Native.Nat.{ℕ, zero, suc, ◌+◌, ◌-◌, ◌*◌, ◌^◌, ◌≤◌, min}
use native.Mathlib.Omega.{arith}
use native.Mathlib.Numerals.{add-one}
use native.Mathlib.Nat.{mul-le-mul_right, div-mul-le_self}
use lib.Dec.{ltb, eqb}
use lib.ListN.{length, take, drop, length-append}
use Rattle.base.specs.Pick.{pick}
use Rattle.base.specs.Keyed.{kept}
use Rattle.packing.specs.Packing.{xors, frame_count, frames_of}
use Rattle.packing.specs.Pad.{padded}
use Rattle.packing.proofs.Laws.{xors-length, frames_length, unpack-take, frames_drop}
use Rattle.std.proofs.Common.{Option, Some, None, is_some, unwrap_or}
use Rattle.packing.specs.declared.input_bytes.InputBytes.{InputBytes}
use Rattle.history.specs.History.{above, numbered, packet_of, blank_frame, found_in}
use Rattle.events.specs.declared.Entry.{Entry}
use Rattle.events.specs.declared.Events.{Events}
use Rattle.answer.specs.Number.{Answered}
use Rattle.base.proofs.Arrays.{view_le}
use Rattle.std.specs.Prelude.{Ok}
use Rattle.fixed_vec.specs.FixedVec.{held}
use Rattle.events.specs.Events.{held_events, has_room, both, ahead, announced_all, frames_from, packet_fits, PushedAs, announced_each}
use Rattle.endpoint.proofs.Laws.Announced.{left_alone}
use Rattle.events.proofs.Laws.{announced-padded, packet_fits_lem, packet_length}
use Rattle.setup.specs.Setup.{terms_of, receiving_width, handle_list}
use Rattle.setup.specs.declared.Setup.{Setup}
use Rattle.endpoint.specs.Inside.Packet.{NewsAs, news, skipped}
use Rattle.endpoint.specs.declared.message.packet.News.{News}

-- k: how many are not above the newest
above-numbered : (newest start : ℕ) (fs : List (List ℕ)) (k : ℕ) → k ≡ min (suc newest - start) (length fs)
    → above newest (numbered start fs) ≡ numbered (start + k) (drop k fs)
unfolding above kept numbered
above-numbered newest start [] k e = let z : k ≡ 0 = omega arith in rw z
above-numbered newest start (f ∷ fs) k e =
    elim (ltb newest start) as
    (λ b. ltb newest start ≡ b → pick b (record { frame = start; bytes = padded f } ∷ above newest (numbered (suc start) fs)) (above newest (numbered (suc start) fs)) ≡ numbered (start + k) (drop k (f ∷ fs))) [
      | true ↦ λ t.
          let z : k ≡ 0 = omega (arith, ltb-true newest start t) in
          let i : above newest (numbered (suc start) fs) ≡ numbered (suc start + 0) (drop 0 fs) = above-numbered newest (suc start) fs 0 (omega (arith, ltb-true newest start t)) in
          let n : start + 0 ≡ start = omega arith in
          let m : suc start + 0 ≡ suc start = omega arith in
          rw (z, i, n, m)
      | false ↦ λ t.
          let s : k ≡ suc (k - 1) = omega (arith, ltb-false newest start t) in
          let m : start + suc (k - 1) ≡ suc start + (k - 1) = omega arith in
          rw (s, m) (above-numbered newest (suc start) fs (k - 1) (omega (arith, ltb-false newest start t)))
    ]
    refl

-- frames are stored with zeros after them, which changes nothing that is announced
each_frames : (size : ℕ) (hs : List ℕ) (start w : ℕ) (r : List ℕ) (n : ℕ) (p : List ℕ) → length r ≤ 64
    → announced_each size hs (numbered start (frames_of w r n p)) ≡ announced_all start size hs (frames_of w r n p)
unfolding announced_all announced_each frames_from numbered frames_of
each_frames size hs start w r zero p h = refl
each_frames size hs start w r (suc n) p h =
    let x = announced-padded start size (xors (take w p) r) hs (omega (arith, xors-length (take w p) r)) in
    rw (x, add-one, each_frames size hs (suc start) w r n (drop w p) h)

-- the bytes of the first k frames are bytes of the payload, l: how many it has
pub skipped_within : (w n l : ℕ) → n ≡ frame_count w l → (k : ℕ) → k ≤ n → k * w ≤ l
skipped_within w n l e k h = omega (arith, mul-le-mul_right {m = k} {n = frame_count w l} w (omega arith), div-mul-le_self l w)

-- n: how many frames a packet has, each with a number
module _ (start w n : ℕ) (r p : List ℕ) (counts : n ≡ frame_count w (length p)) (within : start + n ≤ 2 ^ 32) where
  packet_is : packet_of start w r p ≡ numbered start (frames_of w r n p)
  unfolding packet_of
  packet_is =
      let m : min (2 ^ 32 - start) (frame_count w (length p)) ≡ n = omega arith in
      rw (unpack-take w r (2 ^ 32 - start) p, m)

  module _ (newest k : ℕ) (skips : k ≡ min (suc newest - start) n) where
    above_packet : above newest (packet_of start w r p) ≡ numbered (start + k) (frames_of w r (n - k) (drop (k * w) p))
    above_packet = rw (packet_is, above-numbered newest start (frames_of w r n p) k (rw (frames_length w r n p) skips), frames_drop w r k n p)

    -- m: how many are above, f: the first of them
    module _ (size : ℕ) (hs : List ℕ) (m f : ℕ) (em : m ≡ n - k) (ef : f ≡ pick (ltb 0 m) (start + k) start) (hr : length r ≡ 64) where
      abbrev More : List Entry
      More = announced_each size hs (above newest (packet_of start w r p))

      at_first : (j g : ℕ) → g ≡ pick (ltb 0 j) (start + k) start
          → announced_all (start + k) size hs (frames_of w r j (drop (k * w) p)) ≡ announced_all g size hs (frames_of w r j (drop (k * w) p))
      unfolding announced_all announced_each frames_from frames_of
      at_first zero g eg = refl
      at_first (suc j) g eg = rw (eg, lt-ltb 0 (suc j) (omega arith))

      news_are : More ≡ announced_all f size hs (frames_of w r m (drop (k * w) p))
      news_are = rw (above_packet, ← em, each_frames size hs (start + k) w r m (drop (k * w) p) (omega arith)) (at_first m f ef)

      within_first : f + m ≤ 2 ^ 32
      within_first =
          elim (ltb 0 m) as (λ b. ltb 0 m ≡ b → f + m ≤ 2 ^ 32)
          [ true ↦ λ t. let g : f ≡ start + k = rw t at ef in omega arith | false ↦ λ t. let g : f ≡ start = rw t at ef in omega (arith, ltb-false 0 m t) ]
          refl

      -- A: what is announced ahead of them
      news-pushed : (e : Events) (A : List Entry) (a : Answered) (t : Events)
          → PushedAs e (packet_fits (held_events e ++ A) f m hs) (A ++ announced_all f size hs (frames_of w r m (drop (k * w) p))) a t
          → PushedAs e (has_room (held_events e) (length (A ++ More))) (A ++ More) a t
      unfolding has_room
      news-pushed e A a t h =
          let all = announced_all f size hs (frames_of w r m (drop (k * w) p)) in
          let total : length (held_events e ++ A) + m * length hs ≡ length (held_events e) + length (A ++ all) =
          omega (arith, length-append (held_events e) A, length-append A all, packet_length f size w r hs (drop (k * w) p) m) in
          rw (news_are, ← total) (rw (packet_fits_lem (held_events e ++ A) f m hs within_first) at h)

-- what is pushed of a packet by its news is what it announces, with A announced ahead
pub announced-news : (g : Setup) (newest start : ℕ) (reference payload : List ℕ) (e : Events) (A : List Entry) (w : ℕ) → w ≡ receiving_width (terms_of g)
    → length reference ≡ 64 → start + frame_count w (length payload) ≤ 2 ^ 32 → (r : News) → NewsAs newest start w (length payload) r → (a : Answered) (t : Events)
    → PushedAs e (packet_fits (held_events e ++ A) r.first r.count (handle_list g.handles)) (A ++ announced_all r.first g.input_size (handle_list g.handles) (frames_of w reference r.count (drop r.at payload))) a t
    → PushedAs e (has_room (held_events e) (length (A ++ news g newest start reference payload))) (A ++ news g newest start reference payload) a t
announced-news g newest start reference payload e A w ew hr within r er a t h =
    rw (← ew)
    (news-pushed start w (frame_count w (length payload)) reference payload refl within newest (skipped newest start w (length payload)) refl g.input_size (handle_list g.handles) r.count r.first er.count er.first hr e A a t
    (rw er.at at h))

-- what is pushed of no frames is what is announced ahead
pub nothing_pushed : (e : Events) (A : List Entry) (size w : ℕ) (hs reference payload : List ℕ) (a : Answered) (t : Events)
    → PushedAs e (packet_fits (held_events e ++ A) 0 0 hs) (A ++ announced_all 0 size hs (frames_of w reference 0 (drop 0 payload))) a t
    → PushedAs e (has_room (held_events e) (length (A ++ []))) (A ++ []) a t
unfolding has_room announced_all announced_each frames_from frames_of
nothing_pushed e A size w hs reference payload a t h =
    let total : length (held_events e ++ A) + 0 * length hs ≡ length (held_events e) + length (A ++ []) = omega (arith, length-append (held_events e) A, length-append A []) in
    rw (← total) (rw (packet_fits_lem (held_events e ++ A) 0 0 hs (omega arith)) at h)

-- where there is no event and no frame to announce, the store left alone is the store with them
pub nothing_announced : (e : Events) → length e.entries.list ≡ 640 → (resumed disconnected : Bool) → resumed ≡ false → disconnected ≡ false
    → (first count size w : ℕ) → first ≤ 2 ^ 32 → count ≡ 0 → (hs reference payload : List ℕ)
    → PushedAs e (packet_fits (held_events e ++ ahead resumed disconnected) first count hs) (ahead resumed disconnected ++ announced_all first size hs (frames_of w reference count payload)) (Ok tt) e
unfolding has_room announced_all announced_each frames_from frames_of ahead both held_events held
nothing_announced e long r d er ed first count size w within ec hs reference payload =
    let few : length (held_events e) ≤ 640 = omega (arith, long, view_le e.entries.count e.entries.list) in
    let fits : packet_fits (held_events e ++ []) first 0 hs ≡ true
    = packet_fits_lem (held_events e ++ []) first 0 hs (omega arith) ∙ rw append-nil (le-leb _ _ (omega (arith, few))) in
    rw (er, ed, ec) (left_alone e _ [] fits refl)

-- the reference as `look` gives it, with the blank one where it is not held
pub found_again : (f : ℕ) (l : List InputBytes) (r : Option InputBytes) → r ≡ pick (found_in f l).held (Some (found_in f l).input) None
    → record { held = is_some r; input = unwrap_or r blank_frame } ≡ found_in f l
unfolding found_in
found_again f [] r h = rw h
found_again f (x ∷ xs) r h = go (eqb x.frame f) refl (found_again f xs r)
  where
    go : (b : Bool) → eqb x.frame f ≡ b → (r ≡ pick (found_in f xs).held (Some (found_in f xs).input) None → record { held = is_some r; input = unwrap_or r blank_frame } ≡ found_in f xs)
        → record { held = is_some r; input = unwrap_or r blank_frame } ≡ pick b (record { held = true; input = x }) (found_in f xs)
    go true e rest = let k : r ≡ Some x = rw e at h in rw k
    go false e rest = rest (rw e at h)
