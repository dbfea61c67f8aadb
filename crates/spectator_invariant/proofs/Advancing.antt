-- Advancing goes on to no frame above the newest, and only to frames of which every player's input is there.
use borrow.Author.Tests.{ltb-false, le-ltb, eqb-true, eqb-false, ne_eqb}
use mathlib.Core.Bool.{Bool, true, false}
use mathlib.Core.List.{List, [], ◌∷◌}
use mathlib.Core.Logic.{◌⊎◌, inl, inr}
use mathlib.Core.Path.{◌≡◌, refl, sym, ap, ◌∙◌}
use Prim.Native.Nat.{ℕ, zero, suc, ◌+◌, ◌-◌, ◌≤◌, ◌<◌, min}
use native.Mathlib.Omega.{arith}
use native.Mathlib.Nat.{add-zero, add-suc, suc-add, mod-lt}
use native.Mathlib.Numerals.{add-one}
use lib.Dec.{eqb, ltb}
use lib.ListN.{length, get_or}
use lib.Seq.{get_or-take, length-take-le}
use Rattle.base.specs.Pick.{pick}
use Rattle.base.specs.First.{first_of}
use Rattle.frame.specs.Bias.{bias32}
use Rattle.endpoint_invariant.proofs.Choices.{passes}
use Rattle.spectator_rules.specs.declared.SyncedInput.{SyncedInput}
use Rattle.spectator_rules.specs.Watch.{Watch, players_of}
use Rattle.spectator_rules.specs.Inputs.{slot_of, place_of, player_input_at}
use Rattle.spectator_rules.specs.Advance.{behind, held_at, frame_refusal, frames_to_advance, frames_by, frames_refusal, frames_refusal_by, synced_at, frame_inputs, frame_inputs_by, requests_from, requests_by, requests_of, advance_tests, advance_refusal}
use Rattle.spectator_invariant.specs.Seated.{SeatedOwn, Seated}
use Rattle.spectator_invariant.proofs.Handling.{held_most}

-- the number of what comes after a number that is 0
after_none : (n r : ℕ) → pick (eqb n 0) r n ≡ 0 → (n ≡ 0) × (r ≡ 0)
after_none n r e = go (eqb n 0) refl e
  where
    go : (t : Bool) → eqb n 0 ≡ t → pick t r n ≡ 0 → (n ≡ 0) × (r ≡ 0)
    go true q z = (eqb-true n 0 q, z)
    go false q z = absurd (eqb-false n 0 q z)

module _ (w : Watch) (h : SeatedOwn w) where
  one_most : frames_refusal 1 (suc w.current) w ≡ 0 → w.current + 1 ≤ w.newest
  unfolding frames_refusal_by player_input_at
  one_most z =
      let f = suc w.current in
      let r = (after_none (frame_refusal f w) 0 z).0 in
      let t = (passes (ltb (held_at f w) f) 15 _ r).0 in
      omega (arith, ltb-false (held_at f w) f t, held_most w h (place_of w.limits.slots f 0))

  pub advance_most : advance_refusal w ≡ 0 → w.current + frames_to_advance w ≤ w.newest
  unfolding advance_refusal frames_to_advance frames_by
  advance_most z = go (ltb w.limits.max_frames_behind (behind w)) (after_none (first_of (advance_tests w)) _ z).1
    where
      many : ℕ
      many = min (min w.limits.catchup_speed (behind w)) (min (w.limits.slots - 1) 63)

      go : (t : Bool) → frames_refusal (pick t many 1) (suc w.current) w ≡ 0 → w.current + pick t many 1 ≤ w.newest
      go true k = omega (arith, h.newest)
      go false k = one_most k

-- ---- of the frames that it goes on to, every player's input is there

-- a frame that is neither refused as not received nor as gone
frame_there : (frame : ℕ) (w : Watch) → frame_refusal frame w ≡ 0 → held_at frame w ≡ frame
frame_there frame w z =
    let t = passes (ltb (held_at frame w) frame) 15 _ z in
    let u = passes (ltb frame (held_at frame w)) 16 0 t.1 in
    omega (arith, ltb-false (held_at frame w) frame t.0, ltb-false frame (held_at frame w) u.0)

there_frame : (frame : ℕ) (w : Watch) → held_at frame w ≡ frame → frame_refusal frame w ≡ 0
there_frame frame w e = rw (le-ltb (held_at frame w) frame (omega arith), le-ltb frame (held_at frame w) (omega arith))

frames_there : (n frame : ℕ) (w : Watch) → frames_refusal n frame w ≡ 0 → (i : ℕ) → i < n → held_at (frame + i) w ≡ frame + i
unfolding frames_refusal_by
frames_there zero frame w z i b = absurd (omega arith)
frames_there (suc n) frame w z zero b = rw add-zero (frame_there frame w (after_none (frame_refusal frame w) _ z).0)
frames_there (suc n) frame w z (suc i) b = rw (add-suc, ← suc-add) (frames_there n (suc frame) w (after_none (frame_refusal frame w) _ z).1 i (omega arith))

pub advance_there : (w : Watch) → Seated w → advance_refusal w ≡ 0 → (i player : ℕ) → i < frames_to_advance w → player < w.host.setup.players
    → (player_input_at w.limits.slots (suc w.current + i) player w.inputs).frame ≡ suc w.current + i
unfolding advance_refusal player_input_at
advance_there w h z i player b c =
    let frame = suc w.current + i in
    let held = frames_there (frames_to_advance w) (suc w.current) w (after_none (first_of (advance_tests w)) _ z).1 i b in
    let small = mod-lt (frame - bias32) {m = w.limits.slots} (omega (arith, h.own.limits.slots.0)) in
    h.whole (slot_of w.limits.slots frame) player small c ∙ held

-- ---- what it hands back: of each of them, every player's input

from_length : (n frame : ℕ) (w : Watch) → length (requests_from n frame w) ≡ n
unfolding requests_by
from_length zero frame w = refl
from_length (suc n) frame w = ap suc (from_length n (suc frame) w)

from_at : (n frame : ℕ) (w : Watch) (i : ℕ) → i < n → get_or (requests_from n frame w) i [] ≡ frame_inputs (frame + i) w
unfolding requests_by
from_at zero frame w i b = absurd (omega arith)
from_at (suc n) frame w zero b = rw add-zero refl
from_at (suc n) frame w (suc i) b = rw (add-suc, ← suc-add) (from_at n (suc frame) w i (omega arith))

module _ (w : Watch) (h : Seated w) where
  few : w.host.setup.players ≤ 4
  few = h.host.setup.players.1

  request-length : (frame : ℕ) → length (frame_inputs frame w) ≡ w.host.setup.players
  unfolding frame_inputs_by synced_at
  request-length frame =
      length-take-le (players_of w) (synced_at frame 0 w ∷ synced_at frame 1 w ∷ synced_at frame 2 w ∷ synced_at frame 3 w ∷ []) (omega arith) ∙ omega (arith, few)

  request_gives : (frame player : ℕ) (x : SyncedInput) → player < w.host.setup.players → get_or (frame_inputs frame w) player x ≡ synced_at frame player w
  unfolding frame_inputs_by synced_at
  request_gives frame player x b =
      get_or-take (players_of w) (synced_at frame 0 w ∷ synced_at frame 1 w ∷ synced_at frame 2 w ∷ synced_at frame 3 w ∷ []) player x (omega (arith, few)) ∙ go player (omega (arith, few))
    where
      go : (p : ℕ) → p < 4 → get_or (synced_at frame 0 w ∷ synced_at frame 1 w ∷ synced_at frame 2 w ∷ synced_at frame 3 w ∷ []) p x ≡ synced_at frame p w
      go zero c = refl
      go (suc zero) c = refl
      go (suc (suc zero)) c = refl
      go (suc (suc (suc zero))) c = refl
      go (suc (suc (suc (suc p)))) c = absurd (omega arith)

  -- as many frames, and as many inputs in each
  pub advance_counts : (length (requests_of w) ≡ frames_to_advance w)
      × ((i : ℕ) → i < frames_to_advance w → length (get_or (requests_of w) i []) ≡ w.host.setup.players)
  unfolding requests_of
  advance_counts = (
    from_length (frames_to_advance w) (suc w.current) w,
    λ i b. ap length (from_at (frames_to_advance w) (suc w.current) w i b) ∙ request-length (suc w.current + i),
  )

  pub advance_gives : (i player : ℕ) (x : SyncedInput) → i < frames_to_advance w → player < w.host.setup.players
      → get_or (get_or (requests_of w) i []) player x ≡ synced_at (suc w.current + i) player w
  unfolding requests_of
  advance_gives i player x b c =
      ap (λ (l : List SyncedInput). get_or l player x) (from_at (frames_to_advance w) (suc w.current) w i b) ∙ request_gives (suc w.current + i) player x c

-- ---- and it is the first of them that decides

module _ (w : Watch) (h : SeatedOwn w) where
  abbrev first : ℕ
  first = suc w.current

  -- with the first, all after it are there
  rest_there : frame_refusal first w ≡ 0 → (n k : ℕ) → w.current + k + n ≤ w.newest → frames_refusal n (first + k) w ≡ 0
  unfolding frames_refusal_by player_input_at
  rest_there z zero k b = refl
  rest_there z (suc n) k b =
      let held : held_at (first + k) w ≡ first + k = h.stock first k (omega (arith, h.current)) (frame_there first w z) (omega arith) in
      let there : frame_refusal (first + k) w ≡ 0 = there_frame (first + k) w held in
      let next : frames_refusal n (first + suc k) w ≡ 0 = rest_there z n (suc k) (omega arith) in
      rw there (rw add-suc at next)

  first_decides : (n : ℕ) → (n ≤ 1) ⊎ (w.current + n ≤ w.newest) → frames_refusal n first w ≡ pick (eqb n 0) 0 (frame_refusal first w)
  unfolding frames_refusal_by
  first_decides zero b = refl
  first_decides (suc n) b = rw (ne_eqb (suc n) 0 (λ e. omega arith)) (go (eqb (frame_refusal first w) 0) refl b)
    where
      go : (t : Bool) → eqb (frame_refusal first w) 0 ≡ t → (suc n ≤ 1) ⊎ (w.current + suc n ≤ w.newest)
          → pick t (frames_refusal n (suc first) w) (frame_refusal first w) ≡ frame_refusal first w
      go true q (inl k) = let e : n ≡ 0 = omega arith in rw e (sym (eqb-true (frame_refusal first w) 0 q))
      go true q (inr k) =
          let z = eqb-true (frame_refusal first w) 0 q in
          (rw add-one at (rest_there z n 1 (omega arith))) ∙ sym z
      go false q c = refl

  -- so an advance never gives up on the way: 16 or 17 is its first frame's
  pub advance_first : frames_refusal (frames_to_advance w) first w ≡ pick (eqb (frames_to_advance w) 0) 0 (frame_refusal first w)
  unfolding frames_to_advance frames_by
  advance_first = go (ltb w.limits.max_frames_behind (behind w))
    where
      many : ℕ
      many = min (min w.limits.catchup_speed (behind w)) (min (w.limits.slots - 1) 63)

      go : (t : Bool) → frames_refusal (pick t many 1) first w ≡ pick (eqb (pick t many 1) 0) 0 (frame_refusal first w)
      go true = first_decides many (inr (omega (arith, h.newest)))
      go false = first_decides 1 (inl (omega arith))
