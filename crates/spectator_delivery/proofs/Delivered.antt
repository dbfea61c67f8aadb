-- Frames one after the other, with inputs that came in the events which announce them, are the frames that went into those events.
use mathlib.Core.List.{List, [], ◌∷◌, map}
use mathlib.Core.Logic.{inl, inr}
use mathlib.Core.Path.{◌≡◌, refl, ap}
use Prim.Native.Nat.{ℕ, suc, ◌+◌, ◌*◌, ◌≤◌, ◌<◌}
use native.Mathlib.Omega.{arith}
use native.Mathlib.Nat.{suc-mul}
use lib.ListN.{length, take, drop, length-drop}
use Rattle.packing.specs.Packing.{Wide}
use Rattle.packing.specs.Pad.{padded}
use Rattle.packing.proofs.Pads.{padded-length}
use Rattle.history.specs.History.{numbered}
use Rattle.events.specs.declared.Entry.{Entry}
use Rattle.events.specs.declared.Event.{Event}
use Rattle.events.specs.Events.{input_of, input_entry, announced, announced_each}
use Rattle.endpoint_invariant.specs.Each.{Each}
use Rattle.endpoint_delivery.specs.Frames.{shares, announced_to}
use Rattle.endpoint_delivery.proofs.Lists.{Mem, cases_cons, not-nil, append_cases}
use Rattle.endpoint_delivery.proofs.Tape.{framed}
use Rattle.endpoint_delivery.proofs.Announcing.{shares-padded, input_back}
use Rattle.spectator_rules.specs.declared.SyncedInput.{SyncedInput}
use Rattle.spectator_invariant.specs.Handled.{input_event}
use Rattle.spectator_invariant.proofs.Rising.{Upto}
use Rattle.spectator_delivery.specs.Viewing.{Shown}
use Rattle.spectator_delivery.specs.Viewed.{InTurn, ByPlayer, FromEvents, given_from, read_off}
use Rattle.spectator_delivery.proofs.Shown.{by_also}

-- ---- events of one frame

-- one player's input of a frame
abbrev input_for : (frame player : ℕ) → List ℕ → Entry
input_for frame player input = input_event player (record { frame = frame; input = input })

-- two that are equal are of one frame and one player, with one input
module _ (f g p q : ℕ) (a b : List ℕ) (e : input_for f p a ≡ input_for g q b) where
  events_equal : Event.Input f p ≡ Event.Input g q
  events_equal = ap (λ (x : Entry). x.event) e

  same_frame : f ≡ g
  same_frame = let v = events_equal in cc

  same_player : p ≡ q
  same_player = let v = events_equal in cc

  same_input : a ≡ b
  same_input = ap (λ (x : Entry). x.input) e

module _ (size f : ℕ) where
  of-frame : (b hs : List ℕ) (g player : ℕ) (input : List ℕ) → Mem (input_for g player input) (announced f size b hs) → g ≡ f
  unfolding announced input_entry
  of-frame b [] g player input m = absurd (not-nil m)
  of-frame b (h ∷ hs) g player input m =
      elim (cases_cons m) [ inl e ↦ same_frame g f player h input (input_of (take size b)) e | inr k ↦ of-frame (drop size b) hs g player input k ]

  -- a player after the first
  past_first : (b : List ℕ) (h : ℕ) (hs : List ℕ) (g player : ℕ) (input : List ℕ) → h < player → Mem (input_for g player input) (announced f size b (h ∷ hs))
      → Mem (input_for g player input) (announced f size (drop size b) hs)
  unfolding announced input_entry
  past_first b h hs g player input l m =
      elim (cases_cons m) [ inl e ↦ absurd (omega (arith, same_player g f player h input (input_of (take size b)) e)) | inr k ↦ k ]

  module _ (players : ℕ) where
    -- for the players from one on
    of_players : (first : ℕ) (b hs : List ℕ) → Upto players first hs → (g player : ℕ) (input : List ℕ) → Mem (input_for g player input) (announced f size b hs) → first ≤ player
    unfolding announced input_entry Upto
    of_players first b [] u g player input m = absurd (not-nil m)
    of_players first b (h ∷ hs) u g player input m =
        elim (cases_cons m) [
          | inl e ↦ omega (arith, u.0, same_player g f player h input (input_of (take size b)) e)
          | inr k ↦ omega (arith, of_players (suc first) (drop size b) hs u.1 g player input k)
        ]

module _ (players size : ℕ) (few : size ≤ 16) where
  -- a frame's inputs are its players' shares
  shares_are : (frame first : ℕ) (b hs : List ℕ) (ys : List SyncedInput) → Upto players first hs → length ys ≡ length hs → length hs * size ≤ length b
      → ByPlayer (λ player y. Mem (input_for frame player y.input) (announced frame size b hs)) first ys
      → given_from size first ys ≡ shares size hs b
  unfolding given_from shares announced input_entry ByPlayer Upto
  shares_are frame first b [] [] u n wide h = refl
  shares_are frame first b [] (y ∷ ys) u n wide h = absurd (omega arith)
  shares_are frame first b (p ∷ hs) [] u n wide h = absurd (omega arith)
  shares_are frame first b (p ∷ hs) (y ∷ ys) u n wide h =
      let m = suc-mul (length hs) size in
      let head : y.input ≡ input_of (take size b) =
      elim (cases_cons h.0) [
        | inl e ↦ same_input frame frame first p y.input (input_of (take size b)) e
        | inr k ↦ absurd (omega (arith, of_players size frame players (suc first) (drop size b) hs u.1 frame first y.input k))
      ] in
      let rest =
      by_also _ (λ player z. Mem (input_for frame player z.input) (announced frame size (drop size b) hs)) (suc first) ys
      (λ player z l k. past_first size frame b p hs frame player z.input (omega (arith, u.0)) k) h.1 in
      let ih = shares_are frame (suc first) (drop size b) hs ys u.1 (omega arith) (omega (arith, length-drop size b)) rest in
      rw (u.0, head, input_back size few b (omega arith), ih)

  -- ---- events of frames one after the other

  upto_length : (first : ℕ) (hs : List ℕ) → Upto players first hs → first + length hs ≡ players
  unfolding Upto
  upto_length first [] h = omega arith
  upto_length first (x ∷ hs) h = omega (arith, upto_length (suc first) hs h.1)

  module _ (hs : List ℕ) where
    abbrev events_from : (f : ℕ) → List (List ℕ) → List Entry
    events_from f l = announced_each size hs (numbered f l)

    -- no frame is below the first
    each_from : (f : ℕ) (l : List (List ℕ)) (g player : ℕ) (input : List ℕ) → Mem (input_for g player input) (events_from f l) → f ≤ g
    unfolding announced_each numbered
    each_from f [] g player input m = absurd (not-nil m)
    each_from f (b ∷ l) g player input m =
        elim (append_cases (announced f size (padded b) hs) m) [
          | inl k ↦ omega (arith, of-frame size f (padded b) hs g player input k)
          | inr k ↦ omega (arith, each_from (suc f) l g player input k)
        ]

    -- of the first frame, and of one after it
    each_first : (f : ℕ) (b : List ℕ) (l : List (List ℕ)) (player : ℕ) (input : List ℕ) → Mem (input_for f player input) (events_from f (b ∷ l))
        → Mem (input_for f player input) (announced f size (padded b) hs)
    unfolding announced_each numbered
    each_first f b l player input m =
        elim (append_cases (announced f size (padded b) hs) m)
        [ inl k ↦ k | inr k ↦ absurd (omega (arith, each_from (suc f) l f player input k)) ]

    each_later : (f : ℕ) (b : List ℕ) (l : List (List ℕ)) (g player : ℕ) (input : List ℕ) → f < g → Mem (input_for g player input) (events_from f (b ∷ l))
        → Mem (input_for g player input) (events_from (suc f) l)
    unfolding announced_each numbered
    each_later f b l g player input n m =
        elim (append_cases (announced f size (padded b) hs) m)
        [ inl k ↦ absurd (omega (arith, of-frame size f (padded b) hs g player input k)) | inr k ↦ k ]

    -- so frames after the first came with the events of those after it
    all_later : (f : ℕ) (b : List ℕ) (l : List (List ℕ)) (first : ℕ) (shown : List Shown) → f < first → InTurn first shown → Each (FromEvents players (events_from f (b ∷ l))) shown
        → Each (FromEvents players (events_from (suc f) l)) shown
    unfolding InTurn Each
    all_later f b l first [] n t h = tt
    all_later f b l first (s ∷ shown) n t h = (
      record {
        count = h.0.count;
        inputs = by_also _ _ 0 s.inputs (λ player y _ m. each_later f b l s.number player y.input (omega (arith, t.0)) m) h.0.inputs;
      },
      all_later f b l (suc first) shown (omega arith) t.1 h.1,
    )

    -- of a frame shown there is an input, and so an event of that frame
    pub shown_from_lem : 1 ≤ players → (f : ℕ) (l : List (List ℕ)) (s : Shown) → FromEvents players (events_from f l) s → (f ≤ s.number) × (1 ≤ length l)
    unfolding ByPlayer announced_each numbered
    shown_from_lem some f l s h = go s.inputs h.count h.inputs
      where
        has : (l : List (List ℕ)) (player : ℕ) (input : List ℕ) → Mem (input_for s.number player input) (events_from f l) → 1 ≤ length l
        has [] player input m = absurd (not-nil m)
        has (b ∷ l) player input m = omega arith

        go : (ys : List SyncedInput) → length ys ≡ players → ByPlayer (λ player y. Mem (input_for s.number player y.input) (events_from f l)) 0 ys
            → (f ≤ s.number) × (1 ≤ length l)
        go [] n k = absurd (omega arith)
        go (y ∷ ys) n k = (each_from f l s.number 0 y.input k.0, has l 0 y.input k.0)

    -- ---- frames shown one after the other, from the first of the events on

    pub record Delivers (f : ℕ) (l : List (List ℕ)) (shown : List Shown) : Type 0 where
      pub most : length shown ≤ length l
      pub same : map (read_off size) shown ≡ map (announced_to size hs) (framed f (take (length shown) l))

    module _ (some : 1 ≤ players) (upto : Upto players 0 hs) (narrow : length hs * size ≤ 64) where
      pub delivers : (f : ℕ) (l : List (List ℕ)) (shown : List Shown) → Wide (length hs * size) l → InTurn f shown → Each (FromEvents players (events_from f l)) shown → Delivers f l shown
      unfolding InTurn Each Wide announced_each numbered
      delivers f l [] w t h = record { most = omega arith; same = refl }
      delivers f [] (s ∷ shown) w t h = absurd (omega (arith, (shown_from_lem some f [] s h.0).1))
      delivers f (b ∷ l) (s ∷ shown) w t h =
          let came = by_also _ (λ player y. Mem (input_for f player y.input) (announced f size (padded b) hs)) 0 s.inputs
          (λ player y _ m. each_first f b l player y.input (rw t.0 at m)) h.0.inputs in
          let one = shares_are f 0 (padded b) hs s.inputs upto (omega (arith, h.0.count, upto_length 0 hs upto)) (omega (arith, padded-length b)) came in
          let rest = delivers (suc f) l shown w.1 t.1 (all_later f b l (suc f) shown (omega arith) t.1 h.1) in
          record {
            most = omega (arith, rest.most);
            same = rw (t.0, one, shares-padded size hs b (omega (arith, w.0)) (omega (arith, w.0)), rest.same);
          }
