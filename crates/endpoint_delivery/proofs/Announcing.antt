-- The frames that events announce are those that went into them: read off them event by event, they come out as they went in.
use mathlib.Core.List.{List, [], ◌∷◌, ◌++◌, map}
use mathlib.Core.Path.{◌≡◌, refl, ap, ◌∙◌}
use Prim.Native.Nat.{ℕ, suc, ◌-◌, ◌*◌, ◌≤◌, ◌<◌}
use native.Mathlib.Omega.{arith}
use native.Mathlib.Nat.{suc-mul}
use lib.ListN.{length, take, drop, replicate, length-drop, take-append-drop}
use lib.Seq.{take_all, take_at, length-take-le, take-append-le, drop-append-le}
use borrow.Author.Tests.{ne_eqb, eq-eqb}
use Rattle.base.specs.Keyed.{kept}
use Rattle.packing.specs.Packing.{Wide}
use Rattle.packing.specs.Pad.{padded}
use Rattle.packing.proofs.Pads.{padded-length}
use Rattle.history.specs.History.{numbered}
use Rattle.events.specs.declared.Entry.{Entry}
use Rattle.events.specs.declared.Event.{Event}
use Rattle.events.specs.Events.{announced, input_entry, input_of, announced_each}
use Rattle.endpoint_invariant.specs.Each.{Each}
use Rattle.endpoint_delivery.specs.Frames.{Given, Announced, joined, read, announced_in, shares, all_bytes, announced_to}
use Rattle.endpoint_delivery.proofs.Tape.{framed}
use Rattle.endpoint_delivery.proofs.Moves.{inputs_in}

-- other events announce no frame
pub of_inputs : (size : ℕ) (l : List Entry) → announced_in size l ≡ announced_in size (inputs_in l)
unfolding announced_in kept
of_inputs size [] = refl
of_inputs size (e ∷ l) = go e.event e.input (of_inputs size l)
  where
    go : (v : Event) (input : List ℕ) → announced_in size l ≡ announced_in size (inputs_in l)
        → read size v input (announced_in size l) ≡ announced_in size (inputs_in (record { event = v; input = input } ∷ l))
    go (Event.Synchronizing total count) input h = h
    go Event.Synchronized input h = h
    go (Event.Input frame player) input h = rw h
    go Event.Disconnected input h = h
    go (Event.NetworkInterrupted timeout) input h = h
    go Event.NetworkResumed input h = h

-- the next frame is another one
unfoldable Other : ℕ → List Announced → Type 0
Other f [] = Unit {0}
Other f (x ∷ l) = f ≡ x.number → ⊥

joined_other : (f : ℕ) (x : Given) (l : List Announced) → Other f l → joined f x l ≡ record { number = f; inputs = x ∷ [] } ∷ l
unfolding joined Other
joined_other f x [] h = refl
joined_other f x (y ∷ l) h = rw (ne_eqb _ _ h)

joined_same : (f : ℕ) (x : Given) (xs : List Given) (l : List Announced) → joined f x (record { number = f; inputs = xs } ∷ l) ≡ record { number = f; inputs = x ∷ xs } ∷ l
unfolding joined
joined_same f x xs l = rw (eq-eqb f f refl)

-- ---- the shares of a frame's bytes

-- bytes after them are nobody's
shares-append : (size : ℕ) (ps b more : List ℕ) → length ps * size ≤ length b → shares size ps (b ++ more) ≡ shares size ps b
unfolding shares
shares-append size [] b more h = refl
shares-append size (p ∷ ps) b more h =
    let m = suc-mul (length ps) size in
    rw (take-append-le size b more (omega arith), drop-append-le size b more (omega arith), shares-append size ps (drop size b) more (omega (arith, length-drop size b)))

pub shares-padded : (size : ℕ) (ps b : List ℕ) → length b ≤ 64 → length ps * size ≤ length b → shares size ps (padded b) ≡ shares size ps b
unfolding padded
shares-padded size ps b few h = rw (take_all 64 b few) (shares-append size ps b (replicate (64 - length b) 0) h)

-- of a frame as wide as its players' inputs together: end to end the shares are its bytes, and each has `size` of them
pub shares_whole : (size : ℕ) (ps b : List ℕ) → length b ≡ length ps * size → all_bytes (shares size ps b) ≡ b
unfolding shares all_bytes
shares_whole size [] [] h = refl
shares_whole size [] (x ∷ b) h = absurd (omega arith)
shares_whole size (p ∷ ps) b h = rw (shares_whole size ps (drop size b) (omega (arith, suc-mul (length ps) size, length-drop size b))) (take-append-drop size b)

pub shares_sized : (size : ℕ) (ps b : List ℕ) → length b ≡ length ps * size → Each (λ (x : Given). length x.bytes ≡ size) (shares size ps b)
unfolding shares Each
shares_sized size [] b h = tt
shares_sized size (p ∷ ps) b h =
    let m = suc-mul (length ps) size in
    (length-take-le size b (omega arith), shares_sized size ps (drop size b) (omega (arith, length-drop size b)))

module _ (size : ℕ) (few : size ≤ 16) where
  -- a player's input, as it stands in an event
  pub input_back : (b : List ℕ) → size ≤ length b → take size (input_of (take size b)) ≡ take size b
  unfolding input_of
  input_back b h =
      let l : length (take size b) ≡ size = length-take-le size b h in
      rw (take_all 16 (take size b) (omega arith)) (take_at (take size b) (replicate (16 - length (take size b)) 0) size l)

  -- one frame for its players, before other frames
  frame_back : (f : ℕ) (b : List ℕ) (h : ℕ) (hs : List ℕ) (rest : List Entry) → length (h ∷ hs) * size ≤ length b → Other f (announced_in size rest)
      → announced_in size (announced f size b (h ∷ hs) ++ rest) ≡ record { number = f; inputs = shares size (h ∷ hs) b } ∷ announced_in size rest
  unfolding announced_in announced input_entry shares
  frame_back f b h [] rest n o = rw (input_back b (omega arith)) (joined_other f _ _ o)
  frame_back f b h (g ∷ hs) rest n o =
      let m = suc-mul (length (g ∷ hs)) size in
      let k : length (g ∷ hs) * size ≤ length (drop size b) = omega (arith, length-drop size b) in
      ap (joined f (record { player = h; bytes = take size (input_of (take size b)) })) (frame_back f (drop size b) g hs rest k o)
      ∙ rw (input_back b (omega arith)) (joined_same f _ (shares size (g ∷ hs) (drop size b)) (announced_in size rest))

  -- frames one after the other, each of all the players' width
  module _ (h : ℕ) (hs : List ℕ) (w : ℕ) (wide : w ≡ length (h ∷ hs) * size) (narrow : w ≤ 64) where
    frames_other : (f g : ℕ) (bs : List (List ℕ)) → f < g → Other f (map (announced_to size (h ∷ hs)) (framed g bs))
    unfolding Other
    frames_other f g [] l = tt
    frames_other f g (b ∷ bs) l = λ e. omega arith

    pub frames_back : (f : ℕ) (bs : List (List ℕ)) → Wide w bs → announced_in size (announced_each size (h ∷ hs) (numbered f bs)) ≡ map (announced_to size (h ∷ hs)) (framed f bs)
    unfolding announced_each numbered Wide announced_in
    frames_back f [] a = refl
    frames_back f (b ∷ bs) a =
        let ih = frames_back (suc f) bs a.1 in
        let back = shares-padded size (h ∷ hs) b (omega (arith, a.0)) (omega (arith, a.0)) in
        frame_back f (padded b) h hs (announced_each size (h ∷ hs) (numbered (suc f) bs)) (omega (arith, padded-length b)) (rw ih (frames_other f (suc f) bs (omega arith)))
        ∙ rw (ih, back)

  -- for any players, of whom there is one at least
  pub frames_announced : (hs : List ℕ) → 1 ≤ length hs → length hs * size ≤ 64 → (f : ℕ) (bs : List (List ℕ)) → Wide (length hs * size) bs
      → announced_in size (announced_each size hs (numbered f bs)) ≡ map (announced_to size hs) (framed f bs)
  frames_announced [] some narrow f bs a = absurd (omega arith)
  frames_announced (h ∷ hs) some narrow f bs a = frames_back h hs (length (h ∷ hs) * size) refl narrow f bs a
