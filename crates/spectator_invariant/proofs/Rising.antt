-- Events that rise: joined, sieved, and as an Input announces its frames.
use borrow.Author.Tests.{ltb-true, ltb-false, eq-eqb, ne_eqb}
use mathlib.Core.Bool.{Bool, true, false}
use mathlib.Core.List.{List, [], ◌∷◌, ◌++◌}
use mathlib.Core.Logic.{◌⊎◌, inl, inr}
use mathlib.Core.Path.{◌≡◌, refl, sym, ap, ◌∙◌}
use Prim.Native.Nat.{ℕ, zero, suc, ◌≤◌, ◌<◌, max}
use native.Mathlib.Omega.{arith}
use lib.Dec.{ltb, eqb}
use lib.ListN.{length, take, drop}
use Rattle.base.specs.Pick.{pick}
use Rattle.base.specs.Keyed.{kept}
use Rattle.base.proofs.Padded.{pad_length}
use Rattle.packing.specs.Pad.{padded}
use Rattle.packing.specs.declared.input_bytes.InputBytes.{InputBytes}
use Rattle.history.specs.History.{above, numbered, newest_after}
use Rattle.events.specs.declared.Entry.{Entry}
use Rattle.events.specs.declared.Event.{Event}
use Rattle.events.specs.Events.{input_of, input_entry, announced, announced_each}
use Rattle.endpoint_delivery.proofs.Lists.{Mem, cases_cons, not-nil}
use Rattle.endpoint_delivery.proofs.Moves.{is_input, inputs_in}
use Rattle.spectator_invariant.specs.Seated.{Next, Follows, last_after, due_after, Rising}

-- never below the last
pub next_least : (last due frame : ℕ) → Next last due frame → last ≤ frame
next_least last zero frame h = omega (arith, h.0)
next_least last (suc due) frame h = omega arith

-- the newest after a packet, past its first frame: one that is taken, and one that is not new
after-taken : (last start n : ℕ) → last < start → newest_after start (suc start) n ≡ newest_after last start (suc n)
unfolding newest_after
after-taken last start zero h = omega arith
after-taken last start (suc n) h = omega arith

after-passed : (last start n : ℕ) → start ≤ last → newest_after last (suc start) n ≡ newest_after last start (suc n)
unfolding newest_after
after-passed last start zero h = omega arith
after-passed last start (suc n) h = omega arith

module _ (players : ℕ) where
  -- no frame is above the top
  pub rising_most : (last due top : ℕ) (l : List Entry) → Rising players last due top l → last ≤ top
  unfolding Rising
  rising_most last due top [] h = omega (arith, h.1)
  rising_most last due top (x ∷ l) h = go x.event h.0 (rising_most (last_after x.event last) (due_after players x.event due) top l h.1)
    where
      go : (e : Event) → Follows players last due e x.input → last_after e last ≤ top → last ≤ top
      go (Event.Synchronizing total count) f k = k
      go Event.Synchronized f k = k
      go (Event.Input frame player) f k = omega (arith, next_least last due frame f.0)
      go Event.Disconnected f k = k
      go (Event.NetworkInterrupted timeout) f k = k
      go Event.NetworkResumed f k = k

  pub rising-append : (last due mid top : ℕ) (l m : List Entry) → Rising players last due mid l → Rising players mid 0 top m → Rising players last due top (l ++ m)
  unfolding Rising
  rising-append last due mid top [] m h k = rw (h.0, h.1) k
  rising-append last due mid top (x ∷ l) m h k = (h.0, rising-append (last_after x.event last) (due_after players x.event due) mid top l m h.1 k)

  -- events other than Inputs do not count
  pub rising_inputs : (last due top : ℕ) (l : List Entry) → Rising players last due top (inputs_in l) → Rising players last due top l
  unfolding Rising kept
  rising_inputs last due top [] h = h
  rising_inputs last due top (x ∷ l) h = go x.event (λ k. rising_inputs last due top l k) (λ f d k. rising_inputs f d top l k) h
    where
      go : (e : Event) → (Rising players last due top (inputs_in l) → Rising players last due top l)
          → ((f d : ℕ) → Rising players f d top (inputs_in l) → Rising players f d top l)
          → Rising players last due top (pick (is_input (record { event = e; input = x.input })) (record { event = e; input = x.input } ∷ inputs_in l) (inputs_in l))
          → Follows players last due e x.input × Rising players (last_after e last) (due_after players e due) top l
      go (Event.Synchronizing total count) r s k = (tt, r k)
      go Event.Synchronized r s k = (tt, r k)
      go (Event.Input frame player) r s k = (k.0, s frame (due_after players (Event.Input frame player) due) k.1)
      go Event.Disconnected r s k = (tt, r k)
      go (Event.NetworkInterrupted timeout) r s k = (tt, r k)
      go Event.NetworkResumed r s k = (tt, r k)

  -- ---- each frame once for each player

  abbrev input_of_player : (frame player : ℕ) → List ℕ → Entry
  input_of_player frame player input = record { event = Event.Input frame player; input = input }

  -- a frame and player that is still to come
  abbrev Ahead : (last due frame player : ℕ) → Type 0
  Ahead last due frame player = (last < frame) ⊎ ((frame ≡ last) × (0 < due) × (due ≤ player))

  -- one to come after an Input was to come before it
  ahead_back : (last due f p frame player : ℕ) → Next last due f → p ≡ due → Ahead f (pick (eqb (suc p) players) 0 (suc p)) frame player → Ahead last due frame player
  ahead_back last due f p frame player n e a = go due n e (eqb (suc p) players) a
    where
      go : (d : ℕ) → Next last d f → p ≡ d → (t : Bool) → Ahead f (pick t 0 (suc p)) frame player → Ahead last d frame player
      go d n e t (inl k) = inl (omega (arith, next_least last d f n))
      go d n e true (inr k) = absurd (omega (arith, k.1))
      go zero n e false (inr k) = inl (omega (arith, k.0, n.0))
      go (suc d) n e false (inr k) = inr (k.0 ∙ n, omega arith, omega (arith, k.2))

  rising-ahead : (last due top : ℕ) (l : List Entry) (frame player : ℕ) (input : List ℕ) → Rising players last due top l → Mem (input_of_player frame player input) l
      → Ahead last due frame player
  unfolding Rising
  rising-ahead last due top [] frame player input h m = absurd (not-nil m)
  rising-ahead last due top (x ∷ xs) frame player input h m =
      elim (cases_cons m) [
        | inl q ↦ first due (rw (sym q) at h.0)
        | inr r ↦ later x.event h.0 (rising-ahead (last_after x.event last) (due_after players x.event due) top xs frame player input h.1 r)
      ]
    where
      first : (d : ℕ) → Follows players last d (Event.Input frame player) input → Ahead last d frame player
      first zero f = inl f.0.0
      first (suc d) f = inr (f.0, omega arith, omega (arith, f.1))

      later : (e : Event) → Follows players last due e x.input → Ahead (last_after e last) (due_after players e due) frame player → Ahead last due frame player
      later (Event.Synchronizing total count) f k = k
      later Event.Synchronized f k = k
      later (Event.Input g p) f k = ahead_back last due g p frame player f.0 f.1 k
      later Event.Disconnected f k = k
      later (Event.NetworkInterrupted timeout) f k = k
      later Event.NetworkResumed f k = k

  -- not again after itself
  not_again : (frame player : ℕ) → Ahead frame (pick (eqb (suc player) players) 0 (suc player)) frame player → ⊥
  not_again frame player a = go (eqb (suc player) players) a
    where
      go : (t : Bool) → Ahead frame (pick t 0 (suc player)) frame player → ⊥
      go t (inl k) = omega arith
      go true (inr k) = omega (arith, k.1)
      go false (inr k) = omega (arith, k.2)

  pub rising_once : (last due top : ℕ) (l : List Entry) (frame player : ℕ) (input other : List ℕ) → Rising players last due top l
      → Mem (input_of_player frame player input) l → Mem (input_of_player frame player other) l → input ≡ other
  unfolding Rising
  rising_once last due top [] frame player input other h a b = absurd (not-nil a)
  rising_once last due top (x ∷ l) frame player input other h a b =
      go (cases_cons a) (cases_cons b) (λ m n. rising_once (last_after x.event last) (due_after players x.event due) top l frame player input other h.1 m n)
    where
      later : (i j : List ℕ) → input_of_player frame player i ≡ x → Mem (input_of_player frame player j) l → ⊥
      later i j q m =
          not_again frame player (rising-ahead frame (pick (eqb (suc player) players) 0 (suc player)) top l frame player j (rw (sym q) at h.1) m)

      go : (input_of_player frame player input ≡ x) ⊎ Mem (input_of_player frame player input) l → (input_of_player frame player other ≡ x) ⊎ Mem (input_of_player frame player other) l
          → (Mem (input_of_player frame player input) l → Mem (input_of_player frame player other) l → input ≡ other) → input ≡ other
      go (inl q) (inl r) f = ap (λ (e : Entry). e.input) (q ∙ sym r)
      go (inl q) (inr n) f = absurd (later input other q n)
      go (inr m) (inl r) f = absurd (later other input r m)
      go (inr m) (inr n) f = f m n

  -- ---- as an Input announces its frames

  -- numbers one after the other, from one on to the last player
  unfoldable pub Upto : (first : ℕ) → List ℕ → Type 0
  Upto first [] = first ≡ players
  Upto first (h ∷ hs) = (h ≡ first) × Upto (suc first) hs

  upto_most : (first : ℕ) (hs : List ℕ) → Upto first hs → first ≤ players
  unfolding Upto
  upto_most first [] h = omega arith
  upto_most first (x ∷ hs) h = omega (arith, upto_most (suc first) hs h.1)

  input_size_lem : (b : List ℕ) → length (input_of b) ≡ 16
  unfolding input_of
  input_size_lem b = pad_length 0 16 b

  -- one frame, for the players after one
  others_rise : (frame size player : ℕ) (b hs : List ℕ) → Upto (suc player) hs
      → Rising players frame (pick (eqb (suc player) players) 0 (suc player)) frame (announced frame size b hs)
  unfolding Rising announced input_entry Upto
  others_rise frame size player b [] u = rw (eq-eqb (suc player) players u) (refl, refl)
  others_rise frame size player b (h ∷ hs) u =
      let m = upto_most (suc (suc player)) hs u.1 in
      rw (ne_eqb (suc player) players (λ e. omega arith), u.0) ((refl, refl, omega arith, input_size_lem (take size b)), others_rise frame size (suc player) (drop size b) hs u.1)

  -- and for all
  announced_rises : (last frame size : ℕ) (b hs : List ℕ) → Next last 0 frame → 1 ≤ players → Upto 0 hs → Rising players last 0 frame (announced frame size b hs)
  unfolding Rising announced input_entry Upto
  announced_rises last frame size b [] m n u = absurd (omega arith)
  announced_rises last frame size b (h ∷ hs) m n u = rw u.0 ((m, refl, n, input_size_lem (take size b)), others_rise frame size 0 (drop size b) hs u.1)

  -- those above the newest, one after the other up to the newest after them
  pub news_rise : (newest last top size : ℕ) (hs : List ℕ) → 1 ≤ players → Upto 0 hs → (start : ℕ) (fs : List (List ℕ)) → newest ≤ last → Next last 0 (max (suc newest) start)
      → newest_after last start (length fs) ≡ top → Rising players last 0 top (announced_each size hs (above newest (numbered start fs)))
  unfolding Rising announced_each above numbered kept newest_after
  news_rise newest last top size hs e u start [] m n t = (refl, t)
  news_rise newest last top size hs e u start (b ∷ fs) m n t =
      go (ltb newest start) refl (λ x p q r. news_rise newest x top size hs e u (suc start) fs p q r)
    where
      rest : List InputBytes
      rest = above newest (numbered (suc start) fs)

      go : (a : Bool) → ltb newest start ≡ a
          → ((x : ℕ) → newest ≤ x → Next x 0 (max (suc newest) (suc start)) → newest_after x (suc start) (length fs) ≡ top → Rising players x 0 top (announced_each size hs rest))
          → Rising players last 0 top (announced_each size hs (pick a (record { frame = start; bytes = padded b } ∷ rest) rest))
      go true q r =
          let k = ltb-true newest start q in
          let at : max (suc newest) start ≡ start = omega arith in
          let z : Next last 0 start = rw at at n in
          rising-append last 0 start top (announced start size (padded b) hs) (announced_each size hs rest) (announced_rises last start size (padded b) hs z e u)
          (r start (omega arith) (omega arith, inr (omega arith)) (after-taken last start (length fs) z.0 ∙ t))
      go false q r =
          let k = ltb-false newest start q in
          let at : max (suc newest) (suc start) ≡ max (suc newest) start = omega arith in
          r last m (rw at n) (after-passed last start (length fs) (omega arith) ∙ t)
