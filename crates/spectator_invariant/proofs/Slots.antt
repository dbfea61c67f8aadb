-- The slots after one place is set, as an Input's frame for one player is stored: one frame a slot, and with a frame those after it.
use borrow.Author.Tests.{eqb-true, eqb-false}
use mathlib.Core.Bool.{Bool, true, false}
use mathlib.Core.List.{List, [], ◌∷◌}
use mathlib.Core.Logic.{◌⊎◌, inl, inr}
use mathlib.Core.Path.{◌≡◌, refl, sym, ap, ◌∙◌}
use Prim.Native.Nat.{ℕ, zero, suc, ◌+◌, ◌-◌, ◌*◌, ◌/◌, ◌%◌, ◌≤◌, ◌<◌}
use native.Mathlib.Omega.{arith}
use native.Mathlib.Nat.{add-zero, mod-lt, add-mod_right, div-add-mod', mul-le-mul, suc-mul}
use lib.Dec.{eqb}
use lib.ListN.{length, set, get_or}
use lib.Seq.{get_or-set_same, get_or-set_other}
use Rattle.base.specs.Pick.{pick}
use Rattle.base.proofs.Digits.{below_or_not}
use Rattle.frame.specs.Bias.{bias32}
use Rattle.endpoint_invariant.specs.Each.{Each}
use Rattle.spectator_rules.specs.declared.PlayerInput.{PlayerInput}
use Rattle.spectator_rules.specs.Inputs.{blank_input, slot_of}
use Rattle.spectator_invariant.specs.Seated.{Next, frame_at, Stock}

-- ---- one place of a list set

pub each_set : {X : Type 0} (P : X → Type 0) (l : List X) (i : ℕ) (x : X) → Each P l → P x → Each P (set l i x)
unfolding Each
each_set P [] i x h p = tt
each_set P (y ∷ l) zero x h p = (p, h.1)
each_set P (y ∷ l) (suc i) x h p = (h.0, each_set P l i x h.1 p)

pub each_get : {X : Type 0} (P : X → Type 0) (l : List X) (i : ℕ) (d : X) → Each P l → P d → P (get_or l i d)
unfolding Each
each_get P [] i d h p = p
each_get P (y ∷ l) zero d h p = h.0
each_get P (y ∷ l) (suc i) d h p = each_get P l i d h.1 p

-- ---- frames of one slot

-- two of them are as many apart as there are slots, at least
mod_apart : (m a b : ℕ) → a % m ≡ b % m → a < b → a + m ≤ b
mod_apart m a b e h = go (below_or_not (a / m) (b / m))
  where
    x : a / m * m + a % m ≡ a
    x = div-add-mod' a m

    y : b / m * m + b % m ≡ b
    y = div-add-mod' b m

    go : (a / m < b / m) ⊎ (b / m ≤ a / m) → a + m ≤ b
    go (inl k) =
        let z : suc (a / m) * m ≤ b / m * m = mul-le-mul k (omega arith) in
        omega (arith, suc-mul (a / m) m, x, y)
    go (inr k) =
        let z : b / m * m ≤ a / m * m = mul-le-mul k (omega arith) in
        absurd (omega (arith, x, y))

slot_apart : (slots f g : ℕ) → bias32 ≤ f → slot_of slots f ≡ slot_of slots g → f < g → f + slots ≤ g
slot_apart slots f g b e h = omega (arith, mod_apart slots (f - bias32) (g - bias32) e (omega arith))

slot_again : (slots f : ℕ) → bias32 ≤ f → slot_of slots (f + slots) ≡ slot_of slots f
slot_again slots f b = let e : f + slots - bias32 ≡ f - bias32 + slots = omega arith in ap (λ (n : ℕ). n % slots) e ∙ add-mod_right (f - bias32) slots

-- every slot holds one frame for all players, but that of the newest while a player is due
abbrev pub Others : (slots players due newest : ℕ) → List PlayerInput → Type 0
Others slots players due newest l =
    (slot player : ℕ) → slot < slots → player < players → (due ≡ 0) ⊎ (slot ≡ slot_of slots newest → ⊥) → frame_at slot player l ≡ frame_at slot 0 l

-- ---- one input stored

module _ (slots players : ℕ) (l : List PlayerInput) (two : 2 ≤ slots) (four : players ≤ 4) (long : length l ≡ slots * 4)
    (frame player : ℕ) (one : player < players) (input : List ℕ) where
  abbrev at : ℕ
  at = slot_of slots frame

  abbrev stored : List PlayerInput
  stored = set l (at * 4 + player) (record { frame = frame; input = input })

  pub at_small : at < slots
  at_small = mod-lt (frame - bias32) (omega arith)

  stored_there : frame_at at player stored ≡ frame
  stored_there = ap (λ (x : PlayerInput). x.frame) (get_or-set_same l (at * 4 + player) (record { frame = frame; input = input }) blank_input (omega (arith, at_small)))

  -- another place
  stored_else : (slot p : ℕ) → p < 4 → ((slot ≡ at) × (p ≡ player) → ⊥) → frame_at slot p stored ≡ frame_at slot p l
  stored_else slot p b n =
      ap (λ (x : PlayerInput). x.frame)
      (get_or-set_other l (at * 4 + player) (slot * 4 + p) (record { frame = frame; input = input }) blank_input (λ e. n (omega arith, omega arith)))

  module _ (last due : ℕ) (next : Next last due frame) (is : player ≡ due) (others : Others slots players due last l)
      (there : (p : ℕ) → p < due → frame_at (slot_of slots last) p l ≡ last) where
    -- the slots of other frames are as they were
    stored_others : (slot p : ℕ) → slot < slots → p < players → (slot ≡ at → ⊥) → frame_at slot p stored ≡ frame_at slot 0 stored
    stored_others slot p s b n =
        stored_else slot p (omega arith) (λ k. n k.0)
        ∙ others slot p s b (go due next)
        ∙ sym (stored_else slot 0 (omega arith) (λ k. n k.0))
      where
        go : (d : ℕ) → Next last d frame → (d ≡ 0) ⊎ (slot ≡ slot_of slots last → ⊥)
        go zero k = inl refl
        go (suc d) k = inr (λ q. n (rw k q))

    -- the frame's own slot has it for one player more
    stored_own : (p : ℕ) → p < suc player → frame_at at p stored ≡ frame
    stored_own p b = go due next is there (below_or_not p player)
      where
        go : (d : ℕ) → Next last d frame → player ≡ d → ((q : ℕ) → q < d → frame_at (slot_of slots last) q l ≡ last) → (p < player) ⊎ (player ≤ p) → frame_at at p stored ≡ frame
        go d k e t (inr m) = let q : p ≡ player = omega arith in rw q stored_there
        go zero k e t (inl m) = absurd (omega arith)
        go (suc d) k e t (inl m) = stored_else at p (omega arith) (λ q. omega (arith, q.1)) ∙ rw k (t p (omega arith))

    pub stored_due : (p : ℕ) → p < pick (eqb (suc player) players) 0 (suc player) → frame_at at p stored ≡ frame
    stored_due p b = go (eqb (suc player) players) b
      where
        go : (t : Bool) → p < pick t 0 (suc player) → frame_at at p stored ≡ frame
        go true b = absurd (omega arith)
        go false b = stored_own p b

    pub stored_whole : Others slots players (pick (eqb (suc player) players) 0 (suc player)) frame stored
    stored_whole slot p s b c = go (eqb (suc player) players) refl c (eqb slot at) refl
      where
        go : (t : Bool) → eqb (suc player) players ≡ t → (pick t 0 (suc player) ≡ 0) ⊎ (slot ≡ at → ⊥) → (u : Bool) → eqb slot at ≡ u → frame_at slot p stored ≡ frame_at slot 0 stored
        go t e c false q = stored_others slot p s b (eqb-false slot at q)
        go t e (inr n) true q = stored_others slot p s b n
        go true e (inl z) true q =
            let m = eqb-true (suc player) players e in
            rw (eqb-true slot at q) (stored_own p (omega arith) ∙ sym (stored_own 0 (omega arith)))
        go false e (inl z) true q = absurd (omega arith)

    -- with a frame, those after it
    module _ (most : (slot : ℕ) → frame_at slot 0 l ≤ last) (stock : Stock slots last l) where
      -- a first frame, or the next one
      module _ (new : Next last 0 frame) (f i : ℕ) (from : bias32 ≤ f) (held : frame_at (slot_of slots f) 0 stored ≡ f) (upto : f + i ≤ frame) where
        same_slot : slot_of slots f ≡ at → frame_at (slot_of slots (f + i)) 0 stored ≡ f + i
        same_slot e =
            let q : f ≡ frame = sym held ∙ rw e (stored_own 0 (omega arith)) in
            let z : i ≡ 0 = omega arith in
            rw (z, add-zero) held

        module _ (n : slot_of slots f ≡ at → ⊥) where
          before : frame_at (slot_of slots f) 0 l ≡ f
          before = sym (stored_else (slot_of slots f) 0 (omega arith) (λ k. n k.0)) ∙ held

          follows : frame ≡ suc last
          follows = elim new.1 [ inl k ↦ absurd (omega (arith, before, most (slot_of slots f))) | inr k ↦ k ]

          -- the frame a round after it would have its slot
          no_round : f + slots ≤ frame → ⊥
          no_round b = go (eqb (f + slots) frame) refl
            where
              go : (t : Bool) → eqb (f + slots) frame ≡ t → ⊥
              go true q = n (sym (slot_again slots f from) ∙ ap (slot_of slots) (eqb-true (f + slots) frame q))
              go false q =
                  let k : frame_at (slot_of slots (f + slots)) 0 l ≡ f + slots = stock f slots from before (omega (arith, follows, eqb-false (f + slots) frame q)) in
                  let m : frame_at (slot_of slots f) 0 l ≡ f + slots = rw (slot_again slots f from) at k in
                  omega (arith, before, m)

          other_slot : frame_at (slot_of slots (f + i)) 0 stored ≡ f + i
          other_slot = go (eqb (f + i) frame) refl
            where
              go : (t : Bool) → eqb (f + i) frame ≡ t → frame_at (slot_of slots (f + i)) 0 stored ≡ f + i
              go true q = rw (eqb-true (f + i) frame q) (stored_own 0 (omega arith))
              go false q =
                  let k = stock f i from before (omega (arith, follows, eqb-false (f + i) frame q)) in
                  stored_else (slot_of slots (f + i)) 0 (omega arith)
                  (λ e. no_round (omega (arith, slot_apart slots (f + i) frame (omega arith) e.0 (omega (arith, eqb-false (f + i) frame q)))))
                  ∙ k

        new_stock : frame_at (slot_of slots (f + i)) 0 stored ≡ f + i
        new_stock = go (eqb (slot_of slots f) at) refl
          where
            go : (t : Bool) → eqb (slot_of slots f) at ≡ t → frame_at (slot_of slots (f + i)) 0 stored ≡ f + i
            go true q = same_slot (eqb-true (slot_of slots f) at q)
            go false q = other_slot (eqb-false (slot_of slots f) at q)

      pub stored_stock : Stock slots frame stored
      stored_stock = go due next is
        where
          go : (d : ℕ) → Next last d frame → player ≡ d → Stock slots frame stored
          go zero k e = λ f i b h m. new_stock k f i b h m
          go (suc d) k e = λ f i b h m.
              let same : (slot : ℕ) → frame_at slot 0 stored ≡ frame_at slot 0 l = λ slot. stored_else slot 0 (omega arith) (λ q. omega (arith, q.1)) in
              same (slot_of slots (f + i)) ∙ stock f i b (sym (same (slot_of slots f)) ∙ h) (omega arith)
