-- Laws of the received inputs' definitions, on lists alone: the loops that search, and the one that takes a packet in.
use borrow.Author.Tests.{eqb-true, lt-ltb}
use mathlib.Core.Path.{◌≡◌, refl, ◌∙◌}
use mathlib.Core.Bool.{Bool, true, false}
use mathlib.Core.List.{List, [], ◌∷◌, ◌++◌, append-nil}
use Prim.Native.Nat.{ℕ, suc, ◌+◌, ◌-◌, ◌≤◌, ◌<◌, max}
use native.Mathlib.Omega.{arith}
use lib.Dec.{eqb}
use lib.ListN.{length, take, drop}
use lib.Seq.{drop-drop, take_all, take_at, append_snoc}
use Rattle.base.specs.Pick.{pick}
use Rattle.base.specs.Keyed.{kept}
use Rattle.base.proofs.Arrays.{view_le}
use Rattle.fixed_vec.specs.FixedVec.{held, PushedAs}
use Rattle.fixed_vec.specs.declared.FixedVec.{FixedVec}
use Rattle.std.specs.Result.{is_err}
use Rattle.std.specs.Prelude.{cond, find, fold, Option, Some, None, Result, Ok, Err, ltb}
use Rattle.frame.specs.Bias.{null_frame}
use Rattle.packing.specs.Packing.{xors, frames_of}
use Rattle.packing.specs.Pad.{padded}
use Rattle.packing.specs.declared.input_bytes.InputBytes.{InputBytes}
use Rattle.history.specs.declared.History.{History}
use Rattle.history.specs.History.{received, blank_frame, highest, newest_of, Found, found_in, reference_by, reference_frame, looked_at, numbered, Ascending}

pub received-le : (h : History) → length (received h) ≤ length h.inputs.list
unfolding received held
received-le h = view_le h.inputs.count h.inputs.list

-- ---- the newest

pub newest_none : (l : List InputBytes) → length l ≡ 0 → newest_of l ≡ 2147483647
unfolding newest_of
newest_none [] h = refl
newest_none (x ∷ l) h = absurd (omega arith)

pub newest_is : (l : List InputBytes) → 0 < length l → newest_of l ≡ highest l
unfolding newest_of
newest_is [] h = absurd (omega arith)
newest_is (x ∷ l) h = refl

highest_from : (n : ℕ) (l : List InputBytes) → fold (λ most x. max x.frame most) n l ≡ max n (highest l)
unfolding highest
highest_from n [] = omega arith
highest_from n (x ∷ l) = highest_from (max x.frame n) l ∙ omega arith

pub newest_fold : (l : List InputBytes) → 0 < length l → newest_of l ≡ fold (λ most x. max x.frame most) 0 l
newest_fold l h = omega (arith, newest_is l h, highest_from 0 l)

-- ---- a frame's input

-- what is found, if it is held
found_by : (f : ℕ) (l : List InputBytes) → pick (found_in f l).held (Some (found_in f l).input) None ≡ find (λ x. eqb x.frame f) l
unfolding found_in
found_by f [] = refl
found_by f (x ∷ l) =
    elim (eqb x.frame f) as
    (λ b. pick (pick {A = Found} b (record { held = true; input = x }) (found_in f l)).held (Some (pick {A = Found} b (record { held = true; input = x }) (found_in f l)).input) None ≡ cond b (Some x) (find (λ y. eqb y.frame f) l))
    [ true ↦ refl | false ↦ found_by f l ]

pub looked_is : (start newest frame : ℕ) (l : List InputBytes) (r : Option InputBytes) → newest ≡ newest_of l → frame ≡ reference_by newest start → r ≡ find (λ x. eqb x.frame frame) l
    → record { newest = newest; reference = r } ≡ looked_at start l
unfolding looked_at reference_frame
looked_is start newest frame l r n f e = rw (e, f, n, found_by)

-- what is found has the frame
pub found_frame : (f : ℕ) (l : List InputBytes) → (found_in f l).held ≡ true → (found_in f l).input.frame ≡ f
unfolding found_in
found_frame f [] h = absurd (let n : ◌≡◌ {A = ℕ} 0 1 = cc in omega arith)
found_frame f (x ∷ l) h =
    elim (eqb x.frame f) as
    (λ b. eqb x.frame f ≡ b → (pick {A = Found} b (record { held = true; input = x }) (found_in f l)).held ≡ true → (pick {A = Found} b (record { held = true; input = x }) (found_in f l)).input.frame ≡ f)
    [ true ↦ λ e k. eqb-true x.frame f e | false ↦ λ e k. found_frame f l k ] refl h

-- ---- before anything is received

pub start_newest : newest_of (blank_frame ∷ []) ≡ null_frame
unfolding newest_of highest blank_frame
start_newest = refl

pub start_found : found_in null_frame (blank_frame ∷ []) ≡ record { held = true; input = blank_frame }
unfolding found_in blank_frame
start_found = refl

pub start_ascending : Ascending 0 (blank_frame ∷ [])
unfolding Ascending blank_frame
start_ascending = (omega arith, tt)

-- ---- a packet's frames

module _ (start width : ℕ) (r payload : List ℕ) (count : ℕ) where
  -- those from the k-th on, whose bytes start at a place
  abbrev pub coming : ℕ → ℕ → List InputBytes
  coming k place = numbered (start + k) (frames_of width r (count - k) (drop place payload))

  abbrev pub next : ℕ → ℕ → InputBytes
  next k place = record { frame = start + k; bytes = padded (xors (take width (drop place payload)) r) }

  pub coming_turn : (k place : ℕ) → k < count → coming k place ≡ next k place ∷ coming (k + 1) (place + width)
  unfolding numbered frames_of
  coming_turn k place h =
      let n : count - k ≡ suc (count - (k + 1)) = omega arith in
      let s : start + (k + 1) ≡ suc (start + k) = omega arith in
      rw (n, s, ← drop-drop width place payload)

  pub coming_none : (k place : ℕ) → count ≤ k → coming k place ≡ []
  unfolding numbered frames_of
  coming_none k place h = let n : count - k ≡ 0 = omega arith in rw n

  module _ (p : InputBytes → Bool) where
    -- the loop that appends those that pass a test, as many as fit: its two turns, and its two ends
    module _ (out T : List InputBytes) (k place : ℕ) (h : k < count) (inv : take 33 (out ++ kept p (coming k place)) ≡ T) where
      pub fill_turn : p (next k place) ≡ true → take 33 ((out ++ next k place ∷ []) ++ kept p (coming (k + 1) (place + width))) ≡ T
      unfolding kept
      fill_turn e = rw append_snoc (rw (coming_turn k place h, e) at inv)

      pub pass_turn : p (next k place) ≡ false → take 33 (out ++ kept p (coming (k + 1) (place + width))) ≡ T
      unfolding kept
      pass_turn e = rw (coming_turn k place h, e) at inv

    pub fill_end : (out : List InputBytes) (k place : ℕ) → count ≤ k → length out ≤ 33 → take 33 (out ++ kept p (coming k place)) ≡ out
    unfolding kept
    fill_end out k place h b = rw (coming_none k place h, append-nil) (take_all 33 out b)

    pub fill_full : (out : List InputBytes) (k place : ℕ) → length out ≡ 33 → take 33 (out ++ kept p (coming k place)) ≡ out
    fill_full out k place b = take_at out (kept p (coming k place)) 33 b

-- ---- a push of the store

-- where there is room, it stands behind the others
pub push_room : (v new : FixedVec InputBytes 33) (x : InputBytes) (r : Result Unit InputBytes) → PushedAs 33 v x r new → length (held v) < 33 → held new ≡ held v ++ x ∷ []
push_room v new x r e room = rw (lt-ltb _ _ room) at e.1
