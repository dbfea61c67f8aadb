-- Laws of the pending inputs' definitions, on lists alone.
use borrow.Author.Tests.{lt-ltb}
use mathlib.Core.Path.{◌≡◌, refl, ap, ◌∙◌}
use mathlib.Core.Bool.{true, false}
use mathlib.Core.List.{List, [], ◌∷◌, ◌++◌}
use Prim.Native.Nat.{ℕ, zero, suc, ◌+◌, ◌-◌, ◌≤◌, ◌<◌}
use native.Mathlib.Omega.{arith}
use lib.Dec.{leb}
use lib.ListN.{length, take, drop, get_or, length-append, length-take}
use Rattle.std.specs.Prelude.{cond, slice_get, unwrap_or, Some, None}
use Rattle.std.specs.List.{take_while, prefix_len}
use Rattle.std.proofs.lemmas.Option.{slice_get_within, slice_get-get_or, get_or_from_slice_get, unwrap_or-slice_get}
use Rattle.std.proofs.lemmas.List.{get_or_default}
use Rattle.std.proofs.lemmas.List.Sums.{prefix_len-le-length}
use Rattle.std.proofs.lemmas.List.Folds.{length-prefix_len}
use Rattle.fixed_vec.specs.FixedVec.{held}
use Rattle.base.specs.Pick.{pick}
use Rattle.base.proofs.Arrays.{view_le}
use Rattle.packing.specs.declared.input_bytes.InputBytes.{InputBytes}
use Rattle.pending.specs.declared.Pending.{Pending}
use Rattle.pending.specs.Pending.{waiting, room, pushed, drops, drop_to, last_to, first_frame, last_frame}

-- the view is no longer than the array
pub waiting-le : (p : Pending) → length (waiting p) ≤ length p.inputs.list
unfolding waiting held
waiting-le p = view_le p.inputs.count p.inputs.list

-- the first and the last, by their place
pub first_is : (none : ℕ) (l : List InputBytes) (d : InputBytes) → 0 < length l → first_frame none l ≡ (get_or l 0 d).frame
unfolding first_frame
first_is none [] d h = absurd (omega arith)
first_is none (x ∷ l) d h = refl

pub last_is : (none : ℕ) (l : List InputBytes) (d : InputBytes) (k : ℕ) → length l ≡ suc k → last_frame none l ≡ (get_or l k d).frame
unfolding last_frame
last_is none [] d k h = absurd (omega arith)
last_is none (x ∷ []) d zero h = refl
last_is none (x ∷ []) d (suc k) h = absurd (omega arith)
last_is none (x ∷ y ∷ l) d zero h = absurd (omega arith)
last_is none (x ∷ y ∷ l) d (suc k) h = last_is x.frame (y ∷ l) d k (omega arith)

-- the same of what stands there, if anything does
pub first_none : (none : ℕ) (l : List InputBytes) → slice_get l 0 ≡ None → first_frame none l ≡ none
unfolding first_frame
first_none none [] e = refl
first_none none (x ∷ l) e = absurd (cc)

pub first_some : (none : ℕ) (l : List InputBytes) (x : InputBytes) → slice_get l 0 ≡ Some x → first_frame none l ≡ x.frame
unfolding first_frame
first_some none [] x e = absurd (cc)
first_some none (y ∷ l) x e = cc

pub last_none : (none : ℕ) (l : List InputBytes) → slice_get l (length l - 1) ≡ None → last_frame none l ≡ none
unfolding last_frame
last_none none [] e = refl
last_none none (x ∷ l) e = let there = slice_get-get_or (x ∷ l) (length (x ∷ l) - 1) x (omega arith) in absurd (cc)

pub last_some : (none : ℕ) (l : List InputBytes) (x : InputBytes) → slice_get l (length l - 1) ≡ Some x → last_frame none l ≡ x.frame
last_some none l x e =
    let h = slice_get_within l (length l - 1) x e in
    last_is none l x (length l - 1) (omega arith) ∙ ap (λ (y : InputBytes). y.frame) (get_or_from_slice_get l (length l - 1) x x e)

-- a drop that changes nothing, and whether one does, by the first place
pub drops_none : (ack : ℕ) (l : List InputBytes) → slice_get l 0 ≡ None → drops ack l ≡ false
unfolding drops
drops_none ack [] e = refl
drops_none ack (x ∷ l) e = absurd (cc)

pub drops_some : (ack : ℕ) (l : List InputBytes) (x : InputBytes) → slice_get l 0 ≡ Some x → drops ack l ≡ leb x.frame ack
unfolding drops
drops_some ack [] x e = absurd (cc)
drops_some ack (y ∷ l) x e = cc

module _ (ack : ℕ) where
  pub dropped_same : (l : List InputBytes) → drops ack l ≡ false → drop_to ack l ≡ l
  unfolding drops drop_to
  dropped_same [] h = refl
  dropped_same (x ∷ l) h = rw h

  pub last_same : (reference : InputBytes) (l : List InputBytes) → drops ack l ≡ false → last_to ack reference l ≡ reference
  unfolding drops last_to
  last_same reference [] h = refl
  last_same reference (x ∷ l) h = rw h

-- the leading inputs that a drop takes: what it leaves, and the last of them
module _ (ack : ℕ) where
  abbrev led : List InputBytes → ℕ
  led l = prefix_len (λ x. leb x.frame ack) l

  led_left : (l : List InputBytes) → drop (led l) l ≡ drop_to ack l
  unfolding drop_to
  led_left [] = refl
  led_left (x ∷ l) =
      let e : 1 + led l ≡ suc (led l) = omega arith in
      elim (leb x.frame ack) as (λ b. drop (cond b (1 + led l) 0) (x ∷ l) ≡ pick b (drop_to ack l) (x ∷ l)) [ true ↦ rw e (led_left l) | false ↦ refl ]

  -- the last of them, and of one more in front
  one_more : (m : ℕ) (x reference : InputBytes) (l : List InputBytes) → m ≤ length l → get_or (x ∷ take m l) m reference ≡ get_or (take m l) (m - 1) x
  one_more zero x reference l h = refl
  one_more (suc k) x reference l h =
      let e : suc k - 1 ≡ k = omega arith in
      let t = length-take (suc k) l in
      rw e (get_or_default (take (suc k) l) k reference x (omega arith))

  led_last : (reference : InputBytes) (l : List InputBytes) → get_or (take (led l) l) (led l - 1) reference ≡ last_to ack reference l
  unfolding last_to
  led_last reference [] = refl
  led_last reference (x ∷ l) =
      let e : 1 + led l ≡ suc (led l) = omega arith in
      let f : suc (led l) - 1 ≡ led l = omega arith in
      elim (leb x.frame ack) as (λ b. get_or (take (cond b (1 + led l) 0) (x ∷ l)) (cond b (1 + led l) 0 - 1) reference ≡ pick b (last_to ack x l) reference)
      [ true ↦ rw (e, f) (one_more (led l) x reference l (prefix_len-le-length (λ y. leb y.frame ack) l) ∙ led_last x l) | false ↦ refl ]

  -- by their number, as the code has it
  module _ (l : List InputBytes) (n : ℕ) (e : n ≡ length (take_while (λ x. leb x.frame ack) l)) where
    counted : n ≡ led l
    counted = e ∙ length-prefix_len (λ x. leb x.frame ack) l

    pub leading_left : drop n l ≡ drop_to ack l
    leading_left = rw counted (led_left l)

    pub leading_last : (reference : InputBytes) → unwrap_or (slice_get (take n l) (length (take n l) - 1)) reference ≡ last_to ack reference l
    leading_last reference =
        let m = length-take n l in
        let k = prefix_len-le-length (λ x. leb x.frame ack) l in
        let long : length (take n l) ≡ n = omega (arith, counted) in
        unwrap_or-slice_get (take n l) (length (take n l) - 1) reference ∙ rw (long, counted) (led_last reference l)

-- what callers need: a drop frees room, a push takes one place of it, and the last is then the one pushed
pub drop_le : (a : ℕ) (l : List InputBytes) → length (drop_to a l) ≤ length l
unfolding drop_to
drop_le a [] = omega arith
drop_le a (x ∷ xs) =
    elim (leb x.frame a) as (λ b. length (pick b (drop_to a xs) (x ∷ xs)) ≤ suc (length xs))
    [ true ↦ omega (arith, drop_le a xs) | false ↦ omega arith ]

pub pushed_room : (l : List InputBytes) (x : InputBytes) → length l < 129 → pushed l x ≡ l ++ x ∷ []
unfolding pushed room
pushed_room l x h = rw (lt-ltb _ _ h)

pub pushed-length : (l : List InputBytes) (x : InputBytes) → length l < 129 → length (pushed l x) ≡ suc (length l)
pushed-length l x h = rw (pushed_room l x h) (length-append l (x ∷ []) ∙ omega arith)

pub last_pushed : (none : ℕ) (l : List InputBytes) (x : InputBytes) → last_frame none (l ++ x ∷ []) ≡ x.frame
unfolding last_frame
last_pushed none [] x = refl
last_pushed none (y ∷ l) x = last_pushed y.frame l x
