-- Laws of taking a packet in: the newest after it; that dropping first and storing only what stays is "append all, then keep"; that at most
-- 2 max_prediction + 1 inputs are held afterwards.
use borrow.Author.Tests.{ltb-true, ltb-false, leb-true, leb-false}
use mathlib.Core.Path.{◌≡◌, refl, sym, ◌∙◌, ap}
use mathlib.Core.Bool.{Bool, true, false}
use mathlib.Core.List.{List, [], ◌∷◌, ◌++◌}
use Prim.Native.Nat.{ℕ, suc, ◌+◌, ◌-◌, ◌*◌, ◌≤◌, ◌<◌, max}
use native.Mathlib.Omega.{arith}
use lib.Dec.{ltb, leb}
use lib.ListN.{length, take}
use lib.Seq.{take_all}
use Rattle.base.specs.Pick.{pick}
use Rattle.base.specs.Keyed.{kept}
use Rattle.base.proofs.Kept.{kept_append, kept-kept}
use Rattle.frame.specs.Bias.{null_frame}
use Rattle.packing.specs.declared.input_bytes.InputBytes.{InputBytes}
use Rattle.history.specs.History.{highest, newest_of, stays, at_line, above, numbered, taken_in, taken_above, newest_after, new_and_kept, Ascending}
use Rattle.history.proofs.Laws.{newest_is}

-- ---- the newest after a packet

highest-append : (l m : List InputBytes) → highest (l ++ m) ≡ max (highest l) (highest m)
unfolding highest
highest-append [] m = omega arith
highest-append (x ∷ l) m = rw (highest-append l m) (omega arith)

-- those not above n do not count beside n
highest-above : (n : ℕ) (l : List InputBytes) → max n (highest (above n l)) ≡ max n (highest l)
unfolding above kept highest
highest-above n [] = refl
highest-above n (x ∷ l) =
    let r : max n (highest (above n l)) ≡ max n (highest l) = highest-above n l in
    elim (ltb n x.frame) as (λ b. ltb n x.frame ≡ b → max n (highest (pick b (x ∷ above n l) (above n l))) ≡ max n (max x.frame (highest l)))
    [ true ↦ λ e. omega arith | false ↦ λ e. omega (arith, ltb-false n x.frame e) ] refl

highest-numbered : (n start : ℕ) (fs : List (List ℕ)) → max n (highest (numbered start fs)) ≡ newest_after n start (length fs)
unfolding numbered newest_after highest
highest-numbered n start [] = omega arith
highest-numbered n start (f ∷ []) = omega arith
highest-numbered n start (f ∷ g ∷ fs) = omega (arith, highest-numbered n (suc start) (g ∷ fs))

-- what is above -1 has its newest above -1
newest-above : (l : List InputBytes) → newest_of (above null_frame l) ≡ max null_frame (highest (above null_frame l))
unfolding above kept newest_of highest
newest-above [] = omega arith
newest-above (x ∷ l) =
    elim (ltb null_frame x.frame) as
    (λ b. ltb null_frame x.frame ≡ b → newest_of (pick b (x ∷ above null_frame l) (above null_frame l)) ≡ max null_frame (highest (pick b (x ∷ above null_frame l) (above null_frame l))))
    [ true ↦ λ e. omega (arith, ltb-true null_frame x.frame e) | false ↦ λ e. newest-above l ] refl

-- the newest after a packet is the higher of the newest and the packet's highest
newest_with : (l packet : List InputBytes) → newest_of (l ++ above (newest_of l) packet) ≡ max (newest_of l) (highest packet)
unfolding newest_of
newest_with [] packet = newest-above packet ∙ highest-above null_frame packet
newest_with (x ∷ l) packet = highest-append (x ∷ l) (above (highest (x ∷ l)) packet) ∙ highest-above (highest (x ∷ l)) packet

-- it is determined by the packet's first number and its count
pub newest-after : (l : List InputBytes) (start : ℕ) (fs : List (List ℕ))
    → newest_of (l ++ above (newest_of l) (numbered start fs)) ≡ newest_after (newest_of l) start (length fs)
newest-after l start fs = newest_with l (numbered start fs) ∙ highest-numbered (newest_of l) start fs

-- ---- what stays

-- dropped below the new line first, then only what stays appended: the same as append all, then keep
pub taken_is : (newest mp : ℕ) (l : List InputBytes) (start : ℕ) (fs : List (List ℕ)) (last : ℕ) → last ≡ newest_after newest start (length fs)
    → taken_above newest mp l (numbered start fs) ≡ kept (λ x. stays last mp x.frame) l ++ kept (λ x. new_and_kept newest last mp x.frame) (numbered start fs)
unfolding taken_above above
taken_is newest mp l start fs last e =
    let a : List InputBytes = kept (λ x. ltb newest x.frame) (numbered start fs) in
    let n : max newest (highest (numbered start fs)) ≡ last = highest-numbered newest start fs ∙ sym e in
    ap (λ (m : ℕ). kept (λ x. stays m mp x.frame) (l ++ a)) n
    ∙ kept_append (λ x. stays last mp x.frame) l a
    ∙ ap (λ (r : List InputBytes). kept (λ x. stays last mp x.frame) l ++ r)
    (kept-kept (λ x. ltb newest x.frame) (λ x. stays last mp x.frame) (numbered start fs))

-- so a call that does that, as many as fit
pub taken_by : (newest mp : ℕ) (l left out : List InputBytes) (start : ℕ) (fs : List (List ℕ)) (last : ℕ)
    → last ≡ newest_after newest start (length fs) → left ≡ kept (λ x. stays last mp x.frame) l
    → out ≡ take 33 (left ++ kept (λ x. new_and_kept newest last mp x.frame) (numbered start fs)) → out ≡ take 33 (taken_above newest mp l (numbered start fs))
taken_by newest mp l left out start fs last e k o =
    o
    ∙ ap (λ (m : List InputBytes). take 33 (m ++ kept (λ x. new_and_kept newest last mp x.frame) (numbered start fs))) k
    ∙ ap (take 33) (sym (taken_is newest mp l start fs last e))

-- above the list's own newest: the rule
pub taken-newest : (mp : ℕ) (l packet : List InputBytes) → taken_above (newest_of l) mp l packet ≡ taken_in mp l packet
unfolding taken_above taken_in at_line
taken-newest mp l packet = ap (λ (m : ℕ). kept (λ x. stays m mp x.frame) (l ++ above (newest_of l) packet)) (sym (newest_with l packet))

-- so a caller that knows the newest takes a packet in by the rule
pub taken_known : (newest mp : ℕ) (l out packet : List InputBytes) → newest ≡ newest_of l → out ≡ take 33 (taken_above newest mp l packet)
    → out ≡ take 33 (taken_in mp l packet)
taken_known newest mp l out packet n o =
    o ∙ ap (λ (m : ℕ). take 33 (taken_above m mp l packet)) n ∙ ap (take 33) (taken-newest mp l packet)

-- ---- how many are held

ascending_down : (low lower : ℕ) (l : List InputBytes) → lower ≤ low → Ascending low l → Ascending lower l
unfolding Ascending
ascending_down low lower [] h a = tt
ascending_down low lower (x ∷ l) h a = (omega (arith, a.0), a.1)

ascending_kept : (p : InputBytes → Bool) (low : ℕ) (l : List InputBytes) → Ascending low l → Ascending low (kept p l)
unfolding Ascending kept
ascending_kept p low [] a = tt
ascending_kept p low (x ∷ l) a =
    elim (p x) as (λ b. Ascending low (pick b (x ∷ kept p l) (kept p l))) [
      | true ↦ (a.0, ascending_kept p (suc x.frame) l a.1)
      | false ↦ ascending_down (suc x.frame) low (kept p l) (omega (arith, a.0)) (ascending_kept p (suc x.frame) l a.1)
    ]

-- a test that bounds the frames from below
ascending_from : (p : InputBytes → Bool) (line : ℕ) → ((x : InputBytes) → p x ≡ true → line ≤ x.frame) → (low : ℕ) (l : List InputBytes) → Ascending low l → Ascending line (kept p l)
unfolding Ascending kept
ascending_from p line h low [] a = tt
ascending_from p line h low (x ∷ l) a =
    elim (p x) as (λ b. p x ≡ b → Ascending line (pick b (x ∷ kept p l) (kept p l)))
    [ true ↦ λ e. (h x e, ascending_kept p (suc x.frame) l a.1) | false ↦ λ e. ascending_from p line h (suc x.frame) l a.1 ] refl

ascending_length : (low top : ℕ) (l : List InputBytes) → Ascending low l → highest l < top → low ≤ top → low + length l ≤ top
unfolding Ascending highest
ascending_length low top [] a h b = omega arith
ascending_length low top (x ∷ l) a h b =
    let n : suc x.frame + length l ≤ top = ascending_length (suc x.frame) top l a.1 (omega arith) (omega arith) in
    omega (arith, a.0)

highest-kept : (p : InputBytes → Bool) (l : List InputBytes) → highest (kept p l) ≤ highest l
unfolding kept highest
highest-kept p [] = omega arith
highest-kept p (x ∷ l) =
    elim (p x) as (λ b. highest (pick b (x ∷ kept p l) (kept p l)) ≤ max x.frame (highest l))
    [ true ↦ omega (arith, highest-kept p l) | false ↦ omega (arith, highest-kept p l) ]

highest-newest : (l : List InputBytes) → highest l ≤ newest_of l
unfolding newest_of highest
highest-newest [] = omega arith
highest-newest (x ∷ l) = omega arith

-- what is at_line of an ascending list: at most 2 max_prediction + 1
pub line_few : (mp low : ℕ) (l : List InputBytes) → Ascending low l → length (at_line mp l) ≤ 2 * mp + 1
unfolding at_line
line_few mp low l a =
    let p : InputBytes → Bool = λ x. stays (newest_of l) mp x.frame in
    let b : Ascending (newest_of l - 2 * mp) (kept p l)
    = ascending_from p (newest_of l - 2 * mp) (λ x e. omega (arith, leb-true (newest_of l) (x.frame + 2 * mp) e)) low l a in
    let t : highest (kept p l) ≤ newest_of l = omega (arith, highest-kept p l, highest-newest l) in
    let n = ascending_length (newest_of l - 2 * mp) (suc (newest_of l)) (kept p l) b (omega arith) (omega arith) in
    omega arith

ascending_append : (low n : ℕ) (l m : List InputBytes) → Ascending low l → highest l ≤ n → low ≤ suc n → Ascending (suc n) m → Ascending low (l ++ m)
unfolding Ascending highest
ascending_append low n [] m a h b c = ascending_down (suc n) low m b c
ascending_append low n (x ∷ l) m a h b c = (a.0, ascending_append (suc x.frame) n l m a.1 (omega arith) (omega arith) c)

pub ascending_numbered : (start : ℕ) (fs : List (List ℕ)) → Ascending start (numbered start fs)
unfolding Ascending numbered
ascending_numbered start [] = tt
ascending_numbered start (f ∷ fs) = (omega arith, ascending_numbered (suc start) fs)

module _ (mp : ℕ) (l : List InputBytes) (start : ℕ) (fs : List (List ℕ)) (a : Ascending 0 l) where
  all : Ascending 0 (l ++ above (newest_of l) (numbered start fs))
  unfolding above
  all =
      ascending_append 0 (newest_of l) l (above (newest_of l) (numbered start fs)) a (highest-newest l) (omega arith)
      (ascending_from (λ x. ltb (newest_of l) x.frame) (suc (newest_of l)) (λ x e. ltb-true (newest_of l) x.frame e) start (numbered start fs) (ascending_numbered start fs))

  -- a history that ascends goes on so, holds at most 2 max_prediction + 1, and so is never full at 33
  pub taken_ascending : Ascending 0 (taken_in mp l (numbered start fs))
  unfolding taken_in at_line
  taken_ascending =
      ascending_kept (λ x. stays (newest_of (l ++ above (newest_of l) (numbered start fs))) mp x.frame) 0 (l ++ above (newest_of l) (numbered start fs)) all

  pub taken_few : length (taken_in mp l (numbered start fs)) ≤ 2 * mp + 1
  unfolding taken_in
  taken_few = line_few mp 0 (l ++ above (newest_of l) (numbered start fs)) all

  pub taken_fits : mp ≤ 16 → take 33 (taken_in mp l (numbered start fs)) ≡ taken_in mp l (numbered start fs)
  taken_fits h = take_all 33 (taken_in mp l (numbered start fs)) (omega (arith, taken_few))

-- ---- the newest stays

module _ (newest mp : ℕ) where
  line : InputBytes → Bool
  line x = stays newest mp x.frame

  line_some : (l : List InputBytes) → 0 < length l → newest ≤ highest l + 2 * mp → 0 < length (kept line l)
  unfolding kept highest line
  line_some [] n h = absurd (omega arith)
  line_some (x ∷ []) n h =
      elim (line x) as (λ b. line x ≡ b → 0 < length (pick b (x ∷ kept line []) (kept line [])))
      [ true ↦ λ e. omega arith | false ↦ λ e. absurd (omega (arith, leb-false newest (x.frame + 2 * mp) e)) ] refl
  line_some (x ∷ y ∷ l) n h =
      elim (line x) as (λ b. line x ≡ b → 0 < length (pick b (x ∷ kept line (y ∷ l)) (kept line (y ∷ l))))
      [ true ↦ λ e. omega arith | false ↦ λ e. line_some (y ∷ l) (omega arith) (omega (arith, leb-false newest (x.frame + 2 * mp) e)) ] refl

  line_highest : (l : List InputBytes) → newest ≤ highest l + 2 * mp → highest (kept line l) ≡ highest l
  unfolding kept highest line
  line_highest [] h = refl
  line_highest (x ∷ l) h =
      elim (line x) as (λ b. line x ≡ b → highest (pick b (x ∷ kept line l) (kept line l)) ≡ max x.frame (highest l)) [
        | true ↦ λ e.
            elim (leb newest (highest l + 2 * mp)) as (λ c. leb newest (highest l + 2 * mp) ≡ c → max x.frame (highest (kept line l)) ≡ max x.frame (highest l)) [
              | true ↦ λ d. rw (line_highest l (leb-true newest (highest l + 2 * mp) d))
              | false ↦ λ d. omega (arith, highest-kept line l, leb-false newest (highest l + 2 * mp) d, leb-true newest (x.frame + 2 * mp) e)
            ] refl
        | false ↦ λ e.
            let under : x.frame + 2 * mp < newest = leb-false newest (x.frame + 2 * mp) e in
            line_highest l (omega arith) ∙ omega arith
      ] refl

-- the newest is at_line
pub newest-kept : (mp : ℕ) (l : List InputBytes) → newest_of (at_line mp l) ≡ newest_of l
unfolding at_line newest_of kept line
newest-kept mp [] = refl
newest-kept mp (x ∷ l) =
    let n : highest (x ∷ l) ≤ highest (x ∷ l) + 2 * mp = omega arith in
    newest_is (kept (line (highest (x ∷ l)) mp) (x ∷ l)) (line_some (highest (x ∷ l)) mp (x ∷ l) (omega arith) n) ∙ line_highest (highest (x ∷ l)) mp (x ∷ l) n

-- the newest once a packet is in
pub newest-taken : (mp : ℕ) (l : List InputBytes) (start : ℕ) (fs : List (List ℕ))
    → newest_of (taken_in mp l (numbered start fs)) ≡ newest_after (newest_of l) start (length fs)
unfolding taken_in
newest-taken mp l start fs = newest-kept mp (l ++ above (newest_of l) (numbered start fs)) ∙ newest-after l start fs
