-- Laws of the lists of inputs: consecutive frames, what is dropped of them, what is kept and found.
use mathlib.Core.Path.{◌≡◌, refl}
use mathlib.Core.Bool.{Bool, true, false}
use mathlib.Core.List.{List, [], ◌∷◌, ◌++◌, map}
pub use mathlib.Core.List.Memᴰ.{append_cases}
pub use mathlib.Core.List.Memᴰ.{append_left as mem-left}
pub use mathlib.Core.List.Memᴰ.{append_right as mem-right}
pub use mathlib.Core.List.Memᴰ.{cases_cons}
pub use mathlib.Core.List.Memᴰ.{eq_of_singleton as one}
pub use mathlib.Core.List.Memᴰ.{head as here}
pub use mathlib.Core.List.Memᴰ.{not-nil}
pub use mathlib.Core.List.Memᴰ.{tail as there}
pub use mathlib.Core.List.{Memᴰ as Mem}
use mathlib.Core.Logic.{◌⊎◌, inl, inr}
use Prim.Native.Nat.{ℕ, zero, suc, ◌+◌, ◌-◌, ◌≤◌, ◌<◌}
use native.Mathlib.Omega.{arith}
use native.Mathlib.Nat.{add-zero, add-suc, suc-add}
use lib.Dec.{eqb}
use lib.ListN.{length, get_or, take, drop, replicate}
use lib.Seq.{take_at, take_all}
use borrow.Author.Tests.{lt-ltb, le-ltb, le-leb, lt-leb, eq-eqb}
use Rattle.base.specs.Pick.{pick}
use Rattle.base.specs.Keyed.{kept}
use Rattle.frame.specs.Bias.{null_frame}
use Rattle.packing.specs.Packing.{Wide}
use Rattle.packing.specs.Pad.{padded}
use Rattle.packing.specs.declared.input_bytes.InputBytes.{InputBytes}
use Rattle.pending.specs.Pending.{drop_to, last_to, last_frame, sent_bytes}
use Rattle.history.specs.History.{highest, newest_of, Found, found_in, above, numbered}

abbrev pub entry : ℕ → List ℕ → InputBytes
entry f b = record { frame = f; bytes = padded b }

-- ---- those that pass a test

module _ {X : Type 0} where
  pub kept_mem : (t : X → Bool) (l : List X) {e : X} → Mem e (kept t l) → Mem e l
  unfolding kept
  kept_mem t [] h = h
  kept_mem t (x ∷ xs) {e} h = go (λ m. kept_mem t xs m) (t x) h
    where
      go : (Mem e (kept t xs) → Mem e xs) → (b : Bool) → Mem e (pick b (x ∷ kept t xs) (kept t xs)) → Mem e (x ∷ xs)
      go ih true m = elim (cases_cons m) [ inl p ↦ here p | inr q ↦ there (ih q) ]
      go ih false m = there (ih m)

  pub kept_passes : (t : X → Bool) (l : List X) {e : X} → Mem e (kept t l) → t e ≡ true
  unfolding kept
  kept_passes t [] h = absurd (not-nil h)
  kept_passes t (x ∷ xs) {e} h = go (λ m. kept_passes t xs m) (t x) refl h
    where
      go : (Mem e (kept t xs) → t e ≡ true) → (b : Bool) → t x ≡ b → Mem e (pick b (x ∷ kept t xs) (kept t xs)) → t e ≡ true
      go ih true q m = elim (cases_cons m) [ inl p ↦ rw p q | inr r ↦ ih r ]
      go ih false q m = ih m

  pub mem_kept : (t : X → Bool) (l : List X) {e : X} → Mem e l → t e ≡ true → Mem e (kept t l)
  unfolding kept
  mem_kept t [] m p = absurd (not-nil m)
  mem_kept t (x ∷ xs) {e} m p = elim (cases_cons m) [ inl q ↦ rw (← q, p) (here refl) | inr r ↦ go (mem_kept t xs r p) (t x) ]
    where
      go : Mem e (kept t xs) → (b : Bool) → Mem e (pick b (x ∷ kept t xs) (kept t xs))
      go ih true = there ih
      go ih false = ih

-- ---- found

pub found_mem : (f : ℕ) (l : List InputBytes) → (found_in f l).held ≡ true → Mem (found_in f l).input l
unfolding found_in
found_mem f [] h = absurd (let n : ◌≡◌ {A = ℕ} 0 1 = cc in omega arith)
found_mem f (x ∷ l) h = go (λ q. found_mem f l q) (eqb x.frame f) h
  where
    go : ((found_in f l).held ≡ true → Mem (found_in f l).input l) → (b : Bool)
        → (pick {A = Found} b (record { held = true; input = x }) (found_in f l)).held ≡ true
        → Mem (pick {A = Found} b (record { held = true; input = x }) (found_in f l)).input (x ∷ l)
    go ih true q = here refl
    go ih false q = there (ih q)

pub mem_found : (f : ℕ) (l : List InputBytes) {e : InputBytes} → Mem e l → e.frame ≡ f → (found_in f l).held ≡ true
unfolding found_in
mem_found f [] m h = absurd (not-nil m)
mem_found f (x ∷ xs) {e} m h = elim (cases_cons m) [ inl q ↦ rw (eq-eqb x.frame f (cc)) | inr r ↦ go (mem_found f xs r h) (eqb x.frame f) ]
  where
    go : (found_in f xs).held ≡ true → (b : Bool) → (pick {A = Found} b (record { held = true; input = x }) (found_in f xs)).held ≡ true
    go ih true = refl
    go ih false = ih

-- ---- the newest frame

highest_bound : (x : ℕ) (l : List InputBytes) → ((e : InputBytes) → Mem e l → e.frame ≤ x) → highest l ≤ x
unfolding highest
highest_bound x [] h = omega arith
highest_bound x (e ∷ es) h = omega (arith, highest_bound x es (λ y m. h y (there m)), h e (here refl))

pub newest_bound : (x : ℕ) (l : List InputBytes) → null_frame ≤ x → ((e : InputBytes) → Mem e l → e.frame ≤ x) → newest_of l ≤ x
unfolding newest_of
newest_bound x [] b h = b
newest_bound x (e ∷ es) b h = highest_bound x (e ∷ es) h

highest_mem : (l : List InputBytes) {e : InputBytes} → Mem e l → e.frame ≤ highest l
unfolding highest
highest_mem [] m = absurd (not-nil m)
highest_mem (x ∷ xs) m = elim (cases_cons m) [ inl q ↦ rw q (omega arith) | inr r ↦ omega (arith, highest_mem xs r) ]

pub newest_mem : (l : List InputBytes) {e : InputBytes} → Mem e l → e.frame ≤ newest_of l
unfolding newest_of
newest_mem [] m = absurd (not-nil m)
newest_mem (x ∷ xs) m = highest_mem (x ∷ xs) m

-- ---- frames of one width

pub wide-take : (w n : ℕ) (l : List (List ℕ)) → Wide w l → Wide w (take n l)
unfolding Wide
wide-take w zero l h = tt
wide-take w (suc n) [] h = tt
wide-take w (suc n) (b ∷ bs) h = (h.0, wide-take w n bs h.1)

pub wide-drop : (w n : ℕ) (l : List (List ℕ)) → Wide w l → Wide w (drop n l)
unfolding Wide
wide-drop w zero l h = h
wide-drop w (suc n) [] h = tt
wide-drop w (suc n) (b ∷ bs) h = wide-drop w n bs h.1

pub wide_end : (w : ℕ) (l : List (List ℕ)) (b : List ℕ) → Wide w l → length b ≡ w → Wide w (l ++ b ∷ [])
unfolding Wide
wide_end w [] b h e = (e, tt)
wide_end w (x ∷ l) b h e = (h.0, wide_end w l b h.1 e)

-- the bytes that were padded
pub take-padded : (w : ℕ) (b : List ℕ) → w ≤ 64 → length b ≡ w → take w (padded b) ≡ b
unfolding padded
take-padded w b few e = rw (take_all 64 b (omega arith)) (take_at b (replicate (64 - length b) 0) w e)

pub bytes-numbered : (w f : ℕ) (l : List (List ℕ)) → w ≤ 64 → Wide w l → map (sent_bytes w) (numbered f l) ≡ l
unfolding numbered Wide
bytes-numbered w f [] few h = refl
bytes-numbered w f (b ∷ bs) few h = rw (take-padded w b few h.0, bytes-numbered w (suc f) bs few h.1)

-- ---- consecutive frames

pub number_append : (f : ℕ) (a b : List (List ℕ)) → numbered f (a ++ b) ≡ numbered f a ++ numbered (f + length a) b
unfolding numbered
number_append f [] b = rw add-zero
number_append f (x ∷ xs) b = rw (number_append (suc f) xs b, add-suc, suc-add)

pub mem_number : (f : ℕ) (l : List (List ℕ)) (i : ℕ) → i < length l → Mem (entry (f + i) (get_or l i [])) (numbered f l)
unfolding numbered
mem_number f [] i h = absurd (omega arith)
mem_number f (b ∷ bs) zero h = rw add-zero (here refl)
mem_number f (b ∷ bs) (suc i) h = rw (add-suc, ← suc-add) (there (mem_number (suc f) bs i (omega arith)))

pub number_mem : (f : ℕ) (l : List (List ℕ)) {e : InputBytes} → Mem e (numbered f l) → (i : ℕ) × (i < length l) × (e ≡ entry (f + i) (get_or l i []))
unfolding numbered
number_mem f [] m = absurd (not-nil m)
number_mem f (b ∷ bs) {e} m = go (λ q. number_mem (suc f) bs q) (cases_cons m)
  where
    go : (Mem e (numbered (suc f) bs) → (i : ℕ) × (i < length bs) × (e ≡ entry (suc f + i) (get_or bs i [])))
        → (e ≡ entry f b) ⊎ Mem e (numbered (suc f) bs) → (i : ℕ) × (i < length (b ∷ bs)) × (e ≡ entry (f + i) (get_or (b ∷ bs) i []))
    go ih (inl q) = (zero, omega arith, rw (add-zero) q)
    go ih (inr q) = (suc (ih q).0, omega (arith, (ih q).1), rw (add-suc, ← suc-add) (ih q).2)

-- those above x: all, or all but the first d
pub above_all : (x s : ℕ) (l : List (List ℕ)) → x < s → above x (numbered s l) ≡ numbered s l
unfolding above kept numbered
above_all x s [] h = refl
above_all x s (b ∷ bs) h = rw (lt-ltb x s h, above_all x (suc s) bs (omega arith))

pub above-drop : (x s d : ℕ) (l : List (List ℕ)) → suc x ≡ s + d → above x (numbered s l) ≡ numbered (s + d) (drop d l)
unfolding above kept numbered
above-drop x s zero l h = rw add-zero (above_all x s l (omega arith))
above-drop x s (suc d) [] h = refl
above-drop x s (suc d) (b ∷ bs) h = rw (le-ltb x s (omega arith), above-drop x (suc s) d bs (omega arith), add-suc, suc-add)

-- ---- dropped up to a frame

pub drop_none : (x s : ℕ) (l : List (List ℕ)) → x < s → drop_to x (numbered s l) ≡ numbered s l
unfolding drop_to numbered
drop_none x s [] h = refl
drop_none x s (b ∷ bs) h = rw (lt-leb s x h)

pub last_none : (x : ℕ) (a : InputBytes) (s : ℕ) (l : List (List ℕ)) → x < s → last_to x a (numbered s l) ≡ a
unfolding last_to numbered
last_none x a s [] h = refl
last_none x a s (b ∷ bs) h = rw (lt-leb s x h)

pub drop_some : (s i : ℕ) (l : List (List ℕ)) → i < length l → drop_to (s + i) (numbered s l) ≡ numbered (s + suc i) (drop (suc i) l)
unfolding drop_to numbered
drop_some s i [] h = absurd (omega arith)
drop_some s zero (b ∷ bs) h = rw (le-leb s (s + zero) (omega arith), drop_none (s + zero) (suc s) bs (omega arith), add-suc, add-zero)
drop_some s (suc i) (b ∷ bs) h =
    let e : suc s + i ≡ s + suc i = omega arith in
    let f : suc s + suc i ≡ s + suc (suc i) = omega arith in
    rw (le-leb s (s + suc i) (omega arith)) (rw (e, f) at (drop_some (suc s) i bs (omega arith)))

pub last_some : (a : InputBytes) (s i : ℕ) (l : List (List ℕ)) → i < length l → last_to (s + i) a (numbered s l) ≡ entry (s + i) (get_or l i [])
unfolding last_to numbered
last_some a s i [] h = absurd (omega arith)
last_some a s zero (b ∷ bs) h = rw (le-leb s (s + zero) (omega arith), last_none (s + zero) (entry s b) (suc s) bs (omega arith), add-zero)
last_some a s (suc i) (b ∷ bs) h =
    let e : suc s + i ≡ s + suc i = omega arith in
    rw (le-leb s (s + suc i) (omega arith)) (rw e at (last_some (entry s b) (suc s) i bs (omega arith)))

-- ---- the last frame

pub last_number : (none s : ℕ) (b : List ℕ) (bs : List (List ℕ)) → last_frame none (numbered s (b ∷ bs)) ≡ s + length bs
unfolding last_frame numbered
last_number none s b [] = rw add-zero
last_number none s b (x ∷ xs) = rw (last_number s (suc s) x xs) (omega arith)
