-- Laws of packing: a byte twice XOR the same is itself; packing and unpacking undo each other; the lengths.
use borrow.Author.Tests.{lt-ltb, eqb-true}
use mathlib.Core.Path.{◌≡◌, refl, sym, ap, ap₂}
use mathlib.Core.Bool.{true}
use mathlib.Core.List.{List, [], ◌∷◌}
use Prim.Native.Nat.{ℕ, zero, suc, ◌-◌, ◌*◌, ◌/◌, ◌%◌, ◌≤◌, ◌<◌, ◌^◌, min}
use native.Mathlib.Omega.{arith}
use native.Mathlib.Nat.{not-suc-le-zero, le_of_suc-le-suc, div-add-mod', suc-mul, zero-mul, mul-div_cancel, pow-suc, mul-mod_left, sub-zero, zero-sub, suc-sub-suc, add_comm}
use lib.Bits.{bit_xor, differ, xor_step, xor_zero_l, xor_self, xor_comm}
use lib.ListN.{length, take, drop, get_or, length-append, length-take, length-drop, take-append-drop}
use lib.Seq.{take_at, drop_at, drop-drop}
use Rattle.packing.specs.Packing.{xors, pack, frame_count, frames_of, unpack, decodable, decodable_length, Wide}

pub xors-length : (xs rs : List ℕ) → length (xors xs rs) ≡ min (length xs) (length rs)
unfolding xors
xors-length [] rs = omega arith
xors-length (x ∷ xs) [] = omega arith
xors-length (x ∷ xs) (r ∷ rs) = omega (arith, xors-length xs rs)

pub xors_at : (xs rs : List ℕ) (i : ℕ) → i < length xs → i < length rs → get_or (xors xs rs) i 0 ≡ bit_xor (get_or xs i 0) (get_or rs i 0)
unfolding xors
xors_at [] rs i h k = absurd (not-suc-le-zero h)
xors_at (x ∷ xs) [] i h k = absurd (not-suc-le-zero k)
xors_at (x ∷ xs) (r ∷ rs) zero h k = refl
xors_at (x ∷ xs) (r ∷ rs) (suc i) h k = xors_at xs rs i (le_of_suc-le-suc h) (le_of_suc-le-suc k)

-- ---- XOR with the same twice

digit : (x y : ℕ) → x < 2 → y < 2 → (differ x y < 2) × (differ (differ x y) y ≡ x)
digit zero zero h k = (omega arith, refl)
digit zero (suc zero) h k = (omega arith, refl)
digit (suc zero) zero h k = (omega arith, refl)
digit (suc zero) (suc zero) h k = (omega arith, refl)
digit zero (suc (suc y)) h k = absurd (omega arith)
digit (suc zero) (suc (suc y)) h k = absurd (omega arith)
digit (suc (suc x)) y h k = absurd (omega arith)

twice : (k a b : ℕ) → a < 2 ^ k → bit_xor (bit_xor a b) b ≡ a
twice zero a b h =
    let z : a ≡ 0 = omega arith in
    rw (z, xor_zero_l b, xor_self b)
twice (suc k) a b h =
    let d = digit (a % 2) (b % 2) (omega arith) (omega arith) in
    let e = xor_step a b in
    let half : bit_xor a b / 2 ≡ bit_xor (a / 2) (b / 2) = omega arith in
    let odd : bit_xor a b % 2 ≡ differ (a % 2) (b % 2) = omega arith in
    let p : a / 2 < 2 ^ k = omega (arith, pow-suc 2 k) in
    rw (xor_step (bit_xor a b) b, half, odd, d.1, twice k (a / 2) (b / 2) p) (omega arith)

below_power : (a : ℕ) → a < 2 ^ a
below_power zero = omega arith
below_power (suc a) = omega (arith, below_power a, pow-suc 2 a)

pub xor_undo : (a b : ℕ) → bit_xor (bit_xor a b) b ≡ a
xor_undo a b = twice a a b (below_power a)

pub xor_again : (a b : ℕ) → bit_xor a (bit_xor a b) ≡ b
xor_again a b = rw (xor_comm a (bit_xor a b), xor_comm a b) (xor_undo b a)

pub xors_undo : (f r : List ℕ) → length f ≤ length r → xors (xors f r) r ≡ f
unfolding xors
xors_undo [] r h = refl
xors_undo (x ∷ f) [] h = absurd (not-suc-le-zero h)
xors_undo (x ∷ f) (y ∷ r) h = ap₂ (λ (a : ℕ) (l : List ℕ). a ∷ l) (xor_undo x y) (xors_undo f r (le_of_suc-le-suc h))

-- ---- the whole payload

-- decodable exactly when the width is not 0 and the length a multiple of it, that of the whole frames
pub decodable_when : (w n : ℕ) → decodable_length w n ≡ true → (0 < w) × (n ≡ frame_count w n * w)
unfolding decodable_length
decodable_when zero n d = absurd (let z : ◌≡◌ {A = ℕ} 0 1 = cc in omega arith)
decodable_when (suc w) n d =
    let z : n % suc w ≡ 0 = eqb-true _ _ (rw (lt-ltb 0 (suc w) (omega arith)) at d) in
    (omega arith, omega (arith, div-add-mod' n (suc w)))

pub decodable_if : (w n k : ℕ) → 0 < w → n ≡ k * w → decodable_length w n ≡ true
unfolding decodable_length
decodable_if w n k p e = rw (lt-ltb 0 w p, e, mul-mod_left)

module _ (w : ℕ) (r : List ℕ) (h : w ≤ length r) where
  pub pack-length : (fs : List (List ℕ)) → Wide w fs → length (pack r fs) ≡ length fs * w
  unfolding pack Wide
  pack-length [] a = omega arith
  pack-length (f ∷ fs) a = rw (length-append, suc-mul) (omega (arith, pack-length fs a.1, xors-length f r, a.0))

  frames_pack : (fs : List (List ℕ)) → Wide w fs → frames_of w r (length fs) (pack r fs) ≡ fs
  unfolding pack frames_of Wide
  frames_pack [] a = refl
  frames_pack (f ∷ fs) a =
      let e : length (xors f r) ≡ w = omega (arith, xors-length f r, a.0) in
      rw (take_at (xors f r) (pack r fs) w e, drop_at (xors f r) (pack r fs) w e, xors_undo f r (omega (arith, a.0)), frames_pack fs a.1)

  -- the frames back from their payload
  pub unpack-pack : 0 < w → (fs : List (List ℕ)) → Wide w fs → unpack w r (pack r fs) ≡ fs
  unfolding unpack
  unpack-pack p fs a = rw (pack-length fs a, mul-div_cancel (length fs) p) (frames_pack fs a)

  -- what is packed is decodable
  pub pack-decodable : 0 < w → (fs : List (List ℕ)) → Wide w fs → decodable w (pack r fs) ≡ true
  unfolding decodable
  pack-decodable p fs a = decodable_if w (length (pack r fs)) (length fs) p (pack-length fs a)

  -- the first n frames have the width, and pack to the bytes that they came from
  frames_wide : (n : ℕ) (p : List ℕ) → n * w ≤ length p → Wide w (frames_of w r n p)
  unfolding frames_of Wide
  frames_wide zero p k = tt
  frames_wide (suc n) p k =
      let m = suc-mul n w in
      let t = length-take w p in
      (omega (arith, xors-length (take w p) r), frames_wide n (drop w p) (omega (arith, length-drop w p)))

  pack_frames : (n : ℕ) (p : List ℕ) → n * w ≡ length p → pack r (frames_of w r n p) ≡ p
  unfolding frames_of pack
  pack_frames zero [] k = refl
  pack_frames zero (x ∷ p) k = absurd (omega arith)
  pack_frames (suc n) p k =
      let m = suc-mul n w in
      let t = length-take w p in
      rw (xors_undo (take w p) r (omega arith), pack_frames n (drop w p) (omega (arith, length-drop w p))) (take-append-drop w p)

  -- the frames of any payload have the width
  pub unpack-wide : (p : List ℕ) → Wide w (unpack w r p)
  unfolding unpack
  unpack-wide p = frames_wide (length p / w) p (omega (arith, div-add-mod' (length p) w))

  -- a decodable payload back from its frames
  pub pack-unpack : (p : List ℕ) → decodable w p ≡ true → pack r (unpack w r p) ≡ p
  unfolding unpack decodable
  pack-unpack p d = pack_frames (length p / w) p (sym (decodable_when w (length p) d).1)

-- how many frames
pub frames_length : (w : ℕ) (r : List ℕ) (n : ℕ) (p : List ℕ) → length (frames_of w r n p) ≡ n
unfolding frames_of
frames_length w r zero p = refl
frames_length w r (suc n) p = ap suc (frames_length w r n (drop w p))

pub unpack-length : (w : ℕ) (r : List ℕ) (p : List ℕ) → length (unpack w r p) ≡ frame_count w (length p)
unfolding unpack
unpack-length w r p = frames_length w r (frame_count w (length p)) p

-- fewer of the frames
frames_take : (w : ℕ) (r : List ℕ) (n m : ℕ) (p : List ℕ) → take n (frames_of w r m p) ≡ frames_of w r (min n m) p
unfolding frames_of
frames_take w r zero m p = let z : min zero m ≡ 0 = omega arith in rw z
frames_take w r (suc n) zero p = let z : min (suc n) zero ≡ 0 = omega arith in rw z
frames_take w r (suc n) (suc m) p =
    let s : min (suc n) (suc m) ≡ suc (min n m) = omega arith in
    rw (s, frames_take w r n m (drop w p))

pub unpack-take : (w : ℕ) (r : List ℕ) (n : ℕ) (p : List ℕ) → take n (unpack w r p) ≡ frames_of w r (min n (frame_count w (length p))) p
unfolding unpack
unpack-take w r n p = frames_take w r n (frame_count w (length p)) p

-- frames left out at the front
pub frames_drop : (w : ℕ) (r : List ℕ) (k n : ℕ) (p : List ℕ) → drop k (frames_of w r n p) ≡ frames_of w r (n - k) (drop (k * w) p)
unfolding frames_of
frames_drop w r zero n p = rw (sub-zero, zero-mul)
frames_drop w r (suc k) zero p = rw zero-sub
frames_drop w r (suc k) (suc n) p = rw (suc-sub-suc, suc-mul, add_comm (k * w) w, ← drop-drop (k * w) w p) (frames_drop w r k n (drop w p))

-- of the reference only the first bytes, up to the width, count
xors_first : (f r : List ℕ) (w : ℕ) → length f ≤ w → xors f (take w r) ≡ xors f r
unfolding xors
xors_first [] r w h = refl
xors_first (x ∷ f) r zero h = absurd (not-suc-le-zero h)
xors_first (x ∷ f) [] (suc w) h = refl
xors_first (x ∷ f) (y ∷ r) (suc w) h = ap (λ (l : List ℕ). bit_xor x y ∷ l) (xors_first f r w (le_of_suc-le-suc h))

pub pack_first : (w : ℕ) (r : List ℕ) (fs : List (List ℕ)) → Wide w fs → pack (take w r) fs ≡ pack r fs
unfolding pack Wide
pack_first w r [] a = refl
pack_first w r (f ∷ fs) a = rw (xors_first f r w (omega (arith, a.0)), pack_first w r fs a.1)

frames_first : (w : ℕ) (r : List ℕ) (n : ℕ) (p : List ℕ) → frames_of w (take w r) n p ≡ frames_of w r n p
unfolding frames_of
frames_first w r zero p = refl
frames_first w r (suc n) p = rw (xors_first (take w p) r w (omega (arith, length-take w p)), frames_first w r n (drop w p))

pub unpack_first : (w : ℕ) (r p : List ℕ) → unpack w (take w r) p ≡ unpack w r p
unfolding unpack
unpack_first w r p = frames_first w r (frame_count w (length p)) p
