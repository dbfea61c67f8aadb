-- Laws of numbers as bytes, over the count of bytes: the two undo each other, and pieces join.
use mathlib.Core.Path.{◌≡◌, refl, sym, ◌∙◌, ap}
use mathlib.Core.List.{List, [], ◌∷◌, ◌++◌}
use Prim.Native.Nat.{ℕ, zero, suc, ◌+◌, ◌*◌, ◌/◌, ◌%◌, ◌^◌, ◌<◌}
use native.Mathlib.Omega.{arith}
use native.Mathlib.Nat.{pow-suc, div-lt_iff_lt-mul, mul_assoc, mul_comm, div-div-eq-div-mul, zero-add, suc-add, div-one, mod-add-div}
use lib.ListN.{length}
use Rattle.base.specs.Little.{Bytes, le, unle}

pub le-length : (k n : ℕ) → length (le k n) ≡ k
unfolding le
le-length zero n = refl
le-length (suc k) n = ap suc (le-length k (n / 256))

-- the number back from its bytes
pub unle-le : (k n : ℕ) → n < 256 ^ k → unle (le k n) ≡ n
unfolding le unle
unle-le zero n h = omega arith
unle-le (suc k) n h =
    let q : n / 256 < 256 ^ k = (div-lt_iff_lt-mul {k = 256} (omega arith)).1 (rw pow-suc at h) in
    rw (unle-le k (n / 256) q) (omega arith)

-- the bytes back from their number
pub le-unle : (bs : List ℕ) → Bytes bs → le (length bs) (unle bs) ≡ bs
unfolding le unle
le-unle [] h = refl
le-unle (b ∷ bs) h =
    let small : b < 256 = h 0 in
    let low : (b + 256 * unle bs) % 256 ≡ b = omega arith in
    let high : (b + 256 * unle bs) / 256 ≡ unle bs = omega arith in
    rw (low, high, le-unle bs (λ i. h (suc i)))

pub unle_bound : (bs : List ℕ) → Bytes bs → unle bs < 256 ^ length bs
unfolding unle
unle_bound [] h = omega arith
unle_bound (b ∷ bs) h =
    let small : b < 256 = h 0 in
    let rest : unle bs < 256 ^ length bs = unle_bound bs (λ i. h (suc i)) in
    rw pow-suc (omega arith)

pub unle-append : (xs ys : List ℕ) → unle (xs ++ ys) ≡ unle xs + 256 ^ length xs * unle ys
unfolding unle
unle-append [] ys = omega arith
unle-append (x ∷ xs) ys =
    rw (unle-append xs ys, pow-suc, mul_comm (256 ^ length xs) 256, mul_assoc 256 (256 ^ length xs) (unle ys)) (omega arith)

pub le-append : (j k n : ℕ) → le (j + k) n ≡ le j n ++ le k (n / 256 ^ j)
unfolding le
le-append zero k n = rw (zero-add, div-one)
le-append (suc j) k n =
    rw (suc-add, le-append j k (n / 256), div-div-eq-div-mul, pow-suc, mul_comm (256 ^ j) 256)

-- what stands above k bytes does not matter to them
le_low : (k a q : ℕ) → le k (a + 256 ^ k * q) ≡ le k a
unfolding le
le_low zero a q = refl
le_low (suc k) a q =
    let x : ℕ = 256 ^ k * q in
    let e : 256 ^ suc k * q ≡ 256 * x = rw (pow-suc, mul_comm (256 ^ k) 256, mul_assoc 256 (256 ^ k) q) in
    let low : (a + 256 * x) % 256 ≡ a % 256 = omega arith in
    let high : (a + 256 * x) / 256 ≡ a / 256 + x = omega arith in
    rw (e, low, high, le_low k (a / 256) q)

-- a number in two pieces: the low j bytes of it, and the rest
pub le_pieces : (j k n : ℕ) → le j (n % 256 ^ j) ++ le k (n / 256 ^ j) ≡ le (j + k) n
le_pieces j k n =
    let e : le j n ≡ le j (n % 256 ^ j) = ap (le j) (sym (mod-add-div n (256 ^ j))) ∙ le_low j (n % 256 ^ j) (n / 256 ^ j) in
    rw (le-append, e)
