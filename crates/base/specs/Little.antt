-- Numbers as bytes, the low one first: bincode 1's fixed-width little-endian integers.
use Rattle.std.specs.Prelude.{List, [], ◌∷◌, ◌≡◌, refl, ℕ, zero, suc, ◌+◌, ◌*◌, ◌/◌, ◌%◌, ◌<◌, get_or}

-- every element is a byte
abbrev pub Bytes : List ℕ → Type 0
Bytes l = (i : ℕ) → get_or l i 0 < 256

-- a number as k bytes
unfoldable pub le : ℕ → ℕ → List ℕ
le zero n = []
le (suc k) n = n % 256 ∷ le k (n / 256)

-- the number that bytes are
unfoldable pub unle : List ℕ → ℕ
unle [] = 0
unle (b ∷ bs) = b + 256 * unle bs

-- worked: 4660 is 0x1234
le_example : le 2 4660 ≡ 52 ∷ 18 ∷ []
unfolding le
le_example = refl

unle_example : unle (52 ∷ 18 ∷ []) ≡ 4660
unfolding unle
unle_example = refl
