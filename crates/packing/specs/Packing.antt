-- A packet's payload (P-1 to P-3): its frames one behind the other, each XOR one reference.
use Rattle.std.specs.Prelude.{Bool, false, not, List, [], ◌∷◌, ◌++◌, ◌≡◌, refl, ℕ, zero, suc, ◌/◌, ◌%◌, ltb, eqb, length, take, drop}
use Rattle.std.specs.Int.Bits.{bit_xor}
use Rattle.base.specs.Pick.{pick}
use Rattle.base.specs.Lay.{no_room, laid_at}

-- XOR byte by byte, as long as both last
unfoldable pub xors : List ℕ → List ℕ → List ℕ
xors [] rs = []
xors (x ∷ xs) [] = []
xors (x ∷ xs) (r ∷ rs) = bit_xor x r ∷ xors xs rs

-- the payload of some frames
unfoldable pub pack : List ℕ → List (List ℕ) → List ℕ
pack reference [] = []
pack reference (f ∷ fs) = xors f reference ++ pack reference fs

-- how many whole frames a payload of a length has: none of width 0
abbrev pub frame_count : ℕ → ℕ → ℕ
frame_count width n = n / width

-- the first n frames of a payload
unfoldable pub frames_of : ℕ → List ℕ → ℕ → List ℕ → List (List ℕ)
frames_of width reference zero payload = []
frames_of width reference (suc n) payload = xors (take width payload) reference ∷ frames_of width reference n (drop width payload)

-- all whole frames of a payload
unfoldable pub unpack : ℕ → List ℕ → List ℕ → List (List ℕ)
unpack width reference payload = frames_of width reference (frame_count width (length payload)) payload

-- a payload's length is a multiple of the width
unfoldable pub decodable_length : ℕ → ℕ → Bool
decodable_length width n = pick (ltb 0 width) (eqb (n % width) 0) false

unfoldable pub decodable : ℕ → List ℕ → Bool
decodable width payload = decodable_length width (length payload)

-- every frame has the width
unfoldable pub Wide : ℕ → List (List ℕ) → Type 0
Wide width [] = Unit {0}
Wide width (f ∷ fs) = (length f ≡ width) × Wide width fs

-- what a call that lays bytes at a place of a lent buffer answers and leaves: all of them, or nothing where they do not fit
pub record PlacedAs (before : List ℕ) (at : ℕ) (bytes : List ℕ) (answer : Bool) (after : List ℕ) : Type 0 where
  pub done : answer ≡ not (no_room before at (length bytes))
  pub lent : after ≡ pick (no_room before at (length bytes)) before (laid_at before at bytes)

-- worked: P3's payload, then P5's one frame against frame 1's byte 07
p3 : unpack 1 (0 ∷ []) (5 ∷ 7 ∷ []) ≡ (5 ∷ []) ∷ (7 ∷ []) ∷ []
unfolding unpack frames_of xors
p3 = refl

p5 : unpack 1 (7 ∷ []) (2 ∷ []) ≡ (5 ∷ []) ∷ []
unfolding unpack frames_of xors
p5 = refl

-- worked: both frames against the one reference, not against each other
one_reference : pack (1 ∷ []) ((5 ∷ []) ∷ (7 ∷ []) ∷ []) ≡ 4 ∷ 6 ∷ []
unfolding pack xors
one_reference = refl
