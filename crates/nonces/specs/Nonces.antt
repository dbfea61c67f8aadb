-- The nonces that are outstanding, and what issuing and spending one does (E-4, E-5, E-7, E-70).
use Rattle.std.specs.Prelude.{Bool, true, false, List, [], ◌∷◌, ◌++◌, ◌≡◌, refl, ℕ, zero, suc, ◌-◌, length, take}
use Rattle.base.specs.Pick.{pick}
use Rattle.ceilings.specs.Ceilings.{most_nonces}
use Rattle.base.specs.Keyed.{kept, has, without}
use Rattle.base.specs.Last.{last_of}
use Rattle.fixed_vec.specs.FixedVec.{held}
use Rattle.nonces.specs.declared.Nonces.{Nonces}

-- the nonces outstanding, in the order of their latest issue; a count beyond the array is the array's length
unfoldable pub outstanding : Nonces → List ℕ
outstanding s = held s.list

-- whether a nonce is outstanding, so that its reply may count (E-7)
abbrev pub is_outstanding : ℕ → List ℕ → Bool
is_outstanding nonce l = has (λ x. x) nonce l

-- the nonce is spent
abbrev pub spent : ℕ → List ℕ → List ℕ
spent nonce l = without (λ x. x) nonce l

-- a nonce is issued: it is the last one, and stands nowhere else, since equal nonces count as one from the latest issue (E-5). Of the others the newest 255 stay:
-- so with 256 others outstanding the oldest of them is forgotten, and never are there more than 256 (E-70)
unfoldable pub issued : ℕ → List ℕ → List ℕ
issued nonce l = last_of (most_nonces - 1) (spent nonce l) ++ nonce ∷ []

-- those of the others that do not stay: they are forgotten, at most one where at most 256 are outstanding. For laws and examples; no call's definition uses it
unfoldable pub forgotten : ℕ → List ℕ → List ℕ
forgotten nonce l = take (length (spent nonce l) - (most_nonces - 1)) (spent nonce l)

-- a nonce that is outstanding is spent, and where the handshake goes on the next one issued; the one spent has made room for it, so of at most 256 none is forgotten
unfoldable pub renewed : (nonce : ℕ) → (goes_on : Bool) → (next : ℕ) → List ℕ → List ℕ
renewed nonce goes_on next l = pick (is_outstanding nonce l) (pick goes_on (issued next (spent nonce l)) (spent nonce l)) l

-- whether it was outstanding; one that was not leaves the very store
pub record SpentAs (s : Nonces) (nonce : ℕ) (goes_on : Bool) (next : ℕ) (r : Bool) (new : Nonces) : Type 0 where
  pub found : r ≡ is_outstanding nonce (outstanding s)
  pub view : outstanding new ≡ renewed nonce goes_on next (outstanding s)
  pub same : r ≡ false → new ≡ s

-- worked: issued again, a nonce moves to the end and counts once, from the front or from between others
again_example : issued 4 (4 ∷ 7 ∷ []) ≡ 7 ∷ 4 ∷ []
unfolding issued last_of without kept
again_example = refl

again_between : issued 7 (4 ∷ 7 ∷ 9 ∷ []) ≡ 4 ∷ 9 ∷ 7 ∷ []
unfolding issued last_of without kept
again_between = refl

-- worked: spent, it is gone and the others stay, also where it is not the first; one that is not outstanding changes nothing, and does not count
spent_example : spent 4 (4 ∷ 7 ∷ []) ≡ 7 ∷ []
unfolding without kept
spent_example = refl

spent_second : spent 7 (4 ∷ 7 ∷ []) ≡ 4 ∷ []
unfolding without kept
spent_second = refl

spent_absent : spent 9 (4 ∷ 7 ∷ []) ≡ 4 ∷ 7 ∷ []
unfolding without kept
spent_absent = refl

-- worked: with the next one issued at the end, also where that is outstanding or the one spent; one that is not outstanding brings none
renewed_example : renewed 4 true 9 (4 ∷ 7 ∷ []) ≡ 7 ∷ 9 ∷ []
unfolding renewed issued last_of has without kept
renewed_example = refl

renewed_among : renewed 4 true 7 (4 ∷ 7 ∷ 9 ∷ []) ≡ 9 ∷ 7 ∷ []
unfolding renewed issued last_of has without kept
renewed_among = refl

renewed_same : renewed 4 true 4 (4 ∷ 7 ∷ []) ≡ 7 ∷ 4 ∷ []
unfolding renewed issued last_of has without kept
renewed_same = refl

renewed_last : renewed 4 false 9 (4 ∷ 7 ∷ []) ≡ 7 ∷ []
unfolding renewed issued last_of has without kept
renewed_last = refl

renewed_absent : renewed 5 true 9 (4 ∷ 7 ∷ []) ≡ 4 ∷ 7 ∷ []
unfolding renewed issued last_of has without kept
renewed_absent = refl

second_counts : is_outstanding 7 (4 ∷ 7 ∷ []) ≡ true
unfolding has
second_counts = refl

absent_counts_not : is_outstanding 9 (4 ∷ 7 ∷ []) ≡ false
unfolding has
absent_counts_not = refl

-- ---- worked at the ceiling

-- n nonces that follow each other
abbrev pub following : (first n : ℕ) → List ℕ
following first zero = []
following first (suc n) = first ∷ following (suc first) n

-- 255 are outstanding: the 256th forgets none
last_place : issued 256 (following 1 255) ≡ following 1 256
unfolding issued last_of without kept
last_place = refl

-- 1 to 256 are outstanding: with 257 these are 2 to 257, 256 of them; 1, the oldest, is forgotten
oldest_forgotten : (issued 257 (following 1 256) ≡ following 2 256) × (length (following 2 256) ≡ 256) × (forgotten 257 (following 1 256) ≡ 1 ∷ [])
unfolding issued forgotten last_of without kept
oldest_forgotten = (refl, refl, refl)

-- 7 among them is issued again: it moves to the end, and none is forgotten
again_at_ceiling : (issued 7 (following 1 256) ≡ following 1 6 ++ following 8 249 ++ 7 ∷ []) × (forgotten 7 (following 1 256) ≡ [])
unfolding issued forgotten last_of without kept
again_at_ceiling = (refl, refl)

-- oldest is the one whose latest issue is the longest ago: 1 was issued again, so 2 is forgotten
oldest_by_latest_issue : issued 257 (issued 1 (following 1 256)) ≡ following 3 254 ++ 1 ∷ 257 ∷ []
unfolding issued last_of without kept
oldest_by_latest_issue = refl

-- 3 is spent and 999 issued: the other 255 in order, then 999; with 5, which is outstanding, 255 in all, 5 last
renewed_at_ceiling : (renewed 3 true 999 (following 1 256) ≡ following 1 2 ++ following 4 253 ++ 999 ∷ [])
    × (renewed 3 true 5 (following 1 256) ≡ following 1 2 ++ following 4 1 ++ following 6 251 ++ 5 ∷ [])
    × (length (renewed 3 true 5 (following 1 256)) ≡ 255)
unfolding renewed issued last_of has without kept
renewed_at_ceiling = (refl, refl, refl)
