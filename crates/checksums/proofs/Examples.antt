-- The theorem of the largest frames (Largest.antt) at reports and stores that are written out; the stores are found by computation.
use mathlib.Core.List.{List, [], ◌∷◌, ◌++◌}
use mathlib.Core.Path.{◌≡◌, refl, ap}
use Prim.Native.Nat.{ℕ}
use native.Mathlib.Omega.{arith}
use lib.ListN.{length, get_or}
use Rattle.base.specs.Keyed.{kept, has, first_with, without, put}
use Rattle.checksums.specs.declared.Checksum.{Checksum}
use Rattle.checksums.specs.Firm.{smallest, firmly}
use Rattle.checksums.specs.Worked.{of, falling, all_of}
use Rattle.checksums.specs.Largest.{frames_of, count_larger, latest, HoldsLargest}
use Rattle.checksums.proofs.Largest.{none_held, firm_holds, all_hold, largest_few}

-- frames 5, 9, and 5 again with another checksum
three_held : HoldsLargest (of 5 1 ∷ of 9 2 ∷ of 5 3 ∷ []) (of 5 3 ∷ of 9 2 ∷ [])
unfolding firmly smallest kept has put
three_held =
    firm_holds (of 5 1 ∷ of 9 2 ∷ []) (of 5 1 ∷ of 9 2 ∷ []) (of 5 3) (firm_holds (of 5 1 ∷ []) (of 5 1 ∷ []) (of 9 2) (firm_holds [] [] (of 5 1) none_held))

-- 132 down to 100: 100 is not stored. Then 200: 101 is dropped. Then 110 with another checksum
abbrev many : List Checksum
many = all_of (falling 33 100) 1 ++ of 200 2 ∷ of 110 3 ∷ []

many_held : HoldsLargest many (all_of (falling 22 111) 1 ++ of 110 3 ∷ all_of (falling 8 102) 1 ++ of 200 2 ∷ [])
unfolding firmly smallest kept has put
many_held = all_hold [] [] many none_held

-- no store holds the largest that lacks one, has them in another order, has an old checksum, or holds a 33rd
lacking_refused : HoldsLargest (of 5 1 ∷ []) [] → ⊥
unfolding count_larger frames_of without kept
lacking_refused h = let q : ◌≡◌ {A = ℕ} 0 1 = ap length h.frames in omega arith

order_refused : HoldsLargest (of 5 1 ∷ of 9 2 ∷ []) (of 9 2 ∷ of 5 1 ∷ []) → ⊥
unfolding count_larger frames_of without kept
order_refused h = let q : ◌≡◌ {A = ℕ} 9 5 = ap (λ l. get_or l 0 0) h.frames in omega arith

old_refused : HoldsLargest (of 5 1 ∷ of 5 2 ∷ []) (of 5 1 ∷ []) → ⊥
unfolding has first_with latest
old_refused h = let q : ◌≡◌ {A = ℕ} 1 2 = ap (λ (c : Checksum). c.low) (h.checksums 5 refl) in omega arith

more_refused : HoldsLargest (all_of (falling 33 100) 1) (all_of (falling 33 100) 1) → ⊥
more_refused h = omega (arith, largest_few (all_of (falling 33 100) 1) (all_of (falling 33 100) 1) h)
