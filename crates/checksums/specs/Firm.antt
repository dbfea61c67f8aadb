-- The store in firm mode: what one more report does to it (E-72 to E-75). What it then holds of all that was reported is said in Largest.antt, without this step.
use Rattle.std.specs.Prelude.{Bool, ◌||◌, List, [], ◌∷◌, ◌++◌, map, ◌≡◌, refl, ℕ, suc, min, ltb, length}
use Rattle.base.specs.Pick.{pick}
use Rattle.base.specs.Keyed.{kept, has, put}
use Rattle.ceilings.specs.Ceilings.{most_firm_checksums}
use Rattle.checksums.specs.declared.Checksum.{Checksum}
use Rattle.checksums.specs.Worked.{biased, of, rising, falling, all_of}
use Rattle.checksums.specs.Checksums.{checksum_frame, kept_from, others_full, full_after, with_report, cleaned, too_early}

-- the smallest frame stored; of none 0
unfoldable pub smallest : List Checksum → ℕ
smallest [] = 0
smallest (x ∷ []) = x.frame
smallest (x ∷ y ∷ l) = min x.frame (smallest (y ∷ l))

-- a report in firm mode. Its frame is stored, or fewer than 32 are: it is put, at its frame's place or at the end (E-72, E-75). Its frame is smaller than all that are
-- stored: it is not stored (E-73). Else the smallest is dropped, and it is put at the end
unfoldable pub firmly : Checksum → List Checksum → List Checksum
firmly c l =
    pick (has checksum_frame c.frame l || ltb (length l) most_firm_checksums) (put checksum_frame c l)
    (pick (ltb c.frame (smallest l)) l (put checksum_frame c (kept_from (suc (smallest l)) l)))

-- for the code: the line from which on checksums are kept, above the smallest where that is dropped, else 0, so all are. A frame below the line is not stored
unfoldable pub firm_line : (count : ℕ) → (held : Bool) → (least : ℕ) → ℕ
firm_line count held least = pick (held || ltb count most_firm_checksums) 0 (suc least)

-- ---- worked (words: Worked.antt)

-- reports one after the other: in firm mode, and by the crate's rule at interval 1
abbrev pub firmly_all : (reports l : List Checksum) → List Checksum
firmly_all [] l = l
firmly_all (c ∷ cs) l = firmly_all cs (firmly c l)

abbrev report_all : (reports l : List Checksum) → List Checksum
report_all [] l = l
report_all (c ∷ cs) l = report_all cs (with_report c 1 l)

-- 163 down to 100: by the crate's rule all 64 are stored. In firm mode those from 132 on are, and neither 131 to 100 nor then 99 changes anything
crate_falling_example : report_all (all_of (falling 64 (biased 100)) 1) [] ≡ all_of (falling 64 (biased 100)) 1
unfolding with_report full_after others_full cleaned too_early kept has put
crate_falling_example = refl

abbrev fallen : List Checksum
fallen = all_of (falling 32 (biased 132)) 1

falling_example : firmly_all (all_of (falling 64 (biased 100)) 1) [] ≡ fallen
unfolding firmly smallest kept has put
falling_example = refl

below_example : map (λ k. firmly (of k 2) fallen) (falling 33 (biased 99)) ≡ map (λ k. fallen) (falling 33 (biased 99))
unfolding firmly smallest kept has put
below_example = refl

-- then 164: 132 is dropped. Then 140 with another checksum: at its place. Then 132 again: not stored
abbrev with_164 : List Checksum
with_164 = all_of (falling 31 (biased 133)) 1 ++ of (biased 164) 2 ∷ []

dropped_example : firmly (of (biased 164) 2) fallen ≡ with_164
unfolding firmly smallest kept has put
dropped_example = refl

abbrev with_140 : List Checksum
with_140 = all_of (falling 23 (biased 141)) 1 ++ of (biased 140) 3 ∷ all_of (falling 7 (biased 133)) 1 ++ of (biased 164) 2 ∷ []

place_example : firmly (of (biased 140) 3) with_164 ≡ with_140
unfolding firmly smallest kept has put
place_example = refl

again_example : firmly (of (biased 132) 4) with_140 ≡ with_140
unfolding firmly smallest kept has put
again_example = refl

-- here the smallest stands between others, and the new frame is far above: the smallest alone is dropped, and the others close up
between_example : firmly (of (biased 1000) 3) with_164 ≡ all_of (falling 30 (biased 134)) 1 ++ of (biased 164) 2 ∷ of (biased 1000) 3 ∷ []
unfolding firmly smallest kept has put
between_example = refl

-- 31 stored, 0 to 30, then the least frame: 32 are stored, and it is the smallest. Then 31: it is dropped
abbrev with_least : List Checksum
with_least = all_of (rising 31 (biased 0)) 1 ++ of 0 2 ∷ []

least_example : firmly (of 0 2) (firmly_all (all_of (rising 31 (biased 0)) 1) []) ≡ with_least
unfolding firmly smallest kept has put
least_example = refl

smallest_example : smallest with_least ≡ 0
unfolding smallest
smallest_example = refl

abbrev pub risen : List Checksum
risen = all_of (rising 32 (biased 0)) 1

least_dropped_example : firmly (of (biased 31) 1) with_least ≡ risen
unfolding firmly smallest kept has put
least_dropped_example = refl

-- 0 to 31 stored, then the least frame: not stored
least_below_example : firmly (of 0 2) risen ≡ risen
unfolding firmly smallest kept has put
least_below_example = refl

-- the smallest is stored: reported again it gets its new checksum, and nothing is dropped
smallest_again_example : firmly (of (biased 0) 9) risen ≡ of (biased 0) 9 ∷ all_of (rising 31 (biased 1)) 1
unfolding firmly smallest kept has put
smallest_again_example = refl

-- frame 5 three times: one entry, the latest checksum
repeated_example : firmly (of (biased 5) 3) (firmly (of (biased 5) 2) (firmly (of (biased 5) 1) [])) ≡ of (biased 5) 3 ∷ []
unfolding firmly smallest kept has put
repeated_example = refl
