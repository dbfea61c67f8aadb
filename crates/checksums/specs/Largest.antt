-- What a store of a firm size holds, read off the reports and not off the step that keeps it: the 32 largest distinct frames reported, or all of them while they are
-- fewer, in the order of their first reports (E-75), each with its latest checksum (E-72). Reports are given oldest first.
use Rattle.std.specs.Prelude.{true, List, [], ◌∷◌, map, ◌≡◌, refl, ℕ, ltb, eqb, length}
use Rattle.base.specs.Pick.{pick}
use Rattle.base.specs.Keyed.{kept, has, first_with, without}
use Rattle.ceilings.specs.Ceilings.{most_firm_checksums}
use Rattle.checksums.specs.declared.Checksum.{Checksum}
use Rattle.checksums.specs.Checksums.{checksum_frame, blank_checksum}
use Rattle.checksums.specs.Worked.{of, falling, all_of}

-- the distinct frames reported, each where it was reported first
unfoldable pub frames_of : List Checksum → List ℕ
frames_of [] = []
frames_of (c ∷ cs) = c.frame ∷ without (λ k. k) c.frame (frames_of cs)

-- how many of them are larger than a frame
unfoldable pub count_larger : (frame : ℕ) → List Checksum → ℕ
count_larger frame reports = length (kept (ltb frame) (frames_of reports))

-- the last report of a frame, or d where there is none
unfoldable pub latest : (frame : ℕ) → (d : Checksum) → List Checksum → Checksum
latest frame d [] = d
latest frame d (c ∷ cs) = latest frame (pick (eqb frame c.frame) c d) cs

-- those frames are held of which fewer than 32 larger ones were reported; each with its latest checksum
pub record HoldsLargest (reports l : List Checksum) : Type 0 where
  pub frames : map checksum_frame l ≡ kept (λ k. ltb (count_larger k reports) most_firm_checksums) (frames_of reports)
  pub checksums : (k : ℕ) → has checksum_frame k l ≡ true → first_with checksum_frame k blank_checksum l ≡ latest k blank_checksum reports

-- worked: frames 5, 9, 5, 7, 9 were reported. Three are distinct, and two of them are larger than 5; the latest of 5 is the third report
abbrev five_reports : List Checksum
five_reports = of 5 1 ∷ of 9 2 ∷ of 5 3 ∷ of 7 4 ∷ of 9 5 ∷ []

frames_example : frames_of five_reports ≡ 5 ∷ 9 ∷ 7 ∷ []
unfolding frames_of without kept
frames_example = refl

larger_example : count_larger 5 five_reports ≡ 2
unfolding count_larger frames_of without kept
larger_example = refl

largest_example : count_larger 9 five_reports ≡ 0
unfolding count_larger frames_of without kept
largest_example = refl

latest_example : latest 5 blank_checksum five_reports ≡ of 5 3
unfolding latest
latest_example = refl

-- of the reports of 163 down to 100, 31 frames are larger than 132 and 32 than 131: so 163 down to 132 are held
held_example : (l : List Checksum) → HoldsLargest (all_of (falling 64 100) 1) l → map checksum_frame l ≡ falling 32 132
unfolding count_larger frames_of without kept
held_example l h = h.frames
