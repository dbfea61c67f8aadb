-- The checksums reported, and what one more report does to them by the crate's rule (E-35 to E-38; the crate's `on_checksum_report`).
use Rattle.std.specs.Prelude.{Bool, true, false, List, [], ◌∷◌, ◌≡◌, refl, ℕ, ◌-◌, ◌*◌, leb, ltb, length, Option, Some, None}
use Rattle.base.specs.Pick.{pick}
use Rattle.ceilings.specs.Ceilings.{most_checksums, clean_checksums}
use Rattle.base.specs.Keyed.{kept, has, first_with, put}
use Rattle.checksums.specs.declared.Checksum.{Checksum}
use Rattle.checksums.specs.declared.Checksums.{Checksums}
use Rattle.fixed_vec.specs.FixedVec.{held}

-- the checksums stored: a frame keeps its place while it is stored, a new one comes last; a count beyond the array is the array's length
unfoldable pub stored : Checksums → List Checksum
stored s = held s.entries

abbrev pub checksum_frame : Checksum → ℕ
checksum_frame c = c.frame

-- what stands for no checksum
abbrev pub blank_checksum : Checksum
blank_checksum = record { frame = 0; low = 0; high = 0 }

-- those of a frame or later
abbrev pub kept_from : ℕ → List Checksum → List Checksum
kept_from oldest l = kept (λ c. leb oldest c.frame) l

-- with 32 or more stored, those are kept that are at most 31 intervals older than the arriving frame
unfoldable pub cleaned : (frame interval : ℕ) → List Checksum → List Checksum
cleaned frame interval l = pick (leb clean_checksums (length l)) (kept_from (frame - 31 * interval) l) l

-- the frame from which on the clean-up keeps: with fewer than 32 stored the least, so all
unfoldable pub keep_line : (count frame interval : ℕ) → ℕ
keep_line count frame interval = pick (leb clean_checksums count) (frame - 31 * interval) 0

-- 6 (E-38): the line of the clean-up leaves i32, as a biased frame falls below 0; with fewer than 32 stored there is none
unfoldable pub too_early : (count frame interval : ℕ) → Bool
too_early count frame interval = pick (leb clean_checksums count) (ltb frame (31 * interval)) false

abbrev pub overflows : (frame interval : ℕ) → List Checksum → Bool
overflows frame interval l = too_early (length l) frame interval

-- 5: 64 others are stored (C-15)
unfoldable pub others_full : ℕ → List Checksum → Bool
others_full frame l = pick (has checksum_frame frame l) false (leb most_checksums (length l))

-- the first of a frame, where one is stored
abbrev pub FoundAs : Checksums → (frame : ℕ) → Option Checksum → Type 0
FoundAs s frame r = r ≡ pick (has checksum_frame frame (stored s)) (Some (first_with checksum_frame frame blank_checksum (stored s))) None

-- 6 before 5; done, the checksum is put into what the clean-up leaves
unfoldable pub full_after : (frame interval : ℕ) → List Checksum → Bool
full_after frame interval l = pick (overflows frame interval l) false (others_full frame (cleaned frame interval l))

unfoldable pub with_report : Checksum → (interval : ℕ) → List Checksum → List Checksum
with_report c interval l =
    pick (overflows c.frame interval l) l (pick (full_after c.frame interval l) l (put checksum_frame c (cleaned c.frame interval l)))

-- worked, at interval 10: with 31 stored nothing overflows, with 32 frame 309 does; frame 400 keeps from 90 on
early_example : too_early 31 300 10 ≡ false
unfolding too_early
early_example = refl

late_example : too_early 32 309 10 ≡ true
unfolding too_early
late_example = refl

line_example : kept_from (400 - 31 * 10) (record { frame = 89; low = 1; high = 2 } ∷ record { frame = 90; low = 3; high = 4 } ∷ []) ≡ record { frame = 90; low = 3; high = 4 } ∷ []
unfolding kept
line_example = refl
