-- Words for the worked examples: frames, and reports of them. A frame is held 2^31 above its signed number (docs/FRAMES.md): `biased 100` is frame 100, and 0 is the
-- least frame, i32 min.
use Rattle.std.specs.Prelude.{List, [], ◌∷◌, map, ℕ, zero, suc, ◌+◌}
use Rattle.checksums.specs.declared.Checksum.{Checksum}

abbrev pub biased : ℕ → ℕ
biased frame = 2147483648 + frame

-- the report of a frame, with a checksum
abbrev pub of : (frame low : ℕ) → Checksum
of frame low = record { frame = frame; low = low; high = 7 }

-- n frames, from the lowest up, or down to it
abbrev pub rising : (n lowest : ℕ) → List ℕ
rising zero lowest = []
rising (suc n) lowest = lowest ∷ rising n (suc lowest)

abbrev pub falling : (n lowest : ℕ) → List ℕ
falling zero lowest = []
falling (suc n) lowest = (lowest + n) ∷ falling n lowest

-- some frames, each with a checksum
abbrev pub all_of : List ℕ → (low : ℕ) → List Checksum
all_of ks low = map (λ k. of k low) ks
