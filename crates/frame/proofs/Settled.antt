-- Two answers that a contract allows are equal, by name for each public function.
use mathlib.Core.Path.{◌≡◌}
use Prim.Native.Nat.{ℕ}
use lib.IntN.{ℤ}
use Rattle.base.proofs.Settled.{settled}
use Rattle.frame.specs.Bias.{bias32, bias16, biased, signed, bits_of}

pub from_signed_settled : (frame : ℤ) (r s : ℕ) → r ≡ biased bias32 frame → s ≡ biased bias32 frame → r ≡ s
from_signed_settled frame = settled (λ r. r) (biased bias32 frame)

module _ (n : ℕ) where
  pub to_signed_settled : (r s : ℤ) → r ≡ signed bias32 n → s ≡ signed bias32 n → r ≡ s
  to_signed_settled = settled (λ r. r) (signed bias32 n)

  pub bits_of_settled : (r s : ℕ) → r ≡ bits_of bias32 n → s ≡ bits_of bias32 n → r ≡ s
  bits_of_settled = settled (λ r. r) (bits_of bias32 n)

  pub advantage_bits_of_settled : (r s : ℕ) → r ≡ bits_of bias16 n → s ≡ bits_of bias16 n → r ≡ s
  advantage_bits_of_settled = settled (λ r. r) (bits_of bias16 n)
