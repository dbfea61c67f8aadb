-- The product of the half trip and fps is taken in u64: it fits, since both are below 2^32.
use Prim.Native.Nat.{ℕ, ◌*◌, ◌^◌, ◌<◌}
use mathlib.Core.Path.{◌≡◌}
use native.Mathlib.Omega.{arith}
use native.Mathlib.Nat.{mul-le-mul}
use Rattle.quality.specs.Advantage.{half_trip}

pub product_fits : (time fps half : ℕ) → half ≡ half_trip time → fps < 2 ^ 32 → half * fps < 2 ^ 64
product_fits time fps half e f = omega (arith, mul-le-mul {n₁ = half} {m₁ = fps} {n₂ = 0x7FFF_FFFF} {m₂ = 0xFFFF_FFFF} (omega arith) (omega arith))
