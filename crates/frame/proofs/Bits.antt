-- Laws of the bits on the wire, for any bias h: they fit twice the bias, taking them twice gives the number back, and they are the toolchain's own bits of the signed number.
use mathlib.Core.Path.{◌≡◌, sym, ap, ◌∙◌}
use Prim.Native.Nat.{ℕ, suc, ◌+◌, ◌-◌, ◌^◌, ◌≤◌, ◌<◌}
use native.Mathlib.Omega.{arith}
use native.Mathlib.Nat.{mod-lt, mod-eq_of_lt, mod-add-mod, add-mod_right, add_assoc}
use lib.IntN.{ℤ, pos, negsuc}
use lib.Signed.{mag}
use mir.Syntax.{Width, w32}
use mir.Val.{SFits, hbits, of_z, to_z}
use mir.ValLaws.{pow-bits}
use Rattle.std.proofs.Math.Facts.{to_z-of_z}
use Rattle.frame.specs.Bias.{bias32, biased, signed, bits_of}
use Rattle.frame.proofs.Signed.{biased_neg, biased_below, biased-signed, signed_within}

module _ (h n : ℕ) where
  pub bits_below : 0 < h → bits_of h n < h + h
  unfolding bits_of
  bits_below k = mod-lt (n + h) (omega arith)

  -- the lower half goes up, the upper half down
  pub bits_low : n < h → bits_of h n ≡ n + h
  unfolding bits_of
  bits_low k = mod-eq_of_lt (omega arith)

  pub bits_high : h ≤ n → n < h + h → bits_of h n ≡ n - h
  unfolding bits_of
  bits_high k l = let e : n + h ≡ n - h + (h + h) = omega arith in rw (e, add-mod_right) (mod-eq_of_lt (omega arith))

  pub bits_bits : n < h + h → bits_of h (bits_of h n) ≡ n
  unfolding bits_of
  bits_bits k = rw (mod-add-mod, add_assoc, add-mod_right) (mod-eq_of_lt k)

-- `of_z w z` is the toolchain's two's complement of z at the width w
pub bits_are : (w : Width) (z : ℤ) → SFits w z → bits_of (2 ^ hbits w) (biased (2 ^ hbits w) z) ≡ of_z w z
unfolding bits_of biased
bits_are w (pos a) f = rw (add_assoc, add-mod_right) (mod-eq_of_lt (omega (arith, f.sfits)))
bits_are w (negsuc a) f =
    let k : a < 2 ^ hbits w = f.sfits in
    rw (biased_neg (2 ^ hbits w) a k) (bits_low (2 ^ hbits w) (2 ^ hbits w - suc a) (omega arith) ∙ omega (arith, pow-bits w))

-- so what holds a frame and the bits of its i32 are turned into each other
module _ (z : ℤ) (k : mag z < bias32) where
  fits : SFits w32 z
  fits = record { sfits = k }

  pub bits_held : bits_of bias32 (of_z w32 z) ≡ biased bias32 z
  bits_held = ap (bits_of bias32) (sym (bits_are w32 z fits)) ∙ bits_bits bias32 (biased bias32 z) (biased_below bias32 z k)

  pub back_to : to_z w32 (bits_of bias32 (biased bias32 z)) ≡ z
  back_to = ap (to_z w32) (bits_are w32 z fits) ∙ to_z-of_z fits

pub held_bits : (n : ℕ) → n < 2 ^ 32 → to_z w32 (bits_of bias32 n) ≡ signed bias32 n
held_bits n k =
    ap (λ (m : ℕ). to_z w32 (bits_of bias32 m)) (sym (biased-signed bias32 n k)) ∙ back_to (signed bias32 n) (signed_within bias32 n k)
