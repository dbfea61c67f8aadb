-- Signed numbers as numbers from 0 on, over the bias h: z is held as z + h. A frame has the bias 2^31, an advantage on the wire 2^15.
use Rattle.std.specs.Prelude.{◌≡◌, refl, ℕ, ◌+◌, ◌%◌, ◌^◌, ℤ, pos, negsuc, nat_abs, ◌+ℤ◌, ◌-ℤ◌}

abbrev pub bias32 : ℕ
bias32 = 2 ^ 31

abbrev pub bias16 : ℕ
bias16 = 2 ^ 15

-- frame -1
abbrev pub null_frame : ℕ
null_frame = 0x7FFF_FFFF

-- what holds a signed number: z + h, which is not negative for z from -h on
unfoldable pub biased : ℕ → ℤ → ℕ
biased h z = nat_abs (z +ℤ pos h)

-- the signed number held: n - h
unfoldable pub signed : ℕ → ℕ → ℤ
signed h n = pos n -ℤ pos h

-- the two's complement bits of the signed number held; h + h is the power of two that the bits reach
unfoldable pub bits_of : ℕ → ℕ → ℕ
bits_of h n = (n + h) % (h + h)

-- worked: the least frame, the greatest advantage on the wire, and the bits of -1
least_held : biased bias32 (negsuc 2147483647) ≡ 0
unfolding biased
least_held = refl

greatest_held : signed bias16 65535 ≡ pos 32767
unfolding signed
greatest_held = refl

null_bits : bits_of bias32 null_frame ≡ 0xFFFF_FFFF
unfolding bits_of
null_bits = refl
