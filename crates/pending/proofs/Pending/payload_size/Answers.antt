-- `payload_size` is the count times the bytes of a frame, at most 129 times 64; every input held has its 64 bytes.
use Rattle.std.proofs.Common.{rules, ◌≡◌, ◌≤◌, ◌∙◌, length, arith}
use native.Mathlib.Nat.{mul-le-mul, lt_of_le_of_lt}
use lib.Dec.{lit<}
use Rattle.base.proofs.Arrays.{unmap}
use Rattle.fixed_vec.specs.FixedVec.{held}
use Rattle.packing.proofs.Inputs.{Full, slots_full, take_full}
use Rattle.pending.specs.Pending.{waiting}
use Rattle.pending.proofs.Laws.{waiting-le}
use Rattle.pending.proofs.Widths.{payload-length}
use Rattle.pending.proofs.Pending.payload_size.Goals as goal

pub overflow_mul-result : goal.overflow_mul-result
overflow_mul-result c =
    let s = c.args.self.now in
    let n : length s.inputs.list ≡ 129 = search (unmap, rules) in
    let l = waiting-le s in
    let most : c.count.result ≤ 129 = omega (arith, c.count.ensures) in
    let wide : c.min.result ≤ 64 = omega (arith, c.min.ensures) in
    record { fits = lt_of_le_of_lt (mul-le-mul most wide) (lit< tt) }

pub returns : goal.returns
unfolding waiting held
returns c =
    let s = c.args.self.now in
    let full : Full s.inputs.list = search (slots_full, rules) in
    let n : c.count.result ≡ length (waiting s) = c.count.ensures in
    let many : length s.inputs.list ≡ 129 = search (unmap, rules) in
    let l = waiting-le s in
    let most : c.count.result ≤ 129 = omega (arith, n) in
    let wide : c.min.result ≤ 64 = omega (arith, c.min.ensures) in
    record {
      counted = rw (n, c.min.ensures);
      most = mul-le-mul most wide;
      packed = λ reference h. payload-length c.args.width reference (waiting s) (take_full s.inputs.count s.inputs.list full) h ∙ rw (n, c.min.ensures);
    }
