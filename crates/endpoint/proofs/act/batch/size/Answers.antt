-- `size` adds the sizes of what is due: at most 8,307 bytes, 24 and 6.
use mathlib.Core.Path.{◌≡◌}
use Prim.Native.Nat.{◌≤◌}
use native.Mathlib.Omega.{arith}
use Rattle.std.proofs.Common.{ℕ, ◌*◌, Bool, true, false}
use mir.Val.{bool_byte}
use Rattle.endpoint.proofs.act.batch.size.Goals as goal
use Rattle.endpoint.proofs.act.batch.size.Goals.{After-input_size}

-- what is due or nothing
once : (b : Bool) (r n m : ℕ) → r ≡ bool_byte b → n ≤ m → r * n ≤ m
once true r n m h k = rw h (omega (arith, k))
once false r n m h k = rw h (omega arith)

pub overflow_add-result : goal.overflow_add-result
overflow_add-result c =
    let sized : After-input_size = search in
    let inputs : c.from.result * c.input_size.result ≤ 8307 = once _ _ _ _ c.from.ensures sized.input_size.ensures.most in
    let report : c.from-2.result * 24 ≤ 24 = once _ _ _ _ c.from-2.ensures (omega arith) in
    record { fits = omega (arith, inputs, report) }

pub overflow_add-result-2 : goal.overflow_add-result-2
overflow_add-result-2 c =
    let sized : After-input_size = search in
    let inputs : c.from.result * c.input_size.result ≤ 8307 = once _ _ _ _ c.from.ensures sized.input_size.ensures.most in
    let report : c.from-2.result * 24 ≤ 24 = once _ _ _ _ c.from-2.ensures (omega arith) in
    let alive : c.from-3.result * 6 ≤ 6 = once _ _ _ _ c.from-3.ensures (omega arith) in
    record { fits = omega (arith, inputs, report, alive) }
