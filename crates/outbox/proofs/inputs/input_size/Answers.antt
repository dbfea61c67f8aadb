-- At most 4 statuses are held, and what is pending takes at most 8256 bytes.
use Rattle.std.proofs.Common.{◌≡◌, length, rules, arith}
use Rattle.status.proofs.Held.{held_le}
use Rattle.outbox.proofs.inputs.input_size.Goals as goal

pub overflow_add-result-2 : goal.overflow_add-result-2
overflow_add-result-2 c =
    let a = c.args in
    let size = c.payload_size in
    let four : length a.statuses.list ≡ 4 = search rules in
    omega (arith, held_le a.statuses, size.ensures.most)
