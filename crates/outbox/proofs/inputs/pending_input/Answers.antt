-- Where the head was written there is room for the payload behind it.
use Rattle.std.proofs.Common.{◌≡◌, ℕ, length, rules, arith}
use Rattle.std.proofs.lemmas.Result.{err_from_is_err_and}
use Rattle.frame.specs.Bias.{null_frame}
use Rattle.status.specs.Statuses.{held_statuses}
use Rattle.status.specs.declared.list.Statuses.{Statuses}
use Rattle.status.proofs.Held.{held_le}
use Rattle.packing.specs.declared.input_bytes.InputBytes.{InputBytes}
use Rattle.pending.specs.Pending.{SizedAs, waiting, first_frame}
use Rattle.pending.specs.declared.Pending.{Pending}
use Rattle.codec.specs.Message.{Reports}
use Rattle.outbox.specs.Outbox.{StatusReportsAs}
use Rattle.outbox.proofs.Packed.{Prepared, input_full, input_room, input_queued}
use Rattle.outbox.proofs.inputs.pending_input.Goals as goal

ready : (statuses : Statuses) (pending : Pending) (width : ℕ) (acked : InputBytes) (start : ℕ) (rs : Reports) (size : ℕ)
    → length acked.bytes ≡ 64 → length rs.list ≡ 4 → length statuses.list ≡ 4
    → start ≡ first_frame null_frame (waiting pending) → StatusReportsAs (held_statuses statuses) rs → SizedAs pending width size
    → Prepared (held_statuses statuses) (waiting pending) width acked start rs size
ready statuses pending width acked start rs size bytes four list first reports sized =
    record {
      few = omega (arith, held_le statuses);
      first = first;
      reports = reports;
      four = four;
      packed = sized.packed acked bytes;
      short = sized.most;
    }

pub returns-in_err-end : goal.returns-in_err-end
returns-in_err-end c =
    let a = c.args in
    let size = c.payload_size-size in
    let rs = c.reports_of in
    let p = err_from_is_err_and c.from_residual.result c.from_residual.ensures.1 in
    rw (p.1, p.2)
    (input_full a.out.now a.at a.magic a.ack (held_statuses a.statuses) (waiting a.pending.now) a.width a.acked c.first_frame.result rs.result size.result
    (ready a.statuses a.pending.now a.width a.acked _ rs.result size.result (search rules) (search rules) (search rules) c.first_frame.ensures rs.ensures size.ensures)
    _ c.write_head.new.out c.in_err-end.ensures)

pub overflow_add-result : goal.overflow_add-result
overflow_add-result c =
    let a = c.args in
    let size = c.payload_size-size in
    let rs = c.reports_of in
    omega (
      arith,
      input_room a.out.now a.at a.magic a.ack (held_statuses a.statuses) (waiting a.pending.now) a.width a.acked c.first_frame.result rs.result size.result
          (ready a.statuses a.pending.now a.width a.acked _ rs.result size.result (search rules) (search rules) (search rules) c.first_frame.ensures rs.ensures size.ensures)
          c.in_ok-end.end c.write_head.new.out c.in_ok-end.ensures,
    )

pub returns : goal.returns
returns c =
    let a = c.args in
    let size = c.payload_size-size in
    let rs = c.reports_of in
    input_queued a.out.now a.at a.magic a.ack (held_statuses a.statuses) (waiting a.pending.now) a.width a.acked c.first_frame.result rs.result size.result
    (ready a.statuses a.pending.now a.width a.acked _ rs.result size.result (search rules) (search rules) (search rules) c.first_frame.ensures rs.ensures size.ensures)
    c.in_ok-end.end c.write_head.new.out c.in_ok-end.ensures c.pack_all.result c.pack_all.new.out c.pack_all.ensures (omega arith) (search rules)
