-- The end of what was read of the rest of the queue.
use Rattle.std.proofs.Common.{◌≡◌, ◌-◌, sym, length, take, drop, length-drop, arith}
use lib.Seq.{take_all}
use Rattle.codec.proofs.Fronts.{end_found}
use Rattle.codec.proofs.Queue.{message_end_unread}
use Rattle.codec.proofs.reader.message_end.Goals as goal

pub returns-in-Ok : goal.returns-in-Ok
returns-in-Ok c =
    let queue = c.args.queue.now in
    let at = c.args.at in
    let rest : take (length queue - at) (drop at queue) ≡ drop at queue = take_all (length queue - at) (drop at queue) (simp length-drop (omega arith)) in
    end_found queue at c.in-Ok.front (rw rest at c.in-Ok.ensures) (omega arith)

pub returns-in-Err : goal.returns-in-Err
returns-in-Err c =
    let queue = c.args.queue.now in
    let at = c.args.at in
    let rest : take (length queue - at) (drop at queue) ≡ drop at queue = take_all (length queue - at) (drop at queue) (simp length-drop (omega arith)) in
    sym (message_end_unread queue at _ (rw rest at c.in-Err.ensures))
