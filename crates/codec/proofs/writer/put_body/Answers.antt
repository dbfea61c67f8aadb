-- Each arm puts the fields of its body, for which there is room.
use Rattle.std.proofs.Common.{sym, rules, arith}
use Rattle.base.proofs.Lay.{laid_none}
use Rattle.codec.specs.Message.{is_input}
use Rattle.codec.specs.Bytes.{body_bytes}
use Rattle.codec.proofs.Bodies.{fits_none, room_as, body_put}
use Rattle.codec.proofs.Put.{put_both, room_first, room_second}
use Rattle.codec.proofs.writer.put_body.Goals as goal

pub put_statuses-next-requires-clause-room : goal.put_statuses-next-requires-clause-room
unfolding is_input body_bytes
put_statuses-next-requires-clause-room c =
    let a = c.args in
    room_first _ _ _ _ (room_as a.message a.length a.out.now a.at _ c.in-Input.is c.requires.room)

pub put_input-requires : goal.put_input-requires
unfolding is_input body_bytes
put_input-requires c =
    let a = c.args in
    let first = c.put_statuses-next in
    room_second _ _ _ _ (room_as a.message a.length a.out.now a.at _ c.in-Input.is c.requires.room) _ _ first.ensures.put first.auto.out

pub returns-in-SyncRequest : goal.returns-in-SyncRequest
unfolding is_input body_bytes
returns-in-SyncRequest c =
    let a = c.args in
    let p = c.put_u32 in
    body_put a.message a.length a.out.now a.at _ c.in-SyncRequest.is p.result p.new.out p.ensures (search rules) fits_none

pub returns-in-SyncReply : goal.returns-in-SyncReply
unfolding is_input body_bytes
returns-in-SyncReply c =
    let a = c.args in
    let p = c.put_u32-in-SyncReply in
    body_put a.message a.length a.out.now a.at _ c.in-SyncReply.is p.result p.new.out p.ensures (search rules) fits_none

pub returns-in-Input : goal.returns-in-Input
unfolding is_input body_bytes
returns-in-Input c =
    let a = c.args in
    let v = c.in-Input in
    let first = c.put_statuses-next in
    let then = c.put_input in
    body_put a.message a.length a.out.now a.at _ v.is then.result then.new.out
    (put_both _ _ _ _ (room_as a.message a.length a.out.now a.at _ v.is c.requires.room) _ _ first.ensures.put _ _ then.ensures) (search rules) first.ensures.frames

pub returns-in-InputAck : goal.returns-in-InputAck
unfolding is_input body_bytes
returns-in-InputAck c =
    let a = c.args in
    let p = c.put_frame in
    body_put a.message a.length a.out.now a.at _ c.in-InputAck.is p.result p.new.out p.ensures (search rules) fits_none

pub returns-in-QualityReport : goal.returns-in-QualityReport
unfolding is_input body_bytes
returns-in-QualityReport c =
    let a = c.args in
    let p = c.put_quality in
    body_put a.message a.length a.out.now a.at _ c.in-QualityReport.is p.result p.new.out p.ensures (search rules) fits_none

pub returns-in-QualityReply : goal.returns-in-QualityReply
unfolding is_input body_bytes
returns-in-QualityReply c =
    let a = c.args in
    let p = c.put_wide in
    body_put a.message a.length a.out.now a.at _ c.in-QualityReply.is p.result p.new.out p.ensures (search rules) fits_none

pub returns-in-ChecksumReport : goal.returns-in-ChecksumReport
unfolding is_input body_bytes
returns-in-ChecksumReport c =
    let a = c.args in
    let p = c.put_checksum in
    body_put a.message a.length a.out.now a.at _ c.in-ChecksumReport.is p.result p.new.out p.ensures (search rules) fits_none

pub returns-in-KeepAlive : goal.returns-in-KeepAlive
unfolding is_input body_bytes
returns-in-KeepAlive c =
    let a = c.args in
    body_put a.message a.length a.out.now a.at _ c.in-KeepAlive.is a.at a.out.now
    (record { next = omega arith; laid = sym (laid_none a.out.now a.at) }) tt fits_none
