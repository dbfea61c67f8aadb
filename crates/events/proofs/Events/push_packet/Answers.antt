-- `push_packet` announces frame after frame, for all of which there is room.
use Rattle.std.proofs.Common.{◌≡◌, ◌∙◌, sym, ap, ◌++◌, length, true, arith, add-zero, append_assoc, length-append, rules}
use native.Mathlib.Nat.{sub-zero}
use Rattle.packing.specs.Packing.{frames_of}
use Rattle.events.specs.Events.{held_events, ahead, announced_all, packet_fits}
use Rattle.events.proofs.Laws.{ahead_given, packet_fits_true, packet_turn, packet_end, packet_length}
use Rattle.events.proofs.Events.push_packet.Goals as goal

pub loop-k-init : goal.loop-k-init
loop-k-init c =
    let a = c.args in
    let f = a.frames in
    let b : held_events c.append_both.new.self ≡ held_events a.self.now ++ ahead a.notices.resumed a.notices.disconnected =
    c.append_both.ensures ∙ rw (c.then_some.ensures, c.then_some-2.ensures, ahead_given) in
    let fit = packet_fits_true (held_events a.self.now ++ ahead a.notices.resumed a.notices.disconnected) f.first f.count a.handles.now (sym c.packet_fits.ensures ∙ c.if-not-packet_fits.false) in
    let some = announced_all f.first a.size a.handles.now (frames_of f.width a.reference.now f.count a.payload.now) in (
      fit.0,
      omega (arith, fit.1, ap length b, length-append (held_events c.append_both.new.self) some, packet_length f.first a.size f.width a.reference.now a.handles.now a.payload.now f.count),
      rw (add-zero, sub-zero),
    )

pub loop-k-preserved : goal.loop-k-preserved
loop-k-preserved c =
    let a = c.args in
    let f = a.frames in
    let l = c.loop-k in
    let long : length a.reference.now ≡ 64 = search rules in (
      l.invariant.0,
      l.invariant.1,
      rw (c.split_at.ensures.back, c.min.ensures)
          (packet_turn f.first a.size f.width a.reference.now a.handles.now l.rest.now f.count l.k (held_events l.self) _ l.invariant.2 _ _ c.loop-k-test.true (omega arith) c.frame_at-bytes.ensures c.announce.ensures),
    )

pub returns : goal.returns
returns c =
    let a = c.args in
    let f = a.frames in
    let l = c.loop-k in
    let e = packet_end f.first a.size f.width a.reference.now a.handles.now l.rest.now f.count l.k (held_events l.self) _ l.invariant.2 c.loop-k-test.false in
    let b : held_events c.append_both.new.self ≡ held_events a.self.now ++ ahead a.notices.resumed a.notices.disconnected =
    c.append_both.ensures ∙ rw (c.then_some.ensures, c.then_some-2.ensures, ahead_given) in
    let t : packet_fits (held_events a.self.now ++ ahead a.notices.resumed a.notices.disconnected) f.first f.count a.handles.now ≡ true = sym c.packet_fits.ensures ∙ c.if-not-packet_fits.false in
    record { answer = rw t; view = rw t (e ∙ rw (b, append_assoc)); same = λ r q. cc }
