-- `append` stores the frames of a payload that are new and stay, one after the other, until there is no more room.
use Rattle.std.proofs.Common.{◌≡◌, ◌+◌, ◌-◌, ◌*◌, ◌≤◌, ◌<◌, [], ◌∷◌, suc, length, length-append, arith, Bool, sym, ◌∙◌}
use native.Mathlib.Nat.{suc-mul, add-zero, sub-zero}
use Rattle.packing.specs.declared.input_bytes.InputBytes.{InputBytes}
use Rattle.history.specs.History.{received, new_and_kept}
use Rattle.history.proofs.Laws.{next, fill_turn, pass_turn, fill_end, fill_full, push_room}
use Rattle.history.proofs.History.append.Goals.{then-takes, else-takes}
use Rattle.history.proofs.History.append.Goals as goal

pub loop-k-init : goal.loop-k-init
loop-k-init c = record { most = c.requires.2; left = rw sub-zero (omega (arith, c.requires.1)); taken = rw (add-zero, sub-zero) }

pub returns-then-count-ge-MOST_RECEIVED : goal.returns-then-count-ge-MOST_RECEIVED
returns-then-count-ge-MOST_RECEIVED c =
    let a = c.args in
    let l = c.loop-k in
    let i = l.invariant in
    let packet = a.packet.now in
    let line = a.line.now in
    let p : InputBytes → Bool = (λ x. new_and_kept a.newest line.newest line.max_prediction x.frame) in
    sym (fill_full packet.start packet.width packet.reference.bytes a.payload.now a.count p (received l.self) l.k l.place (omega (arith, i.most, c.count.ensures))) ∙ i.taken

pub loop-k-preserved : goal.loop-k-preserved
unfolding received
loop-k-preserved c =
    let a = c.args in
    let l = c.loop-k in
    let i = l.invariant in
    let packet = a.packet.now in
    let line = a.line.now in
    let p : InputBytes → Bool = (λ x. new_and_kept a.newest line.newest line.max_prediction x.frame) in
    -- the payload's bytes left after this frame
    let n : a.count - l.k ≡ suc (a.count - (l.k + 1)) = omega arith in
    let m = suc-mul (a.count - (l.k + 1)) packet.width in
    let q : l.place + suc (a.count - (l.k + 1)) * packet.width ≤ length a.payload.now = rw n at i.left in
    let left : l.place + packet.width + (a.count - (l.k + 1)) * packet.width ≤ length a.payload.now = omega arith in
    elim c.if-takes.branch [
      | then-takes w ↦
          let room : length (received l.self) < 33 = omega (arith, c.count.ensures) in
          let pushed = push_room l.self.inputs w.push.new.self _ w.push.result w.push.ensures room in
          let one = length-append (received l.self) (next packet.start packet.width packet.reference.bytes a.payload.now a.count l.k l.place ∷ []) in
          rw (w.self-is) (record {
            most = rw (pushed, w.frame_at-bytes.ensures) (omega (arith, one, room));
            left = left;
            taken = rw (pushed, w.frame_at-bytes.ensures) (fill_turn packet.start packet.width packet.reference.bytes a.payload.now a.count p (received l.self) _ l.k l.place (omega arith) i.taken (sym c.takes.ensures ∙ w.if-takes.true));
          })
      | else-takes w ↦
          rw w.self-is (record {
            most = i.most;
            left = left;
            taken = pass_turn packet.start packet.width packet.reference.bytes a.payload.now a.count p (received l.self) _ l.k l.place (omega arith) i.taken (sym c.takes.ensures ∙ w.if-takes.false);
          })
    ]

pub returns : goal.returns
unfolding received
returns c =
    let a = c.args in
    let l = c.loop-k in
    let i = l.invariant in
    let packet = a.packet.now in
    let line = a.line.now in
    let p : InputBytes → Bool = (λ x. new_and_kept a.newest line.newest line.max_prediction x.frame) in
    sym (fill_end packet.start packet.width packet.reference.bytes a.payload.now a.count p (received l.self) l.k l.place (omega arith) i.most) ∙ i.taken
