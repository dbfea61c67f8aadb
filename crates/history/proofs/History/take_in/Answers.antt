-- `take_in` drops below the keep line that the packet makes, then appends what stays of the packet: by `taken_by` that is append all, then keep.
use Rattle.std.proofs.Common.{◌≡◌, ◌-◌, ◌*◌, ◌/◌, ◌^◌, ◌≤◌, ℕ, List, length, take, arith}
use mathlib.Core.Path.{◌∙◌}
use native.Mathlib.Nat.{mul-le-mul_right, div-mul-le_self}
use Rattle.fixed_vec.specs.FixedVec.{held}
use Rattle.packing.specs.Packing.{frames_of, unpack}
use Rattle.packing.proofs.Laws.{unpack-take, frames_length}
use Rattle.history.specs.History.{received, packet_of}
use Rattle.history.proofs.TakenIn.{taken_by}
use Rattle.history.proofs.History.take_in.Goals as goal

pub append-requires : goal.append-requires
unfolding received
append-requires c =
    let a = c.args in
    let n = c.arriving-count in
    let width = a.packet.now.width in
    let whole : n.result * width ≤ length a.payload.now / width * width = mul-le-mul_right width (omega (arith, n.ensures)) in
    (omega (arith, n.ensures), omega (arith, div-mul-le_self (length a.payload.now) width), c.retain.ensures.fits)

pub returns : goal.returns
unfolding packet_of received
returns c =
    let a = c.args in
    let packet = a.packet.now in
    let n = c.arriving-count in
    let last = c.after in
    let fs : List (List ℕ) = frames_of packet.width packet.reference.bytes n.result a.payload.now in
    let long : length fs ≡ n.result = frames_length packet.width packet.reference.bytes n.result a.payload.now in
    let whole : take (2 ^ 32 - packet.start) (unpack packet.width packet.reference.bytes a.payload.now) ≡ fs
    = unpack-take packet.width packet.reference.bytes (2 ^ 32 - packet.start) a.payload.now ∙ rw n.ensures in
    taken_by a.newest a.max_prediction (received a.self.now) (held c.retain.new.self) (received c.append.new.self) packet.start fs last.result
    (last.ensures ∙ rw long) c.retain.ensures.value c.append.ensures
    ∙ rw whole
