-- The Input of all that is pending is one that the writer takes, and queueing it keeps what holds.
use mathlib.Core.Bool.{false}
use mathlib.Core.List.{List, [], ◌∷◌, map}
use mathlib.Core.Path.{refl, sym, ◌∙◌}
use Prim.Native.Nat.{ℕ, zero, suc, ◌^◌, ◌≤◌, ◌<◌, min}
use native.Mathlib.Omega.{arith}
use native.Mathlib.Nat.{mul-le-mul}
use lib.ListN.{length, length-map}
use Rattle.frame.specs.Bias.{null_frame}
use Rattle.packing.specs.declared.input_bytes.InputBytes.{InputBytes}
use Rattle.pending.specs.Pending.{first_frame, last_frame}
use Rattle.pending.proofs.Widths.{payload-length}
use Rattle.status.specs.declared.ConnectionStatus.{ConnectionStatus}
use Rattle.codec.specs.Message.{Fits, FitsReports}
use Rattle.codec.proofs.Meant.{input_is}
use Rattle.outbox.specs.Outbox.{report_of, pending_input}
use Rattle.setup.specs.Setup.{sending_width}
use Rattle.endpoint_rules.specs.Seen.{Seen}
use Rattle.endpoint_rules.specs.Did.{Effect}
use Rattle.endpoint_rules.specs.Sending.{pending_in, pending_queued}
use Rattle.endpoint_invariant.specs.Each.{Each}
use Rattle.endpoint_invariant.specs.Sound.{Sound, SoundSender, SoundStatus, Consecutive}
use Rattle.endpoint_invariant.proofs.Choices.{never}
use Rattle.endpoint_invariant.proofs.Padding.{kept_full, bytes-payload}
use Rattle.endpoint_invariant.proofs.Senders.{sends, consecutive_last}
use Rattle.endpoint_invariant.proofs.Effects.{Good, queued_good}

-- statuses as they travel
reports_fit : (l : List ConnectionStatus) → Each SoundStatus l → FitsReports (map report_of l)
unfolding Each report_of
reports_fit [] h i d b = absurd (omega arith)
reports_fit (x ∷ l) h zero d b = h.0
reports_fit (x ∷ l) h (suc i) d b = reports_fit l h.1 i d (omega arith)

-- the first frame is one, for the last is
first_small : (width : ℕ) (l : List InputBytes) (r : InputBytes) → SoundSender width (sends l r) → first_frame null_frame l < 2 ^ 32
unfolding first_frame last_frame Consecutive
first_small width [] r h = omega arith
first_small width (x ∷ l) r h = omega (arith, h.last, consecutive_last (suc x.frame) x.frame l refl h.consecutive.1)

module _ (statuses : List ConnectionStatus) (few : length statuses ≤ 4) (frames : Each SoundStatus statuses) where
  pub pending_fits : (s : Seen) → Sound s → Fits (pending_in statuses s)
  unfolding pending_input
  pending_fits s h =
      let x = s.carried.sender in
      let width = sending_width s.setup in
      let most : length x.pending ≤ 129 = h.sender.count in
      let narrow : min width 64 ≤ 64 = omega arith in
      let size = payload-length width x.acked x.pending (kept_full width x.pending h.sender.inputs) h.sender.reference.size in
      record {
        magic = omega (arith, h.setup.magic.1);
        body = (first_small width x.pending x.acked h.sender, h.receiver.newest);
        frames = reports_fit statuses frames;
        statuses = rw (length-map statuses report_of) few;
        length = rw size (mul-le-mul most narrow);
        bytes = bytes-payload width x.acked x.pending h.sender.reference h.sender.inputs;
        none = λ e. never (sym e ∙ input_is false (first_frame null_frame x.pending) _);
      }

  pub pending_good : (now : ℕ) → now < 2 ^ 62 → (l : List InputBytes) (e : Effect) → Good e → Good (pending_queued now statuses l e)
  unfolding pending_queued
  pending_good now small [] e g = g
  pending_good now small (x ∷ l) e g = queued_good e g now small (pending_in statuses e.state) (pending_fits e.state g.state)
