-- What holds of an Input's first frame, and of the frame that an Input or an InputAck acknowledges.
use mathlib.Core.List.{List, [], ◌∷◌}
use mathlib.Core.Logic.{inl, inr}
use mathlib.Core.Bool.{false}
use mathlib.Core.Path.{◌≡◌}
use Prim.Native.Nat.{ℕ}
use native.Mathlib.Omega.{arith}
use Rattle.codec.specs.declared.MessageBody.{MessageBody}
use Rattle.codec.specs.declared.MessageBody.TheVariants.{SyncRequest, SyncReply, Input, InputAck, QualityReport, QualityReply, ChecksumReport, KeepAlive}
use Rattle.endpoint_invariant.specs.Each.{Each}
use Rattle.endpoint_delivery.specs.Runs.{carries}
use Rattle.endpoint_delivery.proofs.Lists.{Mem, cases_cons, not-nil}

abbrev pub OnInput : (ℕ → Type 0) → MessageBody → Type 0
OnInput P (SyncRequest n) = Unit {0}
OnInput P (SyncReply n) = Unit {0}
OnInput P (Input d start ack) = P start
OnInput P (InputAck ack) = Unit {0}
OnInput P (QualityReport advantage ping) = Unit {0}
OnInput P (QualityReply pong) = Unit {0}
OnInput P (ChecksumReport checksum frame) = Unit {0}
OnInput P KeepAlive = Unit {0}

abbrev pub OnAck : (ℕ → Type 0) → MessageBody → Type 0
OnAck P (SyncRequest n) = Unit {0}
OnAck P (SyncReply n) = Unit {0}
OnAck P (Input d start ack) = P ack
OnAck P (InputAck ack) = P ack
OnAck P (QualityReport advantage ping) = Unit {0}
OnAck P (QualityReply pong) = Unit {0}
OnAck P (ChecksumReport checksum frame) = Unit {0}
OnAck P KeepAlive = Unit {0}

module _ (P Q : ℕ → Type 0) (f : (n : ℕ) → P n → Q n) where
  pub input_also : (b : MessageBody) → OnInput P b → OnInput Q b
  input_also (SyncRequest n) h = tt
  input_also (SyncReply n) h = tt
  input_also (Input d start ack) h = f start h
  input_also (InputAck ack) h = tt
  input_also (QualityReport advantage ping) h = tt
  input_also (QualityReply pong) h = tt
  input_also (ChecksumReport checksum frame) h = tt
  input_also KeepAlive h = tt

  pub ack_also : (b : MessageBody) → OnAck P b → OnAck Q b
  ack_also (SyncRequest n) h = tt
  ack_also (SyncReply n) h = tt
  ack_also (Input d start ack) h = f ack h
  ack_also (InputAck ack) h = f ack h
  ack_also (QualityReport advantage ping) h = tt
  ack_also (QualityReply pong) h = tt
  ack_also (ChecksumReport checksum frame) h = tt
  ack_also KeepAlive h = tt

-- a message that carries nothing is neither a packet nor an ack
pub quiet_input : (P : ℕ → Type 0) (b : MessageBody) → carries b ≡ false → OnInput P b
quiet_input P (SyncRequest n) q = tt
quiet_input P (SyncReply n) q = tt
quiet_input P (Input d start ack) q = absurd (let n : ◌≡◌ {A = ℕ} 0 1 = cc in omega arith)
quiet_input P (InputAck ack) q = tt
quiet_input P (QualityReport advantage ping) q = tt
quiet_input P (QualityReply pong) q = tt
quiet_input P (ChecksumReport checksum frame) q = tt
quiet_input P KeepAlive q = tt

pub quiet_ack : (P : ℕ → Type 0) (b : MessageBody) → carries b ≡ false → OnAck P b
quiet_ack P (SyncRequest n) q = tt
quiet_ack P (SyncReply n) q = tt
quiet_ack P (Input d start ack) q = absurd (let n : ◌≡◌ {A = ℕ} 0 1 = cc in omega arith)
quiet_ack P (InputAck ack) q = absurd (let n : ◌≡◌ {A = ℕ} 0 1 = cc in omega arith)
quiet_ack P (QualityReport advantage ping) q = tt
quiet_ack P (QualityReply pong) q = tt
quiet_ack P (ChecksumReport checksum frame) q = tt
quiet_ack P KeepAlive q = tt

pub each_mem : {X : Type 0} (P : X → Type 0) (l : List X) {e : X} → Each P l → Mem e l → P e
unfolding Each
each_mem P [] h m = absurd (not-nil m)
each_mem P (x ∷ xs) h m = elim (cases_cons m) [ inl q ↦ rw q h.0 | inr r ↦ each_mem P xs h.1 r ]
