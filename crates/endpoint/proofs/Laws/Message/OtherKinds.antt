-- A body that is of no such variant has another kind: for the four kinds of which a message's fields are read.
use mathlib.Core.Bool.{Bool}
use mathlib.Core.List.{[], ◌∷◌}
use mathlib.Core.Path.{◌≡◌, refl}
use native.Mathlib.Omega.{arith}
use Prim.Native.Nat.{ℕ}
use Rattle.codec.specs.Message.{kind_of}
use Rattle.codec.proofs.KindNumbers.{kind_other, kind_sync_request, kind_sync_reply, kind_input, kind_input_ack, kind_quality_report, kind_quality_reply, kind_checksum_report}
use Rattle.codec.specs.declared.Wide.{Wide}
use Rattle.codec.specs.declared.MessageBody.{MessageBody}
use Rattle.codec.specs.declared.MessageBody.TheVariants.{SyncRequest, SyncReply, Input, InputAck, QualityReport, QualityReply, ChecksumReport, KeepAlive}

pub other_than_reply : (b : MessageBody) → ((n : ℕ) → b ≡ SyncReply n → ⊥) → kind_of b ≡ 1 → ⊥
other_than_reply (SyncRequest n) h e = omega (arith, kind_sync_request n)
other_than_reply (SyncReply n) h e = h n refl
other_than_reply (Input d s a) h e = omega (arith, kind_input d s a)
other_than_reply (InputAck a) h e = omega (arith, kind_input_ack a)
other_than_reply (QualityReport a p) h e = omega (arith, kind_quality_report a p)
other_than_reply (QualityReply p) h e = omega (arith, kind_quality_reply p)
other_than_reply (ChecksumReport c f) h e = omega (arith, kind_checksum_report c f)
other_than_reply KeepAlive h e = kind_other KeepAlive 1 _ (7 ∷ []) refl e tt refl

pub other_than_input : (b : MessageBody) → ((d : Bool) (s a : ℕ) → b ≡ Input d s a → ⊥) → kind_of b ≡ 2 → ⊥
other_than_input (SyncRequest n) h e = omega (arith, kind_sync_request n)
other_than_input (SyncReply n) h e = omega (arith, kind_sync_reply n)
other_than_input (Input d s a) h e = h d s a refl
other_than_input (InputAck a) h e = omega (arith, kind_input_ack a)
other_than_input (QualityReport a p) h e = omega (arith, kind_quality_report a p)
other_than_input (QualityReply p) h e = omega (arith, kind_quality_reply p)
other_than_input (ChecksumReport c f) h e = omega (arith, kind_checksum_report c f)
other_than_input KeepAlive h e = kind_other KeepAlive 2 _ (7 ∷ []) refl e tt refl

pub other_than_ack : (b : MessageBody) → ((a : ℕ) → b ≡ InputAck a → ⊥) → kind_of b ≡ 3 → ⊥
other_than_ack (SyncRequest n) h e = omega (arith, kind_sync_request n)
other_than_ack (SyncReply n) h e = omega (arith, kind_sync_reply n)
other_than_ack (Input d s a) h e = omega (arith, kind_input d s a)
other_than_ack (InputAck a) h e = h a refl
other_than_ack (QualityReport a p) h e = omega (arith, kind_quality_report a p)
other_than_ack (QualityReply p) h e = omega (arith, kind_quality_reply p)
other_than_ack (ChecksumReport c f) h e = omega (arith, kind_checksum_report c f)
other_than_ack KeepAlive h e = kind_other KeepAlive 3 _ (7 ∷ []) refl e tt refl

pub other_than_report : (b : MessageBody) → ((c : Wide) (f : ℕ) → b ≡ ChecksumReport c f → ⊥) → kind_of b ≡ 6 → ⊥
other_than_report (SyncRequest n) h e = omega (arith, kind_sync_request n)
other_than_report (SyncReply n) h e = omega (arith, kind_sync_reply n)
other_than_report (Input d s a) h e = omega (arith, kind_input d s a)
other_than_report (InputAck a) h e = omega (arith, kind_input_ack a)
other_than_report (QualityReport a p) h e = omega (arith, kind_quality_report a p)
other_than_report (QualityReply p) h e = omega (arith, kind_quality_reply p)
other_than_report (ChecksumReport c f) h e = h c f refl
other_than_report KeepAlive h e = kind_other KeepAlive 6 _ (7 ∷ []) refl e tt refl
