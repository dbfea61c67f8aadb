-- A kind's number determines the body, for crates that branch by the number.
use mathlib.Core.Bool.{Bool}
use mathlib.Core.Path.{◌≡◌, refl, sym, ◌∙◌, subst}
use mathlib.Core.List.{List}
use Prim.Native.Nat.{ℕ}
use lib.Dec.{T}
use types.Run.{OneOf}
use denote.Enum.Declared.{tag_of}
use Rattle.base.proofs.Tags.{noneb, none_of}
use Rattle.codec.specs.Message.{kind_of}
use Rattle.codec.specs.declared.Wide.{Wide}
use Rattle.codec.specs.declared.MessageBody.{MessageBody}
use Rattle.codec.specs.declared.MessageBody.TheVariants.{SyncRequest, SyncReply, Input, InputAck, QualityReport, QualityReply, ChecksumReport, KeepAlive}
use Rattle.codec.specs.contracts.MessageBody.{the_type}

-- it is the body's place among the eight
kind_tag : (b : MessageBody) → tag_of the_type b ≡ kind_of b
unfolding kind_of
kind_tag (SyncRequest n) = refl
kind_tag (SyncReply n) = refl
kind_tag (Input d s a) = refl
kind_tag (InputAck a) = refl
kind_tag (QualityReport a p) = refl
kind_tag (QualityReply p) = refl
kind_tag (ChecksumReport c f) = refl
kind_tag KeepAlive = refl

-- r, the number, is k: the body is none of the others
pub kind_other : (b : MessageBody) (k r : ℕ) (others : List ℕ) → r ≡ kind_of b → r ≡ k → T (noneb others k) → OneOf others (tag_of the_type b) → ⊥
kind_other b k r others e f t h = none_of others k t (subst (OneOf others) (kind_tag b ∙ sym e ∙ f) h)

-- the numbers, for crates that must not open them
pub kind_sync_request : (n : ℕ) → kind_of (SyncRequest n) ≡ 0
unfolding kind_of
kind_sync_request n = refl

pub kind_sync_reply : (n : ℕ) → kind_of (SyncReply n) ≡ 1
unfolding kind_of
kind_sync_reply n = refl

pub kind_input : (d : Bool) (s a : ℕ) → kind_of (Input d s a) ≡ 2
unfolding kind_of
kind_input d s a = refl

pub kind_input_ack : (a : ℕ) → kind_of (InputAck a) ≡ 3
unfolding kind_of
kind_input_ack a = refl

pub kind_quality_report : (a : ℕ) (p : Wide) → kind_of (QualityReport a p) ≡ 4
unfolding kind_of
kind_quality_report a p = refl

pub kind_quality_reply : (p : Wide) → kind_of (QualityReply p) ≡ 5
unfolding kind_of
kind_quality_reply p = refl

pub kind_checksum_report : (c : Wide) (f : ℕ) → kind_of (ChecksumReport c f) ≡ 6
unfolding kind_of
kind_checksum_report c f = refl

-- there is no ninth
pub kind_is_one : (b : MessageBody) (k : ℕ) → k ≡ kind_of b
    → (k ≡ 0 → ⊥) → (k ≡ 1 → ⊥) → (k ≡ 2 → ⊥) → (k ≡ 3 → ⊥) → (k ≡ 4 → ⊥) → (k ≡ 5 → ⊥) → (k ≡ 6 → ⊥) → (k ≡ 7 → ⊥) → ⊥
unfolding kind_of
kind_is_one (SyncRequest n) k e a0 a1 a2 a3 a4 a5 a6 a7 = a0 e
kind_is_one (SyncReply n) k e a0 a1 a2 a3 a4 a5 a6 a7 = a1 e
kind_is_one (Input d s a) k e a0 a1 a2 a3 a4 a5 a6 a7 = a2 e
kind_is_one (InputAck a) k e a0 a1 a2 a3 a4 a5 a6 a7 = a3 e
kind_is_one (QualityReport a p) k e a0 a1 a2 a3 a4 a5 a6 a7 = a4 e
kind_is_one (QualityReply p) k e a0 a1 a2 a3 a4 a5 a6 a7 = a5 e
kind_is_one (ChecksumReport c f) k e a0 a1 a2 a3 a4 a5 a6 a7 = a6 e
kind_is_one KeepAlive k e a0 a1 a2 a3 a4 a5 a6 a7 = a7 e
