-- Two answers that a contract allows are equal, by name for each public function, and so are the two lent buffers.
use mathlib.Core.List.{List}
use mathlib.Core.Path.{◌≡◌, sym, ◌∙◌, ap}
use Rattle.std.specs.Prelude.{Result, Ok, Err}
use Rattle.answer.specs.declared.Refusal.{Refusal}
use Prim.Native.Nat.{ℕ}
use Rattle.status.specs.declared.list.Statuses.{Statuses}
use Rattle.status.specs.Statuses.{held_statuses}
use Rattle.packing.specs.declared.input_bytes.InputBytes.{InputBytes}
use Rattle.pending.specs.declared.Pending.{Pending}
use Rattle.pending.specs.Pending.{waiting}
use Rattle.codec.specs.Message.{Wire}
use Rattle.codec.specs.Read.{body_only}
use Rattle.codec.specs.declared.MessageBody.{MessageBody}
use Rattle.outbox.proofs.Laws.{apart}
use Rattle.outbox.specs.Outbox.{QueuedAs, InputSizedAs, pending_input}

module _ (b : List ℕ) (at : ℕ) (b' b'' : List ℕ) where
  queued_settled : (r s : Result ℕ Refusal) (w : Wire) → QueuedAs b at w r b' → QueuedAs b at w s b'' → (r ≡ s) × (b' ≡ b'')
  queued_settled (Ok m) (Ok n) w x y = (ap Ok (x.end ∙ sym y.end), x.lent ∙ sym y.lent)
  queued_settled (Ok m) (Err f) w x y = absurd (apart _ y.0 x.room)
  queued_settled (Err e) (Ok n) w x y = absurd (apart _ x.0 y.room)
  queued_settled (Err e) (Err f) w x y = (ap Err (x.1 ∙ sym y.1), x.2 ∙ sym y.2)

  pub body_only_settled : (r s : Result ℕ Refusal) (magic : ℕ) (body : MessageBody) → QueuedAs b at (body_only magic body) r b'
      → QueuedAs b at (body_only magic body) s b'' → (r ≡ s) × (b' ≡ b'')
  body_only_settled r s magic body = queued_settled r s (body_only magic body)

  pub pending_input_settled : (r s : Result ℕ Refusal) (magic ack : ℕ) (statuses : Statuses) (pending : Pending) (width : ℕ) (acked : InputBytes)
      → QueuedAs b at (pending_input magic ack (held_statuses statuses) (waiting pending) width acked) r b'
      → QueuedAs b at (pending_input magic ack (held_statuses statuses) (waiting pending) width acked) s b'' → (r ≡ s) × (b' ≡ b'')
  pending_input_settled r s magic ack statuses pending width acked =
      queued_settled r s (pending_input magic ack (held_statuses statuses) (waiting pending) width acked)

pub input_size_settled : (statuses : Statuses) (pending : Pending) (width r s : ℕ) → InputSizedAs (held_statuses statuses) (waiting pending) width r
    → InputSizedAs (held_statuses statuses) (waiting pending) width s → r ≡ s
input_size_settled statuses pending width r s x y = x.counted ∙ sym y.counted
