-- The Input of all that is pending: a head that the codec writes, and the payload packed behind it.
use mathlib.Core.Bool.{Bool, false}
use mathlib.Core.List.{List}
use mathlib.Core.Path.{◌≡◌, ◌∙◌}
use Prim.Native.Nat.{ℕ, ◌+◌, ◌≤◌}
use native.Mathlib.Omega.{arith}
use borrow.Author.Tests.{le-ltb}
use lib.ListN.{length, take, drop}
use Rattle.std.specs.Prelude.{Result, Ok, Err}
use Rattle.base.specs.Lay.{laid_at}
use Rattle.base.specs.Little.{Bytes}
use Rattle.base.proofs.Lay.{laid_part}
use Rattle.base.proofs.Bytes.{bytes_take, bytes_drop}
use Rattle.frame.specs.Bias.{null_frame}
use Rattle.answer.specs.declared.Refusal.{Refusal}
use Rattle.status.specs.declared.ConnectionStatus.{ConnectionStatus}
use Rattle.packing.specs.Packing.{PlacedAs}
use Rattle.packing.specs.declared.input_bytes.InputBytes.{InputBytes}
use Rattle.pending.specs.Pending.{first_frame, payload}
use Rattle.ceilings.specs.Ceilings.{most_players, most_payload}
use Rattle.codec.specs.Message.{Wire, Reports, meant}
use Rattle.codec.specs.Calls.{HeadAs, WrittenAs}
use Rattle.codec.specs.declared.Message.{Message}
use Rattle.codec.specs.declared.MessageBody.TheVariants.{Input}
use Rattle.codec.proofs.Meant.{input_is, meant-input}
use Rattle.codec.proofs.Laws.{payload_laid, head-written, head-refused}
use Rattle.outbox.proofs.Writes.{queued}
use Rattle.outbox.specs.Outbox.{QueuedAs, StatusReportsAs, pending_input}

-- what is known before anything is written
pub record Prepared (statuses : List ConnectionStatus) (inputs : List InputBytes) (width : ℕ) (acked : InputBytes) (start : ℕ) (rs : Reports) (size : ℕ) : Type 0 where
  pub few : length statuses ≤ most_players
  pub first : start ≡ first_frame null_frame inputs
  pub reports : StatusReportsAs statuses rs
  pub four : length rs.list ≡ 4
  pub packed : length (payload width acked inputs) ≡ size
  pub short : size ≤ most_payload

module _ (b : List ℕ) (at magic ack : ℕ) (statuses : List ConnectionStatus) (inputs : List InputBytes) (width : ℕ) (acked : InputBytes) (start : ℕ)
    (rs : Reports) (size : ℕ) (ready : Prepared statuses inputs width acked start rs size) where
  abbrev message : Message
  message = record { magic = magic; body = Input false start ack; reports = rs }

  abbrev piece : List ℕ
  piece = payload width acked inputs

  abbrev wire : Wire
  wire = pending_input magic ack statuses inputs width acked

  stands : meant message piece ≡ wire
  unfolding pending_input
  stands = meant-input magic false start ack rs piece ∙ rw (ready.reports.list, ready.first)

  as_queued : (r : Result ℕ Refusal) (b' : List ℕ) → WrittenAs b at message piece r b' → QueuedAs b at wire r b'
  as_queued =
      queued b at message piece (omega (arith, ready.few, ready.reports.count)) (omega (arith, ready.short, ready.packed)) ready.four wire stands

  pub input_full : (e : Refusal) (b' : List ℕ) → HeadAs b at message size (Err e) b' → QueuedAs b at wire (Err e) b'
  input_full e b' h = as_queued (Err e) b' (head-refused b at message piece e b' (rw ready.packed h))

  module _ (end : ℕ) (b' : List ℕ) (h : HeadAs b at message size (Ok end) b') where
    begun : HeadAs b at message (length piece) (Ok end) b'
    begun = rw ready.packed h

    pub input_room : end + size ≤ length b
    input_room = rw ready.packed at (payload_laid b at message piece (input_is false start ack) end b' begun ready.four).0

    -- the buffer's bytes show that those of the payload are bytes
    pub input_queued : (done : Bool) (b'' : List ℕ) → PlacedAs b' end piece done b'' → length b' ≡ length b → Bytes b'' → QueuedAs b at wire (Ok (end + size)) b''
    input_queued done b'' p same q =
        let room : end + length piece ≤ length b' = omega (arith, input_room, ready.packed) in
        let laid : b'' ≡ laid_at b' end piece = p.lent ∙ rw (le-ltb _ _ room) in
        let part : Bytes (take (length piece) (drop end b'')) = bytes_take (length piece) (drop end b'') (bytes_drop end b'' q) in
        let octets : Bytes piece = rw (laid, laid_part b' end piece room) at part in
        rw ready.packed at
        (as_queued (Ok (end + length piece)) b'' (head-written b at message piece (input_is false start ack) end b' b'' begun ready.four octets laid))
