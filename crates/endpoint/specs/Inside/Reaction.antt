-- What a message does that is answered at once or only noted: a request for a reply, both quality reports, one that keeps the connection alive.
use Rattle.std.specs.Prelude.{Bool, true, false, List, ◌≡◌, ℕ, Result, Ok, Err}
use Rattle.base.specs.Pick.{pick}
use Rattle.answer.specs.declared.Refusal.{Refusal}
use Rattle.answer.specs.declared.Refusal.TheVariants.{Full}
use Rattle.codec.specs.Read.{body_only}
use Rattle.codec.specs.declared.Wide.{Wide}
use Rattle.codec.specs.declared.MessageBody.{MessageBody}
use Rattle.codec.specs.declared.MessageBody.TheVariants.{SyncRequest, SyncReply, QualityReport, QualityReply, KeepAlive}
use Rattle.timers.specs.declared.Clocks.{Clocks}
use Rattle.timers.specs.Timers.{sent_at}
use Rattle.quality.specs.declared.Quality.{Quality}
use Rattle.quality.specs.Quality.{round_trip, remote_set, trip_noted}
use Rattle.outbox.specs.Outbox.{QueuedAs}
use Rattle.endpoint.specs.declared.message.reaction.Reacted.{Reacted}

-- a reply that is queued where its bytes fit
abbrev pub RepliedAs : (reply : MessageBody) → Quality → Clocks → (now magic : ℕ) → (buffer : List ℕ) → (at : ℕ) → Result Reacted Refusal → (buffer' : List ℕ) → Type 0
RepliedAs reply q c now magic buffer at (Ok x) buffer' =
    QueuedAs buffer at (body_only magic reply) (Ok x.end) buffer' × (x.quality ≡ q) × (x.clocks ≡ sent_at now c)
RepliedAs reply q c now magic buffer at (Err r) buffer' = QueuedAs buffer at (body_only magic reply) (Err r) buffer'

-- answered, where what is announced has room
pub record Answers (reply : MessageBody) (full : Bool) (q : Quality) (c : Clocks) (now magic : ℕ) (buffer : List ℕ) (at : ℕ) (r : Result Reacted Refusal) (buffer' : List ℕ) : Type 0 where
  pub unqueued : full ≡ true → (r ≡ Err Full) × (buffer' ≡ buffer)
  pub queued : full ≡ false → RepliedAs reply q c now magic buffer at r buffer'

-- only noted
pub record Notes (full : Bool) (q : Quality) (c : Clocks) (buffer : List ℕ) (at : ℕ) (r : Result Reacted Refusal) (buffer' : List ℕ) : Type 0 where
  pub noted : r ≡ pick full (Err Full) (Ok (record { quality = q; clocks = c; end = at }))
  pub lent : buffer' ≡ buffer

-- by its kind, which is one of these four: `handle_message` has the others itself
pub record ReactedAs (body : MessageBody) (full : Bool) (q : Quality) (c : Clocks) (now epoch magic : ℕ) (buffer : List ℕ) (at : ℕ) (r : Result Reacted Refusal) (buffer' : List ℕ) : Type 0 where
  pub sync_request : (asked : ℕ) → body ≡ SyncRequest asked → Answers (SyncReply asked) full q c now magic buffer at r buffer'
  pub quality_report : (advantage : ℕ) (ping : Wide) → body ≡ QualityReport advantage ping → Answers (QualityReply ping) full (remote_set advantage q) c now magic buffer at r buffer'
  pub quality_reply : (pong : Wide) → body ≡ QualityReply pong → Notes full (trip_noted (round_trip epoch pong.low pong.high) q) c buffer at r buffer'
  pub keep_alive : body ≡ KeepAlive → Notes full q c buffer at r buffer'
