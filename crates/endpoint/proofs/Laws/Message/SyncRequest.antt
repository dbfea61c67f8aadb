-- The ways out of a SyncRequest: its nonce goes back, and nothing else changes.
use Rattle.std.specs.Prelude.{Ok, Err}
use mathlib.Core.Bool.{true, false}
use mathlib.Core.List.{List}
use mathlib.Core.Path.{◌≡◌, refl}
use native.Mathlib.Omega.{arith}
use Prim.Native.Nat.{ℕ}
use lib.ListN.{length}
use Rattle.codec.specs.Read.{body_only}
use Rattle.codec.specs.declared.MessageBody.TheVariants.{SyncReply}
use Rattle.answer.specs.Number.{Answered}
use Rattle.answer.specs.declared.Refusal.TheVariants.{Full}
use Rattle.timers.specs.declared.Clocks.{Clocks}
use Rattle.timers.specs.Timers.{sent_at}
use Rattle.answer.specs.declared.Refusal.{Refusal}
use Rattle.outbox.specs.Outbox.{QueuedAs}
use Rattle.endpoint_rules.specs.Handshake.{on_sync_request}
use Rattle.endpoint_rules.specs.Step.{heard, reacted}
use Rattle.endpoint.specs.declared.Endpoint.{Endpoint}
use Rattle.endpoint.specs.Endpoint.{seen, DidAs}
use Rattle.endpoint.proofs.Laws.Message.Hearing.{Ears, HeardAs}
use Rattle.endpoint.proofs.Laws.Ends.{remade}
use Rattle.endpoint.proofs.Laws.Message.Answered.{Aside, reply_unannounced, reply_full, reply_done}

module _ (e : Endpoint) (buffer : List ℕ) (now asked : ℕ) where
  abbrev Asked : Endpoint → Answered → List ℕ → Type 0
  Asked n a b' = DidAs e (reacted (length buffer) (seen e) (on_sync_request now asked (heard now (seen e)))) buffer (record { answer = a; endpoint = n }) b'

  aside : Aside (λ s. s)
  aside = record { setup = λ s. refl; events = λ s. refl; queued = λ s. refl }

  pub request_full : (r : Refusal) (b' : List ℕ) → QueuedAs buffer e.queued (body_only e.setup.magic (SyncReply asked)) (Err r) b' → Asked e (Err r) b'
  unfolding on_sync_request
  request_full r b' eq = reply_full e buffer now (SyncReply asked) (λ s. s) aside r b' eq (omega arith)

  module _ (x : Ears) (ex : HeardAs e (heard now (seen e)) x) where
    pub request_unannounced : x.ok ≡ false → Asked e (Err Full) buffer
    unfolding on_sync_request
    request_unannounced k = reply_unannounced e buffer now (SyncReply asked) (λ s. s) aside x k ex

    pub request-done : (q : ℕ) (b' : List ℕ) → QueuedAs buffer e.queued (body_only e.setup.magic (SyncReply asked)) (Ok q) b' → (c : Clocks) → x.ok ≡ true → c ≡ sent_at now x.clocks
        → Asked (remade e e.pending e.acked e.history e.sync e.nonces c x.flags e.quality e.statuses e.checksums x.events q) (Ok tt) b'
    unfolding on_sync_request seen
    request-done q b' eq c k ec =
        reply_done e buffer now (SyncReply asked) (λ s. s) aside x q b' eq (omega arith) _ (record { setup = refl; count = refl }) k (λ f t h. rw (ec, h.clocks, h.flags, h.events, k)) ex
