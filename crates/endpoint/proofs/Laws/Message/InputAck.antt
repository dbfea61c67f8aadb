-- What an ack drops, and the ways out of an InputAck.
use Rattle.std.specs.Prelude.{Ok, Err}
use mathlib.Core.Bool.{true, false}
use mathlib.Core.Path.{◌≡◌, refl}
use Prim.Native.Nat.{ℕ}
use Rattle.answer.specs.Number.{Answered}
use Rattle.answer.specs.declared.Refusal.TheVariants.{Full}
use Rattle.endpoint_rules.specs.Sending.{dropped_to, acknowledged}
use Rattle.endpoint_rules.specs.Receiving.{on_input_ack}
use Rattle.endpoint_rules.specs.Step.{heard, reacted}
use Rattle.packing.specs.declared.input_bytes.InputBytes.{InputBytes}
use Rattle.pending.specs.declared.Pending.{Pending}
use Rattle.pending.specs.Pending.{DroppedAs}
use Rattle.endpoint.specs.declared.Endpoint.{Endpoint}
use Rattle.endpoint.specs.Endpoint.{seen, DoneAs}
use Rattle.endpoint.specs.Inside.Sending.{sent}
use Rattle.endpoint.proofs.Laws.Message.Hearing.{Ears, HeardAs}
use Rattle.endpoint.proofs.Laws.Ends.{remade}
use Rattle.endpoint.proofs.Laws.Message.Changed.{changes_full, changes_done}

module _ (pending : Pending) (acked : InputBytes) (ack : ℕ) where
  pub dropped_sent : (last : InputBytes) (new : Pending) → DroppedAs pending ack acked last new → sent new last ≡ dropped_to ack (sent pending acked)
  unfolding dropped_to
  dropped_sent last new h = rw (h.view, h.last)

-- an endpoint after the pending inputs that an ack drops: only they and the last acknowledged one are others
pub record Drops (ack : ℕ) (s t : Endpoint) : Type 0 where
  pub pending : Pending
  pub acked : InputBytes
  pub rest : t ≡ remade s pending acked s.history s.sync s.nonces s.clocks s.flags s.quality s.statuses s.checksums s.events s.queued
  pub left : sent pending acked ≡ dropped_to ack (sent s.pending s.acked)

pub drops_some : (ack : ℕ) (s t : Endpoint) (last : InputBytes) (new : Pending) → DroppedAs s.pending ack s.acked last new
    → t ≡ remade s new last s.history s.sync s.nonces s.clocks s.flags s.quality s.statuses s.checksums s.events s.queued → Drops ack s t
drops_some ack s t last new h et = record { pending = new; acked = last; rest = et; left = dropped_sent s.pending s.acked ack last new h }

module _ (e : Endpoint) (ack now : ℕ) (x : Ears) (ex : HeardAs e (heard now (seen e)) x) where
  abbrev Acked : Endpoint → Answered → Type 0
  Acked n a = DoneAs e (reacted 0 (seen e) (on_input_ack ack (heard now (seen e)))) (record { answer = a; endpoint = n })

  pub ack_full : x.ok ≡ false → Acked e (Err Full)
  unfolding on_input_ack acknowledged
  ack_full k = changes_full e now x (acknowledged ack) (λ s. refl) k ex

  pub ack_done : (pending : Pending) (acked : InputBytes) → x.ok ≡ true → sent pending acked ≡ dropped_to ack (sent e.pending e.acked)
      → Acked (remade e pending acked e.history e.sync e.nonces x.clocks x.flags e.quality e.statuses e.checksums x.events e.queued) (Ok tt)
  unfolding on_input_ack acknowledged seen
  ack_done pending acked k es = changes_done e now x (acknowledged ack) (λ s. refl) _ (record { setup = refl; count = refl }) k (λ f t h. rw (es, h.clocks, h.flags, h.events, k)) ex
