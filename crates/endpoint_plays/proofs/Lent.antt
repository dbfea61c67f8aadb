-- A buffer that was lent to a call can be lent to the next one: it is as long as before, and a slice of bytes.
use mathlib.Core.List.{List, [], ◌∷◌, ◌++◌, flatten}
use mathlib.Core.Logic.{◌⊎◌, inl, inr}
use mathlib.Core.Path.{◌≡◌, refl}
use native.Mathlib.Omega.{arith}
use Prim.Native.Nat.{ℕ, ◌+◌, ◌≤◌}
use lib.ListN.{length, take, drop}
use Rattle.base.specs.Lay.{laid_at}
use Rattle.base.specs.Little.{Bytes}
use Rattle.base.proofs.Lay.{laid_none, laid_length}
use Rattle.base.proofs.Bytes.{bytes_take, bytes_drop}
use Rattle.codec.specs.Message.{Wire, FitAll}
use Rattle.codec.specs.Bytes.{bytes, queue_of}
use Rattle.codec.proofs.Octets.{bytes_none, bytes-append, bytes-bytes}
use Rattle.outbox.proofs.Laws.{queue_size_lem}
use Rattle.endpoint_rules.specs.Call.{Call}
use Rattle.endpoint_rules.specs.Step.{step}
use Rattle.endpoint_invariant.specs.Runs.{lent_to, gone}
use Rattle.endpoint_invariant.proofs.Queue.{Queues, Takes, step_queues}
use Rattle.endpoint_invariant.proofs.Sound.{step_fits}
use Rattle.endpoint.specs.Endpoint.{seen}
use Rattle.endpoint_version.specs.Values.{IsSlice}
use Rattle.endpoint_version.specs.Version.{Version, Asked, IsAsked, call_of}
use Rattle.endpoint_version.specs.Meets.{Meets}
use Rattle.endpoint_version.proofs.Asked.{asked_typed}
use Rattle.endpoint_plays.specs.Sides.{Side}
use Rattle.endpoint_plays.specs.Buffers.{Lends, lent_after}
use Rattle.endpoint_plays.proofs.Written.{no_bytes}
use Rattle.endpoint_plays.proofs.Runs.{Kept}

-- ---- a buffer in which messages were laid

pub queue-bytes : (ws : List Wire) → FitAll ws → Bytes (queue_of ws)
unfolding flatten
queue-bytes [] h = bytes_none
queue-bytes (w ∷ ws) h = bytes-append (bytes w) (queue_of ws) (bytes-bytes w h.0) (queue-bytes ws h.1)

-- it may be lent where the one before might be
abbrev pub Again : (before after : List ℕ) → Type 0
Again before after = IsSlice after × (length after ≡ length before)

laid_bytes : (out : List ℕ) (at : ℕ) (part : List ℕ) → Bytes out → Bytes part → Bytes (laid_at out at part)
unfolding laid_at
laid_bytes out at part b p =
    bytes-append (take at out ++ part) (drop (at + length part) out) (bytes-append (take at out) part (bytes_take at out b) p) (bytes_drop (at + length part) out b)

pub laid_again : (out : List ℕ) (at : ℕ) (part : List ℕ) → IsSlice out → Bytes part → (length part ≡ 0) ⊎ (at + length part ≤ length out) → Again out (laid_at out at part)
laid_again out at part s b (inl z) = rw (no_bytes part z, laid_none) (s, refl)
laid_again out at part s b (inr h) = let l = laid_length out at part h in ((laid_bytes out at part s.0 b, omega (arith, s.1)), l)

module _ (v : Version) (m : Meets v) (x : Side) (k : Kept v m x) where
  lent_again : (c : Asked) → IsAsked c → ((n : ℕ) → call_of c ≡ Call.take_messages n → ◌≡◌ {A = ℕ} 0 1) → (out buffer out' : List ℕ) → out ≡ buffer → lent_to (call_of c) 0 ≡ length out
      → out' ≡ laid_at out x.endpoint.queued (queue_of (step (call_of c) (seen x.endpoint)).out) → IsSlice buffer → Again buffer out'
  unfolding seen
  lent_again c i n out buffer out' b l e s = go (step_queues (call_of c) 0 (seen x.endpoint))
    where
      ws : List Wire
      ws = (step (call_of c) (seen x.endpoint)).out

      fit : FitAll ws
      fit = step_fits (call_of c) (asked_typed c i) (seen x.endpoint) k.good.sound

      go : Takes (call_of c) ⊎ (((b : List ℕ) → gone (call_of c) b (seen x.endpoint) ≡ []) × Queues (lent_to (call_of c) 0) (seen x.endpoint) (step (call_of c) (seen x.endpoint))) → Again buffer out'
      go (inl t) = let z = n t.0 t.1 in absurd (omega arith)
      go (inr q) = rw (e, ← b) (laid_again out x.endpoint.queued (queue_of ws) (rw (← b) at s) (queue-bytes ws fit) (rw (← queue_size_lem ws fit, l) at q.1.room))

  pub buffer_again : (c : Asked) → IsAsked c → (buffer : List ℕ) → Lends buffer c → IsSlice buffer
      → IsSlice (lent_after v x.endpoint c buffer) × (length (lent_after v x.endpoint c buffer) ≡ length buffer)
  buffer_again (Asked.synchronize now epoch nonce out) i buffer l s =
      lent_again (Asked.synchronize now epoch nonce out) i (λ n h. cc) out buffer _ l refl (m.synchronize x.endpoint now epoch nonce out k.good.value i).lent s
  buffer_again (Asked.message from y payload now epoch nonce out) i buffer l s =
      lent_again (Asked.message from y payload now epoch nonce out) i (λ n h. cc) out buffer _ l refl (m.message x.endpoint from y payload now epoch nonce out k.good.value i).lent s
  buffer_again (Asked.datagram from b now epoch nonce out) i buffer l s =
      lent_again (Asked.datagram from b now epoch nonce out) i (λ n h. cc) out buffer _ l refl (m.datagram x.endpoint from b now epoch nonce out k.good.value i).lent s
  buffer_again (Asked.act statuses now epoch nonce out) i buffer l s =
      lent_again (Asked.act statuses now epoch nonce out) i (λ n h. cc) out buffer _ l refl (m.act x.endpoint statuses now epoch nonce out k.good.value i).lent s
  buffer_again (Asked.send_input frame bytes statuses now out) i buffer l s =
      lent_again (Asked.send_input frame bytes statuses now out) i (λ n h. cc) out buffer _ l refl (m.send_input x.endpoint frame bytes statuses now out k.good.value i).lent s
  buffer_again (Asked.disconnect now) i buffer l s = (s, refl)
  buffer_again (Asked.send_checksum_report frame checksum now out) i buffer l s =
      lent_again (Asked.send_checksum_report frame checksum now out) i (λ n h. cc) out buffer _ l refl (m.send_checksum_report x.endpoint frame checksum now out k.good.value i).lent s
  buffer_again (Asked.update_local_frame_advantage local) i buffer l s = (s, refl)
  buffer_again (Asked.take_messages out) i buffer l s = (s, refl)
  buffer_again (Asked.network_stats epoch) i buffer l s = (s, refl)
  buffer_again (Asked.peer_connect_status handle) i buffer l s = (s, refl)
  buffer_again (Asked.take_messages_into out into) i buffer l s = (s, refl)
