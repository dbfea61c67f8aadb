-- A buffer that was lent to a call on a session can be lent to the next one: it is as long as before, and a slice of bytes.
use mathlib.Core.List.{List, [], flatten}
use mathlib.Core.Logic.{◌⊎◌, inl, inr}
use mathlib.Core.Path.{◌≡◌, refl}
use native.Mathlib.Omega.{arith}
use Prim.Native.Nat.{ℕ, ◌+◌, ◌≤◌}
use lib.ListN.{length}
use Rattle.base.specs.Lay.{laid_at}
use Rattle.codec.specs.Message.{Wire, FitAll, meant}
use Rattle.codec.specs.Bytes.{queue_of}
use Rattle.outbox.proofs.Laws.{queue_size_lem}
use Rattle.endpoint_rules.specs.Call.{Call as HostCall}
use Rattle.endpoint_rules.specs.Step.{step as host_step}
use Rattle.endpoint_invariant.specs.Runs.{lent_to, gone}
use Rattle.endpoint_invariant.proofs.Queue.{Queues, Takes, step_queues}
use Rattle.endpoint.specs.Endpoint.{seen as seen_host}
use Rattle.endpoint_version.specs.Values.{IsSlice}
use Rattle.endpoint_plays.proofs.Lent.{queue-bytes, Again, laid_again}
use Rattle.spectator_rules.specs.Step.{step}
use Rattle.spectator.specs.declared.SpectatorSession.{SpectatorSession}
use Rattle.spectator.specs.Session.{seen}
use Rattle.spectator_version.specs.Version.{Version, Asked, IsAsked, call_of}
use Rattle.spectator_version.specs.Meets.{Meets}
use Rattle.spectator_plays.specs.Screens.{Screen}
use Rattle.spectator_plays.specs.Buffers.{Lends, lent_after}
use Rattle.spectator_plays.proofs.Written.{ByHost, host, polls, act_room, fits_all, synchronize_host, message_host, datagram_host}
use Rattle.spectator_plays.proofs.Behind.{Kept}

-- ---- a buffer in which messages were laid

-- messages take no bytes, or there is room for them
abbrev Room : (out : List ℕ) → (at : ℕ) → List Wire → Type 0
Room out at ws = (length (queue_of ws) ≡ 0) ⊎ (at + length (queue_of ws) ≤ length out)

module _ (u : Version) (m : Meets u) (x : Screen) (k : Kept u m x) where
  abbrev s : SpectatorSession
  s = x.session

  lent_again : (c : Asked) → IsAsked c → (out buffer out' : List ℕ) → out ≡ buffer → out' ≡ laid_at out s.host.queued (queue_of (step (call_of c) (seen s)).out)
      → Room out s.host.queued (step (call_of c) (seen s)).out → IsSlice buffer → Again buffer out'
  lent_again c i out buffer out' b e r h = rw (e, ← b) (laid_again out s.host.queued (queue_of (step (call_of c) (seen s)).out) (rw (← b) at h) (queue-bytes (step (call_of c) (seen s)).out (fits_all u m s k.good c i)) r)

  -- a call that is the endpoint's alone has room for what it queues
  host_room : (c : HostCall) (ws : List Wire) → ByHost u m s k.good c (host u m s k.good) ws → FitAll ws → (out : List ℕ) → lent_to c 0 ≡ length out → Room out s.host.queued ws
  unfolding seen seen_host
  host_room c ws b f out n = go (step_queues c 0 (host u m s k.good))
    where
      go : Takes c ⊎ (((b : List ℕ) → gone c b (host u m s k.good) ≡ []) × Queues (lent_to c 0) (host u m s k.good) (host_step c (host u m s k.good))) → Room out s.host.queued ws
      go (inl t) = let z = b.other t.0 t.1 in absurd (omega arith)
      go (inr q) = rw (queue_size_lem ws f, b.same, ← n) q.1.room

  pub buffer_again : (c : Asked) → IsAsked c → (buffer : List ℕ) → Lends buffer c → IsSlice buffer → IsSlice (lent_after u s c buffer) × (length (lent_after u s c buffer) ≡ length buffer)
  unfolding seen seen_host flatten
  buffer_again (Asked.synchronize now epoch nonce out) i buffer l h =
      let c : Asked = Asked.synchronize now epoch nonce out in
      lent_again c i out buffer _ l (m.synchronize s now epoch nonce out k.good.value i).lent
      (host_room (HostCall.synchronize now epoch nonce (length out)) _ (synchronize_host u m s k.good now epoch nonce out i) (fits_all u m s k.good c i) out refl) h
  buffer_again (Asked.message from y payload now epoch nonce out) i buffer l h =
      let c : Asked = Asked.message from y payload now epoch nonce out in
      lent_again c i out buffer _ l (m.message s from y payload now epoch nonce out k.good.value i).lent
      (host_room (HostCall.message from y.reports.count (meant y payload) now epoch nonce (length out)) _ (message_host u m s k.good from y payload now epoch nonce out i)
      (fits_all u m s k.good c i) out refl) h
  buffer_again (Asked.datagram from d now epoch nonce out) i buffer l h =
      let c : Asked = Asked.datagram from d now epoch nonce out in
      lent_again c i out buffer _ l (m.datagram s from d now epoch nonce out k.good.value i).lent
      (host_room (HostCall.datagram from d now epoch nonce (length out)) _ (datagram_host u m s k.good from d now epoch nonce out i) (fits_all u m s k.good c i) out refl) h
  buffer_again (Asked.take_messages out) i buffer l h = (h, refl)
  buffer_again (Asked.take_messages_into out into) i buffer l h = (h, refl)
  buffer_again (Asked.poll_remote_clients now epoch nonce out) i buffer l h =
      let c : Asked = Asked.poll_remote_clients now epoch nonce out in
      let room : Room out s.host.queued (step (call_of c) (seen s)).out =
      elim (polls u m s k.good now epoch nonce out i) [ inl p ↦ inl (rw p.0) | inr p ↦ rw p.0 (act_room u m s k.good now epoch nonce out i).1 ] in
      lent_again c i out buffer _ l (m.poll_remote_clients s now epoch nonce out k.good.value i).lent room h
  buffer_again Asked.advance_frame i buffer l h = (h, refl)
  buffer_again Asked.take_events i buffer l h = (h, refl)
