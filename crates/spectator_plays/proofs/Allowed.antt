-- The usual owners of a sending endpoint and of a session: datagrams that they cut out of what is handed back to them may be handed to the other one.
use mathlib.Core.List.{List, Memᴰ as Mem}
use Prim.Native.Nat.{ℕ}
use Rattle.codec.specs.Calls.{cut}
use Rattle.endpoint_delivery.specs.Runs.{Allowed}
use Rattle.endpoint_version.specs.Values.{IsSlice}
use Rattle.endpoint_version.specs.Version as Endpoint
use Rattle.endpoint_version.specs.Meets.{Meets as EndpointMeets}
use Rattle.endpoint_plays.specs.Sides.{Side}
use Rattle.endpoint_plays.specs.Buffers.{Holds as SideHolds}
use Rattle.endpoint_plays.proofs.Queued.{of_none, of_cut}
use Rattle.endpoint_plays.proofs.Waiting as Sides
use Rattle.spectator_delivery.specs.Viewing.{AllowedBox}
use Rattle.spectator_version.specs.Version.{Version, Asked, IsAsked, call_of}
use Rattle.spectator_version.specs.Meets.{Meets}
use Rattle.spectator_plays.specs.Screens.{Screen, after}
use Rattle.spectator_plays.specs.Plays.{Broadcast}
use Rattle.spectator_plays.specs.Buffers.{Holds, polled_bytes}
use Rattle.spectator_plays.proofs.Waiting.{Waits, after_waits, polled_waits}
use Rattle.spectator_plays.proofs.Viewed.{tied}

module _ (v : Endpoint.Version) (l : EndpointMeets v) (u : Version) (m : Meets u) where
  -- what waits at both are bytes of messages that they queued
  both_wait : {a : Side} {x : Screen} → Broadcast v u a x → Sides.Waits a × Waits x
  both_wait (Broadcast.begin g h now then tg th ig ih ng nh f) = (Sides.starts_waits v l g now tg ig, of_none _)
  both_wait (Broadcast.at_end {a} {x} p c i q) = let w = both_wait p in (Sides.after_waits v l a (tied v l u m p).side c i w.0, w.1)
  both_wait (Broadcast.takes_end {a} {x} p) = let w = both_wait p in (Sides.taking_waits v l a (tied v l u m p).side w.0, w.1)
  both_wait (Broadcast.at_box {a} {x} p c i q) = let w = both_wait p in (w.0, after_waits u m x (tied v l u m p).screen c i w.1)

  -- a datagram that is cut out of what the endpoint's `messages` hands back may be handed to the session
  pub end_cut_allowed : {a : Side} {x : Screen} → Broadcast v u a x → (out : List ℕ) → IsSlice out → SideHolds out a → (d : List ℕ) → Mem d (cut (v.messages a.endpoint out))
      → (peer now epoch nonce : ℕ) (lent : List ℕ) → AllowedBox (call_of (Asked.datagram peer d now epoch nonce lent)) a.queued
  end_cut_allowed {a} p out i h d q peer now epoch nonce lent =
      λ _ _. of_cut a.waiting a.queued (both_wait p).0.of d (Sides.handed_waits v l a (tied v l u m p).side out i h d q)

  -- one that is cut out of what a poll hands back may be handed to the endpoint, from then on
  pub poll_cut_allowed : {a : Side} {x : Screen} → Broadcast v u a x → (now epoch nonce : ℕ) (out : List ℕ) → IsAsked (Asked.poll_remote_clients now epoch nonce out) → Holds out x
      → (d : List ℕ) → Mem d (cut (polled_bytes u x.session now epoch nonce out)) → (peer now' epoch' nonce' : ℕ) (lent : List ℕ)
      → Allowed (Endpoint.call_of (Endpoint.Asked.datagram peer d now' epoch' nonce' lent)) (after u (Asked.poll_remote_clients now epoch nonce out) x).queued
  poll_cut_allowed {a} {x} p now epoch nonce out i h d q peer now' epoch' nonce' lent =
      λ _ _. of_cut (polled_bytes u x.session now epoch nonce out) _ (polled_waits u m x (tied v l u m p).screen now epoch nonce out i h (both_wait p).1) d q
