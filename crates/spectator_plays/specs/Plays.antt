-- Plays: a version's own calls on a session, alone, or on a session and on the endpoint that sends to it; with any values of the code's types. Of Inputs and InputAcks
-- only those are handed over that the other one queued earlier: late, repeated, shuffled or never.
use Rattle.std.specs.Prelude.{◌≡◌, ℕ}
use Rattle.answer.specs.Number.{number_of}
use Rattle.setup.specs.declared.Setup.{Setup}
use Rattle.endpoint_invariant.specs.Typed.{IsU64, TypedSetup}
use Rattle.endpoint_delivery.specs.Runs.{Allowed}
use Rattle.endpoint_version.specs.Version as Endpoint
use Rattle.endpoint_plays.specs.Sides.{Side, taking, starts}
use Rattle.endpoint_plays.specs.Sides as Side
use Rattle.endpoint_plays.specs.Plays.{Fitting}
use Rattle.spectator_rules.specs.declared.SessionSetup.{SessionSetup}
use Rattle.spectator_rules.specs.Setup.{host_setup}
use Rattle.spectator_delivery.specs.Viewing.{Box, next_box, AllowedBox}
use Rattle.spectator_delivery.specs.Viewing as Boxes
use Rattle.spectator_version.specs.Values.{IsSessionSetup}
use Rattle.spectator_version.specs.Version.{Version, Asked, IsAsked, call_of}
use Rattle.spectator_plays.specs.Screens.{Screen, after, opens}

-- a session alone, with any messages
pub data Watching (u : Version) : Screen → Type 0 where
  begin : (g : SessionSetup) (now : ℕ) → IsSessionSetup g → IsU64 now → number_of (u.new g now).answer ≡ 0 → Watching u (opens u g now)
  more : {x : Screen} → Watching u x → (c : Asked) → IsAsked c → Watching u (after u c x)

-- an endpoint that sends, and a session that shows. They fit as two endpoints do (`Fitting`), where `host_setup` is the setup of the session's own endpoint
pub data Broadcast (v : Endpoint.Version) (u : Version) : Side → Screen → Type 0 where
  begin : (g : Setup) (h : SessionSetup) (now then : ℕ) → TypedSetup g → IsSessionSetup h → IsU64 now → IsU64 then → number_of (v.new g now).answer ≡ 0
      → number_of (u.new h then).answer ≡ 0 → Fitting g (host_setup h) → Broadcast v u (starts v g now) (opens u h then)
  -- a call on the endpoint, its events taken, and a call on the session
  at_end : {a : Side} {x : Screen} → Broadcast v u a x → (c : Endpoint.Asked) → Endpoint.IsAsked c → Allowed (Endpoint.call_of c) x.queued → Broadcast v u (Side.after v c a) x
  takes_end : {a : Side} {x : Screen} → Broadcast v u a x → Broadcast v u (taking v a) x
  at_box : {a : Side} {x : Screen} → Broadcast v u a x → (c : Asked) → IsAsked c → AllowedBox (call_of c) a.queued → Broadcast v u a (after u c x)

-- ---- the box of the rules behind a play: the very same calls, with what the rules say of them

unfoldable pub box_of : {u : Version} {x : Screen} → Watching u x → Box
box_of (Watching.begin g now t i n) = Boxes.opens g now
box_of (Watching.more p c i) = next_box (call_of c) (box_of p)

unfoldable pub box_in : {v : Endpoint.Version} {u : Version} {a : Side} {x : Screen} → Broadcast v u a x → Box
box_in (Broadcast.begin g h now then tg th ig ih ng nh f) = Boxes.opens h then
box_in (Broadcast.at_end p c i q) = box_in p
box_in (Broadcast.takes_end p) = box_in p
box_in (Broadcast.at_box p c i q) = next_box (call_of c) (box_in p)
