-- What a viewer gets, in the words of the customer: of the calls, of what they handed back, and of the setups that were given.
use mathlib.Core.List.{List, ◌++◌, map, Memᴰ as Mem}
use Rattle.std.specs.Prelude.{◌≡◌, ℕ, suc, ◌+◌, length, take}
use Rattle.frame.specs.Bias.{bias32}
use Rattle.endpoint_invariant.specs.Each.{Each}
use Rattle.events.specs.Events.{held_events}
use Rattle.endpoint_delivery.specs.Frames.{announced_to, AsWide}
use Rattle.endpoint_plays.specs.Sides.{Side}
use Rattle.endpoint_plays.specs.Delivered.{handles_of, width_of}
use Rattle.spectator_rules.specs.Setup.{host_setup}
use Rattle.spectator_invariant.specs.Handled.{input_event}
use Rattle.spectator_delivery.specs.Viewing.{Box, Showing}
use Rattle.spectator_delivery.specs.Viewed.{InTurn, FromEvents, Marked, read_off, ZerosPast}
use Rattle.spectator.specs.Session.{seen}
use Rattle.spectator_version.specs.Version.{Version}
use Rattle.spectator_plays.specs.Screens.{Screen}

-- a box of the rules stands behind a screen: the screen's session is the box's, and they queued and showed the same
pub record Behind (x : Screen) (b : Box) : Type 0 where
  pub run : Showing b
  pub watch : b.watch ≡ seen x.session
  pub queued : b.queued ≡ x.queued
  pub shown : b.shown ≡ x.shown

-- of every session, whatever messages it is handed; `b` is the box of the rules with the play's own calls (`box_of`, `box_in`)
pub record Watched (u : Version) (x : Screen) (b : Box) : Type 0 where
  -- the frames shown are 0, 1, 2, .. up to the current one, each once, none skipped
  pub turn : InTurn bias32 x.shown
  pub current : bias32 + length x.shown ≡ suc (u.current_frame x.session)
  -- a player's input is marked Disconnected exactly when the statuses copied last before it was shown have that player as left before this frame
  pub marked : Each (Marked x.setup.num_players) x.shown
  -- each input is what the session's own endpoint announced of that frame for that player, and it announced no other of them
  pub behind : Behind x b
  pub announced : Each (FromEvents x.setup.num_players b.handled) x.shown
  pub once : (frame player : ℕ) (input other : List ℕ) → Mem (input_event player (record { frame = frame; input = input })) b.handled
      → Mem (input_event player (record { frame = frame; input = other })) b.handled → input ≡ other
  -- the events that polls handled, and those that its endpoint still holds, are all that it announced: none is lost, none comes twice
  pub whole : b.handled ++ held_events x.session.host.events ≡ b.announced
  -- past its size an input has zeros, up to 16 bytes
  pub zeros : Each (ZerosPast x.setup.input_size) x.shown

-- what the box shows of a bout is what was fenced: the frames shown are the first ones that the sending end accepted for sending, with the players' parts of their bytes
pub record Viewed (u : Version) (a : Side) (x : Screen) (b : Box) : Type 0 where
  pub watched : Watched u x b
  pub accepted : map (read_off x.setup.input_size) x.shown
      ≡ map (announced_to x.setup.input_size (handles_of (host_setup x.setup))) (take (length x.shown) a.accepted)
  -- every frame accepted is as wide as the inputs of all players, so the players' parts are all of its bytes (law `shares_Whole`)
  pub wide : Each (AsWide (width_of (host_setup x.setup))) a.accepted
