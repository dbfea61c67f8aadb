-- What is to hold of the frames that a box showed.
use Rattle.std.specs.Prelude.{true, ◌≡◌, ℕ, suc, ◌+◌, ◌-◌, ◌<◌, length, take, drop, replicate, get_or}
use mathlib.Core.List.{List, [], ◌∷◌, ◌++◌, map, Memᴰ as Mem}
use Rattle.ceilings.specs.Ceilings.{most_input_size}
use Rattle.frame.specs.Bias.{bias32}
use Rattle.status.specs.Status.{default_status}
use Rattle.status.specs.declared.ConnectionStatus.{ConnectionStatus}
use Rattle.events.specs.declared.Entry.{Entry}
use Rattle.setup.specs.Setup.{receiving_width}
use Rattle.endpoint_invariant.specs.Each.{Each}
use Rattle.endpoint_delivery.specs.Frames.{Given, Announced, announced_to, AsWide}
use Rattle.endpoint_delivery.specs.Runs.{End}
use Rattle.spectator_rules.specs.declared.InputStatus.{InputStatus}
use Rattle.spectator_rules.specs.declared.InputStatus.TheVariants.{Disconnected}
use Rattle.spectator_rules.specs.declared.SyncedInput.{SyncedInput}
use Rattle.spectator_invariant.specs.Handled.{input_event}
use Rattle.spectator_delivery.specs.Viewing.{Shown, Box}

-- numbers one after the other: each frame once, none skipped. The numbers of an advance are those from the session's current frame on (`shown_by`), so it is
-- `announced` and `accepted` below that tie a number to its inputs
unfoldable pub InTurn : (first : ℕ) → List Shown → Type 0
InTurn first [] = Unit {0}
InTurn first (s ∷ l) = (s.number ≡ first) × InTurn (suc first) l

-- inputs stand one after the other for the players from a first one on: P holds of each player with its input
unfoldable pub ByPlayer : (P : (player : ℕ) → SyncedInput → Type 0) → (player : ℕ) → List SyncedInput → Type 0
ByPlayer P player [] = Unit {0}
ByPlayer P player (y ∷ ys) = P player y × ByPlayer P (suc player) ys

-- ---- what the session's endpoint announced

-- one input a player, and each is what one of the events handled announced of that frame for that player
pub record FromEvents (players : ℕ) (handled : List Entry) (s : Shown) : Type 0 where
  pub count : length s.inputs ≡ players
  pub inputs : ByPlayer (λ player y. Mem (input_event player (record { frame = s.number; input = y.input })) handled) 0 s.inputs

-- past its `size` bytes an input has zeros, up to 16 bytes
abbrev pub ZerosPast : (size : ℕ) → Shown → Type 0
ZerosPast size s = ByPlayer (λ player y. drop size y.input ≡ replicate (most_input_size - size) 0) 0 s.inputs

-- ---- who has left

-- a player has left before a frame, as a status says
abbrev pub LeftBefore : (frame : ℕ) → ConnectionStatus → Type 0
LeftBefore frame s = (s.disconnected ≡ true) × (s.last_frame < frame)

-- Disconnected exactly then
abbrev pub MarksLeft : (frame : ℕ) → ConnectionStatus → InputStatus → Type 0
MarksLeft frame s status = (status ≡ Disconnected → LeftBefore frame s) × (LeftBefore frame s → status ≡ Disconnected)

-- a status for each player, and each input is marked by its player's
pub record Marked (players : ℕ) (s : Shown) : Type 0 where
  pub count : length s.statuses ≡ players
  pub inputs : ByPlayer (λ player y. MarksLeft s.number (get_or s.statuses player default_status) y.status) 0 s.inputs

-- ---- what the sending end accepted

-- a frame shown as frames are read off events: each player's number with the first `size` bytes of its input
unfoldable pub given_from : (size player : ℕ) → List SyncedInput → List Given
given_from size player [] = []
given_from size player (y ∷ ys) = record { player = player; bytes = take size y.input } ∷ given_from size (suc player) ys

abbrev pub read_off : (size : ℕ) → Shown → Announced
read_off size s = record { number = s.number; inputs = given_from size 0 s.inputs }

-- ---- the whole

-- of every box, whatever messages it is handed
pub record Shows (x : Box) : Type 0 where
  -- the frames shown are 0, 1, 2, .. up to the current one
  pub turn : InTurn bias32 x.shown
  pub current : bias32 + length x.shown ≡ suc x.watch.current
  -- the events that polls handled, and behind them those that the session's endpoint still holds, are all that it announced, in order: none is lost, none is
  -- handled twice, and none is handled that it did not announce
  pub whole : x.handled ++ x.watch.host.events ≡ x.announced
  -- each input is what the session's endpoint announced of that frame for that player, in an event that a poll handled
  pub announced : Each (FromEvents x.watch.host.setup.players x.handled) x.shown
  -- and of no frame and player polls handled two different inputs
  pub once : (frame player : ℕ) (input other : List ℕ) → Mem (input_event player (record { frame = frame; input = input })) x.handled
      → Mem (input_event player (record { frame = frame; input = other })) x.handled → input ≡ other
  -- past the setup's input size each input has zeros, up to 16 bytes
  pub zeros : Each (ZerosPast x.watch.host.setup.input_size) x.shown
  -- a player's input is marked Disconnected exactly when the statuses copied last before it was shown have that player as left before this frame
  pub marked : Each (Marked x.watch.host.setup.players) x.shown

-- of a box and the endpoint that sends to it: what was shown of a bout is what was played
pub record Viewed (a : End) (x : Box) : Type 0 where
  pub shows : Shows x
  -- the frames shown are the first ones that the sending end accepted for sending, with the players' parts of their bytes
  pub accepted : map (read_off x.watch.host.setup.input_size) x.shown
      ≡ map (announced_to x.watch.host.setup.input_size x.watch.host.setup.handles) (take (length x.shown) a.accepted)
  -- every frame accepted is as wide as the inputs of all players, so the players' parts are all of its bytes (laws `shares_Whole`, `shares_sized`)
  pub wide : Each (AsWide (receiving_width x.watch.host.setup)) a.accepted
