-- What holds of every session after every run of calls from `new` on: `new` gives it and every call keeps it (laws `fresh_seated`, `step_seated`).
use Rattle.std.specs.Prelude.{List, [], ◌∷◌, ◌⊎◌, ◌≡◌, ℕ, zero, suc, ◌+◌, ◌*◌, ◌^◌, ◌≤◌, ◌<◌, eqb, length, take, get_or}
use Rattle.base.specs.Pick.{pick}
use Rattle.ceilings.specs.Ceilings.{most_players, most_input_size, most_slots, most_session_events}
use Rattle.frame.specs.Bias.{bias32, null_frame}
use Rattle.history.specs.History.{newest_of}
use Rattle.events.specs.declared.Entry.{Entry}
use Rattle.events.specs.declared.Event.{Event}
use Rattle.setup.specs.Setup.{Between}
use Rattle.spectator_rules.specs.Setup.{most_frames}
use Rattle.endpoint_invariant.specs.Each.{Each}
use Rattle.endpoint_invariant.specs.Sound.{Sound, SoundStatus}
use Rattle.spectator_rules.specs.declared.Limits.{Limits}
use Rattle.spectator_rules.specs.declared.PlayerInput.{PlayerInput}
use Rattle.spectator_rules.specs.Inputs.{blank_input, slot_of}
use Rattle.spectator_rules.specs.Watch.{Watch}
use Rattle.spectator_rules.specs.Call.{Call}
use Rattle.spectator_rules.specs.Step.{step}

-- ---- events of the host that are to be handled. `last` is the last frame received, `due` the player whose input of it comes next, 0 where it came for all

-- the frame of an Input: the one after the last where that came for all players, any where none was received, else the last. So it is never below it
-- (an assert of the source)
abbrev pub Next : (last due frame : ℕ) → Type 0
Next last zero frame = (last < frame) × ((last ≡ null_frame) ⊎ (frame ≡ suc last))
Next last (suc due) frame = frame ≡ last

-- of an Input also: its player is the one due, and one of the session's; its input has length 16
abbrev pub Follows : (players last due : ℕ) → Event → (input : List ℕ) → Type 0
Follows players last due (Event.Synchronizing total count) input = Unit {0}
Follows players last due Event.Synchronized input = Unit {0}
Follows players last due (Event.Input frame player) input = Next last due frame × (player ≡ due) × (player < players) × (length input ≡ most_input_size)
Follows players last due Event.Disconnected input = Unit {0}
Follows players last due (Event.NetworkInterrupted timeout) input = Unit {0}
Follows players last due Event.NetworkResumed input = Unit {0}

-- both, after one of them
abbrev pub last_after : Event → (last : ℕ) → ℕ
last_after (Event.Synchronizing total count) last = last
last_after Event.Synchronized last = last
last_after (Event.Input frame player) last = frame
last_after Event.Disconnected last = last
last_after (Event.NetworkInterrupted timeout) last = last
last_after Event.NetworkResumed last = last

abbrev pub due_after : (players : ℕ) → Event → (due : ℕ) → ℕ
due_after players (Event.Synchronizing total count) due = due
due_after players Event.Synchronized due = due
due_after players (Event.Input frame player) due = pick (eqb (suc player) players) 0 (suc player)
due_after players Event.Disconnected due = due
due_after players (Event.NetworkInterrupted timeout) due = due
due_after players Event.NetworkResumed due = due

-- one after the other, up to a frame that comes for all
unfoldable pub Rising : (players last due top : ℕ) → List Entry → Type 0
Rising players last due top [] = (due ≡ 0) × (last ≡ top)
Rising players last due top (x ∷ xs) =
    Follows players last due x.event x.input × Rising players (last_after x.event last) (due_after players x.event due) top xs

-- ---- what a session holds by itself

-- within the ceilings
pub record SeatedLimits (l : Limits) : Type 0 where
  pub slots : Between 2 most_slots l.slots
  pub events : Between 1 most_session_events l.session_events
  pub behind : l.max_frames_behind ≤ most_frames
  pub speed : l.catchup_speed ≤ most_frames

-- a stored input: of no frame below -1 and of none above the newest, of length 16
pub record SeatedInput (newest : ℕ) (x : PlayerInput) : Type 0 where
  pub low : null_frame ≤ x.frame
  pub high : x.frame ≤ newest
  pub size : length x.input ≡ most_input_size

-- the frame that stands at a player's place of a slot
abbrev pub frame_at : (slot player : ℕ) → List PlayerInput → ℕ
frame_at slot player l = (get_or l (slot * most_players + player) blank_input).frame

-- with a frame, those after it up to the newest are held: frames come without a gap, and newer ones take the slots of the oldest
abbrev pub Stock : (slots newest : ℕ) → List PlayerInput → Type 0
Stock slots newest l =
    (frame i : ℕ) → bias32 ≤ frame → frame_at (slot_of slots frame) 0 l ≡ frame → frame + i ≤ newest → frame_at (slot_of slots (frame + i)) 0 l ≡ frame + i

pub record SeatedOwn (w : Watch) : Type 0 where
  pub limits : SeatedLimits w.limits
  -- four places a slot
  pub places : length w.inputs ≡ w.limits.slots * most_players
  pub inputs : Each (SeatedInput w.newest) w.inputs
  pub stock : Stock w.limits.slots w.newest w.inputs
  -- its copy of the host's statuses has one record a player
  pub players : length w.statuses ≡ w.host.setup.players
  pub statuses : Each SoundStatus w.statuses
  -- beyond M the oldest were dropped
  pub events : length w.events ≤ w.limits.session_events
  -- both are frames: the current one is not below -1, the newest received is not below the current one (an assert of the source)
  pub current : null_frame ≤ w.current
  pub newest : w.current ≤ w.newest
  pub frame : w.newest < 2 ^ 32

-- every slot holds one frame, for all players
abbrev pub Whole : (slots players : ℕ) → List PlayerInput → Type 0
Whole slots players l = (slot player : ℕ) → slot < slots → player < players → frame_at slot player l ≡ frame_at slot 0 l

-- ---- the whole

pub record Seated (w : Watch) : Type 0 where
  pub host : Sound w.host
  -- the host's handles are 0 up to players - 1
  pub handles : w.host.setup.handles ≡ take w.host.setup.players (0 ∷ 1 ∷ 2 ∷ 3 ∷ [])
  pub own : SeatedOwn w
  pub whole : Whole w.limits.slots w.host.setup.players w.inputs
  -- the host's events, from the newest frame received here on to the newest received there
  pub coming : Rising w.host.setup.players w.newest 0 (newest_of w.host.carried.receiver.history) w.host.events

-- ---- calls one after the other

unfoldable pub ran : List Call → Watch → Watch
ran [] w = w
ran (c ∷ cs) w = ran cs (step c w).after
