-- The events that a run of a session handles, and that the inputs held came with them.
use mathlib.Core.List.{List, [], ◌∷◌, ◌++◌, Memᴰ as Mem}
use Rattle.std.specs.Prelude.{◌⊎◌, ◌≡◌, ℕ, ◌+◌, ◌*◌, ◌<◌, eqb, get_or}
use Rattle.base.specs.Pick.{pick}
use Rattle.ceilings.specs.Ceilings.{most_players}
use Rattle.frame.specs.Bias.{null_frame}
use Rattle.events.specs.declared.Entry.{Entry}
use Rattle.events.specs.declared.Event.TheVariants as Event
use Rattle.spectator_rules.specs.declared.PlayerInput.{PlayerInput}
use Rattle.spectator_rules.specs.Inputs.{blank_input}
use Rattle.spectator_rules.specs.Watch.{Watch}
use Rattle.spectator_rules.specs.Call.{Call}
use Rattle.spectator_rules.specs.Step.{host_acts, poll_refusal, step}

-- a poll that is not refused handles all events of its host; no other call handles any
abbrev pub handled_by : Call → Watch → List Entry
handled_by (Call.synchronize now epoch nonce buffer) w = []
handled_by (Call.message from count m now epoch nonce buffer) w = []
handled_by (Call.datagram from bytes now epoch nonce buffer) w = []
handled_by (Call.poll_remote_clients now epoch nonce buffer) w =
    pick (eqb (poll_refusal now epoch nonce buffer w) 0) (w.host.events ++ (host_acts now epoch nonce buffer w).after.events) []
handled_by Call.advance_frame w = []
handled_by (Call.take_messages buffer) w = []
handled_by Call.take_events w = []
handled_by (Call.network_stats epoch) w = []
handled_by Call.frames_behind_host w = []
handled_by Call.current_state w = []
handled_by Call.current_frame w = []
handled_by Call.num_players w = []

unfoldable pub all_handled : List Call → Watch → List Entry
all_handled [] w = []
all_handled (c ∷ cs) w = handled_by c w ++ all_handled cs (step c w).after

-- the event of a player's input
abbrev pub input_event : (player : ℕ) → PlayerInput → Entry
input_event player x = record { event = Event.Input x.frame player; input = x.input }

-- at every place stands an input of frame -1, as a blank one is, or one that came with an event of its frame and player
abbrev pub Came : List Entry → List PlayerInput → Type 0
Came events l =
    (slot player : ℕ) → player < most_players
    → ((get_or l (slot * most_players + player) blank_input).frame ≡ null_frame) ⊎ Mem (input_event player (get_or l (slot * most_players + player) blank_input)) events
