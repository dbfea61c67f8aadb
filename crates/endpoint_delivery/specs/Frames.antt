-- Frames as a reader of an endpoint's calls and events sees them: those accepted for sending, and those announced.
use Rattle.std.specs.Prelude.{◌&&◌, List, [], ◌∷◌, ◌++◌, ◌≡◌, refl, ℕ, suc, eqb, length, take, drop}
use Rattle.base.specs.Pick.{pick}
use Rattle.events.specs.declared.Entry.{Entry}
use Rattle.events.specs.declared.Event.{Event}
use Rattle.endpoint_rules.specs.Seen.{Seen, is_running}
use Rattle.endpoint_rules.specs.Call.{Call}
use Rattle.endpoint_rules.specs.Step.{step}

-- a frame: its number, and its bytes
pub record Frame : Type 0 where
  pub number : ℕ
  pub bytes : List ℕ

-- ---- accepted: what is given to a send that is not refused, in Running; elsewhere a send does nothing

abbrev pub accepted_by : Call → Seen → List Frame
accepted_by (Call.synchronize now epoch nonce buffer) s = []
accepted_by (Call.message from count w now epoch nonce buffer) s = []
accepted_by (Call.datagram from bytes now epoch nonce buffer) s = []
accepted_by (Call.act count statuses now epoch nonce buffer) s = []
accepted_by (Call.send_input frame bytes count statuses now buffer) s =
    pick (is_running s.phase && eqb (step (Call.send_input frame bytes count statuses now buffer) s).answer 0) (record { number = frame; bytes = bytes } ∷ []) []
accepted_by (Call.disconnect now) s = []
accepted_by (Call.send_checksum_report frame checksum now buffer) s = []
accepted_by (Call.update_local_frame_advantage local_frame) s = []
accepted_by (Call.network_stats epoch) s = []
accepted_by (Call.peer_connect_status handle) s = []
accepted_by Call.take_events s = []
accepted_by (Call.take_messages buffer) s = []
accepted_by (Call.ask question) s = []

-- ---- announced: read off the events

-- one player's input
pub record Given : Type 0 where
  pub player : ℕ
  pub bytes : List ℕ

-- a frame as events announce it: the inputs of its players, in the order of the events
pub record Announced : Type 0 where
  pub number : ℕ
  pub inputs : List Given

-- an event of the same frame as those after it adds its input in front
unfoldable pub joined : (frame : ℕ) → Given → List Announced → List Announced
joined frame x [] = record { number = frame; inputs = x ∷ [] } ∷ []
joined frame x (y ∷ ys) =
    pick (eqb frame y.number) (record { number = frame; inputs = x ∷ y.inputs } ∷ ys) (record { number = frame; inputs = x ∷ [] } ∷ y ∷ ys)

-- one event: an Input announces one player's input, the first `size` of its bytes
abbrev pub read : (size : ℕ) → Event → (input : List ℕ) → List Announced → List Announced
read size (Event.Synchronizing total count) input l = l
read size Event.Synchronized input l = l
read size (Event.Input frame player) input l = joined frame (record { player = player; bytes = take size input }) l
read size Event.Disconnected input l = l
read size (Event.NetworkInterrupted timeout) input l = l
read size Event.NetworkResumed input l = l

-- the frames that some events announce, one after the other
unfoldable pub announced_in : (size : ℕ) → List Entry → List Announced
announced_in size [] = []
announced_in size (e ∷ es) = read size e.event e.input (announced_in size es)

-- the number of the last frame announced, or the one given where there is none
unfoldable pub last_announced : (none : ℕ) → List Announced → ℕ
last_announced none [] = none
last_announced none (x ∷ xs) = last_announced x.number xs

-- ---- how a frame accepted here is to be announced there

-- its bytes are the players' inputs end to end: each player has the next `size` of them
unfoldable pub shares : (size : ℕ) → (players bytes : List ℕ) → List Given
shares size [] bytes = []
shares size (p ∷ ps) bytes = record { player = p; bytes = take size bytes } ∷ shares size ps (drop size bytes)

unfoldable pub all_bytes : List Given → List ℕ
all_bytes [] = []
all_bytes (x ∷ xs) = x.bytes ++ all_bytes xs

abbrev pub announced_to : (size : ℕ) → (players : List ℕ) → Frame → Announced
announced_to size players x = record { number = x.number; inputs = shares size players x.bytes }

-- as wide as the inputs of all players, so that its shares are all of it (laws `shares_Whole`, `shares_sized`)
abbrev pub AsWide : (width : ℕ) → Frame → Type 0
AsWide width x = length x.bytes ≡ width

-- numbers one after the other, so that no frame is there twice
unfoldable pub Following : (first : ℕ) → List Frame → Type 0
Following first [] = Unit {0}
Following first (x ∷ xs) = (x.number ≡ first) × Following (suc first) xs

-- ---- worked: frame 7 of players 0 and 3 with two bytes each, another event between, then frame 8 of player 0 alone; and the shares of a frame

frames_example : announced_in 2 (record { event = Event.Input 7 0; input = 1 ∷ 2 ∷ 0 ∷ [] } ∷ record { event = Event.Synchronized; input = [] }
    ∷ record { event = Event.Input 7 3; input = 3 ∷ 4 ∷ 0 ∷ [] } ∷ record { event = Event.Input 8 0; input = 5 ∷ 6 ∷ 0 ∷ [] } ∷ [])
    ≡ record { number = 7; inputs = record { player = 0; bytes = 1 ∷ 2 ∷ [] } ∷ record { player = 3; bytes = 3 ∷ 4 ∷ [] } ∷ [] }
    ∷ record { number = 8; inputs = record { player = 0; bytes = 5 ∷ 6 ∷ [] } ∷ [] } ∷ []
unfolding announced_in joined
frames_example = refl

shares_example : shares 2 (0 ∷ 3 ∷ []) (1 ∷ 2 ∷ 3 ∷ 4 ∷ []) ≡ record { player = 0; bytes = 1 ∷ 2 ∷ [] } ∷ record { player = 3; bytes = 3 ∷ 4 ∷ [] } ∷ []
unfolding shares
shares_example = refl
