-- Advancing: how many frames, which of them are there, and what each gives. A definition `xBy` is x over
-- numbers and lists, which the contracts of the code's helpers cite; x is the same of a whole session.
use Rattle.std.specs.Prelude.{Bool, true, false, not, ◌&&◌, List, [], ◌∷◌, ℕ, zero, suc, ◌+◌, ◌-◌, ◌^◌, min, ltb, eqb, take, get_or}
use Rattle.base.specs.Pick.{pick}
use Rattle.base.specs.First.{first_of}
use Rattle.ceilings.specs.Ceilings.{most_advanced}
use Rattle.status.specs.Status.{default_status}
use Rattle.status.specs.declared.ConnectionStatus.{ConnectionStatus}
use Rattle.quality.specs.Advantage.{difference_overflows}
use Rattle.spectator_rules.specs.declared.Limits.{Limits}
use Rattle.spectator_rules.specs.declared.PlayerInput.{PlayerInput}
use Rattle.spectator_rules.specs.declared.InputStatus.{InputStatus}
use Rattle.spectator_rules.specs.declared.InputStatus.TheVariants.{Confirmed, Disconnected}
use Rattle.spectator_rules.specs.declared.SyncedInput.{SyncedInput}
use Rattle.spectator_rules.specs.Inputs.{player_input_at}
use Rattle.spectator_rules.specs.Watch.{Watch, is_running, players_of, with_current}

-- ---- how far behind, and how many frames that is

-- newest - current; a newest below current counts as 0 (not reachable)
abbrev pub behind : Watch → ℕ
behind w = w.newest - w.current

-- 6 (S-17): newest - current leaves i32
abbrev pub behind_overflows : Watch → Bool
behind_overflows w = difference_overflows w.newest w.current

-- 6 (S-18): current + 1 leaves i32 (held 2^31 higher it reaches 2^32)
abbrev pub next_overflows : Watch → Bool
next_overflows w = eqb (w.current + 1) (2 ^ 32)

-- how many frames (S-19, S-20): one, or, too far behind, as many as the catch-up speed says, but no more than there are, and fewer than there are slots.
-- `most_advanced`, 63, matters only above 64 slots (not reachable)
unfoldable pub frames_by : Limits → (behind : ℕ) → ℕ
frames_by l behind = pick (ltb l.max_frames_behind behind) (min (min l.catchup_speed behind) (min (l.slots - 1) most_advanced)) 1

unfoldable pub frames_to_advance : Watch → ℕ
frames_to_advance w = frames_by w.limits (behind w)

-- ---- the inputs of a frame

-- the frame that the slot of a frame holds: its first player's
abbrev pub held_by : (slots frame : ℕ) → List PlayerInput → ℕ
held_by slots frame inputs = (player_input_at slots frame 0 inputs).frame

abbrev pub held_at : (frame : ℕ) → Watch → ℕ
held_at frame w = held_by w.limits.slots frame w.inputs

-- 16: its slot holds an earlier frame, -1 where it is blank, so it is not received yet; 17: a later one, so it is gone (S-21)
abbrev pub frame_refusal_by : (slots frame : ℕ) → List PlayerInput → ℕ
frame_refusal_by slots frame inputs = first_of ((ltb (held_by slots frame inputs) frame, 16) ∷ (ltb frame (held_by slots frame inputs), 17) ∷ [])

abbrev pub frame_refusal : (frame : ℕ) → Watch → ℕ
frame_refusal frame w = frame_refusal_by w.limits.slots frame w.inputs

-- of n frames, from one on, the refusal of the first that is not there; 0 where all are
unfoldable pub frames_refusal_by : (slots n frame : ℕ) → List PlayerInput → ℕ
frames_refusal_by slots zero frame inputs = 0
frames_refusal_by slots (suc n) frame inputs =
    pick (eqb (frame_refusal_by slots frame inputs) 0) (frames_refusal_by slots n (suc frame) inputs) (frame_refusal_by slots frame inputs)

abbrev pub frames_refusal : (n frame : ℕ) → Watch → ℕ
frames_refusal n frame w = frames_refusal_by w.limits.slots n frame w.inputs

-- a player that the host reported as disconnected before the frame (S-23)
abbrev pub is_gone : (frame : ℕ) → ConnectionStatus → Bool
is_gone frame s = s.disconnected && ltb s.last_frame frame

abbrev pub status_of : Bool → InputStatus
status_of true = Disconnected
status_of false = Confirmed

abbrev pub synced_of : (frame : ℕ) → PlayerInput → ConnectionStatus → SyncedInput
synced_of frame x s = record { input = x.input; status = status_of (is_gone frame s) }

abbrev pub synced_by : (slots frame player : ℕ) → List PlayerInput → List ConnectionStatus → SyncedInput
synced_by slots frame player inputs statuses = synced_of frame (player_input_at slots frame player inputs) (get_or statuses player default_status)

unfoldable pub synced_at : (frame player : ℕ) → Watch → SyncedInput
synced_at frame player w = synced_by w.limits.slots frame player w.inputs w.statuses

-- one for each player in their order
unfoldable pub frame_inputs_by : (slots frame players : ℕ) → List PlayerInput → List ConnectionStatus → List SyncedInput
frame_inputs_by slots frame players inputs statuses =
    take players
    (synced_by slots frame 0 inputs statuses
    ∷ synced_by slots frame 1 inputs statuses
    ∷ synced_by slots frame 2 inputs statuses
    ∷ synced_by slots frame 3 inputs statuses
    ∷ [])

abbrev pub frame_inputs : (frame : ℕ) → Watch → List SyncedInput
frame_inputs frame w = frame_inputs_by w.limits.slots frame (players_of w) w.inputs w.statuses

-- n frames from one on
unfoldable pub requests_by : (slots n frame players : ℕ) → List PlayerInput → List ConnectionStatus → List (List SyncedInput)
requests_by slots zero frame players inputs statuses = []
requests_by slots (suc n) frame players inputs statuses = frame_inputs_by slots frame players inputs statuses ∷ requests_by slots n (suc frame) players inputs statuses

abbrev pub requests_from : (n frame : ℕ) → Watch → List (List SyncedInput)
requests_from n frame w = requests_by w.limits.slots n frame (players_of w) w.inputs w.statuses

-- ---- the whole

unfoldable pub requests_of : Watch → List (List SyncedInput)
requests_of w = requests_from (frames_to_advance w) (suc w.current) w

abbrev pub advance_tests : Watch → List (Bool × ℕ)
advance_tests w = (not (is_running w.state), 14) ∷ (behind_overflows w, 6) ∷ (next_overflows w, 6) ∷ []

unfoldable pub advance_refusal : Watch → ℕ
advance_refusal w =
    pick (eqb (first_of (advance_tests w)) 0) (frames_refusal (frames_to_advance w) (suc w.current) w) (first_of (advance_tests w))

abbrev pub advanced : Watch → Watch
advanced w = with_current (w.current + frames_to_advance w) w
