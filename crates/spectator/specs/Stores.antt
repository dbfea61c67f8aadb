-- What the session's stores hold: lists, those held in a `FixedVec`. A count beyond the array counts as the array's length.
use Rattle.std.specs.Prelude.{List, map, ◌≡◌, ℕ, length, replicate}
use Rattle.ceilings.specs.Ceilings.{most_input_size}
use Rattle.fixed_vec.specs.FixedVec.{held}
use Rattle.status.specs.declared.list.Statuses.{Statuses}
use Rattle.status.specs.Statuses.{held_statuses}
use Rattle.spectator_rules.specs.declared.PlayerInput.{PlayerInput}
use Rattle.spectator_rules.specs.declared.SessionEntry.{SessionEntry}
use Rattle.spectator_rules.specs.declared.SessionEvent.TheVariants.{Synchronized}
use Rattle.spectator_rules.specs.declared.InputStatus.TheVariants.{Confirmed}
use Rattle.spectator_rules.specs.declared.SyncedInput.{SyncedInput}
use Rattle.spectator.specs.declared.inputs.Inputs.{Inputs}
use Rattle.spectator.specs.declared.session_events.SessionEvents.{SessionEvents}
use Rattle.spectator.specs.declared.requests.Request.{Request}
use Rattle.spectator.specs.declared.requests.Requests.{Requests}

-- slot by slot
unfoldable pub inputs_of : Inputs → List PlayerInput
inputs_of s = held s.entries

-- oldest first
unfoldable pub events_of : SessionEvents → List SessionEntry
events_of s = held s.entries

-- one for each player
unfoldable pub request_of : Request → List SyncedInput
request_of q = held q.inputs

-- frame by frame
unfoldable pub request_frames : Requests → List (List SyncedInput)
request_frames r = map request_of (held r.frames)

-- of each of these frames its own count, as it stands
unfoldable pub request_counts : Requests → List ℕ
request_counts r = map (λ (q : Request). q.inputs.count) (held r.frames)

-- ---- a store that is handed back holds a list, and its count is the list's length; only what its array holds past the count is left open

-- the inputs received
abbrev pub InputsAs : List PlayerInput → Inputs → Type 0
InputsAs l r = (inputs_of r ≡ l) × (r.entries.count ≡ length l)

-- events
abbrev pub EventsAs : List SessionEntry → SessionEvents → Type 0
EventsAs l r = (events_of r ≡ l) × (r.entries.count ≡ length l)

-- one frame
abbrev pub RequestAs : List SyncedInput → Request → Type 0
RequestAs l r = (request_of r ≡ l) × (r.inputs.count ≡ length l)

-- frames: how many they are, and in each how many players
pub record RequestsAs (l : List (List SyncedInput)) (r : Requests) : Type 0 where
  pub frames : request_frames r ≡ l
  pub count : r.frames.count ≡ length l
  pub players : request_counts r ≡ map length l

-- the counts of a session's stores, as they stand: each is the number of what its store holds
pub record StoresCounted (i : Inputs) (t : Statuses) (e : SessionEvents) : Type 0 where
  pub inputs : i.entries.count ≡ length (inputs_of i)
  pub statuses : t.count ≡ length (held_statuses t)
  pub events : e.entries.count ≡ length (events_of e)

-- what is read past the last event
unfoldable pub blank_session_entry : SessionEntry
blank_session_entry = record { addr = 0; event = Synchronized }

-- what is read past the last player
unfoldable pub blank_synced : SyncedInput
blank_synced = record { input = replicate most_input_size 0; status = Confirmed }
