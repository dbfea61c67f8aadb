-- What a session does with an event of its host.
use Rattle.std.specs.Prelude.{List, [], ◌∷◌, ◌++◌, ◌≡◌, refl, ℕ, min}
use Rattle.base.specs.Last.{last_of}
use Rattle.ceilings.specs.Ceilings.{most_session_events}
use Rattle.events.specs.declared.Entry.{Entry}
use Rattle.events.specs.declared.Event.{Event}
use Rattle.endpoint_rules.specs.Step.{advantage_step}
use Rattle.spectator_rules.specs.declared.SessionEntry.{SessionEntry}
use Rattle.spectator_rules.specs.declared.SessionEvent.{SessionEvent}
use Rattle.spectator_rules.specs.declared.SessionState.TheVariants.{Running}
use Rattle.spectator_rules.specs.Inputs.{input_stored}
use Rattle.spectator_rules.specs.Watch.{Watch, with_host, with_state, with_inputs, with_statuses, with_events, with_newest}

-- ---- announcing

-- one more event at the end; beyond M the oldest are dropped (S-15). A store of 128 stands for an M above that (not reachable)
unfoldable pub event_added : (most : ℕ) → SessionEntry → List SessionEntry → List SessionEntry
event_added most x l = last_of (min most most_session_events) (l ++ x ∷ [])

-- with the host's peer number
unfoldable pub announce : SessionEvent → Watch → Watch
announce x w = with_events (event_added w.limits.session_events (record { addr = w.host.setup.peer; event = x }) w.events) w

-- ---- an Input: it is stored, it is the newest, the host's local advantage is updated with its frame, going on past a refusal 6, and the host's
-- peer statuses are copied

abbrev pub stored_in : (frame player : ℕ) → (input : List ℕ) → Watch → Watch
stored_in frame player input w = with_newest frame (with_inputs (input_stored w.limits.slots frame player input w.inputs) w)

abbrev pub advantage_taken : (frame : ℕ) → Watch → Watch
advantage_taken frame w = with_host (advantage_step frame w.host).after w

abbrev pub statuses_copied : Watch → Watch
statuses_copied w = with_statuses w.host.statuses w

unfoldable pub input_handled : (frame player : ℕ) → (input : List ℕ) → Watch → Watch
input_handled frame player input w = statuses_copied (advantage_taken frame (stored_in frame player input w))

-- ---- one event, by its kind; all others than Input are announced on

abbrev pub on_event : Event → (input : List ℕ) → Watch → Watch
on_event (Event.Synchronizing total count) input w = announce (SessionEvent.Synchronizing total count) w
on_event Event.Synchronized input w = announce SessionEvent.Synchronized (with_state Running w)
on_event (Event.Input frame player) input w = input_handled frame player input w
on_event Event.Disconnected input w = announce SessionEvent.Disconnected w
on_event (Event.NetworkInterrupted timeout) input w = announce (SessionEvent.NetworkInterrupted timeout) w
on_event Event.NetworkResumed input w = announce SessionEvent.NetworkResumed w

unfoldable pub handled : Entry → Watch → Watch
handled x w = on_event x.event x.input w

-- oldest first
unfoldable pub handled_all : List Entry → Watch → Watch
handled_all [] w = w
handled_all (x ∷ xs) w = handled_all xs (handled x w)

-- worked: a third event with M = 2 drops the first
announced_example : (a b c : SessionEntry) → event_added 2 c (a ∷ b ∷ []) ≡ b ∷ c ∷ []
unfolding event_added last_of
announced_example a b c = refl
