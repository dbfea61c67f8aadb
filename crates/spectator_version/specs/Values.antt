-- Values of the code's types, of a session: every number has the width of its field, every array its length and elements of its type. Its endpoint is as in
-- `endpoint_version`. A count of a store is any number of its width.
use Rattle.std.specs.Prelude.{◌≡◌, length}
use Rattle.base.specs.Little.{Bytes}
use Rattle.ceilings.specs.Ceilings.{most_input_size, most_places, most_session_events}
use Rattle.endpoint_invariant.specs.Each.{Each}
use Rattle.endpoint_invariant.specs.Typed.{IsU32, IsU64}
use Rattle.endpoint_version.specs.Values.{IsStatuses, IsEndpoint}
use Rattle.spectator_rules.specs.declared.Limits.{Limits}
use Rattle.spectator_rules.specs.declared.PlayerInput.{PlayerInput}
use Rattle.spectator_rules.specs.declared.SessionEntry.{SessionEntry}
use Rattle.spectator_rules.specs.declared.SessionEvent.{SessionEvent}
use Rattle.spectator_rules.specs.declared.SessionSetup.{SessionSetup}
use Rattle.spectator_invariant.specs.Typed.{TypedSession}
use Rattle.spectator.specs.declared.inputs.Inputs.{Inputs}
use Rattle.spectator.specs.declared.session_events.SessionEvents.{SessionEvents}
use Rattle.spectator.specs.declared.SpectatorSession.{SpectatorSession}

pub record IsLimits (l : Limits) : Type 0 where
  pub slots : IsU32 l.slots
  pub events : IsU32 l.session_events
  pub behind : IsU32 l.max_frames_behind
  pub speed : IsU32 l.catchup_speed

-- what `new` is given
pub record IsSessionSetup (g : SessionSetup) : Type 0 where
  pub host : TypedSession g
  pub limits : IsLimits g.limits

pub record IsPlayerInput (x : PlayerInput) : Type 0 where
  pub frame : IsU32 x.frame
  pub size : length x.input ≡ most_input_size
  pub bytes : Bytes x.input

pub record IsInputs (x : Inputs) : Type 0 where
  pub size : length x.entries.list ≡ most_places
  pub inputs : Each IsPlayerInput x.entries.list
  pub count : IsU64 x.entries.count

abbrev pub IsSessionEvent : SessionEvent → Type 0
IsSessionEvent (SessionEvent.Synchronizing total count) = IsU32 total × IsU32 count
IsSessionEvent SessionEvent.Synchronized = Unit {0}
IsSessionEvent SessionEvent.Disconnected = Unit {0}
IsSessionEvent (SessionEvent.NetworkInterrupted timeout) = IsU64 timeout
IsSessionEvent SessionEvent.NetworkResumed = Unit {0}

abbrev pub IsSessionEntry : SessionEntry → Type 0
IsSessionEntry x = IsU32 x.addr × IsSessionEvent x.event

pub record IsSessionEvents (x : SessionEvents) : Type 0 where
  pub size : length x.entries.list ≡ most_session_events
  pub entries : Each IsSessionEntry x.entries.list
  pub count : IsU64 x.entries.count

-- its state is one of two, whatever it is
pub record IsSession (s : SpectatorSession) : Type 0 where
  pub host : IsEndpoint s.host
  pub limits : IsLimits s.limits
  pub inputs : IsInputs s.inputs
  pub statuses : IsStatuses s.statuses
  pub events : IsSessionEvents s.events
  pub current : IsU32 s.current_frame
  pub newest : IsU32 s.last_recv_frame
