-- The values of the statements are those of the toolchain's types. What these say of a session and of its setup (`Is`) is `IsSession` and `IsSessionSetup` (laws `..-is`), so
-- every machine value is covered; and where these hold there is a machine value that means it (laws `..-means`), so nothing else is.
use mathlib.Core.List.{List}
use mathlib.Core.Path.{refl}
use native.Mathlib.Omega.{arith}
use borrow.Author.Rules.{rules}
use denote.Laws.{Is}
use denote.Enum.Declared as Enum
use denote.Param.{number}
use denote.Struct.Declared as Struct
use mir.Syntax.{w16, w32, w64}
use mir.Val.{Val}
use Rattle.ceilings.specs.Ceilings.{most_input_size, most_places, most_session_events}
use Rattle.setup.specs.declared.DesyncDetection.{DesyncDetection}
use Rattle.setup.specs.declared.DesyncDetection.TheVariants.{Off, On}
use Rattle.setup.specs.contracts.Choices as Choices
use Rattle.setup.specs.contracts.DesyncDetection as DesyncDetection
use Rattle.endpoint_invariant.specs.Each.{Each}
use Rattle.endpoint_invariant.specs.Typed.{TypedDesync}
use Rattle.endpoint_version.proofs.Machine.{flag_means, array_is, bytes_are, Means, number_means, ◌▸◌, struct_means, enum_means, array_means, bytes_mean}
use Rattle.endpoint_version.proofs.Typed.{statuses_is, endpoint_is, statuses_means, endpoint_means}
use Rattle.fixed_vec.specs.contracts.FixedVec as FixedVec
use Rattle.spectator_rules.specs.declared.Limits.{Limits}
use Rattle.spectator_rules.specs.declared.PlayerInput.{PlayerInput}
use Rattle.spectator_rules.specs.declared.SessionEntry.{SessionEntry}
use Rattle.spectator_rules.specs.declared.SessionEvent.{SessionEvent}
use Rattle.spectator_rules.specs.declared.SessionEvent.TheVariants as Announced
use Rattle.spectator_rules.specs.declared.SessionSetup.{SessionSetup}
use Rattle.spectator_rules.specs.declared.SessionState.{SessionState}
use Rattle.spectator_rules.specs.declared.SessionState.TheVariants.{Synchronizing, Running}
use Rattle.spectator_rules.specs.contracts.Limits as Limits
use Rattle.spectator_rules.specs.contracts.PlayerInput as PlayerInput
use Rattle.spectator_rules.specs.contracts.SessionEntry as SessionEntry
use Rattle.spectator_rules.specs.contracts.SessionEvent as SessionEvent
use Rattle.spectator_rules.specs.contracts.SessionSetup as SessionSetup
use Rattle.spectator_rules.specs.contracts.SessionState as SessionState
use Rattle.spectator_rules.specs.Setup.{host_setup}
use Rattle.spectator_invariant.specs.Typed.{TypedSession}
use Rattle.spectator.specs.declared.inputs.Inputs.{Inputs}
use Rattle.spectator.specs.declared.session_events.SessionEvents.{SessionEvents}
use Rattle.spectator.specs.declared.SpectatorSession.{SpectatorSession}
use Rattle.spectator.specs.contracts.inputs.Inputs as Inputs
use Rattle.spectator.specs.contracts.session_events.SessionEvents as SessionEvents
use Rattle.spectator.specs.contracts.SpectatorSession as SpectatorSession
use Rattle.spectator_version.specs.Values.{IsLimits, IsSessionSetup, IsPlayerInput, IsInputs, IsSessionEvent, IsSessionEntry, IsSessionEvents, IsSession}

-- ---- every machine value is one

limits_is : (l : Limits) (vs : List Val) → Is (Struct.row Limits.the_type) l vs → IsLimits l
limits_is l vs h = record { slots = search rules; events = search rules; behind = search rules; speed = search rules }

-- what `new` is given
desync_is : (x : DesyncDetection) (vs : List Val) → Is (Enum.row DesyncDetection.the_type) x vs → TypedDesync x
desync_is Off vs h = tt
desync_is (On interval) vs h = search rules

-- its fields in their order, but for the handles and the local players, which are not the caller's
host_is : (g : SessionSetup) (vs : List Val) → Is (Struct.row SessionSetup.the_type) g vs → TypedSession g
unfolding host_setup Each
host_is g vs h =
    let players = h.1.1.0.1 in
    record {
      players = players;
      handles = refl;
      handle = (omega arith, (omega arith, (omega arith, (omega arith, tt))));
      count = omega arith;
      local_players = omega arith;
      input_size = h.1.1.1.0.1;
      max_prediction = h.1.1.1.1.0.1;
      disconnect_timeout = h.1.1.1.1.1.0.1;
      notify_start = h.1.1.1.1.1.1.0.1;
      fps = h.1.1.1.1.1.1.1.0.1;
      magic = h.1.1.1.1.1.1.1.1.0.1;
      peer = h.1.1.1.1.1.1.1.1.1.0.1;
      desync = desync_is g.choices.desync_detection _ h.1.1.1.1.1.1.1.1.1.1.0.1.1.0;
    }

pub session_setup_is : (g : SessionSetup) (vs : List Val) → Is (Struct.row SessionSetup.the_type) g vs → IsSessionSetup g
session_setup_is g vs h = record { host = host_is g vs h; limits = limits_is g.limits _ h.1.1.1.1.1.1.1.1.1.1.1.0 }

-- what a session holds
player_input_is : (x : PlayerInput) (vs : List Val) → Is (Struct.row PlayerInput.the_type) x vs → IsPlayerInput x
player_input_is x vs h =
    let a = bytes_are most_input_size x.input _ h.1.1.1.0 in
    record { frame = h.1.1.0.1; size = a.0; bytes = a.1 }

inputs_is : (x : Inputs) (vs : List Val) → Is (Struct.row Inputs.the_type) x vs → IsInputs x
inputs_is x vs h =
    let a = array_is (Struct.row PlayerInput.the_type) IsPlayerInput player_input_is most_places x.entries.list _ h.1.1.0.1.1.0 in
    record { size = a.0; inputs = a.1; count = h.1.1.0.1.1.1.0.1 }

event_is : (v : SessionEvent) (vs : List Val) → Is (Enum.row SessionEvent.the_type) v vs → IsSessionEvent v
event_is (Announced.Synchronizing total count) vs h = search rules
event_is Announced.Synchronized vs h = tt
event_is Announced.Disconnected vs h = tt
event_is (Announced.NetworkInterrupted timeout) vs h = search rules
event_is Announced.NetworkResumed vs h = tt

entry_is : (x : SessionEntry) (vs : List Val) → Is (Struct.row SessionEntry.the_type) x vs → IsSessionEntry x
entry_is x vs h = (h.1.1.0.1, event_is x.event _ h.1.1.1.0)

events_is : (x : SessionEvents) (vs : List Val) → Is (Struct.row SessionEvents.the_type) x vs → IsSessionEvents x
events_is x vs h =
    let a = array_is (Struct.row SessionEntry.the_type) IsSessionEntry entry_is most_session_events x.entries.list _ h.1.1.0.1.1.0 in
    record { size = a.0; entries = a.1; count = h.1.1.0.1.1.1.0.1 }

-- its fields in their order
pub session_is : (s : SpectatorSession) (vs : List Val) → Is (Struct.row SpectatorSession.the_type) s vs → IsSession s
session_is s vs h =
    record {
      host = endpoint_is s.host _ h.1.1.0;
      limits = limits_is s.limits _ h.1.1.1.0;
      inputs = inputs_is s.inputs _ h.1.1.1.1.1.0;
      statuses = statuses_is s.statuses _ h.1.1.1.1.1.1.0;
      events = events_is s.events _ h.1.1.1.1.1.1.1.0;
      current = h.1.1.1.1.1.1.1.1.0.1;
      newest = h.1.1.1.1.1.1.1.1.1.0.1;
    }

-- ---- and nothing else is

limits_mean : (l : Limits) → IsLimits l → Means (Struct.row Limits.the_type) l
limits_mean l h =
    struct_means Limits.the_type l (
    number_means w32 l.slots h.slots ▸
    number_means w32 l.session_events h.events ▸
    number_means w32 l.max_frames_behind h.behind ▸
    number_means w32 l.catchup_speed h.speed ▸ tt)

-- what `new` is given
desync_means : (x : DesyncDetection) → TypedDesync x → Means (Enum.row DesyncDetection.the_type) x
desync_means Off h = enum_means DesyncDetection.the_type Off tt
desync_means (On interval) h = enum_means DesyncDetection.the_type (On interval) (number_means w32 interval h ▸ tt)

pub session_setup_means : (g : SessionSetup) → IsSessionSetup g → Means (Struct.row SessionSetup.the_type) g
unfolding host_setup
session_setup_means g h =
    let choices : Means (Struct.row Choices.the_type) g.choices = struct_means Choices.the_type g.choices (desync_means g.choices.desync_detection h.host.desync ▸ flag_means g.choices.firm_checksums ▸ tt) in
    struct_means SessionSetup.the_type g (
    number_means w32 g.num_players h.host.players ▸
    number_means w32 g.input_size h.host.input_size ▸
    number_means w32 g.max_prediction h.host.max_prediction ▸
    number_means w64 g.disconnect_timeout h.host.disconnect_timeout ▸
    number_means w64 g.disconnect_notify_start h.host.notify_start ▸
    number_means w32 g.fps h.host.fps ▸
    number_means w16 g.magic h.host.magic ▸
    number_means w32 g.peer_addr h.host.peer ▸
    choices ▸
    limits_mean g.limits h.limits ▸ tt)

-- what a session holds
player_input_means : (x : PlayerInput) → IsPlayerInput x → Means (Struct.row PlayerInput.the_type) x
player_input_means x h = struct_means PlayerInput.the_type x (number_means w32 x.frame h.frame ▸ bytes_mean most_input_size x.input h.size h.bytes ▸ tt)

-- the type of their list
abbrev places_type : Struct.Declared
places_type = FixedVec.the_type (Struct.row PlayerInput.the_type) (number most_places)

inputs_mean : (x : Inputs) → IsInputs x → Means (Struct.row Inputs.the_type) x
inputs_mean x h =
    let entries : Means (Struct.row places_type) x.entries
    = struct_means places_type x.entries (
    array_means (Struct.row PlayerInput.the_type) IsPlayerInput player_input_means most_places x.entries.list h.size h.inputs ▸
    number_means w64 x.entries.count h.count ▸ tt) in
    struct_means Inputs.the_type x (entries ▸ tt)

event_means : (v : SessionEvent) → IsSessionEvent v → Means (Enum.row SessionEvent.the_type) v
event_means (Announced.Synchronizing total count) h = enum_means SessionEvent.the_type (Announced.Synchronizing total count) (number_means w32 total h.0 ▸ number_means w32 count h.1 ▸ tt)
event_means Announced.Synchronized h = enum_means SessionEvent.the_type Announced.Synchronized tt
event_means Announced.Disconnected h = enum_means SessionEvent.the_type Announced.Disconnected tt
event_means (Announced.NetworkInterrupted timeout) h = enum_means SessionEvent.the_type (Announced.NetworkInterrupted timeout) (number_means w64 timeout h ▸ tt)
event_means Announced.NetworkResumed h = enum_means SessionEvent.the_type Announced.NetworkResumed tt

entry_means : (x : SessionEntry) → IsSessionEntry x → Means (Struct.row SessionEntry.the_type) x
entry_means x h = struct_means SessionEntry.the_type x (number_means w32 x.addr h.0 ▸ event_means x.event h.1 ▸ tt)

-- the type of their list
abbrev entries_type : Struct.Declared
entries_type = FixedVec.the_type (Struct.row SessionEntry.the_type) (number most_session_events)

events_mean : (x : SessionEvents) → IsSessionEvents x → Means (Struct.row SessionEvents.the_type) x
events_mean x h =
    let entries : Means (Struct.row entries_type) x.entries
    = struct_means entries_type x.entries (
    array_means (Struct.row SessionEntry.the_type) IsSessionEntry entry_means most_session_events x.entries.list h.size h.entries ▸
    number_means w64 x.entries.count h.count ▸ tt) in
    struct_means SessionEvents.the_type x (entries ▸ tt)

state_means : (x : SessionState) → Means (Enum.row SessionState.the_type) x
state_means Synchronizing = enum_means SessionState.the_type Synchronizing tt
state_means Running = enum_means SessionState.the_type Running tt

pub session_means : (s : SpectatorSession) → IsSession s → Means (Struct.row SpectatorSession.the_type) s
session_means s h =
    struct_means SpectatorSession.the_type s (
    endpoint_means s.host h.host ▸
    limits_mean s.limits h.limits ▸
    state_means s.state ▸
    inputs_mean s.inputs h.inputs ▸
    statuses_means s.statuses h.statuses ▸
    events_mean s.events h.events ▸
    number_means w32 s.current_frame h.current ▸
    number_means w32 s.last_recv_frame h.newest ▸ tt)
