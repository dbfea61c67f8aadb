-- What is seen of a session: its own endpoint (`host`), the lists that its stores hold, and its plain fields; and the state in which it is made.
use Rattle.std.specs.Prelude.{Bool, true, false, List, [], ℕ, min}
use Rattle.ceilings.specs.Ceilings.{most_players}
use Rattle.frame.specs.Bias.{null_frame}
use Rattle.status.specs.declared.ConnectionStatus.{ConnectionStatus}
use Rattle.status.specs.Statuses.{default_statuses}
use Rattle.endpoint_rules.specs.Seen.{Seen, made}
use Rattle.spectator_rules.specs.declared.Limits.{Limits}
use Rattle.spectator_rules.specs.declared.PlayerInput.{PlayerInput}
use Rattle.spectator_rules.specs.declared.SessionEntry.{SessionEntry}
use Rattle.spectator_rules.specs.declared.SessionSetup.{SessionSetup}
use Rattle.spectator_rules.specs.declared.SessionState.{SessionState}
use Rattle.spectator_rules.specs.declared.SessionState.TheVariants.{Synchronizing, Running}
use Rattle.spectator_rules.specs.Setup.{host_setup}
use Rattle.spectator_rules.specs.Inputs.{fresh_inputs}

-- `host` is the endpoint that speaks with the host; `statuses` is the session's copy of what the host reported, `current` the last frame advanced, `newest` the last one received
pub record Watch : Type 0 where
  pub host : Seen
  pub limits : Limits
  pub state : SessionState
  pub inputs : List PlayerInput
  pub statuses : List ConnectionStatus
  pub events : List SessionEntry
  pub current : ℕ
  pub newest : ℕ

abbrev pub is_running : SessionState → Bool
is_running Synchronizing = false
is_running Running = true

-- the players of the session, of whom there are at most 4 (more are not reachable)
abbrev pub players_of : Watch → ℕ
players_of w = min w.host.setup.players most_players

-- ---- one part set, all else as it was

abbrev pub with_host : Seen → Watch → Watch
with_host x w = record { host = x; limits = w.limits; state = w.state; inputs = w.inputs; statuses = w.statuses; events = w.events; current = w.current; newest = w.newest }

abbrev pub with_state : SessionState → Watch → Watch
with_state x w = record { host = w.host; limits = w.limits; state = x; inputs = w.inputs; statuses = w.statuses; events = w.events; current = w.current; newest = w.newest }

abbrev pub with_inputs : List PlayerInput → Watch → Watch
with_inputs x w = record { host = w.host; limits = w.limits; state = w.state; inputs = x; statuses = w.statuses; events = w.events; current = w.current; newest = w.newest }

abbrev pub with_statuses : List ConnectionStatus → Watch → Watch
with_statuses x w = record { host = w.host; limits = w.limits; state = w.state; inputs = w.inputs; statuses = x; events = w.events; current = w.current; newest = w.newest }

abbrev pub with_events : List SessionEntry → Watch → Watch
with_events x w = record { host = w.host; limits = w.limits; state = w.state; inputs = w.inputs; statuses = w.statuses; events = x; current = w.current; newest = w.newest }

abbrev pub with_current : ℕ → Watch → Watch
with_current x w = record { host = w.host; limits = w.limits; state = w.state; inputs = w.inputs; statuses = w.statuses; events = w.events; current = x; newest = w.newest }

abbrev pub with_newest : ℕ → Watch → Watch
with_newest x w = record { host = w.host; limits = w.limits; state = w.state; inputs = w.inputs; statuses = w.statuses; events = w.events; current = w.current; newest = x }

-- ---- the session as it is made: its host is Initializing, every slot is blank, no frame was advanced or received
unfoldable pub made_watch : SessionSetup → (now : ℕ) → Watch
made_watch g now =
    record {
      host = made (host_setup g) now;
      limits = g.limits;
      state = Synchronizing;
      inputs = fresh_inputs g.limits.slots;
      statuses = default_statuses g.num_players;
      events = [];
      current = null_frame;
      newest = null_frame;
    }
