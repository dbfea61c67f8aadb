-- The plain parts of an endpoint that have heard a message.
use Rattle.std.specs.Prelude.{Bool, false, ◌&&◌, ℕ}
use Rattle.base.specs.Pick.{pick}
use Rattle.timers.specs.declared.Clocks.{Clocks}
use Rattle.timers.specs.Timers.{heard_at}
use Rattle.endpoint_rules.specs.declared.Phase.{Phase}
use Rattle.endpoint_rules.specs.declared.Flags.{Flags}
use Rattle.endpoint_rules.specs.Seen.{is_running}
use Rattle.endpoint.specs.declared.message.hearing.Heard.{Heard}

-- the flags where an interruption ends
abbrev pub resumed_flags : Bool → Flags → Flags
resumed_flags resumes f = pick resumes (record { disconnect_notify_sent = false; disconnect_event_sent = f.disconnect_event_sent }) f

abbrev pub heard_by : Phase → Clocks → Flags → (now : ℕ) → Heard
heard_by phase c f now =
    record {
      resumes = is_running phase && f.disconnect_notify_sent;
      clocks = heard_at now c;
      flags = resumed_flags (is_running phase && f.disconnect_notify_sent) f;
    }
