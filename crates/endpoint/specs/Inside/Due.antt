-- What is due in Running, by the clocks before any of it is done; and what it then does to clocks and flags, announces and queues.
use Rattle.std.specs.Prelude.{Bool, not, ◌&&◌, ◌||◌, List, [], ◌∷◌, ◌++◌, ℕ}
use Rattle.base.specs.Pick.{pick}
use Rattle.timers.specs.declared.Clocks.{Clocks}
use Rattle.timers.specs.Timers.{passed, timed}
use Rattle.events.specs.declared.Entry.{Entry}
use Rattle.events.specs.declared.Event.TheVariants.{NetworkInterrupted, Disconnected}
use Rattle.events.specs.Events.{without_input}
use Rattle.endpoint_rules.specs.declared.Flags.{Flags}
use Rattle.endpoint_rules.specs.Act.{act_interval}
use Rattle.endpoint.specs.declared.act.due.Due.{Due}

-- an Input goes out where something is pending; the keepalive looks at the send time as the messages before it leave it
unfoldable pub due_of : (now : ℕ) → Clocks → Flags → (pending : Bool) → (notify_start disconnect_timeout : ℕ) → Due
due_of now c f pending notify_start disconnect_timeout =
    let resend : Bool = passed c.running_last_input_recv act_interval now in
    let report : Bool = passed c.running_last_quality_report act_interval now in
    record {
      resend = resend;
      input = resend && pending;
      report = report;
      keep_alive = passed (pick ((resend && pending) || report) now c.last_send_time) act_interval now;
      interruption = not f.disconnect_notify_sent && passed c.last_recv_time notify_start now;
      disconnect = not f.disconnect_event_sent && passed c.last_recv_time disconnect_timeout now;
    }

unfoldable pub clocks_by : Due → (now : ℕ) → Clocks → Clocks
clocks_by d now c = timed now d.resend d.report ((d.input || d.report) || d.keep_alive) c

-- a flag is set with its event
abbrev pub flagged : (interruption disconnect : Bool) → Flags → Flags
flagged interruption disconnect f =
    record {
      disconnect_notify_sent = interruption || f.disconnect_notify_sent;
      disconnect_event_sent = disconnect || f.disconnect_event_sent;
    }

unfoldable pub flags_by : Due → Flags → Flags
flags_by d f = flagged d.interruption d.disconnect f

-- the events that are due; left: of the disconnect timeout
unfoldable pub due_events : Due → (left : ℕ) → List Entry
due_events d left =
    pick d.interruption (without_input (NetworkInterrupted left) ∷ []) []
    ++ pick d.disconnect (without_input Disconnected ∷ []) []
