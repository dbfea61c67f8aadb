-- Act: what the clocks bring (E-43 to E-54). A wait is over strictly after its end, last + 200 < now (`passed`, E-45).
use Rattle.std.specs.Prelude.{Bool, true, not, ◌&&◌, List, ℕ, ◌-◌, ltb}
use Rattle.base.specs.Pick.{pick}
use Rattle.status.specs.declared.ConnectionStatus.{ConnectionStatus}
use Rattle.codec.specs.declared.MessageBody.TheVariants.{KeepAlive}
use Rattle.events.specs.declared.Event.TheVariants as Event
use Rattle.timers.specs.Timers.{passed}
use Rattle.endpoint_rules.specs.declared.Phase.{Phase}
use Rattle.endpoint_rules.specs.declared.Phase.TheVariants.{Initializing, Synchronizing, Running, Disconnected, Shutdown}
use Rattle.endpoint_rules.specs.Seen.{Seen, with_phase, with_flags, input_at}
use Rattle.endpoint_rules.specs.Did.{Effect, change, queue, announce_event}
use Rattle.endpoint_rules.specs.Handshake.{request}
use Rattle.endpoint_rules.specs.Sending.{queue_pending}
use Rattle.endpoint_rules.specs.Reports.{report_queued}

-- ms after which a request, the pending inputs and a quality report go out again, and after which a silence is broken
abbrev pub act_interval : ℕ
act_interval = 200

abbrev pub request_due : (now : ℕ) → Seen → Bool
request_due now s = passed s.clocks.last_sync_request_time act_interval now

abbrev pub resend_due : (now : ℕ) → Seen → Bool
resend_due now s = passed s.clocks.running_last_input_recv act_interval now

abbrev pub report_due : (now : ℕ) → Seen → Bool
report_due now s = passed s.clocks.running_last_quality_report act_interval now

abbrev pub keep_alive_due : (now : ℕ) → Seen → Bool
keep_alive_due now s = passed s.clocks.last_send_time act_interval now

abbrev pub interruption_due : (now : ℕ) → Seen → Bool
interruption_due now s = not s.flags.disconnect_notify_sent && passed s.clocks.last_recv_time s.setup.notify_start now

abbrev pub disconnect_due : (now : ℕ) → Seen → Bool
disconnect_due now s = not s.flags.disconnect_event_sent && passed s.clocks.last_recv_time s.setup.disconnect_timeout now

-- ---- the steps of Running, in their order

-- resend (E-48): the clock restarts also where nothing is pending
unfoldable pub resent : ℕ → List ConnectionStatus → Effect → Effect
resent now statuses e = pick (resend_due now e.state) (change (input_at now) (queue_pending now statuses e)) e

unfoldable pub report_sent : (now epoch : ℕ) → Effect → Effect
report_sent now epoch e = pick (report_due now e.state) (report_queued now epoch e) e

-- keepalive (E-50): by the send time as the steps before it leave it
unfoldable pub kept_alive : ℕ → Effect → Effect
kept_alive now e = pick (keep_alive_due now e.state) (queue now KeepAlive e) e

-- with what is left of the disconnect timeout
unfoldable pub interrupted : ℕ → Effect → Effect
interrupted now e =
    pick (interruption_due now e.state)
    (announce_event (Event.NetworkInterrupted (e.state.setup.disconnect_timeout - e.state.setup.notify_start))
    (change (λ s. with_flags (record { disconnect_notify_sent = true; disconnect_event_sent = s.flags.disconnect_event_sent }) s) e)) e

unfoldable pub timed_out : ℕ → Effect → Effect
timed_out now e =
    pick (disconnect_due now e.state)
    (announce_event Event.Disconnected (change (λ s. with_flags (record { disconnect_notify_sent = s.flags.disconnect_notify_sent; disconnect_event_sent = true }) s) e)) e

-- ---- act by phase

unfoldable pub acted : Phase → (now epoch nonce : ℕ) → List ConnectionStatus → Effect → Effect
acted Initializing now epoch nonce statuses e = e
acted Synchronizing now epoch nonce statuses e = pick (request_due now e.state) (request now nonce e) e
acted Running now epoch nonce statuses e = timed_out now (interrupted now (kept_alive now (report_sent now epoch (resent now statuses e))))
acted Disconnected now epoch nonce statuses e = pick (ltb e.state.clocks.shutdown_timeout now) (change (with_phase Shutdown) e) e
acted Shutdown now epoch nonce statuses e = e
