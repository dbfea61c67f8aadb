-- The plain parts of an endpoint that have heard an Input, whatever inputs it brings: what it reports and requests.
use Rattle.std.specs.Prelude.{Bool, true, ◌&&◌, List, map, ◌≡◌, ℕ}
use Rattle.base.specs.Pick.{pick}
use Rattle.status.specs.declared.ConnectionStatus.{ConnectionStatus}
use Rattle.status.specs.Status.{reported}
use Rattle.status.specs.declared.list.Statuses.{Statuses}
use Rattle.status.specs.Statuses.{merged_all, held_statuses, HeldAs}
use Rattle.codec.specs.declared.StatusReport.{StatusReport}
use Rattle.timers.specs.declared.Clocks.{Clocks}
use Rattle.timers.specs.Timers.{heard_at}
use Rattle.endpoint_rules.specs.declared.Phase.{Phase}
use Rattle.endpoint_rules.specs.declared.Flags.{Flags}
use Rattle.endpoint_rules.specs.Receiving.{announces_by}
use Rattle.endpoint.specs.declared.message.informing.Informed.{Informed}
use Rattle.endpoint.specs.Inside.Hearing.{heard_by}

-- the flags where a disconnect is announced
abbrev pub announced_flags : Bool → Flags → Flags
announced_flags announces f = pick announces (record { disconnect_notify_sent = f.disconnect_notify_sent; disconnect_event_sent = true }) f

-- reports as they are merged
abbrev pub statuses_of : List StatusReport → List ConnectionStatus
statuses_of l = map (λ (x : StatusReport). reported x.disconnected x.last_frame) l

pub record InformedAs (phase : Phase) (c : Clocks) (f : Flags) (s : Statuses) (requested : Bool) (reports : List StatusReport) (now : ℕ) (r : Informed) : Type 0 where
  pub resumes : r.resumes ≡ (heard_by phase c f now).resumes
  pub disconnects : r.disconnects ≡ (requested && announces_by phase (heard_by phase c f now).flags)
  pub clocks : r.clocks ≡ heard_at now c
  pub flags : r.flags ≡ announced_flags r.disconnects (heard_by phase c f now).flags
  pub statuses : HeldAs (pick requested (held_statuses s) (merged_all (held_statuses s) (statuses_of reports))) s.count r.statuses
