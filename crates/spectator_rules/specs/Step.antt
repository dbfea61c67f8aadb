-- What each call does. What its endpoint (`host`) refuses, the session refuses, with the same number; its own refusals are 14, 6, 16, 17, in this order.
use Rattle.std.specs.Prelude.{List, [], ◌∷◌, ◌++◌, ℕ, eqb, length}
use Rattle.base.specs.Pick.{pick}
use Rattle.base.specs.First.{first_of}
use Rattle.codec.specs.Message.{Wire}
use Rattle.timers.specs.Timers.{bad_clock}
use Rattle.endpoint_rules.specs.Seen.{with_events}
use Rattle.endpoint_rules.specs.Did as Host
use Rattle.endpoint_rules.specs.Step.{synchronize_step, message_step, datagram_step, act_step, stats_step, take_step}
use Rattle.spectator_rules.specs.declared.SessionSetup.{SessionSetup}
use Rattle.spectator_rules.specs.Setup.{bad_session}
use Rattle.spectator_rules.specs.Watch.{Watch, with_host, made_watch}
use Rattle.spectator_rules.specs.Watch as Watch
use Rattle.spectator_rules.specs.Handling.{handled_all}
use Rattle.spectator_rules.specs.Advance.{behind_overflows, advance_refusal, advanced}
use Rattle.spectator_rules.specs.Call.{Call}

-- a call's answer, the state after it, and the messages that its endpoint queues
pub record Did : Type 0 where
  pub answer : ℕ
  pub after : Watch
  pub out : List Wire

-- new: its number, and the session that is made; beside a refusal it is of no use
unfoldable pub fresh : SessionSetup → (now : ℕ) → ℕ × Watch
fresh g now = (first_of ((bad_clock now, 8) ∷ (bad_session g, 1) ∷ []), made_watch g now)

-- a refusal (N-19): its number, and nothing else happens
unfoldable pub refused : ℕ → Watch → Did
refused n w = record { answer = n; after = w; out = [] }

abbrev pub changed : Watch → Did
changed w = record { answer = 0; after = w; out = [] }

-- what follows from a number: done, or a refusal
unfoldable pub decided : ℕ → Watch → Did → Did
decided n w d = pick (eqb n 0) d (refused n w)

-- a call of its endpoint alone
unfoldable pub by_host : Host.Did → Watch → Did
by_host d w = record { answer = d.answer; after = with_host d.after w; out = d.out }

-- ---- poll: its endpoint acts, with the old events aside, so that none can lack room; then its messages are taken from the same buffer

-- with the session's copy of the statuses as it was before the poll
unfoldable pub host_acts : (now epoch nonce buffer : ℕ) → Watch → Host.Did
host_acts now epoch nonce buffer w = act_step (length w.statuses) w.statuses now epoch nonce buffer (with_events [] w.host)

unfoldable pub host_takes : (buffer : ℕ) → Host.Did → Host.Did
host_takes buffer d = take_step buffer d.after

-- 8, 3, 5 of its endpoint's act, then 5 of the take
unfoldable pub poll_refusal : (now epoch nonce buffer : ℕ) → Watch → ℕ
poll_refusal now epoch nonce buffer w =
    let d : Host.Did = host_acts now epoch nonce buffer w in
    pick (eqb d.answer 0) (host_takes buffer d).answer d.answer

-- all its events (S-7): those that it holds after the act are the new ones
unfoldable pub polled : (now epoch nonce buffer : ℕ) → Watch → Did
polled now epoch nonce buffer w =
    let d : Host.Did = host_acts now epoch nonce buffer w in
    record {
      answer = 0;
      after = handled_all (w.host.events ++ d.after.events) (with_host (with_events [] (host_takes buffer d).after) w);
      out = d.out;
    }

unfoldable pub poll_step : (now epoch nonce buffer : ℕ) → Watch → Did
poll_step now epoch nonce buffer w = decided (poll_refusal now epoch nonce buffer w) w (polled now epoch nonce buffer w)

-- ---- the other calls

-- advance_frame: it does not poll by itself (S-16)
unfoldable pub advance_step : Watch → Did
advance_step w = decided (advance_refusal w) w (changed (advanced w))

unfoldable pub frames_behind_step : Watch → Did
frames_behind_step w = decided (first_of ((behind_overflows w, 6) ∷ [])) w (changed w)

unfoldable pub step : Call → Watch → Did
step (Call.synchronize now epoch nonce buffer) w = by_host (synchronize_step now epoch nonce buffer w.host) w
step (Call.message from count m now epoch nonce buffer) w = by_host (message_step from count m now epoch nonce buffer w.host) w
step (Call.datagram from bytes now epoch nonce buffer) w = by_host (datagram_step from bytes now epoch nonce buffer w.host) w
step (Call.poll_remote_clients now epoch nonce buffer) w = poll_step now epoch nonce buffer w
step Call.advance_frame w = advance_step w
step (Call.take_messages buffer) w = by_host (take_step buffer w.host) w
step Call.take_events w = changed (Watch.with_events [] w)
step (Call.network_stats epoch) w = by_host (stats_step epoch w.host) w
step Call.frames_behind_host w = frames_behind_step w
step Call.current_state w = changed w
step Call.current_frame w = changed w
step Call.num_players w = changed w
