-- Act in Running does what is due: the steps one after the other come to one effect.
use borrow.Author.Tests.{lt-ltb}
use mathlib.Core.Bool.{Bool, true, false, not, ◌&&◌, ◌||◌}
use mathlib.Core.List.{List, [], ◌∷◌, ◌++◌, append-nil, append_assoc}
use mathlib.Core.Path.{◌≡◌, refl, ◌∙◌}
use native.Mathlib.Omega.{arith}
use Prim.Native.Nat.{ℕ, ◌+◌, ◌-◌}
use lib.Dec.{ltb}
use lib.ListN.{length}
use Rattle.base.specs.Pick.{pick}
use Rattle.packing.specs.declared.input_bytes.InputBytes.{InputBytes}
use Rattle.status.specs.declared.ConnectionStatus.{ConnectionStatus}
use Rattle.timers.specs.declared.Clocks.{Clocks}
use Rattle.timers.specs.Timers.{passed, timed}
use Rattle.codec.specs.Message.{Wire}
use Rattle.codec.specs.Read.{body_only}
use Rattle.codec.specs.declared.MessageBody.TheVariants.{QualityReport, KeepAlive}
use Rattle.quality.specs.Quality.{clamped}
use Rattle.events.specs.declared.Entry.{Entry}
use Rattle.events.specs.Events.{without_input}
use Rattle.events.specs.declared.Event.TheVariants as Event
use Rattle.setup.specs.Setup.{sending_width}
use Rattle.endpoint_rules.specs.declared.Flags.{Flags}
use Rattle.endpoint_rules.specs.declared.Phase.TheVariants.{Running}
use Rattle.endpoint_rules.specs.Seen.{Seen, with_clocks, with_flags}
use Rattle.endpoint_rules.specs.Did.{Effect, begin, queue_wire}
use Rattle.endpoint_rules.specs.Sending.{newest, pending_in, pending_queued}
use Rattle.endpoint_rules.specs.Reports.{ping_of, report_queued}
use Rattle.endpoint_rules.specs.Act.{resend_due, report_due, keep_alive_due, interruption_due, disconnect_due, resent, report_sent, kept_alive, interrupted, timed_out, acted}
use Rattle.endpoint.specs.declared.act.due.Due.{Due}
use Rattle.endpoint.specs.Inside.Due.{due_of, clocks_by, flagged, flags_by, due_events}
use Rattle.endpoint.specs.Inside.Batch.{batch, due_reports}

-- no event is due where none is counted
pub none_due : (d : Due) (left : ℕ) → pick d.interruption 1 0 + pick d.disconnect 1 0 ≡ 0 → due_events d left ≡ []
unfolding due_events
none_due d left h = go d.interruption d.disconnect h
  where
    go : (a b : Bool) → pick a 1 0 + pick b 1 0 ≡ 0
        → pick a (without_input (Event.NetworkInterrupted left) ∷ []) [] ++ pick b (without_input Event.Disconnected ∷ []) [] ≡ []
    go false false h = refl
    go true false h = absurd (omega arith)
    go true true h = absurd (omega arith)
    go false true h = absurd (omega arith)

-- a clock set by one of two
either : (a b : Bool) (x y : ℕ) → pick b x (pick a x y) ≡ pick (a || b) x y
either true true x y = refl
either true false x y = refl
either false b x y = refl

module _ (now : ℕ) (s : Seen) where
  -- s with other clocks and flags, as the steps pass it on
  abbrev going : Clocks → Flags → List Wire → List Entry → Effect
  going c f out events = record { state = with_flags f (with_clocks c s); out = out; events = events }

  abbrev some : Bool
  some = ltb 0 (length s.carried.sender.pending)

  abbrev report : (epoch : ℕ) → Wire
  report epoch = body_only s.setup.magic (QualityReport (clamped s.quality.local_frame_advantage) (ping_of epoch))

  abbrev alive : Wire
  alive = body_only s.setup.magic KeepAlive

  abbrev left : ℕ
  left = s.setup.disconnect_timeout - s.setup.notify_start

  abbrev interruption : Entry
  interruption = without_input (Event.NetworkInterrupted left)

  abbrev disconnection : Entry
  disconnection = without_input Event.Disconnected

  -- each step, by whether it is due
  module _ (c : Clocks) (f : Flags) (out : List Wire) (events : List Entry) where
    abbrev before : Effect
    before = going c f out events

    pending_is : (statuses : List ConnectionStatus) (l : List InputBytes)
        → pending_queued now statuses l before ≡ going (timed now false false (ltb 0 (length l)) c) f (out ++ pick (ltb 0 (length l)) (pending_in statuses s ∷ []) []) events
    unfolding pending_queued queue_wire
    pending_is statuses [] = rw append-nil
    pending_is statuses (x ∷ xs) = rw (lt-ltb 0 (length (x ∷ xs)) (omega arith))

    resent_is : (statuses : List ConnectionStatus) (b : Bool) → b ≡ resend_due now before.state
        → resent now statuses before ≡ going (timed now b false (b && some) c) f (out ++ pick (b && some) (pending_in statuses s ∷ []) []) events
    unfolding resent
    resent_is statuses true eb = rw (← eb, pending_is statuses s.carried.sender.pending)
    resent_is statuses false eb = rw (← eb, append-nil)

    reported_is : (epoch : ℕ) (b : Bool) → b ≡ report_due now before.state → report_sent now epoch before ≡ going (timed now false b b c) f (out ++ pick b (report epoch ∷ []) []) events
    unfolding report_sent report_queued queue_wire
    reported_is epoch true eb = rw (← eb)
    reported_is epoch false eb = rw (← eb, append-nil)

    kept_alive_is : (b : Bool) → b ≡ keep_alive_due now before.state → kept_alive now before ≡ going (timed now false false b c) f (out ++ pick b (alive ∷ []) []) events
    unfolding kept_alive queue_wire
    kept_alive_is true eb = rw (← eb)
    kept_alive_is false eb = rw (← eb, append-nil)

    interrupted_is : (b : Bool) → b ≡ interruption_due now before.state → interrupted now before ≡ going c (flagged b false f) out (events ++ pick b (interruption ∷ []) [])
    unfolding interrupted
    interrupted_is true eb = rw (← eb)
    interrupted_is false eb = rw (← eb, append-nil)

    timed_out_is : (b : Bool) → b ≡ disconnect_due now before.state → timed_out now before ≡ going c (flagged false b f) out (events ++ pick b (disconnection ∷ []) [])
    unfolding timed_out
    timed_out_is true eb = rw (← eb)
    timed_out_is false eb = rw (← eb, append-nil)

  -- all steps, by what is due
  module _ (statuses : List ConnectionStatus) (epoch : ℕ) where
    abbrev due : Due
    due = due_of now s.clocks s.flags some s.setup.notify_start s.setup.disconnect_timeout

    abbrev pub ran : Due → Effect
    ran d =
        record {
          state = with_flags (flags_by d s.flags) (with_clocks (clocks_by d now s.clocks) s);
          out = batch d s.setup.magic (newest s) statuses s.carried.sender.pending (sending_width s.setup) s.carried.sender.acked s.quality.local_frame_advantage epoch;
          events = due_events d left;
        }

    -- r, q, k, i, o: whether each step is due; what it leaves to the next
    module _ (r q k i o : Bool) (er : r ≡ passed s.clocks.running_last_input_recv 200 now) (eq : q ≡ passed s.clocks.running_last_quality_report 200 now)
        (ek : k ≡ passed (pick ((r && some) || q) now s.clocks.last_send_time) 200 now)
        (ei : i ≡ not s.flags.disconnect_notify_sent && passed s.clocks.last_recv_time s.setup.notify_start now)
        (eo : o ≡ not s.flags.disconnect_event_sent && passed s.clocks.last_recv_time s.setup.disconnect_timeout now) where
      abbrev c₁ : Clocks
      c₁ = timed now r false (r && some) s.clocks

      abbrev c₂ : Clocks
      c₂ = timed now false q q c₁

      abbrev c₃ : Clocks
      c₃ = timed now false false k c₂

      abbrev o₁ : List Wire
      o₁ = pick (r && some) (pending_in statuses s ∷ []) []

      abbrev o₂ : List Wire
      o₂ = o₁ ++ pick q (report epoch ∷ []) []

      abbrev o₃ : List Wire
      o₃ = o₂ ++ pick k (alive ∷ []) []

      abbrev t₁ : List Entry
      t₁ = pick i (interruption ∷ []) []

      passes : (nonce : ℕ) → acted Running now epoch nonce statuses (begin s)
          ≡ going c₃ (flagged false o (flagged i false s.flags)) o₃ (t₁ ++ pick o (disconnection ∷ []) [])
      unfolding acted
      passes nonce =
          rw (
            resent_is s.clocks s.flags [] [] statuses r er,
            reported_is c₁ s.flags o₁ [] epoch q eq,
            kept_alive_is c₂ s.flags o₂ [] k (rw (either (r && some) q now s.clocks.last_send_time) ek),
            interrupted_is c₃ s.flags o₃ [] i ei,
            timed_out_is c₃ (flagged i false s.flags) o₃ t₁ o eo,
          )

      abbrev planned : Due
      planned = record { resend = r; input = r && some; report = q; keep_alive = k; interruption = i; disconnect = o }

      comes_to : going c₃ (flagged false o (flagged i false s.flags)) o₃ (t₁ ++ pick o (disconnection ∷ []) []) ≡ ran planned
      unfolding clocks_by flags_by due_events batch due_reports
      comes_to = rw (either (r && some) q now s.clocks.last_send_time, either ((r && some) || q) k now s.clocks.last_send_time, append_assoc)

    pub running_is : (nonce : ℕ) → acted Running now epoch nonce statuses (begin s) ≡ ran due
    unfolding due_of
    running_is nonce = passes _ _ _ _ _ refl refl refl refl refl nonce ∙ comes_to _ _ _ _ _ refl refl refl refl refl
