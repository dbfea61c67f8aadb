-- Two answers that a contract allows are equal, by name for each public function.
use mathlib.Core.Bool.{Bool}
use mathlib.Core.Path.{◌≡◌}
use Prim.Native.Nat.{ℕ}
use Rattle.base.specs.Pick.{pick}
use Rattle.base.proofs.Settled.{settled}
use Rattle.timers.specs.declared.Clocks.{Clocks}
use Rattle.timers.specs.Timers.{bad_clock, passed, made_at, input_at, sent_at, request_at, heard_at, shutdown_at, timed}

module _ (now : ℕ) where
  pub is_bad_settled : (r s : Bool) → r ≡ bad_clock now → s ≡ bad_clock now → r ≡ s
  is_bad_settled = settled (λ r. r) (bad_clock now)

  pub passed_settled : (last wait : ℕ) (r s : Bool) → r ≡ passed last wait now → s ≡ passed last wait now → r ≡ s
  passed_settled last wait = settled (λ r. r) (passed last wait now)

  pub time_if_settled : (due : Bool) (last r s : ℕ) → r ≡ pick due now last → s ≡ pick due now last → r ≡ s
  time_if_settled due last = settled (λ r. r) (pick due now last)

  pub new_settled : (r s : Clocks) → r ≡ made_at now → s ≡ made_at now → r ≡ s
  new_settled = settled (λ r. r) (made_at now)

  module _ (c r s : Clocks) where
    pub input_received_settled : r ≡ input_at now c → s ≡ input_at now c → r ≡ s
    input_received_settled = settled (λ r. r) (input_at now c) r s

    pub sent_settled : r ≡ sent_at now c → s ≡ sent_at now c → r ≡ s
    sent_settled = settled (λ r. r) (sent_at now c) r s

    pub requested_settled : r ≡ request_at now c → s ≡ request_at now c → r ≡ s
    requested_settled = settled (λ r. r) (request_at now c) r s

    pub heard_settled : r ≡ heard_at now c → s ≡ heard_at now c → r ≡ s
    heard_settled = settled (λ r. r) (heard_at now c) r s

    pub fired_settled : (resend report sends : Bool) → r ≡ timed now resend report sends c → s ≡ timed now resend report sends c → r ≡ s
    fired_settled resend report sends = settled (λ r. r) (timed now resend report sends c) r s

    pub shutting_down_settled : r ≡ shutdown_at now c → s ≡ shutdown_at now c → r ≡ s
    shutting_down_settled = settled (λ r. r) (shutdown_at now c) r s
