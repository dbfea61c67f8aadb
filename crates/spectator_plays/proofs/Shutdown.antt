-- An act after which an endpoint is in Shutdown queues nothing: so what a poll queues is handed back by it.
use mathlib.Core.Bool.{true, false}
use mathlib.Core.List.{List, [], ◌∷◌}
use mathlib.Core.Path.{◌≡◌, refl, sym, ◌∙◌, ap}
use native.Mathlib.Omega.{arith}
use Prim.Native.Nat.{ℕ}
use lib.Dec.{ltb}
use Rattle.packing.specs.declared.input_bytes.InputBytes.{InputBytes}
use Rattle.status.specs.declared.ConnectionStatus.{ConnectionStatus}
use Rattle.endpoint_rules.specs.declared.Phase.{Phase}
use Rattle.endpoint_rules.specs.declared.Phase.TheVariants.{Initializing, Synchronizing, Running, Disconnected, Shutdown}
use Rattle.endpoint_rules.specs.Seen.{Seen, is_shutdown, with_phase}
use Rattle.endpoint_rules.specs.Did.{Did, Effect, refused, begin, queue_wire, change, done}
use Rattle.endpoint_rules.specs.Handshake.{nonce_issued, request}
use Rattle.endpoint_rules.specs.Sending.{pending_queued}
use Rattle.endpoint_rules.specs.Reports.{report_queued}
use Rattle.endpoint_rules.specs.Act.{request_due, resend_due, report_due, keep_alive_due, interruption_due, disconnect_due, resent, report_sent, kept_alive, interrupted, timed_out, acted}
use Rattle.endpoint_rules.specs.Step.{act_step}
use Rattle.endpoint_rules.proofs.Tested.{tested-both}
use Rattle.endpoint_invariant.proofs.Choices.{by_pick}

never : true ≡ false → ⊥
never n = let z : ◌≡◌ {A = ℕ} 0 1 = cc in omega arith

-- the same phase as before
abbrev Stays : Effect → Effect → Type 0
Stays e f = f.state.phase ≡ e.state.phase

pending_stays : (now : ℕ) (statuses : List ConnectionStatus) (l : List InputBytes) (e : Effect) → Stays e (pending_queued now statuses l e)
unfolding pending_queued queue_wire
pending_stays now statuses [] e = refl
pending_stays now statuses (x ∷ l) e = refl

module _ (now epoch : ℕ) (statuses : List ConnectionStatus) where
  resent-stays : (e : Effect) → Stays e (resent now statuses e)
  unfolding resent
  resent-stays e = by_pick (Stays e) (resend_due now e.state) _ _ (λ _. pending_stays now statuses e.state.carried.sender.pending e) (λ _. refl)

  report-stays : (e : Effect) → Stays e (report_sent now epoch e)
  unfolding report_sent report_queued queue_wire
  report-stays e = by_pick (Stays e) (report_due now e.state) _ _ (λ _. refl) (λ _. refl)

  alive_stays : (e : Effect) → Stays e (kept_alive now e)
  unfolding kept_alive queue_wire
  alive_stays e = by_pick (Stays e) (keep_alive_due now e.state) _ _ (λ _. refl) (λ _. refl)

  interrupted-stays : (e : Effect) → Stays e (interrupted now e)
  unfolding interrupted
  interrupted-stays e = by_pick (Stays e) (interruption_due now e.state) _ _ (λ _. refl) (λ _. refl)

  timed-stays : (e : Effect) → Stays e (timed_out now e)
  unfolding timed_out
  timed-stays e = by_pick (Stays e) (disconnect_due now e.state) _ _ (λ _. refl) (λ _. refl)

-- nothing is queued, or the endpoint is not in Shutdown
abbrev Quiet : Effect → Type 0
Quiet e = is_shutdown e.state.phase ≡ true → e.out ≡ []

acted_quiet : (p : Phase) (now epoch nonce : ℕ) (statuses : List ConnectionStatus) (s : Seen) → s.phase ≡ p → Quiet (acted p now epoch nonce statuses (begin s))
unfolding acted request nonce_issued queue_wire
acted_quiet Initializing now epoch nonce statuses s e h = refl
acted_quiet Synchronizing now epoch nonce statuses s e h =
    by_pick Quiet (request_due now s) (request now nonce (begin s)) (begin s) (λ _ h. absurd (never (sym h ∙ ap is_shutdown e))) (λ _ h. refl) h
acted_quiet Running now epoch nonce statuses s e h =
    let a : Effect = resent now statuses (begin s) in
    let b : Effect = report_sent now epoch a in
    let c : Effect = kept_alive now b in
    let d : Effect = interrupted now c in
    let q : (timed_out now d).state.phase ≡ Running =
    timed-stays now epoch statuses d ∙ interrupted-stays now epoch statuses c ∙ alive_stays now epoch statuses b ∙ report-stays now epoch statuses a ∙ resent-stays now epoch statuses (begin s) ∙ e in
    absurd (never (sym h ∙ ap is_shutdown q))
acted_quiet Disconnected now epoch nonce statuses s e h =
    by_pick Quiet (ltb s.clocks.shutdown_timeout now) (change (with_phase Shutdown) (begin s)) (begin s) (λ _ h. refl) (λ _ h. refl) h
acted_quiet Shutdown now epoch nonce statuses s e h = refl

pub act_quiet : (count : ℕ) (statuses : List ConnectionStatus) (now epoch nonce buffer : ℕ) (s : Seen)
    → is_shutdown (act_step count statuses now epoch nonce buffer s).after.phase ≡ true → (act_step count statuses now epoch nonce buffer s).out ≡ []
unfolding act_step done refused
act_quiet count statuses now epoch nonce buffer s =
    tested-both _ s _ (λ (d : Did). is_shutdown d.after.phase ≡ true → d.out ≡ []) (λ _ _. refl) (λ _. acted_quiet s.phase now epoch nonce statuses s refl)
