-- What a call of the session's own does can be answered: its number is one of the table's (N-1 to N-17), and a refusal changes nothing.
use mathlib.Core.Bool.{Bool}
use mathlib.Core.List.{List, [], ◌∷◌}
use mathlib.Core.Path.{◌≡◌, refl}
use native.Mathlib.Omega.{arith}
use Prim.Native.Nat.{ℕ, zero, suc, ◌≤◌}
use lib.Dec.{ltb, eqb}
use lib.ListN.{length}
use Rattle.base.specs.Pick.{pick}
use Rattle.base.specs.First.{first_of}
use Rattle.endpoint_rules.specs.Seen.{with_events}
use Rattle.endpoint_rules.specs.Call.{Call as HostCall}
use Rattle.endpoint_rules.specs.Step.{step as host_step}
use Rattle.endpoint_invariant.specs.Each.{Each}
use Rattle.endpoint_invariant.specs.Typed.{TypedPlace, Typed as HostTyped}
use Rattle.endpoint_invariant.proofs.Choices.{by_pick}
use Rattle.endpoint_version.proofs.Asked.{statuses_typed}
use Rattle.endpoint_version.proofs.Proper.{step_proper}
use Rattle.spectator_rules.specs.declared.PlayerInput.{PlayerInput}
use Rattle.spectator_rules.specs.Watch.{Watch}
use Rattle.spectator_rules.specs.Advance.{held_by, frame_refusal_by, frames_refusal, frames_refusal_by, frames_to_advance, advance_tests, advance_refusal, advanced}
use Rattle.spectator_rules.specs.Call.{Call}
use Rattle.spectator_rules.specs.Step.{Did, refused, changed, decided, host_acts, host_takes, poll_refusal, polled, poll_step, advance_step, step}
use Rattle.spectator.specs.declared.SpectatorSession.{SpectatorSession}
use Rattle.spectator.specs.Session.{seen}
use Rattle.spectator_version.specs.Values.{IsSession}

pub record Proper (w : Watch) (d : Did) : Type 0 where
  pub bound : d.answer ≤ 17
  pub keeps : (d.answer ≡ 0 → ⊥) → d.after ≡ w

-- by its number, and by what is done where that is 0
proper_decided : (n : ℕ) (w : Watch) (d : Did) → n ≤ 17 → d.answer ≡ 0 → Proper w (decided n w d)
unfolding decided refused
proper_decided n w d f z =
    by_pick (Proper w) (eqb n 0) d (refused n w) (λ _. record { bound = omega arith; keeps = λ k. absurd (k z) }) (λ _. record { bound = f; keeps = λ _. refl })

-- a number, and where it is 0 another
picked_bound : (n m : ℕ) → n ≤ 17 → m ≤ 17 → pick (eqb n 0) m n ≤ 17
picked_bound n m h k = by_pick (λ (x : ℕ). x ≤ 17) (eqb n 0) m n (λ _. k) (λ _. h)

-- the number of the first test that holds
pub first_bound : (l : List (Bool × ℕ)) → Each (λ (t : Bool × ℕ). t.1 ≤ 17) l → first_of l ≤ 17
unfolding Each
first_bound [] h = omega arith
first_bound (t ∷ l) h = by_pick (λ (x : ℕ). x ≤ 17) t.0 t.1 (first_of l) (λ _. h.0) (λ _. first_bound l h.1)

-- ---- advance_frame

frame_bound : (slots frame : ℕ) (l : List PlayerInput) → frame_refusal_by slots frame l ≤ 17
unfolding Each
frame_bound slots frame l = first_bound ((ltb (held_by slots frame l) frame, 16) ∷ (ltb frame (held_by slots frame l), 17) ∷ []) (omega arith, (omega arith, tt))

frames_bound : (slots n frame : ℕ) (l : List PlayerInput) → frames_refusal_by slots n frame l ≤ 17
unfolding frames_refusal_by
frames_bound slots zero frame l = omega arith
frames_bound slots (suc n) frame l = picked_bound (frame_refusal_by slots frame l) (frames_refusal_by slots n (suc frame) l) (frame_bound slots frame l) (frames_bound slots n (suc frame) l)

advance_bound : (w : Watch) → advance_refusal w ≤ 17
unfolding advance_refusal Each
advance_bound w =
    picked_bound (first_of (advance_tests w)) (frames_refusal (frames_to_advance w) (suc w.current) w) (first_bound (advance_tests w) (omega arith, (omega arith, (omega arith, tt))))
    (frames_bound w.limits.slots (frames_to_advance w) (suc w.current) w.inputs)

pub advance_proper : (w : Watch) → Proper w (step Call.advance_frame w)
unfolding step advance_step
advance_proper w = proper_decided (advance_refusal w) w (changed (advanced w)) (advance_bound w) refl

-- ---- poll_remote_clients

module _ (s : SpectatorSession) (i : IsSession s) (now epoch nonce buffer : ℕ) (t : TypedPlace now epoch nonce buffer) where
  -- its endpoint's act is given values
  lent_typed : HostTyped (HostCall.act (length (seen s).statuses) (seen s).statuses now epoch nonce buffer)
  unfolding seen
  lent_typed =
      let k = statuses_typed s.statuses i.statuses in
      (omega (arith, k.few), record { few = omega (arith, k.few); frames = k.frames }, t)

  poll_bound : poll_refusal now epoch nonce buffer (seen s) ≤ 17
  unfolding poll_refusal host_acts host_takes host_step
  poll_bound =
      picked_bound (host_acts now epoch nonce buffer (seen s)).answer (host_takes buffer (host_acts now epoch nonce buffer (seen s))).answer
      (step_proper (with_events [] (seen s).host) (HostCall.act (length (seen s).statuses) (seen s).statuses now epoch nonce buffer) lent_typed).bound
      (step_proper (host_acts now epoch nonce buffer (seen s)).after (HostCall.take_messages buffer) t.3).bound

  pub poll_proper : Proper (seen s) (step (Call.poll_remote_clients now epoch nonce buffer) (seen s))
  unfolding step poll_step polled
  poll_proper = proper_decided (poll_refusal now epoch nonce buffer (seen s)) (seen s) (polled now epoch nonce buffer (seen s)) poll_bound refl
