-- What a call does can be answered: its number is one of the table's (N-1 to N-17), and a refusal changes nothing.
use mathlib.Core.Bool.{Bool}
use mathlib.Core.List.{List, [], ◌∷◌}
use mathlib.Core.Path.{◌≡◌, refl}
use native.Mathlib.Omega.{arith}
use Prim.Native.Nat.{ℕ, ◌≤◌}
use Rattle.base.specs.Little.{Bytes}
use Rattle.codec.specs.Message.{Wire}
use Rattle.codec.specs.Read.{datagram, number_in, Reading}
use Rattle.codec.specs.Read.Reading.{got, fault}
use Rattle.codec.proofs.Laws.{datagram_fault_range}
use Rattle.endpoint_rules.specs.Seen.{Seen}
use Rattle.endpoint_rules.specs.Did.{Did, Verdict, refused, stopped, tested, decided, done}
use Rattle.endpoint_rules.specs.Did.Verdict.{refuse, ignore}
use Rattle.endpoint_rules.specs.Call.{Call}
use Rattle.endpoint_rules.specs.Step.{synchronize_step, message_step, datagram_step, act_step, send_step, disconnect_step, checksum_step, advantage_step, take_step, stats_step, status_step, step, reacted}
use Rattle.endpoint_rules.proofs.Tested.{EachStops, by_tests, by_decided}
use Rattle.endpoint_invariant.specs.Typed.{Typed}

pub record Proper (s : Seen) (d : Did) : Type 0 where
  pub bound : d.answer ≤ 17
  pub keeps : (d.answer ≡ 0 → ⊥) → d.after ≡ s

zero_proper : (s : Seen) (d : Did) → d.answer ≡ 0 → Proper s d
zero_proper s d e = record { bound = omega arith; keeps = λ h. absurd (h e) }

proper_decided : (n : ℕ) (s : Seen) (d : Did) → n ≤ 17 → Proper s d → Proper s (decided n s d)
unfolding refused
proper_decided n s d f p = by_decided n s d (Proper s) (λ _. p) (λ _. record { bound = f; keeps = λ _. refl })

-- the numbers of a call's tests are among the table's
abbrev Fine : Verdict → Type 0
Fine (refuse n) = n ≤ 17
Fine ignore = Unit {0}

abbrev AllFine : List (Bool × Verdict) → Type 0
AllFine [] = Unit {0}
AllFine (t ∷ ts) = Fine t.1 × AllFine ts

proper_tests : (l : List (Bool × Verdict)) (s : Seen) (d : Did) → AllFine l → Proper s d → Proper s (tested l s d)
unfolding refused
proper_tests l s d h p = by_tests l s d (Proper s) (each l h) (λ _. p)
  where
    one : (v : Verdict) → Fine v → Proper s (stopped v s)
    one (refuse n) f = record { bound = f; keeps = λ _. refl }
    one ignore f = record { bound = omega arith; keeps = λ _. refl }

    each : (m : List (Bool × Verdict)) → AllFine m → EachStops (Proper s) s m
    each [] f = tt
    each (t ∷ m) f = (λ _. one t.1 f.0, each m f.1)

-- where none holds, the call is done
proper_first : (l : List (Bool × Verdict)) (s : Seen) (d : Did) → AllFine l → d.answer ≡ 0 → Proper s (tested l s d)
proper_first l s d h e = proper_tests l s d h (zero_proper s d e)

module _ (s : Seen) where
  message_proper : (from count : ℕ) (w : Wire) (now epoch nonce buffer : ℕ) → Proper s (message_step from count w now epoch nonce buffer s)
  unfolding message_step reacted done
  message_proper from count w now epoch nonce buffer = proper_tests _ s _ (omega arith, (tt, tt)) (proper_first _ s _ (omega arith, (omega arith, (omega arith, tt))) refl)

  -- the reader's number
  read_bound : (d : List ℕ) → Bytes d → number_in (datagram d) ≤ 17
  read_bound d are = go (datagram d) refl
    where
      go : (g : Reading Wire) → datagram d ≡ g → number_in g ≤ 17
      go (got w rest) e = omega arith
      go (fault n) e = let range = datagram_fault_range d n are e in omega arith

  pub step_proper : (c : Call) → Typed c → Proper s (step c s)
  unfolding step synchronize_step datagram_step act_step send_step disconnect_step checksum_step advantage_step stats_step status_step take_step done
  step_proper (Call.synchronize now epoch nonce buffer) t = proper_first _ s _ (omega arith, (omega arith, (omega arith, tt))) refl
  step_proper (Call.message from count w now epoch nonce buffer) t = message_proper from count w now epoch nonce buffer
  step_proper (Call.datagram from d now epoch nonce buffer) t = proper_decided _ s _ (read_bound d t.1) (message_proper from _ _ now epoch nonce buffer)
  step_proper (Call.act count statuses now epoch nonce buffer) t = proper_first _ s _ (omega arith, (omega arith, (omega arith, tt))) refl
  step_proper (Call.send_input frame bytes count statuses now buffer) t = proper_first _ s _ (omega arith, (omega arith, (tt, (omega arith, (omega arith, tt))))) refl
  step_proper (Call.disconnect now) t = proper_first _ s _ (omega arith, (tt, tt)) refl
  step_proper (Call.send_checksum_report frame checksum now buffer) t = proper_first _ s _ (omega arith, (omega arith, tt)) refl
  step_proper (Call.update_local_frame_advantage local) t = proper_first _ s _ (omega arith, tt) refl
  step_proper (Call.network_stats epoch) t = proper_first _ s _ (omega arith, (omega arith, (omega arith, tt))) refl
  step_proper (Call.peer_connect_status handle) t = proper_first _ s _ (omega arith, tt) refl
  step_proper Call.take_events t = zero_proper s _ refl
  step_proper (Call.take_messages buffer) t = proper_first _ s _ (omega arith, tt) refl
  step_proper (Call.ask question) t = zero_proper s _ refl
