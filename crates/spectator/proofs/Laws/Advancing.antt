-- Advancing: refused, or done, and how many frames that can be.
use borrow.Author.Tests.{eq-eqb, ne_eqb, eqb-false}
use mathlib.Core.Bool.{Bool, true, false, not}
use mathlib.Core.List.{List, [], ◌∷◌}
use mathlib.Core.Logic.{◌⊎◌, inl, inr}
use mathlib.Core.Path.{◌≡◌, refl, sym, ◌∙◌}
use Prim.Native.Nat.{ℕ, suc, ◌+◌, ◌-◌, ◌^◌, ◌≤◌, min}
use native.Mathlib.Numerals.{add-one}
use native.Mathlib.Omega.{arith}
use lib.Dec.{ltb}
use Rattle.base.specs.Pick.{pick}
use Rattle.base.specs.First.{first_of}
use Rattle.std.specs.Prelude.{Result, Ok, Err}
use Rattle.answer.specs.Number.{refusal_number}
use Rattle.answer.specs.declared.Refusal.{Refusal}
use Rattle.answer.proofs.Refused.{not_done}
use Rattle.status.specs.Statuses.{held_statuses}
use Rattle.setup.specs.Setup.{terms_with}
use Rattle.endpoint.specs.Endpoint.{seen as seen_host}
use Rattle.spectator_rules.specs.declared.Limits.{Limits}
use Rattle.spectator_rules.specs.declared.SyncedInput.{SyncedInput}
use Rattle.spectator_rules.specs.Watch.{is_running}
use Rattle.spectator_rules.specs.Advance.{behind_overflows, next_overflows, frames_by, frames_to_advance, frames_refusal, frames_refusal_by, requests_by, requests_of, advance_tests, advance_refusal, advanced}
use Rattle.spectator_rules.specs.Call.{Call}
use Rattle.spectator_rules.specs.Step.{step, advance_step, decided, refused, changed}
use Rattle.spectator.specs.declared.SpectatorSession.{SpectatorSession}
use Rattle.spectator.specs.declared.requests.Requests.{Requests}
use Rattle.spectator.specs.Stores.{inputs_of, RequestsAs}
use Rattle.spectator.specs.Session.{seen, advanced_to}
use Rattle.spectator.specs.Answers.{AdvancedAs, GivenAs, frames_in}

-- ---- the frames of an answer

pub frames_given : (l : List (List SyncedInput)) (r : Result Requests Refusal) → GivenAs l r → frames_in r ≡ l
frames_given l (Ok q) h = h.frames
frames_given l (Err x) h = h

-- ---- how many frames

most_by : (b : Bool) (speed behind slots : ℕ) → pick b (min (min speed behind) (min (slots - 1) 63)) 1 ≤ 63
most_by true speed behind slots = omega arith
most_by false speed behind slots = omega arith

-- one, or no more than there are
pub record Few (behind n : ℕ) : Type 0 where
  pub few : (n ≤ behind) ⊎ (n ≡ 1)

few_by : (b : Bool) (speed behind slots : ℕ) → Few behind (pick b (min (min speed behind) (min (slots - 1) 63)) 1)
few_by true speed behind slots = record { few = inl (omega arith) }
few_by false speed behind slots = record { few = inr refl }

module _ (l : Limits) (behind : ℕ) where
  pub frames_most : frames_by l behind ≤ 63
  unfolding frames_by
  frames_most = most_by (ltb l.max_frames_behind behind) l.catchup_speed behind l.slots

  frames_few : Few behind (frames_by l behind)
  unfolding frames_by
  frames_few = few_by (ltb l.max_frames_behind behind) l.catchup_speed behind l.slots

-- none of them is past the last
pub frames_within : (l : Limits) (newest current : ℕ) → newest + 1 ≤ 2 ^ 32 → current + 2 ≤ 2 ^ 32 → current + 1 + frames_by l (newest - current) ≤ 2 ^ 32
frames_within l newest current h k =
    elim (frames_few l (newest - current)).few [
      | inl e ↦ omega arith
      | inr e ↦ omega arith
    ]

-- ---- what is not refused

last_false : (a b c : Bool) → first_of ((a, 14) ∷ (b, 6) ∷ (c, 6) ∷ []) ≡ 0 → c ≡ false
last_false true b c e = absurd (omega arith)
last_false false true c e = absurd (omega arith)
last_false false false true e = absurd (omega arith)
last_false false false false e = refl

module _ (s : SpectatorSession) where
  pub next_fits : first_of (advance_tests (seen s)) ≡ 0 → s.current_frame + 1 ≡ 2 ^ 32 → ⊥
  unfolding seen
  next_fits h = eqb-false (s.current_frame + 1) (2 ^ 32) (last_false (not (is_running (seen s).state)) (behind_overflows (seen s)) (next_overflows (seen s)) h)

  -- ---- the ways out

  step-refused : (advance_refusal (seen s) ≡ 0 → ⊥) → step Call.advance_frame (seen s) ≡ refused (advance_refusal (seen s)) (seen s)
  unfolding step advance_step decided
  step-refused n = rw (ne_eqb (advance_refusal (seen s)) 0 n)

  step-done : advance_refusal (seen s) ≡ 0 → step Call.advance_frame (seen s) ≡ changed (advanced (seen s))
  unfolding step advance_step decided
  step-done h = rw (eq-eqb (advance_refusal (seen s)) 0 h)

  refused_by : (x : Refusal) → refusal_number x ≡ advance_refusal (seen s) → AdvancedAs s (record { session = s; answer = Err x })
  unfolding refused
  refused_by x h =
      let k : advance_refusal (seen s) ≡ 0 → ⊥ = λ e. not_done x (h ∙ e) in
      record {
        answer = rw (step-refused k) h;
        after = rw (step-refused k);
        requests = rw (step-refused k, ne_eqb (advance_refusal (seen s)) 0 k);
        own = refl;
        same = λ _. refl;
      }

  pub refused_early : (x : Refusal) → refusal_number x ≡ first_of (advance_tests (seen s)) → AdvancedAs s (record { session = s; answer = Err x })
  unfolding advance_refusal
  refused_early x h = refused_by x (h ∙ rw (ne_eqb (first_of (advance_tests (seen s))) 0 (λ e. not_done x (h ∙ e))))

  module _ (free : first_of (advance_tests (seen s)) ≡ 0) where
    past : advance_refusal (seen s) ≡ frames_refusal (frames_to_advance (seen s)) (suc (seen s).current) (seen s)
    unfolding advance_refusal
    past = rw (eq-eqb (first_of (advance_tests (seen s))) 0 free)

    pub refused_late : (x : Refusal) → refusal_number x ≡ frames_refusal (frames_to_advance (seen s)) (suc (seen s).current) (seen s) → AdvancedAs s (record { session = s; answer = Err x })
    refused_late x h = refused_by x (h ∙ sym past)

    pub advances : 0 ≡ frames_refusal (frames_to_advance (seen s)) (suc (seen s).current) (seen s)
        → (n : ℕ) → n ≡ frames_to_advance (seen s) → (q : Requests) → RequestsAs (requests_of (seen s)) q
        → AdvancedAs s (record { session = advanced_to s (s.current_frame + n); answer = Ok q })
    unfolding seen
    advances h n en q eq =
        let z : advance_refusal (seen s) ≡ 0 = past ∙ sym h in
        record {
          answer = rw (step-done z);
          after = rw (step-done z, en);
          requests = rw (step-done z) eq;
          own = refl;
          same = λ k. absurd (k (rw (step-done z)));
        }

  -- ---- what the code counts and reads is the session's

  module _ (n : ℕ) (en : n ≡ frames_by s.limits (s.last_recv_frame - s.current_frame)) where
    pub counted_as : n ≡ frames_to_advance (seen s)
    unfolding seen frames_to_advance
    counted_as = en

    pub refused_as : frames_refusal_by s.limits.slots n (s.current_frame + 1) (inputs_of s.inputs) ≡ frames_refusal (frames_to_advance (seen s)) (suc (seen s).current) (seen s)
    unfolding seen
    refused_as = rw (← counted_as, add-one)

    pub given_as : (players : ℕ) → players ≡ min s.host.setup.num_players 4
        → requests_by s.limits.slots n (s.current_frame + 1) players (inputs_of s.inputs) (held_statuses s.statuses) ≡ requests_of (seen s)
    unfolding seen seen_host terms_with requests_of
    given_as players ep = rw (← counted_as, add-one, ep)
