-- Two answers that a contract allows are equal, by name for each public function.
use mathlib.Core.Path.{◌≡◌, ap}
use Prim.Native.Nat.{ℕ}
use Rattle.base.specs.Pick.{pick}
use Rattle.base.proofs.Settled.{settled}
use Rattle.quality.specs.declared.Quality.{Quality}
use Rattle.std.proofs.Common.{Result, Ok, Err, sym}
use Rattle.answer.specs.declared.Refusal.{Refusal}
use Rattle.answer.specs.Number.{Answered}
use Rattle.answer.proofs.Number.{number_determines}
use Rattle.answer.proofs.Refused.{not_done}
use Rattle.quality.specs.Quality.{clamped, widened, round_trip, fresh_quality, started_at, remote_set, trip_noted, local_set}
use Rattle.quality.specs.Advantage.{advantage_of, advantage_overflows, shown_advantage}

pub clamped_settled : (advantage r s : ℕ) → r ≡ clamped advantage → s ≡ clamped advantage → r ≡ s
clamped_settled advantage = settled (λ r. r) (clamped advantage)

pub widened_settled : (advantage r s : ℕ) → r ≡ widened advantage → s ≡ widened advantage → r ≡ s
widened_settled advantage = settled (λ r. r) (widened advantage)

pub round_trip_settled : (epoch low high r s : ℕ) → r ≡ round_trip epoch low high → s ≡ round_trip epoch low high → r ≡ s
round_trip_settled epoch low high = settled (λ r. r) (round_trip epoch low high)

-- what is shown of an advantage is all of it
with_none : Answered → Result ℕ Refusal
with_none (Ok u) = Ok 0
with_none (Err refusal) = Err refusal

pub shown_one_to_one : (r s : Result ℕ Refusal) → shown_advantage r ≡ shown_advantage s → r ≡ s
unfolding with_none
shown_one_to_one (Ok a) (Ok b) e = ap Ok (ap (λ (x : ℕ × ℕ). x.1) e)
shown_one_to_one (Ok a) (Err s) e = absurd (not_done s (sym (ap (λ (x : ℕ × ℕ). x.0) e)))
shown_one_to_one (Err r) (Ok b) e = absurd (not_done r (ap (λ (x : ℕ × ℕ). x.0) e))
shown_one_to_one (Err r) (Err s) e = ap with_none (number_determines (Err r) (Err s) (ap (λ (x : ℕ × ℕ). x.0) e))

module _ (received time fps frame : ℕ) where
  abbrev answered : ℕ × ℕ
  answered = pick (advantage_overflows received time fps frame) (6, 0) (0, advantage_of received time fps frame)

  pub local_advantage_settled : (r s : Result ℕ Refusal) → shown_advantage r ≡ answered → shown_advantage s ≡ answered → r ≡ s
  local_advantage_settled r s e f = shown_one_to_one r s (settled shown_advantage answered r s e f)

module _ (r s : Quality) where
  pub new_settled : r ≡ fresh_quality → s ≡ fresh_quality → r ≡ s
  new_settled = settled (λ r. r) fresh_quality r s

  module _ (n : ℕ) (q : Quality) where
    pub started_settled : r ≡ started_at n q → s ≡ started_at n q → r ≡ s
    started_settled = settled (λ r. r) (started_at n q) r s

    pub remote_settled : r ≡ remote_set n q → s ≡ remote_set n q → r ≡ s
    remote_settled = settled (λ r. r) (remote_set n q) r s

    pub tripped_settled : r ≡ trip_noted n q → s ≡ trip_noted n q → r ≡ s
    tripped_settled = settled (λ r. r) (trip_noted n q) r s

    pub local_settled : r ≡ local_set n q → s ≡ local_set n q → r ≡ s
    local_settled = settled (λ r. r) (local_set n q) r s
