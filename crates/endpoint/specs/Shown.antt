-- What a call that changes nothing shows: its number, and its value where that is 0; and how the two answers that may be refused show both.
use Rattle.std.specs.Prelude.{◌≡◌, ℕ, eqb, length, Result, Ok, Err}
use Rattle.base.specs.Pick.{pick}
use Rattle.answer.specs.Number.{refusal_number}
use Rattle.answer.specs.declared.Refusal.{Refusal}
use Rattle.status.specs.declared.ConnectionStatus.{ConnectionStatus}
use Rattle.quality.specs.declared.NetworkStats.{NetworkStats}
use Rattle.checksums.specs.declared.Checksums.{Checksums}
use Rattle.checksums.specs.Checksums.{stored}
use Rattle.ceilings.specs.Ceilings.{most_players}
use Rattle.fixed_vec.specs.declared.FixedVec.{FixedVec}
use Rattle.setup.specs.Setup.{handle_list}
use Rattle.endpoint_rules.specs.Seen.{Seen}
use Rattle.endpoint_rules.specs.Call.{Call, Question}
use Rattle.endpoint_rules.specs.Step.{step}
use Rattle.endpoint_rules.specs.Value.{Value, value_of}

unfoldable pub shown : Call → Seen → ℕ × Value
shown c s = ((step c s).answer, pick (eqb (step c s).answer 0) (value_of c s) Value.nothing)

-- the handles, with a count that is their number
abbrev pub HandlesAs : Seen → FixedVec ℕ most_players → Type 0
HandlesAs s r = (Value.numbers (handle_list r) ≡ value_of (Call.ask Question.handles) s) × (r.count ≡ length (handle_list r))

-- the checksums that the other end reported, with a count that is their number
abbrev pub ChecksumsAs : Seen → Checksums → Type 0
ChecksumsAs s r = (Value.checksums (stored r) ≡ value_of (Call.ask Question.checksums) s) × (r.entries.count ≡ length (stored r))

abbrev pub shown_status : Result ConnectionStatus Refusal → ℕ × Value
shown_status (Ok status) = (0, Value.status status)
shown_status (Err refusal) = (refusal_number refusal, Value.nothing)

abbrev pub shown_stats : Result NetworkStats Refusal → ℕ × Value
shown_stats (Ok stats) = (0, Value.stats stats)
shown_stats (Err refusal) = (refusal_number refusal, Value.nothing)
