-- What taking events and taking messages hand back.
use Rattle.std.specs.Prelude.{List, ◌≡◌, ℕ, min, length, take, Result, Ok, Err}
use Rattle.base.specs.Lay.{laid_at}
use Rattle.answer.specs.Number.{Answered}
use Rattle.answer.specs.declared.Refusal.{Refusal}
use Rattle.events.specs.Events.{held_events}
use Rattle.endpoint_rules.specs.Call.{Call}
use Rattle.endpoint_rules.specs.Step.{step}
use Rattle.endpoint_rules.specs.Value.{Value, value_of, handed_back}
use Rattle.endpoint.specs.declared.Endpoint.{Endpoint}
use Rattle.endpoint.specs.declared.taking.TakenEvents.{TakenEvents}
use Rattle.endpoint.specs.declared.taking.TakenMessages.{TakenMessages}
use Rattle.endpoint.specs.Endpoint.{seen, SameTerms, DoneAs}

-- the events that were held, with a count that is their number, and the endpoint without them
pub record TakenAs (e : Endpoint) (r : TakenEvents) : Type 0 where
  pub events : Value.events (held_events r.events) ≡ value_of Call.take_events (seen e)
  pub count : r.events.entries.count ≡ length (held_events r.events)
  pub after : seen r.endpoint ≡ (step Call.take_events (seen e)).after
  pub terms : SameTerms e r.endpoint

-- the shorter of the buffer that has the queue and the one that it is copied to
abbrev pub shorter : (queue into : List ℕ) → ℕ
shorter queue into = min (length queue) (length into)

-- done or refused, and how many bytes were copied: none where it was refused
abbrev pub answer_in : Result ℕ Refusal → Answered
answer_in (Ok n) = Ok tt
answer_in (Err r) = Err r

abbrev pub count_in : Result ℕ Refusal → ℕ
count_in (Ok n) = n
count_in (Err r) = 0

-- messages taken into another buffer (E-66 to E-69): refused and done as from a buffer of the shorter one's length; what is handed back stands at the
-- front of the other
pub record TakenIntoAs (e : Endpoint) (queue into : List ℕ) (r : TakenMessages) (into' : List ℕ) : Type 0 where
  pub taken : DoneAs e (step (Call.take_messages (shorter queue into)) (seen e)) (record { endpoint = r.endpoint; answer = answer_in r.answer })
  pub count : count_in r.answer ≡ handed_back (shorter queue into) (seen e)
  pub lent : into' ≡ laid_at into 0 (take (count_in r.answer) queue)
