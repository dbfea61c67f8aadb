-- What the session's own calls answer.
use Rattle.std.specs.Prelude.{List, [], ◌++◌, ◌≡◌, ℕ, min, eqb, length, take, Result, Ok, Err}
use Rattle.base.specs.Pick.{pick}
use Rattle.base.specs.Lay.{laid_at}
use Rattle.answer.specs.Number.{Answered, number_of, refusal_number}
use Rattle.answer.specs.declared.Refusal.{Refusal}
use Rattle.ceilings.specs.Ceilings.{most_players}
use Rattle.codec.specs.Bytes.{queue_of}
use Rattle.endpoint_rules.specs.Value.{filled_part, handed_back}
use Rattle.endpoint.specs.Endpoint.{seen as seen_host, SameTerms}
use Rattle.endpoint.specs.Taken.{shorter, answer_in, count_in}
use Rattle.endpoint.specs.declared.Endpoint.{Endpoint}
use Rattle.quality.specs.declared.NetworkStats.{NetworkStats}
use Rattle.spectator_rules.specs.declared.SessionSetup.{SessionSetup}
use Rattle.spectator_rules.specs.declared.SyncedInput.{SyncedInput}
use Rattle.events.specs.declared.Entry.{Entry}
use Rattle.endpoint_rules.specs.Seen.{with_events}
use Rattle.endpoint_rules.specs.Step.{take_step}
use Rattle.spectator_rules.specs.Watch.{Watch, with_host}
use Rattle.spectator_rules.specs.Handling.{handled_all}
use Rattle.spectator_rules.specs.Advance.{requests_of}
use Rattle.spectator_rules.specs.Call.{Call}
use Rattle.spectator_rules.specs.Step.{Did, fresh, host_acts, step}
use Rattle.spectator_rules.specs.Value.{Value, value_of}
use Rattle.spectator.specs.declared.SpectatorSession.{SpectatorSession}
use Rattle.spectator.specs.declared.Ended.{Ended}
use Rattle.spectator.specs.declared.advancing.Advanced.{Advanced}
use Rattle.spectator.specs.declared.getters.TakenEvents.{TakenEvents}
use Rattle.spectator.specs.declared.hosting.TakenMessages.{TakenMessages}
use Rattle.spectator.specs.declared.polling.Polled.{Polled}
use Rattle.spectator.specs.declared.requests.Requests.{Requests}
use Rattle.spectator.specs.Stores.{events_of, request_frames, RequestsAs}
use Rattle.spectator.specs.Session.{seen, Counted, advanced_to, keeping, DoneAs}

-- new: its number, and the session in any case. Each count of the session is the number of what its store holds, and the host's counts of handles and of
-- statuses are known too
pub record MadeAs (g : SessionSetup) (now : ℕ) (r : Ended) : Type 0 where
  pub answer : number_of r.answer ≡ (fresh g now).0
  pub made : seen r.session ≡ (fresh g now).1
  pub counted : Counted r.session
  pub host_handles : r.session.host.setup.handles.count ≡ g.num_players
  pub host_statuses : r.session.host.statuses.count ≡ min g.num_players most_players

-- a call that changes nothing: its number, and its value where that is 0
unfoldable pub shown : Call → Watch → ℕ × Value
shown c w = ((step c w).answer, pick (eqb (step c w).answer 0) (value_of c w) Value.nothing)

abbrev pub shown_stats : Result NetworkStats Refusal → ℕ × Value
shown_stats (Ok stats) = (0, Value.stats stats)
shown_stats (Err refusal) = (refusal_number refusal, Value.nothing)

abbrev pub shown_behind : Result ℕ Refusal → ℕ × Value
shown_behind (Ok n) = (0, Value.count n)
shown_behind (Err refusal) = (refusal_number refusal, Value.nothing)

-- the events taken, and their count, which is their number; of the session only the events change, and none is left
pub record TakenAs (s : SpectatorSession) (r : TakenEvents) : Type 0 where
  pub events : Value.events (events_of r.events) ≡ value_of Call.take_events (seen s)
  pub count : r.events.entries.count ≡ length (events_of r.events)
  pub after : seen r.session ≡ (step Call.take_events (seen s)).after
  pub own : r.session ≡ keeping s r.session.events
  pub left : r.session.events.entries.count ≡ 0

-- messages taken into another buffer, as from the session's endpoint: what is handed back stands at the front of it
pub record TakenIntoAs (s : SpectatorSession) (queue into : List ℕ) (r : TakenMessages) (into' : List ℕ) : Type 0 where
  pub taken : DoneAs s (step (Call.take_messages (shorter queue into)) (seen s)) (record { session = r.session; answer = answer_in r.answer })
  pub count : count_in r.answer ≡ handed_back (shorter queue into) (seen s).host
  pub lent : into' ≡ laid_at into 0 (take (count_in r.answer) queue)

-- how many bytes a poll hands back: the filled part of the buffer, none where it is refused
unfoldable pub polled_part : (now epoch nonce buffer : ℕ) → Watch → ℕ
polled_part now epoch nonce buffer w =
    pick (eqb (step (Call.poll_remote_clients now epoch nonce buffer) w).answer 0) (filled_part (host_acts now epoch nonce buffer w).after) 0

-- a poll: as a call of the host that may queue messages, with how many bytes it hands back. Where it is done, each count of the session is the number of what
-- its store holds, whatever the counts were before it
pub record PolledAs (s : SpectatorSession) (d : Did) (part : ℕ) (buffer : List ℕ) (r : Polled) (buffer' : List ℕ) : Type 0 where
  pub answer : number_of (answer_in r.answer) ≡ d.answer
  pub after : seen r.session ≡ d.after
  pub lent : buffer' ≡ laid_at buffer s.host.queued (queue_of d.out)
  pub filled : count_in r.answer ≡ part
  pub counted : d.answer ≡ 0 → Counted r.session
  pub terms : SameTerms s.host r.session.host
  pub same : (d.answer ≡ 0 → ⊥) → r.session ≡ s

-- what is left of a poll once the host has acted: its messages are taken from a buffer, and all its events handled
pub record TakenInAs (s : SpectatorSession) (old : List Entry) (acted : Endpoint) (buffer : ℕ) (r : Polled) : Type 0 where
  pub answer : number_of (answer_in r.answer) ≡ (take_step buffer (seen_host acted)).answer
  pub done : (take_step buffer (seen_host acted)).answer ≡ 0 → seen r.session ≡ handled_all (old ++ (seen_host acted).events) (with_host (with_events [] (take_step buffer (seen_host acted)).after) (seen s))
  pub counted : (take_step buffer (seen_host acted)).answer ≡ 0 → Counted r.session
  pub terms : (take_step buffer (seen_host acted)).answer ≡ 0 → SameTerms acted r.session.host
  pub filled : count_in r.answer ≡ pick (eqb (take_step buffer (seen_host acted)).answer 0) (filled_part (seen_host acted)) 0
  pub same : ((take_step buffer (seen_host acted)).answer ≡ 0 → ⊥) → r.session ≡ s

-- whether frames are given, and which: none where that is refused
abbrev pub frames_answer : Result Requests Refusal → Answered
frames_answer (Ok q) = Ok tt
frames_answer (Err r) = Err r

abbrev pub frames_in : Result Requests Refusal → List (List SyncedInput)
frames_in (Ok q) = request_frames q
frames_in (Err r) = []

-- these frames, each with the count of its players
abbrev pub GivenAs : List (List SyncedInput) → Result Requests Refusal → Type 0
GivenAs l (Ok q) = RequestsAs l q
GivenAs l (Err r) = [] ≡ l

-- the frames advanced, none where it is refused; of the session only the frame advanced last changes
pub record AdvancedAs (s : SpectatorSession) (r : Advanced) : Type 0 where
  pub answer : number_of (frames_answer r.answer) ≡ (step Call.advance_frame (seen s)).answer
  pub after : seen r.session ≡ (step Call.advance_frame (seen s)).after
  pub requests : GivenAs (pick (eqb (step Call.advance_frame (seen s)).answer 0) (requests_of (seen s)) []) r.answer
  pub own : r.session ≡ advanced_to s r.session.current_frame
  pub same : ((step Call.advance_frame (seen s)).answer ≡ 0 → ⊥) → r.session ≡ s
