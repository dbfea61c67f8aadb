-- What a call does: its answer, the state after it, the messages that it queues, the events that it announces.
use Rattle.std.specs.Prelude.{Bool, List, [], ◌∷◌, ◌++◌, ℕ, ◌+◌, eqb}
use Rattle.base.specs.Pick.{pick}
use Rattle.codec.specs.Message.{Wire}
use Rattle.codec.specs.Read.{body_only}
use Rattle.codec.specs.declared.MessageBody.{MessageBody}
use Rattle.outbox.specs.Outbox.{queue_size}
use Rattle.events.specs.declared.Entry.{Entry}
use Rattle.events.specs.declared.Event.{Event}
use Rattle.events.specs.Events.{without_input}
use Rattle.endpoint_rules.specs.Seen.{Seen, with_events, with_queued, sent_at}

pub record Did : Type 0 where
  pub answer : ℕ
  pub after : Seen
  pub out : List Wire
  pub events : List Entry

-- a refusal (N-19): its number, and nothing else happens
unfoldable pub refused : ℕ → Seen → Did
refused n s = record { answer = n; after = s; out = []; events = [] }

-- what a test that holds makes of a call: it is refused with a number, or ignored (N-22)
pub data Verdict : Type 0 where
  refuse : ℕ → Verdict
  ignore : Verdict

-- a call that is ignored answers 0, and nothing changes
abbrev pub stopped : Verdict → Seen → Did
stopped (refuse n) s = refused n s
stopped ignore s = record { answer = 0; after = s; out = []; events = [] }

-- a test as a number, 1 where it holds: the prover computes examples far faster so (CONTRIBUTING, "Definitions")
abbrev pub holding : Bool → ℕ
holding b = pick b 1 0

-- a call's tests from top to bottom (N-20): where the first does not hold, the rest is tested; where it holds, the call stops with its verdict; where none does, the call goes on as d
unfoldable pub tested : List (Bool × Verdict) → Seen → Did → Did
tested [] s d = d
tested (t ∷ ts) s d = pick (eqb (holding t.0) 0) (tested ts s d) (stopped t.1 s)

-- what was read before the call: refused with the reader's number; 0 goes on
unfoldable pub decided : ℕ → Seen → Did → Did
decided n s d = pick (eqb n 0) d (refused n s)

-- ---- a call that is done, step by step. Until `done` books it, the state's events and queue are those from before the call.
pub record Effect : Type 0 where
  pub state : Seen
  pub out : List Wire
  pub events : List Entry

abbrev pub begin : Seen → Effect
begin s = record { state = s; out = []; events = [] }

abbrev pub change : (Seen → Seen) → Effect → Effect
change f e = record { state = f e.state; out = e.out; events = e.events }

-- a message is queued: the send time is noted
unfoldable pub queue_wire : ℕ → Wire → Effect → Effect
queue_wire now w e = record { state = sent_at now e.state; out = e.out ++ w ∷ []; events = e.events }

-- one that has neither statuses nor payload, under the own magic
abbrev pub queue : ℕ → MessageBody → Effect → Effect
queue now body e = queue_wire now (body_only e.state.setup.magic body) e

abbrev pub announce : List Entry → Effect → Effect
announce es e = record { state = e.state; out = e.out; events = e.events ++ es }

-- an event that has no input
abbrev pub announce_event : Event → Effect → Effect
announce_event event e = announce (without_input event ∷ []) e

unfoldable pub done : Effect → Did
done e =
    record {
      answer = 0;
      after = with_events (e.state.events ++ e.events) (with_queued (e.state.queued + queue_size e.out) e.state);
      out = e.out;
      events = e.events;
    }
