-- A viewing box: a spectator session, and what it showed so far. Any calls on it; and any calls on it and on the endpoint that sends to it, where of Inputs and
-- InputAcks only those are handed over that the other one queued earlier: late, repeated, shuffled or never.
use Rattle.std.specs.Prelude.{List, [], ◌∷◌, ◌++◌, ◌≡◌, ℕ, suc, eqb}
use Rattle.base.specs.Pick.{pick}
use Rattle.status.specs.declared.ConnectionStatus.{ConnectionStatus}
use Rattle.status.specs.Statuses.{default_statuses}
use Rattle.codec.specs.Message.{Wire}
use Rattle.codec.specs.Read.{datagram, number_in, wire_in}
use Rattle.events.specs.declared.Entry.{Entry}
use Rattle.events.specs.declared.Event.{Event}
use Rattle.setup.specs.declared.Setup.{Setup}
use Rattle.endpoint_rules.specs.Call.{Call as EndpointCall}
use Rattle.endpoint_rules.specs.Step.{fresh as endpoint_fresh, step as endpoint_step}
use Rattle.endpoint_invariant.specs.Typed.{Typed as EndpointTyped, TypedSetup}
use Rattle.endpoint_delivery.specs.Runs.{End, starts, next, Queued, Allowed, Meet}
use Rattle.spectator_rules.specs.declared.SessionSetup.{SessionSetup}
use Rattle.spectator_rules.specs.declared.SyncedInput.{SyncedInput}
use Rattle.spectator_rules.specs.Watch.{Watch}
use Rattle.spectator_rules.specs.Advance.{requests_of}
use Rattle.spectator_rules.specs.Call.{Call}
use Rattle.spectator_rules.specs.Step.{Did, fresh, host_acts, poll_refusal, step}
use Rattle.spectator_invariant.specs.Typed.{Typed, TypedSession}
use Rattle.spectator_invariant.specs.Handled.{handled_by}

-- ---- the box

-- a frame shown: its number, what an advance handed back of it (one input a player), and the statuses that were copied last before that advance
pub record Shown : Type 0 where
  pub number : ℕ
  pub inputs : List SyncedInput
  pub statuses : List ConnectionStatus

-- its session, and so far: the messages that the session's endpoint queued, the events that it announced, those of them that polls handled, the statuses of it
-- that were copied last, and the frames shown
pub record Box : Type 0 where
  pub watch : Watch
  pub queued : List Wire
  pub announced : List Entry
  pub handled : List Entry
  pub copied : List ConnectionStatus
  pub shown : List Shown

-- a session as `new` makes it has shown nothing, and its statuses are the default ones
abbrev pub opens : SessionSetup → (now : ℕ) → Box
opens g now = record { watch = (fresh g now).1; queued = []; announced = []; handled = []; copied = default_statuses g.num_players; shown = [] }

-- ---- what a call adds, read off the call

-- an advance goes on from the current frame: the first frame that it hands back is the one after it, and so on
unfoldable pub numbered_from : (number : ℕ) → List ConnectionStatus → List (List SyncedInput) → List Shown
numbered_from number statuses [] = []
numbered_from number statuses (l ∷ ls) = record { number = number; inputs = l; statuses = statuses } ∷ numbered_from (suc number) statuses ls

-- what is shown: what an advance that is not refused hands back
abbrev pub shown_by : Call → Box → List Shown
shown_by (Call.synchronize now epoch nonce buffer) x = []
shown_by (Call.message from count m now epoch nonce buffer) x = []
shown_by (Call.datagram from bytes now epoch nonce buffer) x = []
shown_by (Call.poll_remote_clients now epoch nonce buffer) x = []
shown_by Call.advance_frame x =
    pick (eqb (step Call.advance_frame x.watch).answer 0) (numbered_from (suc x.watch.current) x.copied (requests_of x.watch)) []
shown_by (Call.take_messages buffer) x = []
shown_by Call.take_events x = []
shown_by (Call.network_stats epoch) x = []
shown_by Call.frames_behind_host x = []
shown_by Call.current_state x = []
shown_by Call.current_frame x = []
shown_by Call.num_players x = []

-- how many of some events are Inputs: an Input counts as one more
abbrev pub counted : Event → ℕ → ℕ
counted (Event.Synchronizing total count) n = n
counted Event.Synchronized n = n
counted (Event.Input frame player) n = suc n
counted Event.Disconnected n = n
counted (Event.NetworkInterrupted timeout) n = n
counted Event.NetworkResumed n = n

unfoldable pub input_count : List Entry → ℕ
input_count [] = 0
input_count (e ∷ es) = counted e.event (input_count es)

-- a call that handles an Input (a poll) copies the statuses that the session's endpoint has when the call comes; every other call leaves the copy
abbrev pub copied_by : Call → Box → List ConnectionStatus
copied_by c x = pick (eqb (input_count (handled_by c x.watch)) 0) x.copied x.watch.host.statuses

-- what the session's endpoint announces, by the rules of the endpoint alone. A call that is passed on to it is a call of its own. In a poll that is not refused
-- it acts, with the old events aside. The other calls do not reach it
abbrev pub events_by : Call → Watch → List Entry
events_by (Call.synchronize now epoch nonce buffer) w = (endpoint_step (EndpointCall.synchronize now epoch nonce buffer) w.host).events
events_by (Call.message from count m now epoch nonce buffer) w = (endpoint_step (EndpointCall.message from count m now epoch nonce buffer) w.host).events
events_by (Call.datagram from bytes now epoch nonce buffer) w = (endpoint_step (EndpointCall.datagram from bytes now epoch nonce buffer) w.host).events
events_by (Call.poll_remote_clients now epoch nonce buffer) w = pick (eqb (poll_refusal now epoch nonce buffer w) 0) (host_acts now epoch nonce buffer w).events []
events_by Call.advance_frame w = []
events_by (Call.take_messages buffer) w = (endpoint_step (EndpointCall.take_messages buffer) w.host).events
events_by Call.take_events w = []
events_by (Call.network_stats epoch) w = (endpoint_step (EndpointCall.network_stats epoch) w.host).events
events_by Call.frames_behind_host w = []
events_by Call.current_state w = []
events_by Call.current_frame w = []
events_by Call.num_players w = []

-- the box after a call
abbrev pub next_box : Call → Box → Box
next_box c x =
    let d : Did = step c x.watch in
    record {
      watch = d.after;
      queued = x.queued ++ d.out;
      announced = x.announced ++ events_by c x.watch;
      handled = x.handled ++ handled_by c x.watch;
      copied = copied_by c x;
      shown = x.shown ++ shown_by c x;
    }

-- ---- runs

-- any calls on a session from `new` on
pub data Showing : Box → Type 0 where
  begin : (g : SessionSetup) (now : ℕ) → TypedSession g → (fresh g now).0 ≡ 0 → Showing (opens g now)
  more : {x : Box} → Showing x → (c : Call) → Typed c → Showing (next_box c x)

-- the session's endpoint as one of the two ends of `endpoint_delivery`: it accepts nothing for sending, and what polls handle is what is taken from it
abbrev pub end_of : Box → End
end_of x = record { state = x.watch.host; queued = x.queued; taken = x.handled; accepted = [] }

-- what may be handed to a session, as to an endpoint: a message by what the other end queued so far; a datagram by the message that it reads as
abbrev pub AllowedBox : Call → List Wire → Type 0
AllowedBox (Call.synchronize now epoch nonce buffer) l = Unit {0}
AllowedBox (Call.message from count w now epoch nonce buffer) l = Queued w l
AllowedBox (Call.datagram from bytes now epoch nonce buffer) l = number_in (datagram bytes) ≡ 0 → Queued (wire_in (datagram bytes)) l
AllowedBox (Call.poll_remote_clients now epoch nonce buffer) l = Unit {0}
AllowedBox Call.advance_frame l = Unit {0}
AllowedBox (Call.take_messages buffer) l = Unit {0}
AllowedBox Call.take_events l = Unit {0}
AllowedBox (Call.network_stats epoch) l = Unit {0}
AllowedBox Call.frames_behind_host l = Unit {0}
AllowedBox Call.current_state l = Unit {0}
AllowedBox Call.current_frame l = Unit {0}
AllowedBox Call.num_players l = Unit {0}

-- an endpoint that sends (the sending end) and a box that shows, as `new` makes them, each awaiting inputs as wide as the other sends; then any calls on both
pub data Viewing : End → Box → Type 0 where
  begin : (g : Setup) (h : SessionSetup) (now then : ℕ) → TypedSetup g → TypedSession h → (endpoint_fresh g now).0 ≡ 0 → (fresh h then).0 ≡ 0
      → Meet (endpoint_fresh g now).1 (fresh h then).1.host → Viewing (starts (endpoint_fresh g now).1) (opens h then)
  at_end : {a : End} {x : Box} → Viewing a x → (c : EndpointCall) → EndpointTyped c → Allowed c x.queued → Viewing (next c a) x
  at_box : {a : End} {x : Box} → Viewing a x → (c : Call) → Typed c → AllowedBox c a.queued → Viewing a (next_box c x)
