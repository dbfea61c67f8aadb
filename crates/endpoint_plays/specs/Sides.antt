-- An endpoint as its owner knows it: the setup that `new` was given, and what the calls on it handed back so far. Nothing here is computed by `step`.
use Rattle.std.specs.Prelude.{◌&&◌, List, [], ◌∷◌, ◌++◌, map, ℕ, eqb}
use Rattle.base.specs.Pick.{pick}
use Rattle.codec.specs.Message.{Wire}
use Rattle.codec.specs.Read.{datagram, wire_in}
use Rattle.codec.specs.Calls.{cut}
use Rattle.events.specs.Events.{held_events}
use Rattle.events.specs.declared.Entry.{Entry}
use Rattle.setup.specs.declared.Setup.{Setup}
use Rattle.endpoint.specs.declared.Endpoint.{Endpoint}
use Rattle.endpoint.specs.declared.taking.TakenEvents.{TakenEvents}
use Rattle.endpoint.specs.Endpoint.{seen}
use Rattle.endpoint_delivery.specs.Frames.{Frame, Announced, announced_in}
use Rattle.endpoint_delivery.specs.Runs.{End}
use Rattle.endpoint_version.specs.Version.{Version, Asked, number_from, endpoint_after, queued_by}

-- the setup is the one that `new` was given; `queued` are the messages that calls queued, read off the lent buffers; `waiting` are the bytes of those that no call took yet;
-- `taken` are the events handed out; `accepted` are the frames that sends accepted
pub record Side : Type 0 where
  pub setup : Setup
  pub endpoint : Endpoint
  pub queued : List Wire
  pub waiting : List ℕ
  pub taken : List Entry
  pub accepted : List Frame

-- the message that a datagram reads as. Bytes that were queued are cut into datagrams as a loop over `codec::message_end` cuts them (`cut`)
abbrev pub read_as : List ℕ → Wire
read_as d = wire_in (datagram d)

-- ---- what a call adds

-- a send that answers Done while the endpoint says that it is running accepts its frame; elsewhere it does nothing
abbrev pub accepted_from : Version → Endpoint → Asked → List Frame
accepted_from v e (Asked.synchronize now epoch nonce out) = []
accepted_from v e (Asked.message from m payload now epoch nonce out) = []
accepted_from v e (Asked.datagram from d now epoch nonce out) = []
accepted_from v e (Asked.act statuses now epoch nonce out) = []
accepted_from v e (Asked.send_input frame bytes statuses now out) =
    pick (v.is_running e && eqb (number_from v e (Asked.send_input frame bytes statuses now out)) 0) (record { number = frame; bytes = bytes } ∷ []) []
accepted_from v e (Asked.disconnect now) = []
accepted_from v e (Asked.send_checksum_report frame checksum now out) = []
accepted_from v e (Asked.update_local_frame_advantage local) = []
accepted_from v e (Asked.take_messages out) = []
accepted_from v e (Asked.network_stats epoch) = []
accepted_from v e (Asked.peer_connect_status handle) = []
accepted_from v e (Asked.take_messages_into out into) = []

-- the bytes that wait after it: those that it queued come behind them; where messages are taken, none is left
abbrev pub waiting_after : Version → Endpoint → Asked → List ℕ → List ℕ
waiting_after v e (Asked.synchronize now epoch nonce out) l = l ++ queued_by v e (Asked.synchronize now epoch nonce out)
waiting_after v e (Asked.message from m payload now epoch nonce out) l = l ++ queued_by v e (Asked.message from m payload now epoch nonce out)
waiting_after v e (Asked.datagram from d now epoch nonce out) l = l ++ queued_by v e (Asked.datagram from d now epoch nonce out)
waiting_after v e (Asked.act statuses now epoch nonce out) l = l ++ queued_by v e (Asked.act statuses now epoch nonce out)
waiting_after v e (Asked.send_input frame bytes statuses now out) l = l ++ queued_by v e (Asked.send_input frame bytes statuses now out)
waiting_after v e (Asked.disconnect now) l = l
waiting_after v e (Asked.send_checksum_report frame checksum now out) l = l ++ queued_by v e (Asked.send_checksum_report frame checksum now out)
waiting_after v e (Asked.update_local_frame_advantage local) l = l
waiting_after v e (Asked.take_messages out) l = pick (eqb (number_from v e (Asked.take_messages out)) 0) [] l
waiting_after v e (Asked.network_stats epoch) l = l
waiting_after v e (Asked.peer_connect_status handle) l = l
waiting_after v e (Asked.take_messages_into out into) l = pick (eqb (number_from v e (Asked.take_messages_into out into)) 0) [] l

abbrev pub after : Version → Asked → Side → Side
after v c x =
    record {
      setup = x.setup;
      endpoint = endpoint_after v x.endpoint c;
      queued = x.queued ++ map read_as (cut (queued_by v x.endpoint c));
      waiting = waiting_after v x.endpoint c x.waiting;
      taken = x.taken;
      accepted = x.accepted ++ accepted_from v x.endpoint c;
    }

-- the events that are handed out
abbrev pub taking : Version → Side → Side
taking v x =
    let t : TakenEvents = v.take_events x.endpoint in
    record { setup = x.setup; endpoint = t.endpoint; queued = x.queued; waiting = x.waiting; taken = x.taken ++ held_events t.events; accepted = x.accepted }

-- what `new` makes of a setup
abbrev pub starts : Version → Setup → (now : ℕ) → Side
starts v g now = record { setup = g; endpoint = (v.new g now).endpoint; queued = []; waiting = []; taken = []; accepted = [] }

-- ---- what is announced: read off the events, those handed out and those that are still held

abbrev pub events_of : Side → List Entry
events_of x = x.taken ++ held_events x.endpoint.events

abbrev pub announced_by : Side → List Announced
announced_by x = announced_in x.setup.input_size (events_of x)

-- the same as an end of `endpoint_delivery`
abbrev pub shown : Side → End
shown x = record { state = seen x.endpoint; queued = x.queued; taken = x.taken; accepted = x.accepted }
