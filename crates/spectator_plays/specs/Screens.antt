-- A session as its owner knows it: the setup that `new` was given, and what the calls on it handed back so far. Nothing here is computed by `step`.
use Rattle.std.specs.Prelude.{List, [], ◌++◌, map, ℕ, suc, eqb}
use Rattle.base.specs.Pick.{pick}
use Rattle.answer.specs.Number.{number_of}
use Rattle.status.specs.Statuses.{held_statuses}
use Rattle.codec.specs.Message.{Wire}
use Rattle.codec.specs.Calls.{cut}
use Rattle.endpoint_plays.specs.Sides.{read_as}
use Rattle.spectator_rules.specs.declared.SessionSetup.{SessionSetup}
use Rattle.spectator_delivery.specs.Viewing.{Shown, numbered_from}
use Rattle.spectator.specs.declared.SpectatorSession.{SpectatorSession}
use Rattle.endpoint.specs.Taken.{answer_in}
use Rattle.spectator.specs.Answers.{frames_in}
use Rattle.spectator_version.specs.Version.{Version, Asked, session_after, queued_by}

-- `queued` are the messages that calls queued, read off the lent buffers; `waiting` are the bytes of those that wait to be taken; `shown` are the frames that advances handed back, each with its number and with the session's copy of
-- the statuses at that time
pub record Screen : Type 0 where
  pub setup : SessionSetup
  pub session : SpectatorSession
  pub queued : List Wire
  pub waiting : List ℕ
  pub shown : List Shown

-- an advance goes on from the frame that the session says it stands at; a refused one hands no frame back
abbrev pub shown_from : Version → SpectatorSession → Asked → List Shown
shown_from v s (Asked.synchronize now epoch nonce out) = []
shown_from v s (Asked.message from m payload now epoch nonce out) = []
shown_from v s (Asked.datagram from d now epoch nonce out) = []
shown_from v s (Asked.take_messages out) = []
shown_from v s (Asked.take_messages_into out into) = []
shown_from v s (Asked.poll_remote_clients now epoch nonce out) = []
shown_from v s Asked.advance_frame = numbered_from (suc (v.current_frame s)) (held_statuses s.statuses) (frames_in (v.advance_frame s).answer)
shown_from v s Asked.take_events = []

-- the bytes that wait after it: those that it queued come behind them; where messages are taken, and after a poll that is done, which takes them too, none is left
abbrev pub waiting_after : Version → SpectatorSession → Asked → List ℕ → List ℕ
waiting_after v s (Asked.synchronize now epoch nonce out) l = l ++ queued_by v s (Asked.synchronize now epoch nonce out)
waiting_after v s (Asked.message from m payload now epoch nonce out) l = l ++ queued_by v s (Asked.message from m payload now epoch nonce out)
waiting_after v s (Asked.datagram from d now epoch nonce out) l = l ++ queued_by v s (Asked.datagram from d now epoch nonce out)
waiting_after v s (Asked.take_messages out) l = pick (eqb (number_of (v.take_messages s out).answer) 0) [] l
waiting_after v s (Asked.take_messages_into out into) l = pick (eqb (number_of (answer_in (v.take_messages_into s out into).0.answer)) 0) [] l
waiting_after v s (Asked.poll_remote_clients now epoch nonce out) l = pick (eqb (number_of (answer_in (v.poll_remote_clients s now epoch nonce out).0.answer)) 0) [] l
waiting_after v s Asked.advance_frame l = l
waiting_after v s Asked.take_events l = l

abbrev pub after : Version → Asked → Screen → Screen
after v c x =
    record {
      setup = x.setup;
      session = session_after v x.session c;
      queued = x.queued ++ map read_as (cut (queued_by v x.session c));
      waiting = waiting_after v x.session c x.waiting;
      shown = x.shown ++ shown_from v x.session c;
    }

-- what `new` makes of a setup
abbrev pub opens : Version → SessionSetup → (now : ℕ) → Screen
opens v g now = record { setup = g; session = (v.new g now).session; queued = []; waiting = []; shown = [] }
