-- What the contracts say of a version, on values of the code's types, and the endpoints that its own calls lead to.
use Rattle.std.specs.Prelude.{List, ◌≡◌, ℕ, length, take}
use Rattle.codec.specs.Message.{meant}
use Rattle.codec.specs.declared.Wide.{Wide}
use Rattle.codec.specs.declared.Message.{Message}
use Rattle.status.specs.Statuses.{held_statuses}
use Rattle.status.specs.declared.list.Statuses.{Statuses}
use Rattle.setup.specs.declared.Setup.{Setup}
use Rattle.endpoint_rules.specs.Call.{Call, Question}
use Rattle.endpoint_rules.specs.Step.{fresh, step}
use Rattle.endpoint_rules.specs.Value.{Value, value_of, handed_back}
use Rattle.endpoint_invariant.specs.Typed.{IsU32, IsU64, TypedSetup}
use Rattle.endpoint_invariant.specs.Sound.{Sound}
use Rattle.endpoint.specs.declared.Endpoint.{Endpoint}
use Rattle.endpoint.specs.declared.Ended.{Ended}
use Rattle.endpoint.specs.Endpoint.{seen, DidAs, DoneAs}
use Rattle.endpoint.specs.Made.{MadeAs}
use Rattle.endpoint.specs.Taken.{TakenAs, TakenIntoAs}
use Rattle.endpoint.specs.Shown.{shown, HandlesAs, ChecksumsAs, shown_status, shown_stats}
use Rattle.endpoint_version.specs.Values.{IsSlice, IsEvents, IsEndpoint}
use Rattle.endpoint_version.specs.Version.{Version, Asked, IsAsked, endpoint_after}

-- what a function hands back is a value of its type. The toolchain's types say so of the code; here it is asked for what a run may lead to (`Sound`) alone
pub record GivesValues (v : Version) : Type 0 where
  pub made : (g : Setup) (now : ℕ) → TypedSetup g → IsU64 now → (fresh g now).0 ≡ 0 → IsEndpoint (v.new g now).endpoint
  pub called : (e : Endpoint) → IsEndpoint e → Sound (seen e) → (c : Asked) → IsAsked c → IsEndpoint (endpoint_after v e c)
  pub taken : (e : Endpoint) → IsEndpoint e → Sound (seen e) → IsEndpoint (v.take_events e).endpoint × IsEvents (v.take_events e).events

-- ---- the public statements: the `ensures` of each function, of its answer and of the buffer after it

abbrev pub AnswersAs : (e : Endpoint) → Call → (out : List ℕ) → Ended × List ℕ → Type 0
AnswersAs e c out r = DidAs e (step c (seen e)) out r.0 r.1

pub record Meets (v : Version) : Type 0 where
  pub new : (setup : Setup) (now : ℕ) → TypedSetup setup → IsU64 now → MadeAs setup now (v.new setup now)
  pub synchronize : (e : Endpoint) (now epoch nonce : ℕ) (out : List ℕ)
      → IsEndpoint e → IsAsked (Asked.synchronize now epoch nonce out) → AnswersAs e (Call.synchronize now epoch nonce (length out)) out (v.synchronize e now epoch nonce out)
  pub message : (e : Endpoint) (from : ℕ) (message : Message) (payload : List ℕ) (now epoch nonce : ℕ) (out : List ℕ)
      → IsEndpoint e → IsAsked (Asked.message from message payload now epoch nonce out) → AnswersAs e (Call.message from message.reports.count (meant message payload) now epoch nonce (length out)) out
      (v.message e from message payload now epoch nonce out)
  pub datagram : (e : Endpoint) (from : ℕ) (datagram : List ℕ) (now epoch nonce : ℕ) (out : List ℕ)
      → IsEndpoint e → IsAsked (Asked.datagram from datagram now epoch nonce out) → AnswersAs e (Call.datagram from datagram now epoch nonce (length out)) out (v.datagram e from datagram now epoch nonce out)
  pub act : (e : Endpoint) (statuses : Statuses) (now epoch nonce : ℕ) (out : List ℕ)
      → IsEndpoint e → IsAsked (Asked.act statuses now epoch nonce out) → AnswersAs e (Call.act statuses.count (held_statuses statuses) now epoch nonce (length out)) out (v.act e statuses now epoch nonce out)
  pub send_input : (e : Endpoint) (frame : ℕ) (bytes : List ℕ) (statuses : Statuses) (now : ℕ) (out : List ℕ)
      → IsEndpoint e → IsAsked (Asked.send_input frame bytes statuses now out) → AnswersAs e (Call.send_input frame bytes statuses.count (held_statuses statuses) now (length out)) out (v.send_input e frame bytes statuses now out)
  pub disconnect : (e : Endpoint) (now : ℕ) → IsEndpoint e → IsAsked (Asked.disconnect now)
      → DoneAs e (step (Call.disconnect now) (seen e)) (v.disconnect e now)
  pub send_checksum_report : (e : Endpoint) (frame : ℕ) (checksum : Wide) (now : ℕ) (out : List ℕ)
      → IsEndpoint e → IsAsked (Asked.send_checksum_report frame checksum now out) → AnswersAs e (Call.send_checksum_report frame checksum now (length out)) out (v.send_checksum_report e frame checksum now out)
  pub update_local_frame_advantage : (e : Endpoint) (local_frame : ℕ)
      → IsEndpoint e → IsAsked (Asked.update_local_frame_advantage local_frame) → DoneAs e (step (Call.update_local_frame_advantage local_frame) (seen e)) (v.update_local_frame_advantage e local_frame)
  pub take_events : (e : Endpoint) → IsEndpoint e → TakenAs e (v.take_events e)
  pub take_messages : (e : Endpoint) (out : List ℕ) → IsEndpoint e → IsAsked (Asked.take_messages out)
      → DoneAs e (step (Call.take_messages (length out)) (seen e)) (v.take_messages e out)
  pub messages : (e : Endpoint) (out : List ℕ) → IsEndpoint e → IsSlice out → v.messages e out ≡ take (handed_back (length out) (seen e)) out
  pub take_messages_into : (e : Endpoint) (out into : List ℕ) → IsEndpoint e → IsAsked (Asked.take_messages_into out into)
      → TakenIntoAs e out into (v.take_messages_into e out into).0 (v.take_messages_into e out into).1
  pub network_stats : (e : Endpoint) (epoch : ℕ) → IsEndpoint e → IsAsked (Asked.network_stats epoch)
      → shown_stats (v.network_stats e epoch) ≡ shown (Call.network_stats epoch) (seen e)
  pub peer_connect_status : (e : Endpoint) (handle : ℕ) → IsEndpoint e → IsAsked (Asked.peer_connect_status handle)
      → shown_status (v.peer_connect_status e handle) ≡ shown (Call.peer_connect_status handle) (seen e)
  pub handles : (e : Endpoint) → IsEndpoint e → HandlesAs (seen e) (v.handles e)
  pub is_synchronized : (e : Endpoint) → IsEndpoint e → Value.flag (v.is_synchronized e) ≡ value_of (Call.ask Question.is_synchronized) (seen e)
  pub is_running : (e : Endpoint) → IsEndpoint e → Value.flag (v.is_running e) ≡ value_of (Call.ask Question.is_running) (seen e)
  pub is_handling_message : (e : Endpoint) (from : ℕ) → IsEndpoint e → IsU32 from → Value.flag (v.is_handling_message e from) ≡ value_of (Call.ask (Question.is_handling_message from)) (seen e)
  pub last_recv_frame : (e : Endpoint) → IsEndpoint e → Value.frame (v.last_recv_frame e) ≡ value_of (Call.ask Question.newest_frame) (seen e)
  pub state : (e : Endpoint) → IsEndpoint e → Value.phase (v.state e) ≡ value_of (Call.ask Question.state) (seen e)
  pub checksums : (e : Endpoint) → IsEndpoint e → ChecksumsAs (seen e) (v.checksums e)
  -- and its answers are values
  pub values : GivesValues v

-- the endpoints that a version makes, of a setup and a clock that are not refused, and that its own calls bring on
pub data Reached (v : Version) : Endpoint → Type 0 where
  made : (g : Setup) (now : ℕ) → TypedSetup g → IsU64 now → (fresh g now).0 ≡ 0 → Reached v (v.new g now).endpoint
  called : (e : Endpoint) → Reached v e → (c : Asked) → IsAsked c → Reached v (endpoint_after v e c)
  taken : (e : Endpoint) → Reached v e → Reached v (v.take_events e).endpoint
