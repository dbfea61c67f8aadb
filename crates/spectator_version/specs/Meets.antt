-- What the contracts say of a version, on values of the code's types.
use Rattle.std.specs.Prelude.{List, ◌≡◌, ℕ, length, take}
use Rattle.codec.specs.Message.{meant}
use Rattle.codec.specs.declared.Message.{Message}
use Rattle.endpoint_rules.specs.Value.{handed_back}
use Rattle.endpoint_invariant.specs.Typed.{IsU64}
use Rattle.endpoint_version.specs.Values.{IsSlice}
use Rattle.spectator_rules.specs.declared.SessionSetup.{SessionSetup}
use Rattle.spectator_rules.specs.Call.{Call}
use Rattle.spectator_rules.specs.Step.{fresh, step}
use Rattle.spectator_rules.specs.Value.{Value, value_of}
use Rattle.spectator_invariant.specs.Seated.{Seated}
use Rattle.spectator.specs.declared.SpectatorSession.{SpectatorSession}
use Rattle.spectator.specs.declared.Ended.{Ended}
use Rattle.spectator.specs.Session.{seen, DidAs, DoneAs}
use Rattle.spectator.specs.Answers.{MadeAs, TakenAs, TakenIntoAs, polled_part, PolledAs, AdvancedAs, shown, shown_stats, shown_behind}
use Rattle.spectator_version.specs.Values.{IsSessionSetup, IsSession}
use Rattle.spectator_version.specs.Version.{Version, Asked, IsAsked, session_after}

-- a session that a function hands back is a value of its type. The toolchain's types say so of the code; here it is asked for what a run may lead to (`Seated`) alone
pub record GivesValues (v : Version) : Type 0 where
  pub made : (g : SessionSetup) (now : ℕ) → IsSessionSetup g → IsU64 now → (fresh g now).0 ≡ 0 → IsSession (v.new g now).session
  pub called : (s : SpectatorSession) → IsSession s → Seated (seen s) → (c : Asked) → IsAsked c → IsSession (session_after v s c)

-- ---- the public statements: the `ensures` of each function, of its answer and of the buffer after it

abbrev pub AnswersAs : (s : SpectatorSession) → Call → (out : List ℕ) → Ended × List ℕ → Type 0
AnswersAs s c out r = DidAs s (step c (seen s)) out r.0 r.1

pub record Meets (v : Version) : Type 0 where
  pub new : (setup : SessionSetup) (now : ℕ) → IsSessionSetup setup → IsU64 now → MadeAs setup now (v.new setup now)
  pub synchronize : (s : SpectatorSession) (now epoch nonce : ℕ) (out : List ℕ)
      → IsSession s → IsAsked (Asked.synchronize now epoch nonce out) → AnswersAs s (Call.synchronize now epoch nonce (length out)) out (v.synchronize s now epoch nonce out)
  pub message : (s : SpectatorSession) (from : ℕ) (message : Message) (payload : List ℕ) (now epoch nonce : ℕ) (out : List ℕ)
      → IsSession s → IsAsked (Asked.message from message payload now epoch nonce out)
      → AnswersAs s (Call.message from message.reports.count (meant message payload) now epoch nonce (length out)) out (v.message s from message payload now epoch nonce out)
  pub datagram : (s : SpectatorSession) (from : ℕ) (datagram : List ℕ) (now epoch nonce : ℕ) (out : List ℕ)
      → IsSession s → IsAsked (Asked.datagram from datagram now epoch nonce out)
      → AnswersAs s (Call.datagram from datagram now epoch nonce (length out)) out (v.datagram s from datagram now epoch nonce out)
  pub take_messages : (s : SpectatorSession) (out : List ℕ) → IsSession s → IsAsked (Asked.take_messages out)
      → DoneAs s (step (Call.take_messages (length out)) (seen s)) (v.take_messages s out)
  pub messages : (s : SpectatorSession) (out : List ℕ) → IsSession s → IsSlice out → v.messages s out ≡ take (handed_back (length out) (seen s).host) out
  pub take_messages_into : (s : SpectatorSession) (out into : List ℕ) → IsSession s → IsAsked (Asked.take_messages_into out into)
      → TakenIntoAs s out into (v.take_messages_into s out into).0 (v.take_messages_into s out into).1
  pub network_stats : (s : SpectatorSession) (epoch : ℕ) → IsSession s → IsU64 epoch → shown_stats (v.network_stats s epoch) ≡ shown (Call.network_stats epoch) (seen s)
  pub poll_remote_clients : (s : SpectatorSession) (now epoch nonce : ℕ) (out : List ℕ) → IsSession s → IsAsked (Asked.poll_remote_clients now epoch nonce out)
      → PolledAs s (step (Call.poll_remote_clients now epoch nonce (length out)) (seen s)) (polled_part now epoch nonce (length out) (seen s)) out
      (v.poll_remote_clients s now epoch nonce out).0 (v.poll_remote_clients s now epoch nonce out).1
  pub advance_frame : (s : SpectatorSession) → IsSession s → AdvancedAs s (v.advance_frame s)
  pub take_events : (s : SpectatorSession) → IsSession s → TakenAs s (v.take_events s)
  pub frames_behind_host : (s : SpectatorSession) → IsSession s → shown_behind (v.frames_behind_host s) ≡ shown Call.frames_behind_host (seen s)
  pub current_state : (s : SpectatorSession) → IsSession s → Value.state (v.current_state s) ≡ value_of Call.current_state (seen s)
  pub current_frame : (s : SpectatorSession) → IsSession s → Value.frame (v.current_frame s) ≡ value_of Call.current_frame (seen s)
  pub num_players : (s : SpectatorSession) → IsSession s → Value.count (v.num_players s) ≡ value_of Call.num_players (seen s)
  -- and the sessions that it hands back are values
  pub values : GivesValues v

-- the sessions that a version makes, of a setup and a clock that are not refused, and that its own calls bring on
pub data Reached (v : Version) : SpectatorSession → Type 0 where
  made : (g : SessionSetup) (now : ℕ) → IsSessionSetup g → IsU64 now → (fresh g now).0 ≡ 0 → Reached v (v.new g now).session
  called : (s : SpectatorSession) → Reached v s → (c : Asked) → IsAsked c → Reached v (session_after v s c)
