-- Two fresh endpoints, each awaiting inputs as wide as the other sends, and any calls on them; of Inputs and InputAcks only those are handed over that the
-- other end queued earlier: late, repeated, shuffled or never.
use Rattle.std.specs.Prelude.{Bool, true, false, ◌⊎◌, ◌≡◌, ℕ, suc, ◌+◌, ◌*◌, ◌≤◌, length, take, drop}
use mathlib.Core.List.{List, [], ◌++◌, map, Memᴰ as Mem}
use Rattle.frame.specs.Bias.{bias32, null_frame}
use Rattle.packing.specs.Packing.{frame_count}
use Rattle.packing.specs.declared.input_bytes.InputBytes.{InputBytes}
use Rattle.history.specs.History.{newest_of}
use Rattle.codec.specs.Message.{Wire}
use Rattle.codec.specs.Read.{datagram, number_in, wire_in}
use Rattle.codec.specs.Read.Reading.{got}
use Rattle.codec.specs.declared.MessageBody.{MessageBody}
use Rattle.codec.specs.declared.MessageBody.TheVariants.{SyncRequest, SyncReply, Input, InputAck, QualityReport, QualityReply, ChecksumReport, KeepAlive}
use Rattle.events.specs.declared.Entry.{Entry}
use Rattle.setup.specs.declared.Setup.{Setup}
use Rattle.setup.specs.Setup.{sending_width, receiving_width}
use Rattle.endpoint_rules.specs.Seen.{Seen, is_shutdown}
use Rattle.endpoint_rules.specs.Did.{Did}
use Rattle.endpoint_rules.specs.Call.{Call}
use Rattle.endpoint_rules.specs.Step.{fresh, step}
use Rattle.endpoint_invariant.specs.Each.{Each}
use Rattle.endpoint_invariant.specs.Runs.{handed}
use Rattle.endpoint_invariant.specs.Typed.{Typed, TypedSetup}
use Rattle.endpoint_delivery.specs.Frames.{Frame, accepted_by, Announced, announced_in, last_announced, announced_to, AsWide, Following}

-- ---- one end

-- its state, the messages that it queued, the events that were taken from it and the frames that it accepted so far
pub record End : Type 0 where
  pub state : Seen
  pub queued : List Wire
  pub taken : List Entry
  pub accepted : List Frame

abbrev pub starts : Seen → End
starts s = record { state = s; queued = []; taken = []; accepted = [] }

abbrev pub next : Call → End → End
next c x =
    let d : Did = step c x.state in
    record { state = d.after; queued = x.queued ++ d.out; taken = x.taken ++ handed c x.state; accepted = x.accepted ++ accepted_by c x.state }

-- the frames announced so far: read off the events taken and those still held
abbrev pub announced_by : End → List Announced
announced_by x = announced_in x.state.setup.input_size (x.taken ++ x.state.events)

-- the frames that still pend: accepted, and part of every Input that it queues until the other end acknowledges them. In the store zeros stand behind their bytes
abbrev pub pending_by : End → List Frame
pending_by x = map (λ (y : InputBytes). record { number = y.frame; bytes = take (sending_width x.state.setup) y.bytes }) x.state.carried.sender.pending

-- ---- what may be handed over

-- an Input or an InputAck
abbrev pub carries : MessageBody → Bool
carries (SyncRequest n) = false
carries (SyncReply n) = false
carries (Input d start ack) = true
carries (InputAck ack) = true
carries (QualityReport advantage ping) = false
carries (QualityReply pong) = false
carries (ChecksumReport checksum frame) = false
carries KeepAlive = false

abbrev pub Queued : Wire → List Wire → Type 0
Queued w l = carries w.body ≡ true → Mem w l

-- a message by what the other end queued so far; a datagram by the message that it reads as
abbrev pub Allowed : Call → List Wire → Type 0
Allowed (Call.synchronize now epoch nonce buffer) l = Unit {0}
Allowed (Call.message from count w now epoch nonce buffer) l = Queued w l
Allowed (Call.datagram from bytes now epoch nonce buffer) l = number_in (datagram bytes) ≡ 0 → Queued (wire_in (datagram bytes)) l
Allowed (Call.act count statuses now epoch nonce buffer) l = Unit {0}
Allowed (Call.send_input frame bytes count statuses now buffer) l = Unit {0}
Allowed (Call.disconnect now) l = Unit {0}
Allowed (Call.send_checksum_report frame checksum now buffer) l = Unit {0}
Allowed (Call.update_local_frame_advantage local_frame) l = Unit {0}
Allowed (Call.network_stats epoch) l = Unit {0}
Allowed (Call.peer_connect_status handle) l = Unit {0}
Allowed Call.take_events l = Unit {0}
Allowed (Call.take_messages buffer) l = Unit {0}
Allowed (Call.ask question) l = Unit {0}

-- ---- runs

-- each awaits inputs as wide as the other sends; how many players' they are may differ
pub record Meet (s t : Seen) : Type 0 where
  pub there : sending_width s.setup ≡ receiving_width t.setup
  pub back : sending_width t.setup ≡ receiving_width s.setup

pub data Run : End → End → Type 0 where
  begin : (g h : Setup) (now then : ℕ) → TypedSetup g → TypedSetup h → (fresh g now).0 ≡ 0 → (fresh h then).0 ≡ 0
      → Meet (fresh g now).1 (fresh h then).1 → Run (starts (fresh g now).1) (starts (fresh h then).1)
  at_a : {a b : End} → Run a b → (c : Call) → Typed c → Allowed c b.queued → Run (next c a) b
  at_b : {a b : End} → Run a b → (c : Call) → Typed c → Allowed c a.queued → Run a (next c b)

-- ---- what is to hold

-- an end holds a received frame of a number
abbrev pub Holds : (number : ℕ) → End → Type 0
Holds number x = (y : InputBytes) × Mem y x.state.carried.receiver.history × (y.frame ≡ number)

-- it is to hold it, by what it announced: the frame was announced, or is the blank one, -1; and it is not below the keep line, which lies 2 max_prediction below the
-- last announced (E-29)
abbrev pub IsToHold : (number : ℕ) → End → Type 0
IsToHold number x =
    ((number ≡ null_frame) ⊎ ((y : Announced) × Mem y (announced_by x) × (y.number ≡ number))) × (last_announced null_frame (announced_by x) ≤ number + 2 * x.state.setup.max_prediction)

-- what the one announced is what the other accepted first, announced to all handles; and its newest frame is the last that it announced
pub record InOrder (from to : End) : Type 0 where
  pub first : ℕ
  pub following : Following first from.accepted
  pub wide : Each (AsWide (receiving_width to.state.setup)) from.accepted
  pub count : ℕ
  pub most : count ≤ length from.accepted
  pub announced : announced_by to ≡ map (announced_to to.state.setup.input_size to.state.setup.handles) (take count from.accepted)
  pub newest : newest_of to.state.carried.receiver.history ≡ last_announced null_frame (announced_by to)
  -- nothing that was accepted is lost: the sender has dropped its first frames, only such as were announced, and all others still pend, so that it sends them again
  pub dropped : ℕ
  pub arrived : dropped ≤ count
  pub pending : pending_by from ≡ drop dropped from.accepted
  -- the receiver holds what it is to hold, and nothing else: what was announced tells for which Inputs it is ready
  pub holds : (number : ℕ) → IsToHold number to → Holds number to
  pub only : (number : ℕ) → Holds number to → IsToHold number to

-- an Input is not ignored: not in Shutdown, from the peer, and its magic passes the filter, which 0 leaves off
pub record Heard (peer magic : ℕ) (s : Seen) : Type 0 where
  pub alive : is_shutdown s.phase ≡ false
  pub known : peer ≡ s.setup.peer
  pub passes : (s.sync.remote_magic ≡ 0) ⊎ (magic ≡ s.sync.remote_magic)

-- and not discarded: it starts at no negative frame, and it requests a disconnect or has a status for each player
pub record Heeded (disconnect : Bool) (count start : ℕ) (s : Seen) : Type 0 where
  pub from : bias32 ≤ start
  pub complete : (disconnect ≡ true) ⊎ (count ≡ s.setup.players)

-- a receiver has no frame yet, or it still holds the one before an Input's first; the blank frame -1 is one
abbrev pub Ready : (start : ℕ) → End → Type 0
Ready start x = (announced_by x ≡ []) ⊎ ((y : InputBytes) × Mem y x.state.carried.receiver.history × (suc y.frame ≡ start))

-- a call that hands over an Input from frame `start` on brings the receiver at least to its last frame if it is ready for it; otherwise it announces no frame
pub record Brings (start : ℕ) (payload : List ℕ) (x : End) (c : Call) : Type 0 where
  pub reaches : Ready start x → start + frame_count (receiving_width x.state.setup) (length payload) ≤ suc (last_announced null_frame (announced_by (next c x)))
  pub nothing : ¬ Ready start x → announced_by (next c x) ≡ announced_by x

-- a message is an Input that is neither refused nor ignored nor discarded: by the number that it is answered, and by its peer number and status count
pub record Passing (answer peer count : ℕ) (w : Wire) (s : Seen) : Type 0 where
  pub disconnect : Bool
  pub start : ℕ
  pub ack : ℕ
  pub body : w.body ≡ Input disconnect start ack
  pub done : answer ≡ 0
  pub heard : Heard peer w.magic s
  pub heeded : Heeded disconnect count start s

-- a call hands over such an Input, as a message or as a datagram
abbrev pub HandsInput : Call → Seen → Type 0
HandsInput (Call.synchronize now epoch nonce buffer) s = ⊥
HandsInput (Call.message peer count w now epoch nonce buffer) s = Passing (step (Call.message peer count w now epoch nonce buffer) s).answer peer count w s
HandsInput (Call.datagram peer bytes now epoch nonce buffer) s =
    (w : Wire) × (rest : List ℕ) × (datagram bytes ≡ got w rest) × Passing (step (Call.datagram peer bytes now epoch nonce buffer) s).answer peer (length w.reports) w s
HandsInput (Call.act count statuses now epoch nonce buffer) s = ⊥
HandsInput (Call.send_input frame bytes count statuses now buffer) s = ⊥
HandsInput (Call.disconnect now) s = ⊥
HandsInput (Call.send_checksum_report frame checksum now buffer) s = ⊥
HandsInput (Call.update_local_frame_advantage local_frame) s = ⊥
HandsInput (Call.network_stats epoch) s = ⊥
HandsInput (Call.peer_connect_status handle) s = ⊥
HandsInput Call.take_events s = ⊥
HandsInput (Call.take_messages buffer) s = ⊥
HandsInput (Call.ask question) s = ⊥

-- every Input of the other end's that is neither refused nor ignored nor discarded, as a message and as a datagram
pub record EachBrings (to from : End) : Type 0 where
  pub message : (peer count : ℕ) (w : Wire) (now epoch nonce buffer : ℕ) → Mem w from.queued → (d : Bool) (start ack : ℕ) → w.body ≡ Input d start ack
      → (step (Call.message peer count w now epoch nonce buffer) to.state).answer ≡ 0 → Heard peer w.magic to.state → Heeded d count start to.state
      → Brings start w.payload to (Call.message peer count w now epoch nonce buffer)
  pub bytes : (peer : ℕ) (bytes : List ℕ) (w : Wire) (rest : List ℕ) (now epoch nonce buffer : ℕ) → datagram bytes ≡ got w rest → Mem w from.queued → (d : Bool) (start ack : ℕ)
      → w.body ≡ Input d start ack → (step (Call.datagram peer bytes now epoch nonce buffer) to.state).answer ≡ 0 → Heard peer w.magic to.state
      → Heeded d (length w.reports) start to.state → Brings start w.payload to (Call.datagram peer bytes now epoch nonce buffer)
  -- every other call announces no frame: an Input that is refused, ignored or discarded, whoever queued it, and whatever hands over no Input
  pub silent : (c : Call) → ¬ HandsInput c to.state → announced_by (next c to) ≡ announced_by to
