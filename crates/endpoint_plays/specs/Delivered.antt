-- Demand 3 in the words of the customer: of the calls, of what they handed back, and of the setups that were given. What no call hands back is read off the
-- endpoint's struct: the events still held, the inputs that pend and those held, and the filter's magic.
use Rattle.std.specs.Prelude.{Bool, true, false, ◌⊎◌, ◌≡◌, ℕ, suc, ◌+◌, ◌*◌, ◌≤◌, length, take, drop}
use mathlib.Core.List.{List, [], map, Memᴰ as Mem}
use Rattle.frame.specs.Bias.{bias32, null_frame}
use Rattle.packing.specs.Packing.{frame_count}
use Rattle.packing.specs.declared.input_bytes.InputBytes.{InputBytes}
use Rattle.pending.specs.Pending.{waiting}
use Rattle.history.specs.History.{received}
use Rattle.codec.specs.Message.{Wire, meant}
use Rattle.codec.specs.Read.{datagram}
use Rattle.codec.specs.Read.Reading.{got}
use Rattle.codec.specs.declared.Message.{Message}
use Rattle.codec.specs.declared.MessageBody.TheVariants.{Input}
use Rattle.setup.specs.declared.Setup.{Setup}
use Rattle.setup.specs.Setup.{Terms, sorted, handle_list, terms_with}
use Rattle.endpoint_rules.specs.Seen.{is_shutdown}
use Rattle.endpoint_invariant.specs.Each.{Each}
use Rattle.endpoint_invariant.specs.Announcement.{Announcement}
use Rattle.endpoint_delivery.specs.Frames.{Frame, Announced, last_announced, announced_to, AsWide, Following}
use Rattle.endpoint_version.specs.Version.{Version, Asked, IsAsked, number_from}
use Rattle.endpoint_plays.specs.Sides.{Side, after, events_of, announced_by}

-- the handles that a setup lists, ascending
abbrev pub handles_of : Setup → List ℕ
handles_of g = sorted (handle_list g.handles)

-- the setup as an endpoint holds it
abbrev pub given_terms : Setup → Terms
given_terms g = terms_with (handles_of g) g

-- the bytes of one frame, for all handles
abbrev pub width_of : Setup → ℕ
width_of g = length (handles_of g) * g.input_size

-- the frames that still pend at an end: accepted, and part of every Input that it queues until the other end acknowledges them. In the store zeros stand behind their bytes
abbrev pub pending_by : Side → List Frame
pending_by x = map (λ (y : InputBytes). record { number = y.frame; bytes = take (x.setup.local_players * x.setup.input_size) y.bytes }) (waiting x.endpoint.pending)

-- an end holds a received frame of a number
abbrev pub HoldsFrame : (number : ℕ) → Side → Type 0
HoldsFrame number x = (y : InputBytes) × Mem y (received x.endpoint.history) × (y.frame ≡ number)

-- it is to hold it, by what it announced: the frame was announced, or is the blank one, -1; and it is not below the keep line, which lies 2 max_prediction below the
-- last announced (E-29)
abbrev pub IsToHold : (number : ℕ) → Side → Type 0
IsToHold number x =
    ((number ≡ null_frame) ⊎ ((y : Announced) × Mem y (announced_by x) × (y.number ≡ number))) × (last_announced null_frame (announced_by x) ≤ number + 2 * x.setup.max_prediction)

-- ---- in order, each once, bytes equal

-- what the one (of version `u`) announced are the first frames that the other accepted; these have numbers one after the other, and are as wide as all handles' inputs here,
-- so that the handles' parts are all of their bytes (law `shares_Whole`)
pub record Delivered (u : Version) (from to : Side) : Type 0 where
  pub first : ℕ
  pub following : Following first from.accepted
  pub wide : Each (AsWide (width_of to.setup)) from.accepted
  pub count : ℕ
  pub most : count ≤ length from.accepted
  pub announced : announced_by to ≡ map (announced_to to.setup.input_size (handles_of to.setup)) (take count from.accepted)
  -- nothing that was accepted is lost: the sender has dropped its first frames, only such as were announced, and all others still pend, so that it sends them again
  pub dropped : ℕ
  pub arrived : dropped ≤ count
  pub pending : pending_by from ≡ drop dropped from.accepted
  -- the receiver holds what it is to hold, and nothing else: what was announced tells for which Inputs it is ready
  pub holds : (number : ℕ) → IsToHold number to → HoldsFrame number to
  pub only : (number : ℕ) → HoldsFrame number to → IsToHold number to
  -- what the receiver says is its newest frame is the last that it announced
  pub newest : u.last_recv_frame to.endpoint ≡ last_announced null_frame (announced_by to)
  -- `announced_by` reads the first bytes of an event, as many as an input has. Behind them are zeros, and beside an event that is no Input nothing but zeros
  pub entries : Each (Announcement (given_terms to.setup)) (events_of to)

-- ---- every Input brings its receiver on

-- an Input is not ignored: the endpoint is not in Shutdown, it comes from the peer of the setup, and its magic passes the filter, which 0 leaves off
pub record Heard (v : Version) (peer magic : ℕ) (x : Side) : Type 0 where
  pub alive : is_shutdown (v.state x.endpoint) ≡ false
  pub known : peer ≡ x.setup.peer_addr
  pub passes : (x.endpoint.sync.remote_magic ≡ 0) ⊎ (magic ≡ x.endpoint.sync.remote_magic)

-- and not discarded: it starts at no negative frame, and it requests a disconnect or has a status for each player
pub record Heeded (disconnect : Bool) (count start : ℕ) (x : Side) : Type 0 where
  pub from : bias32 ≤ start
  pub complete : (disconnect ≡ true) ⊎ (count ≡ x.setup.num_players)

-- a receiver has no frame yet, or it still holds the one before an Input's first; the blank frame -1 is one
abbrev pub Ready : (start : ℕ) → Side → Type 0
Ready start x = (announced_by x ≡ []) ⊎ ((y : InputBytes) × Mem y (received x.endpoint.history) × (suc y.frame ≡ start))

-- a call that hands over an Input from frame `start` on brings the receiver at least to its last frame if it is ready for it; otherwise it announces no frame
pub record Brings (v : Version) (start : ℕ) (payload : List ℕ) (x : Side) (c : Asked) : Type 0 where
  pub reaches : Ready start x → start + frame_count (width_of x.setup) (length payload) ≤ suc (last_announced null_frame (announced_by (after v c x)))
  pub nothing : ¬ Ready start x → announced_by (after v c x) ≡ announced_by x

-- a call on a side hands over an Input that is neither refused nor ignored nor discarded: by the number that it is answered, and by its peer number and status count
pub record Passing (v : Version) (c : Asked) (peer count : ℕ) (w : Wire) (x : Side) : Type 0 where
  pub disconnect : Bool
  pub start : ℕ
  pub ack : ℕ
  pub body : w.body ≡ Input disconnect start ack
  pub done : number_from v x.endpoint c ≡ 0
  pub heard : Heard v peer w.magic x
  pub heeded : Heeded disconnect count start x

-- as a message or as a datagram
abbrev pub HandsInput : Version → Side → Asked → Type 0
HandsInput v x (Asked.synchronize now epoch nonce out) = ⊥
HandsInput v x (Asked.message peer m payload now epoch nonce out) = Passing v (Asked.message peer m payload now epoch nonce out) peer m.reports.count (meant m payload) x
HandsInput v x (Asked.datagram peer bytes now epoch nonce out) =
    (w : Wire) × (rest : List ℕ) × (datagram bytes ≡ got w rest) × Passing v (Asked.datagram peer bytes now epoch nonce out) peer (length w.reports) w x
HandsInput v x (Asked.act statuses now epoch nonce out) = ⊥
HandsInput v x (Asked.send_input frame bytes statuses now out) = ⊥
HandsInput v x (Asked.disconnect now) = ⊥
HandsInput v x (Asked.send_checksum_report frame checksum now out) = ⊥
HandsInput v x (Asked.update_local_frame_advantage local) = ⊥
HandsInput v x (Asked.take_messages out) = ⊥
HandsInput v x (Asked.network_stats epoch) = ⊥
HandsInput v x (Asked.peer_connect_status handle) = ⊥
HandsInput v x (Asked.take_messages_into out into) = ⊥

-- every Input of the other end's that is neither refused nor ignored nor discarded, as a message and as a datagram
pub record EachBrings (v : Version) (to from : Side) : Type 0 where
  pub message : (peer : ℕ) (m : Message) (payload : List ℕ) (now epoch nonce : ℕ) (out : List ℕ) → IsAsked (Asked.message peer m payload now epoch nonce out)
      → Mem (meant m payload) from.queued → (d : Bool) (start ack : ℕ) → m.body ≡ Input d start ack
      → number_from v to.endpoint (Asked.message peer m payload now epoch nonce out) ≡ 0 → Heard v peer m.magic to → Heeded d m.reports.count start to
      → Brings v start payload to (Asked.message peer m payload now epoch nonce out)
  pub bytes : (peer : ℕ) (bytes : List ℕ) (w : Wire) (rest : List ℕ) (now epoch nonce : ℕ) (out : List ℕ) → IsAsked (Asked.datagram peer bytes now epoch nonce out)
      → datagram bytes ≡ got w rest → Mem w from.queued → (d : Bool) (start ack : ℕ) → w.body ≡ Input d start ack
      → number_from v to.endpoint (Asked.datagram peer bytes now epoch nonce out) ≡ 0 → Heard v peer w.magic to → Heeded d (length w.reports) start to
      → Brings v start w.payload to (Asked.datagram peer bytes now epoch nonce out)
  -- every other call announces no frame: an Input that is refused, ignored or discarded, whoever queued it, and whatever hands over no Input
  pub silent : (c : Asked) → IsAsked c → ¬ HandsInput v to c → announced_by (after v c to) ≡ announced_by to
