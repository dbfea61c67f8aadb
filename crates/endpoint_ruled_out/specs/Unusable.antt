-- Versions of the endpoint's public functions that nobody could use (G-10 to G-14). Every kind speaks of values of the code's types alone: of the endpoints that the
-- version's own calls lead to (`Reached`), or of any endpoint that is a value (`IsEndpoint`), and of arguments that are values (`IsAsked`).
use Rattle.std.specs.Prelude.{true, false, List, [], ◌∷◌, ◌++◌, ◌≡◌, ℕ, ◌+◌, ◌-◌, ◌≤◌, ◌<◌, length, drop, Ok}
use Rattle.frame.specs.Bias.{null_frame}
use Rattle.codec.specs.declared.Wide.{Wide}
use Rattle.codec.specs.declared.Message.{Message}
use Rattle.codec.specs.declared.MessageBody.TheVariants.{SyncReply}
use Rattle.pending.specs.Pending.{waiting}
use Rattle.nonces.specs.Nonces.{outstanding, is_outstanding}
use Rattle.events.specs.Events.{held_events}
use Rattle.events.specs.declared.Entry.{Entry}
use Rattle.events.specs.declared.Event.{Event}
use Rattle.quality.specs.declared.NetworkStats.{NetworkStats}
use Rattle.outbox.specs.Outbox.{queue_size}
use Rattle.endpoint_rules.specs.Seen.{is_synchronizing, is_shutdown}
use Rattle.endpoint_rules.specs.Sending.{newest}
use Rattle.endpoint_rules.specs.Call.{Call}
use Rattle.endpoint_rules.specs.Step.{ignored, step}
use Rattle.endpoint_invariant.specs.Each.{Each}
use Rattle.endpoint.specs.declared.Endpoint.{Endpoint}
use Rattle.endpoint.specs.Taken.{count_in as copied_count}
use Rattle.endpoint.specs.Endpoint.{seen}
use Rattle.endpoint_version.specs.Values.{IsSlice, IsEndpoint}
use Rattle.endpoint_version.specs.Version.{Version, Asked, IsAsked, function_of, call_of, number_from, endpoint_after}
use Rattle.endpoint_version.specs.Meets.{Reached}

-- ---- kinds by all endpoints that a version's own calls lead to

-- it refuses everything: no call on an endpoint is done, whatever the numbers, and whether or not `new` says that it made one
abbrev pub RefusesAll : Version → Type 0
RefusesAll v = (e : Endpoint) → Reached v e → (c : Asked) → IsAsked c → number_from v e c ≡ 0 → ⊥

-- its answers are constant: each function has its number (all the same, or each its own), whatever it is called on and with
abbrev pub Constant : (n : ℕ → ℕ) → Version → Type 0
Constant n v = (e : Endpoint) → Reached v e → (c : Asked) → IsAsked c → number_from v e c ≡ n (function_of c)

-- it never changes the state: no call changes what is seen of the endpoint
pub record Untouched (v : Version) : Type 0 where
  pub calls : (e : Endpoint) → Reached v e → (c : Asked) → IsAsked c → seen (endpoint_after v e c) ≡ seen e
  pub takes : (e : Endpoint) → Reached v e → seen (v.take_events e).endpoint ≡ seen e

-- it takes one packet and no more: as soon as a frame was received no message brings a newer one, or no datagram does, whatever else they do
abbrev pub Received : Endpoint → Type 0
Received e = newest (seen e) ≡ null_frame → ⊥

pub data FirstOnly (v : Version) : Type 0 where
  messages : ((e : Endpoint) → Reached v e → Received e → (from : ℕ) (m : Message) (payload : List ℕ) (now epoch nonce : ℕ) (out : List ℕ)
      → IsAsked (Asked.message from m payload now epoch nonce out) → newest (seen (v.message e from m payload now epoch nonce out).0.endpoint) ≡ newest (seen e)) → FirstOnly v
  datagrams : ((e : Endpoint) → Reached v e → Received e → (from : ℕ) (d : List ℕ) (now epoch nonce : ℕ) (out : List ℕ)
      → IsAsked (Asked.datagram from d now epoch nonce out) → newest (seen (v.datagram e from d now epoch nonce out).0.endpoint) ≡ newest (seen e)) → FirstOnly v

-- ---- kinds by a single call

-- the replies still to come
abbrev pub to_come : Endpoint → ℕ
to_come e = e.sync.remaining

-- the endpoint after a message
abbrev pub after_message : Version → Endpoint → (from : ℕ) → Message → (payload : List ℕ) → (now epoch nonce : ℕ) → (out : List ℕ) → Endpoint
after_message v e from m payload now epoch nonce out = (v.message e from m payload now epoch nonce out).0.endpoint

-- the counts that a user reads off events, in their order: total and count of each Synchronizing
abbrev pub count_in : Event → List (ℕ × ℕ)
count_in (Event.Synchronizing total count) = (total, count) ∷ []
count_in Event.Synchronized = []
count_in (Event.Input frame player) = []
count_in Event.Disconnected = []
count_in (Event.NetworkInterrupted timeout) = []
count_in Event.NetworkResumed = []

unfoldable pub counts_in : List Entry → List (ℕ × ℕ)
counts_in [] = []
counts_in (x ∷ l) = count_in x.event ++ counts_in l

-- what a Synchronizing tells with so many replies still to come (E-8): five, and how many of the five have come (0 with more than five to come, which no run leads to)
abbrev pub TellsCount : (left : ℕ) → ℕ × ℕ → Type 0
TellsCount left p = (p.0 ≡ 5) × (p.1 ≡ 5 - left)

-- the events that a call adds: those held after it, behind as many as were held before
abbrev pub added_by : Version → Endpoint → Asked → List Entry
added_by v e c = drop (length (held_events e.events)) (held_events (endpoint_after v e c).events)

-- it invents handshake counts: after a single call the replies still to come are others than the rules count, or events tell another count (G-14)
pub data InventsCounts (v : Version) : Type 0 where
  -- a handshake that begins with another number than five
  begun : (e : Endpoint) → IsEndpoint e → (now epoch nonce : ℕ) (out : List ℕ) → IsAsked (Asked.synchronize now epoch nonce out)
      → number_from v e (Asked.synchronize now epoch nonce out) ≡ 0
      → (to_come (endpoint_after v e (Asked.synchronize now epoch nonce out)) ≡ 5 → ⊥) → InventsCounts v
  -- a reply that counts though its nonce is not outstanding
  unasked : (e : Endpoint) → IsEndpoint e → (from : ℕ) (m : Message) (payload : List ℕ) (now epoch nonce : ℕ) (out : List ℕ)
      → IsAsked (Asked.message from m payload now epoch nonce out) → (reply : ℕ) → m.body ≡ SyncReply reply
      → is_outstanding reply (outstanding e.nonces) ≡ false → (to_come (after_message v e from m payload now epoch nonce out) ≡ to_come e → ⊥) → InventsCounts v
  -- one that does not count though its nonce is outstanding: it comes in Synchronizing, is not ignored and not refused
  uncounted : (e : Endpoint) → IsEndpoint e → (from : ℕ) (m : Message) (payload : List ℕ) (now epoch nonce : ℕ) (out : List ℕ)
      → IsAsked (Asked.message from m payload now epoch nonce out) → (reply : ℕ) → m.body ≡ SyncReply reply
      → is_outstanding reply (outstanding e.nonces) ≡ true → is_synchronizing e.sync.phase ≡ true → ignored from m.magic (seen e) ≡ false
      → number_from v e (Asked.message from m payload now epoch nonce out) ≡ 0 → (to_come (after_message v e from m payload now epoch nonce out) ≡ to_come e - 1 → ⊥)
      → InventsCounts v
  -- a message that counts though it is no reply
  unlike : (e : Endpoint) → IsEndpoint e → (from : ℕ) (m : Message) (payload : List ℕ) (now epoch nonce : ℕ) (out : List ℕ)
      → IsAsked (Asked.message from m payload now epoch nonce out) → ((reply : ℕ) → m.body ≡ SyncReply reply → ⊥)
      → (to_come (after_message v e from m payload now epoch nonce out) ≡ to_come e → ⊥) → InventsCounts v
  -- a datagram after which others are to come than `step` leaves: what it holds counts though it should not, or does not though it should
  misread : (e : Endpoint) → IsEndpoint e → (from : ℕ) (d : List ℕ) (now epoch nonce : ℕ) (out : List ℕ) → IsAsked (Asked.datagram from d now epoch nonce out)
      → (to_come (endpoint_after v e (Asked.datagram from d now epoch nonce out)) ≡ (step (Call.datagram from d now epoch nonce (length out)) (seen e)).after.sync.remaining → ⊥)
      → InventsCounts v
  -- a message or a datagram that counts as another number than one
  miscounted : (e : Endpoint) → IsEndpoint e → (c : Asked) → IsAsked c → 0 < function_of c
      → (to_come (endpoint_after v e c) ≡ to_come e → ⊥) → (to_come (endpoint_after v e c) ≡ to_come e - 1 → ⊥) → InventsCounts v
  -- a call that counts though it is none of a handshake, or is refused
  idle : (e : Endpoint) → IsEndpoint e → (c : Asked) → IsAsked c → 2 < function_of c → (to_come (endpoint_after v e c) ≡ to_come e → ⊥) → InventsCounts v
  refused : (e : Endpoint) → IsEndpoint e → (c : Asked) → IsAsked c → (number_from v e c ≡ 0 → ⊥) → (to_come (endpoint_after v e c) ≡ to_come e → ⊥) → InventsCounts v
  taken : (e : Endpoint) → IsEndpoint e → (to_come (v.take_events e).endpoint ≡ to_come e → ⊥) → InventsCounts v
  -- a call that announces a Synchronizing with another total than five, or with another count than that of the replies that have come
  announced : (e : Endpoint) → IsEndpoint e → (c : Asked) → IsAsked c
      → (Each (TellsCount (to_come (endpoint_after v e c))) (counts_in (added_by v e c)) → ⊥) → InventsCounts v
  -- events that tell other counts when they are handed back than they did while they were held
  handed : (e : Endpoint) → IsEndpoint e → (counts_in (held_events (v.take_events e).events) ≡ counts_in (held_events e.events) → ⊥) → InventsCounts v

-- it invents queue lengths: after a single call another number of bytes is queued than the rules count, or a user is shown another number (G-14)
pub data InventsLengths (v : Version) : Type 0 where
  -- a request, and a checksum report, that is done and adds another number than its bytes
  requested : (e : Endpoint) → IsEndpoint e → (now epoch nonce : ℕ) (out : List ℕ) → IsAsked (Asked.synchronize now epoch nonce out)
      → number_from v e (Asked.synchronize now epoch nonce out) ≡ 0
      → ((endpoint_after v e (Asked.synchronize now epoch nonce out)).queued ≡ e.queued + 10 → ⊥) → InventsLengths v
  reported : (e : Endpoint) → IsEndpoint e → (frame : ℕ) (checksum : Wide) (now : ℕ) (out : List ℕ) → IsAsked (Asked.send_checksum_report frame checksum now out)
      → number_from v e (Asked.send_checksum_report frame checksum now out) ≡ 0
      → ((endpoint_after v e (Asked.send_checksum_report frame checksum now out)).queued ≡ e.queued + 26 → ⊥) → InventsLengths v
  -- messages that are taken and stay in the queue
  left : (e : Endpoint) → IsEndpoint e → (out : List ℕ) → IsAsked (Asked.take_messages out) → number_from v e (Asked.take_messages out) ≡ 0
      → ((endpoint_after v e (Asked.take_messages out)).queued ≡ 0 → ⊥) → InventsLengths v
  left_into : (e : Endpoint) → IsEndpoint e → (out into : List ℕ) → IsAsked (Asked.take_messages_into out into) → number_from v e (Asked.take_messages_into out into) ≡ 0
      → ((endpoint_after v e (Asked.take_messages_into out into)).queued ≡ 0 → ⊥) → InventsLengths v
  -- messages that are taken into another buffer with another count than the bytes that were queued; in Shutdown none are handed back (E-67)
  copied : (e : Endpoint) → IsEndpoint e → (out into : List ℕ) → IsAsked (Asked.take_messages_into out into) → number_from v e (Asked.take_messages_into out into) ≡ 0
      → is_shutdown e.sync.phase ≡ false → (copied_count (v.take_messages_into e out into).0.answer ≡ e.queued → ⊥) → InventsLengths v
  -- `messages` that hands back another length than the bytes queued, from a buffer that is long enough for them; in Shutdown none are handed back (E-67)
  handed : (e : Endpoint) → IsEndpoint e → (out : List ℕ) → IsSlice out → is_shutdown e.sync.phase ≡ false → e.queued ≤ length out
      → (length (v.messages e out) ≡ e.queued → ⊥) → InventsLengths v
  -- a call that takes none and adds another number than the bytes of the messages that it queues, by the table of sizes (W-7)
  unsized : (e : Endpoint) → IsEndpoint e → (c : Asked) → IsAsked c → ((buffer : ℕ) → call_of c ≡ Call.take_messages buffer → ⊥)
      → ((endpoint_after v e c).queued ≡ e.queued + queue_size (step (call_of c) (seen e)).out → ⊥) → InventsLengths v
  -- one that is refused, or takes events, and changes the number
  refused : (e : Endpoint) → IsEndpoint e → (c : Asked) → IsAsked c → (number_from v e c ≡ 0 → ⊥) → ((endpoint_after v e c).queued ≡ e.queued → ⊥) → InventsLengths v
  taken : (e : Endpoint) → IsEndpoint e → ((v.take_events e).endpoint.queued ≡ e.queued → ⊥) → InventsLengths v
  -- network_stats that show another length of the send queue than how many inputs are pending (E-62); it is in inputs, not in bytes
  shown : (e : Endpoint) → IsEndpoint e → (epoch : ℕ) → IsAsked (Asked.network_stats epoch) → (stats : NetworkStats) → v.network_stats e epoch ≡ Ok stats
      → (stats.send_queue_len ≡ length (waiting e.pending) → ⊥) → InventsLengths v
