-- Requests and replies, for every number of nonces outstanding: a request that is due goes out (E-46, E-70), no refusal comes from nonces (E-70), and a reply whose
-- nonce is not outstanding, be it forgotten, spent or never issued, is at most heard (E-7, E-71).
use borrow.Author.Tests.{lt-ltb, le-ltb, lt-leb, le-leb, eq-eqb}
use mathlib.Core.Bool.{Bool, true, false, ◌&&◌, and-false}
use mathlib.Core.List.{List, [], ◌∷◌, append-nil}
use mathlib.Core.Path.{◌≡◌, refl, ◌∙◌, ap}
use native.Mathlib.Omega.{arith}
use native.Mathlib.Nat.{add-zero}
use Prim.Native.Nat.{ℕ, ◌+◌, ◌^◌, ◌<◌, ◌≤◌}
use lib.Dec.{ltb}
use lib.ListN.{length}
use Rattle.base.specs.Pick.{pick}
use Rattle.nonces.specs.Nonces.{is_outstanding, issued}
use Rattle.nonces.proofs.Laws.{issued-has}
use Rattle.status.specs.declared.ConnectionStatus.{ConnectionStatus}
use Rattle.codec.specs.Read.{body_only}
use Rattle.codec.specs.declared.MessageBody.TheVariants.{SyncRequest, SyncReply, KeepAlive}
use Rattle.events.specs.Events.{has_room}
use Rattle.outbox.specs.Outbox.{queue_size}
use Rattle.endpoint_rules.specs.declared.Phase.{Phase}
use Rattle.endpoint_rules.specs.declared.Phase.TheVariants.{Synchronizing}
use Rattle.endpoint_rules.specs.Seen.{Seen, is_synchronizing, is_running, with_sync, heard_at}
use Rattle.endpoint_rules.specs.Did.{Did, refused, tested, begin, queue_wire, done}
use Rattle.endpoint_rules.specs.Room.{buffer_full, is_full}
use Rattle.endpoint_rules.specs.Handshake.{plainly, with_nonces, counts, nonce_issued, request, started, synchronized, counted, running, replied, on_sync_reply}
use Rattle.endpoint_rules.specs.Act.{request_due, acted}
use Rattle.endpoint_rules.specs.Step.{changed, synchronize_step, ignored, resumes, heard, on_body, reacted, message_step, act_step}
use Rattle.endpoint_rules.proofs.Tested.{tested-both, tested_answer}
use Rattle.endpoint_rules.proofs.Laws.{heard_quiet, by_hearing}

-- ---- a request that is due

-- of an act that sends the request: nothing else goes out or is announced, the times are noted, and a reply to it would count now
pub record Requests (nonce now : ℕ) (s : Seen) (d : Did) : Type 0 where
  pub answer : d.answer ≡ 0
  pub out : d.out ≡ body_only s.setup.magic (SyncRequest nonce) ∷ []
  pub events : d.events ≡ []
  pub counting : counts nonce d.after ≡ true
  pub nonces : d.after.sync.nonces ≡ issued nonce s.sync.nonces
  pub remaining : d.after.sync.remaining ≡ s.sync.remaining
  pub requested : d.after.clocks.last_sync_request_time ≡ now
  pub sent : d.after.clocks.last_send_time ≡ now
  pub queued : d.after.queued ≡ s.queued + 10

module _ (count : ℕ) (statuses : List ConnectionStatus) (now epoch nonce buffer : ℕ) (s : Seen) where
  request-room : length s.events ≤ 640 → s.queued + 10 ≤ buffer → is_full buffer (request now nonce (begin s)) ≡ false
  unfolding request nonce_issued queue_wire queue_size is_full buffer_full has_room
  request-room held room = rw (add-zero (length s.events), le-leb (length s.events) 640 held, le-ltb buffer (s.queued + 10) room)

  -- `held`: no struct holds more than 640 events, but a `Seen` may, and then every act is refused with 5
  module _ (tn : now < 2 ^ 62) (te : epoch < 2 ^ 62) (listed : count ≡ s.setup.players) (phase : s.phase ≡ Synchronizing) (due : s.clocks.last_sync_request_time + 200 < now)
      (held : length s.events ≤ 640) (room : s.queued + 10 ≤ buffer) where
    acts : acted s.phase now epoch nonce statuses (begin s) ≡ request now nonce (begin s)
    unfolding acted
    acts = ap (λ (p : Phase). acted p now epoch nonce statuses (begin s)) phase ∙ rw (lt-ltb (s.clocks.last_sync_request_time + 200) now due)

    pub act_requests : act_step count statuses now epoch nonce buffer s ≡ done (request now nonce (begin s))
    unfolding act_step tested
    act_requests = rw (lt-leb (2 ^ 62) now tn, lt-leb (2 ^ 62) epoch te, eq-eqb count s.setup.players listed, acts, request-room held room)

    counting : is_synchronizing s.phase && is_outstanding nonce (issued nonce s.sync.nonces) ≡ true
    counting = rw (issued-has nonce s.sync.nonces) (ap (λ (p : Phase). is_synchronizing p && true) phase)

    goes : Requests nonce now s (done (request now nonce (begin s)))
    unfolding done request nonce_issued queue_wire queue_size
    goes = record { answer = refl; out = refl; events = refl; counting = counting; nonces = refl; remaining = refl; requested = refl; sent = refl; queued = refl }

    -- whatever is outstanding, and however much of it
    pub request_goes : Requests nonce now s (act_step count statuses now epoch nonce buffer s)
    request_goes = rw act_requests goes

-- ---- no refusal comes from nonces: with others outstanding in their place the answer is the same

abbrev pub outstanding_as : List ℕ → Seen → Seen
outstanding_as l s = with_sync (with_nonces l s.sync) s

module _ (l : List ℕ) (now epoch nonce buffer : ℕ) (s : Seen) where
  abbrev Other : Seen
  Other = outstanding_as l s

  pub synchronize_answer : (synchronize_step now epoch nonce buffer Other).answer ≡ (synchronize_step now epoch nonce buffer s).answer
  unfolding synchronize_step synchronized started request nonce_issued queue_wire is_full done
  synchronize_answer = tested_answer _ Other s _ _ refl

  -- acting, in Synchronizing
  module _ (count : ℕ) (statuses : List ConnectionStatus) where
    due_room : (due : Bool) → is_full buffer (pick due (request now nonce (begin Other)) (begin Other)) ≡ is_full buffer (pick due (request now nonce (begin s)) (begin s))
    unfolding request nonce_issued queue_wire is_full
    due_room true = refl
    due_room false = refl

    same_room : (p : Phase) → p ≡ Synchronizing → is_full buffer (acted p now epoch nonce statuses (begin Other)) ≡ is_full buffer (acted p now epoch nonce statuses (begin s))
    unfolding acted
    same_room p e = rw e (due_room (request_due now s))

    pub act_answer : s.phase ≡ Synchronizing → (act_step count statuses now epoch nonce buffer Other).answer ≡ (act_step count statuses now epoch nonce buffer s).answer
    unfolding act_step done
    act_answer phase = rw (same_room s.phase phase) (tested_answer _ Other s _ _ refl)

  -- a reply, in Synchronizing, whose nonce is among both or among neither
  module _ (from count magic reply : ℕ) where
    abbrev AnswerTo : Seen → ℕ
    AnswerTo t = (message_step from count (body_only magic (SyncReply reply)) now epoch nonce buffer t).answer

    replied_answer : (counts more : Bool)
        → (reacted buffer Other (replied now nonce magic reply counts more (begin (heard_at now Other)))).answer ≡ (reacted buffer s (replied now nonce magic reply counts more (begin (heard_at now s)))).answer
    unfolding reacted replied request counted running nonce_issued queue_wire is_full done
    replied_answer true true = tested_answer _ Other s _ _ refl
    replied_answer true false = tested_answer _ Other s _ _ refl
    replied_answer false more = tested_answer _ Other s _ _ refl

    reaction_is : (t : Seen) → t.phase ≡ Synchronizing
        → on_sync_reply now nonce magic reply (heard now t) ≡ replied now nonce magic reply (is_outstanding reply t.sync.nonces) (ltb 1 t.sync.remaining) (begin (heard_at now t))
    unfolding on_sync_reply
    reaction_is t phase =
        rw (heard_quiet now t (ap (λ (p : Phase). is_running p && t.flags.disconnect_notify_sent) phase))
        (ap (λ (p : Phase). replied now nonce magic reply (is_synchronizing p && is_outstanding reply t.sync.nonces) (ltb 1 t.sync.remaining) (begin (heard_at now t))) phase)

    pub reply_answer : s.phase ≡ Synchronizing → is_outstanding reply l ≡ is_outstanding reply s.sync.nonces → AnswerTo Other ≡ AnswerTo s
    unfolding message_step on_body ignored
    reply_answer phase same = tested_answer _ Other s _ _ (rw (reaction_is Other phase, reaction_is s phase, same) (replied_answer (is_outstanding reply s.sync.nonces) (ltb 1 s.sync.remaining)))

-- ---- a reply whose nonce is not outstanding

-- nothing of the handshake moves and nothing goes out. Announced is at most that an interruption is over, as with every message that is heard (E-13)
pub record Uncounted (s : Seen) (d : Did) : Type 0 where
  pub sync : d.after.sync ≡ s.sync
  pub phase : d.after.phase ≡ s.phase
  pub out : d.out ≡ []
  pub queued : d.after.queued ≡ s.queued
  pub events : resumes s ≡ false → (d.events ≡ []) × (d.after.events ≡ s.events)

module _ (from count magic reply now epoch nonce buffer : ℕ) (s : Seen) (none : is_outstanding reply s.sync.nonces ≡ false) where
  abbrev Replying : Did
  Replying = message_step from count (body_only magic (SyncReply reply)) now epoch nonce buffer s

  counts_not : counts reply s ≡ false
  counts_not = rw none (and-false (is_synchronizing s.phase))

  only_heard : on_sync_reply now nonce magic reply (heard now s) ≡ plainly (heard now s)
  unfolding on_sync_reply replied
  only_heard = by_hearing now s (λ e. on_sync_reply now nonce magic reply e ≡ plainly e) (λ f events. rw counts_not)

  -- whatever comes of it, refused, ignored or heard, in every phase: it is what would come of a KeepAlive
  pub uncounted_as_keep_alive : Replying ≡ message_step from count (body_only magic KeepAlive) now epoch nonce buffer s
  unfolding message_step on_body
  uncounted_as_keep_alive = rw only_heard

  refused_is : (n : ℕ) → Uncounted s (refused n s)
  unfolding refused
  refused_is n = record { sync = refl; phase = refl; out = refl; queued = refl; events = λ _. (refl, refl) }

  heard_is : Uncounted s (done (heard now s))
  unfolding done queue_size
  heard_is =
      record {
        sync = by_hearing now s (λ e. e.state.sync ≡ s.sync) (λ f events. refl);
        phase = by_hearing now s (λ e. e.state.phase ≡ s.phase) (λ f events. refl);
        out = by_hearing now s (λ e. e.out ≡ []) (λ f events. refl);
        queued = by_hearing now s (λ e. e.state.queued + queue_size e.out ≡ s.queued) (λ f events. omega arith);
        events = λ quiet. rw (heard_quiet now s quiet) (refl, append-nil s.events);
      }

  pub uncounted_leaves : Uncounted s Replying
  unfolding message_step on_body reacted
  uncounted_leaves = rw only_heard (tested-both _ s _ (Uncounted s) refused_is (λ _. tested-both _ s _ (Uncounted s) refused_is (λ _. heard_is)))

  -- where it is not ignored and no interruption was announced: it sets the receive time, and nothing else
  pub uncounted_heard : now < 2 ^ 62 → epoch < 2 ^ 62 → ignored from magic s ≡ false → resumes s ≡ false → length s.events ≤ 640 → Replying ≡ changed (heard_at now s)
  unfolding message_step on_body reacted tested done is_full buffer_full has_room queue_size
  uncounted_heard tn te heeded quiet held =
      rw (lt-leb (2 ^ 62) now tn, lt-leb (2 ^ 62) epoch te, heeded, only_heard, heard_quiet now s quiet, add-zero (length s.events), add-zero s.queued, le-leb (length s.events) 640 held, append-nil)
