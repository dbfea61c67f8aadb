-- What the calls do to the replies still to come: a reply counts as one or not at all, and nothing else does. What three calls add to the queue, or leave in it.
use mathlib.Core.Bool.{Bool, true, false, and-false}
use mathlib.Core.List.{List}
use mathlib.Core.Logic.{◌⊎◌, inl, inr}
use mathlib.Core.Path.{◌≡◌, refl, ◌∙◌}
use native.Mathlib.Omega.{arith}
use Prim.Native.Nat.{ℕ, ◌+◌, ◌-◌, ◌<◌}
use lib.Dec.{ltb}
use lib.ListN.{length}
use Rattle.base.specs.Pick.{pick}
use Rattle.nonces.specs.Nonces.{is_outstanding}
use Rattle.status.specs.Statuses.{held_statuses}
use Rattle.codec.specs.Message.{Wire}
use Rattle.codec.specs.declared.Wide.{Wide}
use Rattle.codec.specs.declared.MessageBody.TheVariants.{SyncReply}
use Rattle.outbox.specs.Outbox.{queue_size}
use Rattle.endpoint_rules.specs.Seen.{Seen, is_synchronizing, with_queued}
use Rattle.endpoint_rules.specs.Did.{Did, Effect, Verdict, refused, tested, begin, queue_wire, done}
use Rattle.endpoint_rules.specs.Handshake.{nonce_issued, request, started, synchronized, counted, running, replied, on_sync_reply}
use Rattle.endpoint_rules.specs.Handshake as Handshake
use Rattle.endpoint_rules.specs.Checksum.{checksum_sent}
use Rattle.endpoint_rules.specs.Advantage.{local_advantage, advantage_updated, both_known}
use Rattle.endpoint_rules.specs.Call.{Call}
use Rattle.endpoint_rules.specs.Step.{synchronize_step, ignored, heard, on_body, message_step, datagram_step, act_step, send_step, disconnect_step, checksum_step, advantage_step, take_step, stats_step, status_step, step, changed, reacted}
use Rattle.endpoint_rules.proofs.Tested.{tested-both, tested-done, decided-both}
use Rattle.endpoint_rules.proofs.Laws.{message-done, by_hearing}
use Rattle.endpoint_invariant.proofs.Leaves.{Leaves, Reply, Report, counts, report_leaves, acted_leaves, sent_leaves, heard_leaves, body_leaves}
use Rattle.endpoint_version.specs.Version.{Asked, function_of, call_of}

-- no reply is counted
abbrev pub Calm : Seen → Did → Type 0
Calm s d = d.after.sync.remaining ≡ s.sync.remaining

-- one is, or none
abbrev pub CountsOne : Seen → Did → Type 0
CountsOne s d = Calm s d ⊎ (d.after.sync.remaining ≡ s.sync.remaining - 1)

calmly : (ts : List (Bool × Verdict)) (s : Seen) (d : Did) → Calm s d → Calm s (tested ts s d)
unfolding refused
calmly ts s d h = tested-both ts s d (Calm s) (λ _. refl) (λ _. h)

-- ---- calls that are none of a handshake
pub idle_calm : (c : Asked) (s : Seen) → 2 < function_of c → Calm s (step (call_of c) s)
unfolding step act_step send_step checksum_step checksum_sent queue_wire disconnect_step advantage_step advantage_updated local_advantage take_step stats_step status_step done refused
idle_calm (Asked.synchronize now epoch nonce out) s h = absurd (omega arith)
idle_calm (Asked.message from m payload now epoch nonce out) s h = absurd (omega arith)
idle_calm (Asked.datagram from d now epoch nonce out) s h = absurd (omega arith)
idle_calm (Asked.act statuses now epoch nonce out) s h = calmly _ s _ (counts (acted_leaves now s.phase epoch nonce (held_statuses statuses) (begin s)))
idle_calm (Asked.send_input frame bytes statuses now out) s h = calmly _ s _ (counts (sent_leaves now frame bytes (held_statuses statuses) (begin s)))
idle_calm (Asked.disconnect now) s h = calmly _ s _ refl
idle_calm (Asked.send_checksum_report frame checksum now out) s h = calmly _ s _ refl
idle_calm (Asked.update_local_frame_advantage local) s h = calmly _ s _ (go (both_known local s))
  where
    go : (b : Bool) → Calm s (changed (pick b (local_advantage local s) s))
    go true = refl
    go false = refl
idle_calm (Asked.take_messages out) s h = calmly _ s _ refl
idle_calm (Asked.network_stats epoch) s h = calmly _ s _ refl
idle_calm (Asked.peer_connect_status handle) s h = calmly _ s _ refl
idle_calm (Asked.take_messages_into out into) s h = calmly _ s _ refl

-- ---- a message, by what its body does
module _ (now nonce magic reply : ℕ) (e : Effect) where
  replied_one : (more : Bool) → (replied now nonce magic reply true more e).effect.state.sync.remaining ≡ e.state.sync.remaining - 1
  unfolding replied request nonce_issued queue_wire counted running
  replied_one true = refl
  replied_one false = refl

  replied_none : (more : Bool) → (replied now nonce magic reply false more e).effect.state.sync.remaining ≡ e.state.sync.remaining
  unfolding replied
  replied_none more = refl

  reply_counts : ((on_sync_reply now nonce magic reply e).effect.state.sync.remaining ≡ e.state.sync.remaining)
      ⊎ ((on_sync_reply now nonce magic reply e).effect.state.sync.remaining ≡ e.state.sync.remaining - 1)
  unfolding on_sync_reply
  reply_counts = go (Handshake.counts reply e.state) (ltb 1 e.state.sync.remaining)
    where
      go : (c more : Bool) → ((replied now nonce magic reply c more e).effect.state.sync.remaining ≡ e.state.sync.remaining)
          ⊎ ((replied now nonce magic reply c more e).effect.state.sync.remaining ≡ e.state.sync.remaining - 1)
      go true more = inr (replied_one more)
      go false more = inl (replied_none more)

  unasked_calm : is_outstanding reply e.state.sync.nonces ≡ false → (on_sync_reply now nonce magic reply e).effect.state.sync.remaining ≡ e.state.sync.remaining
  unfolding on_sync_reply
  unasked_calm h = rw (h, and-false (is_synchronizing e.state.phase)) (replied_none _)

module _ (s : Seen) where
  module _ (from count : ℕ) (w : Wire) (now epoch nonce buffer : ℕ) where
    abbrev Hears : Effect
    Hears = (on_body w.body count w now epoch nonce (heard now s)).effect

    pub message-counts : CountsOne s (message_step from count w now epoch nonce buffer s)
    unfolding message_step reacted on_body done refused
    message-counts =
        tested-both _ s _ (CountsOne s) (λ _. inl refl) (λ _.
        tested-both _ s _ (CountsOne s) (λ _. inl refl) (λ _. go (body_leaves w.body count w now epoch nonce (heard now s))))
      where
        go : Reply w.body ⊎ (Report w.body ⊎ Leaves (heard now s) Hears) → CountsOne s (done Hears)
        go (inl r) = rw r.1 (simp (counts (heard_leaves now s)) at (reply_counts now nonce w.magic r.0 (heard now s)))
        go (inr (inl r)) = inl (rw r.2 ((report_leaves r.1 r.0 (heard now s)).1 ∙ counts (heard_leaves now s)))
        go (inr (inr l)) = inl (counts (l ∙ heard_leaves now s))

    pub other_message : ((reply : ℕ) → w.body ≡ SyncReply reply → ⊥) → Calm s (message_step from count w now epoch nonce buffer s)
    unfolding message_step reacted on_body done
    other_message h = calmly _ s _ (calmly _ s _ (go (body_leaves w.body count w now epoch nonce (heard now s))))
      where
        go : Reply w.body ⊎ (Report w.body ⊎ Leaves (heard now s) Hears) → Calm s (done Hears)
        go (inl r) = absurd (h r.0 r.1)
        go (inr (inl r)) = rw r.2 ((report_leaves r.1 r.0 (heard now s)).1 ∙ counts (heard_leaves now s))
        go (inr (inr l)) = counts (l ∙ heard_leaves now s)

    pub unasked_reply : (reply : ℕ) → w.body ≡ SyncReply reply → is_outstanding reply s.sync.nonces ≡ false → Calm s (message_step from count w now epoch nonce buffer s)
    unfolding message_step reacted on_body done
    unasked_reply reply b h = calmly _ s _ (calmly _ s _ (rw b (unasked_calm now nonce w.magic reply (heard now s) (heard_nonces ∙ h) ∙ counts (heard_leaves now s))))
      where
        heard_nonces : is_outstanding reply (heard now s).state.sync.nonces ≡ is_outstanding reply s.sync.nonces
        heard_nonces = by_hearing now s (λ e. is_outstanding reply e.state.sync.nonces ≡ is_outstanding reply s.sync.nonces) (λ f events. refl)

    -- a reply that is heeded, in Synchronizing and with its nonce outstanding, counts
    pub asked_reply : (reply : ℕ) → w.body ≡ SyncReply reply → is_synchronizing s.phase ≡ true → is_outstanding reply s.sync.nonces ≡ true → ignored from w.magic s ≡ false
        → (message_step from count w now epoch nonce buffer s).answer ≡ 0 → (message_step from count w now epoch nonce buffer s).after.sync.remaining ≡ s.sync.remaining - 1
    unfolding on_body on_sync_reply done
    asked_reply reply b p o i h =
        let e = message-done from count w now epoch nonce buffer s i h in
        let c : Handshake.counts reply (heard now s).state ≡ true = by_hearing now s (λ e. Handshake.counts reply e.state ≡ true) (λ f events. rw (p, o)) in
        rw (e, b, c) (replied_one now nonce w.magic reply (heard now s) (ltb 1 (heard now s).state.sync.remaining) ∙ rw (counts (heard_leaves now s)))

  -- a datagram does what its message does, or nothing
  pub datagram-counts : (from : ℕ) (bytes : List ℕ) (now epoch nonce buffer : ℕ) → CountsOne s (datagram_step from bytes now epoch nonce buffer s)
  unfolding datagram_step refused
  datagram-counts from bytes now epoch nonce buffer = decided-both _ s _ (CountsOne s) (λ _. inl refl) (λ _. message-counts from _ _ now epoch nonce buffer)

  -- ---- done: a call whose number is 0, and which is never ignored

  -- a handshake begins: five replies are to come, and the ten bytes of a request are queued
  pub begins : (now epoch nonce buffer : ℕ) → (step (Call.synchronize now epoch nonce buffer) s).answer ≡ 0
      → ((step (Call.synchronize now epoch nonce buffer) s).after.sync.remaining ≡ 5) × ((step (Call.synchronize now epoch nonce buffer) s).after.queued ≡ s.queued + 10)
  unfolding step synchronize_step synchronized started request nonce_issued queue_wire done queue_size
  begins now epoch nonce buffer h =
      rw (tested-done _ s (done (synchronized now epoch nonce (begin s))) (omega arith, (omega arith, (omega arith, tt))) h) (refl, refl)

  -- a checksum report queues its 26 bytes
  pub reports : (frame : ℕ) (checksum : Wide) (now buffer : ℕ) → (step (Call.send_checksum_report frame checksum now buffer) s).answer ≡ 0
      → (step (Call.send_checksum_report frame checksum now buffer) s).after.queued ≡ s.queued + 26
  unfolding step checksum_step checksum_sent queue_wire done queue_size
  reports frame checksum now buffer h = rw (tested-done _ s (done (checksum_sent now frame checksum (begin s))) (omega arith, (omega arith, tt)) h) refl

  -- taken messages leave nothing
  pub takes_all : (buffer : ℕ) → (step (Call.take_messages buffer) s).answer ≡ 0 → (step (Call.take_messages buffer) s).after.queued ≡ 0
  unfolding step take_step
  takes_all buffer h = rw (tested-done _ s (changed (with_queued 0 s)) (omega arith, tt) h) refl

-- every call but the one that begins a handshake
pub one_counts : (c : Asked) (s : Seen) → 0 < function_of c → CountsOne s (step (call_of c) s)
unfolding step
one_counts (Asked.synchronize now epoch nonce out) s h = absurd (omega arith)
one_counts (Asked.message from m payload now epoch nonce out) s h = message-counts s from _ _ now epoch nonce (length out)
one_counts (Asked.datagram from d now epoch nonce out) s h = datagram-counts s from d now epoch nonce (length out)
one_counts (Asked.act statuses now epoch nonce out) s h = inl (idle_calm (Asked.act statuses now epoch nonce out) s (omega arith))
one_counts (Asked.send_input frame bytes statuses now out) s h = inl (idle_calm (Asked.send_input frame bytes statuses now out) s (omega arith))
one_counts (Asked.disconnect now) s h = inl (idle_calm (Asked.disconnect now) s (omega arith))
one_counts (Asked.send_checksum_report frame checksum now out) s h = inl (idle_calm (Asked.send_checksum_report frame checksum now out) s (omega arith))
one_counts (Asked.update_local_frame_advantage local) s h = inl (idle_calm (Asked.update_local_frame_advantage local) s (omega arith))
one_counts (Asked.take_messages out) s h = inl (idle_calm (Asked.take_messages out) s (omega arith))
one_counts (Asked.network_stats epoch) s h = inl (idle_calm (Asked.network_stats epoch) s (omega arith))
one_counts (Asked.peer_connect_status handle) s h = inl (idle_calm (Asked.peer_connect_status handle) s (omega arith))
one_counts (Asked.take_messages_into out into) s h = inl (idle_calm (Asked.take_messages_into out into) s (omega arith))
