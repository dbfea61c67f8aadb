-- The bytes that a call queues in the lent buffer are those of the messages that it queues by the rules, and cutting them gives these messages back.
use mathlib.Core.List.{List, [], ◌∷◌, map, flatten}
use mathlib.Core.Logic.{◌⊎◌, inl, inr}
use mathlib.Core.Path.{◌≡◌, refl, ◌∙◌, ap}
use native.Mathlib.Omega.{arith}
use Prim.Native.Nat.{ℕ, zero, suc, ◌+◌, ◌-◌, ◌≤◌}
use lib.ListN.{length, take, drop}
use Rattle.base.specs.Lay.{laid_at}
use Rattle.base.proofs.Lay.{laid_part}
use Rattle.codec.specs.Message.{FitAll}
use Rattle.codec.specs.Bytes.{queue_of}
use Rattle.codec.specs.Calls.{cut}
use Rattle.codec.proofs.Queue.{read-queue}
use Rattle.outbox.specs.Outbox.{queue_size}
use Rattle.outbox.proofs.Laws.{queue_size_lem}
use Rattle.endpoint_rules.specs.Seen.{Seen}
use Rattle.endpoint_rules.specs.Did.{Did, refused}
use Rattle.endpoint_rules.specs.Call.{Call}
use Rattle.endpoint_rules.specs.Step.{step, disconnect_step, advantage_step, take_step, stats_step, status_step}
use Rattle.endpoint_rules.proofs.Tested.{tested-both}
use Rattle.endpoint_invariant.specs.Runs.{lent_to, gone}
use Rattle.endpoint_invariant.proofs.Queue.{Queues, Takes, step_queues}
use Rattle.endpoint_invariant.proofs.Sound.{step_fits}
use Rattle.endpoint.specs.declared.Endpoint.{Endpoint}
use Rattle.endpoint.specs.declared.Ended.{Ended}
use Rattle.endpoint.specs.Endpoint.{seen, DidAs}
use Rattle.endpoint_version.specs.Version.{Version, Asked, IsAsked, call_of, endpoint_after, buffer_after, queued_by}
use Rattle.endpoint_version.specs.Meets.{Meets}
use Rattle.endpoint_version.proofs.Asked.{asked_typed}
use Rattle.endpoint_version.proofs.Reached.{Good}
use Rattle.endpoint_plays.specs.Sides.{read_as}

pub none_of_none : (n at : ℕ) → take {A = ℕ} n (drop at []) ≡ []
none_of_none zero at = refl
none_of_none (suc n) zero = refl
none_of_none (suc n) (suc at) = refl

pub no_bytes : (l : List ℕ) → length l ≡ 0 → l ≡ []
no_bytes [] h = refl
no_bytes (x ∷ l) h = absurd (omega arith)

-- what was written behind the bytes queued before
part-written : (before : ℕ) (out bytes : List ℕ) → (length bytes ≡ 0) ⊎ (before + length bytes ≤ length out) → take (length bytes) (drop before (laid_at out before bytes)) ≡ bytes
part-written before out bytes (inl z) = rw (no_bytes bytes z)
part-written before out bytes (inr h) = laid_part out before bytes h

-- the bytes between what was queued before a call and what is queued after it, in the buffer after it, are those of its messages
pub written : (s : Seen) (out : List ℕ) (d : Did) → FitAll d.out → Queues (length out) s d → (n : ℕ) → n ≡ d.after.queued → (out' : List ℕ) → out' ≡ laid_at out s.queued (queue_of d.out)
    → take (n - s.queued) (drop s.queued out') ≡ queue_of d.out
written s out d fit q n after out' laid =
    let long : length (queue_of d.out) ≡ queue_size d.out = queue_size_lem d.out fit in
    let more : n ≡ s.queued + queue_size d.out = after ∙ q.counted in
    let size : n - s.queued ≡ length (queue_of d.out) = omega arith in
    rw (laid, size) (part-written s.queued out (queue_of d.out) (rw (← long) at q.room))

module _ (v : Version) (m : Meets v) (e : Endpoint) (g : Good v m e) where
  -- a call that queues in the buffer that it is lent
  lent_wrote : (c : Asked) → IsAsked c → (out : List ℕ) (r : Ended) (out' : List ℕ) → lent_to (call_of c) 0 ≡ length out → ((n : ℕ) → call_of c ≡ Call.take_messages n → ◌≡◌ {A = ℕ} 0 1) → DidAs e (step (call_of c) (seen e)) out r out'
      → take (r.endpoint.queued - e.queued) (drop e.queued out') ≡ queue_of (step (call_of c) (seen e)).out
  unfolding seen
  lent_wrote c h out r out' l n did = go (step_queues (call_of c) 0 (seen e))
    where
      go : Takes (call_of c) ⊎ (((b : List ℕ) → gone (call_of c) b (seen e) ≡ []) × Queues (lent_to (call_of c) 0) (seen e) (step (call_of c) (seen e)))
          → take (r.endpoint.queued - e.queued) (drop e.queued out') ≡ queue_of (step (call_of c) (seen e)).out
      go (inl t) = let z = n t.0 t.1 in absurd (omega arith)
      go (inr q) =
          written (seen e) out (step (call_of c) (seen e)) (step_fits (call_of c) (asked_typed c h) (seen e) g.sound) (rw l at q.1) r.endpoint.queued (ap (λ (s : Seen). s.queued) did.after) out' did.lent

  -- one that is lent none
  none_wrote : (c : Asked) → buffer_after v e c ≡ [] → (step (call_of c) (seen e)).out ≡ [] → queued_by v e c ≡ queue_of (step (call_of c) (seen e)).out
  unfolding flatten
  none_wrote c b o = rw (b, o) (none_of_none ((endpoint_after v e c).queued - e.queued) e.queued)

  -- what a call queued, as bytes
  pub queued_bytes : (c : Asked) → IsAsked c → queued_by v e c ≡ queue_of (step (call_of c) (seen e)).out
  unfolding step disconnect_step advantage_step take_step stats_step status_step refused
  queued_bytes (Asked.synchronize now epoch nonce out) h = lent_wrote (Asked.synchronize now epoch nonce out) h out _ _ refl (λ n k. cc) (m.synchronize e now epoch nonce out g.value h)
  queued_bytes (Asked.message from x payload now epoch nonce out) h =
      lent_wrote (Asked.message from x payload now epoch nonce out) h out _ _ refl (λ n k. cc) (m.message e from x payload now epoch nonce out g.value h)
  queued_bytes (Asked.datagram from d now epoch nonce out) h = lent_wrote (Asked.datagram from d now epoch nonce out) h out _ _ refl (λ n k. cc) (m.datagram e from d now epoch nonce out g.value h)
  queued_bytes (Asked.act statuses now epoch nonce out) h = lent_wrote (Asked.act statuses now epoch nonce out) h out _ _ refl (λ n k. cc) (m.act e statuses now epoch nonce out g.value h)
  queued_bytes (Asked.send_input frame bytes statuses now out) h =
      lent_wrote (Asked.send_input frame bytes statuses now out) h out _ _ refl (λ n k. cc) (m.send_input e frame bytes statuses now out g.value h)
  queued_bytes (Asked.disconnect now) h = none_wrote (Asked.disconnect now) refl (tested-both _ (seen e) _ (λ d. d.out ≡ []) (λ _. refl) (λ _. refl))
  queued_bytes (Asked.send_checksum_report frame checksum now out) h =
      lent_wrote (Asked.send_checksum_report frame checksum now out) h out _ _ refl (λ n k. cc) (m.send_checksum_report e frame checksum now out g.value h)
  queued_bytes (Asked.update_local_frame_advantage local) h = none_wrote (Asked.update_local_frame_advantage local) refl (tested-both _ (seen e) _ (λ d. d.out ≡ []) (λ _. refl) (λ _. refl))
  queued_bytes (Asked.take_messages out) h = none_wrote (Asked.take_messages out) refl (tested-both _ (seen e) _ (λ d. d.out ≡ []) (λ _. refl) (λ _. refl))
  queued_bytes (Asked.network_stats epoch) h = none_wrote (Asked.network_stats epoch) refl (tested-both _ (seen e) _ (λ d. d.out ≡ []) (λ _. refl) (λ _. refl))
  queued_bytes (Asked.peer_connect_status handle) h = none_wrote (Asked.peer_connect_status handle) refl (tested-both _ (seen e) _ (λ d. d.out ≡ []) (λ _. refl) (λ _. refl))
  queued_bytes (Asked.take_messages_into out into) h = none_wrote (Asked.take_messages_into out into) refl (tested-both _ (seen e) _ (λ d. d.out ≡ []) (λ _. refl) (λ _. refl))

  -- and as messages
  pub queued_messages : (c : Asked) → IsAsked c → map read_as (cut (queued_by v e c)) ≡ (step (call_of c) (seen e)).out
  queued_messages c h = rw (queued_bytes c h) (read-queue (step (call_of c) (seen e)).out (step_fits (call_of c) (asked_typed c h) (seen e) g.sound))
