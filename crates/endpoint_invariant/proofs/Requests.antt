-- The handshake's steps keep what holds; a request that is due goes out.
use mathlib.Core.Bool.{Bool, true, false}
use mathlib.Core.List.{List}
use mathlib.Core.Path.{◌≡◌, refl}
use Prim.Native.Nat.{ℕ, ◌+◌, ◌^◌, ◌<◌, ◌≤◌}
use lib.Dec.{ltb}
use Rattle.base.proofs.Bools.{both}
use Rattle.status.specs.declared.ConnectionStatus.{ConnectionStatus}
use Rattle.codec.specs.declared.MessageBody.TheVariants.{SyncRequest, SyncReply}
use Rattle.events.specs.declared.Event.TheVariants as Event
use Rattle.endpoint_rules.specs.declared.Phase.TheVariants.{Synchronizing, Running}
use Rattle.endpoint_rules.specs.Seen.{Seen, is_initializing, is_synchronizing, request_at}
use Rattle.endpoint_rules.specs.Did.{Effect, begin, change}
use Rattle.endpoint_rules.specs.Handshake.{nonce_issued, request, started, synchronized, counts, counted, running, replied, on_sync_request, on_sync_reply}
use Rattle.endpoint_rules.specs.Call.{Call}
use Rattle.endpoint_rules.specs.Step.{step}
use Rattle.endpoint_rules.proofs.Requests.{Requests, request_goes}
use Rattle.endpoint_invariant.specs.Sound.{Sound}
use Rattle.endpoint_invariant.proofs.Choices.{never}
use Rattle.endpoint_invariant.proofs.Parts.{sync_part, phase_part, clocks_part, quality_part}
use Rattle.endpoint_invariant.proofs.Fields.{request_clock, started_quality}
use Rattle.endpoint_invariant.proofs.Syncs.{synchronizing_only, started_sync, issued_sync, spent_sync, last_sync}
use Rattle.endpoint_invariant.proofs.Effects.{Good, begun, changed_good, event_good, body_only_good}

module _ (now nonce : ℕ) (small : now < 2 ^ 62) (named : nonce < 2 ^ 32) where
  pub request_good : (e : Effect) → Good e → is_initializing e.state.phase ≡ false → Good (request now nonce e)
  unfolding request nonce_issued
  request_good e g i =
      let s = e.state in
      body_only_good _
      (changed_good e g _
      (sync_part (request_at now s) (clocks_part s g.state _ (request_clock s.clocks g.state.clocks now small)) _
      (issued_sync s.phase s.sync g.state.sync nonce i named)))
      now small (SyncRequest nonce) named

  pub synchronized_good : (epoch : ℕ) (s : Seen) → epoch < 2 ^ 62 → Sound s → is_initializing s.phase ≡ true → Good (synchronized now epoch nonce (begin s))
  unfolding synchronized started
  synchronized_good epoch s late h i =
      request_good (change (started epoch) (begin s))
      (changed_good (begin s) (begun s h) _
      (phase_part _ (quality_part s h _ (started_quality s.quality h.quality epoch late)) Synchronizing _ (started_sync s.phase s.sync h.sync i)
      (λ _. h.notify (rw i))))
      refl

  module _ (magic reply : ℕ) (header : magic < 2 ^ 16) where
    replied_good : (e : Effect) → Good e → (counts_it more : Bool) → counts reply e.state ≡ counts_it → ltb 1 e.state.sync.remaining ≡ more
        → Good (replied now nonce magic reply counts_it more e).effect
    unfolding replied counted running
    replied_good e g false more c m = g
    replied_good e g true true c m =
        let p = (both (is_synchronizing e.state.phase) _ c).0 in
        request_good _
        (event_good _ (changed_good e g _ (sync_part e.state g.state _ (spent_sync e.state.phase e.state.sync g.state.sync reply p m))) _)
        (synchronizing_only e.state.phase p).0
    replied_good e g true false c m =
        let p = (both (is_synchronizing e.state.phase) _ c).0 in
        event_good _
        (changed_good e g _
        (phase_part e.state g.state Running _ (last_sync e.state.phase e.state.sync g.state.sync reply p magic m header) never)) Event.Synchronized

    pub reply_good : (e : Effect) → Good e → Good (on_sync_reply now nonce magic reply e).effect
    unfolding on_sync_reply
    reply_good e g = replied_good e g (counts reply e.state) (ltb 1 e.state.sync.remaining) refl refl

  pub asked_good : (asked : ℕ) → asked < 2 ^ 32 → (e : Effect) → Good e → Good (on_sync_request now asked e).effect
  unfolding on_sync_request
  asked_good asked fits e g = body_only_good e g now small (SyncReply asked) fits

-- of a sound endpoint a request that is due goes out: neither nonces nor events stand in its way
pub sound_request_goes : (count : ℕ) (statuses : List ConnectionStatus) (now epoch nonce buffer : ℕ) (s : Seen) → Sound s → now < 2 ^ 62 → epoch < 2 ^ 62
    → count ≡ s.setup.players → s.phase ≡ Synchronizing → s.clocks.last_sync_request_time + 200 < now → s.queued + 10 ≤ buffer
    → Requests nonce now s (step (Call.act count statuses now epoch nonce buffer) s)
unfolding step
sound_request_goes count statuses now epoch nonce buffer s h tn te listed phase due room = request_goes count statuses now epoch nonce buffer s tn te listed phase due h.events room
