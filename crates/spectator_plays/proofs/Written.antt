-- The bytes that a session's call queues in the lent buffer are those of the messages that it queues by the rules, and cutting them gives these messages back.
use mathlib.Core.Bool.{Bool, true, false}
use mathlib.Core.List.{List, [], ◌++◌, map, flatten}
use mathlib.Core.Logic.{◌⊎◌, inl, inr}
use mathlib.Core.Path.{◌≡◌, refl, ◌∙◌, ap}
use native.Mathlib.Omega.{arith}
use Prim.Native.Nat.{ℕ, ◌+◌, ◌-◌, ◌≤◌}
use lib.Dec.{eqb}
use lib.ListN.{length, take, drop}
use Rattle.base.specs.Pick.{pick}
use Rattle.base.specs.Lay.{laid_at}
use Rattle.codec.specs.Message.{Wire, FitAll, meant}
use Rattle.codec.specs.Bytes.{queue_of}
use Rattle.codec.specs.declared.Message.{Message}
use Rattle.codec.specs.Calls.{cut}
use Rattle.codec.proofs.Queue.{read-queue}
use Rattle.outbox.specs.Outbox.{queue_size}
use Rattle.outbox.proofs.Laws.{queue_size_lem}
use Rattle.endpoint_rules.specs.Seen.{Seen, is_shutdown, with_events}
use Rattle.endpoint_rules.specs.Did.{Did as HostDid, refused as host_refused}
use Rattle.endpoint_rules.specs.Call.{Call as HostCall}
use Rattle.endpoint_rules.specs.Step.{step as host_step, take_step}
use Rattle.endpoint_rules.proofs.Tested.{tested-both}
use Rattle.endpoint_rules.specs.Value.{filled_part}
use Rattle.endpoint_invariant.specs.Typed.{Typed as HostTyped}
use Rattle.endpoint_invariant.specs.Sound.{Sound}
use Rattle.endpoint_invariant.specs.Runs.{lent_to, gone}
use Rattle.endpoint_invariant.proofs.Queue.{Queues, Takes, step_queues}
use Rattle.endpoint_invariant.proofs.Sound.{step_sound, step_fits}
use Rattle.endpoint_plays.specs.Sides.{read_as}
use Rattle.endpoint_plays.proofs.Written.{none_of_none, written}
use Rattle.endpoint_plays.proofs.Queued.{laid_holds}
use Rattle.endpoint.specs.Endpoint.{seen as seen_host}
use Rattle.endpoint.specs.Taken.{count_in, shorter}
use Rattle.spectator_rules.specs.Watch.{Watch}
use Rattle.spectator_rules.specs.Advance.{advance_refusal, advanced}
use Rattle.spectator_rules.specs.Call.{Call}
use Rattle.spectator_rules.specs.Step.{Did, refused, decided, by_host, host_acts, poll_refusal, poll_step, polled, advance_step, changed, step}
use Rattle.spectator_invariant.proofs.Seated.{act_typed}
use Rattle.spectator.specs.declared.SpectatorSession.{SpectatorSession}
use Rattle.spectator.specs.Session.{seen}
use Rattle.spectator.specs.Answers.{polled_part, PolledAs}
use Rattle.spectator_version.specs.Version.{Version, Asked, IsAsked, call_of, buffer_after, filled_after, queued_by}
use Rattle.spectator_version.specs.Meets.{Meets}
use Rattle.spectator_version.proofs.Asked.{asked_typed}
use Rattle.spectator_version.proofs.Reached.{Good}
use Rattle.spectator_plays.proofs.Shutdown.{act_quiet}

-- nothing is queued by a call that is lent no buffer
module _ (v : Version) (m : Meets v) (s : SpectatorSession) (g : Good v m s) where
  abbrev pub host : Seen
  host = (seen s).host

  -- a call that is the endpoint's alone
  pub record ByHost (c : HostCall) (w : Seen) (out : List Wire) : Type 0 where
    pub typed : HostTyped c
    pub other : (n : ℕ) → c ≡ HostCall.take_messages n → ◌≡◌ {A = ℕ} 0 1
    pub same : out ≡ (host_step c w).out

  host_fits : (c : HostCall) (w : Seen) → Sound w → (out : List Wire) → ByHost c w out → FitAll out
  host_fits c w h out b = rw b.same (step_fits c b.typed w h)

  host_written : (c : HostCall) (w : Seen) → Sound w → (out : List ℕ) → lent_to c 0 ≡ length out → (ws : List Wire) → ByHost c w ws → (n : ℕ) → n ≡ (host_step c w).after.queued
      → (out' : List ℕ) → out' ≡ laid_at out w.queued (queue_of ws) → take (n - w.queued) (drop w.queued out') ≡ queue_of ws
  host_written c w h out l ws b n after out' laid = go (step_queues c 0 w)
    where
      go : Takes c ⊎ (((b : List ℕ) → gone c b w ≡ []) × Queues (lent_to c 0) w (host_step c w)) → take (n - w.queued) (drop w.queued out') ≡ queue_of ws
      go (inl t) = let z = b.other t.0 t.1 in absurd (omega arith)
      go (inr q) = rw b.same (written w out (host_step c w) (step_fits c b.typed w h) (rw l at q.1) n after out' (laid ∙ rw b.same))

  -- and a buffer that had what waits at its front has it, with what was queued behind it
  pub host_holds : (c : HostCall) (w : Seen) → Sound w → (out : List ℕ) → lent_to c 0 ≡ length out → (ws : List Wire) → ByHost c w ws → (n : ℕ) → n ≡ (host_step c w).after.queued
      → (out' : List ℕ) → out' ≡ laid_at out w.queued (queue_of ws) → (waiting : List ℕ) → take w.queued out ≡ waiting → take n out' ≡ waiting ++ queue_of ws
  host_holds c w h out l ws b n after out' laid waiting holds = go (step_queues c 0 w)
    where
      size : length (queue_of ws) ≡ queue_size (host_step c w).out
      size = queue_size_lem ws (host_fits c w h ws b) ∙ ap queue_size b.same

      go : Takes c ⊎ (((b : List ℕ) → gone c b w ≡ []) × Queues (lent_to c 0) w (host_step c w)) → take n out' ≡ waiting ++ queue_of ws
      go (inl t) = let z = b.other t.0 t.1 in absurd (omega arith)
      go (inr q) = rw (after ∙ q.1.counted, ← size, laid) (laid_holds w.queued out waiting (queue_of ws) (rw (← size, l) at q.1.room) holds)

  -- the endpoint with its old events aside, as it acts in a poll
  abbrev aside : Seen
  aside = with_events [] host

  aside_sound : Sound aside
  unfolding host_step
  aside_sound = step_sound HostCall.take_events tt host g.seated.host

  module _ (now epoch nonce : ℕ) (out : List ℕ) (i : IsAsked (Asked.poll_remote_clients now epoch nonce out)) where
    abbrev pub acts : HostDid
    acts = host_acts now epoch nonce (length out) (seen s)

    abbrev act_call : HostCall
    act_call = HostCall.act (length (seen s).statuses) (seen s).statuses now epoch nonce (length out)

    act_host : ByHost act_call aside acts.out
    unfolding host_acts host_step
    act_host = record { typed = act_typed (seen s) g.seated now epoch nonce (length out) (i.0, i.1, i.2, i.3.1); other = λ n e. cc; same = refl }

    -- a poll is refused, or its endpoint acts
    abbrev pub Polls : Did → ℕ → Type 0
    Polls d part = ((d.out ≡ []) × (part ≡ 0)) ⊎ ((d.out ≡ acts.out) × (part ≡ filled_part acts.after))

    pub polls : Polls (step (Call.poll_remote_clients now epoch nonce (length out)) (seen s)) (polled_part now epoch nonce (length out) (seen s))
    unfolding step poll_step polled_part decided refused polled
    polls = go (eqb refusal 0) refl
      where
        refusal : ℕ
        refusal = poll_refusal now epoch nonce (length out) (seen s)

        go : (t : Bool) → eqb refusal 0 ≡ t
            → Polls (pick t (polled now epoch nonce (length out) (seen s)) (refused refusal (seen s)))
            (pick (eqb (pick t (polled now epoch nonce (length out) (seen s)) (refused refusal (seen s))).answer 0) (filled_part acts.after) 0)
        go true e = inr (refl, refl)
        go false e = inl (refl, rw e)

    -- what an act queues fits the buffer behind what was queued, or is nothing
    pub act_room : (acts.after.queued ≡ host.queued + length (queue_of acts.out)) × ((length (queue_of acts.out) ≡ 0) ⊎ (host.queued + length (queue_of acts.out) ≤ length out))
    unfolding host_acts host_step
    act_room =
        let size : length (queue_of acts.out) ≡ queue_size acts.out = queue_size_lem acts.out (host_fits act_call aside aside_sound acts.out act_host) in
        let q = step_queues act_call 0 aside in
        go q size
      where
        go : Takes act_call ⊎ (((b : List ℕ) → gone act_call b aside ≡ []) × Queues (lent_to act_call 0) aside acts) → length (queue_of acts.out) ≡ queue_size acts.out
            → (acts.after.queued ≡ host.queued + length (queue_of acts.out)) × ((length (queue_of acts.out) ≡ 0) ⊎ (host.queued + length (queue_of acts.out) ≤ length out))
        go (inl t) size = let k = t.1 in let z : ◌≡◌ {A = ℕ} 0 1 = cc in absurd (omega arith)
        go (inr q) size = (rw size q.1.counted, rw size q.1.room)

    -- what is handed back is all that was queued, but in Shutdown, where the act queued nothing
    poll_written : (n : ℕ) → n ≡ filled_part acts.after → (out' : List ℕ) → out' ≡ laid_at out host.queued (queue_of acts.out)
        → take (n - host.queued) (drop host.queued out') ≡ queue_of acts.out
    unfolding filled_part host_acts host_step flatten
    poll_written n e out' laid = go (is_shutdown acts.after.phase) refl
      where
        go : (t : Bool) → is_shutdown acts.after.phase ≡ t → take (n - host.queued) (drop host.queued out') ≡ queue_of acts.out
        go true h =
            let none : acts.out ≡ [] = act_quiet (length (seen s).statuses) (seen s).statuses now epoch nonce (length out) aside h in
            let none_filled : n ≡ 0 = rw h at e in
            let z : n - host.queued ≡ 0 = omega arith in
            rw (none, z)
        go false h = host_written act_call aside aside_sound out refl acts.out act_host n (rw h at e) out' laid

  -- one that is lent no buffer queues nothing
  none_written : (c : Asked) → buffer_after v s c ≡ [] → (step (call_of c) (seen s)).out ≡ [] → queued_by v s c ≡ queue_of (step (call_of c) (seen s)).out
  unfolding flatten
  none_written c b o = rw (b, o) (none_of_none (filled_after v s c - s.host.queued) s.host.queued)

  advance_quiet : (step Call.advance_frame (seen s)).out ≡ []
  unfolding step advance_step decided refused
  advance_quiet = go (eqb (advance_refusal (seen s)) 0)
    where
      go : (t : Bool) → (pick t (changed (advanced (seen s))) (refused (advance_refusal (seen s)) (seen s))).out ≡ []
      go true = refl
      go false = refl

  take_quiet : (buffer : ℕ) → (host_step (HostCall.take_messages buffer) host).out ≡ []
  unfolding host_step take_step host_refused
  take_quiet buffer = tested-both _ host _ (λ (d : HostDid). d.out ≡ []) (λ _. refl) (λ _. refl)

  -- what a call queued: nothing, or messages of its endpoint that fit
  pub fits_all : (c : Asked) → IsAsked c → FitAll (step (call_of c) (seen s)).out
  unfolding step by_host host_step
  fits_all (Asked.synchronize now epoch nonce out) h = step_fits (HostCall.synchronize now epoch nonce (length out)) (h.0, h.1, h.2, h.3.1) host g.seated.host
  fits_all (Asked.message from x payload now epoch nonce out) h =
      step_fits (HostCall.message from x.reports.count (meant x payload) now epoch nonce (length out)) (asked_typed (Asked.message from x payload now epoch nonce out) h) host g.seated.host
  fits_all (Asked.datagram from d now epoch nonce out) h =
      step_fits (HostCall.datagram from d now epoch nonce (length out)) (asked_typed (Asked.datagram from d now epoch nonce out) h) host g.seated.host
  fits_all (Asked.take_messages out) h = step_fits (HostCall.take_messages (length out)) h.1 host g.seated.host
  fits_all (Asked.take_messages_into out into) h = step_fits (HostCall.take_messages (shorter out into)) (omega arith) host g.seated.host
  fits_all (Asked.poll_remote_clients now epoch nonce out) h =
      elim (polls now epoch nonce out h) [ inl p ↦ rw p.0 tt | inr p ↦ rw p.0 (host_fits (act_call now epoch nonce out h) aside aside_sound _ (act_host now epoch nonce out h)) ]
  fits_all Asked.advance_frame h = rw advance_quiet tt
  fits_all Asked.take_events h = tt

  -- three calls are the endpoint's alone
  pub synchronize_host : (now epoch nonce : ℕ) (out : List ℕ) → IsAsked (Asked.synchronize now epoch nonce out)
      → ByHost (HostCall.synchronize now epoch nonce (length out)) host (step (Call.synchronize now epoch nonce (length out)) (seen s)).out
  unfolding step by_host host_step
  synchronize_host now epoch nonce out h = record { typed = (h.0, h.1, h.2, h.3.1); other = λ n e. cc; same = refl }

  pub message_host : (from : ℕ) (x : Message) (payload : List ℕ) (now epoch nonce : ℕ) (out : List ℕ) → IsAsked (Asked.message from x payload now epoch nonce out)
      → ByHost (HostCall.message from x.reports.count (meant x payload) now epoch nonce (length out)) host (step (call_of (Asked.message from x payload now epoch nonce out)) (seen s)).out
  unfolding step by_host host_step
  message_host from x payload now epoch nonce out h = record { typed = asked_typed (Asked.message from x payload now epoch nonce out) h; other = λ n e. cc; same = refl }

  pub datagram_host : (from : ℕ) (b : List ℕ) (now epoch nonce : ℕ) (out : List ℕ) → IsAsked (Asked.datagram from b now epoch nonce out)
      → ByHost (HostCall.datagram from b now epoch nonce (length out)) host (step (Call.datagram from b now epoch nonce (length out)) (seen s)).out
  unfolding step by_host host_step
  datagram_host from b now epoch nonce out h = record { typed = asked_typed (Asked.datagram from b now epoch nonce out) h; other = λ n e. cc; same = refl }

  -- what a call queued, as bytes
  pub queued_bytes : (c : Asked) → IsAsked c → queued_by v s c ≡ queue_of (step (call_of c) (seen s)).out
  unfolding seen seen_host step by_host host_step flatten
  queued_bytes (Asked.synchronize now epoch nonce out) h =
      let d = m.synchronize s now epoch nonce out g.value h in
      host_written (HostCall.synchronize now epoch nonce (length out)) host g.seated.host out refl _
      (synchronize_host now epoch nonce out h) _ (ap (λ (w : Watch). w.host.queued) d.after) _ d.lent
  queued_bytes (Asked.message from x payload now epoch nonce out) h =
      let d = m.message s from x payload now epoch nonce out g.value h in
      host_written (HostCall.message from x.reports.count (meant x payload) now epoch nonce (length out)) host g.seated.host out refl _
      (message_host from x payload now epoch nonce out h) _ (ap (λ (w : Watch). w.host.queued) d.after) _ d.lent
  queued_bytes (Asked.datagram from b now epoch nonce out) h =
      let d = m.datagram s from b now epoch nonce out g.value h in
      host_written (HostCall.datagram from b now epoch nonce (length out)) host g.seated.host out refl _
      (datagram_host from b now epoch nonce out h) _ (ap (λ (w : Watch). w.host.queued) d.after) _ d.lent
  queued_bytes (Asked.take_messages out) h = none_written (Asked.take_messages out) refl (take_quiet (length out))
  queued_bytes (Asked.take_messages_into out into) h = none_written (Asked.take_messages_into out into) refl (take_quiet (shorter out into))
  queued_bytes (Asked.poll_remote_clients now epoch nonce out) h = go (polls now epoch nonce out h)
    where
      c : Asked
      c = Asked.poll_remote_clients now epoch nonce out

      d : PolledAs s (step (call_of c) (seen s)) (polled_part now epoch nonce (length out) (seen s)) out (v.poll_remote_clients s now epoch nonce out).0 (v.poll_remote_clients s now epoch nonce out).1
      d = m.poll_remote_clients s now epoch nonce out g.value h

      go : Polls now epoch nonce out h (step (call_of c) (seen s)) (polled_part now epoch nonce (length out) (seen s)) → queued_by v s c ≡ queue_of (step (call_of c) (seen s)).out
      go (inl p) = let z : count_in (v.poll_remote_clients s now epoch nonce out).0.answer - s.host.queued ≡ 0 = omega (arith, d.filled ∙ p.1) in rw (p.0, z)
      go (inr p) = rw p.0 (poll_written now epoch nonce out h _ (d.filled ∙ p.1) _ (rw p.0 at d.lent))
  queued_bytes Asked.advance_frame h = none_written Asked.advance_frame refl advance_quiet
  queued_bytes Asked.take_events h = none_written Asked.take_events refl refl

  -- and as messages
  pub queued_messages : (c : Asked) → IsAsked c → map read_as (cut (queued_by v s c)) ≡ (step (call_of c) (seen s)).out
  queued_messages c h = rw (queued_bytes c h) (read-queue (step (call_of c) (seen s)).out (fits_all c h))
