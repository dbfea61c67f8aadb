-- The bytes that wait at a session are those of messages that it queued. So whatever an owner cuts out of what a poll, or `messages`, hands back may be handed to the other end.
use mathlib.Core.Bool.{Bool, true, false}
use mathlib.Core.List.{List, [], ◌∷◌, ◌++◌, flatten}
use mathlib.Core.Logic.{inl, inr}
use mathlib.Core.Path.{◌≡◌, refl, sym, ◌∙◌, ap}
use borrow.Author.Tests.{eqb-true, eqb-false}
use Prim.Native.Nat.{ℕ}
use lib.Dec.{eqb}
use lib.ListN.{length}
use Rattle.base.specs.Pick.{pick}
use Rattle.base.proofs.Lay.{laid_none}
use Rattle.answer.specs.Number.{number_of}
use Rattle.codec.specs.Message.{FitAll, meant}
use Rattle.codec.specs.Bytes.{queue_of}
use Rattle.endpoint_rules.specs.Seen.{Seen, is_shutdown}
use Rattle.events.specs.declared.Entry.{Entry}
use Rattle.events.specs.declared.Event.{Event}
use Rattle.endpoint_rules.specs.Did.{Did as HostDid, refused as host_refused}
use Rattle.endpoint_rules.specs.Advantage.{both_known, local_advantage, advantage_updated}
use Rattle.endpoint_rules.specs.Call.{Call as HostCall}
use Rattle.endpoint_rules.specs.Step.{step as host_step, advantage_step, take_step}
use Rattle.endpoint_rules.proofs.Tested.{tested-both}
use Rattle.endpoint_invariant.proofs.Choices.{by_pick}
use Rattle.endpoint.specs.Taken.{answer_in, count_in, shorter}
use Rattle.endpoint_plays.proofs.Waiting.{all_taken}
use Rattle.endpoint_rules.specs.Value.{filled_part}
use Rattle.endpoint.specs.Endpoint.{seen as seen_host}
use Rattle.endpoint_plays.proofs.Queued.{OfQueued, of_none, of_more, of_later, laid_holds}
use Rattle.spectator_rules.specs.Call.{Call}
use Rattle.spectator_rules.specs.Watch.{Watch}
use Rattle.spectator_rules.specs.Handling.{announce, input_handled, on_event, handled, handled_all}
use Rattle.spectator_rules.specs.Step.{refused, decided, by_host, host_acts, host_takes, poll_refusal, polled, poll_step, step}
use Rattle.spectator.specs.declared.SpectatorSession.{SpectatorSession}
use Rattle.spectator.specs.Session.{seen}
use Rattle.spectator.specs.Answers.{polled_part, PolledAs}
use Rattle.spectator_version.specs.Version.{Version, Asked, IsAsked, call_of, session_after, queued_by}
use Rattle.spectator_version.specs.Meets.{Meets}
use Rattle.spectator_plays.specs.Screens.{Screen, waiting_after, after}
use Rattle.spectator_plays.specs.Buffers.{Holds, polled_bytes, Lends, lent_after}
use Rattle.spectator_plays.proofs.Written.{host, acts, Polls, polls, act_room, host_holds, synchronize_host, message_host, datagram_host, fits_all, queued_bytes, queued_messages}
use Rattle.spectator_plays.proofs.Behind.{Kept}

-- what waits at a screen are bytes of messages that it queued
abbrev pub Waits : Screen → Type 0
Waits x = OfQueued x.waiting x.queued

-- events that are handled leave the count of what is queued
update_counts : (frame : ℕ) (w : Seen) → (advantage_step frame w).after.queued ≡ w.queued
unfolding advantage_step host_refused advantage_updated local_advantage
update_counts frame w = tested-both _ w _ (λ (d : HostDid). d.after.queued ≡ w.queued) (λ _. refl) (λ _. by_pick (λ (r : Seen). r.queued ≡ w.queued) (both_known frame w) _ _ (λ _. refl) (λ _. refl))

handled-counts : (e : Event) (input : List ℕ) (w : Watch) → (on_event e input w).host.queued ≡ w.host.queued
unfolding announce input_handled
handled-counts (Event.Synchronizing total count) input w = refl
handled-counts Event.Synchronized input w = refl
handled-counts (Event.Input frame player) input w = update_counts frame w.host
handled-counts Event.Disconnected input w = refl
handled-counts (Event.NetworkInterrupted timeout) input w = refl
handled-counts Event.NetworkResumed input w = refl

all_counts : (l : List Entry) (w : Watch) → (handled_all l w).host.queued ≡ w.host.queued
unfolding handled_all handled
all_counts [] w = refl
all_counts (e ∷ l) w = all_counts l (handled e w) ∙ handled-counts e.event e.input w

-- a poll that is done leaves nothing queued
polled-counts : (now epoch nonce buffer : ℕ) (w : Watch) → (step (Call.poll_remote_clients now epoch nonce buffer) w).answer ≡ 0 → (step (Call.poll_remote_clients now epoch nonce buffer) w).after.host.queued ≡ 0
unfolding step poll_step decided refused polled poll_refusal host_takes host_step
polled-counts now epoch nonce buffer w z = go (eqb refusal 0) refl z
  where
    d : HostDid
    d = host_acts now epoch nonce buffer w

    refusal : ℕ
    refusal = pick (eqb d.answer 0) (take_step buffer d.after).answer d.answer

    go : (t : Bool) → eqb refusal 0 ≡ t → (pick t (polled now epoch nonce buffer w) (refused refusal w)).answer ≡ 0 → (pick t (polled now epoch nonce buffer w) (refused refusal w)).after.host.queued ≡ 0
    go true e q = all_counts _ _ ∙ all_taken buffer d.after (taken (eqb d.answer 0) refl (eqb-true refusal 0 e))
      where
        taken : (b : Bool) → eqb d.answer 0 ≡ b → pick b (take_step buffer d.after).answer d.answer ≡ 0 → (take_step buffer d.after).answer ≡ 0
        taken true h r = r
        taken false h r = absurd (eqb-false d.answer 0 h r)
    go false e q = absurd (eqb-false refusal 0 e q)

module _ (u : Version) (m : Meets u) (x : Screen) (k : Kept u m x) where
  abbrev s : SpectatorSession
  s = x.session

  -- the bytes of what a call queued wait too
  waits_more : (c : Asked) → IsAsked c → waiting_after u s c x.waiting ≡ x.waiting ++ queued_by u s c → Waits x → Waits (after u c x)
  waits_more c i a w =
      rw (a, queued_messages u m s k.good c i, queued_bytes u m s k.good c i) (of_more x.waiting x.queued (step (call_of c) (seen s)).out (fits_all u m s k.good c i) w)

  -- or nothing waits any more, or what waited
  waits_part : (c : Asked) (t : Bool) → waiting_after u s c x.waiting ≡ pick t [] x.waiting → Waits x → Waits (after u c x)
  waits_part c true a w = rw a (of_none (after u c x).queued)
  waits_part c false a w = rw a (of_later x.waiting x.queued _ w)

  pub after_waits : (c : Asked) → IsAsked c → Waits x → Waits (after u c x)
  after_waits (Asked.synchronize now epoch nonce out) i w = waits_more (Asked.synchronize now epoch nonce out) i refl w
  after_waits (Asked.message from y payload now epoch nonce out) i w = waits_more (Asked.message from y payload now epoch nonce out) i refl w
  after_waits (Asked.datagram from d now epoch nonce out) i w = waits_more (Asked.datagram from d now epoch nonce out) i refl w
  after_waits (Asked.take_messages out) i w = waits_part (Asked.take_messages out) (eqb (number_of (u.take_messages s out).answer) 0) refl w
  after_waits (Asked.take_messages_into out into) i w = waits_part (Asked.take_messages_into out into) (eqb (number_of (answer_in (u.take_messages_into s out into).0.answer)) 0) refl w
  after_waits (Asked.poll_remote_clients now epoch nonce out) i w =
      waits_part (Asked.poll_remote_clients now epoch nonce out) (eqb (number_of (answer_in (u.poll_remote_clients s now epoch nonce out).0.answer)) 0) refl w
  after_waits Asked.advance_frame i w = waits_part Asked.advance_frame false refl w
  after_waits Asked.take_events i w = waits_part Asked.take_events false refl w

  -- ---- what is handed back

  -- of a buffer that still has what waits, a poll hands back that and what it queued behind it, or nothing
  pub polled_waits : (now epoch nonce : ℕ) (out : List ℕ) → IsAsked (Asked.poll_remote_clients now epoch nonce out) → Holds out x → Waits x
      → OfQueued (polled_bytes u s now epoch nonce out) (after u (Asked.poll_remote_clients now epoch nonce out) x).queued
  unfolding seen seen_host filled_part
  polled_waits now epoch nonce out i h w = go (polls u m s k.good now epoch nonce out i)
    where
      c : Asked
      c = Asked.poll_remote_clients now epoch nonce out

      acted : HostDid
      acted = acts u m s k.good now epoch nonce out i

      d : PolledAs s (step (call_of c) (seen s)) (polled_part now epoch nonce (length out) (seen s)) out (u.poll_remote_clients s now epoch nonce out).0 (u.poll_remote_clients s now epoch nonce out).1
      d = m.poll_remote_clients s now epoch nonce out k.good.value i

      none : count_in (u.poll_remote_clients s now epoch nonce out).0.answer ≡ 0 → OfQueued (polled_bytes u s now epoch nonce out) (after u c x).queued
      none z = rw z (of_none _)

      some : (step (call_of c) (seen s)).out ≡ acted.out → count_in (u.poll_remote_clients s now epoch nonce out).0.answer ≡ acted.after.queued
          → OfQueued (polled_bytes u s now epoch nonce out) (after u c x).queued
      some o f =
          let room = act_room u m s k.good now epoch nonce out i in
          let fit : FitAll acted.out = rw o at (fits_all u m s k.good c i) in
          let all : polled_bytes u s now epoch nonce out ≡ x.waiting ++ queue_of acted.out =
          rw (f, room.0, d.lent, o) (laid_holds s.host.queued out x.waiting (queue_of acted.out) room.1 h) in
          rw (all, queued_messages u m s k.good c i, o) (of_more x.waiting x.queued acted.out fit w)

      go : Polls u m s k.good now epoch nonce out i (step (call_of c) (seen s)) (polled_part now epoch nonce (length out) (seen s)) → OfQueued (polled_bytes u s now epoch nonce out) (after u c x).queued
      go (inl p) = none (d.filled ∙ p.1)
      go (inr p) = by (is_shutdown acted.after.phase) refl
        where
          by : (t : Bool) → is_shutdown acted.after.phase ≡ t → OfQueued (polled_bytes u s now epoch nonce out) (after u c x).queued
          by true e = none (rw e at (d.filled ∙ p.1))
          by false e = some p.0 (rw e at (d.filled ∙ p.1))

  -- ---- one buffer, lent to every call

  -- a refused poll leaves the buffer
  poll_refused : (now epoch nonce : ℕ) (out : List ℕ) (i : IsAsked (Asked.poll_remote_clients now epoch nonce out)) → ((step (Call.poll_remote_clients now epoch nonce (length out)) (seen s)).answer ≡ 0 → ⊥)
      → (u.poll_remote_clients s now epoch nonce out).1 ≡ out
  unfolding flatten step poll_step decided refused polled
  poll_refused now epoch nonce out i z =
      let d = m.poll_remote_clients s now epoch nonce out k.good.value i in
      let none : (step (Call.poll_remote_clients now epoch nonce (length out)) (seen s)).out ≡ [] = go (eqb (poll_refusal now epoch nonce (length out) (seen s)) 0) z in
      d.lent ∙ rw (none, laid_none)
    where
      go : (t : Bool) → ((pick t (polled now epoch nonce (length out) (seen s)) (refused (poll_refusal now epoch nonce (length out) (seen s)) (seen s))).answer ≡ 0 → ⊥)
          → (pick t (polled now epoch nonce (length out) (seen s)) (refused (poll_refusal now epoch nonce (length out) (seen s)) (seen s))).out ≡ []
      go true n = absurd (n refl)
      go false n = refl

  -- nothing is queued any more, or the session is the very same
  part_holds : (c : Asked) (n : ℕ) (buffer kept : List ℕ) → waiting_after u s c x.waiting ≡ pick (eqb n 0) [] x.waiting → (n ≡ 0 → (session_after u s c).host.queued ≡ 0)
      → ((n ≡ 0 → ⊥) → ((session_after u s c).host.queued ≡ s.host.queued) × (kept ≡ buffer)) → Holds buffer x → Holds kept (after u c x)
  part_holds c n buffer kept a none same h = go (eqb n 0) refl
    where
      go : (t : Bool) → eqb n 0 ≡ t → Holds kept (after u c x)
      go true e = rw (none (eqb-true n 0 e), a, e)
      go false e = let q = same (eqb-false n 0 e) in rw (q.0, q.1, a, e) h

  -- a buffer that is lent to every call has what waits at its front, after each of them
  pub holds_after : (c : Asked) → IsAsked c → (buffer : List ℕ) → Lends buffer c → Holds buffer x → Holds (lent_after u s c buffer) (after u c x)
  unfolding seen seen_host step by_host host_step
  holds_after (Asked.synchronize now epoch nonce out) i buffer l h =
      let d = m.synchronize s now epoch nonce out k.good.value i in
      rw (queued_bytes u m s k.good (Asked.synchronize now epoch nonce out) i)
      (host_holds u m s k.good (HostCall.synchronize now epoch nonce (length out)) (host u m s k.good) k.good.seated.host out refl _ (synchronize_host u m s k.good now epoch nonce out i) _
      (ap (λ (w : Watch). w.host.queued) d.after) _ d.lent x.waiting (rw (← l) at h))
  holds_after (Asked.message from y payload now epoch nonce out) i buffer l h =
      let d = m.message s from y payload now epoch nonce out k.good.value i in
      rw (queued_bytes u m s k.good (Asked.message from y payload now epoch nonce out) i)
      (host_holds u m s k.good (HostCall.message from y.reports.count (meant y payload) now epoch nonce (length out)) (host u m s k.good) k.good.seated.host out refl _
      (message_host u m s k.good from y payload now epoch nonce out i) _ (ap (λ (w : Watch). w.host.queued) d.after) _ d.lent x.waiting (rw (← l) at h))
  holds_after (Asked.datagram from b now epoch nonce out) i buffer l h =
      let d = m.datagram s from b now epoch nonce out k.good.value i in
      rw (queued_bytes u m s k.good (Asked.datagram from b now epoch nonce out) i)
      (host_holds u m s k.good (HostCall.datagram from b now epoch nonce (length out)) (host u m s k.good) k.good.seated.host out refl _
      (datagram_host u m s k.good from b now epoch nonce out i) _ (ap (λ (w : Watch). w.host.queued) d.after) _ d.lent x.waiting (rw (← l) at h))
  holds_after (Asked.take_messages out) i buffer l h =
      let d = m.take_messages s out k.good.value i in
      part_holds (Asked.take_messages out) _ buffer buffer refl
      (λ z. ap (λ (w : Watch). w.host.queued) d.after ∙ all_taken (length out) (host u m s k.good) (sym d.answer ∙ z))
      (λ z. (ap (λ (r : SpectatorSession). r.host.queued) (d.same (λ q. z (d.answer ∙ q))), refl)) h
  holds_after (Asked.take_messages_into out into) i buffer l h =
      let d = (m.take_messages_into s out into k.good.value i).taken in
      part_holds (Asked.take_messages_into out into) _ buffer buffer refl
      (λ z. ap (λ (w : Watch). w.host.queued) d.after ∙ all_taken (shorter out into) (host u m s k.good) (sym d.answer ∙ z))
      (λ z. (ap (λ (r : SpectatorSession). r.host.queued) (d.same (λ q. z (d.answer ∙ q))), refl)) h
  holds_after (Asked.poll_remote_clients now epoch nonce out) i buffer l h =
      let d = m.poll_remote_clients s now epoch nonce out k.good.value i in
      part_holds (Asked.poll_remote_clients now epoch nonce out) _ buffer _ refl
      (λ z. ap (λ (w : Watch). w.host.queued) d.after ∙ polled-counts now epoch nonce (length out) (seen s) (sym d.answer ∙ z))
      (λ z. (ap (λ (r : SpectatorSession). r.host.queued) (d.same (λ q. z (d.answer ∙ q))), poll_refused now epoch nonce out i (λ q. z (d.answer ∙ q)) ∙ l)) h
  holds_after Asked.advance_frame i buffer l h = rw (ap (λ (r : SpectatorSession). r.host.queued) (m.advance_frame s k.good.value).own) h
  holds_after Asked.take_events i buffer l h = rw (ap (λ (r : SpectatorSession). r.host.queued) (m.take_events s k.good.value).own) h
