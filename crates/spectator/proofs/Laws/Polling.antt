-- A poll: what it reads of the host, what is left of it once the host has acted, and the whole.
use borrow.Author.Tests.{eq-eqb, ne_eqb, lt-ltb, ltb-false, ltb-true}
use mathlib.Core.Bool.{Bool, true, false, not, ◌&&◌, ◌||◌}
use mathlib.Core.List.{List, [], ◌∷◌, flatten}
use mathlib.Core.Path.{◌≡◌, refl, sym, ap, ◌∙◌}
use Prim.Native.Nat.{ℕ, ◌+◌, ◌≤◌, ◌<◌}
use native.Mathlib.Decide.{dec_lt, ℕ_discrete}
use native.Mathlib.Omega.{arith}
use lib.Dec.{ltb, eqb}
use lib.ListN.{length, take}
use lib.Seq.{length-take-le}
use Rattle.base.specs.Pick.{pick}
use Rattle.base.specs.Lay.{laid_at}
use Rattle.base.proofs.Lay.{laid_none}
use Rattle.std.specs.Prelude.{Ok, Err}
use Rattle.answer.specs.Number.{number_of, refusal_number}
use Rattle.answer.specs.declared.Refusal.{Refusal}
use Rattle.answer.proofs.Refused.{not_done}
use Rattle.codec.specs.Message.{Wire, body_size}
use Rattle.codec.specs.Bytes.{queue_of}
use Rattle.codec.specs.declared.MessageBody.{MessageBody}
use Rattle.codec.specs.declared.MessageBody.TheVariants.{SyncRequest, SyncReply, Input, InputAck, QualityReport, QualityReply, ChecksumReport, KeepAlive}
use Rattle.events.specs.declared.Events.{Events}
use Rattle.events.specs.Events.{held_events}
use Rattle.outbox.specs.Outbox.{queue_size}
use Rattle.endpoint_rules.specs.Seen.{Seen, is_shutdown, with_events, with_queued}
use Rattle.endpoint_rules.specs.Did.{Did as HostDid, Effect, begin, done, refused as host_refused, tested}
use Rattle.endpoint_rules.specs.Did.Verdict.{refuse}
use Rattle.endpoint_rules.specs.Room.{events_full, buffer_full, is_full}
use Rattle.endpoint_rules.specs.Act.{acted}
use Rattle.timers.specs.Timers.{bad_clocks}
use Rattle.endpoint_rules.specs.Call.{Call as HostCall}
use Rattle.endpoint_rules.specs.Sending.{bad_statuses}
use Rattle.endpoint_rules.specs.Step.{changed as host_changed, short_buffer, act_step, take_step, step as host_step}
use Rattle.endpoint_rules.specs.Value.{value_of as host_value_of, filled_part, handed_back}
use Rattle.endpoint.specs.declared.Endpoint.{Endpoint}
use Rattle.endpoint.specs.declared.Ended.{Ended as HostEnded}
use Rattle.endpoint.specs.declared.taking.TakenEvents.{TakenEvents}
use Rattle.endpoint.specs.Endpoint.{seen as seen_host, DidAs as HostDidAs, DoneAs as HostDoneAs}
use Rattle.endpoint.specs.Taken.{TakenAs, answer_in, count_in}
use Rattle.spectator_rules.specs.Watch.{Watch}
use Rattle.spectator_rules.specs.Handling.{handled_all}
use Rattle.spectator_rules.specs.Call.{Call}
use Rattle.spectator_rules.specs.Step.{step, refused, decided, host_acts, host_takes, poll_refusal, polled, poll_step}
use Rattle.status.specs.declared.list.Statuses.{Statuses}
use Rattle.status.specs.Statuses.{held_statuses, HeldAs}
use Rattle.spectator.specs.declared.SpectatorSession.{SpectatorSession}
use Rattle.spectator.specs.declared.polling.Polled.{Polled}
use Rattle.spectator.specs.Stores.{inputs_of, events_of}
use Rattle.spectator.specs.Session.{seen, Counted, hosted}
use Rattle.spectator.specs.Answers.{polled_part, PolledAs, TakenInAs}
use Rattle.spectator.specs.Inside.Handling.{ChangedAs}
use Rattle.spectator.proofs.Laws.Counts.{inputs_counted, events_counted, own_count}
use Rattle.spectator.proofs.Laws.Handling.{handled-append, terms_kept}

-- the session, with each count set to the number of what its store holds
pub settles : (s : SpectatorSession) (n : ℕ) → n ≡ length (inputs_of s.inputs)
    → (statuses : Statuses) → HeldAs (held_statuses s.statuses) (length (held_statuses s.statuses)) statuses
    → (m : ℕ) → m ≡ length (events_of s.events)
    → let r : SpectatorSession = record {
      host = s.host;
      limits = s.limits;
      state = s.state;
      inputs = record { entries = record { list = s.inputs.entries.list; count = n } };
      statuses = statuses;
      events = record { entries = record { list = s.events.entries.list; count = m } };
      current_frame = s.current_frame;
      last_recv_frame = s.last_recv_frame;
    } in
    (seen r ≡ seen s) × Counted r × (r.host ≡ s.host)
unfolding seen
settles s n en statuses es m em =
    let i = inputs_counted n s.inputs en in
    let e = events_counted m s.events em in
    (rw (i.0, es.0, e.0), record { inputs = own_count i; statuses = own_count es; events = own_count e }, refl)

-- ---- taking messages does not look at events

apart_answer : (b : Bool) (s : Seen)
    → (tested ((b, refuse 5) ∷ []) (with_events [] s) (host_changed (with_queued 0 (with_events [] s)))).answer ≡ (tested ((b, refuse 5) ∷ []) s (host_changed (with_queued 0 s))).answer
unfolding tested host_refused
apart_answer true s = refl
apart_answer false s = refl

apart_after : (b : Bool) (s : Seen)
    → (tested ((b, refuse 5) ∷ []) (with_events [] s) (host_changed (with_queued 0 (with_events [] s)))).after ≡ with_events [] (tested ((b, refuse 5) ∷ []) s (host_changed (with_queued 0 s))).after
unfolding tested host_refused
apart_after true s = refl
apart_after false s = refl

module _ (buffer : ℕ) (s : Seen) where
  take_answer : (take_step buffer (with_events [] s)).answer ≡ (take_step buffer s).answer
  unfolding take_step
  take_answer = apart_answer (short_buffer buffer s) s

  take_after : (take_step buffer (with_events [] s)).after ≡ with_events [] (take_step buffer s).after
  unfolding take_step
  take_after = apart_after (short_buffer buffer s) s

  -- what is handed back is within the buffer
  fits_by : (shut short : Bool) (queued : ℕ) → (short ≡ false → queued ≤ buffer)
      → pick (eqb (tested ((not shut && short, refuse 5) ∷ []) s (host_changed (with_queued 0 s))).answer 0) (pick shut 0 queued) 0 ≤ buffer
  unfolding tested host_refused
  fits_by true short queued h = omega arith
  fits_by false true queued h = omega arith
  fits_by false false queued h = h refl

  handed_fits : handed_back buffer s ≤ buffer
  unfolding handed_back host_step take_step filled_part
  handed_fits = fits_by (is_shutdown s.phase) (ltb buffer s.queued) s.queued (ltb-false buffer s.queued)

-- ---- what is left of a poll once the host has acted

module _ (s : SpectatorSession) (old : Events) (acted : Endpoint) (buffer : List ℕ) (new : TakenEvents) (en : TakenAs acted new) where
  apart : seen_host new.endpoint ≡ with_events [] (seen_host acted)
  unfolding host_step
  apart = en.after

  news : held_events new.events ≡ (seen_host acted).events
  unfolding host_value_of
  news = let e = en.events in cc

  module _ (taken : HostEnded) (et : HostDoneAs new.endpoint (host_step (HostCall.take_messages (length buffer)) (seen_host new.endpoint)) taken) where
    number : number_of taken.answer ≡ (take_step (length buffer) (seen_host acted)).answer
    unfolding host_step
    number = et.answer ∙ rw apart (take_answer (length buffer) (seen_host acted))

    pub take_in_refused : (x : Refusal) → taken.answer ≡ Err x → TakenInAs s (held_events old) acted (length buffer) (record { session = s; answer = Err x })
    take_in_refused x e =
        let h : refusal_number x ≡ (take_step (length buffer) (seen_host acted)).answer = sym (ap number_of e) ∙ number in
        let k : (take_step (length buffer) (seen_host acted)).answer ≡ 0 → ⊥ = λ z. not_done x (h ∙ z) in
        record {
          answer = h;
          done = λ z. absurd (k z);
          counted = λ z. absurd (k z);
          terms = λ z. absurd (k z);
          filled = rw (ne_eqb (take_step (length buffer) (seen_host acted)).answer 0 k);
          same = λ _. refl;
        }

    pub take_in_done : (part : List ℕ) → part ≡ take (handed_back (length buffer) (seen_host new.endpoint)) buffer → number_of taken.answer ≡ 0
        → (ready mid last : SpectatorSession) → seen ready ≡ seen (hosted s taken.endpoint) → Counted ready → ready.host ≡ taken.endpoint
        → ChangedAs (handled_all (held_events old)) ready mid → ChangedAs (handled_all (held_events new.events)) mid last
        → TakenInAs s (held_events old) acted (length buffer) (record { session = last; answer = Ok (length part) })
    unfolding seen host_step handed_back filled_part
    take_in_done part ep d ready mid last er cr hr em el =
        let z : (take_step (length buffer) (seen_host acted)).answer ≡ 0 = sym number ∙ d in
        let f : handed_back (length buffer) (seen_host new.endpoint) ≤ length buffer = handed_fits (length buffer) (seen_host new.endpoint) in
        record {
          answer = sym z;
          done = λ _. el.after ∙ rw (em.after, er, news, et.after, apart, take_after (length buffer) (seen_host acted)) (sym (handled-append (held_events old) (seen_host acted).events _));
          counted = λ _. el.counted (em.counted cr);
          terms = λ _. terms_kept acted new.endpoint last.host en.terms (terms_kept new.endpoint taken.endpoint last.host et.terms (terms_kept taken.endpoint mid.host last.host (rw hr at em.terms) el.terms));
          filled = ap length ep ∙ length-take-le _ buffer f ∙ rw (apart, take_answer (length buffer) (seen_host acted), z);
          same = λ n. absurd (n z);
        }

-- ---- the whole

-- a message has bytes
some_bytes : (b : MessageBody) (n p : ℕ) → 1 ≤ body_size b n p
some_bytes (SyncRequest x) n p = omega arith
some_bytes (SyncReply x) n p = omega arith
some_bytes (Input d x y) n p = omega arith
some_bytes (InputAck x) n p = omega arith
some_bytes (QualityReport x y) n p = omega arith
some_bytes (QualityReply x) n p = omega arith
some_bytes (ChecksumReport x y) n p = omega arith
some_bytes KeepAlive n p = omega arith

no_bytes : (ws : List Wire) → queue_size ws ≡ 0 → ws ≡ []
unfolding queue_size
no_bytes [] e = refl
no_bytes (w ∷ ws) e = absurd (omega (arith, some_bytes w.body (length w.reports) (length w.payload)))

-- what is queued behind the rest is taken from the same buffer: where taking refuses, nothing was queued
room_by : (buffer queued bytes : ℕ) → buffer_full buffer queued bytes ≡ false → (0 < bytes → queued + bytes ≤ buffer)
unfolding buffer_full
room_by buffer queued bytes h k = ltb-false buffer (queued + bytes) (rw (lt-ltb 0 bytes k) at h)

none_left : (buffer queued bytes : ℕ) → buffer_full buffer queued bytes ≡ false → buffer < queued + bytes → bytes ≡ 0
none_left buffer queued bytes h l =
    elim (dec_lt 0 bytes) [
      | yes k ↦ absurd (omega (arith, room_by buffer queued bytes h k))
      | no k ↦ omega arith
    ]

module _ (buffer : ℕ) (s : Seen) (e : Effect) where
  -- an act that is not refused is done, and what it queues has room
  not_refused : (a b f : Bool) → (tested ((a, refuse 8) ∷ (b, refuse 3) ∷ (f, refuse 5) ∷ []) s (done e)).answer ≡ 0 → (tested ((a, refuse 8) ∷ (b, refuse 3) ∷ (f, refuse 5) ∷ []) s (done e) ≡ done e) × (f ≡ false)
  unfolding tested host_refused
  not_refused true b f h = absurd (omega arith)
  not_refused false true f h = absurd (omega arith)
  not_refused false false true h = absurd (omega arith)
  not_refused false false false h = (refl, refl)

  -- one that is refused queues nothing
  none_queued : (a b f : Bool) → ((tested ((a, refuse 8) ∷ (b, refuse 3) ∷ (f, refuse 5) ∷ []) s (done e)).answer ≡ 0 → ⊥) → (tested ((a, refuse 8) ∷ (b, refuse 3) ∷ (f, refuse 5) ∷ []) s (done e)).out ≡ []
  unfolding tested host_refused done
  none_queued true b f n = refl
  none_queued false true f n = refl
  none_queued false false true n = refl
  none_queued false false false n = absurd (n refl)

or_right : (a b : Bool) → a || b ≡ false → b ≡ false
or_right true b h = absurd (let z : ◌≡◌ {A = ℕ} 0 1 = cc in omega arith)
or_right false b h = h

short_by_lem : (shut short : Bool) (s : Seen) → ((tested ((not shut && short, refuse 5) ∷ []) s (host_changed (with_queued 0 s))).answer ≡ 0 → ⊥) → short ≡ true
unfolding tested host_refused
short_by_lem true short s n = absurd (n refl)
short_by_lem false true s n = refl
short_by_lem false false s n = absurd (n refl)

-- taking refuses only where more is queued than the buffer has
take_short : (buffer : ℕ) (s : Seen) → ((take_step buffer s).answer ≡ 0 → ⊥) → buffer < s.queued
unfolding take_step
take_short buffer s n = ltb-true buffer s.queued (short_by_lem (is_shutdown s.phase) (ltb buffer s.queued) s n)

module _ (now epoch nonce : ℕ) (buffer : ℕ) (w : Watch) where
  abbrev Acts : HostDid
  Acts = host_acts now epoch nonce buffer w

  abbrev Apart : Seen
  Apart = with_events [] w.host

  abbrev Effects : Effect
  Effects = acted w.host.phase now epoch nonce w.statuses (begin Apart)

  -- an act that is refused queues nothing, nor one behind which taking is refused
  act_refused : (Acts.answer ≡ 0 → ⊥) → Acts.out ≡ []
  unfolding host_acts act_step
  act_refused n = none_queued buffer Apart Effects (bad_clocks now epoch) (bad_statuses (length w.statuses) Apart) (is_full buffer Effects) n

  act_done : Acts.answer ≡ 0 → (Acts ≡ done Effects) × (is_full buffer Effects ≡ false)
  unfolding host_acts act_step
  act_done h = not_refused buffer Apart Effects (bad_clocks now epoch) (bad_statuses (length w.statuses) Apart) (is_full buffer Effects) h

  room : is_full buffer Effects ≡ false → buffer_full buffer Effects.state.queued (queue_size Effects.out) ≡ false
  unfolding is_full
  room h = or_right (events_full Effects.state.events Effects.events) (buffer_full buffer Effects.state.queued (queue_size Effects.out)) h

  nothing_taken : Acts.answer ≡ 0 → ((take_step buffer Acts.after).answer ≡ 0 → ⊥) → Acts.out ≡ []
  unfolding done
  nothing_taken h n =
      let e = act_done h in
      let k : (take_step buffer (done Effects).after).answer ≡ 0 → ⊥ = λ z. n (rw e.0 z) in
      let l = take_short buffer (done Effects).after k in
      let m : queue_size Effects.out ≡ 0 = none_left buffer Effects.state.queued (queue_size Effects.out) (room e.1) l in
      rw e.0 (no_bytes Effects.out m)

-- ---- the poll's ways out

module _ (s : SpectatorSession) (now epoch nonce : ℕ) (buffer buffer' : List ℕ) where
  abbrev Acted : HostDid
  Acted = host_acts now epoch nonce (length buffer) (seen s)

  abbrev Refused : ℕ
  Refused = poll_refusal now epoch nonce (length buffer) (seen s)

  abbrev Poll : Polled → Type 0
  Poll r = PolledAs s (step (Call.poll_remote_clients now epoch nonce (length buffer)) (seen s)) (polled_part now epoch nonce (length buffer) (seen s)) buffer r buffer'

  step-refused : (Refused ≡ 0 → ⊥) → step (Call.poll_remote_clients now epoch nonce (length buffer)) (seen s) ≡ refused Refused (seen s)
  unfolding step poll_step decided
  step-refused n = rw (ne_eqb Refused 0 n)

  step-done : Refused ≡ 0 → step (Call.poll_remote_clients now epoch nonce (length buffer)) (seen s) ≡ polled now epoch nonce (length buffer) (seen s)
  unfolding step poll_step decided
  step-done h = rw (eq-eqb Refused 0 h)

  refused_poll : (r : Polled) → number_of (answer_in r.answer) ≡ Refused → (Refused ≡ 0 → ⊥) → r.session ≡ s → count_in r.answer ≡ 0 → buffer' ≡ buffer → Poll r
  unfolding refused polled_part flatten
  refused_poll r ea n es ef eb =
      rw (step-refused n) (record {
        answer = ea;
        after = ap seen es;
        lent = eb ∙ sym (laid_none buffer s.host.queued);
        filled = rw (ne_eqb Refused 0 n) ef;
        counted = λ z. absurd (n z);
        terms = rw es (record { setup = refl; count = refl });
        same = λ _. es;
      })

  module _ (old : TakenEvents) (eo : TakenAs s.host old) (c : Statuses) (ec : HeldAs (held_statuses s.statuses) (length (held_statuses s.statuses)) c) (acts : HostEnded)
      (ea : HostDidAs old.endpoint (host_step (HostCall.act c.count (held_statuses c) now epoch nonce (length buffer)) (seen_host old.endpoint)) buffer acts buffer') where
    olds : held_events old.events ≡ (seen s).host.events
    unfolding host_value_of seen
    olds = let e = eo.events in cc

    same_did : host_step (HostCall.act c.count (held_statuses c) now epoch nonce (length buffer)) (seen_host old.endpoint) ≡ Acted
    unfolding host_step host_acts seen
    same_did = rw (ec.0, ec.1, eo.after)

    same_queue : old.endpoint.queued ≡ s.host.queued
    unfolding host_step seen_host
    same_queue = ap (λ (x : Seen). x.queued) eo.after

    number_is : number_of acts.answer ≡ Acted.answer
    number_is = ea.answer ∙ ap (λ (d : HostDid). d.answer) same_did

    after_is : seen_host acts.endpoint ≡ Acted.after
    after_is = ea.after ∙ ap (λ (d : HostDid). d.after) same_did

    lent_is : buffer' ≡ laid_at buffer s.host.queued (queue_of Acted.out)
    lent_is =
        ea.lent
        ∙ ap (λ (d : HostDid). laid_at buffer old.endpoint.queued (queue_of d.out)) same_did
        ∙ ap (λ (q : ℕ). laid_at buffer q (queue_of Acted.out)) same_queue

    kept : Acted.out ≡ [] → buffer' ≡ buffer
    unfolding flatten
    kept h = lent_is ∙ rw h (laid_none buffer s.host.queued)

    pub act_refuses : (x : Refusal) → acts.answer ≡ Err x → Poll (record { session = s; answer = Err x })
    unfolding poll_refusal
    act_refuses x e =
        let h : refusal_number x ≡ Acted.answer = sym (ap number_of e) ∙ number_is in
        let k : Acted.answer ≡ 0 → ⊥ = λ z. not_done x (h ∙ z) in
        let f : Refused ≡ Acted.answer = rw (ne_eqb Acted.answer 0 k) in
        refused_poll (record { session = s; answer = Err x }) (h ∙ sym f) (λ z. k (sym f ∙ z)) refl refl (kept (act_refused now epoch nonce (length buffer) (seen s) k))

    module _ (d : number_of acts.answer ≡ 0) (el : length buffer' ≡ length buffer) (r : Polled) (et : TakenInAs s (held_events old.events) acts.endpoint (length buffer') r) where
      acted_is : Acted.answer ≡ 0
      acted_is = sym number_is ∙ d

      take_is : take_step (length buffer') (seen_host acts.endpoint) ≡ take_step (length buffer) Acted.after
      take_is = rw (el, after_is)

      refusal_is : Refused ≡ (take_step (length buffer) Acted.after).answer
      unfolding poll_refusal host_takes
      refusal_is = rw (eq-eqb Acted.answer 0 acted_is)

      answer_is : number_of (answer_in r.answer) ≡ Refused
      answer_is = et.answer ∙ rw take_is (sym refusal_is)

      taken_in : Refused ≡ 0 → Poll r
      unfolding polled polled_part host_takes
      taken_in z =
          let t : (take_step (length buffer) Acted.after).answer ≡ 0 = sym refusal_is ∙ z in
          let t' : (take_step (length buffer') (seen_host acts.endpoint)).answer ≡ 0 = rw take_is t in
          rw (step-done z) (record {
            answer = answer_is ∙ z;
            after = et.done t' ∙ rw (take_is, olds, after_is);
            lent = lent_is;
            filled = et.filled ∙ rw (t', after_is);
            counted = λ _. et.counted t';
            terms = terms_kept s.host old.endpoint r.session.host eo.terms (terms_kept old.endpoint acts.endpoint r.session.host ea.terms (et.terms t'));
            same = λ n. absurd (n refl);
          })

      not_taken : (Refused ≡ 0 → ⊥) → Poll r
      not_taken n =
          let k : (take_step (length buffer) Acted.after).answer ≡ 0 → ⊥ = λ z. n (refusal_is ∙ z) in
          let k' : (take_step (length buffer') (seen_host acts.endpoint)).answer ≡ 0 → ⊥ = rw take_is k in
          refused_poll r answer_is n (et.same k') (et.filled ∙ rw (ne_eqb (take_step (length buffer') (seen_host acts.endpoint)).answer 0 k')) (kept (nothing_taken now epoch nonce (length buffer) (seen s) acted_is k))

      pub act_done_polls : Poll r
      act_done_polls = elim (ℕ_discrete Refused 0) [
        | yes z ↦ taken_in z
        | no n ↦ not_taken n
      ]
