-- The public statements can be met: a version that does what `step` says. A call of the session's endpoint alone is a call of the version of endpoints; after a poll the session is
-- written anew from what is seen of it.
use borrow.Author.Tests.{eqb-true, eqb-false, ne_eqb}
use mathlib.Core.Bool.{Bool, true, false}
use mathlib.Core.List.{List, [], ◌∷◌}
use mathlib.Core.Path.{◌≡◌, refl, sym, ◌∙◌}
use native.Mathlib.Omega.{arith}
use Prim.Native.Nat.{ℕ}
use lib.Dec.{eqb}
use lib.ListN.{length}
use Rattle.base.specs.Pick.{pick}
use Rattle.base.specs.Lay.{laid_at}
use Rattle.std.specs.Prelude.{Ok, Err}
use Rattle.answer.specs.Number.{Answered, answer_of, number_of, number_back, refusal_number}
use Rattle.answer.specs.declared.Refusal.TheVariants.{Overflow}
use Rattle.answer.proofs.Refused.{not_done}
use Rattle.codec.specs.Bytes.{queue_of}
use Rattle.timers.specs.Timers.{bad_clock}
use Rattle.endpoint_rules.specs.Step.{fresh as host_fresh, step as host_step}
use Rattle.endpoint_invariant.specs.Each.{Each}
use Rattle.endpoint_invariant.specs.Typed.{IsU64, TypedPlace}
use Rattle.endpoint_invariant.proofs.Choices.{by_pick}
use Rattle.endpoint.specs.declared.Endpoint.{Endpoint}
use Rattle.endpoint.specs.declared.Ended.{Ended as HostEnded}
use Rattle.endpoint.specs.Endpoint.{seen as seen_host, SameTerms}
use Rattle.endpoint_version.specs.Values.{IsEndpoint}
use Rattle.endpoint_version.specs.Version.{Asked as HostAsked}
use Rattle.endpoint_version.proofs.Asked.{statuses_typed}
use Rattle.endpoint_version.proofs.Unseen.{anew, seen_unseen as seen-unseen-host}
use Rattle.endpoint_version.proofs.Values.{unseen_value as unseen-host-value}
use Rattle.endpoint_version.proofs.Given.{given, given_answer, given_count}
use Rattle.endpoint_version.proofs.Right.{right as right_host, right_meets as host-meets}
use Rattle.spectator_rules.specs.declared.SessionSetup.{SessionSetup}
use Rattle.spectator_rules.specs.declared.SyncedInput.{SyncedInput}
use Rattle.spectator_rules.specs.Setup.{host_setup, bad_session}
use Rattle.spectator_rules.specs.Watch.{Watch, with_current, made_watch}
use Rattle.spectator_rules.specs.Advance.{behind, behind_overflows, requests_of, advance_refusal, advanced}
use Rattle.spectator_rules.specs.Call.{Call}
use Rattle.spectator_rules.specs.Step.{Did, fresh, refused, changed, decided, advance_step, step}
use Rattle.spectator_invariant.specs.Seated.{Seated}
use Rattle.spectator_invariant.proofs.Seated.{fresh_seated, step_seated}
use Rattle.spectator.specs.declared.SpectatorSession.{SpectatorSession}
use Rattle.spectator.specs.declared.Ended.{Ended}
use Rattle.spectator.specs.declared.advancing.Advanced.{Advanced}
use Rattle.spectator.specs.declared.polling.Polled.{Polled}
use Rattle.spectator.specs.Stores.{events_of}
use Rattle.spectator.specs.Session.{seen, Counted, hosted, advanced_to, keeping}
use Rattle.spectator.specs.Answers.{MadeAs, polled_part, PolledAs, AdvancedAs, GivenAs, frames_answer, shown, shown_behind}
use Rattle.spectator.proofs.Laws.Hosting.{host_did, host_done}
use Rattle.spectator.proofs.Laws.Getters.{shows_state, shows_frame, shows_players, takes_events, behind_overflow, behind_shown, shows_stats}
use Rattle.spectator_version.specs.Values.{IsSessionSetup, IsSession}
use Rattle.spectator_version.specs.Version.{Version, Asked, IsAsked, session_after}
use Rattle.spectator_version.specs.Meets.{GivesValues, Meets}
use Rattle.spectator_version.proofs.Unseen.{unseen, seen_unseen, unseen_counted, requests, requests_are}
use Rattle.spectator_version.proofs.Held.{poll_stays, poll_held}
use Rattle.spectator_version.proofs.Values.{unseen_value, made_held, host_made}
use Rattle.spectator_version.proofs.Proper.{Proper, first_bound, advance_proper, poll_proper}

-- ---- new

abbrev made : SessionSetup → (now : ℕ) → Ended
made g now = record { session = unseen (right_host.new (host_setup g) now).endpoint (fresh g now).1; answer = answer_of (fresh g now).0 }

module _ (g : SessionSetup) (now : ℕ) (t : IsSessionSetup g) (n : IsU64 now) where
  made_as : MadeAs g now (made g now)
  unfolding fresh host_fresh made_watch host_setup Each
  made_as =
      let e : Endpoint = (right_host.new (host_setup g) now).endpoint in
      let h = host-meets.new (host_setup g) now t.host n in
      record {
        answer = number_back (fresh g now).0 (first_bound ((bad_clock now, 8) ∷ (bad_session g, 1) ∷ []) (omega arith, (omega arith, tt)));
        made = seen_unseen e (fresh g now).1 h.made;
        counted = unseen_counted e (fresh g now).1;
        host_handles = h.handles;
        host_statuses = h.count;
      }

  made_value : (fresh g now).0 ≡ 0 → IsSession (made g now).session
  made_value z =
      unseen_value (right_host.new (host_setup g) now).endpoint (fresh g now).1 (host-meets.values.made (host_setup g) now t.host n (host_made g now z)) (fresh_seated g now t.host z)
      (made_held g now t.host)

-- ---- the calls of its endpoint alone

abbrev ended : SpectatorSession → HostEnded → Ended
ended s r = record { session = hosted s r.endpoint; answer = r.answer }

hosted_value : (s : SpectatorSession) → IsSession s → (e : Endpoint) → IsEndpoint e → IsSession (hosted s e)
hosted_value s i e v =
    record { host = v; limits = i.limits; inputs = i.inputs; statuses = i.statuses; events = i.events; current = i.current; newest = i.newest }

-- ---- advance_frame

abbrev advance : SpectatorSession → Advanced
advance s =
    let d : Did = step Call.advance_frame (seen s) in
    record {
      session = pick (eqb d.answer 0) (advanced_to s d.after.current) s;
      answer = given (answer_of d.answer) (requests (requests_of (seen s)));
    }

frames_answered : (a : Answered) (l : List (List SyncedInput)) → frames_answer (given a (requests l)) ≡ a
frames_answered (Ok u) l = refl
frames_answered (Err r) l = refl

frames_given : (a : Answered) (l : List (List SyncedInput)) → GivenAs (pick (eqb (number_of a) 0) l []) (given a (requests l))
frames_given (Ok u) l = requests_are l
frames_given (Err r) l = rw (ne_eqb (refusal_number r) 0 (not_done r))

-- only the frame advanced last changes
advance_leaves : (w : Watch) → (step Call.advance_frame w).after ≡ with_current (step Call.advance_frame w).after.current w
unfolding step advance_step decided refused
advance_leaves w =
    by_pick (λ (d : Did). d.after ≡ with_current d.after.current w) (eqb (advance_refusal w) 0) (changed (advanced w)) (refused (advance_refusal w) w) (λ _. refl) (λ _. refl)

module _ (s : SpectatorSession) where
  -- what it does, and the session after it, by whether that is done
  abbrev advances : Did
  advances = step Call.advance_frame (seen s)

  abbrev advanced_if : Bool → SpectatorSession
  advanced_if b = pick b (advanced_to s advances.after.current) s

  advance_as : AdvancedAs s (advance s)
  unfolding seen
  advance_as =
      record {
        answer = rw (frames_answered (answer_of advances.answer) (requests_of (seen s))) number;
        after = after (eqb advances.answer 0) refl;
        requests = rw number at (frames_given (answer_of advances.answer) (requests_of (seen s)));
        own = own (eqb advances.answer 0);
        same = same (eqb advances.answer 0) refl;
      }
    where
      number : number_of (answer_of advances.answer) ≡ advances.answer
      number = number_back advances.answer (advance_proper (seen s)).bound

      after : (b : Bool) → eqb advances.answer 0 ≡ b → seen (advanced_if b) ≡ advances.after
      after true h = sym (advance_leaves (seen s))
      after false h = sym ((advance_proper (seen s)).keeps (eqb-false advances.answer 0 h))

      own : (b : Bool) → advanced_if b ≡ advanced_to s (advanced_if b).current_frame
      own true = refl
      own false = refl

      same : (b : Bool) → eqb advances.answer 0 ≡ b → (advances.answer ≡ 0 → ⊥) → advanced_if b ≡ s
      same true h k = absurd (k (eqb-true advances.answer 0 h))
      same false h k = refl

  advance_value : IsSession s → Seated (seen s) → IsSession (advance s).session
  advance_value i h = go (eqb advances.answer 0)
    where
      go : (b : Bool) → IsSession (advanced_if b)
      go true =
          let o = (step_seated Call.advance_frame tt (seen s) h).own in
          record { host = i.host; limits = i.limits; inputs = i.inputs; statuses = i.statuses; events = i.events; current = omega (arith, o.newest, o.frame); newest = i.newest }
      go false = i

-- ---- take_events

emptied_value : (s : SpectatorSession) → IsSession s → IsSession (keeping s (record { entries = record { list = s.events.entries.list; count = 0 } }))
emptied_value s i =
    record {
      host = i.host;
      limits = i.limits;
      inputs = i.inputs;
      statuses = i.statuses;
      events = record { size = i.events.size; entries = i.events.entries; count = omega arith };
      current = i.current;
      newest = i.newest;
    }

-- ---- poll_remote_clients

-- the session after it, by whether it is done
abbrev polled_if : SpectatorSession → Watch → Bool → SpectatorSession
polled_if s w b = pick b (unseen (anew s.host w.host) w) s

abbrev poll : SpectatorSession → (now epoch nonce : ℕ) → (out : List ℕ) → Polled × List ℕ
poll s now epoch nonce out =
    let d : Did = step (Call.poll_remote_clients now epoch nonce (length out)) (seen s) in (
      record { session = polled_if s d.after (eqb d.answer 0); answer = given (answer_of d.answer) (polled_part now epoch nonce (length out) (seen s)) },
      laid_at out s.host.queued (queue_of d.out),
    )

module _ (s : SpectatorSession) (i : IsSession s) (now epoch nonce : ℕ) (out : List ℕ) (t : TypedPlace now epoch nonce (length out)) where
  abbrev polls : Did
  polls = step (Call.poll_remote_clients now epoch nonce (length out)) (seen s)

  -- its endpoint's setup and the count of its statuses stay, so it is seen as it was written
  polled_host : seen_host (anew s.host polls.after.host) ≡ polls.after.host
  unfolding seen seen_host
  polled_host =
      let k = poll_stays now epoch nonce (length out) (seen s) in
      seen-unseen-host s.host.setup s.host.statuses.count polls.after.host (sym k.setup) (k.players ∙ (statuses_typed s.host.statuses i.host.statuses).few)

  -- none is handed back where it is refused
  none_handed : (polls.answer ≡ 0 → ⊥) → polled_part now epoch nonce (length out) (seen s) ≡ 0
  unfolding polled_part
  none_handed k = rw (ne_eqb polls.answer 0 k)

  poll_as : PolledAs s polls (polled_part now epoch nonce (length out) (seen s)) out (poll s now epoch nonce out).0 (poll s now epoch nonce out).1
  poll_as =
      record {
        answer = rw (given_answer (answer_of polls.answer) (polled_part now epoch nonce (length out) (seen s))) number;
        after = after (eqb polls.answer 0) refl;
        lent = refl;
        filled = given_count (answer_of polls.answer) (polled_part now epoch nonce (length out) (seen s)) none;
        counted = counted (eqb polls.answer 0) refl;
        terms = terms (eqb polls.answer 0);
        same = same (eqb polls.answer 0) refl;
      }
    where
      proper : Proper (seen s) polls
      proper = poll_proper s i now epoch nonce (length out) t

      number : number_of (answer_of polls.answer) ≡ polls.answer
      number = number_back polls.answer proper.bound

      none : (number_of (answer_of polls.answer) ≡ 0 → ⊥) → polled_part now epoch nonce (length out) (seen s) ≡ 0
      none k = none_handed (λ z. k (number ∙ z))

      after : (b : Bool) → eqb polls.answer 0 ≡ b → seen (polled_if s polls.after b) ≡ polls.after
      after true h = seen_unseen (anew s.host polls.after.host) polls.after polled_host
      after false h = sym (proper.keeps (eqb-false polls.answer 0 h))

      counted : (b : Bool) → eqb polls.answer 0 ≡ b → polls.answer ≡ 0 → Counted (polled_if s polls.after b)
      counted true h z = unseen_counted (anew s.host polls.after.host) polls.after
      counted false h z = absurd (eqb-false polls.answer 0 h z)

      terms : (b : Bool) → SameTerms s.host (polled_if s polls.after b).host
      terms true = record { setup = refl; count = refl }
      terms false = record { setup = refl; count = refl }

      same : (b : Bool) → eqb polls.answer 0 ≡ b → (polls.answer ≡ 0 → ⊥) → polled_if s polls.after b ≡ s
      same true h k = absurd (k (eqb-true polls.answer 0 h))
      same false h k = refl

  poll_value : Seated (seen s) → IsSession (poll s now epoch nonce out).0.session
  poll_value seated = go (eqb polls.answer 0)
    where
      go : (b : Bool) → IsSession (polled_if s polls.after b)
      go true =
          let after : Seated polls.after = step_seated (Call.poll_remote_clients now epoch nonce (length out)) t (seen s) seated in
          let held = poll_held s i seated now epoch nonce (length out) t in
          unseen_value (anew s.host polls.after.host) polls.after
          (unseen-host-value s.host.setup s.host.statuses.count polls.after.host i.host.setup i.host.statuses.count after.host held.entries held.queued) after held
      go false = i

-- ---- a version that meets the statements

abbrev pub right : Version
right =
    record {
      new = made;
      synchronize = λ s now epoch nonce out.
          let r = right_host.synchronize s.host now epoch nonce out in
          (ended s r.0, r.1);
      message = λ s from m payload now epoch nonce out.
          let r = right_host.message s.host from m payload now epoch nonce out in
          (ended s r.0, r.1);
      datagram = λ s from d now epoch nonce out.
          let r = right_host.datagram s.host from d now epoch nonce out in
          (ended s r.0, r.1);
      take_messages = λ s out. ended s (right_host.take_messages s.host out);
      messages = λ s out. right_host.messages s.host out;
      take_messages_into = λ s out into.
          let r = right_host.take_messages_into s.host out into in
          (record { session = hosted s r.0.endpoint; answer = r.0.answer }, r.1);
      network_stats = λ s epoch. right_host.network_stats s.host epoch;
      poll_remote_clients = poll;
      advance_frame = advance;
      take_events = λ s. record {
        session = keeping s (record { entries = record { list = s.events.entries.list; count = 0 } });
        events = record { entries = record { list = s.events.entries.list; count = length (events_of s.events) } };
      };
      frames_behind_host = λ s. pick (behind_overflows (seen s)) (Err Overflow) (Ok (behind (seen s)));
      current_state = λ s. s.state;
      current_frame = λ s. s.current_frame;
      num_players = λ s. s.host.setup.num_players;
    }

behind_as : (s : SpectatorSession) → shown_behind (right.frames_behind_host s) ≡ shown Call.frames_behind_host (seen s)
unfolding seen
behind_as s = go (behind_overflows (seen s)) refl
  where
    go : (b : Bool) → behind_overflows (seen s) ≡ b → shown_behind (pick b (Err Overflow) (Ok (behind (seen s)))) ≡ shown Call.frames_behind_host (seen s)
    go true h = behind_overflow s h
    go false h = behind_shown s (behind (seen s)) h refl

-- ---- its answers are values

called_value : (s : SpectatorSession) → IsSession s → Seated (seen s) → (c : Asked) → IsAsked c → IsSession (session_after right s c)
unfolding seen
called_value s i h (Asked.synchronize now epoch nonce out) a =
    hosted_value s i (right_host.synchronize s.host now epoch nonce out).0.endpoint (host-meets.values.called s.host i.host h.host (HostAsked.synchronize now epoch nonce out) a)
called_value s i h (Asked.message from m payload now epoch nonce out) a =
    hosted_value s i (right_host.message s.host from m payload now epoch nonce out).0.endpoint
    (host-meets.values.called s.host i.host h.host (HostAsked.message from m payload now epoch nonce out) a)
called_value s i h (Asked.datagram from d now epoch nonce out) a =
    hosted_value s i (right_host.datagram s.host from d now epoch nonce out).0.endpoint (host-meets.values.called s.host i.host h.host (HostAsked.datagram from d now epoch nonce out) a)
called_value s i h (Asked.take_messages out) a =
    hosted_value s i (right_host.take_messages s.host out).endpoint (host-meets.values.called s.host i.host h.host (HostAsked.take_messages out) a)
called_value s i h (Asked.take_messages_into out into) a =
    hosted_value s i (right_host.take_messages_into s.host out into).0.endpoint (host-meets.values.called s.host i.host h.host (HostAsked.take_messages_into out into) a)
called_value s i h (Asked.poll_remote_clients now epoch nonce out) a = poll_value s i now epoch nonce out (a.0, a.1, a.2, a.3.1) h
called_value s i h Asked.advance_frame a = advance_value s i h
called_value s i h Asked.take_events a = emptied_value s i

right_values : GivesValues right
right_values = record { made = made_value; called = called_value }

-- ---- and it meets the statements

pub right_meets : Meets right
unfolding seen step host_step
right_meets =
    record {
      new = made_as;
      synchronize = λ s now epoch nonce out i h. host_did s _ _ _ (refl, refl) out _ (host-meets.synchronize s.host now epoch nonce out i.host h);
      message = λ s from m payload now epoch nonce out i h. host_did s _ _ _ (refl, refl) out _ (host-meets.message s.host from m payload now epoch nonce out i.host h);
      datagram = λ s from d now epoch nonce out i h. host_did s _ _ _ (refl, refl) out _ (host-meets.datagram s.host from d now epoch nonce out i.host h);
      take_messages = λ s out i h. host_done s _ _ _ (refl, refl) (host-meets.take_messages s.host out i.host h);
      messages = λ s out i h. host-meets.messages s.host out i.host h;
      take_messages_into = λ s out into i h.
          let k = host-meets.take_messages_into s.host out into i.host h in
          record { taken = host_done s _ _ _ (refl, refl) k.taken; count = k.count; lent = k.lent };
      network_stats = λ s epoch i h. shows_stats s epoch (right_host.network_stats s.host epoch) (host-meets.network_stats s.host epoch i.host h);
      poll_remote_clients = λ s now epoch nonce out i h. poll_as s i now epoch nonce out (h.0, h.1, h.2, h.3.1);
      advance_frame = λ s i. advance_as s;
      take_events = λ s i. takes_events s (length (events_of s.events)) refl;
      frames_behind_host = λ s i. behind_as s;
      current_state = λ s i. shows_state s;
      current_frame = λ s i. shows_frame s;
      num_players = λ s i. shows_players s;
      values = right_values;
    }
