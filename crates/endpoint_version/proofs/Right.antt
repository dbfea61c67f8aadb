-- The public statements can be met: a version that does what `step` says, with the endpoint written anew from what is seen of it. So the laws that rule versions out
-- do not hold for want of any version.
use borrow.Author.Tests.{eqb-true, eqb-false, ne_eqb}
use mathlib.Core.Bool.{Bool, true, false}
use mathlib.Core.List.{List, [], ◌∷◌}
use mathlib.Core.Path.{◌≡◌, refl, sym, ◌∙◌}
use native.Mathlib.Omega.{arith}
use Prim.Native.Nat.{ℕ, ◌≤◌, min}
use lib.Dec.{eqb}
use lib.ListN.{length, take, get_or, length-replicate}
use Rattle.base.specs.Pick.{pick}
use Rattle.base.specs.First.{first_of}
use Rattle.base.specs.Lay.{laid_at}
use Rattle.base.proofs.Arrays.{view_le}
use Rattle.fixed_vec.specs.FixedVec.{held}
use Rattle.ceilings.specs.Ceilings.{most_players}
use Rattle.std.specs.Prelude.{Ok, Err}
use Rattle.answer.specs.Number.{Answered, answer_of, number_of, number_back}
use Rattle.answer.specs.declared.Refusal.TheVariants.{BadHandle}
use Rattle.status.specs.Status.{default_status}
use Rattle.status.specs.Statuses.{held_statuses, default_statuses}
use Rattle.codec.specs.Message.{meant}
use Rattle.codec.specs.Bytes.{queue_of}
use Rattle.checksums.specs.Checksums.{stored}
use Rattle.events.specs.Events.{held_events}
use Rattle.events.proofs.Laws.{held_none}
use Rattle.setup.specs.Setup.{handle_list, bad_setup, terms_with}
use Rattle.setup.specs.declared.Setup.{Setup}
use Rattle.timers.specs.Timers.{bad_clock}
use Rattle.endpoint_rules.specs.Seen.{made, is_running}
use Rattle.endpoint_rules.specs.Did.{Did, refused, tested}
use Rattle.endpoint_rules.specs.Sending.{newest}
use Rattle.endpoint_rules.specs.Reports.{stats_of}
use Rattle.endpoint_rules.specs.Call.{Call}
use Rattle.endpoint_rules.specs.Value.{value_of, synchronized_in, handed_back}
use Rattle.endpoint_rules.specs.Step.{fresh, bad_handle, status_step, step}
use Rattle.endpoint_invariant.specs.Typed.{IsU64, TypedSetup}
use Rattle.endpoint_invariant.specs.Sound.{Sound}
use Rattle.endpoint.specs.declared.Endpoint.{Endpoint}
use Rattle.endpoint.specs.declared.Ended.{Ended}
use Rattle.endpoint.specs.Endpoint.{seen, SameTerms, DidAs, DoneAs}
use Rattle.endpoint.specs.Taken.{shorter, TakenIntoAs}
use Rattle.endpoint.specs.Made.{MadeAs}
use Rattle.endpoint.specs.Shown.{shown, shown_status, shown_stats}
use Rattle.endpoint.proofs.Laws.Getters.{shows_handles, shows_checksums}
use Rattle.endpoint.proofs.Laws.Taking.{takes_events}
use Rattle.endpoint_version.specs.Values.{IsEndpoint}
use Rattle.endpoint_version.specs.Version.{Version, Asked, IsAsked, call_of, endpoint_after}
use Rattle.endpoint_version.specs.Meets.{GivesValues, Meets}
use Rattle.endpoint_version.proofs.Asked.{asked_typed}
use Rattle.endpoint_version.proofs.Unseen.{unseen, seen_unseen, sorted_setup, sorted_terms, anew, seen_anew}
use Rattle.endpoint_version.proofs.Values.{made_value, anew_value}
use Rattle.endpoint_version.proofs.Proper.{Proper, step_proper}
use Rattle.endpoint_version.proofs.Given.{given, given_answer, given_count, given_stats}

-- ---- what a call does, answered

-- a refusal gives the very endpoint back
abbrev ended : Endpoint → Did → Ended
ended e d = record { endpoint = pick (eqb d.answer 0) (anew e d.after) e; answer = answer_of d.answer }

abbrev did : Endpoint → Call → List ℕ → Ended × List ℕ
did e c out = (ended e (step c (seen e)), laid_at out e.queued (queue_of (step c (seen e)).out))

module _ (e : Endpoint) (d : Did) (p : Proper (seen e) d) (a : seen (anew e d.after) ≡ d.after) where
  ended-done : DoneAs e d (ended e d)
  ended-done =
      record {
        answer = number_back d.answer p.bound;
        after = after (eqb d.answer 0) refl;
        terms = terms (eqb d.answer 0);
        same = same (eqb d.answer 0) refl;
      }
    where
      after : (b : Bool) → eqb d.answer 0 ≡ b → seen (pick b (anew e d.after) e) ≡ d.after
      after true h = a
      after false h = sym (p.keeps (eqb-false d.answer 0 h))

      terms : (b : Bool) → SameTerms e (pick b (anew e d.after) e)
      terms true = record { setup = refl; count = refl }
      terms false = record { setup = refl; count = refl }

      same : (b : Bool) → eqb d.answer 0 ≡ b → (d.answer ≡ 0 → ⊥) → pick b (anew e d.after) e ≡ e
      same true h k = absurd (k (eqb-true d.answer 0 h))
      same false h k = refl

-- every call that is asked with values
module _ (e : Endpoint) (i : IsEndpoint e) (c : Asked) (h : IsAsked c) where
  asked_done : DoneAs e (step (call_of c) (seen e)) (ended e (step (call_of c) (seen e)))
  asked_done = ended-done e (step (call_of c) (seen e)) (step_proper (seen e) (call_of c) (asked_typed c h)) (seen_anew e i (call_of c))

  asked_did : (out : List ℕ) → DidAs e (step (call_of c) (seen e)) out (did e (call_of c) out).0 (did e (call_of c) out).1
  asked_did out = record { answer = asked_done.answer; after = asked_done.after; terms = asked_done.terms; lent = refl; same = asked_done.same }

-- ---- a version that meets the statements

abbrev pub right : Version
right =
    record {
      new = λ g now. record { endpoint = unseen (sorted_setup g) (min g.num_players most_players) (fresh g now).1; answer = answer_of (fresh g now).0 };
      synchronize = λ e now epoch nonce out. did e (Call.synchronize now epoch nonce (length out)) out;
      message = λ e from m payload now epoch nonce out. did e (Call.message from m.reports.count (meant m payload) now epoch nonce (length out)) out;
      datagram = λ e from d now epoch nonce out. did e (Call.datagram from d now epoch nonce (length out)) out;
      act = λ e statuses now epoch nonce out. did e (Call.act statuses.count (held_statuses statuses) now epoch nonce (length out)) out;
      send_input = λ e frame bytes statuses now out. did e (Call.send_input frame bytes statuses.count (held_statuses statuses) now (length out)) out;
      disconnect = λ e now. ended e (step (Call.disconnect now) (seen e));
      send_checksum_report = λ e frame checksum now out. did e (Call.send_checksum_report frame checksum now (length out)) out;
      update_local_frame_advantage = λ e local. ended e (step (Call.update_local_frame_advantage local) (seen e));
      take_events = λ e. record { endpoint = anew e (step Call.take_events (seen e)).after; events = record { entries = record { list = e.events.entries.list; count = length (held_events e.events) } } };
      take_messages = λ e out. ended e (step (Call.take_messages (length out)) (seen e));
      messages = λ e out. take (handed_back (length out) (seen e)) out;
      take_messages_into = λ e out into.
          let t : Ended = ended e (step (Call.take_messages (shorter out into)) (seen e)) in
          let n : ℕ = handed_back (shorter out into) (seen e) in
          (record { endpoint = t.endpoint; answer = given t.answer n }, laid_at into 0 (take n out));
      network_stats = λ e epoch. given (answer_of (step (Call.network_stats epoch) (seen e)).answer) (stats_of (seen e));
      peer_connect_status = λ e handle. pick (bad_handle handle (seen e)) (Err BadHandle) (Ok (get_or (seen e).statuses handle default_status));
      handles = λ e. record { list = e.setup.handles.list; count = length (handle_list e.setup.handles) };
      is_synchronized = λ e. synchronized_in e.sync.phase;
      is_running = λ e. is_running e.sync.phase;
      is_handling_message = λ e from. eqb from e.setup.peer_addr;
      last_recv_frame = λ e. newest (seen e);
      state = λ e. e.sync.phase;
      checksums = λ e. record { entries = record { list = e.checksums.entries.list; count = length (stored e.checksums) } };
    }

stats_shown : (e : Endpoint) (epoch : ℕ) → IsU64 epoch → shown_stats (right.network_stats e epoch) ≡ shown (Call.network_stats epoch) (seen e)
unfolding shown value_of
stats_shown e epoch t =
    let n : ℕ = (step (Call.network_stats epoch) (seen e)).answer in
    rw (number_back n (step_proper (seen e) (Call.network_stats epoch) t).bound) at (given_stats (answer_of n) (stats_of (seen e)))

status_shown : (e : Endpoint) (handle : ℕ) → shown_status (right.peer_connect_status e handle) ≡ shown (Call.peer_connect_status handle) (seen e)
unfolding shown value_of step status_step tested refused
status_shown e handle = go (bad_handle handle (seen e)) refl
  where
    go : (b : Bool) → bad_handle handle (seen e) ≡ b
        → shown_status (pick b (Err BadHandle) (Ok (get_or (seen e).statuses handle default_status))) ≡ shown (Call.peer_connect_status handle) (seen e)
    go true h = rw h
    go false h = rw h

new_made : (g : Setup) (now : ℕ) → TypedSetup g → MadeAs g now (right.new g now)
unfolding fresh made default_statuses
new_made g now t =
    record {
      answer = number_back (fresh g now).0 (few (bad_clock now) (bad_setup g));
      made = seen_unseen (sorted_setup g) (min g.num_players most_players) (fresh g now).1 (sorted_terms g t) (length-replicate (min g.num_players most_players) default_status ∙ omega arith);
      handles = refl;
      count = refl;
    }
  where
    few : (a b : Bool) → first_of ((a, 8) ∷ (b, 1) ∷ []) ≤ 17
    few true b = omega arith
    few false true = omega arith
    few false false = omega arith

-- none is handed back where that is refused
taken_into : (e : Endpoint) → IsEndpoint e → (out into : List ℕ) → IsAsked (Asked.take_messages_into out into)
    → TakenIntoAs e out into (right.take_messages_into e out into).0 (right.take_messages_into e out into).1
unfolding handed_back
taken_into e i out into h =
    let n : ℕ = (step (Call.take_messages (shorter out into)) (seen e)).answer in
    let a : Answered = answer_of n in
    let part : ℕ = handed_back (shorter out into) (seen e) in
    let done = asked_done e i (Asked.take_messages_into out into) h in
    let none : (number_of a ≡ 0 → ⊥) → part ≡ 0 = λ k. rw (ne_eqb n 0 (λ z. k (done.answer ∙ z))) in
    record { taken = rw (given_answer a part) done; count = given_count a part none; lent = rw (given_count a part none) }

-- ---- its answers are values

ended_value : (e : Endpoint) → IsEndpoint e → Sound (seen e) → (c : Asked) → IsAsked c → IsEndpoint (ended e (step (call_of c) (seen e))).endpoint
ended_value e i s c h = go (eqb (step (call_of c) (seen e)).answer 0)
  where
    go : (b : Bool) → IsEndpoint (pick b (anew e (step (call_of c) (seen e)).after) e)
    go true = anew_value e i s (call_of c) (asked_typed c h)
    go false = i

called_value : (e : Endpoint) → IsEndpoint e → Sound (seen e) → (c : Asked) → IsAsked c → IsEndpoint (endpoint_after right e c)
called_value e i s (Asked.synchronize now epoch nonce out) h = ended_value e i s (Asked.synchronize now epoch nonce out) h
called_value e i s (Asked.message from m payload now epoch nonce out) h = ended_value e i s (Asked.message from m payload now epoch nonce out) h
called_value e i s (Asked.datagram from d now epoch nonce out) h = ended_value e i s (Asked.datagram from d now epoch nonce out) h
called_value e i s (Asked.act statuses now epoch nonce out) h = ended_value e i s (Asked.act statuses now epoch nonce out) h
called_value e i s (Asked.send_input frame bytes statuses now out) h = ended_value e i s (Asked.send_input frame bytes statuses now out) h
called_value e i s (Asked.disconnect now) h = ended_value e i s (Asked.disconnect now) h
called_value e i s (Asked.send_checksum_report frame checksum now out) h = ended_value e i s (Asked.send_checksum_report frame checksum now out) h
called_value e i s (Asked.update_local_frame_advantage local) h = ended_value e i s (Asked.update_local_frame_advantage local) h
called_value e i s (Asked.take_messages out) h = ended_value e i s (Asked.take_messages out) h
called_value e i s (Asked.network_stats epoch) h = i
called_value e i s (Asked.peer_connect_status handle) h = i
called_value e i s (Asked.take_messages_into out into) h = ended_value e i s (Asked.take_messages_into out into) h

right_values : GivesValues right
unfolding held_events held
right_values =
    record {
      made = λ g now t n z. made_value g now t z;
      called = called_value;
      taken = λ e i s. (
        anew_value e i s Call.take_events tt,
        record { size = i.events.size; entries = i.events.entries; count = omega (arith, view_le e.events.entries.count e.events.entries.list, i.events.size) },
      );
    }

-- ---- and it meets the statements

pub right_meets : Meets right
unfolding seen value_of terms_with
right_meets =
    record {
      new = λ g now t n. new_made g now t;
      synchronize = λ e now epoch nonce out i h. asked_did e i (Asked.synchronize now epoch nonce out) h out;
      message = λ e from m payload now epoch nonce out i h. asked_did e i (Asked.message from m payload now epoch nonce out) h out;
      datagram = λ e from d now epoch nonce out i h. asked_did e i (Asked.datagram from d now epoch nonce out) h out;
      act = λ e statuses now epoch nonce out i h. asked_did e i (Asked.act statuses now epoch nonce out) h out;
      send_input = λ e frame bytes statuses now out i h. asked_did e i (Asked.send_input frame bytes statuses now out) h out;
      disconnect = λ e now i h. asked_done e i (Asked.disconnect now) h;
      send_checksum_report = λ e frame checksum now out i h. asked_did e i (Asked.send_checksum_report frame checksum now out) h out;
      update_local_frame_advantage = λ e local i h. asked_done e i (Asked.update_local_frame_advantage local) h;
      take_events = λ e i.
          let t = takes_events e (length (held_events e.events)) refl (record { entries = record { list = e.events.entries.list; count = 0 } }) (held_none e.events.entries.list) in
          record { events = t.events; count = t.count; after = seen_anew e i Call.take_events; terms = record { setup = refl; count = refl } };
      take_messages = λ e out i h. asked_done e i (Asked.take_messages out) h;
      messages = λ e out i h. refl;
      take_messages_into = λ e out into i h. taken_into e i out into h;
      network_stats = λ e epoch i h. stats_shown e epoch h;
      peer_connect_status = λ e handle i h. status_shown e handle;
      handles = λ e i. shows_handles e (length (handle_list e.setup.handles)) refl;
      is_synchronized = λ e i. refl;
      is_running = λ e i. refl;
      is_handling_message = λ e from i h. refl;
      last_recv_frame = λ e i. refl;
      state = λ e i. refl;
      checksums = λ e i. shows_checksums e (length (stored e.checksums)) refl;
      values = right_values;
    }
