-- How a session changes with its host's events.
use borrow.Author.Tests.{eq-eqb, ne_eqb}
use mathlib.Core.Bool.{Bool, true, false, ◌&&◌, and-false}
use mathlib.Core.List.{List, [], ◌∷◌, ◌++◌}
use mathlib.Core.Path.{◌≡◌, refl, ap, ◌∙◌}
use Prim.Native.Nat.{ℕ, ◌+◌, ◌<◌}
use native.Mathlib.Numerals.{add-one}
use native.Mathlib.Omega.{arith}
use lib.ListN.{length, drop, get_or}
use lib.Seq.{drop-cons, drop-length}
use Rattle.std.specs.Prelude.{Ok, Err}
use Rattle.base.specs.Pick.{pick}
use Rattle.answer.specs.Number.{refusal_number}
use Rattle.answer.specs.declared.Refusal.{Refusal}
use Rattle.answer.proofs.Refused.{not_done}
use Rattle.frame.specs.Bias.{null_frame}
use Rattle.events.specs.declared.Entry.{Entry}
use Rattle.events.specs.declared.Event.{Event}
use Rattle.events.specs.Events.{blank_entry}
use Rattle.quality.specs.declared.Quality.{Quality}
use Rattle.quality.specs.Quality.{local_set}
use Rattle.quality.specs.Advantage.{advantage_of, advantage_overflows, shown_advantage}
use Rattle.status.specs.declared.list.Statuses.{Statuses}
use Rattle.status.specs.Statuses.{held_statuses, HeldAs}
use Rattle.setup.specs.Setup.{terms_with}
use Rattle.endpoint.specs.declared.Endpoint.{Endpoint}
use Rattle.endpoint.specs.Endpoint.{seen as seen_host, SameTerms}
use Rattle.endpoint_rules.specs.Call.{Call as HostCall, Question as HostQuestion}
use Rattle.endpoint_rules.specs.Value.{Value as HostValue, value_of as host_value_of}
use Rattle.endpoint_rules.specs.Seen.{Seen, with_quality}
use Rattle.endpoint_rules.specs.Did.{refused, tested}
use Rattle.endpoint_rules.specs.Did.Verdict.{refuse}
use Rattle.endpoint_rules.specs.Sending.{newest}
use Rattle.endpoint_rules.specs.Advantage.{both_known, local_advantage, advantage_updated}
use Rattle.endpoint_rules.specs.Step.{changed, advantage_step}
use Rattle.spectator_rules.specs.declared.SessionEvent.{SessionEvent}
use Rattle.spectator_rules.specs.declared.SessionState.TheVariants.{Running}
use Rattle.spectator_rules.specs.Inputs.{input_stored}
use Rattle.spectator_rules.specs.Watch.{Watch}
use Rattle.spectator_rules.specs.Handling.{event_added, announce, input_handled, on_event, handled, handled_all}
use Rattle.spectator.specs.declared.SpectatorSession.{SpectatorSession}
use Rattle.spectator.specs.declared.inputs.Inputs.{Inputs}
use Rattle.spectator.specs.declared.session_events.SessionEvents.{SessionEvents}
use Rattle.spectator.specs.Stores.{inputs_of, events_of, InputsAs, EventsAs}
use Rattle.spectator.specs.Session.{seen, keeping}
use Rattle.spectator.specs.Inside.Handling.{quality_after, ChangedAs}
use Rattle.spectator.proofs.Laws.Counts.{own_count}

-- ---- the advantage

module _ (n fps frame : ℕ) (q : Quality) where
  pub frame_unknown : frame ≡ null_frame → q ≡ quality_after n fps frame q
  unfolding quality_after
  frame_unknown h = rw (eq-eqb frame null_frame h)

  pub newest_unknown : n ≡ null_frame → q ≡ quality_after n fps frame q
  unfolding quality_after
  newest_unknown h = rw (eq-eqb n null_frame h, and-false)

  abbrev Overflows : Bool
  Overflows = advantage_overflows n q.round_trip_time fps frame

  abbrev Ahead : ℕ
  Ahead = advantage_of n q.round_trip_time fps frame

  overflow_known : (b : Bool) (r : Refusal) (m : ℕ) → ◌≡◌ {A = ℕ × ℕ} (refusal_number r, 0) (pick b (6, 0) (0, m)) → b ≡ true
  overflow_known true r m e = refl
  overflow_known false r m e = absurd (not_done r (ap (λ (x : ℕ × ℕ). x.0) e))

  frames_known : (b : Bool) (m k : ℕ) → ◌≡◌ {A = ℕ × ℕ} (0, k) (pick b (6, 0) (0, m)) → (b ≡ false) × (k ≡ m)
  frames_known true m k e = absurd (omega (arith, ap (λ (x : ℕ × ℕ). x.0) e))
  frames_known false m k e = (refl, ap (λ (x : ℕ × ℕ). x.1) e)

  module _ (known : frame ≡ null_frame → ⊥) (some : n ≡ null_frame → ⊥) where
    pub quality_kept : (r : Refusal) → shown_advantage (Err r) ≡ pick Overflows (6, 0) (0, Ahead) → q ≡ quality_after n fps frame q
    unfolding quality_after
    quality_kept r h = rw (ne_eqb frame null_frame known, ne_eqb n null_frame some, overflow_known Overflows r Ahead h)

    pub quality_set : (m : ℕ) (y : Quality) → shown_advantage (Ok m) ≡ pick Overflows (6, 0) (0, Ahead) → y ≡ local_set m q → y ≡ quality_after n fps frame q
    unfolding quality_after
    quality_set m y h e = rw (ne_eqb frame null_frame known, ne_eqb n null_frame some, (frames_known Overflows Ahead m h).0, e, (frames_known Overflows Ahead m h).1)

-- a refusal 6 leaves the host as it was
taken_by : (known overflows : Bool) (s : Seen) (q : Quality)
    → (tested ((known && overflows, refuse 6) ∷ []) s (changed (pick known (with_quality q s) s))).after ≡ with_quality (pick known (pick overflows s.quality q) s.quality) s
unfolding tested refused
taken_by true true s q = refl
taken_by true false s q = refl
taken_by false o s q = refl

pub advantage-after : (frame : ℕ) (s : Seen) → (advantage_step frame s).after ≡ with_quality (quality_after (newest s) s.setup.fps frame s.quality) s
unfolding advantage_step advantage_updated local_advantage quality_after
advantage-after frame s =
    taken_by (both_known frame s) (advantage_overflows (newest s) s.quality.round_trip_time s.setup.fps frame) s
    (local_set (advantage_of (newest s) s.quality.round_trip_time s.setup.fps frame) s.quality)

-- ---- one event

-- the host with another quality
abbrev requalified : Endpoint → Quality → Endpoint
requalified e q =
    record {
      setup = e.setup;
      pending = e.pending;
      acked = e.acked;
      history = e.history;
      sync = e.sync;
      nonces = e.nonces;
      clocks = e.clocks;
      flags = e.flags;
      quality = q;
      statuses = e.statuses;
      checksums = e.checksums;
      events = e.events;
      queued = e.queued;
    }

-- the frame that `last_recv_frame` gives
pub newest_shown : (e : Endpoint) (n : ℕ) → HostValue.frame n ≡ host_value_of (HostCall.ask HostQuestion.newest_frame) (seen_host e) → n ≡ newest (seen_host e)
unfolding host_value_of
newest_shown e n h = cc

module _ (s : SpectatorSession) where
  pub announce_changes : (x : SessionEvent) (events : SessionEvents)
      → EventsAs (event_added s.limits.session_events (record { addr = s.host.setup.peer_addr; event = x }) (events_of s.events)) events
      → ChangedAs (announce x) s (keeping s events)
  unfolding announce seen seen_host terms_with
  announce_changes x events h =
      record {
        after = rw h.0;
        counted = λ k. record { inputs = k.inputs; statuses = k.statuses; events = own_count h };
        terms = record { setup = refl; count = refl };
        newest = refl;
      }

  pub store_changes : (n frame player : ℕ) (input : List ℕ) → n ≡ newest (seen s).host
      → (inputs : Inputs) → InputsAs (input_stored s.limits.slots frame player input (inputs_of s.inputs)) inputs
      → (quality : Quality) → quality ≡ quality_after n s.host.setup.fps frame s.host.quality
      → (statuses : Statuses) → HeldAs (held_statuses s.host.statuses) (length (held_statuses s.host.statuses)) statuses
      → ChangedAs (input_handled frame player input) s (record {
        host = requalified s.host quality;
        limits = s.limits;
        state = s.state;
        inputs = inputs;
        statuses = statuses;
        events = s.events;
        current_frame = s.current_frame;
        last_recv_frame = frame;
      })
  unfolding input_handled seen seen_host terms_with
  store_changes n frame player input en inputs hi quality hq statuses hs =
      record {
        after = rw (advantage-after frame (seen s).host, hi.0, hq, hs.0, en);
        counted = λ k. record { inputs = own_count hi; statuses = own_count hs; events = k.events };
        terms = record { setup = refl; count = refl };
        newest = refl;
      }

-- the session, running
abbrev running : SpectatorSession → SpectatorSession
running s =
    record {
      host = s.host;
      limits = s.limits;
      state = Running;
      inputs = s.inputs;
      statuses = s.statuses;
      events = s.events;
      current_frame = s.current_frame;
      last_recv_frame = s.last_recv_frame;
    }

module _ (s r : SpectatorSession) where
  -- an event that is handled by its kind
  pub by_kind : (x : Entry) (v : Event) → x.event ≡ v → ChangedAs (on_event v x.input) s r → ChangedAs (handled x) s r
  unfolding handled
  by_kind x v e h = record { after = rw e h.after; counted = h.counted; terms = h.terms; newest = h.newest }

  pub by_running : (input : List ℕ) → ChangedAs (announce SessionEvent.Synchronized) (running s) r → ChangedAs (on_event Event.Synchronized input) s r
  unfolding seen
  by_running input h = record { after = h.after; counted = h.counted; terms = h.terms; newest = h.newest }

-- ---- all events

-- what stays over one call and over the next stays over both
pub terms_kept : (e r s : Endpoint) → SameTerms e r → SameTerms r s → SameTerms e s
terms_kept e r s a b = record { setup = b.setup ∙ a.setup; count = b.count ∙ a.count }

pub handled_turn : (es : List Entry) (i : ℕ) (v w : Watch) → i < length es → v ≡ handled (get_or es i blank_entry) w → handled_all (drop (i + 1) es) v ≡ handled_all (drop i es) w
unfolding handled_all
handled_turn es i v w h e = rw (drop-cons es i blank_entry h, add-one, e)

pub handled_end : (es : List Entry) (i : ℕ) (w : Watch) → i ≡ length es → w ≡ handled_all (drop i es) w
unfolding handled_all
handled_end es i w h = rw (h, drop-length)

pub handled-append : (a b : List Entry) (w : Watch) → handled_all (a ++ b) w ≡ handled_all b (handled_all a w)
unfolding handled_all
handled-append [] b w = refl
handled-append (x ∷ a) b w = handled-append a b (handled x w)
