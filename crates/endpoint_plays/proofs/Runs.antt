-- A play of a version that meets the contracts shows a run of the rules: each call, with what it handed back, is one step.
use mathlib.Core.List.{List, [], ◌++◌, append-nil, append_assoc}
use mathlib.Core.Path.{◌≡◌, refl, sym, ◌∙◌, ap}
use Prim.Native.Nat.{ℕ}
use lib.ListN.{length}
use Rattle.answer.specs.Number.{number_of}
use Rattle.events.specs.Events.{held_events}
use Rattle.events.specs.declared.Entry.{Entry}
use Rattle.setup.specs.declared.Setup.{Setup}
use Rattle.timers.specs.Timers.{bad_clock}
use Rattle.setup.specs.Setup.{Terms, bad_setup, handle_list, terms_with}
use Rattle.setup.proofs.Laws.{sorted-length, setup_handles}
use Rattle.endpoint_rules.specs.Seen.{Seen, is_running, made}
use Rattle.endpoint_rules.specs.Call.{Call}
use Rattle.endpoint_rules.specs.Step.{fresh, step}
use Rattle.endpoint_rules.specs.Value.{value_of}
use Rattle.endpoint_invariant.specs.Typed.{IsU64, TypedSetup}
use Rattle.endpoint_invariant.specs.Each.{Each}
use Rattle.endpoint_invariant.specs.Announcement.{Announcement}
use Rattle.endpoint_invariant.proofs.Choices.{passes}
use Rattle.endpoint_invariant.proofs.Eaches.{each_append}
use Rattle.endpoint_invariant.proofs.Announced.{step-announces}
use Rattle.endpoint_invariant.proofs.Announcements.{step_announcements}
use Rattle.endpoint_invariant.proofs.Staying.{step_setup}
use Rattle.endpoint_delivery.specs.Frames.{accepted_by}
use Rattle.endpoint_delivery.specs.Runs.{next, Run, Meet}
use Rattle.endpoint.specs.declared.Endpoint.{Endpoint}
use Rattle.endpoint.specs.Endpoint.{seen}
use Rattle.endpoint_version.specs.Version.{Version, Asked, IsAsked, call_of, endpoint_after}
use Rattle.endpoint_version.specs.Meets.{Meets, Reached}
use Rattle.endpoint_version.proofs.Asked.{asked_typed, none_handed}
use Rattle.endpoint_version.proofs.Reached.{Good, after-seen, called_good, taken_good, reached_good}
use Rattle.endpoint_plays.specs.Sides.{Side, after, taking, starts, events_of, shown, accepted_from}
use Rattle.endpoint_plays.specs.Plays.{Fitting, Play}
use Rattle.endpoint_plays.specs.Delivered.{handles_of, given_terms}
use Rattle.endpoint_plays.proofs.Written.{queued_messages}

module _ (v : Version) (m : Meets v) where
  module _ (e : Endpoint) (g : Good v m e) where
    running_is : v.is_running e ≡ is_running (seen e).phase
    unfolding value_of
    running_is = let h = m.is_running e g.value in cc

    -- a frame is accepted where the rules accept it
    accepted_is : (c : Asked) → IsAsked c → accepted_from v e c ≡ accepted_by (call_of c) (seen e)
    accepted_is (Asked.synchronize now epoch nonce out) h = refl
    accepted_is (Asked.message from x payload now epoch nonce out) h = refl
    accepted_is (Asked.datagram from d now epoch nonce out) h = refl
    accepted_is (Asked.act statuses now epoch nonce out) h = refl
    accepted_is (Asked.send_input frame bytes statuses now out) h = rw (running_is, (m.send_input e frame bytes statuses now out g.value h).answer)
    accepted_is (Asked.disconnect now) h = refl
    accepted_is (Asked.send_checksum_report frame checksum now out) h = refl
    accepted_is (Asked.update_local_frame_advantage local) h = refl
    accepted_is (Asked.take_messages out) h = refl
    accepted_is (Asked.network_stats epoch) h = refl
    accepted_is (Asked.peer_connect_status handle) h = refl
    accepted_is (Asked.take_messages_into out into) h = refl

    taken_are : held_events (v.take_events e).events ≡ (seen e).events
    unfolding value_of
    taken_are = let h = (m.take_events e g.value).events in cc

  -- a call is a step
  pub after-shown : (x : Side) → Good v m x.endpoint → (c : Asked) → IsAsked c → shown (after v c x) ≡ next (call_of c) (shown x)
  after-shown x g c h =
      rw (after-seen v m x.endpoint g.value c h, queued_messages v m x.endpoint g c h, accepted_is x.endpoint g c h, none_handed c (seen x.endpoint), append-nil x.taken)

  pub taking-shown : (x : Side) → Good v m x.endpoint → shown (taking v x) ≡ next Call.take_events (shown x)
  unfolding step
  taking-shown x g = rw ((m.take_events x.endpoint g.value).after, taken_are x.endpoint g, append-nil x.queued, append-nil x.accepted)

-- ---- the setup that `new` was given, as the rules see it

-- a setup that is not refused: its handles are as many as it says
module _ (g : Setup) (t : TypedSetup g) (now : ℕ) (z : (fresh g now).0 ≡ 0) where
  pub handles_many : length (handles_of g) ≡ g.handles.count
  unfolding fresh
  handles_many = sorted-length (handle_list g.handles) ∙ setup_handles g (passes (bad_setup g) 0 0 (passes (bad_clock now) 7 _ z).1).0 t.handles

  pub fresh_given : (fresh g now).1.setup ≡ given_terms g
  unfolding fresh made
  fresh_given = refl

-- what a side is, after any calls: a value, sound, and with the setup that was given
pub record Kept (v : Version) (m : Meets v) (x : Side) : Type 0 where
  pub good : Good v m x.endpoint
  pub setup : (seen x.endpoint).setup ≡ given_terms x.setup
  pub handles : length (handles_of x.setup) ≡ x.setup.handles.count
  -- every event that was handed out, or is held
  pub entries : Each (Announcement (given_terms x.setup)) (events_of x)

module _ (v : Version) (m : Meets v) where
  module _ (g : Setup) (now : ℕ) (t : TypedSetup g) (i : IsU64 now) (n : number_of (v.new g now).answer ≡ 0) where
    pub done-fresh : (fresh g now).0 ≡ 0
    done-fresh = sym (m.new g now t i).answer ∙ n

    -- no event is announced yet
    starts_entries : Each (Announcement (given_terms g)) (held_events (v.new g now).endpoint.events)
    unfolding seen fresh made Each
    starts_entries = rw (ap (λ (s : Seen). s.events) (m.new g now t i).made) tt

    pub starts-kept : Kept v m (starts v g now)
    starts-kept =
        record {
          good = reached_good v m (v.new g now).endpoint (Reached.made g now t i done-fresh);
          setup = ap (λ (s : Seen). s.setup) (m.new g now t i).made ∙ fresh_given g t now done-fresh;
          handles = handles_many g t now done-fresh;
          entries = starts_entries;
        }

  -- what is announced by an endpoint's setup is so by the one that was given
  announced_given : (s : Seen) (g : Setup) → s.setup ≡ given_terms g → (l : List Entry) → Each (Announcement s.setup) l → Each (Announcement (given_terms g)) l
  announced_given s g e l h = rw e at h

  -- the events that are held after a call are those before it and those that it announces
  after_entries : (x : Side) → Kept v m x → (c : Asked) → IsAsked c → Each (Announcement (given_terms x.setup)) (events_of (after v c x))
  unfolding seen
  after_entries x k c h =
      let t : Terms = given_terms x.setup in
      let s : Seen = seen x.endpoint in
      let held : held_events (endpoint_after v x.endpoint c).events ≡ held_events x.endpoint.events ++ (step (call_of c) s).events =
      ap (λ (s : Seen). s.events) (after-seen v m x.endpoint k.good.value c h) ∙ (rw (none_handed c s) at (step-announces (call_of c) s)) in
      let more : Each (Announcement t) (step (call_of c) s).events = announced_given s x.setup k.setup _ (step_announcements (call_of c) (asked_typed c h) s k.good.sound) in
      rw (held, sym (append_assoc x.taken (held_events x.endpoint.events) (step (call_of c) s).events)) (each_append (Announcement t) (events_of x) (step (call_of c) s).events k.entries more)

  taking_entries : (x : Side) → Kept v m x → Each (Announcement (given_terms x.setup)) (events_of (taking v x))
  unfolding seen step
  taking_entries x k =
      let none : held_events (v.take_events x.endpoint).endpoint.events ≡ [] = ap (λ (s : Seen). s.events) (m.take_events x.endpoint k.good.value).after in
      rw (none, taken_are v m x.endpoint k.good, append-nil) k.entries

  pub after_kept : (x : Side) → Kept v m x → (c : Asked) → IsAsked c → Kept v m (after v c x)
  after_kept x k c h =
      record {
        good = called_good v m x.endpoint k.good c h;
        setup = ap (λ (s : Seen). s.setup) (after-seen v m x.endpoint k.good.value c h) ∙ step_setup (call_of c) (seen x.endpoint) ∙ k.setup;
        handles = k.handles;
        entries = after_entries x k c h;
      }

  pub taking-kept : (x : Side) → Kept v m x → Kept v m (taking v x)
  taking-kept x k =
      record {
        good = taken_good v m x.endpoint k.good;
        setup = ap (λ (s : Seen). s.setup) (m.take_events x.endpoint k.good.value).after ∙ step_setup Call.take_events (seen x.endpoint) ∙ k.setup;
        handles = k.handles;
        entries = taking_entries x k;
      }

-- each awaits inputs as wide as the other sends
pub fitting_meet : (g h : Setup) (now then : ℕ) → TypedSetup g → TypedSetup h → (fresh g now).0 ≡ 0 → (fresh h then).0 ≡ 0 → Fitting g h → Meet (fresh g now).1 (fresh h then).1
unfolding terms_with
fitting_meet g h now then tg th zg zh f =
    record {
      there = rw (fresh_given g tg now zg, fresh_given h th then zh, handles_many h th then zh) f.there;
      back = rw (fresh_given g tg now zg, fresh_given h th then zh, handles_many g tg now zg) f.back;
    }

module _ (v u : Version) (l : Meets v) (m : Meets u) where
  pub both-kept : {a b : Side} → Play v u a b → Kept v l a × Kept u m b
  both-kept (Play.begin g h now then tg th ig ih ng nh f) = (starts-kept v l g now tg ig ng, starts-kept u m h then th ih nh)
  both-kept (Play.at_a p c i q) = let k = both-kept p in (after_kept v l _ k.0 c i, k.1)
  both-kept (Play.at_b p c i q) = let k = both-kept p in (k.0, after_kept u m _ k.1 c i)
  both-kept (Play.takes_a p) = let k = both-kept p in (taking-kept v l _ k.0, k.1)
  both-kept (Play.takes_b p) = let k = both-kept p in (k.0, taking-kept u m _ k.1)

  -- the theorem that joins the functions to the rules' runs
  pub play_runs : {a b : Side} → Play v u a b → Run (shown a) (shown b)
  play_runs (Play.begin g h now then tg th ig ih ng nh f) =
      let zg : (fresh g now).0 ≡ 0 = done-fresh v l g now tg ig ng in
      let zh : (fresh h then).0 ≡ 0 = done-fresh u m h then th ih nh in
      rw ((l.new g now tg ig).made, (m.new h then th ih).made) (Run.begin g h now then tg th zg zh (fitting_meet g h now then tg th zg zh f))
  play_runs (Play.at_a {a} {b} p c i q) = rw (after-shown v l a (both-kept p).0.good c i) (Run.at_a (play_runs p) (call_of c) (asked_typed c i) q)
  play_runs (Play.at_b {a} {b} p c i q) = rw (after-shown u m b (both-kept p).1.good c i) (Run.at_b (play_runs p) (call_of c) (asked_typed c i) q)
  play_runs (Play.takes_a {a} {b} p) = rw (taking-shown v l a (both-kept p).0.good) (Run.at_a (play_runs p) Call.take_events tt tt)
  play_runs (Play.takes_b {a} {b} p) = rw (taking-shown u m b (both-kept p).1.good) (Run.at_b (play_runs p) Call.take_events tt tt)
