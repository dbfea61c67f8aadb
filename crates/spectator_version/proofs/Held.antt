-- What a poll keeps. For every state: the setup of the session's endpoint and the number of its statuses. From a session whose parts are values: that they are.
use mathlib.Core.List.{List, [], ◌∷◌, ◌++◌}
use mathlib.Core.Path.{◌≡◌, refl, ◌∙◌}
use Prim.Native.Nat.{ℕ, zero, suc, min}
use native.Mathlib.Omega.{arith}
use lib.Dec.{eqb}
use lib.ListN.{length, take}
use Rattle.base.specs.Little.{Bytes}
use Rattle.ceilings.specs.Ceilings.{most_session_events}
use Rattle.events.specs.Events.{held_events}
use Rattle.events.specs.declared.Entry.{Entry}
use Rattle.events.specs.declared.Event.{Event}
use Rattle.setup.specs.Setup.{terms_with}
use Rattle.endpoint_rules.specs.Seen.{Seen, with_events}
use Rattle.endpoint_rules.specs.Did.{Did as HostDid, refused as host_refused}
use Rattle.endpoint_rules.specs.Advantage.{both_known, local_advantage, advantage_updated}
use Rattle.endpoint_rules.specs.Call.{Call as HostCall}
use Rattle.endpoint_rules.specs.Step.{changed as host_changed, advantage_step, take_step, step as host_step}
use Rattle.endpoint_rules.proofs.Tested.{tested-both}
use Rattle.endpoint_invariant.specs.Each.{Each}
use Rattle.endpoint_invariant.specs.Typed.{IsU32, IsU64, TypedPlace}
use Rattle.endpoint_invariant.specs.Sound.{Sound}
use Rattle.endpoint_invariant.proofs.Choices.{by_pick}
use Rattle.endpoint_invariant.proofs.Eaches.{each_append, each_last, each_also}
use Rattle.endpoint_invariant.proofs.Leaves.{by_cases}
use Rattle.endpoint_invariant.proofs.Sound.{step_sound}
use Rattle.endpoint_invariant.proofs.Staying.{step_setup, step_players}
use Rattle.endpoint.specs.Endpoint.{seen as seen_host}
use Rattle.endpoint.specs.declared.Endpoint.{Endpoint}
use Rattle.endpoint_version.specs.Values.{IsEvent, IsEntry}
use Rattle.endpoint_version.proofs.Unseen.{anew, seen_anew}
use Rattle.endpoint_version.proofs.Values.{anew_value}
use Rattle.spectator_rules.specs.declared.PlayerInput.{PlayerInput}
use Rattle.spectator_rules.specs.declared.SessionEntry.{SessionEntry}
use Rattle.spectator_rules.specs.declared.SessionEvent.{SessionEvent}
use Rattle.spectator_rules.specs.declared.SessionState.TheVariants.{Running}
use Rattle.spectator_rules.specs.Inputs.{place_of, input_stored}
use Rattle.spectator_rules.specs.Watch.{Watch, with_host, with_state}
use Rattle.spectator_rules.specs.Handling.{event_added, announce, input_handled, on_event, handled, handled_all}
use Rattle.spectator_rules.specs.Call.{Call}
use Rattle.spectator_rules.specs.Step.{Did, refused, decided, host_acts, host_takes, poll_refusal, polled, poll_step, step}
use Rattle.spectator_invariant.specs.Seated.{Seated}
use Rattle.spectator_invariant.proofs.Slots.{each_set}
use Rattle.spectator_invariant.proofs.Seated.{act_typed}
use Rattle.spectator.specs.declared.SpectatorSession.{SpectatorSession}
use Rattle.fixed_vec.specs.FixedVec.{held}
use Rattle.spectator.specs.Stores.{inputs_of, events_of}
use Rattle.spectator.specs.Session.{seen}
use Rattle.spectator_version.specs.Values.{IsPlayerInput, IsSessionEvent, IsSessionEntry, IsSession}

-- ---- the setup of its endpoint, and the number of the statuses there

pub record Stays (s x : Seen) : Type 0 where
  pub setup : x.setup ≡ s.setup
  pub players : length x.statuses ≡ length s.statuses

stays_same : (s : Seen) → Stays s s
stays_same s = record { setup = refl; players = refl }

stays_on : (s x y : Seen) → Stays s x → Stays x y → Stays s y
stays_on s x y h k = record { setup = k.setup ∙ h.setup; players = k.players ∙ h.players }

-- no call of the endpoint changes them
call_stays : (c : HostCall) (s : Seen) → Stays s (host_step c s).after
call_stays c s = record { setup = step_setup c s; players = step_players c s }

handled-stays : (x : Entry) (w : Watch) → Stays w.host (handled x w).host
unfolding handled announce input_handled host_step
handled-stays x w = go x.event
  where
    go : (e : Event) → Stays w.host (on_event e x.input w).host
    go (Event.Synchronizing total count) = stays_same w.host
    go Event.Synchronized = stays_same w.host
    go (Event.Input frame player) = call_stays (HostCall.update_local_frame_advantage frame) w.host
    go Event.Disconnected = stays_same w.host
    go (Event.NetworkInterrupted timeout) = stays_same w.host
    go Event.NetworkResumed = stays_same w.host

all_stay : (l : List Entry) (w : Watch) → Stays w.host (handled_all l w).host
unfolding handled_all
all_stay [] w = stays_same w.host
all_stay (x ∷ l) w = stays_on w.host (handled x w).host (handled_all l (handled x w)).host (handled-stays x w) (all_stay l (handled x w))

module _ (now epoch nonce buffer : ℕ) (w : Watch) where
  -- what its endpoint is asked first: to act, with the session's copy of the statuses. Its old events are aside
  abbrev act_call : HostCall
  act_call = HostCall.act (length w.statuses) w.statuses now epoch nonce buffer

  acts_stay : Stays w.host (host_acts now epoch nonce buffer w).after
  unfolding host_acts host_step
  acts_stay = let k = call_stays act_call (with_events [] w.host) in record { setup = k.setup; players = k.players }

  takes_stay : Stays w.host (host_takes buffer (host_acts now epoch nonce buffer w)).after
  unfolding host_takes host_step
  takes_stay = stays_on w.host (host_acts now epoch nonce buffer w).after _ acts_stay (call_stays (HostCall.take_messages buffer) (host_acts now epoch nonce buffer w).after)

  pub poll_stays : Stays w.host (step (Call.poll_remote_clients now epoch nonce buffer) w).after.host
  unfolding step poll_step decided refused polled
  poll_stays =
      let begins : Watch = with_host (with_events [] (host_takes buffer (host_acts now epoch nonce buffer w)).after) w in
      let all : List Entry = w.host.events ++ (host_acts now epoch nonce buffer w).after.events in
      let takes : Stays w.host begins.host = record { setup = takes_stay.setup; players = takes_stay.players } in
      by_pick (λ (d : Did). Stays w.host d.after.host) (eqb (poll_refusal now epoch nonce buffer w) 0) (polled now epoch nonce buffer w) (refused (poll_refusal now epoch nonce buffer w) w)
      (λ _. stays_on w.host begins.host (handled_all all begins).host takes (all_stay all begins))
      (λ _. stays_same w.host)

-- ---- values: of a session's endpoint its peer's number, its queue and its events; the session's inputs and events

pub record Held (w : Watch) : Type 0 where
  pub peer : IsU32 w.host.setup.peer
  pub queued : IsU64 w.host.queued
  pub entries : Each IsEntry w.host.events
  pub inputs : Each (λ (x : PlayerInput). Bytes x.input) w.inputs
  pub events : Each IsSessionEntry w.events

-- of a list's front, its rest, and its last ones; and of the first of two lists
each_take : {X : Type 0} (P : X → Type 0) (n : ℕ) (l : List X) → Each P l → Each P (take n l)
unfolding Each
each_take P zero l h = tt
each_take P (suc n) [] h = tt
each_take P (suc n) (x ∷ l) h = (h.0, each_take P n l h.1)

each_front : {X : Type 0} (P : X → Type 0) (l m : List X) → Each P (l ++ m) → Each P l
unfolding Each
each_front P [] m h = tt
each_front P (x ∷ l) m h = (h.0, each_front P l m h.1)

-- what holds of every element for two reasons
pub each_both : {X : Type 0} (P Q R : X → Type 0) → ((x : X) → P x → Q x → R x) → (l : List X) → Each P l → Each Q l → Each R l
unfolding Each
each_both P Q R f [] h k = tt
each_both P Q R f (x ∷ l) h k = (f x h.0 k.0, each_both P Q R f l h.1 k.1)

-- one more event
announce_held : (x : SessionEvent) → IsSessionEvent x → (w : Watch) → Held w → Held (announce x w)
unfolding announce event_added Each
announce_held x i w h =
    let e : SessionEntry = record { addr = w.host.setup.peer; event = x } in
    record {
      peer = h.peer;
      queued = h.queued;
      entries = h.entries;
      inputs = h.inputs;
      events = each_last IsSessionEntry (min w.limits.session_events most_session_events) (w.events ++ e ∷ []) (each_append IsSessionEntry w.events (e ∷ []) h.events ((h.peer, i), tt));
    }

-- the update of the advantage leaves all but the quality
abbrev Left : Seen → HostDid → Type 0
Left s d = (d.after.setup ≡ s.setup) × (d.after.queued ≡ s.queued) × (d.after.events ≡ s.events)

updated_left : (f : ℕ) (s : Seen) → Left s (host_changed (advantage_updated f s))
unfolding advantage_updated local_advantage
updated_left f s = by_cases (both_known f s) (Left s (host_changed (advantage_updated f s))) (λ h. rw h (refl, refl, refl)) (λ h. rw h (refl, refl, refl))

advantage_left : (f : ℕ) (s : Seen) → Left s (advantage_step f s)
unfolding advantage_step host_refused
advantage_left f s = tested-both _ s _ (Left s) (λ k. (refl, refl, refl)) (λ _. updated_left f s)

input_held : (frame player : ℕ) (input : List ℕ) → Bytes input → (w : Watch) → Held w → Held (input_handled frame player input w)
unfolding input_handled input_stored
input_held frame player input b w h =
    let left = advantage_left frame w.host in
    record {
      peer = rw left.0 h.peer;
      queued = rw left.1 h.queued;
      entries = rw left.2 h.entries;
      inputs = each_set (λ (x : PlayerInput). Bytes x.input) w.inputs (place_of w.limits.slots frame player) (record { frame = frame; input = input }) h.inputs b;
      events = h.events;
    }

-- one event, and all
handled_held : (x : Entry) → IsEntry x → (w : Watch) → Held w → Held (handled x w)
unfolding handled
handled_held x i w h = go x.event i.event
  where
    running : Held (with_state Running w)
    running = record { peer = h.peer; queued = h.queued; entries = h.entries; inputs = h.inputs; events = h.events }

    go : (e : Event) → IsEvent e → Held (on_event e x.input w)
    go (Event.Synchronizing total count) k = announce_held (SessionEvent.Synchronizing total count) k w h
    go Event.Synchronized k = announce_held SessionEvent.Synchronized tt (with_state Running w) running
    go (Event.Input frame player) k = input_held frame player x.input i.bytes w h
    go Event.Disconnected k = announce_held SessionEvent.Disconnected tt w h
    go (Event.NetworkInterrupted timeout) k = announce_held (SessionEvent.NetworkInterrupted timeout) k w h
    go Event.NetworkResumed k = announce_held SessionEvent.NetworkResumed tt w h

all_held : (l : List Entry) → Each IsEntry l → (w : Watch) → Held w → Held (handled_all l w)
unfolding handled_all Each
all_held [] i w h = h
all_held (x ∷ l) i w h = all_held l i.1 (handled x w) (handled_held x i.0 w h)

-- of a session that is a value
pub session_held : (s : SpectatorSession) → IsSession s → Held (seen s)
unfolding seen seen_host inputs_of events_of held held_events terms_with
session_held s i =
    record {
      peer = i.host.setup.peer;
      queued = i.host.queued;
      entries = each_take IsEntry s.host.events.entries.count s.host.events.entries.list i.host.events.entries;
      inputs = each_take (λ (x : PlayerInput). Bytes x.input) s.inputs.entries.count s.inputs.entries.list
          (each_also IsPlayerInput (λ (x : PlayerInput). Bytes x.input) (λ x k. k.bytes) s.inputs.entries.list i.inputs.inputs);
      events = each_take IsSessionEntry s.events.entries.count s.events.entries.list i.events.entries;
    }

-- ---- a poll

module _ (s : SpectatorSession) (i : IsSession s) (h : Seated (seen s)) (now epoch nonce buffer : ℕ) (t : TypedPlace now epoch nonce buffer) where
  -- its endpoint without the old events
  abbrev aside : Endpoint
  aside = anew s.host (host_step HostCall.take_events (seen_host s.host)).after

  aside_seen : seen_host aside ≡ with_events [] (seen s).host
  unfolding seen host_step
  aside_seen = seen_anew s.host i.host HostCall.take_events

  -- what its act leaves
  acts_value : IsU64 (host_acts now epoch nonce buffer (seen s)).after.queued × Each IsEntry (host_acts now epoch nonce buffer (seen s)).after.events
  unfolding seen host_acts host_step
  acts_value =
      let act : HostCall = act_call now epoch nonce buffer (seen s) in
      let sound : Sound (with_events [] (seen s).host) = step_sound HostCall.take_events tt (seen s).host h.host in
      let v = anew_value aside (anew_value s.host i.host h.host HostCall.take_events tt) (rw aside_seen sound) act (act_typed (seen s) h now epoch nonce buffer t) in
      (rw aside_seen at v.queued, rw aside_seen at (each_front IsEntry (host_step act (seen_host aside)).after.events _ v.events.entries))

  takes_queued : IsU64 (host_takes buffer (host_acts now epoch nonce buffer (seen s))).after.queued
  unfolding host_takes take_step host_refused
  takes_queued = tested-both _ (host_acts now epoch nonce buffer (seen s)).after _ (λ d. IsU64 d.after.queued) (λ _. acts_value.0) (λ _. omega arith)

  pub poll_held : Held (step (Call.poll_remote_clients now epoch nonce buffer) (seen s)).after
  unfolding step poll_step decided refused polled Each
  poll_held =
      let before : Held (seen s) = session_held s i in
      let begins : Watch = with_host (with_events [] (host_takes buffer (host_acts now epoch nonce buffer (seen s))).after) (seen s) in
      let all : List Entry = (seen s).host.events ++ (host_acts now epoch nonce buffer (seen s)).after.events in
      let held : Held begins
      = record { peer = rw (takes_stay now epoch nonce buffer (seen s)).setup before.peer; queued = takes_queued; entries = tt; inputs = before.inputs; events = before.events } in
      by_pick (λ (d : Did). Held d.after) (eqb (poll_refusal now epoch nonce buffer (seen s)) 0) (polled now epoch nonce buffer (seen s)) (refused (poll_refusal now epoch nonce buffer (seen s)) (seen s))
      (λ _. all_held all (each_append IsEntry (seen s).host.events _ before.entries acts_value.1) begins held)
      (λ _. before)
