-- Handling the host's events one after the other keeps what holds: each is announced on, or an Input that is not below the newest frame.
use mathlib.Core.List.{List, [], ◌∷◌, ◌++◌}
use mathlib.Core.Path.{◌≡◌, refl, ◌∙◌}
use Prim.Native.Nat.{ℕ, suc, ◌+◌, ◌*◌, ◌^◌, ◌≤◌, ◌<◌, min}
use native.Mathlib.Omega.{arith}
use lib.Dec.{eqb}
use lib.ListN.{length, get_or, length-set}
use Rattle.base.proofs.Last.{last_few}
use Rattle.base.specs.Pick.{pick}
use Rattle.history.specs.History.{newest_of}
use Rattle.events.specs.declared.Entry.{Entry}
use Rattle.events.specs.declared.Event.{Event}
use Rattle.setup.specs.Setup.{Terms}
use Rattle.endpoint_rules.specs.Seen.{Seen}
use Rattle.endpoint_rules.specs.Did.{Did, refused}
use Rattle.endpoint_rules.specs.Advantage.{both_known, local_advantage, advantage_updated}
use Rattle.endpoint_rules.specs.Call as Host
use Rattle.endpoint_rules.specs.Step.{changed, advantage_step, step}
use Rattle.endpoint_rules.proofs.Tested.{tested-both}
use Rattle.endpoint_invariant.specs.Sound.{Sound}
use Rattle.endpoint_invariant.proofs.Eaches.{each_also}
use Rattle.endpoint_invariant.proofs.Leaves.{by_cases}
use Rattle.endpoint_invariant.proofs.Sound.{step_sound}
use Rattle.spectator_rules.specs.declared.PlayerInput.{PlayerInput}
use Rattle.spectator_rules.specs.declared.SessionEntry.{SessionEntry}
use Rattle.spectator_rules.specs.declared.SessionEvent.{SessionEvent}
use Rattle.spectator_rules.specs.declared.SessionState.TheVariants.{Running}
use Rattle.spectator_rules.specs.Inputs.{blank_input, slot_of, place_of, input_stored}
use Rattle.spectator_rules.specs.Watch.{Watch, with_state, with_events}
use Rattle.spectator_rules.specs.Handling.{event_added, announce, input_handled, handled, handled_all}
use Rattle.spectator_invariant.specs.Seated.{Rising, SeatedInput, SeatedOwn, frame_at}
use Rattle.spectator_invariant.proofs.Slots.{each_set, each_get, Others, stored_due, stored_whole, stored_stock}
use Rattle.spectator_invariant.proofs.Rising.{next_least, rising_most}

-- what stands at a place is of no frame above the newest; a blank place holds frame -1
pub held_most : (w : Watch) → SeatedOwn w → (i : ℕ) → (get_or w.inputs i blank_input).frame ≤ w.newest
unfolding blank_input
held_most w h i =
    (each_get (SeatedInput w.newest) w.inputs i blank_input h.inputs (record { low = omega arith; high = omega (arith, h.current, h.newest); size = refl })).high

-- ---- between two events: the host's setup and newest frame stay, what was announced is out of it, and the rest is to come

pub record Midway (t : Terms) (top : ℕ) (rest : List Entry) (w : Watch) : Type 0 where
  pub terms : w.host.setup ≡ t
  pub level : newest_of w.host.carried.receiver.history ≡ top
  pub host : Sound w.host
  pub own : SeatedOwn w
  pub none : w.host.events ≡ []
  -- the player due; the newest frame stands at the places of those before, and every other slot holds one frame
  pub due : ℕ
  pub there : (player : ℕ) → player < due → frame_at (slot_of w.limits.slots w.newest) player w.inputs ≡ w.newest
  pub others : Others w.limits.slots t.players due w.newest w.inputs
  pub coming : Rising t.players w.newest due top rest

-- ---- announcing

announced_few : (most : ℕ) (x : SessionEntry) (l : List SessionEntry) → length (event_added most x l) ≤ most
unfolding event_added
announced_few most x l = omega (arith, last_few (min most 128) (l ++ x ∷ []))

events_own : (w : Watch) (l : List SessionEntry) → length l ≤ w.limits.session_events → SeatedOwn w → SeatedOwn (with_events l w)
events_own w l n h = search

announce_midway : (t : Terms) (top : ℕ) (x : SessionEvent) (rest : List Entry) (w : Watch) → Midway t top rest w → Midway t top rest (announce x w)
unfolding announce
announce_midway t top x rest w h = record { terms = h.terms; level = h.level; host = h.host; own = events_own w _ (announced_few _ _ w.events) h.own; none = h.none; due = h.due; there = h.there; others = h.others; coming = h.coming }

running_midway : (t : Terms) (top : ℕ) (rest : List Entry) (w : Watch) → Midway t top rest w → Midway t top rest (with_state Running w)
running_midway t top rest w h =
    let o = h.own in
    let own : SeatedOwn (with_state Running w) = search in
    record { terms = h.terms; level = h.level; host = h.host; own = own; none = h.none; due = h.due; there = h.there; others = h.others; coming = h.coming }

-- ---- an Input

-- the update of the advantage leaves all but the quality
abbrev Left : Seen → Did → Type 0
Left s d = (d.after.setup ≡ s.setup) × (d.after.carried ≡ s.carried) × (d.after.events ≡ s.events)

updated_left : (f : ℕ) (s : Seen) → Left s (changed (advantage_updated f s))
unfolding advantage_updated local_advantage
updated_left f s = by_cases (both_known f s) (Left s (changed (advantage_updated f s))) (λ h. rw h (refl, refl, refl)) (λ h. rw h (refl, refl, refl))

advantage_left : (f : ℕ) (s : Seen) → Left s (advantage_step f s)
unfolding advantage_step refused
advantage_left f s = tested-both _ s _ (Left s) (λ k. (refl, refl, refl)) (λ _. updated_left f s)

advantage_sound : (f : ℕ) (s : Seen) → f < 2 ^ 32 → Sound s → Sound (advantage_step f s).after
unfolding step
advantage_sound f s b h = step_sound (Host.Call.update_local_frame_advantage f) b s h

input_midway : (t : Terms) (top frame player : ℕ) (input : List ℕ) (rest : List Entry) (w : Watch) → Midway t top (record { event = Event.Input frame player; input = input } ∷ rest) w
    → Midway t top rest (input_handled frame player input w)
unfolding input_handled input_stored Rising
input_midway t top frame player input rest w h =
    let o = h.own in
    let f = h.coming.0 in
    let most = rising_most t.players frame _ top rest h.coming.1 in
    let low = next_least w.newest h.due frame f.0 in
    let small : frame < 2 ^ 32 = omega (arith, h.level, h.host.receiver.newest) in
    let left = advantage_left frame w.host in
    let sound = advantage_sound frame w.host small h.host in
    let x : PlayerInput = record { frame = frame; input = input } in
    let slots : ℕ = w.limits.slots in
    let four : t.players ≤ 4 = rw h.terms at h.host.setup.players.1 in
    record {
      terms = left.0 ∙ h.terms;
      level = rw left.1 h.level;
      host = sound;
      own = record {
        limits = o.limits;
        places = length-set w.inputs (place_of slots frame player) x ∙ o.places;
        stock =
            stored_stock slots t.players w.inputs o.limits.slots.0 four o.places frame player f.2 input w.newest h.due f.0 f.1 h.others h.there
            (λ slot. held_most w o (slot * 4 + 0)) o.stock;
        inputs =
            each_set (SeatedInput frame) w.inputs (place_of slots frame player) x
            (each_also (SeatedInput w.newest) (SeatedInput frame) (λ x k. record { low = k.low; high = omega (arith, low); size = k.size }) w.inputs o.inputs)
            (record { low = omega (arith, low); high = omega arith; size = f.3 });
        players = sound.players;
        statuses = sound.statuses;
        events = o.events;
        current = o.current;
        newest = omega (arith, low);
        frame = small;
      };
      none = left.2 ∙ h.none;
      due = pick (eqb (suc player) t.players) 0 (suc player);
      there = stored_due slots t.players w.inputs o.limits.slots.0 four o.places frame player f.2 input w.newest h.due f.0 f.1 h.others h.there;
      others = stored_whole slots t.players w.inputs o.limits.slots.0 four o.places frame player f.2 input w.newest h.due f.0 f.1 h.others h.there;
      coming = h.coming.1;
    }

-- ---- one event, and all

pub handled_midway : (t : Terms) (top : ℕ) (x : Entry) (rest : List Entry) (w : Watch) → Midway t top (x ∷ rest) w → Midway t top rest (handled x w)
unfolding handled Rising
handled_midway t top x rest w h = go x.event h
  where
    passed : (l : List Entry) (k : Midway t top l w) → Rising t.players w.newest k.due top rest → Midway t top rest w
    passed l k r =
        record { terms = k.terms; level = k.level; host = k.host; own = k.own; none = k.none; due = k.due; there = k.there; others = k.others; coming = r }

    go : (e : Event) → Midway t top (record { event = e; input = x.input } ∷ rest) w → Midway t top rest (handled (record { event = e; input = x.input }) w)
    go (Event.Synchronizing total count) k = announce_midway t top (SessionEvent.Synchronizing total count) rest w (passed _ k k.coming.1)
    go Event.Synchronized k = announce_midway t top SessionEvent.Synchronized rest (with_state Running w) (running_midway t top rest w (passed _ k k.coming.1))
    go (Event.Input frame player) k = input_midway t top frame player x.input rest w k
    go Event.Disconnected k = announce_midway t top SessionEvent.Disconnected rest w (passed _ k k.coming.1)
    go (Event.NetworkInterrupted timeout) k = announce_midway t top (SessionEvent.NetworkInterrupted timeout) rest w (passed _ k k.coming.1)
    go Event.NetworkResumed k = announce_midway t top SessionEvent.NetworkResumed rest w (passed _ k k.coming.1)

pub all_midway : (t : Terms) (top : ℕ) (l rest : List Entry) (w : Watch) → Midway t top (l ++ rest) w → Midway t top rest (handled_all l w)
unfolding handled_all
all_midway t top [] rest w h = h
all_midway t top (x ∷ l) rest w h = all_midway t top l rest (handled x w) (handled_midway t top x (l ++ rest) w h)
