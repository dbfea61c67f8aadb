-- `new` gives what holds of every session, and every call keeps it, with any arguments of the code's types.
use borrow.Author.Tests.{ltb-false, leb-false, eqb-true}
use mathlib.Core.Bool.{false}
use mathlib.Core.List.{List, [], ◌∷◌, ◌++◌, append-nil}
use mathlib.Core.Logic.{inl}
use mathlib.Core.Path.{◌≡◌, refl, sym, ◌∙◌}
use Prim.Native.Nat.{ℕ, zero, suc, ◌+◌, ◌-◌, ◌*◌, ◌^◌, ◌≤◌, ◌<◌, min}
use native.Mathlib.Omega.{arith}
use lib.Dec.{eqb, leb, ltb}
use lib.ListN.{length, take, get_or, replicate, length-replicate}
use Rattle.base.proofs.Bools.{neither}
use Rattle.frame.specs.Bias.{bias32, null_frame}
use Rattle.history.specs.History.{newest_of}
use Rattle.history.proofs.Laws.{start_newest}
use Rattle.events.specs.declared.Entry.{Entry}
use Rattle.events.specs.declared.Event.TheVariants as Event
use Rattle.timers.specs.Timers.{bad_clock}
use Rattle.numbers.specs.Range.{outside}
use Rattle.setup.specs.Setup.{bad_setup, inserted, sorted, terms_with, Between}
use Rattle.setup.proofs.Tests.{none_holds}
use Rattle.endpoint_rules.specs.declared.Phase.TheVariants.{Synchronizing}
use Rattle.endpoint_rules.specs.Seen.{Seen, made, with_events}
use Rattle.endpoint_rules.specs.Did.{Did as HostDid, refused as host_refused}
use Rattle.endpoint_rules.specs.Call as Host
use Rattle.endpoint_rules.specs.Step.{fresh as host_fresh, step as host_step, synchronize_step, message_step, datagram_step, stats_step, take_step}
use Rattle.endpoint_rules.proofs.Tested.{tested-both}
use Rattle.endpoint_invariant.specs.Each.{Each}
use Rattle.endpoint_invariant.specs.Typed.{Typed as HostTyped, TypedPlace}
use Rattle.endpoint_invariant.specs.Sound.{Sound}
use Rattle.endpoint_invariant.proofs.Choices.{passes, by_pick}
use Rattle.endpoint_invariant.proofs.Eaches.{each_replicate}
use Rattle.endpoint_invariant.proofs.Parts.{events_part}
use Rattle.endpoint_invariant.proofs.Sound.{fresh_sound, step_sound}
use Rattle.endpoint_invariant.proofs.Announced.{step-announces}
use Rattle.spectator_rules.specs.declared.Limits.{Limits}
use Rattle.spectator_rules.specs.declared.PlayerInput.{PlayerInput}
use Rattle.spectator_rules.specs.declared.SessionEntry.{SessionEntry}
use Rattle.spectator_rules.specs.declared.SessionSetup.{SessionSetup}
use Rattle.spectator_rules.specs.Setup.{host_setup, bad_limits, bad_session}
use Rattle.spectator_rules.specs.Inputs.{blank_input, fresh_inputs}
use Rattle.spectator_rules.specs.Watch.{Watch, made_watch, with_host}
use Rattle.spectator_rules.specs.Watch as Watch
use Rattle.spectator_rules.specs.Handling.{handled_all}
use Rattle.spectator_rules.specs.Advance.{behind, behind_overflows, frames_to_advance, advance_refusal, advanced}
use Rattle.spectator_rules.specs.Call.{Call}
use Rattle.spectator_rules.specs.Step.{Did, fresh, refused, changed, decided, by_host, host_acts, host_takes, polled, poll_step, advance_step, frames_behind_step, step}
use Rattle.spectator_rules.proofs.PollHandshake.{PollRequests, poll_requests}
use Rattle.spectator_invariant.specs.Typed.{Typed, TypedSession}
use Rattle.spectator_invariant.specs.Seated.{Rising, SeatedLimits, SeatedInput, SeatedOwn, Seated, ran}
use Rattle.spectator_invariant.proofs.Rising.{next_least, Upto, rising-append}
use Rattle.spectator_invariant.proofs.Slots.{each_get}
use Rattle.spectator_invariant.proofs.Announcing.{Announces, synchronize_announces, message-announces, datagram-announces, act_announces, stats_announces, take-announces}
use Rattle.spectator_invariant.proofs.Handling.{Midway, all_midway}
use Rattle.spectator_invariant.proofs.Advancing.{advance_most}

-- ---- new

within : (least greatest n : ℕ) → outside least greatest n ≡ false → Between least greatest n
within least greatest n e = let t = neither _ _ e in (ltb-false n least t.0, ltb-false greatest n t.1)

limits_within : (l : Limits) → bad_limits l ≡ false → SeatedLimits l
unfolding bad_limits
limits_within l e =
    let t = none_holds (outside 2 64 l.slots ∷ outside 1 128 l.session_events ∷ _ ∷ _ ∷ []) e in
    record {
      slots = within 2 64 l.slots t.0;
      events = within 1 128 l.session_events t.1.0;
      behind = ltb-false 65535 l.max_frames_behind t.1.1.0;
      speed = ltb-false 65535 l.catchup_speed t.1.1.1.0;
    }

-- 0 up to players - 1 are in order already
in_order : (n : ℕ) → n ≤ 4 → sorted (take n (0 ∷ 1 ∷ 2 ∷ 3 ∷ [])) ≡ take n (0 ∷ 1 ∷ 2 ∷ 3 ∷ [])
unfolding sorted inserted
in_order zero h = refl
in_order (suc zero) h = refl
in_order (suc (suc zero)) h = refl
in_order (suc (suc (suc zero))) h = refl
in_order (suc (suc (suc (suc zero)))) h = refl
in_order (suc (suc (suc (suc (suc n))))) h = absurd (omega arith)

-- blank places all hold frame -1
pub blank_frame_lem : (n i : ℕ) → (get_or (replicate n blank_input) i blank_input).frame ≡ null_frame
unfolding blank_input
blank_frame_lem n i =
    each_get (λ (x : PlayerInput). x.frame ≡ null_frame) (replicate n blank_input) i blank_input (each_replicate (λ (x : PlayerInput). x.frame ≡ null_frame) n blank_input refl) refl

pub fresh_seated : (g : SessionSetup) (now : ℕ) → TypedSession g → (fresh g now).0 ≡ 0 → Seated (fresh g now).1
unfolding fresh host_fresh made_watch bad_session made terms_with host_setup fresh_inputs blank_input Rising
fresh_seated g now t z =
    let c = passes (bad_clock now) 7 _ z in
    let b = neither (bad_setup (host_setup g)) (bad_limits g.limits) (passes (bad_session g) 0 0 c.1).0 in
    let host = fresh_sound (host_setup g) now t (rw (c.0, b.0)) in
    let l = limits_within g.limits b.1 in
    record {
      host = host;
      handles = in_order g.num_players host.setup.players.1;
      own = record {
        limits = l;
        places = length-replicate (min g.limits.slots 64 * 4) blank_input ∙ omega (arith, l.slots);
        inputs = each_replicate (SeatedInput null_frame) (min g.limits.slots 64 * 4) blank_input (record { low = omega arith; high = omega arith; size = refl });
        stock = λ frame i b e m. absurd (omega arith);
        players = host.players;
        statuses = host.statuses;
        events = omega arith;
        current = omega arith;
        newest = omega arith;
        frame = omega arith;
      };
      whole = λ slot player b c. blank_frame_lem (min g.limits.slots 64 * 4) (slot * 4 + player) ∙ sym (blank_frame_lem (min g.limits.slots 64 * 4) (slot * 4 + 0));
      coming = rw start_newest (refl, omega arith);
    }

-- ---- the calls of the host

-- the session's handles are its players
all_players : (n : ℕ) → n ≤ 4 → Upto n 0 (take n (0 ∷ 1 ∷ 2 ∷ 3 ∷ []))
unfolding Upto
all_players zero h = refl
all_players (suc zero) h = (refl, refl)
all_players (suc (suc zero)) h = (refl, (refl, refl))
all_players (suc (suc (suc zero))) h = (refl, (refl, (refl, refl)))
all_players (suc (suc (suc (suc zero)))) h = (refl, (refl, (refl, (refl, refl))))
all_players (suc (suc (suc (suc (suc n))))) h = absurd (omega arith)

host_own : (s : Seen) (w : Watch) → s.setup ≡ w.host.setup → SeatedOwn w → SeatedOwn (with_host s w)
host_own s w e h = let p : length w.statuses ≡ s.setup.players = rw e h.players in search

module _ (w : Watch) (h : Seated w) where
  by_host_lem : (d : HostDid) → Sound d.after → Announces w.host d → d.after.events ≡ w.host.events ++ d.events → Seated (by_host d w).after
  unfolding by_host
  by_host_lem d s a e =
      record {
        host = s;
        handles = rw a.setup h.handles;
        own = host_own d.after w a.setup h.own;
        whole = rw a.setup h.whole;
        coming = rw (a.setup, e) (rising-append w.host.setup.players w.newest 0 _ _ w.host.events d.events h.coming a.rises);
      }

  pub few : Upto w.host.setup.players 0 w.host.setup.handles
  few = rw h.handles (all_players w.host.setup.players h.host.setup.players.1)

  -- ---- poll

  -- the host with its old events aside
  abbrev aside : Seen
  aside = with_events [] w.host

  aside_sound : Sound aside
  aside_sound = events_part w.host h.host [] (omega arith)

  module _ (now epoch nonce buffer : ℕ) (t : TypedPlace now epoch nonce buffer) where
    abbrev pub acts : HostDid
    acts = host_acts now epoch nonce buffer w

    -- the act is given values of the code's types
    pub act_typed : HostTyped (Host.Call.act (length w.statuses) w.statuses now epoch nonce buffer)
    act_typed = (
      omega (arith, h.own.players, h.host.setup.players.1),
      record { few = omega (arith, h.own.players, h.host.setup.players.1); frames = h.own.statuses },
      t,
    )

    acts_sound : Sound acts.after
    unfolding host_acts host_step
    acts_sound =
        step_sound (Host.Call.act (length w.statuses) w.statuses now epoch nonce buffer) act_typed aside aside_sound

    acts_announces : Announces aside acts
    unfolding host_acts
    acts_announces = act_announces aside aside_sound few (length w.statuses) w.statuses now epoch nonce buffer

    acts_events : acts.after.events ≡ acts.events
    unfolding host_acts host_step
    acts_events = step-announces (Host.Call.act (length w.statuses) w.statuses now epoch nonce buffer) aside

    takes_sound : Sound (host_takes buffer acts).after
    unfolding host_takes host_step
    takes_sound = step_sound (Host.Call.take_messages buffer) t.3 acts.after acts_sound

    abbrev Left : Seen → HostDid → Type 0
    Left s d = (d.after.setup ≡ s.setup) × (d.after.carried ≡ s.carried)

    takes_left : Left acts.after (host_takes buffer acts)
    unfolding host_takes take_step host_refused
    takes_left = tested-both _ acts.after _ (Left acts.after) (λ k. (refl, refl)) (λ _. (refl, refl))

    -- before the first event is handled
    abbrev pub begins : Watch
    begins = with_host (with_events [] (host_takes buffer acts).after) w

    abbrev pub all : List Entry
    all = w.host.events ++ acts.after.events

    abbrev pub top : ℕ
    top = newest_of acts.after.carried.receiver.history

    pub all_rise : Rising w.host.setup.players w.newest 0 top all
    all_rise = rw acts_events (rising-append w.host.setup.players w.newest 0 _ top w.host.events acts.events h.coming acts_announces.rises)

    pub begins_midway : Midway w.host.setup top all begins
    begins_midway =
        let l = takes_left in
        let e : (host_takes buffer acts).after.setup ≡ w.host.setup = l.0 ∙ acts_announces.setup in
        record {
          terms = e;
          level = rw l.1;
          host = events_part (host_takes buffer acts).after takes_sound [] (omega arith);
          own = host_own (with_events [] (host_takes buffer acts).after) w e h.own;
          none = refl;
          due = 0;
          there = λ player b. absurd (omega arith);
          others = λ slot player b c _. h.whole slot player b c;
          coming = all_rise;
        }

    pub ends_midway : Midway w.host.setup top [] (handled_all all begins)
    ends_midway = all_midway w.host.setup top all [] begins (rw append-nil begins_midway)

    polled_seated : Seated (polled now epoch nonce buffer w).after
    unfolding polled Rising
    polled_seated =
        let m = ends_midway in
        record {
          host = m.host;
          handles = rw m.terms h.handles;
          own = m.own;
          whole = rw m.terms (λ slot player b c. m.others slot player b c (inl m.coming.0));
          coming = rw m.none (refl, m.coming.1 ∙ sym m.level);
        }

  -- ---- every call

  decided_seated : (n : ℕ) (d : Did) → (n ≡ 0 → Seated d.after) → Seated (decided n w d).after
  unfolding decided refused
  decided_seated n d f = by_pick (λ (x : Did). Seated x.after) (eqb n 0) d (refused n w) (λ e. f (eqb-true n 0 e)) (λ _. h)

  advanced_seated : advance_refusal w ≡ 0 → Seated (advanced w)
  advanced_seated z =
      let o = h.own in
      let c : null_frame ≤ w.current + frames_to_advance w = omega (arith, o.current) in
      let n = advance_most w o z in
      let own : SeatedOwn (advanced w) = search in
      record { host = h.host; handles = h.handles; own = own; whole = h.whole; coming = h.coming }

  emptied_seated : Seated (Watch.with_events [] w)
  emptied_seated =
      let o = h.own in
      let n : length {A = SessionEntry} [] ≤ w.limits.session_events = omega arith in
      let own : SeatedOwn (Watch.with_events [] w) = search in
      record { host = h.host; handles = h.handles; own = own; whole = h.whole; coming = h.coming }

  call_seated : (c : Call) → Typed c → Seated (step c w).after
  unfolding step host_step poll_step advance_step frames_behind_step
  call_seated (Call.synchronize now epoch nonce buffer) t =
      let c = Host.Call.synchronize now epoch nonce buffer in
      by_host_lem (synchronize_step now epoch nonce buffer w.host) (step_sound c t w.host h.host) (synchronize_announces w.host h.host few now epoch nonce buffer) (step-announces c w.host)
  call_seated (Call.message from count m now epoch nonce buffer) t =
      let c = Host.Call.message from count m now epoch nonce buffer in
      by_host_lem (message_step from count m now epoch nonce buffer w.host) (step_sound c t w.host h.host) (message-announces w.host h.host few from count m now epoch nonce buffer) (step-announces c w.host)
  call_seated (Call.datagram from bytes now epoch nonce buffer) t =
      let c = Host.Call.datagram from bytes now epoch nonce buffer in
      by_host_lem (datagram_step from bytes now epoch nonce buffer w.host) (step_sound c t w.host h.host) (datagram-announces w.host h.host few from bytes now epoch nonce buffer) (step-announces c w.host)
  call_seated (Call.poll_remote_clients now epoch nonce buffer) t = decided_seated _ (polled now epoch nonce buffer w) (λ _. polled_seated now epoch nonce buffer t)
  call_seated Call.advance_frame t = decided_seated (advance_refusal w) (changed (advanced w)) advanced_seated
  call_seated (Call.take_messages buffer) t =
      let c = Host.Call.take_messages buffer in
      by_host_lem (take_step buffer w.host) (step_sound c t w.host h.host) (take-announces w.host h.host few buffer) (step-announces c w.host)
  call_seated Call.take_events t = emptied_seated
  call_seated (Call.network_stats epoch) t =
      let c = Host.Call.network_stats epoch in
      by_host_lem (stats_step epoch w.host) (step_sound c t w.host h.host) (stats_announces w.host h.host few epoch) (step-announces c w.host)
  call_seated Call.frames_behind_host t = decided_seated _ (changed w) (λ _. h)
  call_seated Call.current_state t = h
  call_seated Call.current_frame t = h
  call_seated Call.num_players t = h

pub step_seated : (c : Call) → Typed c → (w : Watch) → Seated w → Seated (step c w).after
step_seated c t w h = call_seated w h c t

pub run_seated : (cs : List Call) → Each Typed cs → (w : Watch) → Seated w → Seated (ran cs w)
unfolding ran Each
run_seated [] t w h = h
run_seated (c ∷ cs) t w h = run_seated cs t.1 (step c w).after (step_seated c t.0 w h)

pub reached_seated : (g : SessionSetup) (now : ℕ) → TypedSession g → (fresh g now).0 ≡ 0 → (cs : List Call) → Each Typed cs → Seated (ran cs (fresh g now).1)
reached_seated g now t z cs ts = run_seated cs ts (fresh g now).1 (fresh_seated g now t z)

-- ---- the source's asserts

-- newest less current is not negative: the number of frames behind is exact
pub behind_exact : (w : Watch) → Seated w → w.current + behind w ≡ w.newest
behind_exact w h = omega (arith, h.own.newest)

-- and it is an i32 where 6 is not given, as it is at newest i32 max and current -1
pub behind_fits : (w : Watch) → Seated w → behind_overflows w ≡ false → behind w < bias32
behind_fits w h e =
    let t = neither (ltb (w.newest + bias32) w.current) (leb (2 ^ 32) (w.newest + bias32 - w.current)) e in
    omega (arith, leb-false (2 ^ 32) (w.newest + bias32 - w.current) t.1, h.own.newest)

-- an Input that a poll handles, after those before it, is of no frame below the newest at that time
pub handled_ascends : (w : Watch) → Seated w → (now epoch nonce buffer : ℕ) → TypedPlace now epoch nonce buffer → (l rest : List Entry) (frame player : ℕ) (input : List ℕ)
    → w.host.events ++ (host_acts now epoch nonce buffer w).after.events ≡ l ++ record { event = Event.Input frame player; input = input } ∷ rest
    → (handled_all l (with_host (with_events [] (host_takes buffer (host_acts now epoch nonce buffer w)).after) w)).newest ≤ frame
unfolding Rising
handled_ascends w h now epoch nonce buffer t l rest frame player input e =
    let m = all_midway w.host.setup (top w h now epoch nonce buffer t) l (record { event = Event.Input frame player; input = input } ∷ rest) (begins w h now epoch nonce buffer t) (rw (sym e) (begins_midway w h now epoch nonce buffer t)) in
    next_least _ m.due frame m.coming.0.0

-- a poll sends the request that is due, whatever is outstanding and however many events wait
pub seated_poll_requests : (w : Watch) → Seated w → (now epoch nonce buffer : ℕ) → now < 2 ^ 62 → epoch < 2 ^ 62 → w.host.phase ≡ Synchronizing
    → w.host.clocks.last_sync_request_time + 200 < now → w.host.queued + 10 ≤ buffer → PollRequests nonce now w (step (Call.poll_remote_clients now epoch nonce buffer) w)
unfolding step
seated_poll_requests w h now epoch nonce buffer tn te phase due room = poll_requests now epoch nonce buffer w tn te h.own.players phase due room
