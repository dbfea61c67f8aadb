-- An endpoint that sends and a box's endpoint are two ends of `endpoint_delivery`: every call of the session is on its endpoint a call, several or none.
use mathlib.Core.Bool.{Bool, true, false}
use mathlib.Core.List.{List, [], ◌∷◌, ◌++◌, append-nil, append_assoc}
use mathlib.Core.Path.{◌≡◌, refl, subst, ◌∙◌}
use Prim.Native.Nat.{ℕ, ◌^◌, ◌<◌}
use native.Mathlib.Omega.{arith}
use lib.Dec.{eqb}
use lib.ListN.{length}
use Rattle.base.specs.Pick.{pick}
use Rattle.base.specs.First.{first_of}
use Rattle.base.proofs.Bools.{neither}
use Rattle.codec.specs.Message.{Wire}
use Rattle.events.specs.declared.Entry.{Entry}
use Rattle.events.specs.declared.Event.{Event}
use Rattle.setup.specs.Setup.{Terms, bad_setup}
use Rattle.timers.specs.Timers.{bad_clock}
use Rattle.endpoint_rules.specs.Seen.{Seen}
use Rattle.endpoint_rules.specs.Did.{Did as HostDid, refused as host_refused}
use Rattle.endpoint_rules.specs.Call as Host
use Rattle.endpoint_rules.specs.Step.{fresh as host_fresh, step as host_step, advantage_step, take_step}
use Rattle.endpoint_rules.proofs.Tested.{tested-both}
use Rattle.endpoint_invariant.specs.Typed.{TypedPlace}
use Rattle.endpoint_invariant.proofs.Choices.{passes}
use Rattle.endpoint_delivery.specs.Runs.{End, next, Run}
use Rattle.spectator_rules.specs.declared.SessionSetup.{SessionSetup}
use Rattle.spectator_rules.specs.Setup.{host_setup, bad_limits, bad_session}
use Rattle.spectator_rules.specs.Watch.{Watch, made_watch}
use Rattle.spectator_rules.specs.Handling.{announce, input_handled, handled, handled_all}
use Rattle.spectator_rules.specs.Advance.{behind_overflows, advance_refusal, advanced}
use Rattle.spectator_rules.specs.Call.{Call}
use Rattle.spectator_rules.specs.Step.{Did, fresh, refused, changed, decided, by_host, host_acts, host_takes, poll_refusal, polled, poll_step, advance_step, frames_behind_step, step}
use Rattle.spectator_invariant.specs.Typed.{Typed}
use Rattle.spectator_invariant.specs.Seated.{Rising, Seated}
use Rattle.spectator_invariant.proofs.Rising.{rising_most}
use Rattle.spectator_invariant.proofs.Handling.{Midway, handled_midway}
use Rattle.spectator_invariant.proofs.Seated.{act_typed, begins, begins_midway, all, top, fresh_seated, step_seated}
use Rattle.spectator_delivery.specs.Viewing.{Box, next_box, end_of, AllowedBox, Showing, Viewing}

-- a run of a box with an end is one of the box, whatever it is handed
pub viewing_shows : {a : End} {x : Box} → Viewing a x → Showing x
viewing_shows (Viewing.begin g h now then tg th zg zh m) = Showing.begin h then th zh
viewing_shows (Viewing.at_end v c t q) = viewing_shows v
viewing_shows (Viewing.at_box v c t q) = Showing.more (viewing_shows v) c t

-- and its session is seated
pub showing_seated : {x : Box} → Showing x → Seated x.watch
showing_seated (Showing.begin g now t z) = fresh_seated g now t z
showing_seated (Showing.more s c t) = step_seated c t _ (showing_seated s)

-- ---- a poll

-- an end that accepted nothing
abbrev ended : Seen → List Wire → List Entry → End
ended s queued taken = record { state = s; queued = queued; taken = taken; accepted = [] }

-- an update of the advantage queues nothing
update_quiet : (frame : ℕ) (s : Seen) → (advantage_step frame s).out ≡ []
unfolding advantage_step host_refused
update_quiet frame s = tested-both _ s _ (λ (d : HostDid). d.out ≡ []) (λ k. refl) (λ _. refl)

-- nor does taking messages, which leaves the events
take_quiet : (buffer : ℕ) (s : Seen) → ((take_step buffer s).out ≡ []) × ((take_step buffer s).after.events ≡ s.events)
unfolding take_step host_refused
take_quiet buffer s = tested-both _ s _ (λ (d : HostDid). (d.out ≡ []) × (d.after.events ≡ s.events)) (λ k. (refl, refl)) (λ _. (refl, refl))

-- events handled: for each Input an update of the advantage with its frame
module _ {a : End} (queued : List Wire) (taken : List Entry) (t : Terms) (top : ℕ) where
  handled_runs : (x : Entry) (rest : List Entry) (w : Watch) → Midway t top (x ∷ rest) w → Run a (ended w.host queued taken)
      → Run a (ended (handled x w).host queued taken)
  unfolding handled announce input_handled Rising host_step
  handled_runs x rest w m r = go x.event m
    where
      go : (e : Event) → Midway t top (record { event = e; input = x.input } ∷ rest) w → Run a (ended (handled (record { event = e; input = x.input }) w).host queued taken)
      go (Event.Synchronizing total count) k = r
      go Event.Synchronized k = r
      go (Event.Input frame player) k =
          let most = rising_most t.players frame _ top rest k.coming.1 in
          let small : frame < 2 ^ 32 = omega (arith, k.level, k.host.receiver.newest) in
          let c = Host.Call.update_local_frame_advantage frame in
          let e : next c (ended w.host queued taken) ≡ ended (advantage_step frame w.host).after queued taken =
          rw (update_quiet frame w.host, append-nil queued, append-nil taken) in
          subst (Run a) e (Run.at_b r c small tt)
      go Event.Disconnected k = r
      go (Event.NetworkInterrupted timeout) k = r
      go Event.NetworkResumed k = r

  all_run : (l : List Entry) (w : Watch) → Midway t top l w → Run a (ended w.host queued taken) → Run a (ended (handled_all l w).host queued taken)
  unfolding handled_all
  all_run [] w m r = r
  all_run (x ∷ l) w m r = all_run l (handled x w) (handled_midway t top x l w m) (handled_runs x l w m r)

-- the old events are taken, the endpoint acts, its messages are taken and then the new events, and they are handled
module _ (x : Box) (h : Seated x.watch) (now epoch nonce buffer : ℕ) (t : TypedPlace now epoch nonce buffer) where
  abbrev w : Watch
  w = x.watch

  abbrev acts : HostDid
  acts = host_acts now epoch nonce buffer w

  polled_runs : {a : End} → Run a (end_of x)
      → Run a (ended (polled now epoch nonce buffer w).after.host (x.queued ++ (polled now epoch nonce buffer w).out) (x.handled ++ (w.host.events ++ acts.after.events)))
  unfolding polled host_acts host_takes host_step
  polled_runs {a} r =
      let act = Host.Call.act (length w.statuses) w.statuses now epoch nonce buffer in
      let take = Host.Call.take_messages buffer in
      let quiet = take_quiet buffer acts.after in
      let out : (((x.queued ++ []) ++ acts.out) ++ (take_step buffer acts.after).out) ++ [] ≡ x.queued ++ acts.out =
      rw (quiet.0, append-nil x.queued) (append-nil _ ∙ append-nil _) in
      let old : ((x.handled ++ w.host.events) ++ []) ++ [] ≡ x.handled ++ w.host.events = append-nil _ ∙ append-nil _ in
      let taken : (((x.handled ++ w.host.events) ++ []) ++ []) ++ (take_step buffer acts.after).after.events ≡ x.handled ++ (w.host.events ++ acts.after.events) =
      rw (old, quiet.1) (append_assoc x.handled w.host.events acts.after.events) in
      let e : ended (begins w h now epoch nonce buffer t).host ((((x.queued ++ []) ++ acts.out) ++ (take_step buffer acts.after).out) ++ [])
      ((((x.handled ++ w.host.events) ++ []) ++ []) ++ (take_step buffer acts.after).after.events)
      ≡ ended (begins w h now epoch nonce buffer t).host (x.queued ++ acts.out) (x.handled ++ (w.host.events ++ acts.after.events)) = rw (out, taken) in
      all_run (x.queued ++ acts.out) _ w.host.setup (top w h now epoch nonce buffer t) (all w h now epoch nonce buffer t) (begins w h now epoch nonce buffer t)
      (begins_midway w h now epoch nonce buffer t)
      (subst (Run a) e (Run.at_b (Run.at_b (Run.at_b (Run.at_b r Host.Call.take_events tt tt) act (act_typed w h now epoch nonce buffer t) tt) take t.3 tt) Host.Call.take_events tt tt))

-- ---- every call

module _ {a : End} (x : Box) (h : Seated x.watch) (r : Run a (end_of x)) where
  -- a call that does nothing to the endpoint
  still : Run a (ended x.watch.host (x.queued ++ []) (x.handled ++ []))
  still = rw (append-nil x.queued, append-nil x.handled) r

  decided_still : (n : ℕ) (d : Did) → d.after.host ≡ x.watch.host → d.out ≡ []
      → Run a (ended (decided n x.watch d).after.host (x.queued ++ (decided n x.watch d).out) (x.handled ++ []))
  unfolding decided refused
  decided_still n d e o = go (eqb n 0)
    where
      go : (b : Bool) → Run a (ended (pick {A = Did} b d (refused n x.watch)).after.host (x.queued ++ (pick {A = Did} b d (refused n x.watch)).out) (x.handled ++ []))
      go true = rw (e, o) still
      go false = still

  call_runs : (c : Call) → Typed c → AllowedBox c a.queued → Run a (end_of (next_box c x))
  unfolding step by_host poll_step decided refused advance_step frames_behind_step host_step
  call_runs (Call.synchronize now epoch nonce buffer) t q = Run.at_b r (Host.Call.synchronize now epoch nonce buffer) t tt
  call_runs (Call.message from count m now epoch nonce buffer) t q = Run.at_b r (Host.Call.message from count m now epoch nonce buffer) t q
  call_runs (Call.datagram from bytes now epoch nonce buffer) t q = Run.at_b r (Host.Call.datagram from bytes now epoch nonce buffer) t q
  call_runs (Call.poll_remote_clients now epoch nonce buffer) t q = go (eqb (poll_refusal now epoch nonce buffer x.watch) 0)
    where
      d : Did
      d = polled now epoch nonce buffer x.watch

      n : Did
      n = refused (poll_refusal now epoch nonce buffer x.watch) x.watch

      go : (b : Bool)
          → Run a (ended (pick b d n).after.host (x.queued ++ (pick b d n).out) (x.handled ++ pick b (x.watch.host.events ++ (host_acts now epoch nonce buffer x.watch).after.events) []))
      go true = polled_runs x h now epoch nonce buffer t r
      go false = still
  call_runs Call.advance_frame t q = decided_still (advance_refusal x.watch) (changed (advanced x.watch)) refl refl
  call_runs (Call.take_messages buffer) t q = Run.at_b r (Host.Call.take_messages buffer) t tt
  call_runs Call.take_events t q = still
  call_runs (Call.network_stats epoch) t q = Run.at_b r (Host.Call.network_stats epoch) t tt
  call_runs Call.frames_behind_host t q = decided_still (first_of ((behind_overflows x.watch, 6) ∷ [])) (changed x.watch) refl refl
  call_runs Call.current_state t q = still
  call_runs Call.current_frame t q = still
  call_runs Call.num_players t q = still

-- ---- every run

-- a session's endpoint is made as `new` makes one of its setup
pub made-taken : (g : SessionSetup) (now : ℕ) → (fresh g now).0 ≡ 0 → (host_fresh (host_setup g) now).0 ≡ 0
unfolding fresh host_fresh bad_session
made-taken g now z =
    let c = passes (bad_clock now) 7 _ z in
    let b = neither (bad_setup (host_setup g)) (bad_limits g.limits) (passes (bad_session g) 0 0 c.1).0 in
    rw (c.0, b.0)

-- that there is a run of two ends which ends at the sending end and the box's endpoint; which calls of the endpoint a call of the session stands for is in its
-- proof (`polled_runs`, `call_runs`)
pub viewing_runs : {a : End} {x : Box} → Viewing a x → Run a (end_of x)
unfolding fresh host_fresh made_watch
viewing_runs (Viewing.begin g h now then tg th zg zh m) = Run.begin g (host_setup h) now then tg th zg (made-taken h then zh) m
viewing_runs (Viewing.at_end v c t q) = Run.at_a (viewing_runs v) c t q
viewing_runs (Viewing.at_box {x = x} v c t q) = call_runs x (showing_seated (viewing_shows v)) (viewing_runs v) c t q
