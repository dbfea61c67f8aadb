-- Over every run of a session from `new`: the events handled rise up to the newest frame, and what an advance hands back came with them.
use borrow.Author.Tests.{eqb-true, eqb-false}
use mathlib.Core.Bool.{Bool, true, false}
use mathlib.Core.List.Memᴰ.{append_left as mem-left}
use mathlib.Core.List.Memᴰ.{append_right as mem-right}
use mathlib.Core.List.Memᴰ.{head as here}
use mathlib.Core.List.{List, [], ◌∷◌, ◌++◌, append-nil, append_assoc, Memᴰ as Mem}
use mathlib.Core.Logic.{◌⊎◌, inl, inr}
use mathlib.Core.Path.{◌≡◌, refl, sym, ap, ◌∙◌}
use Prim.Native.Nat.{ℕ, suc, ◌+◌, ◌*◌, ◌≤◌, ◌<◌, min}
use native.Mathlib.Omega.{arith}
use lib.Dec.{eqb}
use lib.ListN.{length, set, get_or}
use lib.Seq.{get_or-set_same, get_or-set_other}
use Rattle.base.specs.Pick.{pick}
use Rattle.base.specs.First.{first_of}
use Rattle.frame.specs.Bias.{null_frame}
use Rattle.events.specs.declared.Entry.{Entry}
use Rattle.events.specs.declared.Event.{Event}
use Rattle.setup.specs.Setup.{Terms, terms_with}
use Rattle.endpoint_rules.specs.Seen.{made}
use Rattle.endpoint_invariant.specs.Each.{Each}
use Rattle.endpoint_invariant.proofs.Choices.{by_pick}
use Rattle.endpoint_invariant.specs.Typed.{TypedPlace}
use Rattle.spectator_rules.specs.declared.PlayerInput.{PlayerInput}
use Rattle.spectator_rules.specs.declared.SessionSetup.{SessionSetup}
use Rattle.spectator_rules.specs.Inputs.{blank_input, fresh_inputs, slot_of, input_stored, player_input_at}
use Rattle.spectator_rules.specs.Setup.{host_setup}
use Rattle.spectator_rules.specs.Watch.{Watch, made_watch}
use Rattle.spectator_rules.specs.Advance.{behind_overflows, frames_to_advance, synced_at, advance_refusal, advanced}
use Rattle.spectator_rules.specs.Call.{Call}
use Rattle.spectator_rules.specs.Step.{Did, fresh, refused, changed, decided, by_host, host_acts, poll_refusal, polled, poll_step, advance_step, frames_behind_step, step}
use Rattle.spectator_rules.specs.Handling.{announce, input_handled, handled, handled_all}
use Rattle.spectator_invariant.specs.Typed.{Typed, TypedSession}
use Rattle.spectator_invariant.specs.Seated.{Rising, Seated, ran}
use Rattle.spectator_invariant.specs.Handled.{handled_by, all_handled, input_event, Came}
use Rattle.spectator_invariant.proofs.Rising.{rising-append, rising_once}
use Rattle.spectator_invariant.proofs.Announcing.{synchronize_announces, message-announces, datagram-announces, stats_announces, take-announces}
use Rattle.spectator_invariant.proofs.Slots.{at_small}
use Rattle.spectator_invariant.proofs.Handling.{Midway, handled_midway}
use Rattle.spectator_invariant.proofs.Advancing.{advance_there}
use Rattle.spectator_invariant.proofs.Seated.{blank_frame_lem, few, all, top, begins, all_rise, begins_midway, ends_midway, fresh_seated, step_seated, reached_seated}

-- ---- one event

more_came : (events more : List Entry) (l : List PlayerInput) → Came events l → Came (events ++ more) l
more_came events more l h slot player b = elim (h slot player b) [ inl e ↦ inl e | inr m ↦ inr (mem-left {s = events} more m) ]

stored_came : (events : List Entry) (l : List PlayerInput) (at player : ℕ) (x : PlayerInput) → player < 4 → at * 4 + player < length l → Came events l
    → Came (events ++ input_event player x ∷ []) (set l (at * 4 + player) x)
stored_came events l at player x few within h slot p b = go (eqb (slot * 4 + p) (at * 4 + player)) refl
  where
    Holds : PlayerInput → Type 0
    Holds y = (y.frame ≡ null_frame) ⊎ Mem (input_event p y) (events ++ input_event player x ∷ [])

    go : (t : Bool) → eqb (slot * 4 + p) (at * 4 + player) ≡ t → Holds (get_or (set l (at * 4 + player) x) (slot * 4 + p) blank_input)
    go true q =
        let e = eqb-true (slot * 4 + p) (at * 4 + player) q in
        let same : player ≡ p = omega arith in
        rw (e, get_or-set_same l (at * 4 + player) x blank_input within) (inr (mem-right events (here (ap (λ (n : ℕ). input_event n x) (sym same)))))
    go false q =
        rw (get_or-set_other l (at * 4 + player) (slot * 4 + p) x blank_input (eqb-false (slot * 4 + p) (at * 4 + player) q))
        (more_came events (input_event player x ∷ []) l h slot p b)

module _ (t : Terms) (top : ℕ) where
  handled_came : (x : Entry) (rest events : List Entry) (w : Watch) → Midway t top (x ∷ rest) w → Came events w.inputs → Came (events ++ x ∷ []) (handled x w).inputs
  unfolding handled announce input_handled input_stored Rising
  handled_came x rest events w m h = go x.event m
    where
      same : (e : Event) → Came (events ++ record { event = e; input = x.input } ∷ []) w.inputs
      same e = more_came events (record { event = e; input = x.input } ∷ []) w.inputs h

      go : (e : Event) → Midway t top (record { event = e; input = x.input } ∷ rest) w
          → Came (events ++ record { event = e; input = x.input } ∷ []) (handled (record { event = e; input = x.input }) w).inputs
      go (Event.Synchronizing total count) k = same (Event.Synchronizing total count)
      go Event.Synchronized k = same Event.Synchronized
      go (Event.Input frame player) k =
          let four : t.players ≤ 4 = rw k.terms at k.host.setup.players.1 in
          let f = k.coming.0 in
          let at : ℕ = slot_of w.limits.slots frame in
          let small = at_small w.limits.slots t.players w.inputs k.own.limits.slots.0 four k.own.places frame player f.2 x.input in
          stored_came events w.inputs at player (record { frame = frame; input = x.input }) (omega arith) (omega (arith, k.own.places)) h
      go Event.Disconnected k = same Event.Disconnected
      go (Event.NetworkInterrupted timeout) k = same (Event.NetworkInterrupted timeout)
      go Event.NetworkResumed k = same Event.NetworkResumed

  all_came : (l rest events : List Entry) (w : Watch) → Midway t top (l ++ rest) w → Came events w.inputs → Came (events ++ l) (handled_all l w).inputs
  unfolding handled_all
  all_came [] rest events w m h = rw append-nil h
  all_came (x ∷ l) rest events w m h =
      rw (← append_assoc events (x ∷ []) l)
      (all_came l rest (events ++ x ∷ []) (handled x w) (handled_midway t top x (l ++ rest) w m) (handled_came x (l ++ rest) events w m h))

-- ---- a call

-- what is handled rises from the newest before to the newest after it, and the inputs came with it
pub record Kept (w : Watch) (events l : List Entry) (x : Watch) : Type 0 where
  pub terms : x.host.setup ≡ w.host.setup
  pub rises : Rising w.host.setup.players w.newest 0 x.newest l
  pub came : Came (events ++ l) x.inputs

module _ (w : Watch) (h : Seated w) (events : List Entry) (so : Came events w.inputs) where
  quiet : (x : Watch) → x.host.setup ≡ w.host.setup → x.newest ≡ w.newest → x.inputs ≡ w.inputs → Kept w events [] x
  unfolding Rising
  quiet x e n i = record { terms = e; rises = (refl, sym n); came = rw (append-nil, i) so }

  polled-kept : (now epoch nonce buffer : ℕ) → TypedPlace now epoch nonce buffer
      → Kept w events (w.host.events ++ (host_acts now epoch nonce buffer w).after.events) (polled now epoch nonce buffer w).after
  unfolding polled Rising
  polled-kept now epoch nonce buffer t =
      let m = ends_midway w h now epoch nonce buffer t in
      record {
        terms = m.terms;
        rises = rw m.coming.1 (all_rise w h now epoch nonce buffer t);
        came =
            all_came w.host.setup (top w h now epoch nonce buffer t) (all w h now epoch nonce buffer t) [] events (begins w h now epoch nonce buffer t)
            (rw append-nil (begins_midway w h now epoch nonce buffer t)) so;
      }

  -- a call that leaves the session as it was, or does nothing to its inputs
  decided_quiet : (n : ℕ) (d : Did) → Kept w events [] d.after → Kept w events [] (decided n w d).after
  unfolding decided refused
  decided_quiet n d k = by_pick (λ (x : Did). Kept w events [] x.after) (eqb n 0) d (refused n w) (λ _. k) (λ _. quiet w refl refl refl)

  pub call_kept : (c : Call) → Typed c → Kept w events (handled_by c w) (step c w).after
  unfolding step by_host poll_step decided refused advance_step frames_behind_step
  call_kept (Call.synchronize now epoch nonce buffer) t = quiet _ (synchronize_announces w.host h.host (few w h) now epoch nonce buffer).setup refl refl
  call_kept (Call.message from count m now epoch nonce buffer) t = quiet _ (message-announces w.host h.host (few w h) from count m now epoch nonce buffer).setup refl refl
  call_kept (Call.datagram from bytes now epoch nonce buffer) t = quiet _ (datagram-announces w.host h.host (few w h) from bytes now epoch nonce buffer).setup refl refl
  call_kept (Call.poll_remote_clients now epoch nonce buffer) t = go (eqb (poll_refusal now epoch nonce buffer w) 0)
    where
      go : (b : Bool) → Kept w events (pick b (w.host.events ++ (host_acts now epoch nonce buffer w).after.events) [])
          (pick {A = Did} b (polled now epoch nonce buffer w) (refused (poll_refusal now epoch nonce buffer w) w)).after
      go true = polled-kept now epoch nonce buffer t
      go false = quiet w refl refl refl
  call_kept Call.advance_frame t = decided_quiet (advance_refusal w) (changed (advanced w)) (quiet (advanced w) refl refl refl)
  call_kept (Call.take_messages buffer) t = quiet _ (take-announces w.host h.host (few w h) buffer).setup refl refl
  call_kept Call.take_events t = quiet _ refl refl refl
  call_kept (Call.network_stats epoch) t = quiet _ (stats_announces w.host h.host (few w h) epoch).setup refl refl
  call_kept Call.frames_behind_host t = decided_quiet (first_of ((behind_overflows w, 6) ∷ [])) (changed w) (quiet w refl refl refl)
  call_kept Call.current_state t = quiet w refl refl refl
  call_kept Call.current_frame t = quiet w refl refl refl
  call_kept Call.num_players t = quiet w refl refl refl

  -- what stands for a player at a frame of an advance is what was announced of that frame for that player
  pub advance_came : advance_refusal w ≡ 0 → (i player : ℕ) → i < frames_to_advance w → player < w.host.setup.players
      → Mem (input_event player (record { frame = suc w.current + i; input = (synced_at (suc w.current + i) player w).input })) events
  unfolding player_input_at synced_at
  advance_came r i player b c =
      let frame : ℕ = suc w.current + i in
      let e : (player_input_at w.limits.slots frame player w.inputs).frame ≡ frame = advance_there w h r i player b c in
      elim (so (slot_of w.limits.slots frame) player (omega (arith, h.host.setup.players.1)))
      [ inl k ↦ absurd (omega (arith, h.own.current, e, k)) | inr m ↦ rw e at m ]

-- ---- a run

run_kept : (cs : List Call) → Each Typed cs → (w : Watch) (h : Seated w) (events : List Entry) → Came events w.inputs → Kept w events (all_handled cs w) (ran cs w)
unfolding ran all_handled Each
run_kept [] t w h events came = quiet w h events came w refl refl refl
run_kept (c ∷ cs) t w h events came =
    let k = call_kept w h events came c t.0 in
    let r = run_kept cs t.1 (step c w).after (step_seated c t.0 w h) (events ++ handled_by c w) k.came in
    record {
      terms = r.terms ∙ k.terms;
      rises = rising-append w.host.setup.players w.newest 0 (step c w).after.newest _ (handled_by c w) _ k.rises (rw k.terms at r.rises);
      came = rw (← append_assoc events (handled_by c w) (all_handled cs (step c w).after)) r.came;
    }

-- from `new` on, where every place is blank
pub fresh_came : (g : SessionSetup) (now : ℕ) → Came [] (fresh g now).1.inputs
unfolding fresh made_watch fresh_inputs
fresh_came g now slot player b = inl (blank_frame_lem (min g.limits.slots 64 * 4) (slot * 4 + player))

module _ (g : SessionSetup) (now : ℕ) (t : TypedSession g) (z : (fresh g now).0 ≡ 0) (cs : List Call) (ts : Each Typed cs) where
  abbrev begun : Watch
  begun = (fresh g now).1

  abbrev reached : Watch
  reached = ran cs begun

  kept : Kept begun [] (all_handled cs begun) reached
  kept = run_kept cs ts begun (fresh_seated g now t z) [] (fresh_came g now)

  -- the first frame may be any that is not negative; after it frame by frame without a gap, each once for each player
  pub handled_rises : Rising g.num_players null_frame 0 reached.newest (all_handled cs begun)
  unfolding fresh made_watch made terms_with host_setup
  handled_rises = kept.rises

  -- so Inputs of one frame for one player bring one input
  pub handled_once : (frame player : ℕ) (input other : List ℕ) → Mem (input_event player (record { frame = frame; input = input })) (all_handled cs begun)
      → Mem (input_event player (record { frame = frame; input = other })) (all_handled cs begun) → input ≡ other
  handled_once frame player input other a b = rising_once g.num_players null_frame 0 reached.newest (all_handled cs begun) frame player input other handled_rises a b

  -- what stands for a player at a frame of an advance, which is what it hands back (`advance_gives`), is what was announced of that frame for that player
  pub advance_handled : advance_refusal reached ≡ 0 → (i player : ℕ) → i < frames_to_advance reached → player < reached.host.setup.players
      → Mem (input_event player (record { frame = suc reached.current + i; input = (synced_at (suc reached.current + i) player reached).input })) (all_handled cs begun)
  advance_handled r i player b c = advance_came reached (reached_seated g now t z cs ts) (all_handled cs begun) kept.came r i player b c
