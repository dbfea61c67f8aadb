-- In firm mode the checksums that a session's endpoint stores are over every run those of the 32 largest frames of the reports that the session takes (E-72, E-75), so at
-- most 32. A session changes its endpoint only by the endpoint's calls, so what each of them keeps, the session keeps.
use mathlib.Core.Bool.{true}
use mathlib.Core.List.{List, [], ◌∷◌, ◌++◌, append-nil, append_assoc}
use mathlib.Core.Path.{◌≡◌, refl, ◌∙◌, ap}
use Prim.Native.Nat.{ℕ, ◌≤◌}
use lib.Dec.{eqb}
use lib.ListN.{length}
use Rattle.base.specs.First.{first_of}
use Rattle.checksums.specs.declared.Checksum.{Checksum}
use Rattle.checksums.specs.Largest.{HoldsLargest}
use Rattle.checksums.proofs.Largest.{none_held, largest_few}
use Rattle.events.specs.declared.Entry.{Entry}
use Rattle.events.specs.declared.Event.{Event}
use Rattle.setup.specs.Setup.{Terms, terms_with}
use Rattle.endpoint_rules.specs.Seen.{Seen, made, with_events}
use Rattle.endpoint_rules.specs.Checksum.{firm_in}
use Rattle.endpoint_rules.specs.Call as Host
use Rattle.endpoint_rules.specs.Step.{step as host_step}
use Rattle.endpoint_invariant.specs.Reports.{report_taken as host_taken}
use Rattle.endpoint_invariant.proofs.Choices.{by_pick}
use Rattle.endpoint_invariant.proofs.Staying.{step_setup}
use Rattle.endpoint_invariant.proofs.FirmStore.{step_holds as host_holds}
use Rattle.spectator_rules.specs.declared.SessionSetup.{SessionSetup}
use Rattle.spectator_rules.specs.Setup.{host_setup}
use Rattle.spectator_rules.specs.Watch.{Watch, made_watch}
use Rattle.spectator_rules.specs.Handling.{announce, input_handled, on_event, handled, handled_all}
use Rattle.spectator_rules.specs.Advance.{behind_overflows, advance_refusal, advanced}
use Rattle.spectator_rules.specs.Call.{Call}
use Rattle.spectator_rules.specs.Step.{Did, fresh, refused, changed, decided, by_host, host_acts, host_takes, poll_refusal, polled, poll_step, advance_step, frames_behind_step, step}
use Rattle.spectator_invariant.specs.Seated.{ran}
use Rattle.spectator_invariant.specs.Reports.{report_taken, reports_taken}

-- ---- P speaks of the reports taken so far and of an endpoint: what every call of an endpoint keeps, every call of a session keeps of its host

module _ (P : List Checksum → Seen → Type 0) (called : (reports : List Checksum) (s : Seen) → P reports s → (c : Host.Call) → P (reports ++ host_taken c s) (host_step c s).after) where
  module _ (reports : List Checksum) where
    -- a call of the endpoint that takes no report
    quiet : (c : Host.Call) (s : Seen) → host_taken c s ≡ [] → P reports s → P reports (host_step c s).after
    quiet c s none h = rw (none, append-nil reports) at (called reports s h c)

    -- an Input updates the endpoint's advantage; any other event does nothing to it
    handled-kept : (x : Entry) (w : Watch) → P reports w.host → P reports (handled x w).host
    unfolding handled announce input_handled host_step
    handled-kept x w h = go x.event
      where
        go : (e : Event) → P reports (on_event e x.input w).host
        go (Event.Synchronizing total count) = h
        go Event.Synchronized = h
        go (Event.Input frame player) = quiet (Host.Call.update_local_frame_advantage frame) w.host refl h
        go Event.Disconnected = h
        go (Event.NetworkInterrupted timeout) = h
        go Event.NetworkResumed = h

    all_kept : (l : List Entry) (w : Watch) → P reports w.host → P reports (handled_all l w).host
    unfolding handled_all
    all_kept [] w h = h
    all_kept (x ∷ l) w h = all_kept l (handled x w) (handled-kept x w h)

    -- the old events are taken, the endpoint acts, its messages are taken and then the new events, and all events are handled
    polled-kept : (now epoch nonce buffer : ℕ) (w : Watch) → P reports w.host → P reports (polled now epoch nonce buffer w).after.host
    unfolding polled host_acts host_takes host_step
    polled-kept now epoch nonce buffer w h =
        let aside = quiet Host.Call.take_events w.host refl h in
        let acts = quiet (Host.Call.act (length w.statuses) w.statuses now epoch nonce buffer) (with_events [] w.host) refl aside in
        let takes = quiet (Host.Call.take_messages buffer) (host_acts now epoch nonce buffer w).after refl acts in
        all_kept _ _ (quiet Host.Call.take_events (host_takes buffer (host_acts now epoch nonce buffer w)).after refl takes)

  module _ (reports : List Checksum) (w : Watch) (h : P reports w.host) where
    -- a call of the session that takes no report, refused or done
    decided-kept : (n : ℕ) (d : Did) → P reports d.after.host → P (reports ++ []) (decided n w d).after.host
    unfolding decided refused
    decided-kept n d k = rw (append-nil reports) (by_pick (λ (x : Did). P reports x.after.host) (eqb n 0) d (refused n w) (λ _. k) (λ _. h))

    -- and one that does nothing to the endpoint
    still : P (reports ++ []) w.host
    still = rw (append-nil reports) h

    step_keeps : (c : Call) → P (reports ++ report_taken c w) (step c w).after.host
    unfolding step by_host poll_step advance_step frames_behind_step host_step
    step_keeps (Call.synchronize now epoch nonce buffer) = called reports w.host h (Host.Call.synchronize now epoch nonce buffer)
    step_keeps (Call.message from count m now epoch nonce buffer) = called reports w.host h (Host.Call.message from count m now epoch nonce buffer)
    step_keeps (Call.datagram from bytes now epoch nonce buffer) = called reports w.host h (Host.Call.datagram from bytes now epoch nonce buffer)
    step_keeps (Call.poll_remote_clients now epoch nonce buffer) = decided-kept (poll_refusal now epoch nonce buffer w) (polled now epoch nonce buffer w) (polled-kept reports now epoch nonce buffer w h)
    step_keeps Call.advance_frame = decided-kept (advance_refusal w) (changed (advanced w)) h
    step_keeps (Call.take_messages buffer) = called reports w.host h (Host.Call.take_messages buffer)
    step_keeps Call.take_events = still
    step_keeps (Call.network_stats epoch) = called reports w.host h (Host.Call.network_stats epoch)
    step_keeps Call.frames_behind_host = decided-kept (first_of ((behind_overflows w, 6) ∷ [])) (changed w) h
    step_keeps Call.current_state = still
    step_keeps Call.current_frame = still
    step_keeps Call.num_players = still

  run_keeps : (cs : List Call) (w : Watch) (reports : List Checksum) → P reports w.host → P (reports ++ reports_taken cs w) (ran cs w).host
  unfolding ran reports_taken
  run_keeps [] w reports h = rw (append-nil reports) h
  run_keeps (c ∷ cs) w reports h =
      rw (← append_assoc reports (report_taken c w) (reports_taken cs (step c w).after))
      (run_keeps cs (step c w).after (reports ++ report_taken c w) (step_keeps reports w h c))

-- ---- the mode: no call changes the setup, so the choices of a session's endpoint are those of the session's setup

abbrev Under : Terms → List Checksum → Seen → Type 0
Under t reports s = s.setup ≡ t

pub reached_choices : (g : SessionSetup) (now : ℕ) (cs : List Call) → (ran cs (fresh g now).1).host.setup.choices ≡ g.choices
unfolding fresh made_watch made terms_with host_setup
reached_choices g now cs = ap (λ (t : Terms). t.choices) (run_keeps (Under (fresh g now).1.host.setup) (λ _ s h c. step_setup c s ∙ h) cs (fresh g now).1 [] refl)

-- ---- the store

-- of a firm endpoint
abbrev Firm : List Checksum → Seen → Type 0
Firm reports s = (firm_in s ≡ true) × HoldsLargest reports s.checksums

firm_called : (reports : List Checksum) (s : Seen) → Firm reports s → (c : Host.Call) → Firm (reports ++ host_taken c s) (host_step c s).after
firm_called reports s h c = (ap (λ (t : Terms). t.choices.firm_checksums) (step_setup c s) ∙ h.0, host_holds s h.0 reports h.1 c)

pub step_holds : (w : Watch) → firm_in w.host ≡ true → (reports : List Checksum) → HoldsLargest reports w.host.checksums → (c : Call)
    → HoldsLargest (reports ++ report_taken c w) (step c w).after.host.checksums
step_holds w firm reports h c = (step_keeps Firm firm_called reports w (firm, h) c).1

pub run_holds : (cs : List Call) (w : Watch) → firm_in w.host ≡ true → (reports : List Checksum) → HoldsLargest reports w.host.checksums
    → HoldsLargest (reports ++ reports_taken cs w) (ran cs w).host.checksums
run_holds cs w firm reports h = (run_keeps Firm firm_called cs w reports (firm, h)).1

-- from `new` on, whatever the calls are given
module _ (g : SessionSetup) (now : ℕ) (cs : List Call) (firm : g.choices.firm_checksums ≡ true) where
  pub reached_firm : HoldsLargest (reports_taken cs (fresh g now).1) (ran cs (fresh g now).1).host.checksums
  unfolding fresh made_watch made terms_with host_setup
  reached_firm = run_holds cs (fresh g now).1 firm [] none_held

  pub reached_firm_small : length (ran cs (fresh g now).1).host.checksums ≤ 32
  reached_firm_small = largest_few _ _ reached_firm
