-- The statuses that a session holds are those that were copied last: what its endpoint had at the last poll that handled an Input.
use borrow.Author.Tests.{ne_eqb}
use mathlib.Core.Bool.{Bool, true, false}
use mathlib.Core.List.{List, [], ◌∷◌, ◌++◌}
use mathlib.Core.Path.{◌≡◌, refl, sym, ap, ◌∙◌}
use Prim.Native.Nat.{ℕ, suc}
use native.Mathlib.Omega.{arith}
use lib.Dec.{ltb, eqb}
use lib.ListN.{length}
use Rattle.base.specs.Pick.{pick}
use Rattle.base.specs.First.{first_of}
use Rattle.packing.specs.declared.input_bytes.InputBytes.{InputBytes}
use Rattle.status.specs.declared.ConnectionStatus.{ConnectionStatus}
use Rattle.events.specs.declared.Entry.{Entry}
use Rattle.events.specs.declared.Event.{Event}
use Rattle.endpoint_rules.specs.declared.Phase.{Phase}
use Rattle.endpoint_rules.specs.declared.Phase.TheVariants.{Initializing, Synchronizing, Running, Disconnected, Shutdown}
use Rattle.endpoint_rules.specs.Seen.{Seen, with_events as with_host_events}
use Rattle.endpoint_rules.specs.Did.{Did as HostDid, Effect, refused as host_refused, begin, queue_wire, done}
use Rattle.endpoint_rules.specs.Handshake.{nonce_issued, request}
use Rattle.endpoint_rules.specs.Sending.{pending_queued}
use Rattle.endpoint_rules.specs.Reports.{report_queued}
use Rattle.endpoint_rules.specs.Act.{request_due, resend_due, report_due, keep_alive_due, interruption_due, disconnect_due, resent, report_sent, kept_alive, interrupted, timed_out, acted}
use Rattle.endpoint_rules.specs.Advantage.{both_known, local_advantage, advantage_updated}
use Rattle.endpoint_rules.specs.Step.{act_step, advantage_step, take_step}
use Rattle.endpoint_rules.proofs.Tested.{tested-both}
use Rattle.endpoint_invariant.proofs.Choices.{by_pick}
use Rattle.spectator_rules.specs.Watch.{Watch, with_host}
use Rattle.spectator_rules.specs.Handling.{announce, input_handled, handled, handled_all}
use Rattle.spectator_rules.specs.Advance.{behind_overflows, advance_refusal, advanced}
use Rattle.spectator_rules.specs.Call.{Call}
use Rattle.spectator_rules.specs.Step.{Did, refused, changed, decided, by_host, host_acts, host_takes, poll_refusal, polled, poll_step, advance_step, frames_behind_step, step}
use Rattle.spectator_delivery.specs.Viewing.{Box, input_count, copied_by}

-- ---- an endpoint's statuses are changed by messages alone: not by an act, a take of messages or an update of the advantage

module _ (l : List ConnectionStatus) where
  abbrev Has : Effect → Type 0
  Has e = e.state.statuses ≡ l

  pending_has : (now : ℕ) (statuses : List ConnectionStatus) (pending : List InputBytes) (e : Effect) → Has e → Has (pending_queued now statuses pending e)
  unfolding pending_queued queue_wire
  pending_has now statuses [] e h = h
  pending_has now statuses (x ∷ pending) e h = h

  acted-has : (p : Phase) (now epoch nonce : ℕ) (statuses : List ConnectionStatus) (e : Effect) → Has e → Has (acted p now epoch nonce statuses e)
  unfolding acted resent report_sent report_queued kept_alive interrupted timed_out request nonce_issued queue_wire
  acted-has Initializing now epoch nonce statuses e h = h
  acted-has Synchronizing now epoch nonce statuses e h = by_pick Has (request_due now e.state) (request now nonce e) e (λ _. h) (λ _. h)
  acted-has Running now epoch nonce statuses e h =
      let r = resent now statuses e in
      let q = report_sent now epoch r in
      let k = kept_alive now q in
      let i = interrupted now k in
      let hr : Has r = by_pick Has (resend_due now e.state) _ e (λ _. pending_has now statuses e.state.carried.sender.pending e h) (λ _. h) in
      let hq : Has q = by_pick Has (report_due now r.state) _ r (λ _. hr) (λ _. hr) in
      let hk : Has k = by_pick Has (keep_alive_due now q.state) _ q (λ _. hq) (λ _. hq) in
      let hi : Has i = by_pick Has (interruption_due now k.state) _ k (λ _. hk) (λ _. hk) in
      by_pick Has (disconnect_due now i.state) _ i (λ _. hi) (λ _. hi)
  acted-has Disconnected now epoch nonce statuses e h = by_pick Has (ltb e.state.clocks.shutdown_timeout now) _ e (λ _. h) (λ _. h)
  acted-has Shutdown now epoch nonce statuses e h = h

abbrev Leaves : Seen → HostDid → Type 0
Leaves s d = d.after.statuses ≡ s.statuses

act_leaves : (count : ℕ) (statuses : List ConnectionStatus) (now epoch nonce buffer : ℕ) (s : Seen) → Leaves s (act_step count statuses now epoch nonce buffer s)
unfolding act_step host_refused done
act_leaves count statuses now epoch nonce buffer s =
    tested-both _ s _ (Leaves s) (λ k. refl) (λ _. acted-has s.statuses s.phase now epoch nonce statuses (begin s) refl)

take_leaves : (buffer : ℕ) (s : Seen) → Leaves s (take_step buffer s)
unfolding take_step host_refused
take_leaves buffer s = tested-both _ s _ (Leaves s) (λ k. refl) (λ _. refl)

update_leaves : (frame : ℕ) (s : Seen) → Leaves s (advantage_step frame s)
unfolding advantage_step advantage_updated local_advantage host_refused
update_leaves frame s =
    tested-both _ s _ (Leaves s) (λ k. refl) (λ _. by_pick (λ (t : Seen). t.statuses ≡ s.statuses) (both_known frame s) (local_advantage frame s) s (λ _. refl) (λ _. refl))

-- ---- events handled: each Input copies them

-- after n Inputs among some events, of a session whose endpoint had its statuses and that had a copy
record Copies (n : ℕ) (theirs copy : List ConnectionStatus) (w : Watch) : Type 0 where
  same : w.host.statuses ≡ theirs
  copied : w.statuses ≡ pick (eqb n 0) copy theirs

either : {A : Type 0} (t : Bool) (a : A) → pick t a a ≡ a
either true a = refl
either false a = refl

all_copies : (l : List Entry) (w : Watch) → Copies (input_count l) w.host.statuses w.statuses (handled_all l w)
unfolding handled_all handled announce input_handled input_count
all_copies [] w = record { same = refl; copied = refl }
all_copies (x ∷ l) w = go x.event (all_copies l (handled x w))
  where
    after : Event → Watch
    after e = handled (record { event = e; input = x.input }) w

    go : (e : Event) → Copies (input_count l) (after e).host.statuses (after e).statuses (handled_all l (after e))
        → Copies (input_count (record { event = e; input = x.input } ∷ l)) w.host.statuses w.statuses (handled_all l (after e))
    go (Event.Synchronizing total count) k = k
    go Event.Synchronized k = k
    go (Event.Input frame player) k =
        let u : (after (Event.Input frame player)).host.statuses ≡ w.host.statuses = update_leaves frame w.host in
        record {
          same = k.same ∙ u;
          copied = k.copied ∙ either (eqb (input_count l) 0) _ ∙ u ∙ rw (ne_eqb (suc (input_count l)) 0 (λ e. omega arith));
        }
    go Event.Disconnected k = k
    go (Event.NetworkInterrupted timeout) k = k
    go Event.NetworkResumed k = k

-- ---- every call

module _ (x : Box) (e : x.copied ≡ x.watch.statuses) where
  polled_copies : (now epoch nonce buffer : ℕ)
      → pick (eqb (input_count (x.watch.host.events ++ (host_acts now epoch nonce buffer x.watch).after.events)) 0) x.copied x.watch.host.statuses
      ≡ (polled now epoch nonce buffer x.watch).after.statuses
  unfolding polled host_acts host_takes
  polled_copies now epoch nonce buffer =
      let w = x.watch in
      let d = host_acts now epoch nonce buffer w in
      let t = eqb (input_count (w.host.events ++ d.after.events)) 0 in
      let same : (host_takes buffer d).after.statuses ≡ w.host.statuses =
      take_leaves buffer d.after ∙ act_leaves (length w.statuses) w.statuses now epoch nonce buffer (with_host_events [] w.host) in
      let k = all_copies (w.host.events ++ d.after.events) (with_host (with_host_events [] (host_takes buffer d).after) w) in
      ap (λ (l : List ConnectionStatus). pick t l w.host.statuses) e
      ∙ sym (k.copied ∙ ap (λ (l : List ConnectionStatus). pick t w.statuses l) same)

  pub call_copies : (c : Call) → copied_by c x ≡ (step c x.watch).after.statuses
  unfolding step by_host poll_step decided refused advance_step frames_behind_step input_count
  call_copies (Call.synchronize now epoch nonce buffer) = e
  call_copies (Call.message from count m now epoch nonce buffer) = e
  call_copies (Call.datagram from bytes now epoch nonce buffer) = e
  call_copies (Call.poll_remote_clients now epoch nonce buffer) = go (eqb (poll_refusal now epoch nonce buffer x.watch) 0)
    where
      go : (b : Bool)
          → pick (eqb (input_count (pick b (x.watch.host.events ++ (host_acts now epoch nonce buffer x.watch).after.events) [])) 0) x.copied x.watch.host.statuses
          ≡ (pick {A = Did} b (polled now epoch nonce buffer x.watch) (refused (poll_refusal now epoch nonce buffer x.watch) x.watch)).after.statuses
      go true = polled_copies now epoch nonce buffer
      go false = e
  call_copies Call.advance_frame = by_pick (λ (d : Did). x.copied ≡ d.after.statuses) (eqb (advance_refusal x.watch) 0) (changed (advanced x.watch)) _ (λ _. e) (λ _. e)
  call_copies (Call.take_messages buffer) = e
  call_copies Call.take_events = e
  call_copies (Call.network_stats epoch) = e
  call_copies Call.frames_behind_host =
      by_pick (λ (d : Did). x.copied ≡ d.after.statuses) (eqb (first_of ((behind_overflows x.watch, 6) ∷ [])) 0) (changed x.watch) _ (λ _. e) (λ _. e)
  call_copies Call.current_state = e
  call_copies Call.current_frame = e
  call_copies Call.num_players = e
