-- What a session's endpoint held and what it announces in a call are what the call handles and what is held after it, in order. Each event that it
-- announces is an announcement.
use mathlib.Core.Bool.{Bool, true, false}
use mathlib.Core.List.{List, [], ◌∷◌, ◌++◌, append-nil}
use mathlib.Core.Path.{◌≡◌, refl, sym, ap, ◌∙◌}
use Prim.Native.Nat.{ℕ}
use native.Mathlib.Omega.{arith}
use lib.Dec.{eqb}
use lib.ListN.{length}
use Rattle.base.specs.Pick.{pick}
use Rattle.base.specs.First.{first_of}
use Rattle.events.specs.declared.Entry.{Entry}
use Rattle.endpoint_rules.specs.Seen.{with_events as with_host_events}
use Rattle.endpoint_rules.specs.Did.{Did as HostDid}
use Rattle.endpoint_rules.specs.Call as Host
use Rattle.endpoint_rules.specs.Step.{step as host_step}
use Rattle.endpoint_invariant.specs.Each.{Each}
use Rattle.endpoint_invariant.specs.Typed.{TypedPlace}
use Rattle.endpoint_invariant.specs.Announcement.{Announcement}
use Rattle.endpoint_invariant.proofs.Choices.{by_pick}
use Rattle.endpoint_invariant.proofs.Parts.{events_part}
use Rattle.endpoint_invariant.proofs.Announced.{step-announces}
use Rattle.endpoint_invariant.proofs.Announcements.{step_announcements}
use Rattle.spectator_rules.specs.Watch.{Watch}
use Rattle.spectator_rules.specs.Advance.{behind_overflows, advance_refusal, advanced}
use Rattle.spectator_rules.specs.Call.{Call}
use Rattle.spectator_rules.specs.Step.{Did, refused, changed, decided, by_host, host_acts, poll_refusal, polled, poll_step, advance_step, frames_behind_step, step}
use Rattle.spectator_invariant.specs.Typed.{Typed}
use Rattle.spectator_invariant.specs.Seated.{Seated}
use Rattle.spectator_invariant.specs.Handled.{handled_by}
use Rattle.spectator_invariant.proofs.Seated.{act_typed, ends_midway}
use Rattle.spectator_delivery.specs.Viewing.{events_by}

module _ (w : Watch) (h : Seated w) where
  abbrev held : List Entry
  held = w.host.events

  -- a call that does not reach the endpoint
  decided_same : (n : ℕ) (d : Did) → d.after.host ≡ w.host → (decided n w d).after.host.events ≡ held ++ []
  unfolding decided refused
  decided_same n d e =
      by_pick (λ (y : Did). y.after.host.events ≡ held ++ []) (eqb n 0) d (refused n w) (λ _. rw (e, append-nil held)) (λ _. sym (append-nil held))

  -- a poll handles all events, old and new, and none is held after it
  polled-announces : (now epoch nonce buffer : ℕ) → TypedPlace now epoch nonce buffer
      → (held ++ (host_acts now epoch nonce buffer w).after.events) ++ (polled now epoch nonce buffer w).after.host.events ≡ held ++ (host_acts now epoch nonce buffer w).events
  unfolding polled host_acts host_step
  polled-announces now epoch nonce buffer t =
      let acts = step-announces (Host.Call.act (length w.statuses) w.statuses now epoch nonce buffer) (with_host_events [] w.host) in
      rw (ends_midway w h now epoch nonce buffer t).none (append-nil _ ∙ ap (λ (l : List Entry). held ++ l) acts)

  pub call_announces : (c : Call) → Typed c → handled_by c w ++ (step c w).after.host.events ≡ held ++ events_by c w
  unfolding step by_host poll_step decided refused advance_step frames_behind_step host_step
  call_announces (Call.synchronize now epoch nonce buffer) t = step-announces (Host.Call.synchronize now epoch nonce buffer) w.host
  call_announces (Call.message from count m now epoch nonce buffer) t = step-announces (Host.Call.message from count m now epoch nonce buffer) w.host
  call_announces (Call.datagram from bytes now epoch nonce buffer) t = step-announces (Host.Call.datagram from bytes now epoch nonce buffer) w.host
  call_announces (Call.poll_remote_clients now epoch nonce buffer) t = go (eqb (poll_refusal now epoch nonce buffer w) 0)
    where
      acts : HostDid
      acts = host_acts now epoch nonce buffer w

      go : (b : Bool)
          → pick b (held ++ acts.after.events) [] ++ (pick {A = Did} b (polled now epoch nonce buffer w) (refused (poll_refusal now epoch nonce buffer w) w)).after.host.events
          ≡ held ++ pick b acts.events []
      go true = polled-announces now epoch nonce buffer t
      go false = sym (append-nil held)
  call_announces Call.advance_frame t = decided_same (advance_refusal w) (changed (advanced w)) refl
  call_announces (Call.take_messages buffer) t = step-announces (Host.Call.take_messages buffer) w.host
  call_announces Call.take_events t = sym (append-nil held)
  call_announces (Call.network_stats epoch) t = step-announces (Host.Call.network_stats epoch) w.host
  call_announces Call.frames_behind_host t = decided_same (first_of ((behind_overflows w, 6) ∷ [])) (changed w) refl
  call_announces Call.current_state t = sym (append-nil held)
  call_announces Call.current_frame t = sym (append-nil held)
  call_announces Call.num_players t = sym (append-nil held)

  pub call_announcements : (c : Call) → Typed c → Each (Announcement w.host.setup) (events_by c w)
  unfolding host_acts host_step Each
  call_announcements (Call.synchronize now epoch nonce buffer) t = step_announcements (Host.Call.synchronize now epoch nonce buffer) t w.host h.host
  call_announcements (Call.message from count m now epoch nonce buffer) t = step_announcements (Host.Call.message from count m now epoch nonce buffer) t w.host h.host
  call_announcements (Call.datagram from bytes now epoch nonce buffer) t = step_announcements (Host.Call.datagram from bytes now epoch nonce buffer) t w.host h.host
  call_announcements (Call.poll_remote_clients now epoch nonce buffer) t =
      by_pick (Each (Announcement w.host.setup)) (eqb (poll_refusal now epoch nonce buffer w) 0) (host_acts now epoch nonce buffer w).events []
      (λ _. step_announcements (Host.Call.act (length w.statuses) w.statuses now epoch nonce buffer) (act_typed w h now epoch nonce buffer t) (with_host_events [] w.host)
      (events_part w.host h.host [] (omega arith)))
      (λ _. tt)
  call_announcements Call.advance_frame t = tt
  call_announcements (Call.take_messages buffer) t = step_announcements (Host.Call.take_messages buffer) t w.host h.host
  call_announcements Call.take_events t = tt
  call_announcements (Call.network_stats epoch) t = step_announcements (Host.Call.network_stats epoch) t w.host h.host
  call_announcements Call.frames_behind_host t = tt
  call_announcements Call.current_state t = tt
  call_announcements Call.current_frame t = tt
  call_announcements Call.num_players t = tt
