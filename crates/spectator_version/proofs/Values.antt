-- A session written anew from a seated state whose parts are values is a value of its type.
use mathlib.Core.Path.{◌≡◌, refl}
use native.Mathlib.Omega.{arith}
use Prim.Native.Nat.{ℕ, ◌*◌, ◌≤◌, min}
use lib.ListN.{length}
use Rattle.base.specs.Little.{Bytes}
use Rattle.base.proofs.Bools.{neither}
use Rattle.ceilings.specs.Ceilings.{most_players, most_input_size, most_places, most_slots, most_session_events}
use Rattle.status.specs.Status.{default_status}
use Rattle.status.specs.declared.ConnectionStatus.{ConnectionStatus}
use Rattle.setup.specs.Setup.{bad_setup, terms_with}
use Rattle.timers.specs.Timers.{bad_clock}
use Rattle.endpoint_rules.specs.Seen.{made}
use Rattle.endpoint_rules.specs.Step.{fresh as host_fresh}
use Rattle.endpoint_invariant.specs.Each.{Each}
use Rattle.endpoint_invariant.specs.Typed.{IsU32}
use Rattle.endpoint_invariant.proofs.Choices.{passes}
use Rattle.endpoint_invariant.proofs.Eaches.{each_replicate}
use Rattle.endpoint_invariant.proofs.Padding.{bytes-zeros}
use Rattle.endpoint.specs.declared.Endpoint.{Endpoint}
use Rattle.endpoint_version.specs.Values.{IsEndpoint}
use Rattle.endpoint_version.proofs.Filled.{filled_size, filled_each}
use Rattle.spectator_rules.specs.declared.Limits.{Limits}
use Rattle.spectator_rules.specs.declared.PlayerInput.{PlayerInput}
use Rattle.spectator_rules.specs.declared.SessionSetup.{SessionSetup}
use Rattle.spectator_rules.specs.Setup.{host_setup, bad_limits, bad_session}
use Rattle.spectator_rules.specs.Inputs.{blank_input, fresh_inputs}
use Rattle.spectator_rules.specs.Watch.{Watch, made_watch}
use Rattle.spectator_rules.specs.Step.{fresh}
use Rattle.spectator_invariant.specs.Typed.{TypedSession}
use Rattle.spectator_invariant.specs.Seated.{SeatedLimits, SeatedInput, Seated}
use Rattle.spectator.specs.Stores.{blank_session_entry}
use Rattle.spectator_version.specs.Values.{IsLimits, IsPlayerInput, IsSessionEntry, IsSession}
use Rattle.spectator_version.proofs.Unseen.{unseen}
use Rattle.spectator_version.proofs.Held.{Held, each_both}

limits_value : (l : Limits) → SeatedLimits l → IsLimits l
limits_value l h = record { slots = omega (arith, h.slots.1); events = omega (arith, h.events.1); behind = omega (arith, h.behind); speed = omega (arith, h.speed) }

-- ---- the blanks

blank_input_lem : IsPlayerInput blank_input
unfolding blank_input
blank_input_lem = record { frame = omega arith; size = refl; bytes = bytes-zeros most_input_size }

blank_status : IsU32 default_status.last_frame
unfolding default_status
blank_status = omega arith

blank_entry_lem : IsSessionEntry blank_session_entry
unfolding blank_session_entry
blank_entry_lem = (omega arith, tt)

-- ---- the session

module _ (e : Endpoint) (w : Watch) (v : IsEndpoint e) (s : Seated w) (h : Held w) where
  pub unseen_value : IsSession (unseen e w)
  unseen_value =
      let o = s.own in
      let few : length w.inputs ≤ most_places = omega (arith, o.places, o.limits.slots.1) in
      let four : length w.statuses ≤ most_players = omega (arith, o.players, s.host.setup.players.1) in
      let many : length w.events ≤ most_session_events = omega (arith, o.events, o.limits.events.1) in
      let inputs : Each IsPlayerInput w.inputs
      = each_both (SeatedInput w.newest) (λ (x : PlayerInput). Bytes x.input) IsPlayerInput
      (λ x k b. record { frame = omega (arith, k.high, o.frame); size = k.size; bytes = b }) w.inputs o.inputs h.inputs in
      record {
        host = v;
        limits = limits_value w.limits o.limits;
        inputs = record { size = filled_size most_places blank_input w.inputs few; inputs = filled_each most_places blank_input IsPlayerInput blank_input_lem w.inputs inputs; count = omega arith };
        statuses = record {
          size = filled_size most_players default_status w.statuses four;
          frames = filled_each most_players default_status (λ (x : ConnectionStatus). IsU32 x.last_frame) blank_status w.statuses o.statuses;
          count = omega arith;
        };
        events = record {
          size = filled_size most_session_events blank_session_entry w.events many;
          entries = filled_each most_session_events blank_session_entry IsSessionEntry blank_entry_lem w.events h.events;
          count = omega arith;
        };
        current = omega (arith, o.newest, o.frame);
        newest = o.frame;
      }

-- ---- made

module _ (g : SessionSetup) (now : ℕ) where
  pub made_held : TypedSession g → Held (fresh g now).1
  unfolding fresh made_watch made terms_with host_setup fresh_inputs Each
  made_held t =
      record {
        peer = t.peer;
        queued = omega arith;
        entries = tt;
        inputs = each_replicate (λ (x : PlayerInput). Bytes x.input) (min g.limits.slots most_slots * most_players) blank_input blank_input_lem.bytes;
        events = tt;
      }

  -- where it is not refused, its endpoint is not
  pub host_made : (fresh g now).0 ≡ 0 → (host_fresh (host_setup g) now).0 ≡ 0
  unfolding fresh host_fresh bad_session
  host_made z =
      let c = passes (bad_clock now) 7 _ z in
      let b = neither (bad_setup (host_setup g)) (bad_limits g.limits) (passes (bad_session g) 0 0 c.1).0 in
      rw (c.0, b.0)
