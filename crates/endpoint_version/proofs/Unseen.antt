-- An endpoint written anew from what is seen of it: each list stands at the front of an array of full length.
use mathlib.Core.Path.{◌≡◌, sym, ◌∙◌}
use Prim.Native.Nat.{ℕ, min}
use lib.ListN.{length, length-take}
use Rattle.fixed_vec.specs.FixedVec.{held}
use Rattle.ceilings.specs.Ceilings.{most_players, most_pending, most_received, most_nonces, most_checksums, most_events}
use Rattle.status.specs.Status.{default_status}
use Rattle.status.specs.Statuses.{held_statuses}
use Rattle.pending.specs.Pending.{waiting}
use Rattle.history.specs.History.{received, blank_frame}
use Rattle.nonces.specs.Nonces.{outstanding}
use Rattle.checksums.specs.Checksums.{stored, blank_checksum}
use Rattle.events.specs.Events.{held_events, blank_entry}
use Rattle.setup.specs.Setup.{handle_list, sorted, terms_with, terms_of}
use Rattle.setup.specs.declared.Setup.{Setup}
use Rattle.setup.proofs.Laws.{sorted-length}
use Rattle.endpoint_rules.specs.Seen.{Seen}
use Rattle.endpoint_rules.specs.Call.{Call}
use Rattle.endpoint_rules.specs.Step.{step}
use Rattle.endpoint_invariant.specs.Typed.{TypedSetup}
use Rattle.endpoint_invariant.proofs.Staying.{step_setup, step_players}
use Rattle.endpoint.specs.declared.Endpoint.{Endpoint}
use Rattle.endpoint.specs.Endpoint.{seen}
use Rattle.endpoint_version.specs.Values.{IsEndpoint}
use Rattle.endpoint_version.proofs.Asked.{statuses_typed}
use Rattle.endpoint_version.proofs.Filled.{filled, filled_held, filled_counted}

-- the setup, and the count of the statuses, are given as they stand: either may count beyond its array
abbrev pub unseen : Setup → (players : ℕ) → Seen → Endpoint
unseen g players s =
    record {
      setup = g;
      pending = record { inputs = record { list = filled most_pending blank_frame s.carried.sender.pending; count = length s.carried.sender.pending } };
      acked = s.carried.sender.acked;
      history = record { inputs = record { list = filled most_received blank_frame s.carried.receiver.history; count = length s.carried.receiver.history } };
      sync = record { phase = s.phase; remaining = s.sync.remaining; remote_magic = s.sync.remote_magic };
      nonces = record { list = record { list = filled most_nonces 0 s.sync.nonces; count = length s.sync.nonces } };
      clocks = s.clocks;
      flags = s.flags;
      quality = s.quality;
      statuses = record { list = filled most_players default_status s.statuses; count = players };
      checksums = record { entries = record { list = filled most_checksums blank_checksum s.checksums; count = length s.checksums } };
      events = record { entries = record { list = filled most_events blank_entry s.events; count = length s.events } };
      queued = s.queued;
    }

pub seen_unseen : (g : Setup) (players : ℕ) (s : Seen) → terms_of g ≡ s.setup → length s.statuses ≡ min players most_players → seen (unseen g players s) ≡ s
unfolding seen waiting received outstanding held_statuses stored held_events held
seen_unseen g players s t n =
    rw (
      t,
      filled_held most_pending blank_frame s.carried.sender.pending,
      filled_held most_received blank_frame s.carried.receiver.history,
      filled_held most_nonces 0 s.sync.nonces,
      filled_counted most_players default_status s.statuses players n,
      filled_held most_checksums blank_checksum s.checksums,
      filled_held most_events blank_entry s.events,
    )

-- ---- made

-- its setup: the one given, its handles ascending
abbrev pub sorted_setup : Setup → Setup
sorted_setup g =
    record {
      num_players = g.num_players;
      handles = record { list = filled most_players 0 (sorted (handle_list g.handles)); count = g.handles.count };
      local_players = g.local_players;
      input_size = g.input_size;
      max_prediction = g.max_prediction;
      disconnect_timeout = g.disconnect_timeout;
      disconnect_notify_start = g.disconnect_notify_start;
      fps = g.fps;
      magic = g.magic;
      peer_addr = g.peer_addr;
      choices = g.choices;
    }

pub sorted-counted : (g : Setup) → TypedSetup g → length (sorted (handle_list g.handles)) ≡ min g.handles.count most_players
sorted-counted g t = sorted-length (handle_list g.handles) ∙ length-take g.handles.count g.handles.list ∙ rw t.handles

pub sorted_terms : (g : Setup) → TypedSetup g → terms_of (sorted_setup g) ≡ terms_with (sorted (handle_list g.handles)) g
unfolding terms_with
sorted_terms g t = rw (filled_counted most_players 0 (sorted (handle_list g.handles)) g.handles.count (sorted-counted g t))

-- ---- after a call

-- over the endpoint that a call is made on: no call changes its setup or the count of its statuses
abbrev pub anew : Endpoint → Seen → Endpoint
anew e s = unseen e.setup e.statuses.count s

pub seen_anew : (e : Endpoint) → IsEndpoint e → (c : Call) → seen (anew e (step c (seen e)).after) ≡ (step c (seen e)).after
unfolding seen
seen_anew e i c =
    seen_unseen e.setup e.statuses.count (step c (seen e)).after (sym (step_setup c (seen e)))
    (step_players c (seen e) ∙ (statuses_typed e.statuses i.statuses).few)
