-- A session written anew from its endpoint and from what is seen of it: each list stands at the front of an array of full length, and its count is the list's length. So
-- are the frames that an advance hands back.
use mathlib.Core.List.{List, [], ◌∷◌, map}
use mathlib.Core.Path.{◌≡◌, refl, ap, sym}
use lib.ListN.{length, length-map}
use Rattle.ceilings.specs.Ceilings.{most_players, most_places, most_advanced, most_session_events}
use Rattle.status.specs.Status.{default_status}
use Rattle.status.specs.Statuses.{held_statuses}
use Rattle.endpoint.specs.Endpoint.{seen as seen_host}
use Rattle.endpoint.specs.declared.Endpoint.{Endpoint}
use Rattle.endpoint_version.proofs.Filled.{filled, filled_held}
use Rattle.fixed_vec.specs.FixedVec.{held}
use Rattle.spectator_rules.specs.declared.SyncedInput.{SyncedInput}
use Rattle.spectator_rules.specs.Inputs.{blank_input}
use Rattle.spectator_rules.specs.Watch.{Watch}
use Rattle.spectator.specs.declared.SpectatorSession.{SpectatorSession}
use Rattle.spectator.specs.declared.requests.Request.{Request}
use Rattle.spectator.specs.declared.requests.Requests.{Requests}
use Rattle.spectator.specs.Stores.{inputs_of, events_of, request_of, request_frames, request_counts, RequestsAs, blank_session_entry, blank_synced}
use Rattle.spectator.specs.Session.{seen, Counted}

-- ---- a session

abbrev pub unseen : Endpoint → Watch → SpectatorSession
unseen e w =
    record {
      host = e;
      limits = w.limits;
      state = w.state;
      inputs = record { entries = record { list = filled most_places blank_input w.inputs; count = length w.inputs } };
      statuses = record { list = filled most_players default_status w.statuses; count = length w.statuses };
      events = record { entries = record { list = filled most_session_events blank_session_entry w.events; count = length w.events } };
      current_frame = w.current;
      last_recv_frame = w.newest;
    }

module _ (e : Endpoint) (w : Watch) where
  pub seen_unseen : seen_host e ≡ w.host → seen (unseen e w) ≡ w
  unfolding seen inputs_of held_statuses events_of held
  seen_unseen h =
      rw (
        h,
        filled_held most_places blank_input w.inputs,
        filled_held most_players default_status w.statuses,
        filled_held most_session_events blank_session_entry w.events,
      )

  pub unseen_counted : Counted (unseen e w)
  unfolding inputs_of held_statuses events_of held
  unseen_counted =
      record {
        inputs = sym (ap length (filled_held most_places blank_input w.inputs));
        statuses = sym (ap length (filled_held most_players default_status w.statuses));
        events = sym (ap length (filled_held most_session_events blank_session_entry w.events));
      }

-- ---- frames

abbrev request : List SyncedInput → Request
request l = record { inputs = record { list = filled most_players blank_synced l; count = length l } }

abbrev pub requests : List (List SyncedInput) → Requests
requests l = record { frames = record { list = filled most_advanced (request []) (map request l); count = length (map request l) } }

requests_frames : (l : List (List SyncedInput)) → map request_of (map request l) ≡ l
unfolding request_of held
requests_frames [] = refl
requests_frames (x ∷ l) = rw (filled_held most_players blank_synced x, requests_frames l)

requests_counts : (l : List (List SyncedInput)) → map (λ (q : Request). q.inputs.count) (map request l) ≡ map length l
requests_counts [] = refl
requests_counts (x ∷ l) = rw (requests_counts l)

pub requests_are : (l : List (List SyncedInput)) → RequestsAs l (requests l)
unfolding request_frames request_counts held
requests_are l =
    record {
      frames = rw (filled_held most_advanced (request []) (map request l)) (requests_frames l);
      count = length-map l request;
      players = rw (filled_held most_advanced (request []) (map request l)) (requests_counts l);
    }
