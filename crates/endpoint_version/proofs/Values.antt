-- An endpoint written anew from a sound state is a value of its type.
use mathlib.Core.List.{List, [], ◌∷◌}
use mathlib.Core.Logic.{◌⊎◌, inl, inr}
use mathlib.Core.Path.{◌≡◌, refl}
use native.Mathlib.Omega.{arith}
use Prim.Native.Nat.{ℕ, zero, suc, ◌+◌, ◌^◌, ◌≤◌, ◌<◌, min}
use lib.ListN.{length, take}
use Rattle.fixed_vec.specs.FixedVec.{held}
use Rattle.ceilings.specs.Ceilings.{most_players, most_input_size, most_pending, most_received, most_nonces, most_checksums, most_events}
use Rattle.packing.specs.declared.input_bytes.InputBytes.{InputBytes}
use Rattle.pending.specs.Pending.{first_frame, last_frame}
use Rattle.history.specs.History.{blank_frame, highest, newest_of}
use Rattle.status.specs.Status.{default_status}
use Rattle.status.specs.declared.ConnectionStatus.{ConnectionStatus}
use Rattle.checksums.specs.Checksums.{blank_checksum}
use Rattle.events.specs.Events.{held_events, blank_entry}
use Rattle.events.specs.declared.Event.{Event}
use Rattle.events.specs.declared.Entry.{Entry}
use Rattle.setup.specs.Setup.{Terms, most_handle, handle_list, sorted, terms_with, Sorted}
use Rattle.setup.specs.declared.Setup.{Setup}
use Rattle.timers.specs.declared.Clocks.{Clocks}
use Rattle.quality.specs.declared.Quality.{Quality}
use Rattle.endpoint_rules.specs.Seen.{Seen, made}
use Rattle.endpoint_rules.specs.Did.{refused}
use Rattle.endpoint_rules.specs.Call.{Call}
use Rattle.endpoint_rules.specs.Step.{fresh, take_step, step}
use Rattle.endpoint_rules.proofs.Tested.{tested-both}
use Rattle.endpoint_invariant.specs.Each.{Each}
use Rattle.endpoint_invariant.specs.Typed.{IsU32, IsU64, TypedSetup, Typed}
use Rattle.endpoint_invariant.specs.Runs.{handed, lent_to, gone}
use Rattle.endpoint_invariant.specs.Sound.{Kept, Consecutive, SoundSender, SoundClocks, SoundQuality, Sound}
use Rattle.endpoint_invariant.specs.Announcement.{NoInput, AnnouncedWith, Announcement}
use Rattle.endpoint_invariant.proofs.Eaches.{each_append, each_behind, each_also}
use Rattle.endpoint_invariant.proofs.Padding.{bytes-zeros, kept_blank}
use Rattle.endpoint_invariant.proofs.Senders.{consecutive_last}
use Rattle.endpoint_invariant.proofs.Queue.{Queues, Takes, step_queues}
use Rattle.endpoint_invariant.proofs.Sound.{fresh_sound, step_sound}
use Rattle.endpoint_invariant.proofs.Announced.{step-announces}
use Rattle.endpoint_invariant.proofs.Announcements.{step_announcements}
use Rattle.endpoint.specs.declared.Endpoint.{Endpoint}
use Rattle.endpoint.specs.Endpoint.{seen}
use Rattle.endpoint_version.specs.Values.{IsInput, IsEvent, IsEntry, IsChecksum, IsClocks, IsQuality, IsEndpoint}
use Rattle.endpoint_version.proofs.Filled.{filled_size, filled_each}
use Rattle.endpoint_version.proofs.Unseen.{unseen, sorted_setup, sorted-counted, anew}

-- ---- inputs

kept-input : (width : ℕ) (x : InputBytes) → Kept width x → IsU32 x.frame → IsInput x
kept-input width x k f = record { frame = f; size = k.size; bytes = k.bytes }

blank_input_lem : IsInput blank_frame
unfolding blank_frame
blank_input_lem = kept-input 0 blank_frame (kept_blank 0) (omega arith)

-- frames one after the other, of which the last is one
consecutive_inputs : (width first : ℕ) (l : List InputBytes) → Each (Kept width) l → Consecutive first l → first + length l ≤ 2 ^ 32 → Each IsInput l
unfolding Each Consecutive
consecutive_inputs width first [] k c h = tt
consecutive_inputs width first (x ∷ l) k c h = (kept-input width x k.0 (omega (arith, c.0)), consecutive_inputs width (suc first) l k.1 c.1 (omega arith))

-- frames of which the highest is one
highest_inputs : (width : ℕ) (l : List InputBytes) → Each (Kept width) l → highest l < 2 ^ 32 → Each IsInput l
unfolding Each highest
highest_inputs width [] k h = tt
highest_inputs width (x ∷ l) k h = (kept-input width x k.0 (omega arith), highest_inputs width l k.1 (omega arith))

newest_inputs : (width : ℕ) (l : List InputBytes) → Each (Kept width) l → newest_of l < 2 ^ 32 → Each IsInput l
unfolding newest_of Each
newest_inputs width [] k h = tt
newest_inputs width (x ∷ l) k h = highest_inputs width (x ∷ l) k h

module _ (width : ℕ) (acked : InputBytes) where
  -- what is sent and not acknowledged, and the last one acknowledged
  sender_inputs : (l : List InputBytes) → SoundSender width (record { pending = l; acked = acked }) → Each IsInput l × IsInput acked
  unfolding Each Consecutive first_frame last_frame
  sender_inputs [] h = (tt, kept-input width acked h.reference h.last)
  sender_inputs (x ∷ l) h =
      let last = consecutive_last (suc x.frame) x.frame l refl h.consecutive.1 in
      let below : x.frame + length l < 2 ^ 32 = omega (arith, h.last) in
      let before : IsU32 acked.frame = elim h.follows [ inl e ↦ omega arith | inr e ↦ omega arith ] in
      (consecutive_inputs width x.frame (x ∷ l) h.inputs h.consecutive (omega arith), kept-input width acked h.reference before)

-- ---- plain fields

clocks_value : (c : Clocks) → SoundClocks c → IsClocks c
clocks_value c h =
    record { quality = omega (arith, h.quality); input = omega (arith, h.input); send = omega (arith, h.send); request = omega (arith, h.request); receive = omega (arith, h.receive); shutdown = omega (arith, h.shutdown) }

quality_value : (q : Quality) → SoundQuality q → IsQuality q
quality_value q h = record { local = h.local; remote = omega (arith, h.remote.1); trip = omega (arith, h.trip); start = omega (arith, h.start) }

-- ---- the other blanks

blank_status : IsU32 default_status.last_frame
unfolding default_status
blank_status = omega arith

blank_checksum_lem : IsChecksum blank_checksum
blank_checksum_lem = (omega arith, omega arith, omega arith)

-- an event with zeros beside it
zeros_entry : (v : Event) → IsEvent v → (input : List ℕ) → NoInput input → IsEntry (record { event = v; input = input })
zeros_entry v i input n = rw n (record { event = i; size = refl; bytes = bytes-zeros most_input_size })

blank_entry_lem : IsEntry blank_entry
unfolding blank_entry
blank_entry_lem = zeros_entry Event.Synchronized tt _ refl

-- ---- the endpoint

module _ (g : Setup) (players : ℕ) (s : Seen) (t : TypedSetup g) (n : IsU64 players) (h : Sound s) (entries : Each IsEntry s.events) (queued : IsU64 s.queued) where
  pub unseen_value : IsEndpoint (unseen g players s)
  unseen_value =
      let sent = sender_inputs _ s.carried.sender.acked s.carried.sender.pending h.sender in
      let few : length s.carried.receiver.history ≤ most_received = omega (arith, h.receiver.count, h.setup.max_prediction) in
      let four : length s.statuses ≤ most_players = omega (arith, h.players, h.setup.players.1) in
      record {
        setup = t;
        pending = record {
          size = filled_size most_pending blank_frame s.carried.sender.pending h.sender.count;
          inputs = filled_each most_pending blank_frame IsInput blank_input_lem s.carried.sender.pending sent.0;
          count = omega (arith, h.sender.count);
        };
        acked = sent.1;
        history = record {
          size = filled_size most_received blank_frame s.carried.receiver.history few;
          inputs = filled_each most_received blank_frame IsInput blank_input_lem s.carried.receiver.history
              (newest_inputs _ s.carried.receiver.history h.receiver.inputs h.receiver.newest);
          count = omega arith;
        };
        remaining = omega (arith, h.sync.remaining);
        magic = h.sync.magic;
        nonces = record {
          size = filled_size most_nonces 0 s.sync.nonces h.sync.count;
          nonces = filled_each most_nonces 0 IsU32 (omega arith) s.sync.nonces h.sync.nonces;
          count = omega (arith, h.sync.count);
        };
        clocks = clocks_value s.clocks h.clocks;
        quality = quality_value s.quality h.quality;
        statuses = record {
          size = filled_size most_players default_status s.statuses four;
          frames = filled_each most_players default_status (λ (x : ConnectionStatus). IsU32 x.last_frame) blank_status s.statuses h.statuses;
          count = n;
        };
        checksums = record {
          size = filled_size most_checksums blank_checksum s.checksums h.checksums.0;
          checksums = filled_each most_checksums blank_checksum IsChecksum blank_checksum_lem s.checksums h.checksums.1;
          count = omega (arith, h.checksums.0);
        };
        events = record {
          size = filled_size most_events blank_entry s.events h.events;
          entries = filled_each most_events blank_entry IsEntry blank_entry_lem s.events entries;
          count = omega (arith, h.events);
        };
        queued = queued;
      }

-- ---- made

-- handles that ascend are numbers of their width
sorted_small : (low : ℕ) (l : List ℕ) → Sorted low most_handle l → Each IsU32 l
unfolding Sorted Each
sorted_small low [] h = tt
sorted_small low (x ∷ l) h = (omega (arith, h.0.1), sorted_small (suc x) l h.1)

pub made_value : (g : Setup) (now : ℕ) → TypedSetup g → (fresh g now).0 ≡ 0 → IsEndpoint (unseen (sorted_setup g) (min g.num_players most_players) (fresh g now).1)
unfolding fresh made terms_with Each
made_value g now t z =
    let h : Sound (fresh g now).1 = fresh_sound g now t z in
    let hs : List ℕ = sorted (handle_list g.handles) in
    let few : length hs ≤ most_players = omega (arith, sorted-counted g t) in
    let typed : TypedSetup (sorted_setup g)
    = record {
      players = t.players;
      handles = filled_size most_players 0 hs few;
      handle = filled_each most_players 0 IsU32 (omega arith) hs (sorted_small 0 hs h.setup.sorted);
      count = t.count;
      local_players = t.local_players;
      input_size = t.input_size;
      max_prediction = t.max_prediction;
      disconnect_timeout = t.disconnect_timeout;
      notify_start = t.notify_start;
      fps = t.fps;
      magic = t.magic;
      peer = t.peer;
      desync = t.desync;
    } in
    unseen_value (sorted_setup g) (min g.num_players most_players) (fresh g now).1 typed (omega arith) h tt (omega arith)

-- ---- after a call

-- what is queued stays within the buffer that is lent
lent_small : (c : Call) → Typed c → IsU64 (lent_to c 0)
lent_small (Call.synchronize now epoch nonce buffer) t = t.3
lent_small (Call.message from count w now epoch nonce buffer) t = t.3.3
lent_small (Call.datagram from bytes now epoch nonce buffer) t = t.2.3
lent_small (Call.act count statuses now epoch nonce buffer) t = t.2.3
lent_small (Call.send_input frame bytes count statuses now buffer) t = t.5
lent_small (Call.disconnect now) t = omega arith
lent_small (Call.send_checksum_report frame checksum now buffer) t = t.3
lent_small (Call.update_local_frame_advantage local_frame) t = omega arith
lent_small (Call.network_stats epoch) t = omega arith
lent_small (Call.peer_connect_status handle) t = omega arith
lent_small Call.take_events t = omega arith
lent_small (Call.take_messages buffer) t = t
lent_small (Call.ask question) t = omega arith

taken_small : (buffer : ℕ) (s : Seen) → IsU64 s.queued → IsU64 (step (Call.take_messages buffer) s).after.queued
unfolding step take_step refused
taken_small buffer s h = tested-both _ s _ (λ d. IsU64 d.after.queued) (λ _. h) (λ _. omega arith)

queued_after : (c : Call) → Typed c → (s : Seen) → IsU64 s.queued → IsU64 (step c s).after.queued
queued_after c t s h = go (step_queues c 0 s)
  where
    within : Queues (lent_to c 0) s (step c s) → IsU64 (step c s).after.queued
    within q = let small = lent_small c t in elim q.room [ inl e ↦ omega (arith, q.counted) | inr e ↦ omega (arith, q.counted) ]

    go : Takes c ⊎ (((b : List ℕ) → gone c b s ≡ []) × Queues (lent_to c 0) s (step c s)) → IsU64 (step c s).after.queued
    go (inl k) = rw k.1 (taken_small k.0 s h)
    go (inr q) = within q.1

-- an event as it is announced, with the bytes beside it, is a value
announced_entry : (t : Terms) (v : Event) (input : List ℕ) → AnnouncedWith t v input → IsEntry (record { event = v; input = input })
announced_entry t (Event.Synchronizing total count) input h = zeros_entry (Event.Synchronizing total count) (omega (arith, h.0), omega (arith, h.1.1)) input h.2
announced_entry t Event.Synchronized input h = zeros_entry Event.Synchronized tt input h
announced_entry t (Event.Input frame player) input h = record { event = (h.number.1, omega (arith, h.handle.1)); size = h.size; bytes = h.bytes }
announced_entry t Event.Disconnected input h = zeros_entry Event.Disconnected tt input h
announced_entry t (Event.NetworkInterrupted timeout) input h = zeros_entry (Event.NetworkInterrupted timeout) (omega (arith, h.1)) input h.2
announced_entry t Event.NetworkResumed input h = zeros_entry Event.NetworkResumed tt input h

first_entries : (n : ℕ) (l : List Entry) → Each IsEntry l → Each IsEntry (take n l)
unfolding Each
first_entries zero l h = tt
first_entries (suc n) [] h = tt
first_entries (suc n) (x ∷ l) h = (h.0, first_entries n l h.1)

-- the events held after a call are among those held before it and those that it announces
entries_after : (c : Call) → Typed c → (s : Seen) → Sound s → Each IsEntry s.events → Each IsEntry (step c s).after.events
entries_after c t s h k =
    let announced : Each IsEntry (step c s).events
    = each_also (Announcement s.setup) IsEntry (λ x. announced_entry s.setup x.event x.input) (step c s).events (step_announcements c t s h) in
    each_behind IsEntry (handed c s) (step c s).after.events (rw (step-announces c s) (each_append IsEntry s.events (step c s).events k announced))

pub anew_value : (e : Endpoint) → IsEndpoint e → Sound (seen e) → (c : Call) → Typed c → IsEndpoint (anew e (step c (seen e)).after)
unfolding seen held_events held
anew_value e i h c t =
    unseen_value e.setup e.statuses.count (step c (seen e)).after i.setup i.statuses.count (step_sound c t (seen e) h)
    (entries_after c t (seen e) h (first_entries e.events.entries.count e.events.entries.list i.events.entries))
    (queued_after c t (seen e) i.queued)
