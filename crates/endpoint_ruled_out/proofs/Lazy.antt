-- None of the kinds of unusable versions is empty: a version that makes the endpoints of the rules, and answers every call with one answer, and with the endpoint and
-- the buffer as they were, is of all of them, by the answer. Another one shows a user numbers that it invented.
use mathlib.Core.Bool.{Bool, true, false}
use mathlib.Core.List.{[], ◌∷◌}
use mathlib.Core.Path.{◌≡◌, refl, sym, ◌∙◌, ap}
use native.Mathlib.Omega.{arith}
use Prim.Native.Nat.{ℕ, zero, suc}
use lib.Dec.{eqb}
use lib.ListN.{length}
use Rattle.fixed_vec.specs.FixedVec.{held}
use Rattle.base.specs.Little.{Bytes}
use Rattle.base.specs.Pick.{pick}
use Rattle.std.specs.Prelude.{Result, Ok, Err}
use Rattle.answer.specs.Number.{Answered, done, number_of}
use Rattle.answer.specs.declared.Refusal.{Refusal}
use Rattle.answer.specs.declared.Refusal.TheVariants.{BadSetup, BadHandle}
use Rattle.quality.specs.declared.NetworkStats.{NetworkStats}
use Rattle.ceilings.specs.Ceilings.{most_events}
use Rattle.pending.specs.Pending.{waiting}
use Rattle.events.specs.Events.{held_events, without_input, blank_entry}
use Rattle.events.specs.declared.Events.{Events}
use Rattle.events.specs.declared.Event.TheVariants as Event
use Rattle.endpoint_rules.specs.Seen.{made}
use Rattle.endpoint_rules.specs.Step.{fresh}
use Rattle.endpoint_rules.specs.Value.{Value}
use Rattle.endpoint_rules.specs.Sending.{newest}
use Rattle.endpoint_rules.proofs.Bouts.{setup_with, setup_taken}
use Rattle.endpoint_invariant.specs.Each.{Each}
use Rattle.endpoint_invariant.specs.Typed.{IsU32, IsU64}
use Rattle.endpoint.specs.declared.Endpoint.{Endpoint}
use Rattle.endpoint.specs.Endpoint.{seen}
use Rattle.endpoint_version.specs.Values.{IsSlice, IsEndpoint}
use Rattle.endpoint_version.specs.Version.{Version, Asked, function_of, number_from, endpoint_after}
use Rattle.endpoint_version.proofs.Filled.{filled}
use Rattle.endpoint_version.proofs.Given.{given, given_answer, given_stats}
use Rattle.endpoint_version.proofs.Right.{right, right_meets}
use Rattle.endpoint_ruled_out.specs.Unusable.{RefusesAll, Constant, Untouched, FirstOnly, counts_in, InventsCounts, InventsLengths}
use Rattle.endpoint_ruled_out.proofs.Unusable.{bouts_typed, p3, p3_asked}

-- a version that gives one answer to every call, and leaves buffers and endpoints as they were; but what a message makes of an endpoint is given, and so are the events
-- that are handed back and the stats
abbrev answering : Answered → (Endpoint → Endpoint) → (Endpoint → Events) → Result NetworkStats Refusal → Version
answering a after handed stats =
    record {
      new = λ g now. record { endpoint = (right.new g now).endpoint; answer = a };
      synchronize = λ e now epoch nonce out. (record { endpoint = e; answer = a }, out);
      message = λ e from m payload now epoch nonce out. (record { endpoint = after e; answer = a }, out);
      datagram = λ e from d now epoch nonce out. (record { endpoint = e; answer = a }, out);
      act = λ e statuses now epoch nonce out. (record { endpoint = e; answer = a }, out);
      send_input = λ e frame bytes statuses now out. (record { endpoint = e; answer = a }, out);
      disconnect = λ e now. record { endpoint = e; answer = a };
      send_checksum_report = λ e frame checksum now out. (record { endpoint = e; answer = a }, out);
      update_local_frame_advantage = λ e local. record { endpoint = e; answer = a };
      take_events = λ e. record { endpoint = e; events = handed e };
      take_messages = λ e out. record { endpoint = e; answer = a };
      messages = λ e out. [];
      take_messages_into = λ e out into. (record { endpoint = e; answer = given a 0 }, into);
      network_stats = λ e epoch. stats;
      peer_connect_status = λ e handle. Err BadHandle;
      handles = λ e. e.setup.handles;
      is_synchronized = λ e. false;
      is_running = λ e. false;
      is_handling_message = λ e from. false;
      last_recv_frame = λ e. newest (seen e);
      state = λ e. e.sync.phase;
      checksums = λ e. e.checksums;
    }

-- where it is done, with stats that are all 0
abbrev no_stats : NetworkStats
no_stats = record { ping = 0; send_queue_len = 0; local_frames_behind = 0; remote_frames_behind = 0 }

abbrev lazy : Answered → Version
lazy a = answering a (λ e. e) (λ e. e.events) (given a no_stats)

-- a status is asked for with no number but 7 to refuse with
abbrev numbers : Answered → ℕ → ℕ
numbers a function = pick (eqb function 10) 7 (number_of a)

does : (a : Answered) (e : Endpoint) (c : Asked) → (number_from (lazy a) e c ≡ numbers a (function_of c)) × (endpoint_after (lazy a) e c ≡ e)
does a e (Asked.synchronize now epoch nonce out) = (refl, refl)
does a e (Asked.message from m payload now epoch nonce out) = (refl, refl)
does a e (Asked.datagram from d now epoch nonce out) = (refl, refl)
does a e (Asked.act statuses now epoch nonce out) = (refl, refl)
does a e (Asked.send_input frame bytes statuses now out) = (refl, refl)
does a e (Asked.disconnect now) = (refl, refl)
does a e (Asked.send_checksum_report frame checksum now out) = (refl, refl)
does a e (Asked.update_local_frame_advantage local) = (refl, refl)
does a e (Asked.take_messages out) = (refl, refl)
does a e (Asked.network_stats epoch) = (ap (λ (x : ℕ × Value). x.0) (given_stats a no_stats), refl)
does a e (Asked.peer_connect_status handle) = (refl, refl)
does a e (Asked.take_messages_into out into) = (ap number_of (given_answer a 0), refl)

refuses_all : RefusesAll (lazy (Err BadSetup))
refuses_all e r c a h = go (eqb (function_of c) 10) (sym (does (Err BadSetup) e c).0 ∙ h)
  where
    go : (b : Bool) → ◌≡◌ {A = ℕ} (pick b 7 1) 0 → ⊥
    go true e = omega arith
    go false e = omega arith

module _ (a : Answered) where
  constant : Constant (numbers a) (lazy a)
  constant e r c h = (does a e c).0

  untouched : Untouched (lazy a)
  untouched = record { calls = λ e r c h. ap seen (does a e c).1; takes = λ e r. refl }

  ignores_messages : FirstOnly (lazy a)
  ignores_messages = FirstOnly.messages (λ e r h from m payload now epoch nonce out k. refl)

  ignores_datagrams : FirstOnly (lazy a)
  ignores_datagrams = FirstOnly.datagrams (λ e r h from d now epoch nonce out k. refl)

-- ---- invented numbers

-- an endpoint with other numbers in two of its fields is a value as well
abbrev numbered : (remaining queued : ℕ) → Endpoint → Endpoint
numbered remaining queued e =
    record {
      setup = e.setup;
      pending = e.pending;
      acked = e.acked;
      history = e.history;
      sync = record { phase = e.sync.phase; remaining = remaining; remote_magic = e.sync.remote_magic };
      nonces = e.nonces;
      clocks = e.clocks;
      flags = e.flags;
      quality = e.quality;
      statuses = e.statuses;
      checksums = e.checksums;
      events = e.events;
      queued = queued;
    }

numbered_value : (remaining queued : ℕ) → IsU32 remaining → IsU64 queued → (e : Endpoint) → IsEndpoint e → IsEndpoint (numbered remaining queued e)
numbered_value remaining queued r q e i =
    record {
      setup = i.setup;
      pending = i.pending;
      acked = i.acked;
      history = i.history;
      remaining = r;
      magic = i.magic;
      nonces = i.nonces;
      clocks = i.clocks;
      quality = i.quality;
      statuses = i.statuses;
      checksums = i.checksums;
      events = i.events;
      queued = q;
    }

none_lent : IsSlice []
none_lent = (λ i. omega arith, omega arith)

one_lent : IsSlice (0 ∷ [])
one_lent = (one, omega arith)
  where
    one : Bytes (0 ∷ [])
    one zero = omega arith
    one (suc i) = omega arith

-- the endpoint of the worked bouts, with no reply to come and a byte queued: a handshake begins with no reply to come, and the byte stays when messages are taken
abbrev odd : Endpoint
odd = numbered 0 1 (right.new (setup_with 1) 1000).endpoint

odd_value : IsEndpoint odd
odd_value = numbered_value 0 1 (omega arith) (omega arith) _ (right_meets.values.made (setup_with 1) 1000 bouts_typed (omega arith) setup_taken)

invents_counts : InventsCounts (lazy done)
invents_counts = InventsCounts.begun odd odd_value 0 0 0 [] (omega arith, omega arith, omega arith, none_lent) refl (λ h. omega arith)

invents_lengths : InventsLengths (lazy done)
invents_lengths = InventsLengths.left odd odd_value [] none_lent refl (λ h. omega arith)

-- and none is counted when they are taken into another buffer
copies_lengths : InventsLengths (lazy done)
unfolding fresh made
copies_lengths = InventsLengths.copied odd odd_value [] [] (none_lent, none_lent) refl refl (λ h. omega arith)

-- nor is the byte handed back from the buffer where it stands
hands_none : InventsLengths (lazy done)
unfolding fresh made
hands_none = InventsLengths.handed odd odd_value (0 ∷ []) one_lent refl (omega arith) (λ h. omega arith)

-- ---- invented numbers that a user sees: nine replies of five have come, and one input is pending

abbrev boasted : Events
boasted = record { entries = record { list = filled most_events blank_entry (without_input (Event.Synchronizing 5 9) ∷ []); count = 1 } }

abbrev boasting : Version
boasting =
    answering done
    (λ e. record { setup = e.setup; pending = e.pending; acked = e.acked; history = e.history; sync = e.sync; nonces = e.nonces; clocks = e.clocks; flags = e.flags; quality = e.quality; statuses = e.statuses; checksums = e.checksums; events = boasted; queued = e.queued })
    (λ e. boasted) (Ok (record { ping = 0; send_queue_len = 1; local_frames_behind = 0; remote_frames_behind = 0 }))

announces-counts : InventsCounts boasting
unfolding held_events held fresh made counts_in Each
announces-counts = InventsCounts.announced odd odd_value p3 p3_asked (λ h. let nine : ◌≡◌ {A = ℕ} 9 5 = h.0.1 in omega arith)

hands_counts : InventsCounts boasting
unfolding held_events held fresh made counts_in
hands_counts = InventsCounts.handed odd odd_value (λ h. let one : ◌≡◌ {A = ℕ} 1 0 = ap length h in omega arith)

shows_lengths : InventsLengths boasting
unfolding waiting held fresh made
shows_lengths = InventsLengths.shown odd odd_value 0 (omega arith) _ refl (λ h. omega arith)
