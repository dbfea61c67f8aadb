-- None of the unusable versions meets the public statements. The endpoints that are tried are those that the version itself makes.
use mathlib.Core.Bool.{true, false}
use mathlib.Core.List.{List, [], ◌∷◌, ◌++◌}
use mathlib.Core.Logic.{◌⊎◌, inl, inr}
use mathlib.Core.Path.{◌≡◌, refl, sym, ◌∙◌, ap}
use native.Mathlib.Omega.{arith}
use Prim.Native.Nat.{ℕ, zero, suc, ◌+◌, ◌-◌, ◌^◌, ◌≤◌, ◌<◌}
use lib.ListN.{length, drop, replicate, length-replicate}
use lib.Seq.{length-take-le}
use borrow.Author.Tests.{le-ltb}
use Rattle.base.specs.Little.{Bytes}
use Rattle.base.specs.Keyed.{kept, has, without}
use Rattle.base.specs.Last.{last_of}
use Rattle.frame.specs.Bias.{null_frame}
use Rattle.packing.specs.Packing.{xors, frames_of, unpack, pack, decodable_length, decodable}
use Rattle.packing.specs.Pad.{zeros, padded}
use Rattle.pending.specs.Pending.{drop_to, last_to, room}
use Rattle.history.specs.History.{blank_frame, highest, newest_of, found_in, reference_frame, at_line, above, numbered, packet_of, taken_in}
use Rattle.nonces.specs.Nonces.{issued}
use Rattle.status.specs.Status.{default_status, reported, merged}
use Rattle.status.specs.Statuses.{merged_all, default_statuses}
use Rattle.events.specs.Events.{held_events, has_room, input_of, input_entry, announced, announced_each}
use Rattle.events.specs.declared.Entry.{Entry}
use Rattle.quality.specs.declared.NetworkStats.{NetworkStats}
use Rattle.setup.specs.Setup.{bad_setup, any_above, any_twice, inserted, sorted, terms_with}
use Rattle.outbox.specs.Outbox.{queue_size}
use Rattle.codec.specs.Message.{Wire, Fits, FitsReports, meant}
use Rattle.codec.specs.Bytes.{bytes}
use Rattle.codec.specs.declared.Message.{Message}
use Rattle.codec.specs.declared.MessageBody.TheVariants.{Input}
use Rattle.codec.proofs.Meant.{input_is, meant-input, meant_magic, meant_body}
use Rattle.codec.proofs.Laws.{bytes-length}
use Rattle.codec.proofs.Octets.{bytes-bytes}
use Rattle.endpoint_rules.specs.Seen.{Seen, made, is_shutdown}
use Rattle.endpoint_rules.specs.Did.{refused, tested, queue_wire, done}
use Rattle.endpoint_rules.specs.Room.{buffer_full, is_full}
use Rattle.endpoint_rules.specs.Sending.{newest, dropped_to, acknowledged}
use Rattle.endpoint_rules.specs.Receiving.{taken, received_if, receive, discarded, packet_overflows, statuses_merged, informed, inputs_received, input_taken, input_unless, on_input}
use Rattle.endpoint_rules.specs.Reports.{stats_of}
use Rattle.endpoint_rules.specs.Call.{Call}
use Rattle.endpoint_rules.specs.Step.{fresh, ignored, resumed, heard, on_body, reacted, message_step, disconnect_step, take_step, step}
use Rattle.endpoint_rules.specs.Value.{Value, value_of, filled_part, handed_back}
use Rattle.endpoint_rules.proofs.Bouts.{setup_with, setup_taken, new, fr, wire, none, P3, P5}
use Rattle.endpoint_rules.proofs.Datagrams.{bytes-message}
use Rattle.endpoint_invariant.specs.Each.{Each}
use Rattle.endpoint_invariant.specs.Typed.{TypedSetup}
use Rattle.endpoint_invariant.proofs.Announced.{step-announces}
use Rattle.endpoint_invariant.proofs.Examples.{small_typed}
use Rattle.endpoint_invariant.proofs.Padding.{bytes-zeros}
use Rattle.endpoint_invariant.proofs.Queue.{step_queues}
use Rattle.endpoint.specs.declared.Endpoint.{Endpoint}
use Rattle.std.specs.Prelude.{Ok}
use Rattle.endpoint.specs.Taken.{count_in as copied_count}
use Rattle.endpoint.specs.Endpoint.{seen}
use Rattle.endpoint.specs.Taken.{shorter}
use Rattle.endpoint.specs.Shown.{shown}
use Rattle.endpoint_version.specs.Values.{IsSlice, IsMessage, IsEndpoint}
use Rattle.endpoint_version.specs.Version.{Version, Asked, IsAsked, function_of, call_of, number_from, endpoint_after}
use Rattle.endpoint_version.specs.Meets.{Meets, Reached}
use Rattle.endpoint_version.proofs.Asked.{none_handed}
use Rattle.endpoint_version.proofs.Reached.{after-seen, reached_good}
use Rattle.endpoint_ruled_out.specs.Unusable.{RefusesAll, Constant, Untouched, Received, FirstOnly, to_come, counts_in, TellsCount, added_by, InventsCounts, InventsLengths}
use Rattle.endpoint_ruled_out.proofs.Steps.{idle_calm, one_counts, other_message, unasked_reply, asked_reply, begins, reports, takes_all}
use Rattle.endpoint_ruled_out.proofs.Told.{call_truthful}

-- a disconnect of a new endpoint is done at clock 0 and sets the shutdown time; it is refused at a clock above the ceiling
done_at_0 : (step (Call.disconnect 0) new).answer ≡ 0
unfolding tested step disconnect_step fresh made
done_at_0 = refl

times_at_0 : (step (Call.disconnect 0) new).after.clocks.shutdown_timeout ≡ 5000
unfolding tested step disconnect_step fresh made
times_at_0 = refl

refused_late : (step (Call.disconnect (2 ^ 62)) new).answer ≡ 8
unfolding refused tested step disconnect_step
refused_late = refl

made_at : new.clocks.shutdown_timeout ≡ 1000
unfolding fresh made
made_at = refl

pub bouts_typed : TypedSetup (setup_with 1)
unfolding Each
bouts_typed =
    small_typed (1 ∷ 0 ∷ 0 ∷ 0 ∷ []) 1 1 1 2 7 refl (omega arith, (omega arith, (omega arith, (omega arith, tt))))
    (omega arith, (omega arith, (omega arith, (omega arith, (omega arith, tt)))))

module _ (v : Version) (m : Meets v) where
  -- the version's own endpoint of the worked bouts
  abbrev pub own : Endpoint
  own = (v.new (setup_with 1) 1000).endpoint

  own_reached : Reached v own
  own_reached = Reached.made (setup_with 1) 1000 bouts_typed (omega arith) setup_taken

  own_value : IsEndpoint own
  own_value = (reached_good v m own own_reached).value

  pub own_seen : seen own ≡ new
  own_seen = (m.new (setup_with 1) 1000 bouts_typed (omega arith)).made

  -- its disconnect
  own_disconnect : (now : ℕ) → now < 2 ^ 64 → (number_from v own (Asked.disconnect now) ≡ (step (Call.disconnect now) new).answer)
      × (seen (endpoint_after v own (Asked.disconnect now)) ≡ (step (Call.disconnect now) new).after)
  own_disconnect now h = let k = m.disconnect own now own_value h in (k.answer ∙ rw own_seen, k.after ∙ rw own_seen)

pub not_refuses_all : (v : Version) → RefusesAll v → Meets v → ⊥
not_refuses_all v r m = r (own v m) (own_reached v m) (Asked.disconnect 0) (omega arith) ((own_disconnect v m 0 (omega arith)).0 ∙ done_at_0)

pub not_constant : (v : Version) (n : ℕ → ℕ) → Constant n v → Meets v → ⊥
not_constant v n c m =
    let zero : n 5 ≡ 0 = sym (c (own v m) (own_reached v m) (Asked.disconnect 0) (omega arith)) ∙ (own_disconnect v m 0 (omega arith)).0 ∙ done_at_0 in
    let eight : n 5 ≡ 8 = sym (c (own v m) (own_reached v m) (Asked.disconnect (2 ^ 62)) (omega arith)) ∙ (own_disconnect v m (2 ^ 62) (omega arith)).0 ∙ refused_late in
    omega arith

-- the shutdown time is set
pub not_untouched : (v : Version) → Untouched v → Meets v → ⊥
not_untouched v u m =
    let same : new ≡ (step (Call.disconnect 0) new).after =
    sym (own_seen v m) ∙ sym (u.calls (own v m) (own_reached v m) (Asked.disconnect 0) (omega arith)) ∙ (own_disconnect v m 0 (omega arith)).1 in
    let h : ◌≡◌ {A = ℕ} 1000 5000 = sym made_at ∙ ap (λ (s : Seen). s.clocks.shutdown_timeout) same ∙ times_at_0 in
    omega arith

-- ---- the first packet and then nothing: P5 after P3 brings frame 2

abbrev received : Seen
received = (step P3 new).after

newest_one : newest received ≡ fr 1
unfolding kept has without xors frames_of unpack pack decodable_length decodable zeros padded drop_to last_to room blank_frame highest newest_of found_in at_line above numbered packet_of taken_in issued last_of default_status reported merged merged_all default_statuses has_room input_of input_entry announced bad_setup any_above any_twice inserted sorted terms_with made refused tested queue_wire queue_size done buffer_full is_full dropped_to acknowledged reference_frame taken received_if receive announced_each discarded packet_overflows statuses_merged informed inputs_received input_taken input_unless on_input fresh ignored resumed heard on_body reacted message_step step
newest_one = refl

newest_two : newest (step P5 received).after ≡ fr 2
unfolding kept has without xors frames_of unpack pack decodable_length decodable zeros padded drop_to last_to room blank_frame highest newest_of found_in at_line above numbered packet_of taken_in issued last_of default_status reported merged merged_all default_statuses has_room input_of input_entry announced bad_setup any_above any_twice inserted sorted terms_with made refused tested queue_wire queue_size done buffer_full is_full dropped_to acknowledged reference_frame taken received_if receive announced_each discarded packet_overflows statuses_merged informed inputs_received input_taken input_unless on_input fresh ignored resumed heard on_body reacted message_step step
newest_two = refl

-- the packets as values, their reports in an array of four
abbrev pub input : (start : ℕ) → Message
input start = record { magic = 9; body = Input false start null_frame; reports = record { list = none ++ none; count = 2 } }

input_value : (start : ℕ) → start < 2 ^ 32 → IsMessage (input start)
unfolding Each
input_value start h =
    record { magic = omega arith; body = (h, omega arith); size = refl; frames = (omega arith, (omega arith, (omega arith, (omega arith, tt)))); count = omega arith }

abbrev pub buffer : List ℕ
buffer = replicate 65536 0

long : length buffer ≡ 65536
long = length-replicate {A = ℕ} 65536 0

buffer_value : IsSlice buffer
buffer_value = (bytes-zeros 65536, omega (arith, long))

abbrev pub p3 : Asked
p3 = Asked.message 3 (input (fr 0)) (5 ∷ 7 ∷ []) 2000 72000 0 buffer

pub p3_asked : IsAsked p3
p3_asked = (omega arith, input_value (fr 0) (omega arith), (bytes, omega arith), omega arith, omega arith, omega arith, buffer_value)
  where
    bytes : Bytes (5 ∷ 7 ∷ [])
    bytes zero = omega arith
    bytes (suc zero) = omega arith
    bytes (suc (suc i)) = omega arith

-- P5's comes as a message, and as a datagram
abbrev p5 : Wire
p5 = wire (Input false (fr 2) null_frame) none (2 ∷ [])

never : true ≡ false → ⊥
never n = let z : ◌≡◌ {A = ℕ} 0 1 = cc in omega arith

p5_bytes : Bytes (2 ∷ [])
p5_bytes zero = omega arith
p5_bytes (suc i) = omega arith

p5_fits : Fits p5
p5_fits =
    record {
      magic = omega arith;
      body = (omega arith, omega arith);
      frames = frames;
      statuses = omega arith;
      length = omega arith;
      bytes = p5_bytes;
      none = λ e. absurd (never (sym (input_is false (fr 2) null_frame) ∙ e));
    }
  where
    frames : FitsReports none
    frames zero d h = omega arith
    frames (suc zero) d h = omega arith
    frames (suc (suc i)) d h = absurd (omega arith)

abbrev p5_message : Asked
p5_message = Asked.message 3 (input (fr 2)) (2 ∷ []) 2000 72000 0 buffer

p5_message_asked : IsAsked p5_message
p5_message_asked = (omega arith, input_value (fr 2) (omega arith), (p5_bytes, omega arith), omega arith, omega arith, omega arith, buffer_value)

abbrev p5_datagram : Asked
p5_datagram = Asked.datagram 3 (bytes p5) 2000 72000 0 buffer

p5_datagram_asked : IsAsked p5_datagram
p5_datagram_asked = (omega arith, (bytes-bytes p5 p5_fits, omega (arith, bytes-length p5 p5_fits)), omega arith, omega arith, omega arith, buffer_value)

module _ (v : Version) (m : Meets v) where
  -- P3's packet comes to it
  abbrev first : Endpoint
  first = endpoint_after v (own v m) p3

  first_reached : Reached v first
  first_reached = Reached.called (own v m) (own_reached v m) p3 p3_asked

  first_value : IsEndpoint first
  first_value = (reached_good v m first first_reached).value

  first_seen : seen first ≡ received
  first_seen =
      after-seen v m (own v m) (own_value v m) p3 p3_asked
      ∙ rw (own_seen v m, meant-input 9 false (fr 0) null_frame (input (fr 0)).reports (5 ∷ 7 ∷ []), long)

  first_newest : newest (seen first) ≡ fr 1
  first_newest = rw first_seen newest_one

  pub first_received : Received first
  first_received e = let z : fr 1 ≡ null_frame = sym first_newest ∙ e in omega arith

  -- then P5's, either way
  second_message : newest (seen (endpoint_after v first p5_message)) ≡ fr 2
  second_message =
      ap newest (after-seen v m first first_value p5_message p5_message_asked)
      ∙ rw (first_seen, meant-input 9 false (fr 2) null_frame (input (fr 2)).reports (2 ∷ []), long) newest_two

  second_datagram : newest (seen (endpoint_after v first p5_datagram)) ≡ fr 2
  second_datagram =
      ap newest (after-seen v m first first_value p5_datagram p5_datagram_asked)
      ∙ rw (first_seen, bytes-message 3 p5 2000 72000 0 (length buffer) received p5_fits, long) newest_two

pub not_first_only : (v : Version) → FirstOnly v → Meets v → ⊥
not_first_only v (FirstOnly.messages f) m =
    let e : fr 2 ≡ fr 1 =
    sym (second_message v m) ∙ f (first v m) (first_reached v m) (first_received v m) 3 (input (fr 2)) (2 ∷ []) 2000 72000 0 buffer p5_message_asked ∙ first_newest v m in
    omega arith
not_first_only v (FirstOnly.datagrams f) m =
    let e : fr 2 ≡ fr 1 =
    sym (second_datagram v m) ∙ f (first v m) (first_reached v m) (first_received v m) 3 (bytes p5) 2000 72000 0 buffer p5_datagram_asked ∙ first_newest v m in
    omega arith

-- ---- invented numbers

abbrev counted : Seen → ℕ
counted s = s.sync.remaining

abbrev queue : Seen → ℕ
queue s = s.queued

abbrev held : Seen → List Entry
held s = s.events

-- what is behind as many as there were is what was added
drop-joined : (l more : List Entry) → drop (length l) (l ++ more) ≡ more
drop-joined [] more = refl
drop-joined (x ∷ l) more = drop-joined l more

module _ (v : Version) (m : Meets v) (e : Endpoint) (i : IsEndpoint e) where
  module _ (c : Asked) (a : IsAsked c) where
    idle_count : 2 < function_of c → to_come (endpoint_after v e c) ≡ to_come e
    unfolding seen
    idle_count h = ap counted (after-seen v m e i c a) ∙ idle_calm c (seen e) h

    one_count : 0 < function_of c → (to_come (endpoint_after v e c) ≡ to_come e) ⊎ (to_come (endpoint_after v e c) ≡ to_come e - 1)
    unfolding seen
    one_count h = simp (sym (ap counted (after-seen v m e i c a))) at (one_counts c (seen e) h)

    sized : ((buffer : ℕ) → call_of c ≡ Call.take_messages buffer → ⊥) → (endpoint_after v e c).queued ≡ e.queued + queue_size (step (call_of c) (seen e)).out
    unfolding seen
    sized h = ap queue (after-seen v m e i c a) ∙ elim (step_queues (call_of c) 0 (seen e)) [ inl t ↦ absurd (h t.0 t.1) | inr q ↦ q.1.counted ]

    -- what it adds to the events is what it announces
    added : added_by v e c ≡ (step (call_of c) (seen e)).events
    unfolding seen
    added =
        ap (λ (l : List Entry). drop (length (held_events e.events)) l)
        (ap held (after-seen v m e i c a) ∙ rw (none_handed c (seen e)) at (step-announces (call_of c) (seen e)))
        ∙ drop-joined (held_events e.events) _

    tells : Each (TellsCount (to_come (endpoint_after v e c))) (counts_in (added_by v e c))
    unfolding seen
    tells = rw (added, ap counted (after-seen v m e i c a)) (call_truthful c (seen e))

  -- a refusal gives the very endpoint back
  refused_same : (c : Asked) → IsAsked c → (number_from v e c ≡ 0 → ⊥) → endpoint_after v e c ≡ e
  refused_same (Asked.synchronize now epoch nonce out) a h = let k = m.synchronize e now epoch nonce out i a in k.same (λ z. h (k.answer ∙ z))
  refused_same (Asked.message from x payload now epoch nonce out) a h = let k = m.message e from x payload now epoch nonce out i a in k.same (λ z. h (k.answer ∙ z))
  refused_same (Asked.datagram from d now epoch nonce out) a h = let k = m.datagram e from d now epoch nonce out i a in k.same (λ z. h (k.answer ∙ z))
  refused_same (Asked.act statuses now epoch nonce out) a h = let k = m.act e statuses now epoch nonce out i a in k.same (λ z. h (k.answer ∙ z))
  refused_same (Asked.send_input frame bytes statuses now out) a h = let k = m.send_input e frame bytes statuses now out i a in k.same (λ z. h (k.answer ∙ z))
  refused_same (Asked.disconnect now) a h = let k = m.disconnect e now i a in k.same (λ z. h (k.answer ∙ z))
  refused_same (Asked.send_checksum_report frame checksum now out) a h = let k = m.send_checksum_report e frame checksum now out i a in k.same (λ z. h (k.answer ∙ z))
  refused_same (Asked.update_local_frame_advantage local) a h = let k = m.update_local_frame_advantage e local i a in k.same (λ z. h (k.answer ∙ z))
  refused_same (Asked.take_messages out) a h = let k = m.take_messages e out i a in k.same (λ z. h (k.answer ∙ z))
  refused_same (Asked.network_stats epoch) a h = refl
  refused_same (Asked.peer_connect_status handle) a h = refl
  refused_same (Asked.take_messages_into out into) a h = let k = (m.take_messages_into e out into i a).taken in k.same (λ z. h (k.answer ∙ z))

  -- events are handed back as they are held
  hands : held_events (v.take_events e).events ≡ held_events e.events
  unfolding seen value_of
  hands = let h = (m.take_events e i).events in cc

  -- what is taken into another buffer is all that is queued, but in Shutdown
  copies : (out into : List ℕ) → IsAsked (Asked.take_messages_into out into) → number_from v e (Asked.take_messages_into out into) ≡ 0 → is_shutdown e.sync.phase ≡ false
      → copied_count (v.take_messages_into e out into).0.answer ≡ e.queued
  unfolding seen handed_back filled_part
  copies out into a d p =
      let k = m.take_messages_into e out into i a in
      let z : (step (Call.take_messages (shorter out into)) (seen e)).answer ≡ 0 = sym k.taken.answer ∙ d in
      k.count ∙ rw (z, p)

  -- what is handed back is the whole queue
  hands_all : (out : List ℕ) → IsSlice out → is_shutdown e.sync.phase ≡ false → e.queued ≤ length out → length (v.messages e out) ≡ e.queued
  unfolding handed_back filled_part step take_step tested seen
  hands_all out a p q = ap length (m.messages e out i a) ∙ rw (p, le-ltb (length out) e.queued q) (length-take-le e.queued out q)

  -- stats that are shown are those of the rules
  shows : (epoch : ℕ) → IsAsked (Asked.network_stats epoch) → (stats : NetworkStats) → v.network_stats e epoch ≡ Ok stats → stats ≡ stats_of (seen e)
  unfolding shown value_of
  shows epoch a stats h =
      let both : ◌≡◌ {A = ℕ × Value} (0, Value.stats stats) (shown (Call.network_stats epoch) (seen e)) = rw h at (m.network_stats e epoch i a) in
      let number : 0 ≡ (step (Call.network_stats epoch) (seen e)).answer = ap (λ (p : ℕ × Value). p.0) both in
      let value : Value.stats stats ≡ Value.stats (stats_of (seen e)) = ap (λ (p : ℕ × Value). p.1) both ∙ rw (← number) in
      cc

pub not_invents_counts : (v : Version) → InventsCounts v → Meets v → ⊥
unfolding seen step
not_invents_counts v (InventsCounts.begun e i now epoch nonce out a d h) m =
    let k = m.synchronize e now epoch nonce out i a in
    h (ap counted k.after ∙ (begins (seen e) now epoch nonce (length out) (sym k.answer ∙ d)).0)
not_invents_counts v (InventsCounts.unasked e i from x payload now epoch nonce out a reply b o h) m =
    h (ap counted (m.message e from x payload now epoch nonce out i a).after
    ∙ unasked_reply (seen e) from x.reports.count (meant x payload) now epoch nonce (length out) reply (meant_body x payload ∙ b) o)
not_invents_counts v (InventsCounts.unlike e i from x payload now epoch nonce out a other h) m =
    h (ap counted (m.message e from x payload now epoch nonce out i a).after
    ∙ other_message (seen e) from x.reports.count (meant x payload) now epoch nonce (length out) (λ reply b. other reply (sym (meant_body x payload) ∙ b)))
not_invents_counts v (InventsCounts.uncounted e i from x payload now epoch nonce out a reply b o p g d h) m =
    let k = m.message e from x payload now epoch nonce out i a in
    h (ap counted k.after
    ∙ asked_reply (seen e) from x.reports.count (meant x payload) now epoch nonce (length out) reply (meant_body x payload ∙ b) p o (rw (meant_magic x payload) g) (sym k.answer ∙ d))
not_invents_counts v (InventsCounts.misread e i from d now epoch nonce out a h) m = h (ap counted (m.datagram e from d now epoch nonce out i a).after)
not_invents_counts v (InventsCounts.miscounted e i c a s h k) m = elim (one_count v m e i c a s) [ inl z ↦ h z | inr z ↦ k z ]
not_invents_counts v (InventsCounts.idle e i c a s h) m = h (idle_count v m e i c a s)
not_invents_counts v (InventsCounts.refused e i c a r h) m = h (ap to_come (refused_same v m e i c a r))
not_invents_counts v (InventsCounts.taken e i h) m = h (ap counted (m.take_events e i).after)
not_invents_counts v (InventsCounts.announced e i c a h) m = h (tells v m e i c a)
not_invents_counts v (InventsCounts.handed e i h) m = h (ap counts_in (hands v m e i))

pub not_invents_lengths : (v : Version) → InventsLengths v → Meets v → ⊥
unfolding seen step stats_of
not_invents_lengths v (InventsLengths.requested e i now epoch nonce out a d h) m =
    let k = m.synchronize e now epoch nonce out i a in
    h (ap queue k.after ∙ (begins (seen e) now epoch nonce (length out) (sym k.answer ∙ d)).1)
not_invents_lengths v (InventsLengths.reported e i frame checksum now out a d h) m =
    let k = m.send_checksum_report e frame checksum now out i a in
    h (ap queue k.after ∙ reports (seen e) frame checksum now (length out) (sym k.answer ∙ d))
not_invents_lengths v (InventsLengths.left e i out a d h) m =
    let k = m.take_messages e out i a in
    h (ap queue k.after ∙ takes_all (seen e) (length out) (sym k.answer ∙ d))
not_invents_lengths v (InventsLengths.left_into e i out into a d h) m =
    let k = (m.take_messages_into e out into i a).taken in
    h (ap queue k.after ∙ takes_all (seen e) (shorter out into) (sym k.answer ∙ d))
not_invents_lengths v (InventsLengths.copied e i out into a d p h) m = h (copies v m e i out into a d p)
not_invents_lengths v (InventsLengths.handed e i out a p q h) m = h (hands_all v m e i out a p q)
not_invents_lengths v (InventsLengths.unsized e i c a s h) m = h (sized v m e i c a s)
not_invents_lengths v (InventsLengths.taken e i h) m = h (ap queue (m.take_events e i).after)
not_invents_lengths v (InventsLengths.refused e i c a r h) m = h (ap (λ (x : Endpoint). x.queued) (refused_same v m e i c a r))
not_invents_lengths v (InventsLengths.shown e i epoch a stats k h) m = h (ap (λ (x : NetworkStats). x.send_queue_len) (shows v m e i epoch a stats k))
