-- `new` gives what holds of every endpoint, and every call keeps it, whatever its arguments; what a call queues is never refused by the writer's 12.
use borrow.Author.Tests.{leb-false, not-false}
use mathlib.Core.Bool.{false}
use mathlib.Core.List.{List, []}
use mathlib.Core.Path.{◌≡◌, refl, ◌∙◌}
use Prim.Native.Nat.{ℕ, ◌+◌, ◌^◌, ◌≤◌, ◌<◌, min}
use native.Mathlib.Omega.{arith}
use lib.ListN.{length, take, length-replicate}
use Rattle.base.specs.Little.{Bytes}
use Rattle.base.specs.Keyed.{Distinct}
use Rattle.base.proofs.Bools.{neither}
use Rattle.history.specs.History.{taken_in, packet_of}
use Rattle.status.specs.declared.ConnectionStatus.{ConnectionStatus}
use Rattle.status.specs.Status.{default_status}
use Rattle.status.specs.Statuses.{default_statuses}
use Rattle.quality.proofs.Laws.{advantage_below}
use Rattle.codec.specs.Message.{Wire, FitAll, FitsWide}
use Rattle.codec.specs.declared.Wide.{Wide}
use Rattle.codec.specs.declared.MessageBody.TheVariants.{ChecksumReport}
use Rattle.setup.specs.declared.Setup.{Setup}
use Rattle.setup.specs.Setup.{bad_setup, terms_with}
use Rattle.setup.proofs.Laws.{setup_sound}
use Rattle.timers.specs.Timers.{bad_clock, bad_clocks}
use Rattle.endpoint_rules.specs.declared.Phase.TheVariants.{Disconnected}
use Rattle.endpoint_rules.specs.Seen.{Seen, made, shutdown_at}
use Rattle.endpoint_rules.specs.Did.{begin}
use Rattle.endpoint_rules.specs.Room.{is_full}
use Rattle.endpoint_rules.specs.Handshake.{Reaction}
use Rattle.endpoint_rules.specs.Sending.{bad_statuses, pending_full}
use Rattle.endpoint_rules.specs.Checksum.{checksum_sent}
use Rattle.endpoint_rules.specs.Advantage.{both_known, local_advantage, advantage_updated}
use Rattle.endpoint_rules.specs.Call.{Call}
use Rattle.endpoint_rules.specs.Step.{fresh, changed, heard, on_body, synchronize_step, message_step, datagram_step, act_step, send_step, disconnect_step, checksum_step, advantage_step, stats_step, status_step, take_step, step, reacted}
use Rattle.endpoint_invariant.specs.Each.{Each}
use Rattle.endpoint_invariant.specs.Typed.{Typed, TypedWire, TypedSetup, TypedStatuses}
use Rattle.endpoint_invariant.specs.Sound.{Sound}
use Rattle.endpoint_invariant.proofs.Choices.{and_none, passes, by_pick}
use Rattle.endpoint_invariant.proofs.Parts.{clocks_part, quality_part, events_part, queued_part}
use Rattle.endpoint_invariant.proofs.Fields.{made_clocks, made_quality, made_statuses, shutdown_clock, local_quality}
use Rattle.endpoint_invariant.proofs.Syncs.{made_sync}
use Rattle.endpoint_invariant.proofs.Senders.{made_sender}
use Rattle.endpoint_invariant.proofs.Receivers.{made_receiver, never_full}
use Rattle.endpoint_invariant.proofs.Effects.{Keeps, begun, body_only_good, tested_keeps, decided_keeps, done_keeps}
use Rattle.endpoint_invariant.proofs.Requests.{synchronized_good}
use Rattle.endpoint_invariant.proofs.Hearing.{heard_good, body_good}
use Rattle.endpoint_invariant.proofs.Acts.{closed_phase, acted_good, sent_good}
use Rattle.endpoint_invariant.proofs.Typed.{datagram_typed}

-- ---- new

statuses_made : (players : ℕ) → players ≤ 4 → length (default_statuses players) ≡ players
unfolding default_statuses
statuses_made players h = length-replicate (min players 4) default_status ∙ omega arith

pub fresh_sound : (g : Setup) (now : ℕ) → TypedSetup g → (fresh g now).0 ≡ 0 → Sound (fresh g now).1
unfolding fresh made terms_with Distinct Each
fresh_sound g now t z =
    let c = passes (bad_clock now) 7 _ z in
    let b = passes (bad_setup g) 0 0 c.1 in
    let s = setup_sound g b.0 t.handles t.magic t.peer in
    record {
      setup = s;
      sender = made_sender _;
      receiver = made_receiver _ _;
      sync = made_sync;
      clocks = made_clocks now (leb-false (2 ^ 62) now c.0);
      notify = λ _. refl;
      quality = made_quality;
      players = statuses_made g.num_players s.players.1;
      statuses = made_statuses g.num_players;
      frames = tt;
      checksums = (omega arith, tt);
      firm = λ _. omega arith;
      events = omega arith;
    }

-- ---- every call

clocks_small : (now epoch : ℕ) → bad_clocks now epoch ≡ false → (now < 2 ^ 62) × (epoch < 2 ^ 62)
clocks_small now epoch h =
    let t = neither (bad_clock now) (bad_clock epoch) h in
    (leb-false (2 ^ 62) now t.0, leb-false (2 ^ 62) epoch t.1)

changed_keeps : (s : Seen) → Sound s → Keeps (changed s)
changed_keeps s h = record { after = h; out = tt }

module _ (s : Seen) (h : Sound s) where
  synchronize_keeps : (now epoch nonce buffer : ℕ) → nonce < 2 ^ 32 → Keeps (synchronize_step now epoch nonce buffer s)
  unfolding synchronize_step
  synchronize_keeps now epoch nonce buffer named = tested_keeps _ s _ h (λ z.
      let small = clocks_small now epoch z.0 in
      done_keeps buffer _ z.1.1.0 (synchronized_good now nonce small.0 named epoch s small.1 h (not-false _ z.1.0)))

  message_keeps : (from count : ℕ) (w : Wire) (now epoch nonce buffer : ℕ) → TypedWire w → nonce < 2 ^ 32 → Keeps (message_step from count w now epoch nonce buffer s)
  unfolding message_step reacted
  message_keeps from count w now epoch nonce buffer t named = tested_keeps _ s _ h (λ z. tested_keeps _ s _ h (λ y.
      let r : Reaction = on_body w.body count w now epoch nonce (heard now s) in
      let f = neither r.store_full (is_full buffer r.effect) y.1.1.0 in
      let small = clocks_small now epoch z.0 in
      done_keeps buffer r.effect f.1
      (body_good now small.0 (heard now s) (heard_good now s small.0 h) epoch nonce small.1 named count w t w.body t.body f.0)))

  act_keeps : (count : ℕ) (statuses : List ConnectionStatus) (now epoch nonce buffer : ℕ) → TypedStatuses count statuses → nonce < 2 ^ 32 → Keeps (act_step count statuses now epoch nonce buffer s)
  unfolding act_step
  act_keeps count statuses now epoch nonce buffer t named = tested_keeps _ s _ h (λ z.
      let small = clocks_small now epoch z.0 in
      done_keeps buffer _ z.1.1.0 (acted_good now statuses small.0 (omega (arith, t.few)) t.frames epoch nonce small.1 named s h s.phase refl))

  send_keeps : (frame : ℕ) (bytes : List ℕ) (count : ℕ) (statuses : List ConnectionStatus) (now buffer : ℕ) → frame < 2 ^ 32 → Bytes bytes → TypedStatuses count statuses
      → Keeps (send_step frame bytes count statuses now buffer s)
  unfolding send_step
  send_keeps frame bytes count statuses now buffer number are t = tested_keeps _ s _ h (λ z.
      let wide = (neither (bad_statuses count s) _ z.1.0).1 in
      let follows = z.1.1.1.0 in
      let r = neither (pending_full s) _ z.1.1.1.1.0 in
      done_keeps buffer _ r.1 (sent_good now statuses (leb-false (2 ^ 62) now z.0) (omega (arith, t.few)) t.frames frame bytes s number are h wide follows r.0))

  disconnect_keeps : (now : ℕ) → Keeps (disconnect_step now s)
  unfolding disconnect_step
  disconnect_keeps now = tested_keeps _ s _ h (λ z.
      let small = leb-false (2 ^ 62) now z.0 in
      changed_keeps _
      (closed_phase (shutdown_at (now + 5000) s) (clocks_part s h _ (shutdown_clock s.clocks h.clocks (now + 5000) (omega arith))) Disconnected refl refl refl))

  checksum_keeps : (frame : ℕ) (checksum : Wide) (now buffer : ℕ) → frame < 2 ^ 32 → FitsWide checksum → Keeps (checksum_step frame checksum now buffer s)
  unfolding checksum_step checksum_sent
  checksum_keeps frame checksum now buffer number wide = tested_keeps _ s _ h (λ z.
      done_keeps buffer _ z.1.0 (body_only_good (begin s) (begun s h) now (leb-false (2 ^ 62) now z.0) (ChecksumReport checksum frame) (wide, number)))

  advantage_keeps : (local_frame : ℕ) → Keeps (advantage_step local_frame s)
  unfolding advantage_step advantage_updated local_advantage
  advantage_keeps local_frame = tested_keeps _ s _ h (λ z.
      by_pick (λ x. Keeps (changed x)) (both_known local_frame s) (local_advantage local_frame s) s
      (λ k. changed_keeps _ (quality_part s h _ (local_quality s.quality h.quality _ (advantage_below _ _ _ local_frame (and_none (both_known local_frame s) _ z.0 k)))))
      (λ _. changed_keeps s h))

  pub step_keeps : (c : Call) → Typed c → Keeps (step c s)
  unfolding step datagram_step stats_step status_step take_step
  step_keeps (Call.synchronize now epoch nonce buffer) t = synchronize_keeps now epoch nonce buffer t.2
  step_keeps (Call.message from count w now epoch nonce buffer) t = message_keeps from count w now epoch nonce buffer t.2 t.3.2
  step_keeps (Call.datagram from bytes now epoch nonce buffer) t =
      decided_keeps _ s _ h (λ z. message_keeps from _ _ now epoch nonce buffer (datagram_typed bytes t.1 z) t.2.2)
  step_keeps (Call.act count statuses now epoch nonce buffer) t = act_keeps count statuses now epoch nonce buffer t.1 t.2.2
  step_keeps (Call.send_input frame bytes count statuses now buffer) t = send_keeps frame bytes count statuses now buffer t.0 t.1 t.3
  step_keeps (Call.disconnect now) t = disconnect_keeps now
  step_keeps (Call.send_checksum_report frame checksum now buffer) t = checksum_keeps frame checksum now buffer t.0 t.1
  step_keeps (Call.update_local_frame_advantage local_frame) t = advantage_keeps local_frame
  step_keeps (Call.network_stats epoch) t = tested_keeps _ s _ h (λ _. changed_keeps s h)
  step_keeps (Call.peer_connect_status handle) t = tested_keeps _ s _ h (λ _. changed_keeps s h)
  step_keeps Call.take_events t = changed_keeps _ (events_part s h [] (omega arith))
  step_keeps (Call.take_messages buffer) t = tested_keeps _ s _ h (λ _. changed_keeps _ (queued_part s h 0))
  step_keeps (Call.ask question) t = changed_keeps s h

pub step_sound : (c : Call) → Typed c → (s : Seen) → Sound s → Sound (step c s).after
step_sound c t s h = (step_keeps s h c t).after

-- ---- what follows

-- every message that a call queues is one that the writer takes, so it is never asked for 12
pub step_fits : (c : Call) → Typed c → (s : Seen) → Sound s → FitAll (step c s).out
step_fits c t s h = (step_keeps s h c t).out

-- its history never gives 5: whatever packet comes, all that is to be kept fits
pub history_room : (s : Seen) → Sound s → (start width : ℕ) (reference payload : List ℕ)
    → take 33 (taken_in s.setup.max_prediction s.carried.receiver.history (packet_of start width reference payload))
    ≡ taken_in s.setup.max_prediction s.carried.receiver.history (packet_of start width reference payload)
history_room s h = never_full _ s.setup.max_prediction s.carried.receiver.history h.setup.max_prediction h.receiver
