-- Over every run: the events taken and those still held are those that were held before it and those announced in it, in order.
use mathlib.Core.List.{List, [], ◌∷◌, ◌++◌, append-nil, append_assoc}
use mathlib.Core.Path.{◌≡◌, refl, sym, ◌∙◌, ap}
use Prim.Native.Nat.{ℕ, ◌+◌}
use Rattle.codec.specs.Message.{Wire}
use Rattle.events.specs.declared.Entry.{Entry}
use Rattle.endpoint_rules.specs.declared.Phase.TheVariants.{Disconnected}
use Rattle.endpoint_rules.specs.Seen.{Seen, with_phase, with_queued, shutdown_at}
use Rattle.endpoint_rules.specs.Did.{Did, Effect, refused, begin, queue_wire, done}
use Rattle.endpoint_rules.specs.Handshake.{synchronized, started}
use Rattle.endpoint_rules.specs.Checksum.{checksum_sent}
use Rattle.endpoint_rules.specs.Advantage.{both_known, local_advantage, advantage_updated}
use Rattle.endpoint_rules.specs.Call.{Call}
use Rattle.endpoint_rules.specs.Step.{changed, step, synchronize_step, message_step, datagram_step, act_step, send_step, disconnect_step, checksum_step, advantage_step, stats_step, status_step, take_step, reacted}
use Rattle.endpoint_rules.proofs.Tested.{tested-both, decided-both}
use Rattle.endpoint_invariant.specs.Runs.{ran, all_announced, handed, all_handed}
use Rattle.endpoint_invariant.proofs.Leaves.{by_cases, booked, books, acted_leaves, sent_leaves, request_leaves, message_books}

-- ---- calls

-- a call other than taking the events puts what it announces behind what is held
abbrev Announces : Seen → Did → Type 0
Announces s d = d.after.events ≡ s.events ++ d.events

refused-announces : (s : Seen) (k : ℕ) → Announces s (refused k s)
unfolding refused
refused-announces s k = sym (append-nil s.events)

done-announces : (s : Seen) (e : Effect) → booked e.state ≡ booked s → Announces s (done e)
unfolding done
done-announces s e h = rw (ap (λ (p : List Entry × ℕ). p.0) h)

changed-announces : (s t : Seen) → t.events ≡ s.events → Announces s (changed t)
changed-announces s t h = h ∙ sym (append-nil s.events)

message-announces : (from count : ℕ) (w : Wire) (now epoch nonce buffer : ℕ) (s : Seen) → Announces s (message_step from count w now epoch nonce buffer s)
unfolding message_step reacted
message-announces from count w now epoch nonce buffer s =
    tested-both _ s _ (Announces s) (refused-announces s) (λ _.
    tested-both _ s _ (Announces s) (refused-announces s) (λ _. done-announces s _ (message_books count w now epoch nonce s)))

updated : (f : ℕ) (s : Seen) → (advantage_updated f s).events ≡ s.events
unfolding advantage_updated local_advantage
updated f s = by_cases (both_known f s) ((advantage_updated f s).events ≡ s.events) (λ h. rw h) (λ h. rw h)

-- with what it hands back, every call
pub step-announces : (c : Call) (s : Seen) → handed c s ++ (step c s).after.events ≡ s.events ++ (step c s).events
unfolding step synchronize_step datagram_step act_step send_step disconnect_step checksum_step checksum_sent queue_wire synchronized started advantage_step stats_step status_step take_step
step-announces (Call.synchronize now epoch nonce buffer) s = tested-both _ s _ (Announces s) (refused-announces s) (λ _. done-announces s _ (books (request_leaves now nonce _)))
step-announces (Call.message from count w now epoch nonce buffer) s = message-announces from count w now epoch nonce buffer s
step-announces (Call.datagram from bytes now epoch nonce buffer) s = decided-both _ s _ (Announces s) (refused-announces s) (λ _. message-announces from _ _ now epoch nonce buffer s)
step-announces (Call.act count statuses now epoch nonce buffer) s = tested-both _ s _ (Announces s) (refused-announces s) (λ _. done-announces s _ (books (acted_leaves now s.phase epoch nonce statuses (begin s))))
step-announces (Call.send_input frame bytes count statuses now buffer) s =
    tested-both _ s _ (Announces s) (refused-announces s) (λ _. done-announces s _ (books (sent_leaves now frame bytes statuses (begin s))))
step-announces (Call.disconnect now) s =
    tested-both _ s _ (Announces s) (refused-announces s) (λ _. changed-announces s (with_phase Disconnected (shutdown_at (now + 5000) s)) refl)
step-announces (Call.send_checksum_report frame checksum now buffer) s = tested-both _ s _ (Announces s) (refused-announces s) (λ _. done-announces s _ refl)
step-announces (Call.update_local_frame_advantage f) s = tested-both _ s _ (Announces s) (refused-announces s) (λ _. changed-announces s (advantage_updated f s) (updated f s))
step-announces (Call.network_stats epoch) s = tested-both _ s _ (Announces s) (refused-announces s) (λ _. changed-announces s s refl)
step-announces (Call.peer_connect_status handle) s = tested-both _ s _ (Announces s) (refused-announces s) (λ _. changed-announces s s refl)
step-announces Call.take_events s = refl
step-announces (Call.take_messages buffer) s = tested-both _ s _ (Announces s) (refused-announces s) (λ _. changed-announces s (with_queued 0 s) refl)
step-announces (Call.ask question) s = changed-announces s s refl

-- and every run
pub run_announces : (cs : List Call) (s : Seen) → all_handed cs s ++ (ran cs s).events ≡ s.events ++ all_announced cs s
unfolding ran all_announced all_handed
run_announces [] s = sym (append-nil s.events)
run_announces (c ∷ cs) s =
    append_assoc (handed c s) (all_handed cs (step c s).after) (ran cs (step c s).after).events
    ∙ ap (λ l. handed c s ++ l) (run_announces cs (step c s).after)
    ∙ sym (append_assoc (handed c s) (step c s).after.events (all_announced cs (step c s).after))
    ∙ ap (λ l. l ++ all_announced cs (step c s).after) (step-announces c s)
    ∙ append_assoc s.events (step c s).events (all_announced cs (step c s).after)
