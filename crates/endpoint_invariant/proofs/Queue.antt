-- Over every run with the same buffer lent each time: the bytes that left the queue and those that still stand in it are the bytes queued before the
-- run and those of the messages that it queued, back to back and in order.
use mathlib.Core.Bool.{Bool, true, false}
use mathlib.Core.List.{List, [], ◌∷◌, ◌++◌, append-nil, append_assoc, flatten}
use mathlib.Core.Path.{◌≡◌, refl, sym, ◌∙◌, ap}
use mathlib.Core.Logic.{◌⊎◌, inl, inr}
use native.Mathlib.Omega.{arith}
use native.Mathlib.Nat.{add-zero}
use Prim.Native.Nat.{ℕ, ◌+◌, ◌≤◌}
use borrow.Author.Tests.{ltb-false}
use lib.Dec.{ltb, eqb}
use lib.ListN.{length, take}
use Rattle.base.specs.Pick.{pick}
use Rattle.base.specs.Lay.{laid_at}
use Rattle.base.proofs.Lay.{laid_none, laid_front, laid_length}
use Rattle.base.proofs.Bools.{neither}
use Rattle.endpoint_rules.specs.declared.Phase.TheVariants.{Disconnected}
use Rattle.codec.specs.Message.{Wire, FitAll}
use Rattle.codec.specs.Bytes.{queue_of}
use Rattle.codec.proofs.Queue.{queue-append}
use Rattle.events.specs.declared.Entry.{Entry}
use Rattle.outbox.specs.Outbox.{queue_size}
use Rattle.outbox.proofs.Laws.{queue_size_lem}
use Rattle.endpoint_rules.specs.Seen.{Seen, is_shutdown, with_phase, with_events, with_queued, shutdown_at}
use Rattle.endpoint_rules.specs.Did.{Did, Effect, refused, tested, begin, queue_wire, done}
use Rattle.endpoint_rules.specs.Room.{events_full, buffer_full, is_full}
use Rattle.endpoint_rules.specs.Call.{Call}
use Rattle.endpoint_rules.specs.Handshake.{Reaction, synchronized, started}
use Rattle.endpoint_rules.specs.Sending.{pending_full, input_sent}
use Rattle.endpoint_rules.specs.Act.{acted}
use Rattle.endpoint_rules.specs.Checksum.{checksum_sent}
use Rattle.endpoint_rules.specs.Advantage.{both_known, local_advantage, advantage_updated}
use Rattle.endpoint_rules.specs.Step.{changed, short_buffer, heard, on_body, step, synchronize_step, message_step, datagram_step, act_step, send_step, disconnect_step, checksum_step, advantage_step, stats_step, status_step, take_step, reacted}
use Rattle.endpoint_rules.specs.Value.{filled_part, handed_back}
use Rattle.endpoint_rules.proofs.Tested.{tested-both, decided-both}
use Rattle.endpoint_invariant.specs.Runs.{ran, lent_to, Lent, lent_after, lent_ran, gone, all_gone, all_out}
use Rattle.endpoint_invariant.proofs.Leaves.{by_cases, booked, books, acted_leaves, sent_leaves, request_leaves, message_books}

updated : (f : ℕ) (s : Seen) → (advantage_updated f s).queued ≡ s.queued
unfolding advantage_updated local_advantage
updated f s = by_cases (both_known f s) ((advantage_updated f s).queued ≡ s.queued) (λ h. rw h) (λ h. rw h)

-- what a call queues fits a buffer of its length, or is nothing, and is counted
pub record Queues (n : ℕ) (s : Seen) (d : Did) : Type 0 where
  pub counted : d.after.queued ≡ s.queued + queue_size d.out
  pub room : (queue_size d.out ≡ 0) ⊎ (s.queued + queue_size d.out ≤ n)

refused_queues : (n : ℕ) (s : Seen) (k : ℕ) → Queues n s (refused k s)
unfolding refused queue_size
refused_queues n s k = record { counted = sym (add-zero s.queued); room = inl refl }

done_queues : (n : ℕ) (s : Seen) (e : Effect) → booked e.state ≡ booked s → is_full n e ≡ false → Queues n s (done e)
unfolding done is_full buffer_full
done_queues n s e h f =
    let q : e.state.queued ≡ s.queued = ap (λ (p : List Entry × ℕ). p.1) h in
    let b : pick (ltb 0 (queue_size e.out)) (ltb n (e.state.queued + queue_size e.out)) false ≡ false = (neither (events_full e.state.events e.events) _ f).1 in
    record {
      counted = rw q;
      room = by_cases (ltb 0 (queue_size e.out)) ((queue_size e.out ≡ 0) ⊎ (s.queued + queue_size e.out ≤ n))
          (λ t. inr (rw q at (ltb-false n (e.state.queued + queue_size e.out) (rw t at b))))
          (λ t. inl (omega (arith, ltb-false 0 (queue_size e.out) t)));
    }

message_queues : (from count : ℕ) (w : Wire) (now epoch nonce n : ℕ) (s : Seen) → Queues n s (message_step from count w now epoch nonce n s)
unfolding message_step reacted
message_queues from count w now epoch nonce n s =
    let r : Reaction = on_body w.body count w now epoch nonce (heard now s) in
    tested-both _ s _ (Queues n s) (refused_queues n s) (λ _.
    tested-both _ s _ (Queues n s) (refused_queues n s) (λ z.
    done_queues n s r.effect (message_books count w now epoch nonce s) (neither r.store_full _ z.1.1.0).1))

quiet : (n : ℕ) (s t : Seen) → t.queued ≡ s.queued → Queues n s (changed t)
unfolding queue_size
quiet n s t h = record { counted = h ∙ sym (add-zero s.queued); room = inl refl }

-- one call: the buffer keeps its length, the queue stands within it, and its bytes are as they should be. g: the bytes that leave the queue
pub record Laid (g : List ℕ) (d : Did) (b : List ℕ) (s : Seen) : Type 0 where
  pub kept : length (laid_at b s.queued (queue_of d.out)) ≡ length b
  pub within : d.after.queued ≤ length b
  pub bytes : g ++ take d.after.queued (laid_at b s.queued (queue_of d.out)) ≡ take s.queued b ++ queue_of d.out

queued_laid : (d : Did) (b : List ℕ) (s : Seen) → FitAll d.out → s.queued ≤ length b → Queues (length b) s d → Laid [] d b s
queued_laid d b s fit w q =
    let n : length (queue_of d.out) ≡ queue_size d.out = queue_size_lem d.out fit in
    let room : s.queued + queue_size d.out ≤ length b = go q.room in
    let fits : s.queued + length (queue_of d.out) ≤ length b = omega arith in
    record {
      kept = laid_length b s.queued (queue_of d.out) fits;
      within = omega (arith, q.counted);
      bytes = rw (q.counted, ← n) (laid_front b s.queued (queue_of d.out) fits);
    }
  where
    go : (queue_size d.out ≡ 0) ⊎ (s.queued + queue_size d.out ≤ length b) → s.queued + queue_size d.out ≤ length b
    go (inl z) = omega arith
    go (inr r) = r

taken_refused : (buffer : ℕ) (s : Seen) → short_buffer buffer s ≡ true → step (Call.take_messages buffer) s ≡ refused 5 s
unfolding step take_step tested
taken_refused buffer s h = rw h

taken-done : (buffer : ℕ) (s : Seen) → short_buffer buffer s ≡ false → step (Call.take_messages buffer) s ≡ changed (with_queued 0 s)
unfolding step take_step tested
taken-done buffer s h = rw h

taken_laid : (buffer : ℕ) (b : List ℕ) (s : Seen) → s.queued ≤ length b → Laid (gone (Call.take_messages buffer) b s) (step (Call.take_messages buffer) s) b s
unfolding refused flatten
taken_laid buffer b s w =
    by_cases (short_buffer buffer s) (Laid (gone (Call.take_messages buffer) b s) (step (Call.take_messages buffer) s) b s)
    (λ h. rw (taken_refused buffer s h) (record { kept = rw laid_none; within = w; bytes = rw (laid_none, append-nil) }))
    (λ h. rw (taken-done buffer s h) (record { kept = rw laid_none; within = omega arith; bytes = refl }))

-- a call takes the messages, or queues its own in the buffer that it is lent, and then none leaves the queue
abbrev pub Takes : Call → Type 0
Takes c = (buffer : ℕ) × (c ≡ Call.take_messages buffer)

pub step_queues : (c : Call) (n : ℕ) (s : Seen) → Takes c ⊎ (((b : List ℕ) → gone c b s ≡ []) × Queues (lent_to c n) s (step c s))
unfolding step synchronize_step datagram_step act_step send_step disconnect_step checksum_step checksum_sent queue_wire synchronized started advantage_step stats_step status_step
step_queues (Call.synchronize now epoch nonce buffer) n s =
    let e : Effect = synchronized now epoch nonce (begin s) in
    inr (
      λ _. refl,
      tested-both _ s _ (Queues buffer s) (refused_queues buffer s) (λ z. done_queues buffer s e (books (request_leaves now nonce _)) z.1.1.0),
    )
step_queues (Call.message from count w now epoch nonce buffer) n s = inr (λ _. refl, message_queues from count w now epoch nonce buffer s)
step_queues (Call.datagram from bs now epoch nonce buffer) n s =
    inr (λ _. refl, decided-both _ s _ (Queues buffer s) (refused_queues buffer s) (λ _. message_queues from _ _ now epoch nonce buffer s))
step_queues (Call.act count statuses now epoch nonce buffer) n s =
    let e : Effect = acted s.phase now epoch nonce statuses (begin s) in
    inr (
      λ _. refl,
      tested-both _ s _ (Queues buffer s) (refused_queues buffer s) (λ z.
          done_queues buffer s e (books (acted_leaves now s.phase epoch nonce statuses (begin s))) z.1.1.0),
    )
step_queues (Call.send_input frame bs count statuses now buffer) n s =
    let e : Effect = input_sent now frame bs statuses (begin s) in
    inr (
      λ _. refl,
      tested-both _ s _ (Queues buffer s) (refused_queues buffer s) (λ z.
          done_queues buffer s e (books (sent_leaves now frame bs statuses (begin s))) (neither (pending_full s) _ z.1.1.1.1.0).1),
    )
step_queues (Call.disconnect now) n s =
    inr (
      λ _. refl,
      tested-both _ s _ (Queues n s) (refused_queues n s) (λ _. quiet n s (with_phase Disconnected (shutdown_at (now + 5000) s)) refl),
    )
step_queues (Call.send_checksum_report frame checksum now buffer) n s =
    inr (
      λ _. refl,
      tested-both _ s _ (Queues buffer s) (refused_queues buffer s) (λ z. done_queues buffer s (checksum_sent now frame checksum (begin s)) refl z.1.0),
    )
step_queues (Call.update_local_frame_advantage f) n s =
    inr (λ _. refl, tested-both _ s _ (Queues n s) (refused_queues n s) (λ _. quiet n s (advantage_updated f s) (updated f s)))
step_queues (Call.network_stats epoch) n s = inr (λ _. refl, tested-both _ s _ (Queues n s) (refused_queues n s) (λ _. quiet n s s refl))
step_queues (Call.peer_connect_status handle) n s = inr (λ _. refl, tested-both _ s _ (Queues n s) (refused_queues n s) (λ _. quiet n s s refl))
step_queues Call.take_events n s = inr (λ _. refl, quiet n s (with_events [] s) refl)
step_queues (Call.take_messages buffer) n s = inl (buffer, refl)
step_queues (Call.ask question) n s = inr (λ _. refl, quiet n s s refl)

-- every call
step_laid : (c : Call) (b : List ℕ) (s : Seen) → lent_to c (length b) ≡ length b → FitAll (step c s).out → s.queued ≤ length b → Laid (gone c b s) (step c s) b s
step_laid c b s l fit w = go (step_queues c (length b) s)
  where
    go : Takes c ⊎ (((b : List ℕ) → gone c b s ≡ []) × Queues (lent_to c (length b)) s (step c s)) → Laid (gone c b s) (step c s) b s
    go (inl t) = rw t.1 (taken_laid t.0 b s w)
    go (inr q) = rw (q.0 b) (queued_laid (step c s) b s fit w (rw l at q.1))

-- what leaves the queue is what is handed back, but in Shutdown, where nothing is
pub gone-handed : (n : ℕ) (b : List ℕ) (s : Seen) → is_shutdown s.phase ≡ false → gone (Call.take_messages n) b s ≡ take (handed_back n s) b
unfolding handed_back filled_part
gone-handed n b s h = rw h (go (eqb (step (Call.take_messages n) s).answer 0))
  where
    go : (done : Bool) → pick done (take s.queued b) [] ≡ take (pick done s.queued 0) b
    go true = refl
    go false = refl

-- and every run
pub run_queues : (cs : List Call) (b : List ℕ) (s : Seen) → Lent (length b) cs s → s.queued ≤ length b
    → all_gone cs b s ++ take (ran cs s).queued (lent_ran cs b s) ≡ take s.queued b ++ queue_of (all_out cs s)
unfolding ran Lent lent_ran all_gone all_out flatten
run_queues [] b s l w = sym (append-nil (take s.queued b))
run_queues (c ∷ cs) b s l w =
    let h = step_laid c b s l.0 l.1 w in
    let b' : List ℕ = lent_after c b s in
    let s' : Seen = (step c s).after in
    let ih = run_queues cs b' s' (rw h.kept l.2) (rw h.kept h.within) in
    append_assoc (gone c b s) (all_gone cs b' s') (take (ran cs s').queued (lent_ran cs b' s'))
    ∙ ap (λ x. gone c b s ++ x) ih
    ∙ sym (append_assoc (gone c b s) (take s'.queued b') (queue_of (all_out cs s')))
    ∙ ap (λ x. x ++ queue_of (all_out cs s')) h.bytes
    ∙ append_assoc (take s.queued b) (queue_of (step c s).out) (queue_of (all_out cs s'))
    ∙ ap (λ x. take s.queued b ++ x) (sym (queue-append (step c s).out (all_out cs s')))
