-- No call announces a frame but one that hands over an Input that is neither refused nor ignored nor discarded.
use mathlib.Core.Bool.{Bool, true, false, not, ◌&&◌}
use mathlib.Core.List.{List, [], ◌++◌, append-nil}
use mathlib.Core.Logic.{◌⊎◌, inl, inr}
use mathlib.Core.Path.{◌≡◌, refl, sym, ap, ◌∙◌}
use Prim.Native.Nat.{ℕ}
use native.Mathlib.Omega.{arith}
use lib.Dec.{eqb}
use lib.ListN.{length}
use borrow.Author.Tests.{ltb-false, eqb-true, not-false}
use Rattle.base.specs.Keyed.{kept}
use Rattle.base.proofs.Bools.{neither}
use Rattle.base.proofs.Kept.{kept_append}
use Rattle.codec.specs.Message.{Wire}
use Rattle.codec.specs.Read.{Reading, body_only, datagram, blank_wire}
use Rattle.codec.specs.Read.Reading.{got, fault}
use Rattle.codec.specs.declared.MessageBody.{MessageBody}
use Rattle.codec.specs.declared.MessageBody.TheVariants.{SyncRequest, SyncReply, Input, InputAck, QualityReport, QualityReply, ChecksumReport, KeepAlive}
use Rattle.events.specs.declared.Entry.{Entry}
use Rattle.endpoint_rules.specs.Seen.{Seen}
use Rattle.endpoint_rules.specs.Did.{Did, Effect, refused, begin, done}
use Rattle.endpoint_rules.specs.Handshake.{synchronized}
use Rattle.endpoint_rules.specs.Sending.{input_sent}
use Rattle.endpoint_rules.specs.Act.{acted}
use Rattle.endpoint_rules.specs.Checksum.{checksum_sent}
use Rattle.endpoint_rules.specs.Receiving.{input_message, discarded, input_unless, on_input, on_input_ack}
use Rattle.endpoint_rules.specs.Call.{Call}
use Rattle.endpoint_rules.specs.Step.{ignored, heard, on_body, step, synchronize_step, message_step, datagram_step, act_step, send_step, disconnect_step, checksum_step, advantage_step, stats_step, status_step, take_step, reacted}
use Rattle.endpoint_rules.proofs.Datagrams.{datagram-message}
use Rattle.endpoint_rules.proofs.Tested.{tested-both, decided-both}
use Rattle.endpoint_invariant.proofs.Staying.{step_setup}
use Rattle.endpoint_delivery.specs.Frames.{announced_in}
use Rattle.endpoint_delivery.specs.Runs.{End, next, announced_by, carries, Heard, Heeded, Passing, HandsInput}
use Rattle.endpoint_delivery.proofs.Moves.{is_input, inputs_in}
use Rattle.endpoint_delivery.proofs.Effects.{starting, checking, others, hearing, acked, acts, sending}
use Rattle.endpoint_delivery.proofs.Calls.{Side}
use Rattle.endpoint_delivery.proofs.Announcing.{of_inputs}
use Rattle.endpoint_delivery.proofs.InOrder.{side_next}

-- ---- events without an input announce no frame

quiet_after : (size : ℕ) (l more : List Entry) → inputs_in more ≡ [] → announced_in size (l ++ more) ≡ announced_in size l
quiet_after size l more e =
    of_inputs size (l ++ more)
    ∙ ap (announced_in size) (kept_append is_input l more ∙ ap (λ (z : List Entry). inputs_in l ++ z) e ∙ append-nil (inputs_in l))
    ∙ sym (of_inputs size l)

-- so a call that announces no Input event leaves the frames announced as they are
pub quiet_call : (c : Call) (x : End) → inputs_in (step c x.state).events ≡ [] → announced_by (next c x) ≡ announced_by x
quiet_call c x e =
    rw (step_setup c x.state, ap (λ (y : Side). y.events) (side_next c x)) (quiet_after x.state.setup.input_size (x.taken ++ x.state.events) (step c x.state).events e)

-- nothing is asked of the messages that a call queues
abbrev pub Free : Wire → Type 0
Free w = Unit {0}

abbrev pub free : (magic : ℕ) (m : MessageBody) → carries m ≡ false → Free (body_only magic m)
free magic m q = tt

-- ---- what the step's tests say in words

passes_heard : (peer magic : ℕ) (s : Seen) → ignored peer magic s ≡ false → Heard peer magic s
unfolding ignored
passes_heard peer magic s h =
    let a = neither _ _ h in
    let b = neither _ _ a.0 in
    record { alive = b.0; known = eqb-true _ _ (not-false _ b.1); passes = go (eqb s.sync.remote_magic 0) refl a.1 }
  where
    go : (x : Bool) → eqb s.sync.remote_magic 0 ≡ x → not x && not (eqb magic s.sync.remote_magic) ≡ false → (s.sync.remote_magic ≡ 0) ⊎ (magic ≡ s.sync.remote_magic)
    go true e q = inl (eqb-true _ _ e)
    go false e q = inr (eqb-true _ _ (not-false _ q))

passes_heeded : (d : Bool) (count start : ℕ) (s : Seen) → discarded d count start s ≡ false → Heeded d count start s
unfolding discarded
passes_heeded d count start s h =
    let a = neither _ _ h in
    record { from = ltb-false _ _ a.1; complete = go d refl a.0 }
  where
    go : (x : Bool) → d ≡ x → not x && not (eqb count s.setup.players) ≡ false → (d ≡ true) ⊎ (count ≡ s.setup.players)
    go true e q = inl e
    go false e q = inr (eqb-true _ _ (not-false _ q))

-- ---- each call

module _ (s : Seen) where
  abbrev Silent : Did → Type 0
  Silent d = inputs_in d.events ≡ []

  stops : (k : ℕ) → Silent (refused k s)
  unfolding refused kept
  stops k = refl

  finishes : (e : Effect) → inputs_in e.events ≡ [] → Silent (done e)
  unfolding done
  finishes e h = h

  -- a message that is not ignored
  module _ (peer count : ℕ) (w : Wire) (now epoch nonce : ℕ) (i : ignored peer w.magic s ≡ false) (n : ¬ Passing 0 peer count w s) where
    quietly : (m : MessageBody) → carries m ≡ false → Silent (done (on_body m count w now epoch nonce (heard now s)).effect)
    quietly m q = finishes _ (others Free free s m q count w now epoch nonce).events

    -- an Input that is discarded is only heard; one that is not would pass
    input_silent : (d : Bool) (start ack : ℕ) → w.body ≡ Input d start ack → (x : Bool) → discarded d count start (heard now s).state ≡ x
        → Silent (done (input_unless x now (input_message d start ack w.reports w.payload) (heard now s)).effect)
    unfolding input_unless discarded
    input_silent d start ack e true q = finishes _ (hearing Free free s now).events
    input_silent d start ack e false q =
        let h : discarded d count start s ≡ false = rw (hearing Free free s now).setup at q in
        absurd (n (record { disconnect = d; start = start; ack = ack; body = e; done = refl; heard = passes_heard peer w.magic s i; heeded = passes_heeded d count start s h }))

    body_silent : (m : MessageBody) → w.body ≡ m → Silent (done (on_body m count w now epoch nonce (heard now s)).effect)
    unfolding on_body on_input on_input_ack
    body_silent (SyncRequest asked) e = quietly (SyncRequest asked) refl
    body_silent (SyncReply reply) e = quietly (SyncReply reply) refl
    body_silent (Input d start ack) e = input_silent d start ack e (discarded d count start (heard now s).state) refl
    body_silent (InputAck ack) e = finishes _ (acked Free free s ack now).events
    body_silent (QualityReport advantage ping) e = quietly (QualityReport advantage ping) refl
    body_silent (QualityReply pong) e = quietly (QualityReply pong) refl
    body_silent (ChecksumReport checksum frame) e = quietly (ChecksumReport checksum frame) refl
    body_silent KeepAlive e = quietly KeepAlive refl

  message_silent : (peer count : ℕ) (w : Wire) (now epoch nonce buffer : ℕ) → ¬ HandsInput (Call.message peer count w now epoch nonce buffer) s
      → Silent (step (Call.message peer count w now epoch nonce buffer) s)
  unfolding step message_step reacted done
  message_silent peer count w now epoch nonce buffer =
      tested-both _ s _ Ends (λ k _. stops k) (λ z.
      tested-both _ s _ Ends (λ k _. stops k) (λ _ n. body_silent peer count w now epoch nonce z.1.0 n w.body refl))
    where
      Ends : Did → Type 0
      Ends d = ¬ Passing d.answer peer count w s → Silent d

  -- bytes that are no message are refused with their fault; were its number 0, they would be taken for a KeepAlive
  module _ (peer : ℕ) (bytes : List ℕ) (now epoch nonce buffer : ℕ) where
    fault_silent : (k : ℕ) → datagram bytes ≡ fault k → Silent (step (Call.datagram peer bytes now epoch nonce buffer) s)
    unfolding step datagram_step
    fault_silent k e = rw e (decided-both k s _ Silent stops (λ _. message_silent peer 0 blank_wire now epoch nonce buffer (λ p.
        let z : ◌≡◌ {A = ℕ} 0 1 = let b = p.body in cc in omega arith)))

    datagram_silent : ¬ HandsInput (Call.datagram peer bytes now epoch nonce buffer) s → Silent (step (Call.datagram peer bytes now epoch nonce buffer) s)
    datagram_silent n = go (datagram bytes) refl
      where
        go : (g : Reading Wire) → datagram bytes ≡ g → Silent (step (Call.datagram peer bytes now epoch nonce buffer) s)
        go (fault k) e = fault_silent k e
        go (got w rest) e =
            let same = datagram-message peer bytes now epoch nonce buffer s w rest e in
            rw same (message_silent peer (length w.reports) w now epoch nonce buffer (λ p. n (w, rest, e, rw same p)))

  call_silent : (c : Call) → ¬ HandsInput c s → Silent (step c s)
  unfolding step synchronize_step act_step send_step disconnect_step checksum_step advantage_step stats_step status_step take_step kept
  call_silent (Call.synchronize now epoch nonce buffer) n =
      tested-both _ s _ Silent stops (λ _. finishes (synchronized now epoch nonce (begin s)) (starting Free free s now epoch nonce).events)
  call_silent (Call.message peer count w now epoch nonce buffer) n = message_silent peer count w now epoch nonce buffer n
  call_silent (Call.datagram peer bytes now epoch nonce buffer) n = datagram_silent peer bytes now epoch nonce buffer n
  call_silent (Call.act count statuses now epoch nonce buffer) n =
      tested-both _ s _ Silent stops (λ _. finishes (acted s.phase now epoch nonce statuses (begin s)) (acts Free free s statuses (λ x xs e. tt) s.phase now epoch nonce).events)
  call_silent (Call.send_input frame bytes count statuses now buffer) n =
      tested-both _ s _ Silent stops (λ _. finishes (input_sent now frame bytes statuses (begin s)) (sending Free free s now frame bytes statuses tt).events)
  call_silent (Call.disconnect now) n = tested-both _ s _ Silent stops (λ _. refl)
  call_silent (Call.send_checksum_report frame checksum now buffer) n =
      tested-both _ s _ Silent stops (λ _. finishes (checksum_sent now frame checksum (begin s)) (checking Free free s now frame checksum).events)
  call_silent (Call.update_local_frame_advantage local_frame) n = tested-both _ s _ Silent stops (λ _. refl)
  call_silent (Call.network_stats epoch) n = tested-both _ s _ Silent stops (λ _. refl)
  call_silent (Call.peer_connect_status handle) n = tested-both _ s _ Silent stops (λ _. refl)
  call_silent Call.take_events n = refl
  call_silent (Call.take_messages buffer) n = tested-both _ s _ Silent stops (λ _. refl)
  call_silent (Call.ask question) n = refl

pub silent : (c : Call) (x : End) → ¬ HandsInput c x.state → announced_by (next c x) ≡ announced_by x
silent c x n = quiet_call c x (call_silent x.state c n)
