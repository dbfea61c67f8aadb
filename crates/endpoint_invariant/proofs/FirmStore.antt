-- In firm mode the checksums stored are over every run those of the 32 largest frames of the reports taken (E-72, E-75), so at most 32; and no report is refused for them (E-74).
use borrow.Author.Tests.{ne_eqb}
use mathlib.Core.Bool.{true, false}
use mathlib.Core.List.{List, [], ◌∷◌, ◌++◌, append-nil, append_assoc}
use mathlib.Core.Logic.{⊎_elim}
use mathlib.Core.Path.{◌≡◌, refl, ◌∙◌, ap}
use Prim.Native.Nat.{ℕ, ◌≤◌}
use native.Mathlib.Omega.{arith}
use lib.ListN.{length}
use Rattle.checksums.specs.declared.Checksum.{Checksum}
use Rattle.checksums.specs.Largest.{HoldsLargest}
use Rattle.checksums.proofs.Largest.{none_held, firm_holds, largest_few}
use Rattle.codec.specs.Message.{Wire}
use Rattle.codec.specs.Read.{datagram, wire_in}
use Rattle.codec.specs.Read.Reading.{got}
use Rattle.codec.specs.declared.Wide.{Wide}
use Rattle.codec.specs.declared.MessageBody.{MessageBody}
use Rattle.codec.specs.declared.MessageBody.TheVariants.{SyncRequest, SyncReply, Input, InputAck, QualityReport, QualityReply, ChecksumReport, KeepAlive}
use Rattle.setup.specs.declared.Setup.{Setup}
use Rattle.setup.specs.Setup.{Terms, terms_with}
use Rattle.timers.specs.Timers.{bad_clocks}
use Rattle.endpoint_rules.specs.Seen.{Seen, made}
use Rattle.endpoint_rules.specs.Did.{Did, refused, begin, queue_wire, done}
use Rattle.endpoint_rules.specs.Handshake.{started, synchronized}
use Rattle.endpoint_rules.specs.Advantage.{both_known, local_advantage, advantage_updated}
use Rattle.endpoint_rules.specs.Checksum.{firm_in, checksum_of, checksum_sent}
use Rattle.endpoint_rules.specs.Call.{Call}
use Rattle.endpoint_rules.specs.Step.{fresh, changed, resumes, heard, on_body, reacted, synchronize_step, message_step, datagram_step, act_step, send_step, disconnect_step, checksum_step, advantage_step, stats_step, status_step, take_step, step}
use Rattle.endpoint_rules.proofs.Datagrams.{datagram-message}
use Rattle.endpoint_rules.proofs.Laws.{by_hearing}
use Rattle.endpoint_rules.proofs.Tested.{by_tests, tested-both, by_decided}
use Rattle.endpoint_rules.proofs.ChecksumReports.{firm_report, firm_never}
use Rattle.endpoint_invariant.specs.Runs.{ran}
use Rattle.endpoint_invariant.specs.Reports.{report_in, taken_if, report_taken, reports_taken}
use Rattle.endpoint_invariant.specs.Sound.{Sound}
use Rattle.endpoint_invariant.proofs.Choices.{by_pick}
use Rattle.endpoint_invariant.proofs.Leaves.{stores, acted_leaves, sent_leaves, heard_leaves, request_leaves, body_stores}
use Rattle.endpoint_invariant.proofs.Staying.{step_setup}

-- ---- one call

module _ (s : Seen) (firm : firm_in s ≡ true) (reports : List Checksum) (h : HoldsLargest reports s.checksums) where
  -- a call that takes no report, and leaves the checksums
  untouched : (l : List Checksum) → l ≡ s.checksums → HoldsLargest (reports ++ []) l
  untouched l e = rw (append-nil reports, e) h

  heard_firm : (now : ℕ) → firm_in (heard now s).state ≡ true
  heard_firm now = by_hearing now s (λ e. firm_in e.state ≡ true) (λ f t. firm)

  heard_holds : (now : ℕ) → HoldsLargest reports (heard now s).state.checksums
  heard_holds now = rw (stores (heard_leaves now s)) h

  -- what a message that is heard leaves stored
  module _ (count : ℕ) (w : Wire) (now epoch nonce : ℕ) where
    abbrev Stores : MessageBody → Type 0
    Stores b = HoldsLargest (reports ++ report_in b) (on_body b count w now epoch nonce (heard now s)).effect.state.checksums

    report_stores : (checksum : Wide) (frame : ℕ) → Stores (ChecksumReport checksum frame)
    unfolding on_body
    report_stores checksum frame = rw (firm_report frame checksum (heard now s) (heard_firm now)) (firm_holds reports (heard now s).state.checksums (checksum_of frame checksum) (heard_holds now))

    others_store : (b : MessageBody) → report_in b ≡ [] → Stores b
    others_store b none =
        ⊎_elim (λ r. absurd (omega (arith, ap length none, ap (λ (x : MessageBody). length (report_in x)) r.2))) (λ same. rw none (untouched _ (same ∙ stores (heard_leaves now s))))
        (body_stores b count w now epoch nonce (heard now s))

    bodies : (b : MessageBody) → Stores b
    bodies (SyncRequest asked) = others_store (SyncRequest asked) refl
    bodies (SyncReply reply) = others_store (SyncReply reply) refl
    bodies (Input disconnect start ack) = others_store (Input disconnect start ack) refl
    bodies (InputAck ack) = others_store (InputAck ack) refl
    bodies (QualityReport advantage ping) = others_store (QualityReport advantage ping) refl
    bodies (QualityReply pong) = others_store (QualityReply pong) refl
    bodies (ChecksumReport checksum frame) = report_stores checksum frame
    bodies KeepAlive = others_store KeepAlive refl

  -- a message, by its tests
  module _ (from : ℕ) (w : Wire) where
    abbrev Holds : Did → Type 0
    Holds d = HoldsLargest (reports ++ taken_if d.answer from w s) d.after.checksums

    -- a refusal takes none, and neither does a message that is ignored
    refused_holds : (n : ℕ) → (n ≡ 0 → ⊥) → Holds (refused n s)
    unfolding refused
    refused_holds n some = rw (ne_eqb n 0 some) (untouched _ refl)

    message_holds : (count now epoch nonce buffer : ℕ) → Holds (message_step from count w now epoch nonce buffer s)
    unfolding message_step reacted done
    message_holds count now epoch nonce buffer =
        by_tests _ s _ Holds (λ _. refused_holds 8 (λ z. omega arith), (λ i. rw i (untouched _ refl), tt)) (λ z.
        by_tests _ s _ Holds (λ _. refused_holds 12 (λ z. omega arith), (λ _. refused_holds 6 (λ z. omega arith), (λ _. refused_holds 5 (λ z. omega arith), tt))) (λ _.
        rw z.1.0 (bodies count w now epoch nonce w.body)))

  -- every other call leaves the checksums
  abbrev Same : Did → Type 0
  Same d = HoldsLargest (reports ++ []) d.after.checksums

  refused_same : (k : ℕ) → Same (refused k s)
  unfolding refused
  refused_same k = untouched _ refl

  pub step_holds : (c : Call) → HoldsLargest (reports ++ report_taken c s) (step c s).after.checksums
  unfolding step synchronize_step synchronized started datagram_step act_step send_step disconnect_step checksum_step checksum_sent queue_wire advantage_step advantage_updated local_advantage stats_step status_step take_step done
  step_holds (Call.synchronize now epoch nonce buffer) = tested-both _ s _ Same refused_same (λ _. untouched _ (stores (request_leaves now nonce _)))
  step_holds (Call.message from count w now epoch nonce buffer) = message_holds from w count now epoch nonce buffer
  step_holds (Call.datagram from bytes now epoch nonce buffer) =
      by_decided _ s _ (Holds from (wire_in (datagram bytes))) (λ _. message_holds from (wire_in (datagram bytes)) _ now epoch nonce buffer) (λ some. refused_holds from (wire_in (datagram bytes)) _ some)
  step_holds (Call.act count statuses now epoch nonce buffer) = tested-both _ s _ Same refused_same (λ _. untouched _ (stores (acted_leaves now s.phase epoch nonce statuses (begin s))))
  step_holds (Call.send_input frame bytes count statuses now buffer) = tested-both _ s _ Same refused_same (λ _. untouched _ (stores (sent_leaves now frame bytes statuses (begin s))))
  step_holds (Call.disconnect now) = tested-both _ s _ Same refused_same (λ _. untouched _ refl)
  step_holds (Call.send_checksum_report frame checksum now buffer) = tested-both _ s _ Same refused_same (λ _. untouched _ refl)
  step_holds (Call.update_local_frame_advantage local_frame) =
      tested-both _ s _ Same refused_same (λ _. by_pick (λ (t : Seen). Same (changed t)) (both_known local_frame s) (local_advantage local_frame s) s (λ _. untouched _ refl) (λ _. untouched _ refl))
  step_holds (Call.network_stats epoch) = tested-both _ s _ Same refused_same (λ _. untouched _ refl)
  step_holds (Call.peer_connect_status handle) = tested-both _ s _ Same refused_same (λ _. untouched _ refl)
  step_holds Call.take_events = untouched _ refl
  step_holds (Call.take_messages buffer) = tested-both _ s _ Same refused_same (λ _. untouched _ refl)
  step_holds (Call.ask question) = untouched _ refl

-- ---- every run

pub run_holds : (cs : List Call) (s : Seen) → firm_in s ≡ true → (reports : List Checksum) → HoldsLargest reports s.checksums → HoldsLargest (reports ++ reports_taken cs s) (ran cs s).checksums
unfolding ran reports_taken
run_holds [] s firm reports h = rw (append-nil reports) h
run_holds (c ∷ cs) s firm reports h =
    rw (← append_assoc reports (report_taken c s) (reports_taken cs (step c s).after))
    (run_holds cs (step c s).after (ap (λ (x : Terms). x.choices.firm_checksums) (step_setup c s) ∙ firm) (reports ++ report_taken c s) (step_holds s firm reports h c))

-- from `new` on, whatever the calls are given
module _ (g : Setup) (now : ℕ) (cs : List Call) (firm : g.choices.firm_checksums ≡ true) where
  pub reached_firm : HoldsLargest (reports_taken cs (fresh g now).1) (ran cs (fresh g now).1).checksums
  unfolding fresh made terms_with
  reached_firm = run_holds cs (fresh g now).1 firm [] none_held

  pub reached_firm_small : length (ran cs (fresh g now).1).checksums ≤ 32
  reached_firm_small = largest_few _ _ reached_firm

-- ---- no refusal: of a sound endpoint a report that does not end an interruption is answered with 0, unless a clock is above its ceiling
module _ (from : ℕ) (w : Wire) (frame : ℕ) (checksum : Wide) (body : w.body ≡ ChecksumReport checksum frame) (now epoch nonce buffer : ℕ) (s : Seen) (h : Sound s)
    (firm : firm_in s ≡ true) (clocks : bad_clocks now epoch ≡ false) (quiet : resumes s ≡ false) where
  pub sound_firm_never : (count : ℕ) → (step (Call.message from count w now epoch nonce buffer) s).answer ≡ 0
  unfolding step
  sound_firm_never count = firm_never from count w frame checksum body now epoch nonce buffer s firm h.events clocks quiet

  pub sound_firm_never_datagram : (bytes rest : List ℕ) → datagram bytes ≡ got w rest → (step (Call.datagram from bytes now epoch nonce buffer) s).answer ≡ 0
  sound_firm_never_datagram bytes rest e = ap (λ (d : Did). d.answer) (datagram-message from bytes now epoch nonce buffer s w rest e) ∙ sound_firm_never (length w.reports)
