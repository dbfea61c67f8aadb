-- Checksum reports by the setup's choice. Without it they go by the crate's rule, word for word. In firm mode a report does what a KeepAlive does, and is stored besides:
-- so no refusal comes from what is stored (E-74).
use borrow.Author.Tests.{le-leb}
use mathlib.Core.Bool.{true, false, true≢false}
use mathlib.Core.List.{List, []}
use mathlib.Core.Path.{◌≡◌, refl, sym, ◌∙◌}
use native.Mathlib.Nat.{add-zero}
use Prim.Native.Nat.{ℕ, ◌≤◌}
use lib.ListN.{length}
use Rattle.checksums.specs.Checksums.{overflows, full_after, with_report}
use Rattle.checksums.specs.Firm.{firmly}
use Rattle.codec.specs.Message.{Wire}
use Rattle.codec.specs.declared.Wide.{Wide}
use Rattle.codec.specs.declared.MessageBody.TheVariants.{ChecksumReport, KeepAlive}
use Rattle.codec.specs.Read.{body_only}
use Rattle.events.specs.declared.Entry.{Entry}
use Rattle.events.specs.Events.{has_room}
use Rattle.outbox.specs.Outbox.{queue_size}
use Rattle.timers.specs.Timers.{bad_clocks}
use Rattle.endpoint_rules.specs.declared.Flags.{Flags}
use Rattle.endpoint_rules.specs.Seen.{Seen, with_checksums}
use Rattle.endpoint_rules.specs.Did.{Did, Effect, change, stopped, tested, done}
use Rattle.endpoint_rules.specs.Room.{buffer_full, is_full}
use Rattle.endpoint_rules.specs.Handshake.{plainly}
use Rattle.endpoint_rules.specs.Checksum.{interval_in, firm_in, checksum_of, on_checksum_report}
use Rattle.endpoint_rules.specs.Step.{resumes, heard, on_body, reacted, message_step}
use Rattle.endpoint_rules.proofs.Tested.{by_tests, tested_alike}
use Rattle.endpoint_rules.proofs.Laws.{heard_quiet, hearing, by_hearing}

module _ (frame : ℕ) (checksum : Wide) (e : Effect) where
  -- the choice is off: the crate's rule
  pub default_report : firm_in e.state ≡ false
      → on_checksum_report frame checksum e
      ≡ record {
        too_long = false;
        overflows = overflows frame (interval_in e.state) e.state.checksums;
        store_full = full_after frame (interval_in e.state) e.state.checksums;
        effect = change (λ s. with_checksums (with_report (checksum_of frame checksum) (interval_in s) s.checksums) s) e;
      }
  unfolding on_checksum_report
  default_report h = rw h

  -- it is on: the report is stored firmly, and stopped by nothing of its own
  pub firm_report : firm_in e.state ≡ true
      → on_checksum_report frame checksum e ≡ plainly (change (λ s. with_checksums (firmly (checksum_of frame checksum) s.checksums) s) e)
  unfolding on_checksum_report
  firm_report h = rw h

-- ---- as a KeepAlive in its place

-- alike but for the checksums stored
pub record AlikeButStore (d e : Did) : Type 0 where
  pub answer : d.answer ≡ e.answer
  pub out : d.out ≡ e.out
  pub events : d.events ≡ e.events
  pub after : with_checksums [] d.after ≡ with_checksums [] e.after

same_but_store : (d : Did) → AlikeButStore d d
same_but_store d = record { answer = refl; out = refl; events = refl; after = refl }

-- w: the message, of which only its magic and its body count
module _ (from count : ℕ) (w : Wire) (frame : ℕ) (checksum : Wide) (body : w.body ≡ ChecksumReport checksum frame) (now epoch nonce buffer : ℕ) (s : Seen) (firm : firm_in s ≡ true) where
  abbrev Given : Wire → Did
  Given m = message_step from count m now epoch nonce buffer s

  stored_alike : (f : Flags) (t : List Entry)
      → AlikeButStore (reacted buffer s (plainly (change (λ x. with_checksums (firmly (checksum_of frame checksum) x.checksums) x) (hearing now s f t)))) (reacted buffer s (plainly (hearing now s f t)))
  unfolding reacted is_full done
  stored_alike f t = tested_alike _ s _ _ AlikeButStore (λ v. same_but_store (stopped v s)) (record { answer = refl; out = refl; events = refl; after = refl })

  heard_alike : AlikeButStore (reacted buffer s (on_checksum_report frame checksum (heard now s))) (reacted buffer s (plainly (heard now s)))
  heard_alike =
      by_hearing now s (λ e. AlikeButStore (reacted buffer s (on_checksum_report frame checksum e)) (reacted buffer s (plainly e))) (λ f t.
      rw (firm_report frame checksum (hearing now s f t) firm) (stored_alike f t))

  pub firm_as_keep_alive : AlikeButStore (Given w) (Given (body_only w.magic KeepAlive))
  unfolding message_step on_body
  firm_as_keep_alive = rw body (tested_alike _ s _ _ AlikeButStore (λ v. same_but_store (stopped v s)) heard_alike)

  module _ (held : length s.events ≤ 640) (clocks : bad_clocks now epoch ≡ false) (quiet : resumes s ≡ false) where
    only_heard : (reacted buffer s (plainly (heard now s))).answer ≡ 0
    unfolding reacted tested is_full buffer_full queue_size has_room done
    only_heard = rw (heard_quiet now s quiet, add-zero (length s.events), le-leb (length s.events) 640 held)

    keep_alive_done : (Given (body_only w.magic KeepAlive)).answer ≡ 0
    unfolding message_step on_body
    keep_alive_done = by_tests _ s _ (λ (d : Did). d.answer ≡ 0) (λ b. absurd (true≢false (sym b ∙ clocks)), (λ _. refl, tt)) (λ _. only_heard)

    -- whatever is stored, and whatever the interval. `held`: no struct holds more than 640 events, but a `Seen` may
    pub firm_never : (Given w).answer ≡ 0
    firm_never = firm_as_keep_alive.answer ∙ keep_alive_done
