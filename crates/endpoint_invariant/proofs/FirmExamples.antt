-- Worked: the theorem of the firm store (FirmStore.antt) at a run in which a frame's report is taken twice, and four others are not: of another peer, with a clock above its
-- ceiling, one that this end sends itself, and one in Shutdown.
use mathlib.Core.List.{List, [], ◌∷◌}
use mathlib.Core.Path.{◌≡◌, refl}
use Prim.Native.Nat.{ℕ, ◌^◌}
use Rattle.base.specs.Keyed.{kept, has, put}
use Rattle.checksums.specs.Firm.{smallest, firmly}
use Rattle.checksums.specs.Largest.{HoldsLargest}
use Rattle.checksums.specs.Worked.{of}
use Rattle.codec.specs.declared.Wide.{Wide}
use Rattle.codec.specs.declared.MessageBody.TheVariants.{ChecksumReport}
use Rattle.events.specs.Events.{has_room}
use Rattle.outbox.specs.Outbox.{queue_size}
use Rattle.setup.specs.declared.Setup.{Setup}
use Rattle.setup.specs.declared.DesyncDetection.TheVariants.{Off}
use Rattle.setup.specs.Setup.{choices_with, with_firm_checksums, sorted, inserted, terms_with}
use Rattle.endpoint_rules.specs.Seen.{Seen, made}
use Rattle.endpoint_rules.specs.Did.{refused, tested, queue_wire, done}
use Rattle.endpoint_rules.specs.Room.{buffer_full, is_full}
use Rattle.endpoint_rules.specs.Act.{acted}
use Rattle.endpoint_rules.specs.Checksum.{on_checksum_report, checksum_sent}
use Rattle.endpoint_rules.specs.Call.{Call}
use Rattle.endpoint_rules.specs.Step.{fresh, ignored, resumed, heard, on_body, reacted, message_step, act_step, disconnect_step, checksum_step, step}
use Rattle.endpoint_rules.proofs.Bouts.{setup_choosing, fr, wire, epoch_at, act_at}
use Rattle.endpoint_invariant.specs.Runs.{ran}
use Rattle.endpoint_invariant.specs.Reports.{reports_taken}
use Rattle.endpoint_invariant.proofs.FirmStore.{reached_firm}

-- a firm endpoint, whose peer is 3, with desyncs not detected
abbrev firm_setup : Setup
firm_setup = setup_choosing (with_firm_checksums (choices_with Off)) (1 ∷ 0 ∷ 0 ∷ 0 ∷ []) 1 1 1 2 7

abbrev checksum : (low : ℕ) → Wide
checksum low = record { low = low; high = 7 }

-- a report of a frame, from a peer, at a clock
abbrev reports : (from frame low now : ℕ) → Call
reports from frame low now = Call.message from 0 (wire (ChecksumReport (checksum low) frame) [] []) now (epoch_at now) 0 65536

-- frame 5 of the peer; 9 of another; 10 at a clock of 2^62; 11 sent by this end; 5 again; then the end disconnects and shuts down, and 12 comes
abbrev run : List Call
run =
    reports 3 (fr 5) 1 1000
    ∷ reports 4 (fr 9) 1 1000
    ∷ reports 3 (fr 10) 1 (2 ^ 62)
    ∷ Call.send_checksum_report (fr 11) (checksum 1) 1000 65536
    ∷ reports 3 (fr 5) 2 1000
    ∷ Call.disconnect 1000
    ∷ act_at 7000
    ∷ reports 3 (fr 12) 1 7000
    ∷ []

abbrev begun : Seen
begun = (fresh firm_setup 1000).1

taken : reports_taken run begun ≡ of (fr 5) 1 ∷ of (fr 5) 2 ∷ []
unfolding reports_taken step message_step act_step disconnect_step checksum_step checksum_sent queue_wire acted reacted tested ignored heard resumed on_body on_checksum_report is_full buffer_full has_room queue_size done refused fresh made terms_with sorted inserted firmly smallest kept has put
taken = refl

stored : (ran run begun).checksums ≡ of (fr 5) 2 ∷ []
unfolding ran step message_step act_step disconnect_step checksum_step checksum_sent queue_wire acted reacted tested ignored heard resumed on_body on_checksum_report is_full buffer_full has_room queue_size done refused fresh made terms_with sorted inserted firmly smallest kept has put
stored = refl

holds : HoldsLargest (of (fr 5) 1 ∷ of (fr 5) 2 ∷ []) (of (fr 5) 2 ∷ [])
holds = rw (taken, stored) at (reached_firm firm_setup 1000 run refl)
