-- Worked: reports that fall from frame 163 to 99, to an endpoint by the crate's rule and to a firm one; a frame far below, at an interval of 10,000; and a report that would end
-- an interruption with 640 events waiting. (What the list of checksums becomes is worked in crates/checksums/specs/Firm.antt.)
use mathlib.Core.Bool.{true, false}
use mathlib.Core.List.{List, [], ◌∷◌, map}
use mathlib.Core.Path.{◌≡◌, refl}
use Prim.Native.Nat.{ℕ}
use lib.ListN.{replicate}
use Rattle.base.specs.Keyed.{kept, has, put}
use Rattle.checksums.specs.declared.Checksum.{Checksum}
use Rattle.checksums.specs.Checksums.{cleaned, too_early, others_full, full_after, with_report}
use Rattle.checksums.specs.Firm.{smallest, firmly}
use Rattle.checksums.specs.Worked.{rising, falling}
use Rattle.codec.specs.declared.MessageBody.TheVariants.{ChecksumReport}
use Rattle.events.specs.declared.Event.TheVariants as Event
use Rattle.events.specs.Events.{has_room, without_input}
use Rattle.setup.specs.declared.Choices.{Choices}
use Rattle.setup.specs.declared.DesyncDetection.TheVariants.{On}
use Rattle.setup.specs.Setup.{choices_with, with_firm_checksums, sorted, inserted, terms_with}
use Rattle.outbox.specs.Outbox.{queue_size}
use Rattle.endpoint_rules.specs.declared.Phase.TheVariants.{Running}
use Rattle.endpoint_rules.specs.Seen.{Seen, made, with_phase, with_flags, with_events}
use Rattle.endpoint_rules.specs.Did.{refused, tested, done}
use Rattle.endpoint_rules.specs.Room.{buffer_full, is_full}
use Rattle.endpoint_rules.specs.Checksum.{on_checksum_report}
use Rattle.endpoint_rules.specs.Call.{Call}
use Rattle.endpoint_rules.specs.Step.{fresh, ignored, resumed, heard, on_body, reacted, message_step, step}
use Rattle.endpoint_rules.proofs.Bouts.{setup_choosing, fr, wire, hand, after}

-- an endpoint as `new` makes it at clock 1000, with these choices
abbrev new_with : Choices → Seen
new_with choices = (fresh (setup_choosing choices (1 ∷ 0 ∷ 0 ∷ 0 ∷ []) 1 1 1 2 7) 1000).1

-- the report of a frame at clock 1000
abbrev report : (frame : ℕ) → Call
report frame = hand (wire (ChecksumReport (record { low = 1; high = 0 }) frame) [] []) 1000 0

-- the reports of some frames, one after the other
abbrev reports : List ℕ → List Call
reports = map report

-- the numbers of calls one after the other
abbrev answers : List Call → Seen → List ℕ
answers [] s = []
answers (c ∷ cs) s = (step c s).answer ∷ answers cs (step c s).after

abbrev frames_held : Seen → List ℕ
frames_held s = map (λ (c : Checksum). c.frame) s.checksums

-- desyncs detected, by the crate's rule and firm
abbrev default_end : (interval : ℕ) → Seen
default_end interval = new_with (choices_with (On interval))

abbrev firm_end : (interval : ℕ) → Seen
firm_end interval = new_with (with_firm_checksums (choices_with (On interval)))

-- by the crate's rule 64 are stored, and 99 is 5; firm all are answered 0, and 163 to 132 are stored
default_full : (step (report (fr 99)) (after (reports (falling 64 (fr 100))) (default_end 1))).answer ≡ 5
unfolding step message_step reacted tested ignored heard resumed on_body on_checksum_report is_full buffer_full has_room queue_size done refused fresh made terms_with sorted inserted with_report full_after others_full cleaned too_early kept has put
default_full = refl

firm_answers : answers (reports (falling 65 (fr 99))) (firm_end 1) ≡ replicate 65 0
unfolding step message_step reacted tested ignored heard resumed on_body on_checksum_report is_full buffer_full has_room queue_size done refused fresh made terms_with sorted inserted firmly smallest kept has put
firm_answers = refl

firm_held : frames_held (after (reports (falling 65 (fr 99))) (firm_end 1)) ≡ falling 32 (fr 132)
unfolding step message_step reacted tested ignored heard resumed on_body on_checksum_report is_full buffer_full has_room queue_size done refused fresh made terms_with sorted inserted firmly smallest kept has put
firm_held = refl

-- 0 to 31 stored at an interval of 10,000, then the least i32: by the crate's rule 6; firm 0, and it is not stored
default_early : (step (report 0) (after (reports (rising 32 (fr 0))) (default_end 10000))).answer ≡ 6
unfolding step message_step reacted tested ignored heard resumed on_body on_checksum_report is_full buffer_full has_room queue_size done refused fresh made terms_with sorted inserted with_report full_after others_full cleaned too_early kept has put
default_early = refl

firm_early : (step (report 0) (after (reports (rising 32 (fr 0))) (firm_end 10000))).answer ≡ 0
unfolding step message_step reacted tested ignored heard resumed on_body on_checksum_report is_full buffer_full has_room queue_size done refused fresh made terms_with sorted inserted firmly smallest kept has put
firm_early = refl

firm_not_stored : frames_held (after (report 0 ∷ []) (after (reports (rising 32 (fr 0))) (firm_end 10000))) ≡ rising 32 (fr 0)
unfolding step message_step reacted tested ignored heard resumed on_body on_checksum_report is_full buffer_full has_room queue_size done refused fresh made terms_with sorted inserted firmly smallest kept has put
firm_not_stored = refl

-- Running, an interruption announced and 640 events waiting: in both modes 5 for NetworkResumed, and nothing changes
abbrev crowded : Choices → Seen
crowded choices =
    with_events (replicate 640 (without_input Event.NetworkResumed)) (with_flags (record { disconnect_notify_sent = true; disconnect_event_sent = false }) (with_phase Running (new_with choices)))

default_crowded : step (report (fr 5)) (crowded (choices_with (On 1))) ≡ refused 5 (crowded (choices_with (On 1)))
unfolding step message_step reacted tested ignored heard resumed on_body on_checksum_report is_full buffer_full has_room queue_size done refused fresh made terms_with sorted inserted with_report full_after others_full cleaned too_early kept has put
default_crowded = refl

firm_crowded : step (report (fr 5)) (crowded (with_firm_checksums (choices_with (On 1)))) ≡ refused 5 (crowded (with_firm_checksums (choices_with (On 1))))
unfolding step message_step reacted tested ignored heard resumed on_body on_checksum_report is_full buffer_full has_room queue_size done refused fresh made terms_with sorted inserted firmly smallest kept has put
firm_crowded = refl
