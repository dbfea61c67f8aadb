-- Checksum reports, sent and received.
use mathlib.Core.Bool.{Bool}
use Rattle.std.specs.Prelude.{ℕ}
use Rattle.checksums.specs.declared.Checksum.{Checksum}
use Rattle.checksums.specs.Report.{overflows_by, full_by, reported_by}
use Rattle.codec.specs.declared.Wide.{Wide}
use Rattle.codec.specs.declared.MessageBody.TheVariants.{ChecksumReport}
use Rattle.setup.specs.Setup.{interval_of}
use Rattle.endpoint_rules.specs.Seen.{Seen, with_checksums}
use Rattle.endpoint_rules.specs.Did.{Effect, change, queue}
use Rattle.endpoint_rules.specs.Handshake.{Reaction}

-- off is interval 1 (E-37)
abbrev pub interval_in : Seen → ℕ
interval_in s = interval_of s.setup.choices.desync_detection

-- whether the store has a firm size (E-76)
abbrev pub firm_in : Seen → Bool
firm_in s = s.setup.choices.firm_checksums

abbrev pub checksum_of : (frame : ℕ) → (checksum : Wide) → Checksum
checksum_of frame checksum = record { frame = frame; low = checksum.low; high = checksum.high }

-- by the crate's rule a clean-up first where 32 or more are stored: 6 for its line, then 5 for what it leaves; in firm mode neither
unfoldable pub on_checksum_report : (frame : ℕ) → (checksum : Wide) → Effect → Reaction
on_checksum_report frame checksum e =
    record {
      too_long = mathlib.Core.Bool.false;
      overflows = overflows_by (firm_in e.state) frame (interval_in e.state) e.state.checksums;
      store_full = full_by (firm_in e.state) frame (interval_in e.state) e.state.checksums;
      effect = change (λ s. with_checksums (reported_by (firm_in s) (checksum_of frame checksum) (interval_in s) s.checksums) s) e;
    }

unfoldable pub checksum_sent : (now frame : ℕ) → (checksum : Wide) → Effect → Effect
checksum_sent now frame checksum e = queue now (ChecksumReport checksum frame) e
