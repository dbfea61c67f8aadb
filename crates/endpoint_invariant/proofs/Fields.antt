-- The plain fields stay sound: clocks, quality, statuses and checksums.
use mathlib.Core.Bool.{Bool, true, false, false≢true}
use mathlib.Core.List.{List, [], ◌∷◌, map}
use mathlib.Core.Path.{◌≡◌}
use Prim.Native.Nat.{ℕ, suc, ◌+◌, ◌-◌, ◌^◌, ◌<◌, ◌≤◌, min}
use native.Mathlib.Omega.{arith}
use lib.Dec.{eqb}
use lib.ListN.{length}
use Rattle.status.specs.declared.ConnectionStatus.{ConnectionStatus}
use Rattle.status.specs.Status.{default_status, merged, reported}
use Rattle.status.specs.Statuses.{merged_all, default_statuses}
use Rattle.codec.specs.Message.{FitsReports}
use Rattle.codec.specs.declared.StatusReport.{StatusReport}
use Rattle.checksums.specs.declared.Checksum.{Checksum}
use Rattle.checksums.specs.Checksums.{checksum_frame}
use Rattle.checksums.specs.Report.{reported_by}
use Rattle.checksums.proofs.Firm.{firm_bound}
use Rattle.checksums.proofs.Lines.{by_report}
use Rattle.timers.specs.declared.Clocks.{Clocks}
use Rattle.timers.specs.Timers.{made_at, quality_at, input_at, sent_at, request_at, heard_at, shutdown_at}
use Rattle.quality.specs.declared.Quality.{Quality}
use Rattle.quality.specs.Quality.{widened, round_trip, fresh_quality, started_at, remote_set, trip_noted, local_set}
use Rattle.endpoint_invariant.specs.Each.{Each}
use Rattle.endpoint_invariant.specs.Sound.{SoundClocks, SoundQuality, SoundStatus, SoundChecksum}
use Rattle.endpoint_invariant.proofs.Choices.{by_pick}
use Rattle.endpoint_invariant.proofs.Eaches.{each_kept, each_put, each_replicate}

-- ---- clocks

pub made_clocks : (now : ℕ) → now < 2 ^ 62 → SoundClocks (made_at now)
made_clocks now small = record { quality = small; input = small; send = small; request = small; receive = small; shutdown = omega arith }

module _ (c : Clocks) (h : SoundClocks c) where
  module _ (now : ℕ) (small : now < 2 ^ 62) where
    pub quality_clock : SoundClocks (quality_at now c)
    quality_clock = search

    pub input_clock : SoundClocks (input_at now c)
    input_clock = search

    pub sent_clock : SoundClocks (sent_at now c)
    sent_clock = search

    pub request_clock : SoundClocks (request_at now c)
    request_clock = search

    pub heard_clock : SoundClocks (heard_at now c)
    heard_clock = search

  pub shutdown_clock : (time : ℕ) → time < 2 ^ 62 + 5000 → SoundClocks (shutdown_at time c)
  shutdown_clock time small = search

-- ---- quality

pub made_quality : SoundQuality fresh_quality
made_quality = record { local = omega arith; remote = (omega arith, omega arith); trip = omega arith; start = omega arith }

module _ (q : Quality) (h : SoundQuality q) where
  pub started_quality : (epoch : ℕ) → epoch < 2 ^ 62 → SoundQuality (started_at epoch q)
  started_quality epoch small = search

  pub local_quality : (advantage : ℕ) → advantage < 2 ^ 32 → SoundQuality (local_set advantage q)
  local_quality advantage small = search

  -- it came as an i16
  pub remote_quality : (advantage : ℕ) → advantage < 2 ^ 16 → SoundQuality (remote_set advantage q)
  unfolding widened
  remote_quality advantage small = record { local = h.local; remote = (omega arith, omega arith); trip = h.trip; start = h.start }

  pub trip_quality : (epoch low high : ℕ) → epoch < 2 ^ 62 → SoundQuality (trip_noted (round_trip epoch low high) q)
  unfolding round_trip
  trip_quality epoch low high small =
      record { local = h.local; remote = h.remote; trip = by_pick (λ n. n < 2 ^ 62) (eqb high 0) (epoch - low) 0 (λ _. omega arith) (λ _. omega arith); start = h.start }

-- ---- statuses

pub made_statuses : (players : ℕ) → Each SoundStatus (default_statuses players)
unfolding default_statuses default_status
made_statuses players = each_replicate SoundStatus (min players 4) default_status (omega arith)

pub merged_statuses : (l : List ConnectionStatus) (reports : List StatusReport) → Each SoundStatus l → FitsReports reports
    → Each SoundStatus (merged_all l (map (λ (x : StatusReport). reported x.disconnected x.last_frame) reports))
unfolding Each merged_all merged reported
merged_statuses [] reports h k = tt
merged_statuses (x ∷ l) [] h k = h
merged_statuses (x ∷ l) (r ∷ reports) h k =
    (omega (arith, h.0, k 0 r (omega arith)), merged_statuses l reports h.1 (λ i d b. k (suc i) d (omega arith)))

-- ---- checksums

pub reported_checksums : (firm : Bool) (c : Checksum) (interval : ℕ) (l : List Checksum) → SoundChecksum c → Each SoundChecksum l → Each SoundChecksum (reported_by firm c interval l)
reported_checksums firm c interval l p h =
    by_report firm c interval l (Each SoundChecksum) h (λ n. each_put SoundChecksum checksum_frame c _ p (each_kept SoundChecksum _ l h))

pub reported_firm : (firm : Bool) (c : Checksum) (interval : ℕ) (l : List Checksum) → (firm ≡ true → length l ≤ 32) → firm ≡ true → length (reported_by firm c interval l) ≤ 32
reported_firm true c interval l few e = firm_bound c l (few e)
reported_firm false c interval l few e = absurd (false≢true e)
