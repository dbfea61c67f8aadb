-- One group of the state set: what is left to show of it.
use mathlib.Core.Bool.{true, false, ◌||◌}
use mathlib.Core.List.{List}
use mathlib.Core.Path.{◌≡◌}
use Prim.Native.Nat.{ℕ, ◌≤◌}
use lib.ListN.{length}
use Rattle.base.specs.Keyed.{Distinct}
use Rattle.setup.specs.Setup.{sending_width, receiving_width}
use Rattle.status.specs.declared.ConnectionStatus.{ConnectionStatus}
use Rattle.checksums.specs.declared.Checksum.{Checksum}
use Rattle.events.specs.declared.Entry.{Entry}
use Rattle.timers.specs.declared.Clocks.{Clocks}
use Rattle.quality.specs.declared.Quality.{Quality}
use Rattle.endpoint_rules.specs.declared.Phase.{Phase}
use Rattle.endpoint_rules.specs.declared.Flags.{Flags}
use Rattle.endpoint_rules.specs.Seen.{Seen, Sender, Receiver, Sync, is_initializing, is_synchronizing, with_phase, with_sync, with_clocks, with_flags, with_quality, with_statuses, with_checksums, with_events, with_queued}
use Rattle.endpoint_rules.specs.Sending.{with_sender}
use Rattle.endpoint_rules.specs.Receiving.{with_receiver}
use Rattle.endpoint_invariant.specs.Each.{Each}
use Rattle.endpoint_invariant.specs.Sound.{Sound, SoundSender, SoundReceiver, SoundSync, SoundClocks, SoundQuality, SoundStatus, SoundChecksum}

module _ (s : Seen) (h : Sound s) where
  pub sender_part : (x : Sender) → SoundSender (sending_width s.setup) x → Sound (with_sender x s)
  sender_part x p = search

  pub receiver_part : (x : Receiver) → SoundReceiver (receiving_width s.setup) s.setup.max_prediction x → Sound (with_receiver x s)
  receiver_part x p = search

  pub sync_part : (x : Sync) → SoundSync s.phase x → Sound (with_sync x s)
  sync_part x p = search

  -- a phase after the handshake, or one that no interruption was announced in
  pub phase_part : (p : Phase) (x : Sync) → SoundSync p x → (is_initializing p || is_synchronizing p ≡ true → s.flags.disconnect_notify_sent ≡ false) → Sound (with_phase p (with_sync x s))
  phase_part p x k n = search

  pub clocks_part : (c : Clocks) → SoundClocks c → Sound (with_clocks c s)
  clocks_part c p = search

  pub flags_part : (f : Flags) → (is_initializing s.phase || is_synchronizing s.phase ≡ true → f.disconnect_notify_sent ≡ false) → Sound (with_flags f s)
  flags_part f p = search

  pub quality_part : (q : Quality) → SoundQuality q → Sound (with_quality q s)
  quality_part q p = search

  pub statuses_part : (l : List ConnectionStatus) → length l ≡ s.setup.players → Each SoundStatus l → Sound (with_statuses l s)
  statuses_part l n p = search

  pub checksums_part : (l : List Checksum) → Distinct (λ (x : Checksum). x.frame) l → length l ≤ 64 → Each SoundChecksum l
      → (s.setup.choices.firm_checksums ≡ true → length l ≤ 32) → Sound (with_checksums l s)
  checksums_part l d n p m = search

  pub events_part : (l : List Entry) → length l ≤ 640 → Sound (with_events l s)
  events_part l n = search

  pub queued_part : (n : ℕ) → Sound (with_queued n s)
  queued_part n = search
