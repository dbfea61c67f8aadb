-- What each getter shows is the value of its call.
use Rattle.std.specs.Prelude.{Result, Ok, Err}
use borrow.Author.Tests.{le-leb, lt-leb}
use mathlib.Core.Bool.{Bool, true, false, not, ◌||◌}
use mathlib.Core.Path.{◌≡◌, refl, sym, ◌∙◌, ap}
use Prim.Native.Nat.{ℕ, ◌-◌, ◌≤◌, ◌<◌}
use lib.Dec.{ltb, eqb}
use lib.ListN.{length, take, get_or}
use Rattle.base.proofs.Arrays.{take_count}
use Rattle.answer.proofs.Number.{number_determines}
use Rattle.answer.specs.declared.Refusal.TheVariants.{BadHandle, BadClock, NotSynchronized, NotEnoughData}
use Rattle.answer.specs.declared.Refusal.{Refusal}
use Rattle.answer.specs.Number.{refusal_number}
use Rattle.quality.specs.declared.NetworkStats.{NetworkStats}
use Rattle.pending.specs.Pending.{waiting}
use Rattle.history.specs.History.{received, newest_of}
use Rattle.status.specs.declared.ConnectionStatus.{ConnectionStatus}
use Rattle.status.specs.Status.{default_status}
use Rattle.status.specs.Statuses.{held_statuses}
use Rattle.checksums.specs.declared.Checksums.{Checksums}
use Rattle.checksums.specs.Checksums.{stored}
use Rattle.ceilings.specs.Ceilings.{most_players}
use Rattle.fixed_vec.specs.declared.FixedVec.{FixedVec}
use Rattle.fixed_vec.specs.FixedVec.{held}
use Rattle.setup.specs.Setup.{handle_list, terms_with}
use Rattle.timers.specs.Timers.{bad_clock}
use Rattle.endpoint_rules.specs.declared.Phase.{Phase}
use Rattle.endpoint_rules.specs.Seen.{is_synchronizing, is_running}
use Rattle.endpoint_rules.specs.Did.{refused, tested}
use Rattle.endpoint_rules.specs.Reports.{stats_of}
use Rattle.endpoint_rules.specs.Call.{Call, Question}
use Rattle.endpoint_rules.specs.Step.{step, status_step, stats_step}
use Rattle.endpoint_rules.specs.Value.{Value, value_of, synchronized_in}
use Rattle.endpoint.specs.declared.Endpoint.{Endpoint}
use Rattle.endpoint.specs.Endpoint.{seen}
use Rattle.endpoint.specs.Shown.{shown, HandlesAs, ChecksumsAs, shown_status, shown_stats}

module _ (e : Endpoint) where
  pub shows_handles : (n : ℕ) → n ≡ length (handle_list e.setup.handles) → HandlesAs (seen e) (record { list = e.setup.handles.list; count = n })
  unfolding value_of seen terms_with
  shows_handles n h =
      let same : take n e.setup.handles.list ≡ handle_list e.setup.handles = rw h (sym (take_count e.setup.handles.count e.setup.handles.list)) in
      (ap Value.numbers same, h ∙ ap length (sym same))

  pub shows_synchronized : (b : Bool) → b ≡ synchronized_in e.sync.phase → Value.flag b ≡ value_of (Call.ask Question.is_synchronized) (seen e)
  unfolding value_of seen
  shows_synchronized b h = rw h

  pub shows_running : (b : Bool) → is_running e.sync.phase ≡ b → Value.flag b ≡ value_of (Call.ask Question.is_running) (seen e)
  unfolding value_of seen
  shows_running b h = rw h

  pub shows_peer : (from : ℕ) → Value.flag (eqb from e.setup.peer_addr) ≡ value_of (Call.ask (Question.is_handling_message from)) (seen e)
  unfolding value_of seen terms_with
  shows_peer from = refl

  pub shows_newest : (f : ℕ) → f ≡ newest_of (received e.history) → Value.frame f ≡ value_of (Call.ask Question.newest_frame) (seen e)
  unfolding value_of seen
  shows_newest f h = rw h

  pub shows_phase : Value.phase e.sync.phase ≡ value_of (Call.ask Question.state) (seen e)
  unfolding value_of seen
  shows_phase = refl

  pub shows_checksums : (n : ℕ) → n ≡ length (stored e.checksums) → ChecksumsAs (seen e) (record { entries = record { list = e.checksums.entries.list; count = n } })
  unfolding value_of seen stored held
  shows_checksums n h =
      let same : take n e.checksums.entries.list ≡ stored e.checksums = rw h (sym (take_count e.checksums.entries.count e.checksums.entries.list)) in
      (ap Value.checksums same, h ∙ ap length (sym same))

  module _ (handle : ℕ) where
    pub status_refused : e.setup.num_players ≤ handle → shown_status (Err BadHandle) ≡ shown (Call.peer_connect_status handle) (seen e)
    unfolding shown step status_step tested refused seen terms_with
    status_refused h = rw (le-leb e.setup.num_players handle h)

    pub status_shown : handle < e.setup.num_players → (s : ConnectionStatus) → s ≡ get_or (held_statuses e.statuses) handle default_status
        → shown_status (Ok s) ≡ shown (Call.peer_connect_status handle) (seen e)
    unfolding shown step status_step tested value_of seen terms_with
    status_shown h s es = rw (lt-leb e.setup.num_players handle h, es)

  module _ (epoch : ℕ) where
    pub stats_clock : bad_clock epoch ≡ true → shown_stats (Err BadClock) ≡ shown (Call.network_stats epoch) (seen e)
    unfolding shown step stats_step tested refused
    stats_clock h = rw h

    module _ (good : bad_clock epoch ≡ false) where
      pub stats_phase : not (is_synchronizing e.sync.phase || is_running e.sync.phase) ≡ true → shown_stats (Err NotSynchronized) ≡ shown (Call.network_stats epoch) (seen e)
      unfolding shown step stats_step tested refused seen
      stats_phase h = rw (good, h)

      module _ (talks : not (is_synchronizing e.sync.phase || is_running e.sync.phase) ≡ false) where
        pub stats_early : ltb (epoch - e.quality.stats_start_time) 1000 ≡ true → shown_stats (Err NotEnoughData) ≡ shown (Call.network_stats epoch) (seen e)
        unfolding shown step stats_step tested refused seen
        stats_early h = rw (good, talks, h)

        pub stats_shown : ltb (epoch - e.quality.stats_start_time) 1000 ≡ false → (n : ℕ) → n ≡ length (waiting e.pending)
            → shown_stats (Ok (record {
              ping = e.quality.round_trip_time;
              send_queue_len = n;
              local_frames_behind = e.quality.local_frame_advantage;
              remote_frames_behind = e.quality.remote_frame_advantage;
            }))
            ≡ shown (Call.network_stats epoch) (seen e)
        unfolding shown step stats_step tested value_of stats_of seen
        stats_shown h n en = rw (good, talks, h, en)

-- ---- two answers that a contract allows are equal: stores up to what their array holds past the count

-- two answers that show the same, f: how a value that is given is shown
same_shown : {A : Type 0} (f : A → Value) (other : (a : A) → f a ≡ Value.nothing → ⊥) (one : (a b : A) → f a ≡ f b → a ≡ b)
    (shows : Result A Refusal → ℕ × Value) → ((a : A) → shows (Ok a) ≡ (0, f a)) → ((r : Refusal) → shows (Err r) ≡ (refusal_number r, Value.nothing))
    → (r s : Result A Refusal) → shows r ≡ shows s → r ≡ s
same_shown f other one shows ok err (Ok a) (Ok b) h = ap Ok (one a b (ap (λ (t : ℕ × Value). t.1) (sym (ok a) ∙ h ∙ ok b)))
same_shown f other one shows ok err (Ok a) (Err b) h = absurd (other a (ap (λ (t : ℕ × Value). t.1) (sym (ok a) ∙ h ∙ err b)))
same_shown f other one shows ok err (Err a) (Ok b) h = absurd (other b (sym (ap (λ (t : ℕ × Value). t.1) (sym (err a) ∙ h ∙ ok b))))
same_shown f other one shows ok err (Err a) (Err b) h =
    let n = number_determines (Err a) (Err b) (ap (λ (t : ℕ × Value). t.0) (sym (err a) ∙ h ∙ err b)) in
    let same : a ≡ b = cc in
    ap Err same

same_status : (r s : Result ConnectionStatus Refusal) → shown_status r ≡ shown_status s → r ≡ s
same_status = same_shown Value.status (λ a h. cc) (λ a b h. cc) shown_status (λ a. refl) (λ r. refl)

same_stats : (r s : Result NetworkStats Refusal) → shown_stats r ≡ shown_stats s → r ≡ s
same_stats = same_shown Value.stats (λ a h. cc) (λ a b h. cc) shown_stats (λ a. refl) (λ r. refl)

module _ (e : Endpoint) where
  pub handles_settled : (r s : FixedVec ℕ most_players) → HandlesAs (seen e) r → HandlesAs (seen e) s → (handle_list r ≡ handle_list s) × (r.count ≡ s.count)
  handles_settled r s a b = let same : handle_list r ≡ handle_list s = let n : Value.numbers (handle_list r) ≡ Value.numbers (handle_list s) = a.0 ∙ sym b.0 in cc in (same, a.1 ∙ ap length same ∙ sym b.1)

  pub is_synchronized_settled : (r s : Bool) → Value.flag r ≡ value_of (Call.ask Question.is_synchronized) (seen e) → Value.flag s ≡ value_of (Call.ask Question.is_synchronized) (seen e) → r ≡ s
  is_synchronized_settled r s a b = cc

  pub is_running_settled : (r s : Bool) → Value.flag r ≡ value_of (Call.ask Question.is_running) (seen e) → Value.flag s ≡ value_of (Call.ask Question.is_running) (seen e) → r ≡ s
  is_running_settled r s a b = cc

  pub is_handling_message_settled : (from : ℕ) (r s : Bool) → Value.flag r ≡ value_of (Call.ask (Question.is_handling_message from)) (seen e) → Value.flag s ≡ value_of (Call.ask (Question.is_handling_message from)) (seen e) → r ≡ s
  is_handling_message_settled from r s a b = cc

  pub last_recv_frame_settled : (r s : ℕ) → Value.frame r ≡ value_of (Call.ask Question.newest_frame) (seen e) → Value.frame s ≡ value_of (Call.ask Question.newest_frame) (seen e) → r ≡ s
  last_recv_frame_settled r s a b = cc

  pub state_settled : (r s : Phase) → Value.phase r ≡ value_of (Call.ask Question.state) (seen e) → Value.phase s ≡ value_of (Call.ask Question.state) (seen e) → r ≡ s
  state_settled r s a b = cc

  pub checksums_settled : (r s : Checksums) → ChecksumsAs (seen e) r → ChecksumsAs (seen e) s → (stored r ≡ stored s) × (r.entries.count ≡ s.entries.count)
  checksums_settled r s a b =
      let same : stored r ≡ stored s = let n : Value.checksums (stored r) ≡ Value.checksums (stored s) = a.0 ∙ sym b.0 in cc in
      (same, a.1 ∙ ap length same ∙ sym b.1)

  pub peer_connect_status_settled : (handle : ℕ) (r s : Result ConnectionStatus Refusal) → shown_status r ≡ shown (Call.peer_connect_status handle) (seen e) → shown_status s ≡ shown (Call.peer_connect_status handle) (seen e) → r ≡ s
  peer_connect_status_settled handle r s a b = same_status r s (a ∙ sym b)

  pub network_stats_settled : (epoch : ℕ) (r s : Result NetworkStats Refusal) → shown_stats r ≡ shown (Call.network_stats epoch) (seen e) → shown_stats s ≡ shown (Call.network_stats epoch) (seen e) → r ≡ s
  network_stats_settled epoch r s a b = same_stats r s (a ∙ sym b)
