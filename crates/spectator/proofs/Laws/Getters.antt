-- What the getters show, and what taking the events leaves.
use mathlib.Core.Bool.{Bool, true, false}
use mathlib.Core.Path.{◌≡◌, refl, ap, ◌∙◌}
use Prim.Native.Nat.{ℕ, ◌-◌}
use lib.Dec.{eqb}
use lib.ListN.{length}
use Rattle.base.specs.Pick.{pick}
use Rattle.quality.specs.Advantage.{difference_overflows}
use Rattle.setup.specs.Setup.{terms_with}
use Rattle.endpoint_rules.specs.Call.{Call as HostCall}
use Rattle.endpoint_rules.specs.Step.{step as host_step, stats_step}
use Rattle.endpoint_rules.specs.Value.{Value as HostValue, value_of as host_value_of}
use Rattle.endpoint_rules.specs.Reports.{stats_of}
use Rattle.quality.specs.declared.NetworkStats.{NetworkStats}
use Rattle.endpoint.specs.Endpoint.{seen as seen_host}
use Rattle.endpoint.specs.Shown.{shown as host_shown, shown_stats as shown_host_stats}
use Rattle.std.specs.Prelude.{Result, Ok, Err}
use Rattle.answer.specs.declared.Refusal.{Refusal}
use Rattle.answer.specs.declared.Refusal.TheVariants.{Overflow}
use Rattle.spectator_rules.specs.Call.{Call}
use Rattle.spectator_rules.specs.Step.{step, by_host, decided, refused, frames_behind_step}
use Rattle.spectator_rules.specs.Value.{Value, value_of}
use Rattle.spectator.specs.declared.SpectatorSession.{SpectatorSession}
use Rattle.fixed_vec.specs.FixedVec.{held}
use Rattle.spectator.specs.Stores.{events_of}
use Rattle.spectator.specs.Session.{seen, keeping}
use Rattle.spectator.specs.Answers.{shown, shown_stats, shown_behind, TakenAs}
use Rattle.spectator.proofs.Laws.Counts.{events_counted, own_count}

-- the host's values that its statistics are shown as, as the session's
abbrev carried_over : HostValue → Value
carried_over HostValue.nothing = Value.nothing
carried_over (HostValue.stats x) = Value.stats x
carried_over (HostValue.status x) = Value.nothing
carried_over (HostValue.events x) = Value.nothing
carried_over (HostValue.part x) = Value.nothing
carried_over (HostValue.numbers x) = Value.nothing
carried_over (HostValue.flag x) = Value.nothing
carried_over (HostValue.frame x) = Value.nothing
carried_over (HostValue.phase x) = Value.nothing
carried_over (HostValue.checksums x) = Value.nothing

abbrev shown_over : ℕ × HostValue → ℕ × Value
shown_over x = (x.0, carried_over x.1)

shown_over_lem : (r : Result NetworkStats Refusal) → shown_stats r ≡ shown_over (shown_host_stats r)
shown_over_lem (Ok x) = refl
shown_over_lem (Err r) = refl

picked_over : (b : Bool) (n : ℕ) (x : NetworkStats) → shown_over (n, pick b (HostValue.stats x) HostValue.nothing) ≡ (n, pick b (Value.stats x) Value.nothing)
picked_over true n x = refl
picked_over false n x = refl

module _ (s : SpectatorSession) where
  pub shows_state : Value.state s.state ≡ value_of Call.current_state (seen s)
  unfolding value_of seen
  shows_state = refl

  pub shows_frame : Value.frame s.current_frame ≡ value_of Call.current_frame (seen s)
  unfolding value_of seen
  shows_frame = refl

  pub shows_players : Value.count s.host.setup.num_players ≡ value_of Call.num_players (seen s)
  unfolding value_of seen seen_host terms_with
  shows_players = refl

  pub takes_events : (n : ℕ) → n ≡ length (events_of s.events) → TakenAs s (record {
    session = keeping s (record { entries = record { list = s.events.entries.list; count = 0 } });
    events = record { entries = record { list = s.events.entries.list; count = n } };
  })
  unfolding value_of step seen events_of held
  takes_events n e =
      let held = events_counted n s.events e in
      record { events = ap Value.events held.0; count = own_count held; after = refl; own = refl; left = refl }

  -- how far behind
  pub behind_overflow : difference_overflows s.last_recv_frame s.current_frame ≡ true → shown_behind (Err Overflow) ≡ shown Call.frames_behind_host (seen s)
  unfolding shown step frames_behind_step decided refused seen
  behind_overflow h = rw h

  pub behind_shown : (n : ℕ) → difference_overflows s.last_recv_frame s.current_frame ≡ false → n ≡ s.last_recv_frame - s.current_frame
      → shown_behind (Ok n) ≡ shown Call.frames_behind_host (seen s)
  unfolding shown step frames_behind_step decided value_of seen
  behind_shown n h e = rw (h, e)

  pub shows_stats : (epoch : ℕ) (r : Result NetworkStats Refusal) → shown_host_stats r ≡ host_shown (HostCall.network_stats epoch) (seen_host s.host)
      → shown_stats r ≡ shown (Call.network_stats epoch) (seen s)
  unfolding shown step by_host value_of seen host_shown host_step host_value_of
  shows_stats epoch r h =
      shown_over_lem r ∙ ap shown_over h ∙ picked_over (eqb (stats_step epoch (seen_host s.host)).answer 0) (stats_step epoch (seen_host s.host)).answer (stats_of (seen_host s.host))
