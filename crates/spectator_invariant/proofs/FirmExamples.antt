-- Worked: a firm session that is given reports of frame 5, one of them ignored and one refused, with a poll between; and what the law says of its store.
use mathlib.Core.List.{List, [], ◌∷◌, ◌++◌}
use mathlib.Core.Path.{◌≡◌, refl}
use Prim.Native.Nat.{ℕ, ◌^◌}
use Rattle.base.specs.Keyed.{kept, has, put, without}
use Rattle.base.specs.Last.{last_of}
use Rattle.nonces.specs.Nonces.{issued}
use Rattle.status.specs.Statuses.{default_statuses}
use Rattle.checksums.specs.Firm.{firmly}
use Rattle.checksums.specs.Largest.{HoldsLargest}
use Rattle.checksums.specs.Worked.{of}
use Rattle.codec.specs.declared.MessageBody.TheVariants.{ChecksumReport}
use Rattle.events.specs.Events.{has_room}
use Rattle.setup.specs.Setup.{with_firm_checksums, bad_setup, any_above, any_twice, inserted, sorted, terms_with}
use Rattle.outbox.specs.Outbox.{queue_size}
use Rattle.endpoint_rules.specs.Seen.{made}
use Rattle.endpoint_rules.specs.Did.{refused as host_refused, tested, queue_wire, done}
use Rattle.endpoint_rules.specs.Room.{buffer_full, is_full}
use Rattle.endpoint_rules.specs.Handshake.{nonce_issued, request, started, synchronized, counted, running, replied, on_sync_reply}
use Rattle.endpoint_rules.specs.Act.{resent, report_sent, kept_alive, interrupted, timed_out, acted}
use Rattle.endpoint_rules.specs.Checksum.{on_checksum_report}
use Rattle.endpoint_rules.specs.Step.{synchronize_step, ignored, resumed, heard, on_body, reacted, message_step, act_step, take_step}
use Rattle.endpoint_rules.proofs.Bouts.{fr, wire}
use Rattle.spectator_rules.specs.declared.SessionSetup.{SessionSetup}
use Rattle.spectator_rules.specs.Setup.{host_setup, bad_limits, bad_session}
use Rattle.spectator_rules.specs.Watch.{Watch, made_watch}
use Rattle.spectator_rules.specs.Handling.{event_added, announce, handled, handled_all}
use Rattle.spectator_rules.specs.Call.{Call}
use Rattle.spectator_rules.specs.Step.{fresh, decided, by_host, host_acts, host_takes, poll_refusal, polled, poll_step, step}
use Rattle.spectator_rules.proofs.Examples.{setup_with, hand_from, poll, handshake}
use Rattle.spectator_invariant.specs.Seated.{ran}
use Rattle.spectator_invariant.specs.Reports.{reports_taken}
use Rattle.spectator_invariant.proofs.FirmStore.{reached_firm}

-- the session of the other examples, with a store of checksums that has a firm size
abbrev setup : SessionSetup
setup =
    let g : SessionSetup = setup_with 4 8 2 2 in
    record {
      num_players = g.num_players;
      input_size = g.input_size;
      max_prediction = g.max_prediction;
      disconnect_timeout = g.disconnect_timeout;
      disconnect_notify_start = g.disconnect_notify_start;
      fps = g.fps;
      magic = g.magic;
      peer_addr = g.peer_addr;
      choices = with_firm_checksums g.choices;
      limits = g.limits;
    }

setup_taken : (fresh setup 1000).0 ≡ 0
unfolding fresh bad_session host_setup bad_setup bad_limits any_above any_twice has
setup_taken = refl

-- a report of frame 5 from a peer at a clock, with a checksum
abbrev report : (from low now : ℕ) → Call
report from low now = hand_from from (wire (ChecksumReport (record { low = low; high = 7 }) (fr 5)) [] []) now 0

-- after the handshake, whose events the poll handles: peer 4 is not its host's, and a clock of 2^62 is above its ceiling
abbrev calls : List Call
calls = handshake ++ report 3 1 1000 ∷ report 4 2 1000 ∷ poll ∷ report 3 3 (2 ^ 62) ∷ report 3 4 1000 ∷ []

abbrev begun : Watch
begun = (fresh setup 1000).1

-- the numbers of calls one after the other
abbrev answers : List Call → Watch → List ℕ
answers [] w = []
answers (c ∷ cs) w = (step c w).answer ∷ answers cs (step c w).after

-- what they come to, computed
comes_to :
    (answers calls begun ≡ 0 ∷ 0 ∷ 0 ∷ 0 ∷ 0 ∷ 0 ∷ 0 ∷ 0 ∷ 0 ∷ 8 ∷ 0 ∷ [])
    -- two reports are taken
    × (reports_taken calls begun ≡ of (fr 5) 1 ∷ of (fr 5) 4 ∷ [])
    -- and one is stored, with the checksum of the later
    × ((ran calls begun).host.checksums ≡ of (fr 5) 4 ∷ [])
unfolding kept has put without firmly issued last_of default_statuses has_room inserted sorted terms_with made host_refused tested queue_wire queue_size done buffer_full is_full nonce_issued request started synchronized counted running replied on_sync_reply on_checksum_report resent report_sent kept_alive interrupted timed_out acted synchronize_step ignored resumed heard on_body reacted message_step act_step take_step host_setup made_watch event_added announce handled handled_all fresh decided by_host host_acts host_takes poll_refusal polled poll_step step ran reports_taken
comes_to = (refl, refl, refl)

-- as the law says
held_largest : HoldsLargest (of (fr 5) 1 ∷ of (fr 5) 4 ∷ []) (of (fr 5) 4 ∷ [])
held_largest = rw (comes_to.1, comes_to.2) at (reached_firm setup 1000 calls refl)
