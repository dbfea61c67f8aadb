-- Worked examples of act that no worked bout shows. In Running: what goes out together, which clocks restart, what is announced in which order. While
-- synchronizing: which clock a request goes by.
use mathlib.Core.List.{List, [], ◌∷◌, map}
use mathlib.Core.Path.{◌≡◌, refl}
use Prim.Native.Nat.{ℕ}
use Rattle.base.specs.Keyed.{kept, has, without}
use Rattle.base.specs.Last.{last_of}
use Rattle.frame.specs.Bias.{bias16}
use Rattle.history.specs.History.{blank_frame, highest, newest_of}
use Rattle.nonces.specs.Nonces.{issued}
use Rattle.status.specs.Status.{default_status}
use Rattle.status.specs.Statuses.{default_statuses}
use Rattle.codec.specs.declared.MessageBody.TheVariants.{SyncRequest, QualityReport, KeepAlive}
use Rattle.events.specs.declared.Entry.{Entry}
use Rattle.events.specs.declared.Event.{Event}
use Rattle.events.specs.Events.{has_room}
use Rattle.timers.specs.declared.Clocks.{Clocks}
use Rattle.setup.specs.Setup.{bad_setup, any_above, any_twice, inserted, sorted, terms_with}
use Rattle.quality.specs.Quality.{clamped}
use Rattle.outbox.specs.Outbox.{queue_size}
use Rattle.endpoint_rules.specs.Seen.{Seen, made}
use Rattle.endpoint_rules.specs.Did.{refused, tested, queue_wire, done}
use Rattle.endpoint_rules.specs.Room.{buffer_full, is_full}
use Rattle.endpoint_rules.specs.Handshake.{nonce_issued, request, started, synchronized, on_sync_request, counted, running, replied, on_sync_reply}
use Rattle.endpoint_rules.specs.Sending.{pending_queued}
use Rattle.endpoint_rules.specs.Reports.{report_queued}
use Rattle.endpoint_rules.specs.Checksum.{checksum_sent}
use Rattle.endpoint_rules.specs.Act.{resent, report_sent, kept_alive, interrupted, timed_out, acted}
use Rattle.endpoint_rules.specs.Call.{Call}
use Rattle.endpoint_rules.specs.Step.{fresh, synchronize_step, ignored, resumed, heard, on_body, reacted, message_step, act_step, checksum_step, step}
use Rattle.endpoint_rules.proofs.Bouts.{setup_with, new, wire, fr, epoch_at, hand, act_at, starting, after, handshake, bodies}

-- in Running since clock 1000, nothing pending
abbrev ready : Seen
ready = after handshake new

-- a report went out at 2000, and then, by a clock that went back, a checksum at 1000
abbrev set_back : Seen
set_back = after (act_at 2000 ∷ Call.send_checksum_report (fr 0) (record { low = 1; high = 0 }) 1000 65536 ∷ []) ready

abbrev announced_at : ℕ → Seen → List Event
announced_at now s = map (λ (x : Entry). x.event) (step (act_at now) s).events

-- past every threshold, with a buffer of some length
abbrev act_with : ℕ → Call
act_with buffer = Call.act 2 (default_status ∷ default_status ∷ []) 101001 (epoch_at 101001) 99 buffer

timings :
    -- nothing at 1200; a report at 1201, and no keepalive beside it
    (bodies (step (act_at 1200) ready) ≡ [])
    × (bodies (step (act_at 1201) ready) ≡ QualityReport bias16 (record { low = epoch_at 1201; high = 0 }) ∷ [])
    -- a keepalive where the send time alone is over
    × (bodies (step (act_at 1200) set_back) ≡ [])
    × (bodies (step (act_at 1201) set_back) ≡ KeepAlive ∷ [])
    -- the resend clock restarts with nothing pending
    × ((step (act_at 1200) ready).after.clocks.running_last_input_recv ≡ 1000)
    × ((step (act_at 1201) ready).after.clocks.running_last_input_recv ≡ 1201)
    -- an interruption at 51001 announces what is left; both at 101001 in their order; each once
    × (announced_at 51000 ready ≡ [])
    × (announced_at 51001 ready ≡ Event.NetworkInterrupted 50000 ∷ [])
    × (announced_at 101001 ready ≡ Event.NetworkInterrupted 50000 ∷ Event.Disconnected ∷ [])
    × (announced_at 101001 (after (act_at 51001 ∷ []) ready) ≡ Event.Disconnected ∷ [])
    × (announced_at 101002 (after (act_at 101001 ∷ []) ready) ≡ [])
    -- one byte short of the report: 5, and the events are not announced
    × ((step (act_with 73) ready).answer ≡ 5)
    × ((step (act_with 73) ready).events ≡ [])
    × ((step (act_with 74) ready).answer ≡ 0)
unfolding kept has without blank_frame highest newest_of issued last_of default_status default_statuses has_room bad_setup any_above any_twice inserted sorted terms_with made refused tested queue_wire queue_size done buffer_full is_full nonce_issued request started synchronized counted running replied on_sync_reply pending_queued clamped report_queued checksum_sent resent report_sent kept_alive interrupted timed_out acted fresh synchronize_step ignored resumed heard on_body reacted message_step act_step checksum_step step
timings = (refl, refl, refl, refl, refl, refl, refl, refl, refl, refl, refl, refl, refl, refl)

-- ---- P11 where the clocks differ: the endpoint is made at 900, its first request goes out at 1000, and at 1100 it answers a request of the other end

abbrev answering : Seen
answering = after (starting ∷ hand (wire (SyncRequest 5) [] []) 1100 0 ∷ []) (fresh (setup_with 1) 900).1

-- its clocks, with the times of its last message and of its last request
abbrev clocks_with : (sent requested : ℕ) → Clocks
clocks_with sent requested =
    record {
      running_last_quality_report = 900;
      running_last_input_recv = 900;
      last_send_time = sent;
      last_sync_request_time = requested;
      last_recv_time = 1100;
      shutdown_timeout = 900;
    }

requests : (answering.clocks ≡ clocks_with 1100 1000)
    × (answering.sync.nonces ≡ 1 ∷ [])
    -- nothing at 1200; at 1201 one request, its time is noted, and its nonce is outstanding beside the first one
    × (step (act_at 1200) answering ≡ record { answer = 0; after = answering; out = []; events = [] })
    × (bodies (step (act_at 1201) answering) ≡ SyncRequest 99 ∷ [])
    × ((step (act_at 1201) answering).after.clocks ≡ clocks_with 1201 1201)
    × ((step (act_at 1201) answering).after.sync.nonces ≡ 1 ∷ 99 ∷ [])
    -- so the next one is not due at 1401, and is due at 1402
    × (bodies (step (act_at 1401) (after (act_at 1201 ∷ []) answering)) ≡ [])
    × (bodies (step (act_at 1402) (after (act_at 1201 ∷ []) answering)) ≡ SyncRequest 99 ∷ [])
unfolding kept without issued last_of has_room terms_with made tested queue_wire queue_size done buffer_full is_full nonce_issued request started synchronized on_sync_request acted fresh synchronize_step ignored resumed heard on_body reacted message_step act_step step
requests = (refl, refl, refl, refl, refl, refl, refl, refl)
