-- A poll while the handshake goes on, for every number of nonces outstanding: a request that is due goes out (E-70), and no event of its endpoint is left waiting.
use borrow.Author.Tests.{le-ltb}
use mathlib.Core.Bool.{Bool, true, false, not, and-false}
use mathlib.Core.List.{List, [], ◌∷◌, ◌++◌}
use mathlib.Core.Path.{◌≡◌, refl, ◌∙◌, ap}
use native.Mathlib.Omega.{arith}
use Prim.Native.Nat.{ℕ, ◌+◌, ◌^◌, ◌<◌, ◌≤◌}
use lib.ListN.{length}
use Rattle.base.specs.Pick.{pick}
use Rattle.nonces.specs.Nonces.{issued}
use Rattle.codec.specs.Read.{body_only}
use Rattle.codec.specs.declared.MessageBody.TheVariants.{SyncRequest}
use Rattle.timers.specs.declared.Clocks.{Clocks}
use Rattle.events.specs.declared.Entry.{Entry}
use Rattle.events.specs.declared.Event.{Event}
use Rattle.endpoint_rules.specs.declared.Phase.TheVariants.{Synchronizing}
use Rattle.endpoint_rules.specs.Seen.{Seen, Sync, is_shutdown, with_events, with_queued}
use Rattle.endpoint_rules.specs.Did.{tested, refused as host_refused, Did as HostDid}
use Rattle.endpoint_rules.specs.Handshake.{counts}
use Rattle.endpoint_rules.specs.Advantage.{both_known, local_advantage, advantage_updated}
use Rattle.endpoint_rules.specs.Step.{changed, advantage_step, take_step}
use Rattle.endpoint_rules.proofs.Tested.{tested-both}
use Rattle.endpoint_rules.proofs.Requests.{Requests, request_goes}
use Rattle.spectator_rules.specs.Watch.{Watch, with_host}
use Rattle.spectator_rules.specs.Handling.{announce, input_handled, on_event, handled, handled_all}
use Rattle.spectator_rules.specs.Step.{Did, decided, host_acts, host_takes, poll_refusal, polled, poll_step}

-- ---- handling events leaves the endpoint's handshake, clocks, events and queue alone

pub record SameHandshake (s t : Seen) : Type 0 where
  pub phase : t.phase ≡ s.phase
  pub sync : t.sync ≡ s.sync
  pub clocks : t.clocks ≡ s.clocks
  pub events : t.events ≡ s.events
  pub queued : t.queued ≡ s.queued

same_itself : (s : Seen) → SameHandshake s s
same_itself s = record { phase = refl; sync = refl; clocks = refl; events = refl; queued = refl }

same_then : (s t u : Seen) → SameHandshake s t → SameHandshake t u → SameHandshake s u
same_then s t u a b =
    record { phase = b.phase ∙ a.phase; sync = b.sync ∙ a.sync; clocks = b.clocks ∙ a.clocks; events = b.events ∙ a.events; queued = b.queued ∙ a.queued }

advantage_same : (frame : ℕ) (s : Seen) → SameHandshake s (advantage_step frame s).after
unfolding advantage_step advantage_updated local_advantage host_refused
advantage_same frame s = tested-both _ s _ (λ d. SameHandshake s d.after) (λ n. same_itself s) (λ _. go (both_known frame s))
  where
    go : (b : Bool) → SameHandshake s (pick b (local_advantage frame s) s)
    go true = record { phase = refl; sync = refl; clocks = refl; events = refl; queued = refl }
    go false = same_itself s

event_same : (event : Event) (input : List ℕ) (w : Watch) → SameHandshake w.host (on_event event input w).host
unfolding announce input_handled
event_same (Event.Synchronizing total count) input w = same_itself w.host
event_same Event.Synchronized input w = same_itself w.host
event_same (Event.Input frame player) input w = advantage_same frame w.host
event_same Event.Disconnected input w = same_itself w.host
event_same (Event.NetworkInterrupted timeout) input w = same_itself w.host
event_same Event.NetworkResumed input w = same_itself w.host

pub handled_same : (l : List Entry) (w : Watch) → SameHandshake w.host (handled_all l w).host
unfolding handled_all handled
handled_same [] w = same_itself w.host
handled_same (x ∷ l) w = same_then w.host (handled x w).host (handled_all l (handled x w)).host (event_same x.event x.input w) (handled_same l (handled x w))

-- ---- the poll

-- of a poll that sends the request: it queues nothing else, and a reply to it would count now. After it no event of its endpoint waits, and nothing is queued
pub record PollRequests (nonce now : ℕ) (w : Watch) (d : Did) : Type 0 where
  pub answer : d.answer ≡ 0
  pub out : d.out ≡ body_only w.host.setup.magic (SyncRequest nonce) ∷ []
  pub counting : counts nonce d.after.host ≡ true
  pub nonces : d.after.host.sync.nonces ≡ issued nonce w.host.sync.nonces
  pub remaining : d.after.host.sync.remaining ≡ w.host.sync.remaining
  pub requested : d.after.host.clocks.last_sync_request_time ≡ now
  pub events : d.after.host.events ≡ []
  pub queued : d.after.host.queued ≡ 0

module _ (now epoch nonce buffer : ℕ) (w : Watch) (tn : now < 2 ^ 62) (te : epoch < 2 ^ 62) (listed : length w.statuses ≡ w.host.setup.players) (phase : w.host.phase ≡ Synchronizing)
    (due : w.host.clocks.last_sync_request_time + 200 < now) (room : w.host.queued + 10 ≤ buffer) where
  -- its endpoint with the events aside
  abbrev Apart : Seen
  Apart = with_events [] w.host

  acts : Requests nonce now Apart (host_acts now epoch nonce buffer w)
  unfolding host_acts
  acts = request_goes (length w.statuses) w.statuses now epoch nonce buffer Apart tn te listed phase due (omega arith) room

  abbrev Acts : HostDid
  Acts = host_acts now epoch nonce buffer w

  -- what it has queued then fits the buffer, so its messages are taken
  takes : host_takes buffer Acts ≡ changed (with_queued 0 Acts.after)
  unfolding host_takes take_step tested
  takes = rw (le-ltb buffer Acts.after.queued (rw acts.queued room), and-false (not (is_shutdown Acts.after.phase)))

  polls : poll_step now epoch nonce buffer w ≡ polled now epoch nonce buffer w
  unfolding poll_step decided poll_refusal
  polls = rw (takes, acts.answer)

  -- its endpoint before its events are handled
  abbrev Asked : Seen
  Asked = with_events [] (with_queued 0 Acts.after)

  -- whatever is outstanding, and however many events wait
  pub poll_requests : PollRequests nonce now w (poll_step now epoch nonce buffer w)
  unfolding polled
  poll_requests =
      let same : SameHandshake Asked (handled_all (w.host.events ++ Acts.after.events) (with_host Asked w)).host = handled_same (w.host.events ++ Acts.after.events) (with_host Asked w) in
      rw (polls, takes)
      (record {
        answer = refl;
        out = acts.out;
        counting = rw (same.phase, same.sync) acts.counting;
        nonces = ap (λ (x : Sync). x.nonces) same.sync ∙ acts.nonces;
        remaining = ap (λ (x : Sync). x.remaining) same.sync ∙ acts.remaining;
        requested = ap (λ (x : Clocks). x.last_sync_request_time) same.clocks ∙ acts.requested;
        events = same.events;
        queued = same.queued;
      })
