-- The ways out of `message` by `react`: a message that is answered at once or only noted.
use Rattle.std.specs.Prelude.{Result, Ok, Err}
use mathlib.Core.Bool.{Bool, true, false, ◌&&◌, ◌||◌}
use mathlib.Core.List.{List}
use mathlib.Core.Path.{◌≡◌, refl, sym, ◌∙◌}
use Prim.Native.Nat.{ℕ}
use lib.Dec.{leb}
use lib.ListN.{length}
use Rattle.answer.specs.Number.{Answered}
use Rattle.answer.specs.declared.Refusal.{Refusal}
use Rattle.answer.specs.declared.Refusal.TheVariants.{Full}
use Rattle.codec.specs.Message.{kind_of}
use Rattle.codec.proofs.KindNumbers.{kind_sync_reply, kind_input, kind_input_ack, kind_checksum_report}
use Rattle.codec.specs.declared.Message.{Message}
use Rattle.codec.specs.declared.MessageBody.{MessageBody}
use Rattle.codec.specs.declared.MessageBody.TheVariants.{SyncRequest, SyncReply, Input, InputAck, QualityReport, QualityReply, ChecksumReport, KeepAlive}
use Rattle.base.specs.Pick.{pick}
use Rattle.quality.specs.Quality.{round_trip, remote_set, trip_noted}
use Rattle.timers.specs.Timers.{bad_clock, sent_at, heard_at}
use Rattle.events.specs.declared.Events.{Events}
use Rattle.events.specs.Events.{held_events}
use Rattle.endpoint_rules.specs.Seen.{is_running}
use Rattle.endpoint_rules.specs.Step.{ignored_by, heard}
use Rattle.endpoint.specs.declared.Endpoint.{Endpoint}
use Rattle.endpoint.specs.declared.message.reaction.Reacted.{Reacted}
use Rattle.endpoint.specs.Endpoint.{seen, DidAs}
use Rattle.endpoint.specs.Inside.Hearing.{resumed_flags}
use Rattle.endpoint.specs.Inside.Reaction.{ReactedAs}
use Rattle.endpoint.proofs.Laws.Message.Hearing.{Ears, HeardAs, heard_with, ears_full}
use Rattle.endpoint.proofs.Laws.Ends.{remade}
use Rattle.endpoint.proofs.Laws.Message.Quiet.{only_full, only_heard}
use Rattle.endpoint.proofs.Laws.Message.SyncRequest.{request_unannounced, request_full, request-done}
use Rattle.endpoint.proofs.Laws.Message.Quality.{report_unannounced, report_full, report-done, pong_full, pong_done}
use Rattle.endpoint.proofs.Laws.Message.Bodies.{Does, sync_requested, quality_reported, quality_replied, kept_alive_lem}

-- r: whether an interruption ends, n: how many events there are, f: whether that cannot be announced
module _ (e : Endpoint) (from : ℕ) (m : Message) (p : List ℕ) (now epoch nonce : ℕ) (buffer : List ℕ) (good : bad_clock now || bad_clock epoch ≡ false)
    (heeded : ignored_by e.sync.phase e.setup.peer_addr e.sync.remote_magic from m.magic ≡ false)
    (r : Bool) (er : r ≡ (is_running e.sync.phase && e.flags.disconnect_notify_sent)) (n : ℕ) (en : n ≡ length (held_events e.events))
    (f : Bool) (ef : f ≡ (r && leb 640 n)) (y : Result Reacted Refusal) (b' : List ℕ)
    (ey : ReactedAs m.body f e.quality e.clocks now epoch e.setup.magic buffer e.queued y b') where
  abbrev Ends : Endpoint → Answered → Type 0
  Ends n a = DidAs e (Does e from m p now epoch nonce buffer) buffer (record { answer = a; endpoint = n }) b'

  abbrev Unheard : Ears
  Unheard = heard_with e now r er n en f ef false e.events

  -- it is of none of the other kinds
  abbrev Other : MessageBody → Type 0
  Other b = (kind_of b ≡ 1 → ⊥) × (kind_of b ≡ 2 → ⊥) × (kind_of b ≡ 3 → ⊥) × (kind_of b ≡ 6 → ⊥)

  -- a refusal of what is only noted is for what it announces
  refuses_full : (g : Bool) (x : Reacted) (z : Refusal) → ◌≡◌ {A = Result Reacted Refusal} (Err z) (pick g (Err Full) (Ok x)) → (g ≡ true) × (z ≡ Full)
  refuses_full true x z h = (refl, cc)
  refuses_full false x z h = cc

  done_roomy : (g : Bool) (x z : Reacted) → ◌≡◌ {A = Result Reacted Refusal} (Ok z) (pick g (Err Full) (Ok x)) → (g ≡ false) × (z ≡ x)
  done_roomy true x z h = cc
  done_roomy false x z h = (refl, cc)

  refuses : (b : MessageBody) (g : Bool) (z : Refusal) → f ≡ g → m.body ≡ b → y ≡ Err z → Other b → Ends e (Err z)
  refuses (SyncRequest asked) true z h eb ez _ =
      let u = (ey.sync_request asked eb).unqueued h in
      let full : z ≡ Full = let t : ◌≡◌ {A = Result Reacted Refusal} (Err z) (Err Full) = sym ez ∙ u.0 in cc in
      rw (full, u.1) (sync_requested e from m p now epoch nonce buffer good heeded _ asked buffer eb (request_unannounced e buffer now asked Unheard (ears_full e now r er n en f ef h) refl))
  refuses (SyncRequest asked) false z h eb ez _ =
      sync_requested e from m p now epoch nonce buffer good heeded _ asked b' eb (request_full e buffer now asked z b' (rw ez at ((ey.sync_request asked eb).queued h)))
  refuses (QualityReport advantage ping) true z h eb ez _ =
      let u = (ey.quality_report advantage ping eb).unqueued h in
      let full : z ≡ Full = let t : ◌≡◌ {A = Result Reacted Refusal} (Err z) (Err Full) = sym ez ∙ u.0 in cc in
      rw (full, u.1) (quality_reported e from m p now epoch nonce buffer good heeded _ advantage ping buffer eb
      (report_unannounced e now Unheard (ears_full e now r er n en f ef h) buffer advantage ping refl))
  refuses (QualityReport advantage ping) false z h eb ez _ =
      quality_reported e from m p now epoch nonce buffer good heeded _ advantage ping b' eb
      (report_full e now buffer advantage ping z b' (rw ez at ((ey.quality_report advantage ping eb).queued h)))
  refuses (QualityReply pong) g z h eb ez _ =
      let u = ey.quality_reply pong eb in
      let k = refuses_full f _ z (sym ez ∙ u.noted) in
      rw (k.1, u.lent) (quality_replied e from m p now epoch nonce buffer good heeded _ pong eb
      (pong_full e now Unheard (ears_full e now r er n en f ef k.0) epoch pong refl))
  refuses KeepAlive g z h eb ez _ =
      let u = ey.keep_alive eb in
      let k = refuses_full f _ z (sym ez ∙ u.noted) in
      rw (k.1, u.lent) (kept_alive_lem e from m p now epoch nonce buffer good heeded _ eb (only_full e now Unheard refl (ears_full e now r er n en f ef k.0)))
  refuses (SyncReply reply) g z h eb ez o = absurd (o.0 (kind_sync_reply reply))
  refuses (Input d s a) g z h eb ez o = absurd (o.1 (kind_input d s a))
  refuses (InputAck a) g z h eb ez o = absurd (o.2 (kind_input_ack a))
  refuses (ChecksumReport c i) g z h eb ez o = absurd (o.3 (kind_checksum_report c i))

  pub react_refused : (z : Refusal) → y ≡ Err z → Other m.body → Ends e (Err z)
  react_refused z k o = refuses m.body f z refl refl k o

  module _ (x : Reacted) (ex : y ≡ Ok x) where
    roomy : (b : MessageBody) (g : Bool) → f ≡ g → m.body ≡ b → Other b → f ≡ false
    roomy b false h eb _ = h
    roomy (SyncRequest asked) true h eb _ = let u : ◌≡◌ {A = Result Reacted Refusal} (Ok x) (Err Full) = sym ex ∙ ((ey.sync_request asked eb).unqueued h).0 in cc
    roomy (QualityReport advantage ping) true h eb _ = let u : ◌≡◌ {A = Result Reacted Refusal} (Ok x) (Err Full) = sym ex ∙ ((ey.quality_report advantage ping eb).unqueued h).0 in cc
    roomy (QualityReply pong) true h eb _ = (done_roomy f _ x (sym ex ∙ (ey.quality_reply pong eb).noted)).0
    roomy KeepAlive true h eb _ = (done_roomy f _ x (sym ex ∙ (ey.keep_alive eb).noted)).0
    roomy (SyncReply reply) true h eb o = absurd (o.0 (kind_sync_reply reply))
    roomy (Input d s a) true h eb o = absurd (o.1 (kind_input d s a))
    roomy (InputAck a) true h eb o = absurd (o.2 (kind_input_ack a))
    roomy (ChecksumReport c i) true h eb o = absurd (o.3 (kind_checksum_report c i))

    pub react_roomy : Other m.body → f ≡ false
    react_roomy o = roomy m.body f refl refl o

    -- events: the events with what is announced
    module _ (events : Events) (eh : HeardAs e (heard now (seen e)) (heard_with e now r er n en f ef true events)) (room : f ≡ false) where
      abbrev Reacts : Endpoint
      Reacts = remade e e.pending e.acked e.history e.sync e.nonces (heard_at now x.clocks) (resumed_flags r e.flags) x.quality e.statuses e.checksums events x.end

      abbrev Heard : Ears
      Heard = heard_with e now r er n en f ef true events

      does : (b : MessageBody) → m.body ≡ b → Other b → Ends Reacts (Ok tt)
      does (SyncRequest asked) eb _ =
          let s = rw ex at ((ey.sync_request asked eb).queued room) in
          sync_requested e from m p now epoch nonce buffer good heeded _ asked b' eb
          (rw (s.1, s.2) (request-done e buffer now asked Heard eh x.end b' s.0 (sent_at now (heard_at now e.clocks)) refl refl))
      does (QualityReport advantage ping) eb _ =
          let s = rw ex at ((ey.quality_report advantage ping eb).queued room) in
          quality_reported e from m p now epoch nonce buffer good heeded _ advantage ping b' eb
          (rw (s.1, s.2)
          (report-done e now Heard eh buffer advantage ping x.end b' s.0 (sent_at now (heard_at now e.clocks)) (remote_set advantage e.quality) refl refl refl))
      does (QualityReply pong) eb _ =
          let s = ey.quality_reply pong eb in
          rw s.lent (quality_replied e from m p now epoch nonce buffer good heeded _ pong eb
          (rw ((done_roomy f _ x (sym ex ∙ s.noted)).1) (pong_done e now Heard eh epoch pong (trip_noted (round_trip epoch pong.low pong.high) e.quality) refl refl)))
      does KeepAlive eb _ =
          let s = ey.keep_alive eb in
          rw s.lent (kept_alive_lem e from m p now epoch nonce buffer good heeded _ eb (rw ((done_roomy f _ x (sym ex ∙ s.noted)).1) (only_heard e now Heard refl eh)))
      does (SyncReply reply) eb o = absurd (o.0 (kind_sync_reply reply))
      does (Input d s a) eb o = absurd (o.1 (kind_input d s a))
      does (InputAck a) eb o = absurd (o.2 (kind_input_ack a))
      does (ChecksumReport c i) eb o = absurd (o.3 (kind_checksum_report c i))

      pub react_done : Other m.body → Ends Reacts (Ok tt)
      react_done o = does m.body refl o
