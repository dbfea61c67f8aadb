-- The ways out of a message that is an Input, from what the steps over its packet give.
use Rattle.std.specs.Prelude.{Result, Ok, Err}
use borrow.Author.Tests.{ltb-false}
use mathlib.Core.Bool.{Bool, true, false, ◌&&◌, ◌||◌}
use mathlib.Core.List.{List, [], ◌++◌, append-nil}
use mathlib.Core.Path.{◌≡◌, refl, sym, ◌∙◌}
use Prim.Native.Nat.{ℕ, ◌+◌, ◌^◌, ◌≤◌, ◌<◌}
use lib.ListN.{length, take, drop}
use Rattle.base.specs.Pick.{pick}
use Rattle.base.proofs.Bools.{both as both_true}
use Rattle.answer.specs.Number.{Answered}
use Rattle.answer.specs.declared.Refusal.TheVariants.{Full, TooLong, Overflow}
use Rattle.packing.specs.Packing.{frame_count, frames_of}
use Rattle.history.specs.declared.History.{History}
use Rattle.history.specs.History.{received, newest_of, packet_of, taken_in, taken_above}
use Rattle.history.proofs.TakenIn.{taken_known}
use Rattle.codec.specs.declared.Message.{Message}
use Rattle.codec.specs.declared.StatusReport.{StatusReport}
use Rattle.codec.specs.declared.MessageBody.TheVariants.{Input, InputAck}
use Rattle.codec.specs.Message.{report_list, meant}
use Rattle.codec.specs.Read.{body_only}
use Rattle.timers.specs.declared.Clocks.{Clocks}
use Rattle.timers.specs.Timers.{bad_clock, input_at, sent_at}
use Rattle.setup.specs.Setup.{terms_of, receiving_width, handle_list}
use Rattle.packing.specs.declared.input_bytes.InputBytes.{InputBytes}
use Rattle.pending.specs.declared.Pending.{Pending}
use Rattle.events.specs.declared.Entry.{Entry}
use Rattle.events.specs.declared.Events.{Events}
use Rattle.events.specs.Events.{held_events, has_room, ahead, announced_all, packet_fits, PushedAs}
use Rattle.std.specs.Result.{result_unwrap_or}
use Rattle.answer.specs.declared.Refusal.{Refusal}
use Rattle.outbox.specs.Outbox.{QueuedAs}
use Rattle.endpoint_rules.specs.Call.{Call}
use Rattle.endpoint_rules.specs.Did.{change}
use Rattle.endpoint_rules.specs.Room.{buffer_full}
use Rattle.endpoint_rules.specs.Handshake.{plainly}
use Rattle.endpoint_rules.specs.Sending.{dropped_to, acknowledged}
use Rattle.endpoint_rules.specs.Receiving.{input_message, received_if, informed, inputs_received, input_taken, on_input}
use Rattle.endpoint_rules.specs.Step.{ignored_by, heard, reacted, step}
use Rattle.endpoint.specs.declared.Endpoint.{Endpoint}
use Rattle.endpoint.specs.declared.Ended.{Ended}
use Rattle.endpoint.specs.declared.message.informing.Informed.{Informed}
use Rattle.endpoint.specs.declared.message.packet.Opened.{Opened}
use Rattle.endpoint.specs.declared.message.packet.News.{News as Fresh}
use Rattle.endpoint.specs.Endpoint.{seen, DidAs, DoneAs}
use Rattle.endpoint.specs.Inside.Admission.{WeighedAs}
use Rattle.endpoint.specs.Inside.Informing.{InformedAs}
use Rattle.endpoint.specs.Inside.Packet.{news, NewsIf, found_of, OpenedAs, Readable}
use Rattle.endpoint.specs.Inside.Sending.{sent}
use Rattle.endpoint.proofs.Laws.Message.InputAck.{Drops}
use Rattle.endpoint.proofs.Laws.Handshake.{false_true}
use Rattle.endpoint.proofs.Laws.Message.Admission.{let_in, kept_out}
use Rattle.endpoint.proofs.Laws.Queued.{queued_room}
use Rattle.endpoint.proofs.Laws.Room.{crowd_known}
use Rattle.endpoint.proofs.Laws.Ends.{remade}
use Rattle.endpoint.proofs.Laws.Announced.{with_events_of, AnnouncedAs, announced_all_lem}
use Rattle.endpoint.proofs.Laws.Message.Informing.{Brought, informs, informs_sender}
use Rattle.endpoint.proofs.Laws.Message.Packet.{announced-news, nothing_pushed}
use Rattle.endpoint.proofs.Laws.Message.InputTaken.{unreadable_full, unreadable_done, readable_unannounced, readable_full, readable_done}
use Rattle.endpoint.proofs.Laws.Message.InputWays.{not_negative, readable, input_long, input-overflows, input_unreadable, input_readable}
use Rattle.endpoint.proofs.Laws.Message.Bodies.{input_came}

second_false : (x y : Bool) → (x && y) ≡ false → x ≡ true → y ≡ false
second_false true y h t = h
second_false false y h t = cc

-- d: whether a disconnect is requested, o: the packet as it was opened, x: what it informs of
module _ (e : Endpoint) (from : ℕ) (m : Message) (p : List ℕ) (now epoch nonce : ℕ) (buffer : List ℕ) (good : bad_clock now || bad_clock epoch ≡ false)
    (heeded : ignored_by e.sync.phase e.setup.peer_addr e.sync.remote_magic from m.magic ≡ false) (d : Bool) (start ack : ℕ) (body : m.body ≡ Input d start ack) (o : Opened)
    (opened : OpenedAs e.history e.setup d start m.reports.count (length p) o) (kept : o.discarded ≡ false) (x : Informed)
    (ix : InformedAs e.sync.phase e.clocks e.flags e.statuses d (report_list m.reports) now x) where
  abbrev pub Reference : InputBytes
  Reference = (found_of o).input

  abbrev Width : ℕ
  Width = receiving_width (terms_of e.setup)

  abbrev Reports : List StatusReport
  Reports = report_list m.reports

  abbrev Ends : Ended → List ℕ → Type 0
  Ends z b' = DidAs e (step (Call.message from m.reports.count (meant m p) now epoch nonce (length buffer)) (seen e)) buffer z b'

  comes : (z : Ended) (b' : List ℕ) → DidAs e (reacted (length buffer) (seen e) (on_input now m.reports.count (input_message d start ack Reports p) (heard now (seen e)))) buffer z b' → Ends z b'
  comes z b' = input_came e from m p now epoch nonce buffer good heeded z d start ack b' body

  brought : Brought (informed d Reports (change (acknowledged ack) (heard now (seen e)))) x
  brought = informs e now ack d Reports x ix

  -- refused before anything of it is announced
  abbrev Refused : Answered → Type 0
  Refused a = Ends (record { endpoint = e; answer = a }) buffer

  -- whether its InputAck has unable room
  abbrev Unanswered : Bool
  Unanswered = buffer_full (length buffer) e.queued (pick o.readable 10 0)

  too_long : o.too_long ≡ true → Refused (Err TooLong)
  too_long h = comes _ _ (input_long e buffer now m.reports.count ack start d Reports p o.discarded opened.discarded kept o.too_long opened.long h)

  module _ (short : o.too_long ≡ false) where
    overflowing : (o.readable && o.overflows) ≡ true → Refused (Err Overflow)
    overflowing h =
        let y = both_true o.readable o.overflows h in
        comes _ _ (input-overflows e buffer now m.reports.count ack start d Reports p o.discarded opened.discarded kept o.too_long opened.long short Width refl (found_of o) opened.found o.readable opened.readable y.0
        (frame_count Width (length p)) refl o.overflows opened.overflows y.1)

    module _ (fits : (o.readable && o.overflows) ≡ false) where
      -- inputs that cannot be read
      comes_unreadable : o.readable ≡ false → (z : Ended)
          → DoneAs e (reacted 0 (seen e) (plainly (inputs_received now (received_if (found_of o).held false 0 [] (seen e).carried.receiver) (informed d Reports (change (acknowledged ack) (heard now (seen e))))))) z → Ends z buffer
      comes_unreadable unable z h =
          comes _ _ (input_unreadable e buffer now m.reports.count ack start d Reports p o.discarded opened.discarded kept o.too_long opened.long short Width refl (found_of o) opened.found o.readable opened.readable unable z h)

      -- inputs that can
      module _ (able : o.readable ≡ true) where
        within : o.overflows ≡ false
        within = second_false o.readable o.overflows fits able

        numbered : (0 < start) × (start + frame_count Width (length p) ≤ 2 ^ 32)
        numbered = (
          not_negative e buffer now m.reports.count ack start d Reports p o.discarded opened.discarded kept,
          ltb-false (2 ^ 32) (start + frame_count Width (length p)) (sym opened.overflows ∙ within),
        )

        reads : Readable (seen e) start p Reference
        reads =
            readable e buffer now m.reports.count ack start d Reports p o.discarded opened.discarded kept o.too_long opened.long short Width refl (found_of o) opened.found o.readable opened.readable able
            (frame_count Width (length p)) refl o.overflows opened.overflows within

        comes_readable : (z : Ended) (b' : List ℕ)
            → DidAs e (reacted (length buffer) (seen e) (plainly (input_taken now (input_message d start ack Reports p) (heard now (seen e))))) buffer z b' → Ends z b'
        comes_readable z b' h =
            comes z b' (input_readable e buffer now m.reports.count ack start d Reports p o.discarded opened.discarded kept o.too_long opened.long short Width refl (found_of o) opened.found o.readable opened.readable able
            (frame_count Width (length p)) refl o.overflows opened.overflows within z b' h)

      unanswered : (b : Bool) → o.readable ≡ b → buffer_full (length buffer) e.queued (pick b 10 0) ≡ true → Refused (Err Full)
      unfolding buffer_full
      unanswered true able h = comes_readable able _ _ (readable_full e buffer now ack start d Reports p Reference (reads able) x brought h)
      unanswered false unable h = absurd (false_true h)

  -- refused by what is found of it
  pub packet_refused : (z : Refusal) → WeighedAs o.too_long (o.readable && o.overflows) Unanswered (Err z) → Ends (record { endpoint = e; answer = Err z }) buffer
  packet_refused z h =
      kept_out Refused o.too_long (o.readable && o.overflows) Unanswered too_long overflowing (λ short fits full. unanswered short fits o.readable refl full) z h

  -- let in
  module _ (weighed : WeighedAs o.too_long (o.readable && o.overflows) Unanswered (Ok tt)) where
    short : o.too_long ≡ false
    short = (let_in o.too_long (o.readable && o.overflows) Unanswered weighed).0

    fits : (o.readable && o.overflows) ≡ false
    fits = (let_in o.too_long (o.readable && o.overflows) Unanswered weighed).1

    spare : Unanswered ≡ false
    spare = (let_in o.too_long (o.readable && o.overflows) Unanswered weighed).2

    abbrev Ahead : List Entry
    Ahead = ahead x.resumes x.disconnects

    -- s: e after what is announced; it ends with these
    abbrev after : Endpoint → Pending → InputBytes → History → Clocks → ℕ → Ended
    after s pending acked h c queued =
        record { endpoint = remade s pending acked h s.sync s.nonces c x.flags s.quality x.statuses s.checksums s.events queued; answer = Ok tt }

    abbrev Noted : Clocks
    Noted = pick o.readable (sent_at now (input_at now x.clocks)) (pick (found_of o).held (input_at now x.clocks) x.clocks)

    -- w: the width
    module _ (w : ℕ) (ew : w ≡ Width) where
      pub packet_numbered : o.readable ≡ true → (0 < start) × (start + frame_count w (length p) ≤ 2 ^ 32)
      packet_numbered able = rw ew (numbered short fits able)

      abbrev News : List Entry
      News = news e.setup (newest_of (received e.history)) start Reference.bytes p

      abbrev pub More : List Entry
      More = Ahead ++ pick o.readable News []

      -- r: the frames above the newest
      module _ (wide : length Reference.bytes ≡ 64) (r : Fresh) (nr : NewsIf o.readable o.newest start w (length p) r) where
        module _ (a : Answered) (t : Events)
            (pushed : PushedAs e.events (packet_fits (held_events e.events ++ Ahead) r.first r.count (handle_list e.setup.handles))
            (Ahead ++ announced_all r.first e.setup.input_size (handle_list e.setup.handles) (frames_of w Reference.bytes r.count (drop r.at p))) a t) where
          announced : (b : Bool) → o.readable ≡ b → PushedAs e.events (has_room (held_events e.events) (length (Ahead ++ pick b News []))) (Ahead ++ pick b News []) a t
          announced true able =
              rw (← opened.newest)
              (announced-news e.setup o.newest start Reference.bytes p e.events Ahead w ew wide (packet_numbered able).1 r (nr.some able) a t pushed)
          announced false unable =
              nothing_pushed e.events Ahead e.setup.input_size w (handle_list e.setup.handles) Reference.bytes p a t (rw (nr.none unable) at pushed)

          unannounced : (b : Bool) → o.readable ≡ b → (z : Refusal) → a ≡ Err z → Refused (Err z)
          unannounced true able z k =
              let crowd = crowd_known _ a z (announced true able).answer k in
              rw crowd.1 (comes_readable short fits able _ _ (readable_unannounced e buffer now ack start d Reports p Reference (reads short fits able) x brought crowd.0))
          unannounced false unable z k =
              let crowd = crowd_known _ a z (announced false unable).answer k in
              rw crowd.1 (comes_unreadable short fits unable _ (unreadable_full e now ack d Reports (found_of o).held x (rw append-nil at crowd.0) brought))

          pub packet_unannounced : (z : Refusal) → a ≡ Err z → Refused (Err z)
          packet_unannounced = unannounced o.readable refl

          pub packet_announced : a ≡ Ok tt → (s : Endpoint) → s ≡ with_events_of e t → AnnouncedAs e More s
          packet_announced k s es = announced_all_lem e More s a t (announced o.readable refl) k es

      -- s: e after what is announced, t: after what is dropped too, c: its clocks
      module _ (s : Endpoint) (es : AnnouncedAs e More s) (t : Endpoint) (dt : Drops ack s t) (c : Clocks) (ec : c ≡ Noted) where
        left : sent dt.pending dt.acked ≡ dropped_to ack (sent e.pending e.acked)
        left = rw es.rest at dt.left

        pub packet_unread : o.readable ≡ false → Ends (after t t.pending t.acked t.history c t.queued) buffer
        packet_unread unable =
            rw dt.rest (rw es.rest
            (comes_unreadable short fits unable _ (unreadable_done e now ack d Reports (found_of o).held x es.events (rw (unable, append-nil) at es.room) (rw (unable, append-nil) at es.view) c dt.pending dt.acked (rw unable at ec) ix.statuses.1 (informs_sender e now ack d Reports _ left) brought)))

        pub packet_read : o.readable ≡ true → (h : History)
            → received h ≡ take 33 (taken_above o.newest t.setup.max_prediction (received t.history) (packet_of start w Reference.bytes p))
            → (newest : ℕ) → newest ≡ newest_of (received h) → (z : Result ℕ Refusal) (b' : List ℕ) → QueuedAs buffer t.queued (body_only t.setup.magic (InputAck newest)) z b'
            → (stop : ℕ) → stop ≡ result_unwrap_or z t.queued
            → Ends (after t t.pending t.acked h c stop) b'
        unfolding buffer_full
        packet_read able =
            rw dt.rest (rw es.rest (λ h eh newest en z b' queued stop es'.
            let taken : received h ≡ take 33 (taken_in e.setup.max_prediction (received e.history) (packet_of start Width Reference.bytes p)) =
            rw ew at (taken_known o.newest e.setup.max_prediction (received e.history) (received h) (packet_of start w Reference.bytes p) opened.newest eh) in
            let answered = queued_room buffer e.queued (body_only e.setup.magic (InputAck newest)) b' z e.queued queued (rw able at spare) in
            rw es' (comes_readable short fits able _ _ (readable_done e buffer now ack start d Reports p Reference (reads short fits able) x brought (rw able at spare) es.events (rw able at es.room) (rw able at es.view) h taken newest en (result_unwrap_or z e.queued) b' (rw answered at queued) c dt.pending dt.acked (rw able at ec) ix.statuses.1 (informs_sender e now ack d Reports _ left)))))
