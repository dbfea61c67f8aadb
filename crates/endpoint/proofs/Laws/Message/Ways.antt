-- The ways out of `message` that are no Input's, and the end of a message that falls through: by what the calls in them gave.
use Rattle.std.specs.Prelude.{Result, Ok, Err}
use Rattle.answer.specs.declared.Refusal.{Refusal}
use borrow.Author.Tests.{ltb-true, ltb-false, lt-ltb, le-ltb}
use mathlib.Core.Bool.{Bool, true, false, ◌&&◌, ◌||◌}
use mathlib.Core.List.{List, [], ◌∷◌}
use mathlib.Core.Path.{◌≡◌, refl, sym, ◌∙◌}
use native.Mathlib.Omega.{arith}
use Prim.Native.Nat.{ℕ, ◌-◌, ◌<◌, ◌≤◌}
use lib.Dec.{ltb, leb}
use lib.ListN.{length}
use Rattle.answer.specs.Number.{Answered, done}
use Rattle.answer.specs.declared.Refusal.TheVariants.{Full, Overflow}
use Rattle.codec.specs.Message.{report_list, kind_of}
use Rattle.codec.specs.declared.Wide.{Wide}
use Rattle.codec.specs.declared.Message.{Message}
use Rattle.codec.specs.declared.MessageBody.TheVariants.{SyncReply, Input, InputAck, ChecksumReport}
use Rattle.nonces.specs.declared.Nonces.{Nonces}
use Rattle.nonces.specs.Nonces.{outstanding, is_outstanding, spent, issued, renewed, SpentAs}
use Rattle.setup.specs.Setup.{interval_of}
use Rattle.timers.specs.declared.Clocks.{Clocks}
use Rattle.timers.specs.Timers.{bad_clock, heard_at}
use Rattle.packing.specs.declared.input_bytes.InputBytes.{InputBytes}
use Rattle.pending.specs.declared.Pending.{Pending}
use Rattle.pending.specs.Pending.{DroppedAs}
use Rattle.checksums.specs.declared.Checksums.{Checksums}
use Rattle.checksums.specs.Report.{ReportedAs}
use Rattle.events.specs.declared.Entry.{Entry}
use Rattle.events.specs.declared.Events.{Events}
use Rattle.events.specs.declared.Event.TheVariants as Event
use Rattle.events.specs.Events.{held_events, has_room, without_input, PushedAs}
use Rattle.endpoint_rules.specs.declared.Phase.TheVariants.{Synchronizing, Running}
use Rattle.endpoint_rules.specs.Seen.{is_synchronizing, is_running}
use Rattle.endpoint_rules.specs.Handshake.{plainly}
use Rattle.endpoint_rules.specs.Checksum.{checksum_of, on_checksum_report}
use Rattle.endpoint_rules.specs.Step.{ignored_by, heard, reacted}
use Rattle.endpoint.specs.declared.Endpoint.{Endpoint}
use Rattle.endpoint.specs.declared.Ended.{Ended}
use Rattle.endpoint.specs.declared.message.packet.Opened.{Opened}
use Rattle.endpoint.specs.declared.message.reaction.Reacted.{Reacted}
use Rattle.endpoint.specs.Endpoint.{seen, DidAs, DoneAs}
use Rattle.endpoint.specs.Inside.Handshake.{progress_of, RequestedAs}
use Rattle.endpoint.specs.Inside.Hearing.{resumed_flags}
use Rattle.endpoint.specs.Inside.Packet.{OpenedAs}
use Rattle.endpoint.specs.Inside.Reaction.{ReactedAs}
use Rattle.endpoint.proofs.Laws.Message.Hearing.{Ears, HeardAs, heard_with, ears_full, ears_quiet, ears_announced}
use Rattle.base.specs.Pick.{pick}
use Rattle.endpoint.proofs.Laws.Room.{room_known, crowd_known}
use Rattle.endpoint.proofs.Laws.Ends.{remade}
use Rattle.endpoint.proofs.Laws.Message.Quiet.{only_full, only_heard}
use Rattle.endpoint.proofs.Laws.Message.InputAck.{ack_full, ack_done, dropped_sent}
use Rattle.endpoint.proofs.Laws.Message.InputWays.{input-discarded}
use Rattle.endpoint.proofs.Laws.Message.ChecksumReport.{Overflows, Fills, checksum_overflows, checksum_choked, checksum_unannounced, checksum_done}
use Rattle.endpoint.proofs.Laws.Message.SyncReply.{Counting, early_unannounced, early_choked, early_done, last_unannounced, last_done, uncounted, reply_early, reply_last}
use Rattle.endpoint.proofs.Laws.Message.Reaction.{react_refused, react_roomy, react_done}
use Rattle.endpoint.proofs.Laws.Message.Bodies.{Does, sync_replied, input_came, acknowledged, checksum_reported}

module _ (e : Endpoint) (from : ℕ) (m : Message) (p : List ℕ) (now epoch nonce : ℕ) (buffer : List ℕ) (good : bad_clock now || bad_clock epoch ≡ false)
    (heeded : ignored_by e.sync.phase e.setup.peer_addr e.sync.remote_magic from m.magic ≡ false) where
  abbrev Arrives : Ended → List ℕ → Type 0
  Arrives x b' = DidAs e (Does e from m p now epoch nonce buffer) buffer x b'

  abbrev Ends : Endpoint → Answered → List ℕ → Type 0
  Ends n a b' = Arrives (record { answer = a; endpoint = n }) b'

  -- nothing but that it is heard
  abbrev OnlyHeard : Type 0
  OnlyHeard = (x : Ended) → DoneAs e (reacted 0 (seen e) (plainly (heard now (seen e)))) x → Arrives x buffer

  -- a SyncReply
  module _ (reply : ℕ) (eb : m.body ≡ SyncReply reply) where
    -- that does not count
    pub reply_passes : is_synchronizing e.sync.phase && is_outstanding reply (outstanding e.nonces) ≡ false → OnlyHeard
    reply_passes h x d = sync_replied e from m p now epoch nonce buffer good heeded x reply buffer eb (uncounted e now nonce m.magic reply buffer x d h)

    -- that does; l: how many replies are to come, v: the nonces without its own, and with the next one where l is not 0
    module _ (phase : e.sync.phase ≡ Synchronizing) (l : ℕ) (el : l ≡ e.sync.remaining - 1) (y : Bool) (v : Nonces) (ey : SpentAs e.nonces reply (ltb 0 l) nonce y v) (counts : y ≡ true) where
      outstood : is_outstanding reply (outstanding e.nonces) ≡ true
      outstood = sym ey.found ∙ counts

      early : 1 < e.sync.remaining → (x : Ended) (b' : List ℕ)
          → DidAs e (reacted (length buffer) (seen e) (Counting e now nonce m.magic reply true)) buffer x b' → Arrives x b'
      early more x b' d =
          sync_replied e from m p now epoch nonce buffer good heeded x reply b' eb (reply_early e now nonce m.magic reply buffer phase outstood more x b' d)

      last : e.sync.remaining ≤ 1 → (x : Ended) → DoneAs e (reacted 0 (seen e) (Counting e now nonce m.magic reply false)) x → Arrives x buffer
      last one x d =
          sync_replied e from m p now epoch nonce buffer good heeded x reply buffer eb (reply_last e now nonce m.magic reply buffer phase outstood one x d)

      unannounced : (more : Bool) → ltb 1 e.sync.remaining ≡ more → has_room (held_events e.events) 1 ≡ false → Ends e (Err Full) buffer
      unannounced true h k = early (ltb-true 1 e.sync.remaining h) _ buffer (early_unannounced e now nonce m.magic reply k buffer)
      unannounced false h k = last (ltb-false 1 e.sync.remaining h) _ (last_unannounced e now nonce m.magic reply k)

      next-issued : 0 < l → outstanding v ≡ issued nonce (spent reply (outstanding e.nonces))
      unfolding renewed
      next-issued more = ey.view ∙ rw (outstood, lt-ltb 0 l more)

      none_issued : l ≤ 0 → outstanding v ≡ spent reply (outstanding e.nonces)
      unfolding renewed
      none_issued none = ey.view ∙ rw (outstood, le-ltb 0 l none)

      -- x: what is announced of it, t: the events with it
      module _ (x : Entry) (t : Events) where
        pub reply_crowded : (z : Refusal) → PushedAs e.events (has_room (held_events e.events) 1) (x ∷ []) (Err z) t → Ends e (Err z) buffer
        reply_crowded z h =
            let k = crowd_known _ (Err z) z h.answer refl in
            rw k.1 (unannounced (ltb 1 e.sync.remaining) refl k.0)

        -- s: the endpoint after the request of one with more to come
        module _ (more : 0 < l) (s : Endpoint) (b' : List ℕ) where
          pub reply_choked : (r : Refusal) → RequestedAs e now nonce buffer (Err r) s b' → Ends s (Err r) b'
          reply_choked r h = early (omega (arith, more, el)) _ b' (early_choked e now nonce m.magic reply l el buffer s b' r h)

        module _ (ex : x ≡ without_input (progress_of l)) (et : PushedAs e.events (has_room (held_events e.events) 1) (x ∷ []) (Ok tt) t) where
          -- an endpoint that has counted it, up to what is announced and heard of it
          abbrev pub Counted : Endpoint → List ℕ → Type 0
          Counted s b' = (c : Clocks) → c ≡ heard_at now s.clocks
              → Ends (remade s s.pending s.acked s.history s.sync v c s.flags s.quality s.statuses s.checksums t s.queued) (Ok tt) b'

          room : has_room (held_events e.events) 1 ≡ true
          room = room_known _ (Ok tt) et.answer refl

          pub counted_more : 0 < l → (s : Endpoint) (b' : List ℕ) → RequestedAs e now nonce buffer (Ok tt) s b'
              → Counted (remade s s.pending s.acked s.history (record { phase = s.sync.phase; remaining = l; remote_magic = s.sync.remote_magic }) s.nonces s.clocks s.flags s.quality s.statuses s.checksums s.events s.queued) b'
          counted_more more s b' h c ec =
              early (omega (arith, more, el)) _ b'
              (early_done e now nonce m.magic reply l el buffer s b' h v (next-issued more) (Ok tt) t room (rw (ex, lt-ltb 0 l more) at et) c ec)

          pub counted_last : l ≤ 0
              → Counted (remade e e.pending e.acked e.history (record { phase = Running; remaining = l; remote_magic = m.magic }) e.nonces e.clocks e.flags e.quality e.statuses e.checksums e.events e.queued) buffer
          counted_last none c ec =
              last (omega (arith, none, el)) _
              (last_done e now nonce m.magic reply l el v (none_issued none) c (Ok tt) t room ec (rw (ex, le-ltb 0 l none) at et))

  -- an Input that is discarded
  pub input_passes : (d : Bool) (start ack : ℕ) → m.body ≡ Input d start ack → (o : Opened) → OpenedAs e.history e.setup d start m.reports.count (length p) o
      → o.discarded ≡ true → OnlyHeard
  input_passes d start ack eb o eo h x dx =
      input_came e from m p now epoch nonce buffer good heeded x d start ack buffer eb
      (input-discarded e buffer now m.reports.count ack start d (report_list m.reports) p o.discarded eo.discarded h x dx)

  -- r: whether an interruption ends, n: how many events there are, f: whether that cannot be announced
  module _ (r : Bool) (er : r ≡ (is_running e.sync.phase && e.flags.disconnect_notify_sent)) (n : ℕ) (en : n ≡ length (held_events e.events)) (f : Bool) (ef : f ≡ (r && leb 640 n)) where
    abbrev Unheard : Ears
    Unheard = heard_with e now r er n en f ef false e.events

    pub only_crowded : OnlyHeard → f ≡ true → Ends e (Err Full) buffer
    only_crowded by h = by _ (only_full e now Unheard refl (ears_full e now r er n en f ef h))

    pub ack_crowded : (ack : ℕ) → m.body ≡ InputAck ack → f ≡ true → Ends e (Err Full) buffer
    ack_crowded ack eb h = acknowledged e from m p now epoch nonce buffer good heeded _ ack eb (ack_full e ack now Unheard (ears_full e now r er n en f ef h) refl)

    -- as a message leaves it that falls through with s, where t is announced
    abbrev pub Ending : Endpoint → Events → Endpoint
    Ending s t =
        remade s s.pending s.acked s.history s.sync s.nonces (heard_at now s.clocks) (resumed_flags r s.flags) s.quality s.statuses s.checksums t s.queued

    abbrev Hearing : Events → Type 0
    Hearing t = HeardAs e (heard now (seen e)) (heard_with e now r er n en f ef true t)

    -- s: as the match leaves it
    pub record Left (s : Endpoint) (b' : List ℕ) : Type 0 where
      pub room : f ≡ false
      pub events : s.events ≡ e.events
      pub ends : (t : Events) → Hearing t → Ends (Ending s t) (Ok tt) b'

    pub only_left : OnlyHeard → f ≡ false → Left e buffer
    only_left by h = record { room = h; events = refl; ends = λ t k. by _ (only_heard e now (heard_with e now r er n en f ef true t) refl k) }

    pub ack_left : (ack : ℕ) → m.body ≡ InputAck ack → f ≡ false → (last : InputBytes) (new : Pending) → DroppedAs e.pending ack e.acked last new
        → Left (remade e new last e.history e.sync e.nonces e.clocks e.flags e.quality e.statuses e.checksums e.events e.queued) buffer
    ack_left ack eb h last new ed =
        record {
          room = h;
          events = refl;
          ends = λ t k.
              acknowledged e from m p now epoch nonce buffer good heeded _ ack eb
              (ack_done e ack now (heard_with e now r er n en f ef true t) k new last refl (dropped_sent e.pending e.acked ack last new ed));
        }

    -- a ChecksumReport; i: the interval, v: the store with it
    module _ (checksum : Wide) (frame : ℕ) (eb : m.body ≡ ChecksumReport checksum frame) (i : ℕ) (ei : i ≡ interval_of e.setup.choices.desync_detection) (y : Answered) (v : Checksums)
        (ey : ReportedAs e.checksums (checksum_of frame checksum) i e.setup.choices.firm_checksums y v) where
      abbrev Overflowing : Bool
      Overflowing = Overflows e checksum frame now i ei y v ey

      abbrev Filled : Bool
      Filled = Fills e checksum frame now i ei y v ey

      reported : (z : Answered) → DoneAs e (reacted 0 (seen e) (on_checksum_report frame checksum (heard now (seen e)))) (record { answer = z; endpoint = e }) → Ends e z buffer
      reported z h = checksum_reported e from m p now epoch nonce buffer good heeded _ checksum frame eb h

      pub report-refused : (z : Refusal) → y ≡ Err z → Ends e (Err z) buffer
      report-refused z h = go Overflowing refl Filled refl (sym h ∙ ey.answer)
        where
          go : (o : Bool) → Overflowing ≡ o → (f : Bool) → Filled ≡ f → ◌≡◌ {A = Answered} (Err z) (pick o (Err Overflow) (pick f (Err Full) done)) → Ends e (Err z) buffer
          go true eo f ef k = let is : z ≡ Overflow = cc in rw is (reported (Err Overflow) (checksum_overflows e checksum frame now i ei y v ey eo))
          go false eo true ef k = let is : z ≡ Full = cc in rw is (reported (Err Full) (checksum_choked e checksum frame now i ei y v ey eo ef))
          go false eo false ef k = cc

      -- reported, where its event may have no room
      module _ (ok : y ≡ done) where
        within : (Overflowing ≡ false) × (Filled ≡ false)
        within = go Overflowing refl Filled refl (sym ok ∙ ey.answer)
          where
            go : (o : Bool) → Overflowing ≡ o → (f : Bool) → Filled ≡ f → ◌≡◌ {A = Answered} done (pick o (Err Overflow) (pick f (Err Full) done)) → (Overflowing ≡ false) × (Filled ≡ false)
            go true eo f ef k = cc
            go false eo true ef k = cc
            go false eo false ef k = (eo, ef)

        pub report_crowded : f ≡ true → Ends e (Err Full) buffer
        report_crowded h = reported (Err Full) (checksum_unannounced e checksum frame now i ei y v ey within.0 Unheard (ears_full e now r er n en f ef h) refl)

        pub report_left : f ≡ false → Left (remade e e.pending e.acked e.history e.sync e.nonces e.clocks e.flags e.quality e.statuses v e.events e.queued) buffer
        report_left h =
            record {
              room = h;
              events = refl;
              ends = λ t k.
                  checksum_reported e from m p now epoch nonce buffer good heeded _ checksum frame eb
                  (checksum_done e checksum frame now i ei y v ey within.0 (heard_with e now r er n en f ef true t) k within.1 refl);
            }

      -- w: the report and its event, weighed
      module _ (w : Answered) (overflows : y ≡ Err Overflow → w ≡ Err Overflow) (fills : y ≡ Err Full → w ≡ Err Full) (fits : y ≡ done → w ≡ pick f (Err Full) (Ok tt)) where
        pub weighed_refused : (z : Refusal) → w ≡ Err z → Ends e (Err z) buffer
        weighed_refused z h = go Overflowing Filled f refl ey.answer
          where
            go : (o g b : Bool) → f ≡ b → y ≡ pick o (Err Overflow) (pick g (Err Full) done) → Ends e (Err z) buffer
            go true g b q k = let is : z ≡ Overflow = (let s : ◌≡◌ {A = Answered} (Err z) (Err Overflow) = sym h ∙ overflows k in cc) in rw is (report-refused Overflow k)
            go false true b q k = let is : z ≡ Full = (let s : ◌≡◌ {A = Answered} (Err z) (Err Full) = sym h ∙ fills k in cc) in rw is (report-refused Full k)
            go false false true q k = let is : z ≡ Full = (let s : ◌≡◌ {A = Answered} (Err z) (Err Full) = sym h ∙ rw q at fits k in cc) in rw is (report_crowded k q)
            go false false false q k = let s : ◌≡◌ {A = Answered} (Err z) (Ok tt) = sym h ∙ rw q at fits k in cc

        pub weighed_left : w ≡ Ok tt → Left (remade e e.pending e.acked e.history e.sync e.nonces e.clocks e.flags e.quality e.statuses v e.events e.queued) buffer
        weighed_left h = go Overflowing Filled f refl ey.answer
          where
            go : (o g b : Bool) → f ≡ b → y ≡ pick o (Err Overflow) (pick g (Err Full) done)
                → Left (remade e e.pending e.acked e.history e.sync e.nonces e.clocks e.flags e.quality e.statuses v e.events e.queued) buffer
            go true g b q k = let s : ◌≡◌ {A = Answered} (Ok tt) (Err Overflow) = sym h ∙ overflows k in cc
            go false true b q k = let s : ◌≡◌ {A = Answered} (Ok tt) (Err Full) = sym h ∙ fills k in cc
            go false false true q k = let s : ◌≡◌ {A = Answered} (Ok tt) (Err Full) = sym h ∙ rw q at fits k in cc
            go false false false q k = report_left k q

    -- one of the other kinds; k: its kind's number
    module _ (y : Result Reacted Refusal) (b' : List ℕ) (ey : ReactedAs m.body f e.quality e.clocks now epoch e.setup.magic buffer e.queued y b') (k : ℕ)
        (ek : k ≡ kind_of m.body) (others : (k ≡ 1 → ⊥) × (k ≡ 2 → ⊥) × (k ≡ 3 → ⊥) × (k ≡ 6 → ⊥)) where
      none : (kind_of m.body ≡ 1 → ⊥) × (kind_of m.body ≡ 2 → ⊥) × (kind_of m.body ≡ 3 → ⊥) × (kind_of m.body ≡ 6 → ⊥)
      none = (λ z. others.0 (ek ∙ z), λ z. others.1 (ek ∙ z), λ z. others.2 (ek ∙ z), λ z. others.3 (ek ∙ z))

      pub react_refuses : (z : Refusal) → y ≡ Err z → Ends e (Err z) b'
      react_refuses z h = react_refused e from m p now epoch nonce buffer good heeded r er n en f ef y b' ey z h none

      pub react_left : (x : Reacted) → y ≡ Ok x
          → Left (remade e e.pending e.acked e.history e.sync e.nonces x.clocks e.flags x.quality e.statuses e.checksums e.events x.end) b'
      react_left x h =
          let room : f ≡ false = react_roomy e from m p now epoch nonce buffer good heeded r er n en f ef y b' ey x h none in
          record {
            room = room;
            events = refl;
            ends = λ t k. react_done e from m p now epoch nonce buffer good heeded r er n en f ef y b' ey x h t k room none;
          }

    -- the end, by whether an interruption ends
    module _ (s : Endpoint) (b' : List ℕ) (l : Left s b') (c : Clocks) (ec : c ≡ heard_at now s.clocks) where
      pub ends_quiet : r ≡ false → length e.events.entries.list ≡ 640
          → Ends (remade s s.pending s.acked s.history s.sync s.nonces c s.flags s.quality s.statuses s.checksums s.events s.queued) (Ok tt) b'
      ends_quiet h k = rw ec (rw h at (l.ends s.events (rw l.events (ears_quiet e now r er n en f ef h k))))

      pub ends_announced : r ≡ true → (x : Entry) → x ≡ without_input Event.NetworkResumed → (a : Answered) (t : Events) → PushedAs s.events (has_room (held_events s.events) 1) (x ∷ []) a t
          → Ends (remade s s.pending s.acked s.history s.sync s.nonces c (resumed_flags true s.flags) s.quality s.statuses s.checksums t s.queued) (Ok tt) b'
      ends_announced h x ex a t et = rw ec (rw h at (l.ends t (ears_announced e now r er n en f ef l.room h x ex a t (rw l.events at et))))
