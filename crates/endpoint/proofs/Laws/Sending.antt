-- The ways out of `send_input`.
use Rattle.std.specs.Prelude.{Ok, Err}
use borrow.Author.Tests.{not-false, eqb-true, lt-ltb, le-ltb, le-leb, lt-leb, eqb-false, eq-eqb, ne_eqb}
use mathlib.Core.Bool.{Bool, true, false, not, ◌||◌, ◌&&◌}
use mathlib.Core.List.{List, [], ◌∷◌, ◌++◌}
use mathlib.Core.Path.{◌≡◌, refl, ◌∙◌}
use Prim.Native.Nat.{ℕ, suc, ◌-◌, ◌≤◌, ◌<◌}
use lib.Dec.{leb, eqb}
use lib.ListN.{length, take, drop, replicate}
use lib.Seq.{take-length}
use Rattle.base.specs.Pick.{pick}
use Rattle.base.proofs.Bools.{neither}
use Rattle.answer.specs.Number.{Answered}
use Rattle.answer.specs.declared.Refusal.TheVariants.{BadLength, BadFrame, Full, BadClock}
use Rattle.packing.specs.Packing.{xors}
use Rattle.packing.specs.Pad.{padded}
use Rattle.packing.proofs.Pads.{padded_plain}
use Rattle.packing.specs.declared.input_bytes.InputBytes.{InputBytes}
use Rattle.pending.specs.Pending.{waiting, room, pushed, last_frame, PushedAs}
use Rattle.pending.specs.declared.Pending.{Pending}
use Rattle.history.specs.History.{received, newest_of}
use Rattle.status.specs.declared.ConnectionStatus.{ConnectionStatus}
use Rattle.status.specs.declared.list.Statuses.{Statuses}
use Rattle.status.specs.Statuses.{held_statuses}
use Rattle.events.specs.Events as Events
use Rattle.events.specs.Events.{held_events, has_room, without_input}
use Rattle.events.specs.declared.Entry.{Entry}
use Rattle.events.specs.declared.Event.TheVariants.{Disconnected}
use Rattle.events.specs.declared.Events.{Events as Queue}
use Rattle.events.proofs.Laws.{pushed_if}
use Rattle.setup.specs.Setup.{terms_of, terms_with, sending_width}
use Rattle.timers.specs.declared.Clocks.{Clocks}
use Rattle.timers.specs.Timers as Timers
use Rattle.timers.specs.Timers.{bad_clock}
use Rattle.codec.specs.Message.{Wire, table_size}
use Rattle.answer.specs.declared.Refusal.{Refusal}
use Rattle.outbox.specs.Outbox.{pending_input, QueuedAs}
use Rattle.endpoint_rules.specs.Seen.{Seen, is_running, sent_at}
use Rattle.endpoint_rules.specs.Did.{Did, Effect, refused, tested, begin, change, queue_wire, announce_event, done}
use Rattle.endpoint_rules.specs.Room.{is_full}
use Rattle.endpoint_rules.specs.Sending.{bad_statuses, bad_bytes, bad_after, bad_frame, accepted, announces_most, input_sent, pending_in, pending_queued, queue_pending}
use Rattle.endpoint_rules.specs.Call.{Call}
use Rattle.endpoint_rules.specs.Step.{step, send_step}
use Rattle.endpoint.specs.declared.Endpoint.{Endpoint}
use Rattle.endpoint.specs.declared.Ended.{Ended}
use Rattle.endpoint.specs.Endpoint.{seen, SameTerms, DidAs}
use Rattle.endpoint.proofs.Laws.Room.{room_known, crowd_known, crowded, roomy, full_events, full_buffer, room_one}
use Rattle.endpoint.proofs.Laws.Ends.{remade, refused_did, queued_did}
use Rattle.endpoint.proofs.Laws.Announced.{with_events_of, AnnouncedAs, announced_all_lem, announced_nothing}
use Rattle.endpoint.proofs.Laws.Settled.{did_settled}
use native.Mathlib.Omega.{arith}
use Rattle.frame.specs.Bias.{bias32}

-- what sending an input does
abbrev disconnection : Entry
disconnection = without_input Disconnected

abbrev announced_if : Bool → List Entry
announced_if b = pick b (disconnection ∷ []) []

abbrev announced_with : List InputBytes → List Entry
announced_with l = announced_if (leb 129 (length l))

-- s: e after what n pending inputs announce
abbrev pub Announcing : Endpoint → ℕ → Endpoint → Type 0
Announcing e n s = AnnouncedAs e (announced_if (leb 129 n)) s

module _ (e : Endpoint) (n : ℕ) where
  pub announces_one : (m : ℕ) → m ≡ length (held_events e.events) → (r : Answered) (t : Queue) → (leb 129 n && leb 640 m) ≡ false → leb 129 n ≡ true
      → Events.PushedAs e.events (has_room (held_events e.events) 1) (disconnection ∷ []) r t → (s : Endpoint) → s ≡ with_events_of e t → Announcing e n s
  announces_one m em r t h k et s es =
      announced_all_lem e _ s r t (pushed_if e.events (leb 129 n) disconnection r t k et) (roomy e.events disconnection m em (leb 129 n) r t h k et) es

  pub announces_none : leb 129 n ≡ false → has_room (held_events e.events) 0 ≡ true → (s : Endpoint) → s ≡ e → Announcing e n s
  announces_none k room s es = announced_nothing e _ s (rw k) room es

some_queued : (now : ℕ) (statuses : List ConnectionStatus) (l : List InputBytes) (x : InputBytes) (f : Effect)
    → pending_queued now statuses (l ++ x ∷ []) f ≡ queue_wire now (pending_in statuses f.state) f
unfolding pending_queued
some_queued now statuses [] x f = refl
some_queued now statuses (y ∷ l) x f = refl

module _ (now frame : ℕ) (bytes : List ℕ) (statuses : List ConnectionStatus) (s : Seen) where
  abbrev input : InputBytes
  input = record { frame = frame; bytes = padded bytes }

  abbrev Sent : List Entry → Effect
  Sent events = record { state = sent_at now (accepted input s); out = pending_in statuses (accepted input s) ∷ []; events = events }

  sends_if : (b : Bool) → let f : Effect = change (accepted input) (begin s) in
      queue_pending now statuses (pick b (announce_event Disconnected f) f) ≡ Sent (announced_if b)
  unfolding accepted queue_wire
  sends_if true = some_queued now statuses s.carried.sender.pending input _
  sends_if false = some_queued now statuses s.carried.sender.pending input _

  sends : input_sent now frame bytes statuses (begin s) ≡ Sent (announced_with (s.carried.sender.pending ++ input ∷ []))
  unfolding input_sent announces_most accepted
  sends = sends_if (leb 129 (length (s.carried.sender.pending ++ input ∷ [])))

module _ (e : Endpoint) (frame : ℕ) (bytes : List ℕ) (st : Statuses) (now : ℕ) (buffer : List ℕ) where
  abbrev Does : Did
  Does = step (Call.send_input frame bytes st.count (held_statuses st) now (length buffer)) (seen e)

  abbrev Sends : Endpoint → Answered → List ℕ → Type 0
  Sends n a b' = DidAs e Does buffer (record { answer = a; endpoint = n }) b'

  abbrev taken : InputBytes
  taken = record { frame = frame; bytes = padded bytes }

  abbrev before : List InputBytes
  before = waiting e.pending

  abbrev Sending : Effect
  Sending = Sent now frame bytes (held_statuses st) (seen e) (announced_with (before ++ taken ∷ []))

  pub send_clock : bad_clock now ≡ true → Sends e (Err BadClock) buffer
  unfolding step send_step tested
  send_clock h = refused_did e (Err BadClock) _ (rw h) buffer

  -- w: the width that the code has
  module _ (good : bad_clock now ≡ false) (w : ℕ) (ew : w ≡ sending_width (terms_of e.setup)) where
    abbrev wrong : Bool
    wrong = not (eqb st.count e.setup.num_players) || not (eqb (length bytes) w)

    same_tests : bad_statuses st.count (seen e) || bad_bytes bytes (seen e) ≡ wrong
    unfolding seen terms_with
    same_tests = rw ew

    pub send_length : wrong ≡ true → Sends e (Err BadLength) buffer
    unfolding step send_step tested
    send_length h = refused_did e (Err BadLength) _ (rw (good, same_tests, h)) buffer

    module _ (right : wrong ≡ false) where
      wide : length bytes ≡ w
      wide = eqb-true (length bytes) w (not-false (eqb (length bytes) w) (neither (not (eqb st.count e.setup.num_players)) _ right).1)

      -- the clock is good and the lengths are right, as the modules around say: then outside Running it is ignored
      pub send_ignored : is_running e.sync.phase ≡ false → Sends e (Ok tt) buffer
      unfolding step send_step tested refused seen
      send_ignored h = refused_did e (Ok tt) _ (rw (good, same_tests ∙ right, h)) buffer

      module _ (running : is_running e.sync.phase ≡ true) where
        -- the newest frame that pends
        module _ (newest : ℕ) (es : newest ≡ last_frame e.acked.frame before) where
          pub send_frame : bad_after newest frame ≡ true → Sends e (Err BadFrame) buffer
          unfolding step send_step tested seen bad_frame
          send_frame h = refused_did e (Err BadFrame) _ (rw (good, same_tests ∙ right, running, ← es, h)) buffer

          -- what the code makes: the input, r: the answer of its push, p: the store with it
          module _ (follows : bad_after newest frame ≡ false) (b : List ℕ) (eb : b ≡ padded (xors (take w (drop 0 bytes)) (replicate 64 0))) (r : Answered) (p : Pending) (ep : PushedAs e.pending (record { frame = frame; bytes = b }) r p) where
            next : bad_after (last_frame e.acked.frame before) frame ≡ false
            next = rw (← es) follows

            send_full : room before ≡ true → is_full (length buffer) Sending ≡ true → Sends e (Err Full) buffer
            unfolding step send_step tested seen bad_frame
            send_full k h = refused_did e (Err Full) _ (rw (good, same_tests ∙ right, running, next, k, sends now frame bytes (held_statuses st) (seen e), h)) buffer

            send_fits : room before ≡ true → is_full (length buffer) Sending ≡ false → Does ≡ done Sending
            unfolding step send_step tested seen bad_frame
            send_fits k h = rw (good, same_tests ∙ right, running, next, k, sends now frame bytes (held_statuses st) (seen e), h)

            none_more : room before ≡ false → Sends e (Err Full) buffer
            unfolding step send_step tested seen bad_frame
            none_more k = refused_did e (Err Full) _ (rw (good, same_tests ∙ right, running, next, k)) buffer

            pub send_crowded : (z : Refusal) → r ≡ Err z → Sends e (Err z) buffer
            send_crowded z k = let crowd = crowd_known _ r z ep.ok k in rw crowd.1 (none_more crowd.0)

            module _ (done : r ≡ Ok tt) (n : ℕ) (en : n ≡ length (waiting p)) where
              roomy_before : room before ≡ true
              roomy_before = room_known _ r ep.ok done

              pends : waiting p ≡ before ++ taken ∷ []
              unfolding pushed
              pends = ep.view ∙ rw (roomy_before, eb, ← wide, take-length, padded_plain bytes)

              announcing : announced_if (leb 129 n) ≡ announced_with (before ++ taken ∷ [])
              announcing = rw (en, pends)

              pub send_unannounced : (m : ℕ) → m ≡ length (held_events e.events) → (leb 129 n && leb 640 m) ≡ true → Sends e (Err Full) buffer
              unfolding seen accepted
              send_unannounced m em k = send_full roomy_before (full_events buffer Sending (rw (← announcing) (crowd_known _ _ Full (crowded e.events disconnection m em (leb 129 n) k).answer refl).0))

              -- b': the buffer with the Input
              module _ (ack : ℕ) (nn : ack ≡ newest_of (received e.history)) (b' : List ℕ) where
                -- the Input of all that pends then
                abbrev Whole : Wire
                Whole = pending_input e.setup.magic ack (held_statuses st) (waiting p) w e.acked

                whole : Sending.out ≡ Whole ∷ []
                unfolding seen accepted terms_with
                whole = rw (← ew, ← pends, nn)

                some : 0 < table_size Whole
                unfolding pending_input
                some = omega arith

                pub send_choked : (r : Refusal) → QueuedAs buffer e.queued Whole (Err r) b' → Sends e (Err r) b'
                unfolding seen accepted
                send_choked r eq =
                    let x = eq in
                    rw (x.1, x.2) (send_full roomy_before (full_buffer buffer Sending Whole some whole x.0))

                -- s: e after what is announced
                pub send_done : (q : ℕ) → QueuedAs buffer e.queued Whole (Ok q) b' → (s : Endpoint) → Announcing e n s → (c : Clocks) → c ≡ Timers.sent_at now s.clocks
                    → Sends (remade s p s.acked s.history s.sync s.nonces c s.flags s.quality s.statuses s.checksums s.events q) (Ok tt) b'
                unfolding seen accepted terms_with
                send_done q eq s es =
                    rw es.rest (λ c ec.
                    queued_did e _ (record { setup = refl; count = refl }) Sending Does
                    (send_fits roomy_before (room_one buffer Sending Whole some whole (rw (← announcing) es.room) eq.room))
                    Whole whole buffer b' q eq refl (rw (pends, ec, es.view, announcing)))

  pub send_input_settled : (r s : Ended) (b c : List ℕ) → DidAs e Does buffer r b → DidAs e Does buffer s c
      → (r.answer ≡ s.answer) × (seen r.endpoint ≡ seen s.endpoint) × SameTerms r.endpoint s.endpoint × (b ≡ c)
  send_input_settled = did_settled e Does buffer

-- The test of a sent frame, by a difference, since the sum may leave u32.

same_test : (frame last : ℕ) → 0 < frame → eqb frame (suc last) ≡ eqb (frame - 1) last
same_test frame last h = go (eqb (frame - 1) last) refl
  where
    go : (b : Bool) → eqb (frame - 1) last ≡ b → eqb frame (suc last) ≡ eqb (frame - 1) last
    go true e = let k : frame - 1 ≡ last = eqb-true _ _ e in rw (e, eq-eqb frame (suc last) (omega arith))
    go false e = rw (e, ne_eqb frame (suc last) (λ k. eqb-false (frame - 1) last e (omega arith)))

module _ (last frame : ℕ) where
  pub negative : frame < bias32 → true ≡ bad_after last frame
  negative h = rw (lt-ltb frame bias32 h)

  pub first : bias32 ≤ frame → last < bias32 → leb bias32 last ≡ bad_after last frame
  first h k = rw (le-ltb frame bias32 h, lt-leb bias32 last k)

  pub follows : bias32 ≤ frame → bias32 ≤ last → not (eqb (frame - 1) last) ≡ bad_after last frame
  follows h k = rw (le-ltb frame bias32 h, le-leb bias32 last k, same_test frame last (omega arith))
