-- The ways of an Input: discarded, refused for its length or its numbers, and taken with inputs that can be read or cannot.
use Rattle.std.specs.Prelude.{Err}
use borrow.Author.Tests.{ltb-false}
use mathlib.Core.Bool.{Bool, true, false, not, ◌&&◌, ◌||◌}
use mathlib.Core.List.{List, []}
use mathlib.Core.Path.{◌≡◌, refl, sym, ◌∙◌}
use Prim.Native.Nat.{ℕ, ◌+◌, ◌*◌, ◌^◌, ◌<◌}
use native.Mathlib.Omega.{arith}
use lib.Dec.{ltb, eqb}
use lib.ListN.{length}
use Rattle.base.proofs.Bools.{both, neither}
use Rattle.frame.specs.Bias.{bias32}
use Rattle.answer.specs.declared.Refusal.TheVariants.{TooLong, Overflow}
use Rattle.packing.specs.Packing.{frame_count, decodable, decodable_length}
use Rattle.packing.specs.declared.input_bytes.InputBytes.{InputBytes}
use Rattle.history.specs.History.{received, Found, found_in, reference_frame}
use Rattle.codec.specs.declared.StatusReport.{StatusReport}
use Rattle.setup.specs.Setup.{terms_of, terms_with, receiving_width}
use Rattle.endpoint_rules.specs.Seen.{Receiver}
use Rattle.endpoint_rules.specs.Did.{Effect, tested, change}
use Rattle.endpoint_rules.specs.Handshake.{Reaction, plainly}
use Rattle.endpoint_rules.specs.Sending.{acknowledged}
use Rattle.endpoint_rules.specs.Receiving.{input_message, received_if, receive, discarded, packet_overflows, informed, inputs_received, input_taken, input_unless, on_input}
use Rattle.endpoint_rules.specs.Step.{heard, reacted}
use Rattle.endpoint_rules.proofs.Laws.{by_hearing}
use Rattle.endpoint.specs.declared.Endpoint.{Endpoint}
use Rattle.endpoint.specs.declared.Ended.{Ended}
use Rattle.endpoint.specs.Endpoint.{seen, DidAs, DoneAs}
use Rattle.endpoint.specs.Inside.Packet.{Readable}
use Rattle.endpoint.proofs.Laws.Ends.{refused_did}
use Rattle.endpoint.proofs.Laws.Message.Unqueued.{unqueued}
use Rattle.endpoint.proofs.Laws.Message.InputTaken.{inputless_out}

-- without both, the packet does not matter
no_packet : (x y : Bool) (mp : ℕ) (packet : List InputBytes) (r : Receiver) → (x && y) ≡ false → received_if x y mp packet r ≡ received_if x false 0 [] r
unfolding received_if
no_packet false y mp packet r h = refl
no_packet true false mp packet r h = refl
no_packet true true mp packet r h = cc

module _ (e : Endpoint) (buffer : List ℕ) (now count ack start : ℕ) (d : Bool) (reports : List StatusReport) (payload : List ℕ) where
  abbrev Width : ℕ
  Width = receiving_width (terms_of e.setup)

  abbrev Arriving : Effect → Reaction
  Arriving h = on_input now count (input_message d start ack reports payload) h

  abbrev Arrives : Ended → List ℕ → Type 0
  Arrives x b' = DidAs e (reacted (length buffer) (seen e) (Arriving (heard now (seen e)))) buffer x b'

  -- a: the test for a discarded one
  module _ (a : Bool) (ea : a ≡ (not d && not (eqb count e.setup.num_players) || ltb start bias32)) where
    pub input-discarded : a ≡ true → (x : Ended) → DoneAs e (reacted 0 (seen e) (plainly (heard now (seen e)))) x → Arrives x buffer
    unfolding on_input discarded input_unless seen terms_with
    input-discarded h x dx =
        let y : Arriving (heard now (seen e)) ≡ plainly (heard now (seen e)) = by_hearing now (seen e) (λ z. Arriving z ≡ plainly z) (λ f t. rw (sym ea ∙ h)) in
        rw y (unqueued e (plainly (heard now (seen e))) (by_hearing now (seen e) (λ z. z.out ≡ []) (λ f t. refl)) buffer x dx)

    module _ (kept : a ≡ false) where
      pub not_negative : 0 < start
      not_negative = omega (arith, ltb-false start bias32 (neither (not d && not (eqb count e.setup.num_players)) (ltb start bias32) (sym ea ∙ kept)).1)

      abbrev Reacting : Effect → Reaction
      Reacting h =
          record {
            too_long = ltb (129 * Width) (length payload);
            overflows = packet_overflows start payload (seen e);
            store_full = false;
            effect = input_taken now (input_message d start ack reports payload) h;
          }

      reacting : Arriving (heard now (seen e)) ≡ Reacting (heard now (seen e))
      unfolding on_input discarded input_unless packet_overflows seen terms_with
      reacting = by_hearing now (seen e) (λ h. Arriving h ≡ Reacting h) (λ f t. rw (sym ea ∙ kept))

      -- l: the test for 12
      module _ (l : Bool) (el : l ≡ ltb (129 * Width) (length payload)) where
        pub input_long : l ≡ true → Arrives (record { answer = Err TooLong; endpoint = e }) buffer
        unfolding reacted tested
        input_long h = rw reacting (refused_did e (Err TooLong) _ (rw (sym el ∙ h)) buffer)

        -- w: the width, r: the reference, y: whether the inputs can be read
        module _ (short : l ≡ false) (w : ℕ) (ew : w ≡ Width) (r : Found) (er : r ≡ found_in (reference_frame start (received e.history)) (received e.history)) (y : Bool)
            (ey : y ≡ (r.held && decodable_length w (length payload))) where
          module _ (no : y ≡ false) where
            within : packet_overflows start payload (seen e) ≡ false
            unfolding packet_overflows seen decodable
            within = rw (← er, ← ew, sym ey ∙ no)

            abbrev Inputless : Effect → Effect
            Inputless h = inputs_received now (received_if r.held false 0 [] (seen e).carried.receiver) (informed d reports (change (acknowledged ack) h))

            unread : input_taken now (input_message d start ack reports payload) (heard now (seen e)) ≡ Inputless (heard now (seen e))
            unfolding input_taken receive seen decodable
            unread =
                by_hearing now (seen e) (λ h. input_taken now (input_message d start ack reports payload) h ≡ Inputless h)
                (λ f t. rw (← er, ← ew, no_packet r.held (decodable_length w (length payload)) _ _ _ (sym ey ∙ no)))

            pub input_unreadable : (x : Ended) → DoneAs e (reacted 0 (seen e) (plainly (Inputless (heard now (seen e))))) x → Arrives x buffer
            input_unreadable x dx = rw (reacting, sym el ∙ short, within, unread) (unqueued e (plainly (Inputless (heard now (seen e)))) (inputless_out e now ack d reports r.held) buffer x dx)

          -- n: how many frames, o: the test for 6
          module _ (yes : y ≡ true) (n : ℕ) (en : n ≡ frame_count w (length payload)) (o : Bool) (eo : o ≡ ltb (2 ^ 32) (start + n)) where
            reads : (r.held ≡ true) × (decodable_length w (length payload) ≡ true)
            reads = both r.held (decodable_length w (length payload)) (sym ey ∙ yes)

            overflowing : packet_overflows start payload (seen e) ≡ o
            unfolding packet_overflows seen decodable
            overflowing = rw (← er, ← ew, reads.0, reads.1, ← en, eo)

            pub input-overflows : o ≡ true → Arrives (record { answer = Err Overflow; endpoint = e }) buffer
            unfolding reacted tested
            input-overflows h = rw reacting (refused_did e (Err Overflow) _ (rw (sym el ∙ short, overflowing ∙ h)) buffer)

            module _ (fits : o ≡ false) where
              pub readable : Readable (seen e) start payload r.input
              unfolding seen decodable
              readable =
                  record {
                    found = sym er ∙ (λ i. record { held = reads.0 i; input = r.input });
                    whole = rw (← ew) reads.1;
                    within = rw (← ew, ← en) (ltb-false (2 ^ 32) (start + n) (sym eo ∙ fits));
                  }

              pub input_readable : (x : Ended) (b' : List ℕ)
                  → DidAs e (reacted (length buffer) (seen e) (plainly (input_taken now (input_message d start ack reports payload) (heard now (seen e))))) buffer x b' → Arrives x b'
              input_readable x b' dx = rw (reacting, sym el ∙ short, overflowing ∙ fits) dx
