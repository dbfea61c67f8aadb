-- The ways out of a message that is answered with one that has neither statuses nor payload, and changes the state beside being heard.
use Rattle.std.specs.Prelude.{Ok, Err}
use mathlib.Core.Bool.{true, false}
use mathlib.Core.List.{List, [], ◌∷◌, ◌++◌}
use mathlib.Core.Path.{◌≡◌, refl, sym, ◌∙◌}
use Prim.Native.Nat.{ℕ, ◌<◌}
use lib.ListN.{length}
use Rattle.codec.specs.Message.{Wire, table_size}
use Rattle.codec.specs.Read.{body_only}
use Rattle.codec.specs.declared.MessageBody.{MessageBody}
use Rattle.answer.specs.Number.{Answered}
use Rattle.answer.specs.declared.Refusal.TheVariants.{Full}
use Rattle.setup.specs.Setup.{terms_with}
use Rattle.events.specs.declared.Entry.{Entry}
use Rattle.answer.specs.declared.Refusal.{Refusal}
use Rattle.outbox.specs.Outbox.{QueuedAs}
use Rattle.endpoint_rules.specs.declared.Flags.{Flags}
use Rattle.endpoint_rules.specs.Seen.{Seen, with_flags, with_events, with_queued, heard_at, sent_at}
use Rattle.endpoint_rules.specs.Did.{Effect, change, queue, queue_wire}
use Rattle.endpoint_rules.specs.Handshake.{plainly}
use Rattle.endpoint_rules.specs.Step.{heard, reacted}
use Rattle.endpoint_rules.proofs.Laws.{hearing, by_hearing}
use Rattle.endpoint.specs.declared.Endpoint.{Endpoint}
use Rattle.endpoint.specs.Endpoint.{seen, SameTerms, DidAs}
use Rattle.endpoint.proofs.Laws.Message.Hearing.{Ears, HeardAs}
use Rattle.endpoint.proofs.Laws.Ends.{refused_did, queued_did}
use Rattle.endpoint.proofs.Laws.Room.{full_events, full_buffer, room_one, reacted_full, reacted-done}

-- g: what it changes; nothing is announced of it
pub record Aside (g : Seen → Seen) : Type 0 where
  pub setup : (s : Seen) → (g s).setup ≡ s.setup
  pub events : (s : Seen) → (g s).events ≡ s.events
  pub queued : (s : Seen) → (g s).queued ≡ s.queued

module _ (e : Endpoint) (buffer : List ℕ) (now : ℕ) (body : MessageBody) (g : Seen → Seen) (aside : Aside g) where
  abbrev Ended : Endpoint → Answered → List ℕ → Effect → Type 0
  Ended n a b' h = DidAs e (reacted (length buffer) (seen e) (plainly (queue now body (change g h)))) buffer (record { answer = a; endpoint = n }) b'

  abbrev Before : Flags → Seen
  Before f = with_flags f (heard_at now (seen e))

  abbrev Replying : Flags → List Entry → Effect
  Replying f t = queue now body (change g (hearing now (seen e) f t))

  abbrev Reply : Wire
  Reply = body_only e.setup.magic body

  only : (f : Flags) (t : List Entry) → (Replying f t).out ≡ Reply ∷ []
  unfolding queue_wire seen terms_with
  only f t = rw (aside.setup (Before f))

  pub reply_full : (r : Refusal) (b' : List ℕ) → QueuedAs buffer e.queued Reply (Err r) b' → 0 < table_size Reply → Ended e (Err r) b' (heard now (seen e))
  unfolding queue_wire seen
  reply_full r b' eq some =
      let q = eq in
      rw (q.1, q.2) (by_hearing now (seen e) (Ended e (Err Full) buffer) (λ f t.
      refused_did e (Err Full) _ (reacted_full (length buffer) (seen e) _ refl refl
      (full_buffer buffer (Replying f t) Reply some (only f t) (rw (aside.queued (Before f)) q.0))) buffer))

  module _ (x : Ears) where
    abbrev Replies : Endpoint → Answered → List ℕ → Effect → Type 0
    Replies n a b' h = HeardAs e h x → Ended n a b' h

    pub reply_unannounced : x.ok ≡ false → Replies e (Err Full) buffer (heard now (seen e))
    unfolding queue_wire seen
    reply_unannounced k = by_hearing now (seen e) (Replies e (Err Full) buffer) (λ f t h.
        refused_did e (Err Full) _ (reacted_full (length buffer) (seen e) _ refl refl (full_events buffer (Replying f t) (rw (aside.events (Before f)) (sym h.ok ∙ k)))) buffer)

    pub reply_done : (q : ℕ) (b' : List ℕ) → QueuedAs buffer e.queued Reply (Ok q) b' → 0 < table_size Reply → (n : Endpoint) → SameTerms e n → x.ok ≡ true
        → ((f : Flags) (t : List Entry) → HeardAs e (hearing now (seen e) f t) x
        → seen n ≡ with_events ((g (Before f)).events ++ t) (with_queued q (sent_at now (g (Before f)))))
        → Replies n (Ok tt) b' (heard now (seen e))
    unfolding queue_wire seen
    reply_done q b' eq some n terms k after = by_hearing now (seen e) (Replies n (Ok tt) b') (λ f t h.
        queued_did e n terms (Replying f t) _
        (reacted-done (length buffer) (seen e) _ refl refl refl
        (room_one buffer (Replying f t) Reply some (only f t) (rw (aside.events (Before f)) (sym h.ok ∙ k)) (rw (aside.queued (Before f)) eq.room)))
        Reply (only f t) buffer b' q eq (aside.queued (Before f)) (after f t h))
