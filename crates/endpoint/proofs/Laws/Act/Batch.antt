-- Messages written one after another into a buffer that has room for all are one queue; and how long it is.
use borrow.Author.Tests.{ltb-true, ltb-false, lt-ltb, le-ltb}
use mathlib.Core.Bool.{Bool, true, false, ◌||◌}
use mathlib.Core.List.{List, [], ◌∷◌, ◌++◌, flatten, append-nil, append_assoc}
use mathlib.Core.Logic.{inl, inr}
use mathlib.Core.Path.{◌≡◌, refl, sym, ◌∙◌}
use native.Mathlib.Omega.{arith}
use native.Mathlib.Nat.{add-zero, add_assoc}
use Prim.Native.Nat.{ℕ, zero, suc, ◌+◌, ◌<◌, ◌≤◌}
use lib.ListN.{length, length-append}
use Rattle.base.specs.Pick.{pick}
use Rattle.base.specs.Lay.{laid_at}
use Rattle.base.proofs.Lay.{laid_none, laid_length, laid_join}
use Rattle.base.proofs.Digits.{below_or_not}
use Rattle.codec.specs.Message.{Wire, body_size, table_size}
use Rattle.codec.specs.Bytes.{queue_of}
use Rattle.codec.specs.declared.MessageBody.{MessageBody}
use Rattle.codec.specs.declared.MessageBody.TheVariants.{SyncRequest, SyncReply, Input, InputAck, QualityReport, QualityReply, ChecksumReport, KeepAlive}
use Rattle.outbox.specs.Outbox.{queue_size, QueuedAs}
use Rattle.outbox.proofs.Laws.{bytes_size}
use Rattle.endpoint_rules.specs.Room.{buffer_full}
use Rattle.std.specs.Prelude.{Result, Ok, Err}
use Rattle.std.specs.Result.{result_unwrap_or}
use Rattle.answer.specs.declared.Refusal.{Refusal}
use Rattle.endpoint.specs.Inside.Batch.{BatchWrittenAs, WrittenWhere}

-- ---- sizes

pub sizes_append : (a b : List Wire) → queue_size (a ++ b) ≡ queue_size a + queue_size b
unfolding queue_size
sizes_append [] b = omega arith
sizes_append (w ∷ ws) b = rw (sizes_append ws b, add_assoc)

pub size_if : (t : Bool) (w : Wire) → queue_size (pick t (w ∷ []) []) ≡ pick t (table_size w) 0
unfolding queue_size
size_if true w = add-zero (table_size w)
size_if false w = refl

pub size_if_most : (t : Bool) (n : ℕ) → pick t n 0 ≤ n
size_if_most true n = omega arith
size_if_most false n = omega arith

-- no message is empty
some_bytes : (body : MessageBody) (n b : ℕ) → 0 < body_size body n b
some_bytes (SyncRequest nonce) n b = omega arith
some_bytes (SyncReply nonce) n b = omega arith
some_bytes (Input disconnect start ack) n b = omega arith
some_bytes (InputAck ack) n b = omega arith
some_bytes (QualityReport advantage ping) n b = omega arith
some_bytes (QualityReply pong) n b = omega arith
some_bytes (ChecksumReport checksum frame) n b = omega arith
some_bytes KeepAlive n b = omega arith

-- three messages of which none is due
pub none_sent : (a b c : Wire) (i r k : Bool) → (i || r) || k ≡ false → pick i (a ∷ []) [] ++ (pick r (b ∷ []) [] ++ pick k (c ∷ []) []) ≡ []
none_sent a b c true r k h = cc
none_sent a b c false true k h = cc
none_sent a b c false false true h = cc
none_sent a b c false false false h = refl

queue-append : (a b : List Wire) → queue_of (a ++ b) ≡ queue_of a ++ queue_of b
unfolding flatten
queue-append [] b = refl
queue-append (w ∷ ws) b = rw (queue-append ws b, append_assoc)

-- ---- room

room_there : (n at k : ℕ) → buffer_full n at k ≡ false → 0 < k → at + k ≤ n
unfolding buffer_full
room_there n at k h some = ltb-false n (at + k) (rw (lt-ltb 0 k some) at h)

room_is : (n at k : ℕ) → (0 < k → at + k ≤ n) → buffer_full n at k ≡ false
unfolding buffer_full
room_is n at zero h = refl
room_is n at (suc k) h = rw (lt-ltb 0 (suc k) (omega arith), le-ltb n (at + suc k) (h (omega arith)))

empty : {A : Type 0} (l : List A) → length l ≡ 0 → l ≡ []
empty [] h = refl
empty (x ∷ xs) h = absurd (omega arith)

-- ---- nothing, one message, and some after others

module _ (b : List ℕ) (at : ℕ) where
  pub written_none : WrittenWhere b at [] at b
  unfolding queue_size flatten
  written_none h = record { end = sym (add-zero at); lent = sym (laid_none b at); long = refl }

  -- where there is room, the answer is where it ends
  pub written_one : (w : Wire) (r : Result ℕ Refusal) (b' : List ℕ) → QueuedAs b at w r b' → WrittenWhere b at (w ∷ []) (result_unwrap_or r at) b'
  unfolding queue_size flatten
  written_one w (Ok q) b' eq h =
      record {
        end = rw (eq.end, add-zero);
        lent = eq.lent ∙ rw append-nil;
        long = rw (append-nil, add-zero) (bytes_size w eq.fits);
      }
  written_one w (Err r) b' eq h =
      let some = some_bytes w.body (length w.reports) (length w.payload) in
      let room : at + table_size w ≤ length b = rw add-zero at (room_there (length b) at (table_size w + 0) h (omega arith)) in
      absurd (omega (arith, room, ltb-true _ _ eq.0))

  module _ (ws vs : List Wire) (m n : ℕ) (b' b'' : List ℕ) where
    pub written_then : WrittenWhere b at ws m b' → WrittenWhere b' m vs n b'' → WrittenWhere b at (ws ++ vs) n b''
    written_then first second h =
        elim (below_or_not 0 (queue_size ws + queue_size vs)) [
          | inl some ↦
              let room : at + (queue_size ws + queue_size vs) ≤ length b = room_there (length b) at (queue_size ws + queue_size vs) full some in
              let x = first (room_is (length b) at (queue_size ws) (λ p. omega arith)) in
              let kept : length b' ≡ length b = rw x.lent (laid_length b at (queue_of ws) (omega (arith, x.long))) in
              let y = second (room_is (length b') m (queue_size vs) (λ p. omega (arith, x.end))) in
              ends x y (y.lent ∙ rw (x.lent, x.end, ← x.long) (laid_join b at (queue_of ws) (queue_of vs) (omega (arith, x.long, y.long))))
          | inr none ↦
              let x = first (room_is (length b) at (queue_size ws) (λ p. absurd (omega arith))) in
              let y = second (room_is (length b') m (queue_size vs) (λ p. absurd (omega arith))) in
              let no-first : queue_of ws ≡ [] = empty (queue_of ws) (omega (arith, x.long)) in
              let no_second : queue_of vs ≡ [] = empty (queue_of vs) (omega (arith, y.long)) in
              ends x y (y.lent ∙ rw (x.lent, no-first, no_second, laid_none))
        ]
      where
        full : buffer_full (length b) at (queue_size ws + queue_size vs) ≡ false
        full = rw sizes_append at h

        ends : BatchWrittenAs b at ws m b' → BatchWrittenAs b' m vs n b'' → b'' ≡ laid_at b at (queue_of ws ++ queue_of vs) → BatchWrittenAs b at (ws ++ vs) n b''
        ends x y lent = record {
          end = y.end ∙ rw (x.end, sizes_append, add_assoc);
          lent = rw queue-append lent;
          long = rw (queue-append, length-append, sizes_append, x.long, y.long);
        }
