-- What other crates cite of messages and their bytes: each determines the other, sizes, an Input's head and payload. `Queue.antt` has a queue cut into its messages.
use borrow.Author.Tests.{le-ltb}
use mathlib.Core.Path.{◌≡◌, refl, sym, ◌∙◌, ap}
use mathlib.Core.Bool.{Bool, true, false}
use mathlib.Core.List.{List, [], ◌∷◌, ◌++◌, append_assoc, append-nil}
use Prim.Native.Nat.{ℕ, ◌+◌, ◌*◌, ◌/◌, ◌%◌, ◌^◌, ◌<◌, ◌≤◌}
use native.Mathlib.Omega.{arith}
use native.Mathlib.Nat.{add-zero}
use lib.ListN.{length, length-append, length-take}
use Rattle.std.specs.Prelude.{Result, Ok, Err}
use Rattle.base.specs.Pick.{pick}
use Rattle.base.specs.Little.{Bytes, le}
use Rattle.base.specs.Lay.{no_room, laid_at}
use Rattle.base.proofs.Little.{le_pieces}
use Rattle.base.proofs.Lay.{laid_join}
use Rattle.answer.specs.Number.{refusal_number}
use Rattle.answer.specs.declared.Refusal.{Refusal}
use Rattle.answer.proofs.Refused.{not_done}
use Rattle.ceilings.specs.Ceilings.{most_players, most_payload}
use Rattle.codec.specs.Sizes.{fixed_size}
use Rattle.codec.specs.Message.{Wire, Fits, kind_of, is_input, report_list, meant, size_with, body_size, table_size}
use Rattle.codec.specs.Bytes.{wide_bytes, head, bytes}
use Rattle.codec.specs.Read.{Reading, and_then, message, ended, datagram, number_in, wire_in, left_in}
use Rattle.codec.specs.Read.Reading.{got, fault}
use Rattle.codec.specs.Calls.{too_long, write_refusal, HeadAs, WrittenAs, ReadAs, PayloadAs, payload_in}
use Rattle.codec.proofs.Lengths.{head-length, head_parts}
use Rattle.codec.proofs.Sizes.{kind_below, input-counts}
use Rattle.codec.proofs.Laid.{bytes-input, bytes_other, room_after, input-written}
use Rattle.codec.proofs.RoundTrip.{number-le, body_read}
use Rattle.codec.proofs.Back.{message_right, took, fault_bounds}
use Rattle.codec.specs.declared.Wide.{Wide}
use Rattle.codec.specs.declared.Message.{Message}
use Rattle.codec.specs.declared.MessageBody.{MessageBody}
use Rattle.codec.specs.declared.MessageBody.TheVariants.{SyncRequest, SyncReply, Input, InputAck, QualityReport, QualityReply, ChecksumReport, KeepAlive}

-- a message is read back from its bytes, whatever stands after them
pub message-bytes : (w : Wire) (rest : List ℕ) → Fits w → message (bytes w ++ rest) ≡ got w rest
unfolding message bytes head
message-bytes w rest h =
    simp append_assoc
    (rw (number-le 2 w.magic h.magic, number-le 4 (kind_of w.body) (omega (arith, kind_below w.body)))
    (body_read w.magic w.reports w.payload rest w.body h.body h.frames h.statuses h.length h.none))

pub read-bytes : (w : Wire) → Fits w → datagram (bytes w) ≡ got w []
unfolding datagram
read-bytes w h = rw (rw append-nil at (message-bytes w [] h))

-- no message's bytes are the first part of another's
pub bytes_first : (w w' : Wire) (rest rest' : List ℕ) → Fits w → Fits w' → bytes w ++ rest ≡ bytes w' ++ rest' → (w ≡ w') × (rest ≡ rest')
bytes_first w w' rest rest' h h' e =
    let q : got w rest ≡ got w' rest' = sym (message-bytes w rest h) ∙ ap message e ∙ message-bytes w' rest' h' in
    (ap wire_in q, ap left_in q)

pub bytes_determine : (w w' : Wire) → Fits w → Fits w' → bytes w ≡ bytes w' → w ≡ w'
bytes_determine w w' h h' e = (bytes_first w w' [] [] h h' (rw e)).0

-- bytes that read are those of the message that was read
pub bytes-message : (d : List ℕ) (w : Wire) (rest : List ℕ) → Bytes d → message d ≡ got w rest → (d ≡ bytes w ++ rest) × Fits w
bytes-message d w rest h e = took (rw e at (message_right d h))

pub bytes_read : (d : List ℕ) (w : Wire) (rest : List ℕ) → Bytes d → datagram d ≡ got w rest → (bytes w ≡ d) × Fits w × (rest ≡ [])
unfolding datagram
bytes_read d w rest h e = go (message d) refl e
  where
    go : (g : Reading Wire) → message d ≡ g → and_then g ended ≡ got w rest → (bytes w ≡ d) × Fits w × (rest ≡ [])
    go (got v []) m q =
        let t = bytes-message d w [] h (m ∙ rw (ap wire_in q)) in
        (sym (append-nil (bytes w)) ∙ sym t.0, t.1, sym (ap left_in q))
    go (got v (b ∷ bs)) m q = let z : ◌≡◌ {A = ℕ} 0 1 = cc in absurd (omega arith)
    go (fault n) m q = let z : ◌≡◌ {A = ℕ} 0 1 = cc in absurd (omega arith)

-- a reading that stops gives one of the reader's numbers; 13 is a datagram's, after a whole message
pub fault_range : (d : List ℕ) (n : ℕ) → Bytes d → message d ≡ fault n → (9 ≤ n) × (n ≤ 12)
fault_range d n h e = fault_bounds (rw e at (message_right d h))

pub datagram_fault_range : (d : List ℕ) (n : ℕ) → Bytes d → datagram d ≡ fault n → (9 ≤ n) × (n ≤ 13)
unfolding datagram
datagram_fault_range d n h e = go (message d) refl e
  where
    go : (g : Reading Wire) → message d ≡ g → and_then g ended ≡ fault n → (9 ≤ n) × (n ≤ 13)
    go (got v []) m q = let z : ◌≡◌ {A = ℕ} 0 1 = cc in absurd (omega arith)
    go (got v (b ∷ bs)) m q = let e : 13 ≡ n = cc in omega arith
    go (fault k) m q = let e : k ≡ n = cc in omega (arith, fault_range d k h m)

-- a u128 is one number of 16 bytes
pub wide_is : (x : Wide) → x.low < 2 ^ 64 → wide_bytes x ≡ le 16 (x.low + 2 ^ 64 * x.high)
unfolding wide_bytes
wide_is x h =
    let m : (x.low + 2 ^ 64 * x.high) % 256 ^ 8 ≡ x.low = omega arith in
    let d : (x.low + 2 ^ 64 * x.high) / 256 ^ 8 ≡ x.high = omega arith in
    rw (m, d) at (le_pieces 8 8 (x.low + 2 ^ 64 * x.high))

-- sizes: those of the table, in the form that computes by the body's case
table : (body : MessageBody) (n b : ℕ) → size_with body n b ≡ body_size body n b
unfolding size_with kind_of is_input
table (SyncRequest x) n b = refl
table (SyncReply x) n b = refl
table (Input d s a) n b = omega arith
table (InputAck a) n b = refl
table (QualityReport a x) n b = refl
table (QualityReply x) n b = refl
table (ChecksumReport x f) n b = refl
table KeepAlive n b = refl

pub bytes-length : (w : Wire) → Fits w → length (bytes w) ≡ table_size w
unfolding bytes size_with
bytes-length w h = simp (length-append, head-length) (go (is_input w.body) h.none) ∙ table w.body (length w.reports) (length w.payload)
  where
    fixed : ℕ
    fixed = fixed_size (kind_of w.body)

    go : (t : Bool) → (t ≡ false → (w.reports ≡ []) × (w.payload ≡ []))
        → fixed + pick t (5 * length w.reports) 0 + length w.payload ≡ fixed + pick t (5 * length w.reports + length w.payload) 0
    go true f = omega arith
    go false f = rw (f refl).1 (omega arith)

-- a head is as long as a message without a payload
pub head_length_law : (w : Wire) (n : ℕ) → length (head w n) ≡ body_size w.body (length w.reports) 0
unfolding size_with
head_length_law w n = let size : length (head w n) ≡ size_with w.body (length w.reports) 0 = rw (head-length, add-zero) in size ∙ table w.body (length w.reports) 0

pub least : (w : Wire) → 6 ≤ length (bytes w)
unfolding bytes
least w = simp length-append (omega (arith, head_parts w (length w.payload)))

most : (body : MessageBody) (statuses n : ℕ) → statuses ≤ most_players → n ≤ most_payload → body_size body statuses n ≤ 8307
most (SyncRequest x) k n h l = omega arith
most (SyncReply x) k n h l = omega arith
most (Input d s a) k n h l = omega arith
most (InputAck a) k n h l = omega arith
most (QualityReport a x) k n h l = omega arith
most (QualityReply x) k n h l = omega arith
most (ChecksumReport x f) k n h l = omega arith
most KeepAlive k n h l = omega arith

pub largest : (w : Wire) → Fits w → table_size w ≤ 8307
largest w h = most w.body (length w.reports) (length w.payload) h.statuses h.length

pub read_length : (d : List ℕ) (w : Wire) (rest : List ℕ) → Bytes d → datagram d ≡ got w rest → length d ≡ table_size w
read_length d w rest h e = let t = bytes_read d w rest h e in ap length (sym t.0) ∙ bytes-length w t.1

-- what the writer's room test counts is the size of what it writes
pub size_meant : (m : Message) (p : List ℕ) → too_long m (length p) ≡ false → length m.reports.list ≡ 4
    → size_with m.body m.reports.count (length p) ≡ table_size (meant m p)
unfolding size_with meant
size_meant m p short four =
    go (is_input m.body) (λ h. omega (arith, (input-counts m (length p) short h).0, length-take m.reports.count m.reports.list))
    ∙ table m.body (length (meant m p).reports) (length (meant m p).payload)
  where
    fixed : ℕ
    fixed = fixed_size (kind_of m.body)

    go : (t : Bool) → (t ≡ true → length (report_list m.reports) ≡ m.reports.count)
        → fixed + pick t (5 * m.reports.count + length p) 0 ≡ fixed + pick t (5 * length (pick t (report_list m.reports) []) + length (pick t p [])) 0
    go true f = rw (f refl)
    go false f = refl

-- a message within the counts is refused for want of room alone
within_counts : (m : Message) (n : ℕ) → m.reports.count ≤ most_players → n ≤ most_payload → too_long m n ≡ false
unfolding too_long
within_counts m n few short =
    rw (le-ltb most_players m.reports.count few, le-ltb most_payload n short)
    (elim (is_input m.body) as (λ t. pick t false false ≡ false) [ true ↦ refl | false ↦ refl ])

pub refused-room : (buffer : List ℕ) (at : ℕ) (m : Message) (p : List ℕ) → m.reports.count ≤ most_players → length p ≤ most_payload
    → length m.reports.list ≡ 4 → write_refusal buffer at m (length p) ≡ pick (no_room buffer at (table_size (meant m p))) 5 0
unfolding write_refusal
refused-room buffer at m p few short four =
    let within = within_counts m (length p) few short in
    rw (within, size_meant m p within four)

-- a message's bytes are its head's and, of an Input, the payload's
pub head-payload : (m : Message) (p : List ℕ) → is_input m.body ≡ true → bytes (meant m p) ≡ head (meant m []) (length p) ++ p
head-payload m p e = bytes-input m p e

pub head_only : (m : Message) (p : List ℕ) (n : ℕ) → is_input m.body ≡ false → bytes (meant m p) ≡ head (meant m []) n
head_only m p n e = bytes_other m p n e

-- so the payload laid at the end of a head that was written is the whole message laid, and there is room for it
module _ (buffer : List ℕ) (at : ℕ) (m : Message) (p : List ℕ) (e : is_input m.body ≡ true) where
  pub laid_payload : at + length (head (meant m []) (length p)) + length p ≤ length buffer
      → laid_at (laid_at buffer at (head (meant m []) (length p))) (at + length (head (meant m []) (length p))) p ≡ laid_at buffer at (bytes (meant m p))
  laid_payload room = laid_join buffer at (head (meant m []) (length p)) p room ∙ rw (head-payload m p e)

  pub payload_laid : (r : ℕ) (buffer' : List ℕ) → HeadAs buffer at m (length p) (Ok r) buffer'
      → length m.reports.list ≡ 4 → (r + length p ≤ length buffer) × (laid_at buffer' r p ≡ laid_at buffer at (bytes (meant m p)))
  payload_laid r buffer' h four =
      let room = room_after buffer at m p r buffer' h four e in
      (room, rw (h.lent, h.end) (laid_payload (omega (arith, h.end, room))))

  -- with it the message is written
  pub head-written : (r : ℕ) (buffer' buffer'' : List ℕ) → HeadAs buffer at m (length p) (Ok r) buffer'
      → length m.reports.list ≡ 4 → Bytes p → buffer'' ≡ laid_at buffer' r p
      → WrittenAs buffer at m p (Ok (r + length p)) buffer''
  head-written r buffer' buffer'' h four q l =
      let room = (payload_laid r buffer' h four).0 in
      input-written buffer at m p r buffer' h buffer'' (r + length p) q e (omega (arith, h.end, room)) refl l

pub head-refused : (buffer : List ℕ) (at : ℕ) (m : Message) (p : List ℕ) (refusal : Refusal) (buffer' : List ℕ)
    → HeadAs buffer at m (length p) (Err refusal) buffer' → WrittenAs buffer at m p (Err refusal) buffer'
head-refused buffer at m p refusal buffer' h = h

-- what the writer and the reader answer: of a message that fits, and of bytes that read
pub written_end : (buffer : List ℕ) (at : ℕ) (m : Message) (p : List ℕ) (r : ℕ) (buffer' : List ℕ) → WrittenAs buffer at m p (Ok r) buffer'
    → r ≡ at + table_size (meant m p)
written_end buffer at m p r buffer' h = h.end ∙ rw (bytes-length (meant m p) h.fits)

payload_in_lem : (w : Wire) → Fits w → payload_in (bytes w) ≡ w.payload
payload_in_lem w h = ap (λ (g : Reading Wire). (wire_in g).payload) (read-bytes w h)

-- of bytes that a message has, the reader answers that message
pub received : (w : Wire) (r : Result Message Refusal) → Fits w → ReadAs (bytes w) r
    → (m : Message) × (r ≡ Ok m) × (meant m w.payload ≡ w) × (m.reports.count ≡ length w.reports)
received w (Ok m) h c =
    let e = read-bytes w h in
    (m, refl, rw (payload_in_lem w h, e) at c.message, rw e at c.count)
received w (Err refusal) h c =
    let z : 0 ≡ refusal_number refusal = ap number_in (sym (read-bytes w h) ∙ c) in absurd (not_done refusal (sym z))

pub read_back : (d : List ℕ) (m : Message) → Bytes d → ReadAs d (Ok m) → (bytes (meant m (payload_in d)) ≡ d) × Fits (meant m (payload_in d))
read_back d m h c = rw c.message (go (datagram d) refl c.reads)
  where
    go : (g : Reading Wire) → datagram d ≡ g → number_in g ≡ 0 → (bytes (wire_in g) ≡ d) × Fits (wire_in g)
    go (got w left) m z = let t = bytes_read d w left h m in (t.0, t.1)
    go (fault n) m z = absurd (omega (arith, datagram_fault_range d n h m))

pub payload-received : (w : Wire) (p : List ℕ) → Fits w → PayloadAs (bytes w) p → p ≡ w.payload
payload-received w p h c = c.payload ∙ payload_in_lem w h
