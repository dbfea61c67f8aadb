-- What a reading that was done says of the answer: of a message of a fixed size, of an Input, and of one with nothing after it.
use mathlib.Core.Path.{◌≡◌, refl, sym, ◌∙◌, ap}
use mathlib.Core.List.{List, [], ◌∷◌}
use Prim.Native.Nat.{ℕ, ◌+◌, ◌-◌, ◌<◌, ◌≤◌}
use native.Mathlib.Omega.{arith}
use native.Mathlib.Nat.{sub_self, sub-zero}
use lib.ListN.{length, take, drop, length-take, length-drop, drop_of_length-le}
use lib.Seq.{drop-length, take_all}
use Rattle.codec.specs.Sizes.{fixed_size}
use Rattle.codec.specs.Message.{Wire, Reports, meant}
use Rattle.codec.specs.Read.{Reading, and_then, ended, message, datagram, wire_in}
use Rattle.codec.specs.Read.Reading.{got, fault}
use Rattle.codec.specs.Front.{number_at, body_at, FrontIn}
use Rattle.codec.specs.Calls.{PayloadAs, payload_in, message_end}
use Rattle.codec.proofs.Meant.{meant_body_only}
use Rattle.codec.proofs.Takes.{fixed_whole}
use Rattle.codec.specs.declared.Message.{Message}
use Rattle.codec.specs.declared.reader.Front.{Front}

more : (w : Wire) (left : List ℕ) → 0 < length left → ended w left ≡ fault 13
more w [] h = absurd (omega arith)
more w (b ∷ bs) h = refl

ended_alone : (g : Reading Wire) (w : Wire) → g ≡ got w [] → and_then g ended ≡ g
ended_alone g w e = rw e

-- a message whose payload stands between two places
pub found_front : (d : List ℕ) (reading : Reading Wire) (m : Message) (start stop : ℕ) (w : Wire) → reading ≡ got w (drop stop d) → meant m w.payload ≡ w
    → m.reports.count ≡ length w.reports → start ≤ stop → stop ≤ length d → w.payload ≡ take (stop - start) (drop start d)
    → FrontIn d reading (record { message = m; payload = start; end = stop })
found_front d reading m start stop w e f n o l p =
    rw e
    (record {
      message = f;
      count = n;
      within = l;
      start = omega (arith, ap length p, length-take (stop - start) (drop start d), length-drop start d);
      payload = sym p;
      left = refl;
    })

-- one of a fixed size, with an empty status list beside it
pub fixed_front : (d : List ℕ) (k : ℕ) (rs : Reports) → 6 ≤ length d → k ≡ number_at 4 2 d → k < 8 → (k ≡ 2 → ⊥) → fixed_size k ≤ length d → rs.count ≡ 0
    → FrontIn d (message d)
    (record { message = record { magic = number_at 2 0 d; body = body_at k d; reports = rs }; payload = fixed_size k; end = fixed_size k })
fixed_front d k rs six e small other room none =
    found_front d (message d) _ (fixed_size k) (fixed_size k) _ (fixed_whole d six k (sym e) small other room)
    (meant_body_only (number_at 2 0 d) (body_at k d) rs none) none (omega arith) room (rw sub_self)

-- from the first message to the only one
module _ (d : List ℕ) where
  pub still_refused : (n : ℕ) → message d ≡ fault n → datagram d ≡ fault n
  unfolding datagram
  still_refused n e = rw e

  module _ (r : Front) (h : FrontIn d (message d) r) where
    pub extra : r.end < length d → datagram d ≡ fault 13
    unfolding datagram
    extra l = rw h.left (more (wire_in (message d)) (drop r.end d) (rw length-drop (omega arith)))

    pub alone : length d ≤ r.end → FrontIn d (datagram d) r
    unfolding datagram
    alone l =
        let e : message d ≡ got (wire_in (message d)) [] = h.left ∙ rw (drop_of_length-le d {i = r.end} l) in
        rw (ended_alone (message d) (wire_in (message d)) e) h

-- the end of the message at a place inside a queue, from the size of what was read there
pub end_found : (queue : List ℕ) (at : ℕ) (r : Front) → FrontIn (drop at queue) (message (drop at queue)) r → at ≤ length queue → at + r.end ≡ message_end queue at
unfolding message_end
end_found queue at r h inside = rw h.left (omega (arith, h.within, length-drop at queue, length-drop r.end (drop at queue)))

-- a datagram that reads has nothing after its message, so that its payload is its last part
no_fault : (n : ℕ) (w : Wire) (left : List ℕ) → fault n ≡ got w left → ⊥
no_fault n w left e = let z : ◌≡◌ {A = ℕ} 0 1 = cc in omega arith

same_left : (v w : Wire) (l left : List ℕ) → got v l ≡ got w left → left ≡ l
same_left v w l left e = cc

ended_left : (g : Reading Wire) (w : Wire) (left : List ℕ) → and_then g ended ≡ got w left → left ≡ []
ended_left (got v []) w left e = same_left v w [] left e
ended_left (got v (b ∷ bs)) w left e = absurd (no_fault 13 w left e)
ended_left (fault n) w left e = absurd (no_fault n w left e)

nothing_left : (d : List ℕ) (w : Wire) (left : List ℕ) → datagram d ≡ got w left → left ≡ []
unfolding datagram
nothing_left d = ended_left (message d)

module _ (d : List ℕ) where
  pub payload_none : (n : ℕ) → datagram d ≡ fault n → PayloadAs d []
  payload_none n e =
      let none : payload_in d ≡ [] = ap (λ (g : Reading Wire). (wire_in g).payload) e in
      record { part = rw (none, sub-zero) (sym (drop-length d)); payload = sym none }

  pub payload_front : (r : Front) → FrontIn d (datagram d) r → PayloadAs d (take (r.end - r.payload) (drop r.payload d))
  payload_front r h =
      let none : drop r.end d ≡ [] = nothing_left d (wire_in (datagram d)) (drop r.end d) h.left in
      let all : r.end ≡ length d = omega (arith, ap length none, length-drop r.end d, h.within) in
      let start : r.payload ≡ length d - length (payload_in d) = omega (arith, h.start) in
      record {
        part = rw (all, ← start) (take_all (length d - r.payload) (drop r.payload d) (rw length-drop (omega arith)));
        payload = h.payload;
      }
