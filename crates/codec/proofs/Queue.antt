-- A queue cut into its messages by `message_end`: a loop over it ends, loses no byte, and cuts what was written back to back into the messages written.
use borrow.Author.Tests.{lt-ltb, le-ltb, ltb-true, ltb-false}
use mathlib.Core.Path.{◌≡◌, refl, sym}
use mathlib.Core.Bool.{Bool, true, false}
use mathlib.Core.List.{List, [], ◌∷◌, ◌++◌, append_assoc, append-nil, map, flatten}
use Prim.Native.Nat.{ℕ, zero, suc, ◌+◌, ◌-◌, ◌<◌, ◌≤◌}
use native.Mathlib.Omega.{arith}
use lib.Dec.{ltb}
use lib.ListN.{length, take, drop, length-append, length-drop, take-append-drop, drop_of_length-le}
use lib.Seq.{take-append_seam, drop-append_seam, drop-drop}
use Rattle.base.specs.Pick.{pick}
use Rattle.codec.specs.Message.{Wire, Fits, FitAll}
use Rattle.codec.specs.Bytes.{bytes, queue_of}
use Rattle.codec.specs.Read.{number, part, message, datagram, wire_in}
use Rattle.codec.specs.Read.Reading.{fault}
use Rattle.codec.specs.Calls.{message_end, cut_from, cut}
use Rattle.codec.proofs.Left.{message_shortens}
use Rattle.codec.proofs.Laws.{message-bytes, read-bytes, least}

-- a loop from end to end comes to the queue's end
pub message_end_inside : (queue : List ℕ) (at : ℕ) → at < length queue → (at < message_end queue at) × (message_end queue at ≤ length queue)
unfolding message_end
message_end_inside queue at h =
    let l = length-drop at queue in
    let s = message_shortens (drop at queue) (omega arith) in
    (omega arith, omega arith)

pub message_end_past : (queue : List ℕ) (at : ℕ) → length queue ≤ at → message_end queue at ≡ length queue
unfolding message_end message number part
message_end_past queue at h = rw (drop_of_length-le queue {i = at} h) (omega arith)

-- bytes that cannot be read are one message, up to the queue's end
pub message_end_unread : (queue : List ℕ) (at n : ℕ) → message (drop at queue) ≡ fault n → message_end queue at ≡ length queue
unfolding message_end
message_end_unread queue at n e = rw e (omega arith)

-- a message that was written ends where its bytes end, whatever stands before and after it
pub message_end_written : (front : List ℕ) (w : Wire) (rest : List ℕ) → Fits w
    → message_end (front ++ (bytes w ++ rest)) (length front) ≡ length front + length (bytes w)
unfolding message_end
message_end_written front w rest h = rw (drop-append_seam front (bytes w ++ rest), message-bytes w rest h) (simp length-append (omega arith))

-- messages queued behind others: their bytes come behind the others'
pub queue-append : (xs ys : List Wire) → queue_of (xs ++ ys) ≡ queue_of xs ++ queue_of ys
unfolding flatten
queue-append [] ys = refl
queue-append (x ∷ xs) ys = rw (queue-append xs ys) (sym (append_assoc (bytes x) (queue_of xs) (queue_of ys)))

-- whatever the queue holds, its datagrams one after another are the queue
pub cut_whole : (queue : List ℕ) (k at : ℕ) → length queue ≤ at + k → flatten (cut_from k queue at) ≡ drop at queue
unfolding cut_from flatten
cut_whole queue zero at l = sym (drop_of_length-le queue {i = at} (omega arith))
cut_whole queue (suc k) at l = go (ltb at (length queue)) refl (λ i. cut_whole queue k (message_end queue at) (omega (arith, i)))
  where
    go : (t : Bool) → ltb at (length queue) ≡ t
        → (at < message_end queue at → flatten (cut_from k queue (message_end queue at)) ≡ drop (message_end queue at) queue)
        → flatten (pick t (take (message_end queue at - at) (drop at queue) ∷ cut_from k queue (message_end queue at)) []) ≡ drop at queue
    go true e next =
        let i : at < message_end queue at = (message_end_inside queue at (ltb-true at (length queue) e)).0 in
        let j : at + (message_end queue at - at) ≡ message_end queue at = omega arith in
        let split = take-append-drop (message_end queue at - at) (drop at queue) in
        rw (next i) (rw (drop-drop, j) at split)
    go false e next = sym (drop_of_length-le queue {i = at} (ltb-false at (length queue) e))

-- messages that were written back to back are cut into just those
cut_from_lem : (front : List ℕ) (ws : List Wire) (k : ℕ) → FitAll ws → length ws ≤ k → cut_from k (front ++ queue_of ws) (length front) ≡ map bytes ws
unfolding cut_from flatten
cut_from_lem front [] zero h l = refl
cut_from_lem front [] (suc k) h l = rw (append-nil front, le-ltb (length front) (length front) (omega arith))
cut_from_lem front (w ∷ ws) zero h l = absurd (omega arith)
cut_from_lem front (w ∷ ws) (suc k) h l =
    let inside : length front < length (front ++ (bytes w ++ queue_of ws)) = simp length-append (omega (arith, least w)) in
    let size : length front + length (bytes w) - length front ≡ length (bytes w) = omega arith in
    let next : cut_from k (front ++ (bytes w ++ queue_of ws)) (length front + length (bytes w)) ≡ map bytes ws =
    simp (append_assoc, length-append) at (cut_from_lem (front ++ bytes w) ws k h.1 (omega arith)) in
    rw (
      lt-ltb (length front) (length (front ++ (bytes w ++ queue_of ws))) inside,
      message_end_written front w (queue_of ws) h.0,
      size,
      drop-append_seam front (bytes w ++ queue_of ws),
      take-append_seam (bytes w) (queue_of ws),
      next,
    )

-- of nothing there is no datagram
pub cut_none : cut [] ≡ []
unfolding cut_from
cut_none = refl

-- the queue's own length is count enough
pub cut-queue : (ws : List Wire) → FitAll ws → cut (queue_of ws) ≡ map bytes ws
unfolding flatten
cut-queue ws h = cut_from_lem [] ws (length (queue_of ws)) h (count ws)
  where
    count : (ws : List Wire) → length ws ≤ length (queue_of ws)
    count [] = omega arith
    count (w ∷ ws) = simp length-append (omega (arith, least w, count ws))

-- and the messages come back
pub read-queue : (ws : List Wire) → FitAll ws → map (λ d. wire_in (datagram d)) (cut (queue_of ws)) ≡ ws
read-queue ws h = rw (cut-queue ws h) (each ws h)
  where
    each : (ws : List Wire) → FitAll ws → map (λ d. wire_in (datagram d)) (map bytes ws) ≡ ws
    each [] h = refl
    each (w ∷ ws) h = rw (read-bytes w h.0, each ws h.1)

-- a place counted from another one on
pub end_from : (q : List ℕ) (a i : ℕ) → a + i < length q → message_end q (a + i) ≡ a + message_end (drop a q) i
unfolding message_end
end_from q a i h =
    let l = length-drop (a + i) q in
    let m = length-drop a q in
    let s = message_shortens (drop (a + i) q) (omega arith) in
    rw drop-drop (omega arith)

pub cut_shift : (k : ℕ) (q : List ℕ) (a i : ℕ) → cut_from k q (a + i) ≡ cut_from k (drop a q) i
unfolding cut_from
cut_shift zero q a i = refl
cut_shift (suc k) q a i = go (ltb (a + i) (length q)) refl (λ j. cut_shift k q a j)
  where
    go : (t : Bool) → ltb (a + i) (length q) ≡ t → ((j : ℕ) → cut_from k q (a + j) ≡ cut_from k (drop a q) j)
        → pick (ltb (a + i) (length q)) (take (message_end q (a + i) - (a + i)) (drop (a + i) q) ∷ cut_from k q (message_end q (a + i))) []
        ≡ pick (ltb i (length (drop a q))) (take (message_end (drop a q) i - i) (drop i (drop a q)) ∷ cut_from k (drop a q) (message_end (drop a q) i)) []
    go true e next =
        let h : a + i < length q = ltb-true (a + i) (length q) e in
        let l = length-drop a q in
        let f : ltb i (length (drop a q)) ≡ true = lt-ltb i (length (drop a q)) (omega arith) in
        let w : (a + message_end (drop a q) i) - (a + i) ≡ message_end (drop a q) i - i = omega arith in
        rw (e, f, end_from q a i h, next (message_end (drop a q) i), w, drop-drop) refl
    go false e next =
        let h : length q ≤ a + i = ltb-false (a + i) (length q) e in
        let l = length-drop a q in
        let f : ltb i (length (drop a q)) ≡ false = le-ltb i (length (drop a q)) (omega arith) in
        rw (e, f) refl

-- more turns than the queue is long change nothing
pub cut_enough : (k m : ℕ) (q : List ℕ) (at : ℕ) → length q ≤ at + k → length q ≤ at + m → cut_from k q at ≡ cut_from m q at
unfolding cut_from
cut_enough zero zero q at h g = refl
cut_enough zero (suc m) q at h g = rw (le-ltb at (length q) (omega arith)) refl
cut_enough (suc k) zero q at h g = rw (le-ltb at (length q) (omega arith)) refl
cut_enough (suc k) (suc m) q at h g = go (ltb at (length q)) refl (λ j l n. cut_enough k m q j l n)
  where
    go : (t : Bool) → ltb at (length q) ≡ t → ((j : ℕ) → length q ≤ j + k → length q ≤ j + m → cut_from k q j ≡ cut_from m q j)
        → pick t (take (message_end q at - at) (drop at q) ∷ cut_from k q (message_end q at)) []
        ≡ pick t (take (message_end q at - at) (drop at q) ∷ cut_from m q (message_end q at)) []
    go true e next =
        let i = message_end_inside q at (ltb-true at (length q) e) in
        rw (next (message_end q at) (omega (arith, i)) (omega (arith, i))) refl
    go false e next = refl

pub cut_first : (q : List ℕ) → 0 < length q → cut q ≡ take (message_end q 0) q ∷ cut (drop (message_end q 0) q)
unfolding cut_from
cut_first [] h = absurd (omega arith)
cut_first (x ∷ xs) h =
    let q = x ∷ xs in
    let e = message_end (x ∷ xs) 0 in
    let i = message_end_inside (x ∷ xs) 0 h in
    let l = length-drop e q in
    let z : e + 0 ≡ e = omega arith in
    let rest : cut_from (length xs) (drop e q) 0 ≡ cut_from (length xs) q e = sym (rw z at (cut_shift (length xs) q e 0)) in
    let enough : cut (drop e q) ≡ cut_from (length xs) (drop e q) 0 = cut_enough (length (drop e q)) (length xs) (drop e q) 0 (omega arith) (omega (arith, i, l)) in
    let y : e - 0 ≡ e = omega arith in
    rw (enough, rest, lt-ltb 0 (suc (length xs)) (omega arith), y) refl

pub cut_empty : (q : List ℕ) → length q ≡ 0 → cut q ≡ []
unfolding cut_from
cut_empty q e = rw e refl
