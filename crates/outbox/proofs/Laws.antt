-- What other crates cite of a queue: what a call answers with and without room, and messages written one after another.
use borrow.Author.Tests.{lt-ltb, le-ltb}
use mathlib.Core.Bool.{Bool, true, false}
use mathlib.Core.List.{List, [], ◌∷◌, flatten}
use mathlib.Core.Path.{◌≡◌, refl, ◌∙◌, ap}
use Prim.Native.Nat.{ℕ, ◌+◌, ◌<◌, ◌≤◌}
use native.Mathlib.Omega.{arith}
use lib.ListN.{length, length-append}
use Rattle.std.specs.Prelude.{Result, Ok, Err}
use Rattle.base.specs.Lay.{laid_at}
use Rattle.base.proofs.Lay.{laid_none, laid_length, laid_join}
use Rattle.answer.specs.declared.Refusal.{Refusal}
use Rattle.answer.specs.declared.Refusal.TheVariants.{Full}
use Rattle.codec.specs.Message.{Wire, Fits, FitAll, table_size}
use Rattle.codec.specs.Bytes.{bytes, queue_of}
use Rattle.codec.proofs.Laws.{bytes-length}
use Rattle.outbox.specs.Outbox.{queue_size, QueuedAs}

-- a test does not hold and fail
pub apart : (t : Bool) → t ≡ true → t ≡ false → ⊥
apart true e f = let z : ◌≡◌ {A = ℕ} 0 1 = cc in omega arith
apart false e f = let z : ◌≡◌ {A = ℕ} 0 1 = cc in omega arith

-- the two answers
module _ (b : List ℕ) (at : ℕ) (w : Wire) (b' : List ℕ) where
  pub queued_room : (r : Result ℕ Refusal) → QueuedAs b at w r b' → at + table_size w ≤ length b
      → (r ≡ Ok (at + table_size w)) × (b' ≡ laid_at b at (bytes w)) × Fits w
  queued_room (Ok next) h room = (ap Ok h.end, h.lent, h.fits)
  queued_room (Err refusal) h room = absurd (apart _ h.0 (le-ltb _ _ room))

  pub queued_full : (r : Result ℕ Refusal) → QueuedAs b at w r b' → length b < at + table_size w → (r ≡ Err Full) × (b' ≡ b)
  queued_full (Ok next) h over = absurd (apart _ (lt-ltb _ _ over) h.room)
  queued_full (Err refusal) h over = (ap Err h.1, h.2)

-- the bytes of messages are as many as the table says
pub bytes_size : (w : Wire) → Fits w → length (bytes w) ≡ table_size w
bytes_size = bytes-length

pub queue_size_lem : (ws : List Wire) → FitAll ws → length (queue_of ws) ≡ queue_size ws
unfolding queue_size flatten
queue_size_lem [] h = refl
queue_size_lem (w ∷ ws) h = length-append (bytes w) (queue_of ws) ∙ rw (bytes_size w h.0, queue_size_lem ws h.1)

-- a queue of no messages changes nothing
pub laid_out_none : (b : List ℕ) (at : ℕ) → laid_at b at (queue_of []) ≡ b
unfolding flatten
laid_out_none b at = laid_none b at

-- where a message and more behind it have room, these have it after the message is written, and written there they are one queue
module _ (b : List ℕ) (at : ℕ) (w : Wire) (ws : List Wire) (h : Fits w) (room : at + queue_size (w ∷ ws) ≤ length b) where
  pub room_left : at + table_size w + queue_size ws ≤ length (laid_at b at (bytes w))
  unfolding queue_size
  room_left =
      let n = bytes_size w h in
      rw (laid_length b at (bytes w) (omega arith)) (omega arith)

  pub laid_out : FitAll ws → laid_at (laid_at b at (bytes w)) (at + table_size w) (queue_of ws) ≡ laid_at b at (queue_of (w ∷ ws))
  unfolding queue_size flatten
  laid_out rest =
      let n = bytes_size w h in
      let m = queue_size_lem ws rest in
      rw (← n) (laid_join b at (bytes w) (queue_of ws) (omega arith))
