-- Where a message has room, the answer of its queueing is where it ends.
use Rattle.std.proofs.Common.{◌≡◌, refl, ℕ, List, false, Result, Ok, Err}
use Rattle.std.specs.Result.{result_unwrap_or}
use Rattle.base.specs.Lay.{no_room}
use Rattle.answer.specs.declared.Refusal.{Refusal}
use Rattle.codec.specs.Message.{Wire, table_size}
use Rattle.outbox.specs.Outbox.{QueuedAs}

pub queued_room : (b : List ℕ) (at : ℕ) (w : Wire) (b' : List ℕ) (r : Result ℕ Refusal) (d : ℕ) → QueuedAs b at w r b' → no_room b at (table_size w) ≡ false → r ≡ Ok (result_unwrap_or r d)
queued_room b at w b' (Ok q) d h room = refl
queued_room b at w b' (Err r) d h room = let x = h.0 in cc
