-- 5 of events and send buffer: what the call would add does not fit (N-5).
use Rattle.std.specs.Prelude.{Bool, false, not, ◌||◌, List, ℕ, ◌+◌, ltb, length}
use Rattle.base.specs.Pick.{pick}
use Rattle.events.specs.declared.Entry.{Entry}
use Rattle.events.specs.Events.{has_room}
use Rattle.outbox.specs.Outbox.{queue_size}
use Rattle.endpoint_rules.specs.Did.{Effect}

-- with more events than 640 waiting (C-13)
abbrev pub events_full : List Entry → List Entry → Bool
events_full held more = not (has_room held (length more))

-- with more bytes queued than the send buffer has; a call that adds none does not ask for room (N-25)
unfoldable pub buffer_full : (buffer queued bytes : ℕ) → Bool
buffer_full buffer queued bytes = pick (ltb 0 bytes) (ltb buffer (queued + bytes)) false

unfoldable pub is_full : (buffer : ℕ) → Effect → Bool
is_full buffer e = events_full e.state.events e.events || buffer_full buffer e.state.queued (queue_size e.out)
