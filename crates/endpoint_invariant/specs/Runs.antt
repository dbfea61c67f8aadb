-- Calls one after the other: what they announce, and what is taken of it.
use Rattle.std.specs.Prelude.{List, [], ◌∷◌, ◌++◌, ◌≡◌, ℕ, eqb, take}
use Rattle.base.specs.Pick.{pick}
use Rattle.base.specs.Lay.{laid_at}
use Rattle.codec.specs.Message.{Wire, FitAll}
use Rattle.codec.specs.Bytes.{queue_of}
use Rattle.events.specs.declared.Entry.{Entry}
use Rattle.endpoint_rules.specs.Seen.{Seen}
use Rattle.endpoint_rules.specs.Call.{Call}
use Rattle.endpoint_rules.specs.Step.{step}

-- the state after a run
unfoldable pub ran : List Call → Seen → Seen
ran [] s = s
ran (c ∷ cs) s = ran cs (step c s).after

-- the events announced in it
unfoldable pub all_announced : List Call → Seen → List Entry
all_announced [] s = []
all_announced (c ∷ cs) s = (step c s).events ++ all_announced cs (step c s).after

-- what one call hands back of the events
abbrev pub handed : Call → Seen → List Entry
handed (Call.synchronize now epoch nonce buffer) s = []
handed (Call.message from count w now epoch nonce buffer) s = []
handed (Call.datagram from bytes now epoch nonce buffer) s = []
handed (Call.act count statuses now epoch nonce buffer) s = []
handed (Call.send_input frame bytes count statuses now buffer) s = []
handed (Call.disconnect now) s = []
handed (Call.send_checksum_report frame checksum now buffer) s = []
handed (Call.update_local_frame_advantage local_frame) s = []
handed (Call.network_stats epoch) s = []
handed (Call.peer_connect_status handle) s = []
handed Call.take_events s = s.events
handed (Call.take_messages buffer) s = []
handed (Call.ask question) s = []

unfoldable pub all_handed : List Call → Seen → List Entry
all_handed [] s = []
all_handed (c ∷ cs) s = handed c s ++ all_handed cs (step c s).after

-- ---- the send queue, with the same buffer lent each time

-- the length of the buffer that a call is lent; of one that is lent none, a length given
abbrev pub lent_to : Call → ℕ → ℕ
lent_to (Call.synchronize now epoch nonce buffer) n = buffer
lent_to (Call.message from count w now epoch nonce buffer) n = buffer
lent_to (Call.datagram from bytes now epoch nonce buffer) n = buffer
lent_to (Call.act count statuses now epoch nonce buffer) n = buffer
lent_to (Call.send_input frame bytes count statuses now buffer) n = buffer
lent_to (Call.disconnect now) n = n
lent_to (Call.send_checksum_report frame checksum now buffer) n = buffer
lent_to (Call.update_local_frame_advantage local_frame) n = n
lent_to (Call.network_stats epoch) n = n
lent_to (Call.peer_connect_status handle) n = n
lent_to Call.take_events n = n
lent_to (Call.take_messages buffer) n = buffer
lent_to (Call.ask question) n = n

-- every call of a run is lent a buffer of one length, and queues only messages that their bytes determine
unfoldable pub Lent : ℕ → List Call → Seen → Type 0
Lent n [] s = Unit {0}
Lent n (c ∷ cs) s = (lent_to c n ≡ n) × FitAll (step c s).out × Lent n cs (step c s).after

-- the buffer after a call, and after a run
abbrev pub lent_after : Call → List ℕ → Seen → List ℕ
lent_after c b s = laid_at b s.queued (queue_of (step c s).out)

unfoldable pub lent_ran : List Call → List ℕ → Seen → List ℕ
lent_ran [] b s = b
lent_ran (c ∷ cs) b s = lent_ran cs (lent_after c b s) (step c s).after

-- the bytes that leave the queue when messages are taken: handed back, or dropped in Shutdown
abbrev pub gone : Call → List ℕ → Seen → List ℕ
gone (Call.synchronize now epoch nonce buffer) b s = []
gone (Call.message from count w now epoch nonce buffer) b s = []
gone (Call.datagram from bytes now epoch nonce buffer) b s = []
gone (Call.act count statuses now epoch nonce buffer) b s = []
gone (Call.send_input frame bytes count statuses now buffer) b s = []
gone (Call.disconnect now) b s = []
gone (Call.send_checksum_report frame checksum now buffer) b s = []
gone (Call.update_local_frame_advantage local_frame) b s = []
gone (Call.network_stats epoch) b s = []
gone (Call.peer_connect_status handle) b s = []
gone Call.take_events b s = []
gone (Call.take_messages buffer) b s = pick (eqb (step (Call.take_messages buffer) s).answer 0) (take s.queued b) []
gone (Call.ask question) b s = []

unfoldable pub all_gone : List Call → List ℕ → Seen → List ℕ
all_gone [] b s = []
all_gone (c ∷ cs) b s = gone c b s ++ all_gone cs (lent_after c b s) (step c s).after

-- the messages queued in a run
unfoldable pub all_out : List Call → Seen → List Wire
all_out [] s = []
all_out (c ∷ cs) s = (step c s).out ++ all_out cs (step c s).after
