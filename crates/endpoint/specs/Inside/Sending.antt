-- What is seen of the inputs sent: those that pend, and the last acknowledged one.
use Rattle.packing.specs.declared.input_bytes.InputBytes.{InputBytes}
use Rattle.pending.specs.declared.Pending.{Pending}
use Rattle.pending.specs.Pending.{waiting}
use Rattle.endpoint_rules.specs.Seen.{Sender}

abbrev pub sent : Pending → InputBytes → Sender
sent pending acked = record { pending = waiting pending; acked = acked }
