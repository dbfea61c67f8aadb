-- The messages that an act in Running queues: which they are, and what it is to write several where all of them fit.
use Rattle.std.specs.Prelude.{false, List, [], ◌∷◌, ◌++◌, ◌≡◌, ℕ, ◌+◌, length}
use Rattle.base.specs.Pick.{pick}
use Rattle.base.specs.Lay.{laid_at}
use Rattle.ceilings.specs.Ceilings.{most_width}
use Rattle.packing.specs.declared.input_bytes.InputBytes.{InputBytes}
use Rattle.status.specs.declared.ConnectionStatus.{ConnectionStatus}
use Rattle.codec.specs.Message.{Wire}
use Rattle.codec.specs.Bytes.{queue_of}
use Rattle.codec.specs.Read.{body_only}
use Rattle.codec.specs.declared.MessageBody.TheVariants.{QualityReport, KeepAlive}
use Rattle.quality.specs.Quality.{clamped}
use Rattle.outbox.specs.Outbox.{queue_size, pending_input}
use Rattle.endpoint_rules.specs.Room.{buffer_full}
use Rattle.endpoint_rules.specs.Reports.{ping_of}
use Rattle.endpoint.specs.declared.act.due.Due.{Due}

-- report and keepalive, each where it is due
unfoldable pub due_reports : Due → (magic advantage epoch : ℕ) → List Wire
due_reports d magic advantage epoch =
    pick d.report (body_only magic (QualityReport (clamped advantage) (ping_of epoch)) ∷ []) [] ++ pick d.keep_alive (body_only magic KeepAlive ∷ []) []

-- the pending inputs, where they are due, and then these
unfoldable pub batch : Due → (magic ack : ℕ) → List ConnectionStatus → (pending : List InputBytes) → (width : ℕ) → (acked : InputBytes) → (advantage epoch : ℕ) → List Wire
batch d magic ack statuses pending width acked advantage epoch =
    pick d.input (pending_input magic ack statuses pending width acked ∷ []) [] ++ due_reports d magic advantage epoch

-- their size, whatever their numbers and the last acknowledged input are
abbrev pub SizedWith : Due → List ConnectionStatus → List InputBytes → ℕ → (size : ℕ) → Type 0
SizedWith d statuses pending width size =
    (acked : InputBytes) → length acked.bytes ≡ most_width → (magic ack advantage epoch : ℕ) → queue_size (batch d magic ack statuses pending width acked advantage epoch) ≡ size

-- messages written at a place, and where they end
pub record BatchWrittenAs (buffer : List ℕ) (at : ℕ) (ws : List Wire) (stop : ℕ) (buffer' : List ℕ) : Type 0 where
  pub end : stop ≡ at + queue_size ws
  pub lent : buffer' ≡ laid_at buffer at (queue_of ws)
  pub long : length (queue_of ws) ≡ queue_size ws

-- nothing is said where they do not fit
abbrev pub WrittenWhere : (buffer : List ℕ) → (at : ℕ) → List Wire → (stop : ℕ) → (buffer' : List ℕ) → Type 0
WrittenWhere buffer at ws stop buffer' = buffer_full (length buffer) at (queue_size ws) ≡ false → BatchWrittenAs buffer at ws stop buffer'
