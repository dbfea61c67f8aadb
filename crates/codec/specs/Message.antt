-- A message as a value: its kind, its size, and which values its bytes determine.
use Rattle.std.specs.Prelude.{◌≡◌, Bool, true, false, List, [], ◌∷◌, ℕ, ◌+◌, ◌*◌, ◌^◌, ◌<◌, ◌≤◌}
use lib.ListN.{length, take, get_or}
use Rattle.base.specs.Pick.{pick}
use Rattle.base.specs.Little.{Bytes}
use Rattle.ceilings.specs.Ceilings.{most_players, most_payload}
use Rattle.codec.specs.Sizes.{fixed_size}
use Rattle.codec.specs.declared.Wide.{Wide}
use Rattle.codec.specs.declared.StatusReport.{StatusReport}
use Rattle.fixed_vec.specs.declared.FixedVec.{FixedVec}
use Rattle.codec.specs.declared.Message.{Message}
use Rattle.codec.specs.declared.MessageBody.{MessageBody}
use Rattle.codec.specs.declared.MessageBody.TheVariants.{SyncRequest, SyncReply, Input, InputAck, QualityReport, QualityReply, ChecksumReport, KeepAlive}

-- a message with its status list and its payload
pub record Wire : Type 0 where
  pub magic : ℕ
  pub body : MessageBody
  pub reports : List StatusReport
  pub payload : List ℕ

unfoldable pub kind_of : MessageBody → ℕ
kind_of (SyncRequest n) = 0
kind_of (SyncReply n) = 1
kind_of (Input d s a) = 2
kind_of (InputAck a) = 3
kind_of (QualityReport a p) = 4
kind_of (QualityReply p) = 5
kind_of (ChecksumReport c f) = 6
kind_of KeepAlive = 7

unfoldable pub is_input : MessageBody → Bool
is_input (SyncRequest n) = false
is_input (SyncReply n) = false
is_input (Input d s a) = true
is_input (InputAck a) = false
is_input (QualityReport a p) = false
is_input (QualityReply p) = false
is_input (ChecksumReport c f) = false
is_input KeepAlive = false

-- what the code calls StatusReports
abbrev pub Reports : Type 0
Reports = FixedVec StatusReport most_players

-- the list that a status array with a count holds
abbrev pub report_list : Reports → List StatusReport
report_list r = take r.count r.list

-- what a message struct with a payload beside it stands for: only an Input has reports and a payload
unfoldable pub meant : Message → List ℕ → Wire
meant m payload =
    record {
      magic = m.magic;
      body = m.body;
      reports = pick (is_input m.body) (report_list m.reports) [];
      payload = pick (is_input m.body) payload [];
    }

-- the bytes of a message by the table: an Input adds 5 per status and 1 per payload byte
unfoldable pub size_with : MessageBody → ℕ → ℕ → ℕ
size_with body statuses n = fixed_size (kind_of body) + pick (is_input body) (5 * statuses + n) 0

-- the same table by the body's case, in a form that computes on a literal body: with n statuses and b payload bytes
abbrev pub body_size : MessageBody → ℕ → ℕ → ℕ
body_size (SyncRequest nonce) n b = fixed_size 0
body_size (SyncReply nonce) n b = fixed_size 1
body_size (Input disconnect start ack) n b = fixed_size 2 + 5 * n + b
body_size (InputAck ack) n b = fixed_size 3
body_size (QualityReport advantage ping) n b = fixed_size 4
body_size (QualityReply pong) n b = fixed_size 5
body_size (ChecksumReport checksum frame) n b = fixed_size 6
body_size KeepAlive n b = fixed_size 7

abbrev pub table_size : Wire → ℕ
table_size w = body_size w.body (length w.reports) (length w.payload)

abbrev pub FitsWide : Wide → Type 0
FitsWide x = (x.low < 2 ^ 64) × (x.high < 2 ^ 64)

-- every field has its width, and only an Input has reports and a payload
abbrev pub FitsBody : MessageBody → Type 0
FitsBody (SyncRequest n) = n < 2 ^ 32
FitsBody (SyncReply n) = n < 2 ^ 32
FitsBody (Input d s a) = (s < 2 ^ 32) × (a < 2 ^ 32)
FitsBody (InputAck a) = a < 2 ^ 32
FitsBody (QualityReport a p) = (a < 2 ^ 16) × FitsWide p
FitsBody (QualityReply p) = FitsWide p
FitsBody (ChecksumReport c f) = FitsWide c × (f < 2 ^ 32)
FitsBody KeepAlive = Unit {0}

abbrev pub FitsReports : List StatusReport → Type 0
FitsReports rs = (i : ℕ) (d : StatusReport) → i < length rs → (get_or rs i d).last_frame < 2 ^ 32

-- the messages that their bytes determine
pub record Fits (w : Wire) : Type 0 where
  pub magic : w.magic < 2 ^ 16
  pub body : FitsBody w.body
  pub frames : FitsReports w.reports
  pub statuses : length w.reports ≤ most_players
  pub length : lib.ListN.length w.payload ≤ most_payload
  pub bytes : Bytes w.payload
  pub none : is_input w.body ≡ false → (w.reports ≡ []) × (w.payload ≡ [])

abbrev pub FitAll : List Wire → Type 0
FitAll [] = Unit {0}
FitAll (w ∷ ws) = Fits w × FitAll ws
