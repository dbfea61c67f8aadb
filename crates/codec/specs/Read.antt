-- Reading any bytes, field by field: the first fault wins (W-8 to W-10), and 13 comes last.
use Rattle.std.specs.Prelude.{Bool, true, false, List, [], ◌∷◌, ◌++◌, ℕ, zero, suc, ltb, length, take, drop}
use Rattle.base.specs.Pick.{pick}
use Rattle.base.specs.Little.{unle}
use Rattle.frame.specs.Bias.{bias32, bias16, bits_of}
use Rattle.ceilings.specs.Ceilings.{most_players, most_payload}
use Rattle.codec.specs.Message.{Wire}
use Rattle.codec.specs.declared.Wide.{Wide}
use Rattle.codec.specs.declared.StatusReport.{StatusReport}
use Rattle.codec.specs.declared.MessageBody.{MessageBody}
use Rattle.codec.specs.declared.MessageBody.TheVariants.{SyncRequest, SyncReply, Input, InputAck, QualityReport, QualityReply, ChecksumReport, KeepAlive}

-- a value and the bytes that are left, or the number of the fault
pub data Reading (A : Type 0) : Type 0 where
  got : A → List ℕ → Reading A
  fault : ℕ → Reading A

abbrev pub Reads : Type 0 → Type 0
Reads A = List ℕ → Reading A

-- one reading after another
abbrev pub and_then : {A B : Type 0} → Reading A → (A → Reads B) → Reading B
and_then (got a left) next = next a left
and_then (fault n) next = fault n

abbrev pub ◌>>=◌ : {A B : Type 0} → Reads A → (A → Reads B) → Reads B
◌>>=◌ first next d = and_then (first d) next

abbrev pub give : {A : Type 0} → A → Reads A
give a d = got a d

-- 9 where fewer than n bytes are left (N-9)
unfoldable pub part : ℕ → Reads (List ℕ)
part n d = pick (ltb (length d) n) (fault 9) (got (take n d) (drop n d))

unfoldable pub number : ℕ → Reads ℕ
number k = do
  bs ← part k
  give (unle bs)

-- 11 where the byte is neither 0 nor 1 (N-11)
abbrev pub flag_of : ℕ → Reads Bool
flag_of zero = give false
flag_of (suc zero) = give true
flag_of (suc (suc n)) = λ d. fault 11

unfoldable pub flag : Reads Bool
flag = do
  n ← number 1
  flag_of n

-- the number where a test holds
abbrev pub refuse : Bool → ℕ → Reads (Unit {0})
refuse test n d = pick test (fault n) (got tt d)

unfoldable pub frame : Reads ℕ
frame = do
  n ← number 4
  give (bits_of bias32 n)

unfoldable pub advantage : Reads ℕ
advantage = do
  n ← number 2
  give (bits_of bias16 n)

unfoldable pub wide : Reads Wide
wide = do
  low ← number 8
  high ← number 8
  give (record { low = low; high = high })

unfoldable pub report : Reads StatusReport
report = do
  disconnected ← flag
  last ← frame
  give (record { disconnected = disconnected; last_frame = last })

-- n reports, after those read already
unfoldable pub reports : ℕ → List StatusReport → Reads (List StatusReport)
reports zero rs = give rs
reports (suc n) rs = do
  r ← report
  reports n (rs ++ r ∷ [])

-- a message that is no Input
abbrev pub body_only : ℕ → MessageBody → Wire
body_only magic body = record { magic = magic; body = body; reports = []; payload = [] }

unfoldable pub input : ℕ → Reads Wire
input magic = do
  n ← number 8
  _ ← refuse (ltb most_players n) 12
  rs ← reports n []
  disconnect ← flag
  start ← frame
  ack ← frame
  b ← number 8
  _ ← refuse (ltb most_payload b) 12
  payload ← part b
  give (record { magic = magic; body = Input disconnect start ack; reports = rs; payload = payload })

-- 10 for a kind above 7 (N-10)
unfoldable pub kinds : ℕ → ℕ → Reads Wire
kinds zero magic = do
  nonce ← number 4
  give (body_only magic (SyncRequest nonce))
kinds (suc zero) magic = do
  nonce ← number 4
  give (body_only magic (SyncReply nonce))
kinds (suc (suc zero)) magic = input magic
kinds (suc (suc (suc zero))) magic = do
  ack ← frame
  give (body_only magic (InputAck ack))
kinds (suc (suc (suc (suc zero)))) magic = do
  behind ← advantage
  ping ← wide
  give (body_only magic (QualityReport behind ping))
kinds (suc (suc (suc (suc (suc zero))))) magic = do
  pong ← wide
  give (body_only magic (QualityReply pong))
kinds (suc (suc (suc (suc (suc (suc zero)))))) magic = do
  checksum ← wide
  at ← frame
  give (body_only magic (ChecksumReport checksum at))
kinds (suc (suc (suc (suc (suc (suc (suc zero))))))) magic = give (body_only magic KeepAlive)
kinds (suc (suc (suc (suc (suc (suc (suc (suc n)))))))) magic = λ d. fault 10

-- one message, and what stands after it
unfoldable pub message : Reads Wire
message = do
  magic ← number 2
  kind ← number 4
  kinds kind magic

-- 13 where bytes are left (N-13)
abbrev pub ended : Wire → Reads Wire
ended w [] = got w []
ended w (b ∷ bs) = fault 13

-- a datagram: one message and nothing after it
unfoldable pub datagram : Reads Wire
datagram = do
  w ← message
  ended w

-- what a reading answers: its number, its message (a blank one for a fault), the bytes that are left
abbrev pub number_in : {A : Type 0} → Reading A → ℕ
number_in (got a left) = 0
number_in (fault n) = n

abbrev pub blank_wire : Wire
blank_wire = body_only 0 KeepAlive

abbrev pub wire_in : Reading Wire → Wire
wire_in (got w left) = w
wire_in (fault n) = blank_wire

abbrev pub left_in : {A : Type 0} → Reading A → List ℕ
left_in (got a left) = left
left_in (fault n) = []
