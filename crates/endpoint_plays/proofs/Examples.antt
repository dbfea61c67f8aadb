-- Worked: for every version that meets the contracts a play with the calls of the exchange that `endpoint_delivery` computes (`sample` in its proofs/Examples.antt). Each owner
-- lends one buffer to all its calls. Of seven Inputs two are lost, one comes late and one twice; one comes as a datagram that is cut out of what `messages` hands back. A send on the
-- way is refused. Four frames arrive at the one side, three at the other.
use mathlib.Core.Bool.{Bool, true, false}
use mathlib.Core.List.{List, [], ◌∷◌, ◌++◌, flatten, Memᴰ as Mem}
use mathlib.Core.Logic.{inl, inr}
use mathlib.Core.Path.{◌≡◌, refl, sym, ap, ◌∙◌}
use native.Mathlib.Omega.{arith}
use Prim.Native.Nat.{ℕ, suc, ◌+◌, ◌^◌, ◌≤◌, ◌<◌}
use lib.ListN.{length, replicate, length-replicate, length-map, length-take}
use Rattle.base.specs.Keyed.{has}
use Rattle.frame.specs.Bias.{null_frame}
use Rattle.packing.specs.Packing.{frame_count}
use Rattle.packing.specs.Pad.{padded}
use Rattle.status.specs.Status.{default_status}
use Rattle.status.specs.Statuses.{held_statuses}
use Rattle.status.specs.declared.list.Statuses.{Statuses}
use Rattle.codec.specs.Message.{Reports, FitsBody, FitAll}
use Rattle.codec.specs.Bytes.{bytes, queue_of}
use Rattle.codec.specs.Read.{body_only}
use Rattle.codec.specs.declared.StatusReport.{StatusReport}
use Rattle.codec.specs.declared.Message.{Message}
use Rattle.codec.specs.declared.MessageBody.{MessageBody}
use Rattle.codec.specs.declared.MessageBody.TheVariants.{SyncReply, Input, InputAck}
use Rattle.codec.proofs.Laws.{read-bytes}
use Rattle.codec.proofs.Meant.{meant_body_only, meant-input}
use Rattle.codec.proofs.Octets.{bytes_none, bytes-bytes}
use Rattle.codec.specs.Calls.{cut}
use Rattle.codec.proofs.Queue.{queue-append, cut-queue}
use Rattle.pending.specs.Pending.{last_frame}
use Rattle.history.specs.History.{blank_frame, received}
use Rattle.setup.specs.declared.Setup.{Setup}
use Rattle.setup.specs.Setup.{Terms, bad_setup, any_above, any_twice, inserted, sorted, terms_with}
use Rattle.outbox.proofs.Laws.{bytes_size}
use Rattle.endpoint_rules.specs.Call.{Call}
use Rattle.endpoint_rules.specs.Seen.{Seen, is_running, made}
use Rattle.endpoint_rules.specs.Did.{refused, tested}
use Rattle.endpoint_rules.specs.Sending.{bad_frame}
use Rattle.endpoint_rules.specs.Step.{fresh, send_step, take_step, step}
use Rattle.endpoint_rules.specs.Value.{filled_part, handed_back, value_of}
use Rattle.endpoint_rules.proofs.Datagrams.{bytes-message}
use Rattle.endpoint_rules.proofs.Bouts.{fr, epoch_at, hand, starting}
use Rattle.endpoint_invariant.specs.Each.{Each}
use Rattle.endpoint_invariant.specs.Typed.{TypedSetup}
use Rattle.endpoint_invariant.proofs.Examples.{small_typed}
use Rattle.endpoint_invariant.proofs.Padding.{bytes-zeros}
use Rattle.endpoint_invariant.proofs.Sound.{step_fits}
use Rattle.endpoint_delivery.specs.Frames.{last_announced}
use Rattle.endpoint_delivery.specs.Runs as Run
use Rattle.endpoint_delivery.specs.Runs.{End, next, Allowed}
use Rattle.endpoint_delivery.proofs.Lists.{here, there}
use Rattle.endpoint_delivery.proofs.Examples as Sample
use Rattle.endpoint_delivery.proofs.Examples.{wide, narrow, send, input, ack, nexts, greeting, bytes_typed, frame, frame_with, given, I0, I1, I3, J1, J2, I3_fits}
use Rattle.endpoint.specs.declared.Endpoint.{Endpoint}
use Rattle.endpoint.specs.Endpoint.{seen}
use Rattle.endpoint_version.specs.Values.{IsSlice, IsStatuses, IsMessage, IsEndpoint}
use Rattle.endpoint_version.specs.Version.{Version, Asked, IsAsked, call_of, number_from, queued_by}
use Rattle.endpoint_version.specs.Meets.{Meets}
use Rattle.endpoint_version.proofs.Asked.{asked_typed}
use Rattle.endpoint_version.proofs.Right.{right, right_meets}
use Rattle.endpoint_plays.specs.Sides.{Side, after, taking, starts, waiting_after, shown, announced_by}
use Rattle.endpoint_plays.specs.Plays.{Play}
use Rattle.endpoint_plays.specs.Delivered.{width_of, Delivered, Heard, Heeded, Ready, EachBrings}
use Rattle.endpoint_plays.specs.Buffers.{Holds, Lends, lent_after}
use Rattle.endpoint_plays.proofs.Written.{queued_bytes, queued_messages}
use Rattle.endpoint_plays.proofs.Runs.{Kept, starts-kept, after_kept, taking-kept, after-shown, taking-shown, play_runs}
use Rattle.endpoint_plays.proofs.Delivered.{announced-shown, delivered, delivers}
use Rattle.endpoint_plays.proofs.Queued.{both_fit}
use Rattle.endpoint_plays.proofs.Waiting.{holds_after, holds_taking, holds_starts, cut_allowed}
use Rattle.endpoint_plays.proofs.Lent.{buffer_again}

-- ---- an owner lends one buffer to every call

pub record Owner : Type 0 where
  pub side : Side
  pub buffer : List ℕ

-- a call that is lent the buffer
abbrev pub Lending : Type 0
Lending = List ℕ → Asked

abbrev pub asks : Version → Lending → Owner → Owner
asks v c o = record { side = after v (c o.buffer) o.side; buffer = lent_after v o.side.endpoint (c o.buffer) o.buffer }

-- calls one after the other
unfoldable pub plays : Version → List Lending → Owner → Owner
plays v [] o = o
plays v (c ∷ cs) o = plays v cs (asks v c o)

-- its events are taken
abbrev takes : Version → Owner → Owner
takes v o = record { side = taking v o.side; buffer = o.buffer }

-- an endpoint that `new` makes at clock 1000, and a buffer of zeros
abbrev pub new : Version → Setup → Owner
new v g = record { side = starts v g 1000; buffer = replicate 65536 0 }

-- such a call, asked with values and lent 65,536 bytes, is a call of the rules; what it queues waits behind what waited
pub record Is (c : Lending) (r : Call) : Type 0 where
  pub asked : (out : List ℕ) → IsSlice out → IsAsked (c out)
  pub lends : (out : List ℕ) → Lends out (c out)
  pub call : (out : List ℕ) → length out ≡ 65536 → call_of (c out) ≡ r
  pub number : (v : Version) → Meets v → (e : Endpoint) → IsEndpoint e → (out : List ℕ) → IsAsked (c out) → number_from v e (c out) ≡ (step (call_of (c out)) (seen e)).answer
  pub waits : (v : Version) (e : Endpoint) (out l : List ℕ) → waiting_after v e (c out) l ≡ l ++ queued_by v e (c out)

-- each of some calls is one of the rules' calls, in their order
pub data Are : List Lending → List Call → Type 0 where
  none : Are [] []
  more : {c : Lending} {r : Call} {cs : List Lending} {rs : List Call} → Is c r → Are cs rs → Are (c ∷ cs) (r ∷ rs)

-- ---- what holds of an owner after any such calls

pub record Able (v : Version) (m : Meets v) (o : Owner) : Type 0 where
  pub kept : Kept v m o.side
  pub slice : IsSlice o.buffer
  pub size : length o.buffer ≡ 65536
  pub holds : Holds o.buffer o.side
  -- no message was taken
  pub fit : FitAll o.side.queued
  pub whole : o.side.waiting ≡ queue_of o.side.queued

module _ (v : Version) (m : Meets v) where
  new_able : (g : Setup) → TypedSetup g → Kept v m (starts v g 1000) → Able v m (new v g)
  unfolding flatten
  new_able g t k =
      let n : length {A = ℕ} (replicate 65536 0) ≡ 65536 = length-replicate {A = ℕ} 65536 0 in
      record { kept = k; slice = (bytes-zeros 65536, omega arith); size = n; holds = holds_starts v m g 1000 t (omega arith) (replicate 65536 0); fit = tt; whole = refl }

  pub asks_able : (c : Lending) (r : Call) → Is c r → (o : Owner) → Able v m o → Able v m (asks v c o)
  asks_able c r i o a =
      let q : IsAsked (c o.buffer) = i.asked o.buffer a.slice in
      let again = buffer_again v m o.side a.kept (c o.buffer) q o.buffer (i.lends o.buffer) a.slice in
      let e : Endpoint = o.side.endpoint in
      let g = a.kept.good in
      record {
        kept = after_kept v m o.side a.kept (c o.buffer) q;
        slice = again.0;
        size = again.1 ∙ a.size;
        holds = holds_after v m o.side a.kept (c o.buffer) q o.buffer (i.lends o.buffer) a.holds;
        fit = rw (queued_messages v m e g (c o.buffer) q)
            (both_fit o.side.queued (step (call_of (c o.buffer)) (seen e)).out a.fit (step_fits (call_of (c o.buffer)) (asked_typed (c o.buffer) q) (seen e) g.sound));
        whole = i.waits v e o.buffer o.side.waiting
            ∙ rw (a.whole, queued_messages v m e g (c o.buffer) q, queued_bytes v m e g (c o.buffer) q) (sym (queue-append o.side.queued (step (call_of (c o.buffer)) (seen e)).out));
      }

  takes_able : (o : Owner) → Able v m o → Able v m (takes v o)
  takes_able o a =
      record {
        kept = taking-kept v m o.side a.kept;
        slice = a.slice;
        size = a.size;
        holds = holds_taking v m o.side a.kept o.buffer a.holds;
        fit = a.fit;
        whole = a.whole;
      }

  plays_able : {cs : List Lending} {rs : List Call} → Are cs rs → (o : Owner) → Able v m o → Able v m (plays v cs o)
  unfolding plays
  plays_able Are.none o a = a
  plays_able (Are.more {c} {r} i is) o a = plays_able is (asks v c o) (asks_able c r i o a)

  -- what they show is what the rules' calls leave
  plays_shown : {cs : List Lending} {rs : List Call} → Are cs rs → (o : Owner) → Able v m o → shown (plays v cs o).side ≡ nexts rs (shown o.side)
  unfolding plays
  plays_shown Are.none o a = refl
  plays_shown (Are.more {c} {r} {cs} {rs} i is) o a =
      plays_shown is (asks v c o) (asks_able c r i o a)
      ∙ ap (nexts rs) (rw (i.call o.buffer a.size) at (after-shown v m o.side a.kept.good (c o.buffer) (i.asked o.buffer a.slice)))

  -- and they are a play, where the rules' calls are allowed
  plays_at_a : {cs : List Lending} {rs : List Call} → Are cs rs → (o : Owner) → Able v m o → {b : Side} → Each (λ r. Allowed r b.queued) rs → Play v v o.side b → Play v v (plays v cs o).side b
  unfolding plays Each
  plays_at_a Are.none o a q p = p
  plays_at_a (Are.more {c} {r} i is) o a {b} q p =
      plays_at_a is (asks v c o) (asks_able c r i o a) {b = b} q.1 (Play.at_a p (c o.buffer) (i.asked o.buffer a.slice) (rw (i.call o.buffer a.size) q.0))

  plays_at_b : {cs : List Lending} {rs : List Call} → Are cs rs → (o : Owner) → Able v m o → {x : Side} → Each (λ r. Allowed r x.queued) rs → Play v v x o.side → Play v v x (plays v cs o).side
  unfolding plays Each
  plays_at_b Are.none o a q p = p
  plays_at_b (Are.more {c} {r} i is) o a {x} q p =
      plays_at_b is (asks v c o) (asks_able c r i o a) {x = x} q.1 (Play.at_b p (c o.buffer) (i.asked o.buffer a.slice) (rw (i.call o.buffer a.size) q.0))

-- ---- the calls of the play, as a version is asked them: statuses and reports in arrays of four, of which two count or none

abbrev report : StatusReport
report = record { disconnected = false; last_frame = null_frame }

abbrev pub reports : (count : ℕ) → Reports
reports count = record { list = report ∷ report ∷ report ∷ report ∷ []; count = count }

abbrev statuses : Statuses
statuses = record { list = default_status ∷ default_status ∷ default_status ∷ default_status ∷ []; count = 2 }

abbrev synchronizes : Lending
synchronizes out = Asked.synchronize 1000 (epoch_at 1000) 1 out

abbrev sends : (frame x y : ℕ) → Lending
sends frame x y out = Asked.send_input (fr frame) (x ∷ y ∷ []) statuses 2000 out

-- a message without reports, and an Input
abbrev pub plain_struct : (magic : ℕ) → MessageBody → Message
plain_struct magic body = record { magic = magic; body = body; reports = reports 0 }

abbrev hands : (magic : ℕ) → MessageBody → (now nonce : ℕ) → Lending
hands magic body now nonce out = Asked.message 3 (plain_struct magic body) [] now (epoch_at now) nonce out

abbrev input_struct : (magic start at : ℕ) → Message
input_struct magic start at = record { magic = magic; body = Input false (fr start) at; reports = reports 2 }

abbrev hands_input : (magic start at : ℕ) → (payload : List ℕ) → (now : ℕ) → Lending
hands_input magic start at payload now out = Asked.message 3 (input_struct magic start at) payload now (epoch_at now) 0 out

abbrev pub hands_bytes : (d : List ℕ) → (now : ℕ) → Lending
hands_bytes d now out = Asked.datagram 3 d now (epoch_at now) 0 out

-- the handshake with the end of a magic
abbrev pub greets : (magic : ℕ) → List Lending
greets magic =
    synchronizes ∷ hands magic (SyncReply 1) 1000 2 ∷ hands magic (SyncReply 2) 1000 3 ∷ hands magic (SyncReply 3) 1000 4 ∷ hands magic (SyncReply 4) 1000 5 ∷ hands magic (SyncReply 5) 1000 6 ∷ []

-- ---- they are the rules' calls

pub small : (l : List ℕ) → Each (λ n. n < 256) l → length l < 256 → IsSlice l
small l h n = (bytes_typed l h, omega arith)

synchronizes_is : Is synchronizes starting
synchronizes_is =
    record {
      asked = λ out s. (omega arith, omega arith, omega arith, s);
      lends = λ out. refl;
      call = λ out n. rw n;
      number = λ v m e i out h. (m.synchronize e 1000 (epoch_at 1000) 1 out i h).answer;
      waits = λ v e out l. refl;
    }

statuses_are : IsStatuses statuses
unfolding Each default_status
statuses_are = record { size = refl; frames = (omega arith, (omega arith, (omega arith, (omega arith, tt)))); count = omega arith }

sends_is : (frame x y : ℕ) → frame < 100 → x < 256 → y < 256 → Is (sends frame x y) (send frame x y)
unfolding Each held_statuses
sends_is frame x y f h k =
    record {
      asked = λ out s. (omega arith, small (x ∷ y ∷ []) (h, (k, tt)) (omega arith), statuses_are, omega arith, s);
      lends = λ out. refl;
      call = λ out n. rw n;
      number = λ v m e i out a. (m.send_input e (fr frame) (x ∷ y ∷ []) statuses 2000 out i a).answer;
      waits = λ v e out l. refl;
    }

pub message_is : (magic : ℕ) (b : MessageBody) (count : ℕ) → magic < 100 → FitsBody b → count < 100 → IsMessage (record { magic = magic; body = b; reports = reports count })
unfolding Each
message_is magic b count h f n = record { magic = omega arith; body = f; size = refl; frames = (omega arith, (omega arith, (omega arith, (omega arith, tt)))); count = omega arith }

hands_is : (magic : ℕ) (b : MessageBody) (now nonce : ℕ) → magic < 100 → FitsBody b → now < 10000 → nonce < 100 → Is (hands magic b now nonce) (hand (body_only magic b) now nonce)
hands_is magic b now nonce h f n k =
    record {
      asked = λ out s. (omega arith, message_is magic b 0 h f (omega arith), (bytes_none, omega arith), omega arith, omega arith, omega arith, s);
      lends = λ out. refl;
      call = λ out e. rw (e, meant_body_only magic b (reports 0) refl);
      number = λ v m e i out a. (m.message e 3 (plain_struct magic b) [] now (epoch_at now) nonce out i a).answer;
      waits = λ v e out l. refl;
    }

input_is : (magic start at : ℕ) (payload : List ℕ) (now : ℕ) → magic < 100 → start < 100 → at < 2 ^ 32 → Each (λ n. n < 256) payload → length payload < 256 → now < 10000
    → Is (hands_input magic start at payload now) (hand (input magic start at payload) now 0)
input_is magic start at payload now h s k b l n =
    record {
      asked = λ out o. (omega arith, message_is magic (Input false (fr start) at) 2 h (omega arith, omega arith) (omega arith), small payload b l, omega arith, omega arith, omega arith, o);
      lends = λ out. refl;
      call = λ out e. rw (e, meant-input magic false (fr start) at (reports 2) payload);
      number = λ v m e i out a. (m.message e 3 (input_struct magic start at) payload now (epoch_at now) 0 out i a).answer;
      waits = λ v e out l. refl;
    }

pub bytes_is : (d : List ℕ) (now : ℕ) → IsSlice d → now < 10000 → Is (hands_bytes d now) (Call.datagram 3 d now (epoch_at now) 0 65536)
bytes_is d now s n =
    record {
      asked = λ out o. (omega arith, s, omega arith, omega arith, omega arith, o);
      lends = λ out. refl;
      call = λ out e. rw e;
      number = λ v m e i out a. (m.datagram e 3 d now (epoch_at now) 0 out i a).answer;
      waits = λ v e out l. refl;
    }

pub greets_are : (magic : ℕ) → magic < 100 → Are (greets magic) (greeting magic)
greets_are magic h =
    Are.more synchronizes_is (Are.more (of 1 (omega arith)) (Are.more (of 2 (omega arith)) (Are.more (of 3 (omega arith)) (Are.more (of 4 (omega arith)) (Are.more (of 5 (omega arith)) Are.none)))))
  where
    of : (nonce : ℕ) → nonce < 10 → Is (hands magic (SyncReply nonce) 1000 (nonce + 1)) (Sample.reply magic nonce)
    of nonce n = hands_is magic (SyncReply nonce) 1000 (nonce + 1) h (omega arith) (omega arith) (omega arith)

-- ---- the calls on the first side, after its handshake

-- it sends frames 0 and 1
abbrev calls_a1 : List Lending
calls_a1 = sends 0 5 7 ∷ sends 1 6 8 ∷ []

-- it is handed the other's frames 0 and 1, and sends frames 2 and 3
abbrev calls_a2 : List Lending
calls_a2 = hands_input 9 0 (fr 1) (1 ∷ 2 ∷ 3 ∷ 4 ∷ []) 2003 ∷ sends 2 9 9 ∷ sends 3 9 10 ∷ []

-- it sends frame 5, which is refused
abbrev calls_a3 : List Lending
calls_a3 = sends 5 1 1 ∷ []

-- it is handed the other's ack, and its frame 2
abbrev calls_a4 : List Lending
calls_a4 = hands 9 (InputAck (fr 3)) 2005 0 ∷ hands_input 9 2 (fr 3) (2 ∷ 5 ∷ []) 2006 ∷ []

-- ---- and on the second

-- frames 0 and 1 of the first side in one Input, and frames 2 and 3 as bytes
abbrev hands_i1 : (now : ℕ) → Lending
hands_i1 = hands_input 7 0 null_frame (5 ∷ 7 ∷ 6 ∷ 8 ∷ [])

abbrev hands_i3 : Lending
hands_i3 = hands_bytes (bytes I3) 2004

-- it is handed frames 0 and 1, frame 0 alone, which comes late, and both again; it sends frames 0 and 1
abbrev calls_b2 : List Lending
calls_b2 = hands_i1 2000 ∷ hands_input 7 0 null_frame (5 ∷ 7 ∷ []) 2001 ∷ hands_i1 2002 ∷ sends 0 1 2 ∷ sends 1 3 4 ∷ []

abbrev calls_b3 : List Lending
calls_b3 = hands_i3 ∷ []

-- its events are taken before it sends frame 2
abbrev calls_b4 : List Lending
calls_b4 = sends 2 1 1 ∷ []

-- ---- the two sides, as they stand on the way and at last

module _ (v : Version) where
  abbrev a0 : Owner
  a0 = plays v (greets 9) (new v wide)

  abbrev a1 : Owner
  a1 = plays v calls_a1 a0

  abbrev a2 : Owner
  a2 = plays v calls_a2 a1

  abbrev a3 : Owner
  a3 = plays v calls_a3 a2

  abbrev a4 : Owner
  a4 = plays v calls_a4 a3

  abbrev b0 : Owner
  b0 = plays v (greets 7) (new v narrow)

  abbrev b2 : Owner
  b2 = plays v calls_b2 b0

  abbrev b3 : Owner
  b3 = plays v calls_b3 b2

  abbrev b4 : Owner
  b4 = plays v calls_b4 (takes v b3)

-- what each accepted, and what the other announced of it: each frame once, for each player with its bytes
abbrev Facts : Version → Type 0
Facts v =
    ((a4 v).side.accepted ≡ frame 0 5 7 ∷ frame 1 6 8 ∷ frame 2 9 9 ∷ frame 3 9 10 ∷ [])
    × (announced_by (b4 v).side
    ≡ frame_with 0 (given 0 (5 ∷ []) ∷ given 1 (7 ∷ []) ∷ [])
    ∷ frame_with 1 (given 0 (6 ∷ []) ∷ given 1 (8 ∷ []) ∷ [])
    ∷ frame_with 2 (given 0 (9 ∷ []) ∷ given 1 (9 ∷ []) ∷ [])
    ∷ frame_with 3 (given 0 (9 ∷ []) ∷ given 1 (10 ∷ []) ∷ [])
    ∷ [])
    × ((b4 v).side.accepted ≡ frame 0 1 2 ∷ frame 1 3 4 ∷ frame 2 1 1 ∷ [])
    × (announced_by (a4 v).side ≡ frame_with 0 (given 1 (1 ∷ 2 ∷ []) ∷ []) ∷ frame_with 1 (given 1 (3 ∷ 4 ∷ []) ∷ []) ∷ frame_with 2 (given 1 (1 ∷ 1 ∷ []) ∷ []) ∷ [])

-- ---- the calls are the sample's

sent : (frame x y : ℕ) → frame < 100 → x < 256 → y < 256 → {cs : List Lending} {rs : List Call} → Are cs rs → Are (sends frame x y ∷ cs) (send frame x y ∷ rs)
sent frame x y f h k is = Are.more (sends_is frame x y f h k) is

a1_are : Are calls_a1 (send 0 5 7 ∷ send 1 6 8 ∷ [])
a1_are = sent 0 5 7 (omega arith) (omega arith) (omega arith) (sent 1 6 8 (omega arith) (omega arith) (omega arith) Are.none)

a2_are : Are calls_a2 (hand J1 2003 0 ∷ send 2 9 9 ∷ send 3 9 10 ∷ [])
unfolding Each
a2_are =
    Are.more (input_is 9 0 (fr 1) (1 ∷ 2 ∷ 3 ∷ 4 ∷ []) 2003 (omega arith) (omega arith) (omega arith) (omega arith, (omega arith, (omega arith, (omega arith, tt)))) (omega arith) (omega arith))
    (sent 2 9 9 (omega arith) (omega arith) (omega arith) (sent 3 9 10 (omega arith) (omega arith) (omega arith) Are.none))

a3_are : Are calls_a3 (send 5 1 1 ∷ [])
a3_are = sent 5 1 1 (omega arith) (omega arith) (omega arith) Are.none

a4_are : Are calls_a4 (hand (ack 9 3) 2005 0 ∷ hand J2 2006 0 ∷ [])
unfolding Each
a4_are =
    Are.more (hands_is 9 (InputAck (fr 3)) 2005 0 (omega arith) (omega arith) (omega arith) (omega arith))
    (Are.more (input_is 9 2 (fr 3) (2 ∷ 5 ∷ []) 2006 (omega arith) (omega arith) (omega arith) (omega arith, (omega arith, tt)) (omega arith) (omega arith)) Are.none)

I1_is : (now : ℕ) → now < 10000 → Is (hands_i1 now) (hand I1 now 0)
unfolding Each
I1_is now n = input_is 7 0 null_frame (5 ∷ 7 ∷ 6 ∷ 8 ∷ []) now (omega arith) (omega arith) (omega arith) (omega arith, (omega arith, (omega arith, (omega arith, tt)))) (omega arith) n

b2_are : Are calls_b2 (hand I1 2000 0 ∷ hand I0 2001 0 ∷ hand I1 2002 0 ∷ send 0 1 2 ∷ send 1 3 4 ∷ [])
unfolding Each
b2_are =
    Are.more (I1_is 2000 (omega arith))
    (Are.more (input_is 7 0 null_frame (5 ∷ 7 ∷ []) 2001 (omega arith) (omega arith) (omega arith) (omega arith, (omega arith, tt)) (omega arith) (omega arith))
    (Are.more (I1_is 2002 (omega arith)) (sent 0 1 2 (omega arith) (omega arith) (omega arith) (sent 1 3 4 (omega arith) (omega arith) (omega arith) Are.none))))

I3_is : Is hands_i3 (Call.datagram 3 (bytes I3) 2004 (epoch_at 2004) 0 65536)
I3_is = bytes_is (bytes I3) 2004 (bytes-bytes I3 I3_fits, omega (arith, bytes_size I3 I3_fits)) (omega arith)

b4_are : Are calls_b4 (send 2 1 1 ∷ [])
b4_are = sent 2 1 1 (omega arith) (omega arith) (omega arith) Are.none

-- frame 5 after frame 3 is refused, with 4 (BadFrame), and nothing changes
refused_send : ((step (send 5 1 1) (Sample.a3).state).answer ≡ 4) × (next (send 5 1 1) Sample.a3 ≡ Sample.a3)
unfolding last_frame blank_frame any_above any_twice inserted sorted terms_with bad_setup has made fresh refused tested bad_frame send_step step
refused_send = (refl, refl)

-- ---- each side shows the sample's end

wide_typed : TypedSetup wide
unfolding Each
wide_typed =
    small_typed (1 ∷ 0 ∷ 0 ∷ 0 ∷ []) 1 1 2 1 7 refl (omega arith, (omega arith, (omega arith, (omega arith, tt)))) (omega arith, (omega arith, (omega arith, (omega arith, (omega arith, tt)))))

narrow_typed : TypedSetup narrow
unfolding Each
narrow_typed =
    small_typed (1 ∷ 0 ∷ 0 ∷ 0 ∷ []) 2 2 1 1 9 refl (omega arith, (omega arith, (omega arith, (omega arith, tt)))) (omega arith, (omega arith, (omega arith, (omega arith, (omega arith, tt)))))

pub record At (v : Version) (m : Meets v) (g : Setup) (x : End) (o : Owner) : Type 0 where
  pub able : Able v m o
  pub setup : o.side.setup ≡ g
  pub shows : shown o.side ≡ x

module _ (v : Version) (m : Meets v) where
  pub new_at : (g : Setup) → TypedSetup g → (fresh g 1000).0 ≡ 0 → At v m g (Run.starts (fresh g 1000).1) (new v g)
  new_at g t z =
      let n = m.new g 1000 t (omega arith) in
      record { able = new_able v m g t (starts-kept v m g 1000 t (omega arith) (n.answer ∙ z)); setup = refl; shows = rw n.made }

  plays_setup : (cs : List Lending) (o : Owner) → (plays v cs o).side.setup ≡ o.side.setup
  unfolding plays
  plays_setup [] o = refl
  plays_setup (c ∷ cs) o = plays_setup cs (asks v c o)

  pub plays_at : {cs : List Lending} {rs : List Call} → Are cs rs → {g : Setup} {x y : End} {o : Owner} → At v m g x o → nexts rs x ≡ y → At v m g y (plays v cs o)
  plays_at {cs} {rs} i {g} {x} {y} {o} a e =
      record { able = plays_able v m i o a.able; setup = plays_setup cs o ∙ a.setup; shows = plays_shown v m i o a.able ∙ ap (nexts rs) a.shows ∙ e }

  a0_at : At v m wide (Sample.ready wide 7 9) (a0 v)
  a0_at = plays_at (greets_are 9 (omega arith)) (new_at wide wide_typed Sample.wide-taken) Sample.a_ready

  a1_at : At v m wide Sample.a1 (a1 v)
  a1_at = plays_at a1_are a0_at refl

  a2_at : At v m wide Sample.a3 (a2 v)
  a2_at = plays_at a2_are a1_at Sample.a3_is

  a3_at : At v m wide Sample.a3 (a3 v)
  a3_at = plays_at a3_are a2_at refused_send.1

  a4_at : At v m wide Sample.a4 (a4 v)
  a4_at = plays_at a4_are a3_at refl

  b0_at : At v m narrow (Sample.ready narrow 9 7) (b0 v)
  b0_at = plays_at (greets_are 7 (omega arith)) (new_at narrow narrow_typed Sample.narrow_taken) Sample.b_ready

  b2_at : At v m narrow Sample.b2 (b2 v)
  b2_at = plays_at b2_are b0_at Sample.b2_is

  b3_at : At v m narrow Sample.b3 (b3 v)
  b3_at = plays_at (Are.more I3_is Are.none) b2_at (Sample.as_bytes I3 2004 Sample.b2 I3_fits)

  b4_at : At v m narrow Sample.b4 (b4 v)
  b4_at = plays_at b4_are taken refl
    where
      taken : At v m narrow (next Call.take_events Sample.b3) (takes v (b3 v))
      taken =
          record {
            able = takes_able v m (b3 v) b3_at.able;
            setup = b3_at.setup;
            shows = taking-shown v m (b3 v).side b3_at.able.kept.good ∙ ap (next Call.take_events) b3_at.shows;
          }

-- ---- what a side has of the end that it shows

module _ (v : Version) (m : Meets v) {g : Setup} {x : End} {o : Owner} (a : At v m g x o) where
  pub state_at : seen o.side.endpoint ≡ x.state
  state_at = ap (λ (x : End). x.state) a.shows

  history_at : received o.side.endpoint.history ≡ x.state.carried.receiver.history
  unfolding seen
  history_at = ap (λ (s : Seen). s.carried.receiver.history) state_at

  pub queued_at : o.side.queued ≡ x.queued
  queued_at = ap (λ (x : End). x.queued) a.shows

  pub accepted_at : o.side.accepted ≡ x.accepted
  accepted_at = ap (λ (x : End). x.accepted) a.shows

  announced_at_lem : announced_by o.side ≡ Run.announced_by x
  announced_at_lem = sym (announced-shown v m o.side a.able.kept) ∙ ap Run.announced_by a.shows

  -- a call is answered as the rules answer it
  number_at : {c : Lending} {r : Call} → Is c r → number_from v o.side.endpoint (c o.buffer) ≡ (step r x.state).answer
  number_at i =
      i.number v m o.side.endpoint a.able.kept.good.value o.buffer (i.asked o.buffer a.able.slice) ∙ rw (i.call o.buffer a.able.size, state_at)

  running_at : v.is_running o.side.endpoint ≡ is_running x.state.phase
  unfolding value_of
  running_at = let h = m.is_running o.side.endpoint a.able.kept.good.value in let s = state_at in cc

  -- an Input is heard and heeded where the rules say so
  heard_at_lem : (peer magic : ℕ) → Run.Heard peer magic x.state → Heard v peer magic o.side
  unfolding seen value_of terms_with
  heard_at_lem peer magic h =
      let i : Run.Heard peer magic (seen o.side.endpoint) = rw state_at h in
      let p : v.state o.side.endpoint ≡ o.side.endpoint.sync.phase = let q = m.state o.side.endpoint a.able.kept.good.value in cc in
      record { alive = rw p i.alive; known = i.known ∙ ap (λ (t : Terms). t.peer) a.able.kept.setup; passes = i.passes }

  heeded_at : (d : Bool) (count start : ℕ) → Run.Heeded d count start x.state → Heeded d count start o.side
  unfolding seen terms_with
  heeded_at d count start h =
      let i : Run.Heeded d count start (seen o.side.endpoint) = rw state_at h in
      record { from = i.from; complete = rw (ap (λ (t : Terms). t.players) a.able.kept.setup) at i.complete }

-- as many frames are announced as `delivered` counts
all_counted : (u : Version) (from to : Side) → (d : Delivered u from to) → length (announced_by to) ≡ d.count
all_counted u from to d = ap length d.announced ∙ simp (length-map, length-take) (omega (arith, d.most))

-- the first side's queue, of which `messages` hands back all
whole_queue : handed_back 65536 (Sample.a3).state ≡ 236
unfolding handed_back filled_part blank_frame any_above any_twice inserted sorted terms_with bad_setup has made fresh refused tested take_step step
whole_queue = refl

module _ (v : Version) (m : Meets v) where
  -- ---- the play

  both_ready : Play v v (a0 v).side (b0 v).side
  both_ready =
      plays_at_b v m (greets_are 7 (omega arith)) (new v narrow) (new_at v m narrow narrow_typed Sample.narrow_taken).able (Sample.greeting_free 7 _)
      (plays_at_a v m (greets_are 9 (omega arith)) (new v wide) (new_at v m wide wide_typed Sample.wide-taken).able (Sample.greeting_free 9 [])
      (Play.begin wide narrow 1000 1000 wide_typed narrow_typed (omega arith) (omega arith) ((m.new wide 1000 wide_typed (omega arith)).answer ∙ Sample.wide-taken)
      ((m.new narrow 1000 narrow_typed (omega arith)).answer ∙ Sample.narrow_taken) (record { there = refl; back = refl })))

  -- the first side sends two frames; their Inputs arrive in the wrong order, and one of them again
  I1_queued : Mem I1 (a1 v).side.queued
  I1_queued = rw (queued_at v m (a1_at v m), Sample.first_queue) (Sample.after_requests 7 (there (here refl)))

  first : Play v v (a1 v).side (b0 v).side
  unfolding Each
  first = plays_at_a v m a1_are (a0 v) (a0_at v m).able (tt, (tt, tt)) both_ready

  second : Play v v (a1 v).side (b2 v).side
  unfolding Each
  second =
      plays_at_b v m b2_are (b0 v) (b0_at v m).able
      (λ _. I1_queued, (λ _. rw (queued_at v m (a1_at v m), Sample.first_queue) (Sample.after_requests 7 (here refl)), (λ _. I1_queued, (tt, (tt, tt))))) first

  third : Play v v (a3 v).side (b2 v).side
  unfolding Each
  third =
      plays_at_a v m a3_are (a2 v) (a2_at v m).able (tt, tt)
      (plays_at_a v m a2_are (a1 v) (a1_at v m).able (λ _. rw (queued_at v m (b2_at v m)) (Sample.after_requests 9 (there (there (there (there (here refl)))))), (tt, (tt, tt))) second)

  -- the bytes of an Input are among the datagrams that the owner cuts out of what `messages` hands back
  handed_back_lem : v.messages (a3 v).side.endpoint (a3 v).buffer ≡ queue_of (a3 v).side.queued
  unfolding seen
  handed_back_lem =
      let a = a3_at v m in
      let s : seen (a3 v).side.endpoint ≡ (Sample.a3).state = state_at v m a in
      let n : handed_back (length (a3 v).buffer) (seen (a3 v).side.endpoint) ≡ (a3 v).side.endpoint.queued = rw (a.able.size, s) whole_queue ∙ sym (ap (λ (s : Seen). s.queued) s) in
      m.messages (a3 v).side.endpoint (a3 v).buffer a.able.kept.good.value a.able.slice ∙ rw n (a.able.holds ∙ a.able.whole)

  pub cut_out : Mem (bytes I3) (cut (v.messages (a3 v).side.endpoint (a3 v).buffer))
  cut_out =
      rw (handed_back_lem, cut-queue (a3 v).side.queued (a3_at v m).able.fit, queued_at v m (a3_at v m))
      (there (there (there (there (there (there (there (there (there (here refl))))))))))

  -- so it may be handed over
  pub cut-handed : Allowed (call_of (hands_i3 (b2 v).buffer)) (a3 v).side.queued
  cut-handed = (cut_allowed v v m m third).0 (a3 v).buffer (a3_at v m).able.slice (a3_at v m).able.holds (bytes I3) cut_out 3 2004 (epoch_at 2004) 0 (b2 v).buffer

  fourth : Play v v (a3 v).side (b4 v).side
  unfolding Each
  fourth =
      plays_at_b v m b4_are (takes v (b3 v)) (takes_able v m (b3 v) (b3_at v m).able) (tt, tt)
      (Play.takes_b (plays_at_b v m (Are.more I3_is Are.none) (b2 v) (b2_at v m).able (cut-handed, tt) third))

  pub sample_play : Play v v (a4 v).side (b4 v).side
  unfolding Each
  sample_play =
      plays_at_a v m a4_are (a3 v) (a3_at v m).able (
        λ _. rw (queued_at v m (b4_at v m), Sample.last_queue) (Sample.after_requests 9 (there (there (there (there (there (here refl))))))),
        (λ _. rw (queued_at v m (b4_at v m), Sample.last_queue) (Sample.after_requests 9 (there (there (there (there (there (there (here refl)))))))), tt),
      ) fourth

  -- ---- what is accepted and announced

  -- the first side is running when it sends frame 5, which is refused with 4 (BadFrame) and not accepted
  pub sample_refused : (v.is_running (a2 v).side.endpoint ≡ true) × (number_from v (a2 v).side.endpoint (sends 5 1 1 (a2 v).buffer) ≡ 4) × ((a3 v).side.accepted ≡ (a2 v).side.accepted)
  sample_refused = (
    running_at v m (a2_at v m),
    number_at v m (a2_at v m) (sends_is 5 1 1 (omega arith) (omega arith) (omega arith)) ∙ refused_send.0,
    accepted_at v m (a3_at v m) ∙ sym (accepted_at v m (a2_at v m)),
  )

  -- what each accepted, frame 5 not among it, and what the other announced of it
  pub sample_facts : Facts v
  sample_facts =
      let f = Sample.sample_facts in
      (accepted_at v m (a4_at v m) ∙ f.0, announced_at_lem v m (b4_at v m) ∙ f.1, accepted_at v m (b4_at v m) ∙ f.2, announced_at_lem v m (a4_at v m) ∙ f.3)

  -- ---- what the theorems say of it

  pub sample_runs : Run.Run (shown (a4 v).side) (shown (b4 v).side)
  sample_runs = play_runs v v m m sample_play

  pub sample_delivered : Delivered v (a4 v).side (b4 v).side × Delivered v (b4 v).side (a4 v).side
  sample_delivered = delivered v v m m sample_play

  -- so the one announced all four frames, and the other all three
  pub sample_counts : (sample_delivered.0.count ≡ 4) × (sample_delivered.1.count ≡ 3)
  sample_counts = (sym (all_counted v _ _ sample_delivered.0) ∙ ap length sample_facts.1, sym (all_counted v _ _ sample_delivered.1) ∙ ap length sample_facts.3)

  -- two handles with a byte each
  two_wide : width_of narrow ≡ 2
  unfolding sorted inserted
  two_wide = refl

  -- frames 2 and 3 are brought to a side that holds frame 1, by the datagram that was cut out
  pub sample_brought : fr 2 + 2 ≤ suc (last_announced null_frame (announced_by (after v (hands_i3 (b2 v).buffer) (b2 v).side)))
  sample_brought =
      let a = b2_at v m in
      let p = (Sample.passing).1 in
      let done : number_from v (b2 v).side.endpoint (hands_i3 (b2 v).buffer) ≡ 0 = number_at v m a I3_is ∙ rw (bytes-message 3 I3 2004 (epoch_at 2004) 0 65536 (Sample.b2).state I3_fits) p.0 in
      let brings = (delivers v v m m third).1.bytes 3 (bytes I3) I3 [] 2004 (epoch_at 2004) 0 (b2 v).buffer (I3_is.asked (b2 v).buffer a.able.slice) (read-bytes I3 I3_fits)
      (rw (queued_at v m (a3_at v m)) (Sample.after_requests 7 (there (there (there (there (here refl))))))) false (fr 2) (fr 1) refl done (heard_at_lem v m a 3 7 p.1) (heeded_at v m a false 2 (fr 2) p.2) in
      let two : frame_count (width_of (b2 v).side.setup) 4 ≡ 2 = rw (a.setup, two_wide) in
      rw two at (brings.reaches (inr (record { frame = fr 1; bytes = padded (6 ∷ 8 ∷ []) }, rw (history_at v m a) (there (there (here refl))), refl)))

  -- an old Input whose reference is gone announces nothing
  not_ready : ¬ Ready (fr 0) (b4 v).side
  not_ready (inl e) = Sample.not_ready (inl (sym (announced_at_lem v m (b4_at v m)) ∙ e))
  not_ready (inr h) = Sample.not_ready (inr (h.0, rw (history_at v m (b4_at v m)) at h.1, h.2))

  pub sample_gone : announced_by (after v (hands_i1 2007 (b4 v).buffer) (b4 v).side) ≡ announced_by (b4 v).side
  sample_gone =
      let a = b4_at v m in
      let p = (Sample.passing).2 in
      let i = I1_is 2007 (omega arith) in
      let brings = (delivers v v m m fourth).1.message 3 (input_struct 7 0 null_frame) (5 ∷ 7 ∷ 6 ∷ 8 ∷ []) 2007 (epoch_at 2007) 0 (b4 v).buffer (i.asked (b4 v).buffer a.able.slice)
      (rw (meant-input 7 false (fr 0) null_frame (reports 2) (5 ∷ 7 ∷ 6 ∷ 8 ∷ []), queued_at v m (a3_at v m)) (Sample.after_requests 7 (there (here refl)))) false (fr 0) null_frame refl
      (number_at v m a i ∙ p.0) (heard_at_lem v m a 3 7 p.1) (heeded_at v m a false 2 (fr 0) p.2) in
      brings.nothing not_ready

-- ---- and there is such a version

pub right_facts : Facts right
right_facts = sample_facts right right_meets

pub right_delivered : Delivered right (a4 right).side (b4 right).side × Delivered right (b4 right).side (a4 right).side
right_delivered = delivered right right right_meets right_meets (sample_play right right_meets)

pub right_brings : EachBrings right (a4 right).side (b4 right).side × EachBrings right (b4 right).side (a4 right).side
right_brings = delivers right right right_meets right_meets (sample_play right right_meets)
