-- The table of the worked bouts (B-15): a row has the bout's name, what is computed from the definitions of the bytes, the line and the calls, and what it must be.
-- The endpoint of the bouts and its calls are those of the crate `endpoint_rules` (proofs/Bouts).
use Rattle.std.specs.Prelude.{true, false, List, [], ◌∷◌, ◌++◌, ◌≡◌, ℕ, ◌+◌, ◌-◌, take}
use Prim.Native.String.{String}
use Rattle.frame.specs.Bias.{bias32, bias16, null_frame}
use Rattle.status.specs.declared.ConnectionStatus.{ConnectionStatus}
use Rattle.codec.specs.Bytes.{bytes}
use Rattle.codec.specs.Read.{body_only, datagram, number_in}
use Rattle.codec.specs.declared.MessageBody.{MessageBody}
use Rattle.codec.specs.declared.MessageBody.TheVariants.{SyncRequest, InputAck, QualityReport}
use Rattle.text.specs.Ascii.{ascii}
use Rattle.message_line.specs.Line.{line_of}
use Rattle.events.specs.declared.Entry.{Entry}
use Rattle.endpoint_rules.specs.declared.Phase.{Phase}
use Rattle.endpoint_rules.specs.declared.Phase.TheVariants.{Disconnected, Shutdown}
use Rattle.endpoint_rules.specs.Seen.{Seen, with_clocks}
use Rattle.endpoint_rules.specs.Did.{Did}
use Rattle.endpoint_rules.specs.Call.{Call}
use Rattle.endpoint_rules.specs.Step.{step}
use Rattle.endpoint_rules.proofs.Bouts.{new, fr, none, packet, act_at, after, announced_input as input, bodies, P3, P5, P6, P8, P9, P10, heard_clocks, requested, advanced, report_after, pong}

pub record Row : Type 1 where
  pub name : String
  pub Shown : Type 0
  pub given : Shown
  pub must : Shown

-- every row is as it must be
abbrev pub AllHold : List Row → Type 0
AllHold [] = Unit {0}
AllHold (r ∷ rs) = (r.given ≡ r.must) × AllHold rs

-- ---- what is shown of a call

-- the events and the messages of a call
abbrev pub said_by : Call → Seen → List Entry × List MessageBody
said_by c s = ((step c s).events, bodies (step c s))

-- ---- P1 and P2

abbrev pub ack_bytes : List ℕ
ack_bytes = 0x34 ∷ 0x12 ∷ 0x03 ∷ 0x00 ∷ 0x00 ∷ 0x00 ∷ 0xFF ∷ 0xFF ∷ 0xFF ∷ 0xFF ∷ []

-- ---- the table; P2's one more byte is any

abbrev pub table : (more : ℕ) → List Row
table more =
    record {
      name = "P1: InputAck, magic 0x1234, ack -1: its bytes, and its line with a newline";
      Shown = List ℕ × List ℕ;
      given = (bytes (body_only 0x1234 (InputAck null_frame)), line_of ack_bytes ++ 10 ∷ []);
      must = (ack_bytes, ascii "InputAck magic 4660 ack -1\n");
    }
    ∷ record {
      name = "P2: those bytes less the last; with one more";
      Shown = ℕ × ℕ;
      given = (number_in (datagram (take 9 ack_bytes)), number_in (datagram (ack_bytes ++ more ∷ [])));
      must = (9, 13);
    }
    ∷ record {
      name = "P3: fresh, start 0, payload 05 07";
      Shown = List Entry × List MessageBody;
      given = said_by P3 new;
      must = (input (fr 0) 5 ∷ input (fr 1) 7 ∷ [], InputAck (fr 1) ∷ []);
    }
    ∷ record {
      name = "P4: P3's packet again";
      Shown = List Entry × List MessageBody;
      given = said_by P3 (after (P3 ∷ []) new);
      must = ([], InputAck (fr 1) ∷ []);
    }
    ∷ record {
      name = "P5: then start 2, payload 02";
      Shown = List Entry × List MessageBody;
      given = said_by P5 (after (P3 ∷ P3 ∷ []) new);
      must = (input (fr 2) 5 ∷ [], InputAck (fr 2) ∷ []);
    }
    ∷ record {
      name = "P6: then start 4, payload 01; the statuses after it";
      Shown = (List Entry × List MessageBody) × List ConnectionStatus;
      given = (said_by P6 (after (P3 ∷ P3 ∷ P5 ∷ []) new), (step P6 (after (P3 ∷ P3 ∷ P5 ∷ []) new)).after.statuses);
      must = (([], []), record { disconnected = false; last_frame = null_frame } ∷ record { disconnected = true; last_frame = fr 3 } ∷ []);
    }
    ∷ record {
      name = "P7: fresh, start -1: all that it does";
      Shown = Did;
      given = step (packet null_frame none (5 ∷ [])) new;
      must = record { answer = 0; after = with_clocks heard_clocks new; out = []; events = [] };
    }
    ∷ record {
      name = "P8: fresh, start 7, payload 05, twice; the second answer";
      Shown = (List Entry × List MessageBody) × (List Entry × List MessageBody) × ℕ;
      given = (said_by P8 new, said_by P8 (after (P8 ∷ []) new), (step P8 (after (P8 ∷ []) new)).answer);
      must = ((input (fr 7) 5 ∷ [], InputAck (fr 7) ∷ []), ([], []), 0);
    }
    ∷ record {
      name = "P9: fresh, start 0, no payload";
      Shown = List Entry × List MessageBody;
      given = said_by P9 new;
      must = ([], InputAck null_frame ∷ []);
    }
    ∷ record {
      name = "P10: S = 2, fresh, 3 payload bytes: the input time, the messages";
      Shown = ℕ × List MessageBody;
      given = (P10.after.clocks.running_last_input_recv, bodies P10);
      must = (2000, []);
    }
    ∷ record {
      name = "P11: last request at 1000, act at 1200: all that it does; at 1201: its events and messages";
      Shown = Did × (List Entry × List MessageBody);
      given = (step (act_at 1200) requested, said_by (act_at 1201) requested);
      must = (record { answer = 0; after = requested; out = []; events = [] }, ([], SyncRequest 99 ∷ []));
    }
    ∷ record {
      name = "P12: disconnect at 1000, act at 6000, its answer and the phase; at 6001, the phase";
      Shown = ℕ × Phase × Phase;
      given = (
        (step (act_at 6000) (after (Call.disconnect 1000 ∷ []) new)).answer,
        (after (Call.disconnect 1000 ∷ act_at 6000 ∷ []) new).phase,
        (after (Call.disconnect 1000 ∷ act_at 6001 ∷ []) new).phase,
      );
      must = (0, Disconnected, Shutdown);
    }
    ∷ record {
      name = "P13: advantage 40,000; -40,000: the report, 2^15 above the number";
      Shown = List MessageBody × List MessageBody;
      given = (report_after (fr 40000) (fr 0), report_after (fr 0) (fr 40000));
      must = (
        QualityReport (bias16 + 32767) (record { low = 72000; high = 0 }) ∷ [],
        QualityReport (bias16 - 32768) (record { low = 72000; high = 0 }) ∷ [],
      );
    }
    ∷ record {
      name = "P14: rtt 100, fps 60, newest 10, local 12: the advantage, 2^31 above the number";
      Shown = ℕ;
      given = (after (pong ∷ advanced (fr 10) (fr 12)) new).quality.local_frame_advantage;
      must = bias32 + 1;
    }
    ∷ []
