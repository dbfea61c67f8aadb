-- Worked examples, as tables: messages of every kind with their bytes, both ways, bytes that are refused with their numbers (N-9 to N-13), and a queue with the ends of its messages.
use mathlib.Core.Path.{◌≡◌, refl}
use mathlib.Core.Bool.{true, false}
use mathlib.Core.List.{List, [], ◌∷◌, ◌++◌, map}
use Prim.Native.Nat.{ℕ}
use Rattle.base.specs.Little.{le, unle}
use Rattle.frame.specs.Bias.{bits_of}
use Rattle.codec.specs.Message.{Wire, kind_of}
use Rattle.codec.specs.Bytes.{flag_bytes, frame_bytes, advantage_bytes, wide_bytes, report_bytes, reports_bytes, statuses_bytes, input_bytes, body_bytes, head, bytes}
use Rattle.codec.specs.Read.{part, number, flag, frame, advantage, wide, report, reports, input, body_only, kinds, message, datagram, number_in}
use Rattle.codec.specs.Read.Reading.{got}
use Rattle.codec.specs.Calls.{message_end}
use Rattle.codec.proofs.Bouts.{p1_message, p1_bytes}
use Rattle.codec.specs.declared.MessageBody.TheVariants.{SyncRequest, SyncReply, Input, QualityReport, QualityReply, ChecksumReport, KeepAlive}

-- a u64 below 256
abbrev count : ℕ → List ℕ
count n = n ∷ 0 ∷ 0 ∷ 0 ∷ 0 ∷ 0 ∷ 0 ∷ 0 ∷ []

-- frames are biased: 2147483655 is frame 7, 2147483647 is -1, 0 is the least i32; the advantage 32765 is -3
abbrev written : List (Wire × List ℕ)
written =
    (body_only 65535 (SyncRequest 16909060), 255 ∷ 255 ∷ 0 ∷ 0 ∷ 0 ∷ 0 ∷ 4 ∷ 3 ∷ 2 ∷ 1 ∷ [])
    ∷ (body_only 0 (SyncReply 4294967295), 0 ∷ 0 ∷ 1 ∷ 0 ∷ 0 ∷ 0 ∷ 255 ∷ 255 ∷ 255 ∷ 255 ∷ [])
    ∷ (
      record {
        magic = 256;
        body = Input true 2147483655 2147483647;
        reports = record { disconnected = true; last_frame = 0 } ∷ record { disconnected = false; last_frame = 4294967295 } ∷ [];
        payload = 9 ∷ 255 ∷ 0 ∷ [];
      },
      0 ∷ 1 ∷ 2 ∷ 0 ∷ 0 ∷ 0 ∷ []
          ++ count 2
          ++ 1 ∷ 0 ∷ 0 ∷ 0 ∷ 128 ∷ 0 ∷ 255 ∷ 255 ∷ 255 ∷ 127 ∷ []
          ++ 1 ∷ 7 ∷ 0 ∷ 0 ∷ 0 ∷ 255 ∷ 255 ∷ 255 ∷ 255 ∷ []
          ++ count 3
          ++ 9 ∷ 255 ∷ 0 ∷ [],
    )
    ∷ (
      record { magic = 1; body = Input false 5 6; reports = []; payload = [] },
      1 ∷ 0 ∷ 2 ∷ 0 ∷ 0 ∷ 0 ∷ [] ++ count 0 ++ 0 ∷ 5 ∷ 0 ∷ 0 ∷ 128 ∷ 6 ∷ 0 ∷ 0 ∷ 128 ∷ [] ++ count 0,
    )
    ∷ (p1_message, p1_bytes)
    ∷ (
      body_only 7 (QualityReport 32765 (record { low = 72623859790382856; high = 1230066625199609624 })),
      7 ∷ 0 ∷ 4 ∷ 0 ∷ 0 ∷ 0 ∷ 253 ∷ 255 ∷ 8 ∷ 7 ∷ 6 ∷ 5 ∷ 4 ∷ 3 ∷ 2 ∷ 1 ∷ 24 ∷ 23 ∷ 22 ∷ 21 ∷ 20 ∷ 19 ∷ 18 ∷ 17 ∷ [],
    )
    ∷ (
      body_only 7 (QualityReply (record { low = 0; high = 18446744073709551615 })),
      7 ∷ 0 ∷ 5 ∷ 0 ∷ 0 ∷ 0 ∷ [] ++ count 0 ++ 255 ∷ 255 ∷ 255 ∷ 255 ∷ 255 ∷ 255 ∷ 255 ∷ 255 ∷ [],
    )
    ∷ (
      body_only 7 (ChecksumReport (record { low = 1; high = 2 }) 2147483738),
      7 ∷ 0 ∷ 6 ∷ 0 ∷ 0 ∷ 0 ∷ [] ++ count 1 ++ count 2 ++ 90 ∷ 0 ∷ 0 ∷ 0 ∷ [],
    )
    ∷ (body_only 513 KeepAlive, 1 ∷ 2 ∷ 7 ∷ 0 ∷ 0 ∷ 0 ∷ [])
    ∷ []

each_written : map (λ (row : Wire × List ℕ). bytes row.0) written ≡ map (λ (row : Wire × List ℕ). row.1) written
unfolding bytes head body_bytes kind_of flag_bytes frame_bytes advantage_bytes wide_bytes report_bytes reports_bytes statuses_bytes input_bytes le bits_of
each_written = refl

each_read : map (λ (row : Wire × List ℕ). datagram row.1) written ≡ map (λ (row : Wire × List ℕ). got row.0 []) written
unfolding datagram message kinds input reports report wide advantage frame flag number part unle bits_of
each_read = refl

-- an Input up to its count of statuses, and up to its disconnect flag with two of them
abbrev input_start : List ℕ
input_start = 1 ∷ 0 ∷ 2 ∷ 0 ∷ 0 ∷ 0 ∷ []

abbrev two_statuses : List ℕ
two_statuses = input_start ++ count 2 ++ 1 ∷ 3 ∷ 0 ∷ 0 ∷ 128 ∷ 0 ∷ 4 ∷ 0 ∷ 0 ∷ 128 ∷ []

abbrev to_payload : List ℕ
to_payload = two_statuses ++ 0 ∷ 5 ∷ 0 ∷ 0 ∷ 128 ∷ 6 ∷ 0 ∷ 0 ∷ 128 ∷ []

abbrev all_ones : List ℕ
all_ones = 255 ∷ 255 ∷ 255 ∷ 255 ∷ 255 ∷ 255 ∷ 255 ∷ 255 ∷ []

-- the first fault wins: 9 short, 10 no such kind, 11 no bool, 12 a count too large, 13 bytes after the message
abbrev refused : List (List ℕ × ℕ)
refused =
    ([], 9)
    ∷ (0 ∷ 0 ∷ 8 ∷ 0 ∷ 0 ∷ [], 9)
    ∷ (0 ∷ 0 ∷ 8 ∷ 0 ∷ 0 ∷ 0 ∷ [], 10)
    ∷ (0 ∷ 0 ∷ 255 ∷ 255 ∷ 255 ∷ 255 ∷ [], 10)
    ∷ (0 ∷ 0 ∷ 0 ∷ 0 ∷ 0 ∷ 0 ∷ 1 ∷ 2 ∷ 3 ∷ [], 9)
    ∷ (0 ∷ 0 ∷ 4 ∷ 0 ∷ 0 ∷ 0 ∷ 1 ∷ 2 ∷ [] ++ count 3, 9)
    ∷ (input_start ++ 5 ∷ 0 ∷ 0 ∷ 0 ∷ 0 ∷ 0 ∷ 0 ∷ [], 9)
    ∷ (input_start ++ count 5 ++ 2 ∷ [], 12)
    ∷ (input_start ++ all_ones, 12)
    ∷ (input_start ++ count 2 ++ 2 ∷ [], 11)
    ∷ (input_start ++ count 2 ++ 0 ∷ 0 ∷ [], 9)
    ∷ (input_start ++ count 2 ++ 1 ∷ 3 ∷ 0 ∷ 0 ∷ 128 ∷ 255 ∷ [], 11)
    ∷ (two_statuses ++ 2 ∷ [], 11)
    ∷ (to_payload ++ 65 ∷ 32 ∷ 0 ∷ 0 ∷ 0 ∷ 0 ∷ 0 ∷ 0 ∷ [], 12)
    ∷ (to_payload ++ all_ones ++ 1 ∷ [], 12)
    ∷ (to_payload ++ 64 ∷ 32 ∷ 0 ∷ 0 ∷ 0 ∷ 0 ∷ 0 ∷ 0 ∷ 1 ∷ [], 9)
    ∷ (to_payload ++ count 1 ++ 7 ∷ 8 ∷ [], 13)
    ∷ (1 ∷ 2 ∷ 7 ∷ 0 ∷ 0 ∷ 0 ∷ 0 ∷ [], 13)
    ∷ []

each_refused : map (λ (row : List ℕ × ℕ). number_in (datagram row.0)) refused ≡ map (λ (row : List ℕ × ℕ). row.1) refused
unfolding datagram message kinds input reports report wide advantage frame flag number part unle bits_of
each_refused = refl

-- a KeepAlive, an InputAck and three bytes that are no message: where the message at each place ends
abbrev queued : List ℕ
queued = 1 ∷ 2 ∷ 7 ∷ 0 ∷ 0 ∷ 0 ∷ [] ++ p1_bytes ++ 0 ∷ 0 ∷ 8 ∷ []

each_end : map (message_end queued) (0 ∷ 6 ∷ 16 ∷ 19 ∷ 25 ∷ []) ≡ 6 ∷ 16 ∷ 19 ∷ 19 ∷ 19 ∷ []
unfolding message_end message kinds frame number part unle bits_of
each_end = refl
