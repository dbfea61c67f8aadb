-- An Input at its flag's place, by what stands there, and whole.
use borrow.Author.Tests.{lt-ltb, le-ltb}
use mathlib.Core.Path.{◌≡◌, ◌∙◌}
use mathlib.Core.Bool.{Bool}
use mathlib.Core.Logic.{inl, inr}
use mathlib.Core.List.{List, []}
use Prim.Native.Nat.{ℕ, ◌+◌, ◌<◌, ◌≤◌}
use native.Mathlib.Omega.{arith}
use native.Mathlib.Nat.{add_assoc}
use lib.Dec.{ltb}
use lib.ListN.{length, take, drop, length-drop}
use lib.Seq.{drop-drop}
use Rattle.base.proofs.Digits.{below_or_not}
use Rattle.frame.specs.Bias.{bias32, bits_of}
use Rattle.ceilings.specs.Ceilings.{most_players, most_payload}
use Rattle.codec.specs.Message.{Wire}
use Rattle.codec.specs.Read.{Reads, and_then, ◌>>=◌, give, part, refuse, flag, reports, input, kinds, message}
use Rattle.codec.specs.Read.Reading.{got, fault}
use Rattle.codec.specs.Front.{number_at, after_reports}
use Rattle.codec.proofs.Takes.{takes_part, takes_number, takes_frame, head_whole}
use Rattle.codec.specs.declared.StatusReport.{StatusReport}
use Rattle.codec.specs.declared.MessageBody.TheVariants.{Input}

-- the Input that stands there with b payload bytes
abbrev pub input_at : ℕ → List StatusReport → Bool → ℕ → ℕ → List ℕ → Wire
input_at magic rs disconnect at b d =
    record {
      magic = magic;
      body = Input disconnect (bits_of bias32 (number_at 4 (at + 1) d)) (bits_of bias32 (number_at 4 (at + 5) d));
      reports = rs;
      payload = take b (drop (at + 17) d);
    }

-- the payload's count was read
ending : ℕ → List StatusReport → Bool → ℕ → ℕ → ℕ → Reads Wire
ending magic rs disconnect start ack b = do
  _ ← refuse (ltb most_payload b) 12
  payload ← part b
  give (record { magic = magic; body = Input disconnect start ack; reports = rs; payload = payload })

module _ (d : List ℕ) (at magic : ℕ) (rs : List StatusReport) where
  pub flag_fault : (n : ℕ) → flag (drop at d) ≡ fault n → after_reports magic rs (drop at d) ≡ fault n
  unfolding after_reports
  flag_fault n e = rw e

  module _ (disconnect : Bool) (f : flag (drop at d) ≡ got disconnect (drop (at + 1) d)) where
    pub few_bytes : length d < at + 17 → after_reports magic rs (drop at d) ≡ fault 9
    unfolding after_reports
    few_bytes l =
        elim (below_or_not (length d) (at + 5)) [
          | inl m ↦ rw (f, takes_frame.short (drop (at + 1) d) (rw length-drop (omega arith)))
          | inr m ↦
              elim (below_or_not (length d) (at + 9)) [
                | inl n ↦
                    rw (
                      f,
                      takes_frame.whole (drop (at + 1) d) (rw length-drop (omega arith)),
                      drop-drop 4 (at + 1) d,
                      add_assoc at 1 4,
                      takes_frame.short (drop (at + 5) d) (rw length-drop (omega arith)),
                    )
                | inr n ↦
                    rw (
                      f,
                      takes_frame.whole (drop (at + 1) d) (rw length-drop (omega arith)),
                      drop-drop 4 (at + 1) d,
                      add_assoc at 1 4,
                      takes_frame.whole (drop (at + 5) d) (rw length-drop (omega arith)),
                      drop-drop 4 (at + 5) d,
                      add_assoc at 5 4,
                      (takes_number 8).short (drop (at + 9) d) (rw length-drop (omega arith)),
                    )
              ]
        ]

    module _ (l : at + 17 ≤ length d) where
      -- the four fields, and the count's test and the payload left to read
      fields : after_reports magic rs (drop at d) ≡ ending magic rs disconnect (bits_of bias32 (number_at 4 (at + 1) d)) (bits_of bias32 (number_at 4 (at + 5) d)) (number_at 8 (at + 9) d) (drop (at + 17) d)
      unfolding after_reports number_at ending
      fields =
          rw (
            f,
            takes_frame.whole (drop (at + 1) d) (rw length-drop (omega arith)),
            drop-drop 4 (at + 1) d,
            add_assoc at 1 4,
            takes_frame.whole (drop (at + 5) d) (rw length-drop (omega arith)),
            drop-drop 4 (at + 5) d,
            add_assoc at 5 4,
            (takes_number 8).whole (drop (at + 9) d) (rw length-drop (omega arith)),
            drop-drop 8 (at + 9) d,
            add_assoc at 9 8,
          )

      pub long_payload : most_payload < number_at 8 (at + 9) d → after_reports magic rs (drop at d) ≡ fault 12
      unfolding ending
      long_payload m = fields ∙ rw (lt-ltb most_payload (number_at 8 (at + 9) d) m)

      module _ (m : number_at 8 (at + 9) d ≤ most_payload) where
        pub short_payload : length d < at + 17 + number_at 8 (at + 9) d → after_reports magic rs (drop at d) ≡ fault 9
        unfolding ending
        short_payload n =
            fields ∙ rw (le-ltb most_payload (number_at 8 (at + 9) d) m, (takes_part (number_at 8 (at + 9) d)).short (drop (at + 17) d) (rw length-drop (omega arith)))

        pub whole_input : at + 17 + number_at 8 (at + 9) d ≤ length d
            → after_reports magic rs (drop at d) ≡ got (input_at magic rs disconnect at (number_at 8 (at + 9) d) d) (drop (at + 17 + number_at 8 (at + 9) d) d)
        unfolding ending
        whole_input n =
            fields
            ∙ rw (
              le-ltb most_payload (number_at 8 (at + 9) d) m,
              (takes_part (number_at 8 (at + 9) d)).whole (drop (at + 17) d) (rw length-drop (omega arith)),
              drop-drop (number_at 8 (at + 9) d) (at + 17) d,
            )

-- the head of an Input
module _ (d : List ℕ) (h : 6 ≤ length d) (two : number_at 4 2 d ≡ 2) where
  begun : message d ≡ input (number_at 2 0 d) (drop 6 d)
  unfolding kinds
  begun = head_whole d h ∙ rw two

  pub no_count : length d < 14 → message d ≡ fault 9
  unfolding input
  no_count l = begun ∙ rw ((takes_number 8).short (drop 6 d) (rw length-drop (omega arith)))

  module _ (l : 14 ≤ length d) where
    pub many_statuses : most_players < number_at 8 6 d → message d ≡ fault 12
    unfolding input number_at
    many_statuses m =
        begun ∙ rw ((takes_number 8).whole (drop 6 d) (rw length-drop (omega arith)), lt-ltb most_players (number_at 8 6 d) m)

    module _ (m : number_at 8 6 d ≤ most_players) where
      pub with_statuses_lem : message d ≡ and_then (reports (number_at 8 6 d) [] (drop 14 d)) (λ rs. after_reports (number_at 2 0 d) rs)
      unfolding input number_at after_reports
      with_statuses_lem =
          begun
          ∙ rw (
            (takes_number 8).whole (drop 6 d) (rw length-drop (omega arith)),
            drop-drop 8 6 d,
            le-ltb most_players (number_at 8 6 d) m,
          )
