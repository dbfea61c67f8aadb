-- The pieces of each event's words, put into a draft one after another.
use mathlib.Core.Path.{◌≡◌}
use mathlib.Core.List.{List, ◌++◌}
use Prim.Native.Nat.{ℕ, ◌^◌, ◌<◌, ◌≤◌}
use native.Mathlib.Omega.{arith}
use lib.Dec.{lit≤}
use lib.ListN.{length, take, length-take}
use Rattle.frame.specs.Bias.{bias32}
use Rattle.text.specs.Ascii.{ascii}
use Rattle.text.specs.Decimal.{decimal_of, signed_of}
use Rattle.text.specs.Hex.{hex_of}
use Rattle.text.specs.Draft.{drafted, added, DraftedAs, Adds}
use Rattle.text.specs.declared.draft.Draft.{Draft}
use Rattle.text.proofs.DecimalLaws.{decimal_32, decimal_64, signed-length}
use Rattle.text.proofs.HexLaws.{hex_length}
use Rattle.text.proofs.PieceLaws.{put_adds, then_put, wider}
use Rattle.event_line.specs.Lines.{input_text}

-- a piece is put after what a draft has
abbrev Puts : Draft → List ℕ → Draft → Type 0
Puts d piece r = DraftedAs (added (drafted d) piece) r

module _ (d : Draft) (room : d.text.count ≤ 3) where
  pub word_added : (word : List ℕ) (r : Draft) → length word ≤ 75 → Puts d word r → Adds d word 75 r
  word_added word r few p = put_adds d r word 75 few (omega arith) p

  pub interrupted-added : (timeout : ℕ) → timeout < 2 ^ 64 → (a r : Draft) → Puts d (ascii "NetworkInterrupted ") a → Puts a (decimal_of timeout) r
      → Adds d (ascii "NetworkInterrupted " ++ decimal_of timeout) 75 r
  unfolding ascii
  interrupted-added timeout h a r p q =
      wider _ _ _ _
      (then_put d a r (ascii "NetworkInterrupted ") (decimal_of timeout) 19 20
      (put_adds d a (ascii "NetworkInterrupted ") 19 (lit≤ tt) (omega arith) p)
      (decimal_64 timeout h) (omega arith) q)
      (omega arith)

  pub synchronizing_added : (total count : ℕ) → total < 2 ^ 32 → count < 2 ^ 32 → (a b c r : Draft)
      → Puts d (ascii "Synchronizing ") a → Puts a (decimal_of count) b → Puts b (ascii " of ") c → Puts c (decimal_of total) r
      → Adds d (ascii "Synchronizing " ++ decimal_of count ++ ascii " of " ++ decimal_of total) 75 r
  unfolding ascii
  synchronizing_added total count h k a b c r p q s t =
      wider _ _ _ _
      (then_put d c r (ascii "Synchronizing " ++ decimal_of count ++ ascii " of ") (decimal_of total) 28 10
      (then_put d b c (ascii "Synchronizing " ++ decimal_of count) (ascii " of ") 24 4
      (then_put d a b (ascii "Synchronizing ") (decimal_of count) 14 10
      (put_adds d a (ascii "Synchronizing ") 14 (lit≤ tt) (omega arith) p)
      (decimal_32 count k) (omega arith) q)
      (lit≤ tt) (omega arith) s)
      (decimal_32 total h) (omega arith) t)
      (omega arith)

  module _ (frame player size : ℕ) (input : List ℕ) (hf : frame < 2 ^ 32) (hp : player < 2 ^ 32) (sixteen : length input ≡ 16) where
    part_length : length (hex_of (take size input)) ≤ 32
    part_length = rw hex_length (simp length-take (omega arith))

    pub input-added : (a b c e f r : Draft) → Puts d (ascii "Input frame ") a → Puts a (signed_of bias32 frame) b → Puts b (ascii " player ") c
        → Puts c (decimal_of player) e → Puts e (ascii ": ") f → Puts f (hex_of (take size input)) r → Adds d (input_text frame player size input) 75 r
    unfolding input_text ascii
    input-added a b c e f r p q s t u v =
        then_put d f r (ascii "Input frame " ++ signed_of bias32 frame ++ ascii " player " ++ decimal_of player ++ ascii ": ") (hex_of (take size input)) 43 32
        (then_put d e f (ascii "Input frame " ++ signed_of bias32 frame ++ ascii " player " ++ decimal_of player) (ascii ": ") 41 2
        (then_put d c e (ascii "Input frame " ++ signed_of bias32 frame ++ ascii " player ") (decimal_of player) 31 10
        (then_put d b c (ascii "Input frame " ++ signed_of bias32 frame) (ascii " player ") 23 8
        (then_put d a b (ascii "Input frame ") (signed_of bias32 frame) 12 11
        (put_adds d a (ascii "Input frame ") 12 (lit≤ tt) (omega arith) p)
        (signed-length bias32 frame (lit≤ tt) hf) (omega arith) q)
        (lit≤ tt) (omega arith) s)
        (decimal_32 player hp) (omega arith) t)
        (lit≤ tt) (omega arith) u)
        part_length (omega arith) v
