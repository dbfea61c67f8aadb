-- The lines of events, in ASCII.
use Rattle.std.specs.Prelude.{◌≡◌, refl, List, [], ◌∷◌, ◌++◌, ℕ, take}
use Rattle.frame.specs.Bias.{bias32}
use Rattle.text.specs.Ascii.{ascii}
use Rattle.text.specs.Decimal.{decimal_of, signed_of, digits}
use Rattle.text.specs.Hex.{hex_of, hex_digit}
use Rattle.events.specs.declared.Entry.{Entry}
use Rattle.events.specs.declared.Event.{Event}
use Rattle.events.specs.declared.Event.TheVariants.{Synchronizing, Synchronized, Input, Disconnected, NetworkInterrupted, NetworkResumed}

-- an input: its frame, signed, its player, and its first `size` bytes
unfoldable pub input_text : (frame player size : ℕ) → List ℕ → List ℕ
input_text frame player size input =
    ascii "Input frame " ++ signed_of bias32 frame ++ ascii " player " ++ decimal_of player ++ ascii ": " ++ hex_of (take size input)

unfoldable pub event_text : (size : ℕ) → List ℕ → Event → List ℕ
event_text size input (Synchronizing total count) = ascii "Synchronizing " ++ decimal_of count ++ ascii " of " ++ decimal_of total
event_text size input Synchronized = ascii "Synchronized"
event_text size input (Input frame player) = input_text frame player size input
event_text size input Disconnected = ascii "Disconnected"
event_text size input (NetworkInterrupted timeout) = ascii "NetworkInterrupted " ++ decimal_of timeout
event_text size input NetworkResumed = ascii "NetworkResumed"

-- an event's line, with no newline at its end
abbrev pub entry_line : (size : ℕ) → Entry → List ℕ
entry_line size x = event_text size x.input x.event

-- a whole line: a letter, the text, a newline
unfoldable pub under : (name : ℕ) → List ℕ → List ℕ
under name text = (name ∷ ascii ": ") ++ text ++ ascii "\n"

unfoldable pub each_of : (name size : ℕ) → List Entry → List (List ℕ)
each_of name size [] = []
each_of name size (x ∷ xs) = under name (entry_line size x) ∷ each_of name size xs

-- a line for each event, or one where there is none
unfoldable pub lines_of : (name size : ℕ) → List Entry → List (List ℕ)
lines_of name size [] = under name (ascii "no event") ∷ []
lines_of name size (x ∷ xs) = each_of name size (x ∷ xs)

-- worked: the first move of player 0, whose input is one byte of the 16; a handshake's second step; the lines of A
sixteen : List ℕ
sixteen = 5 ∷ 0 ∷ 0 ∷ 0 ∷ 0 ∷ 0 ∷ 0 ∷ 0 ∷ 0 ∷ 0 ∷ 0 ∷ 0 ∷ 0 ∷ 0 ∷ 0 ∷ 0 ∷ []

input_example : event_text 1 sixteen (Input 0x8000_0000 0) ≡ ascii "Input frame 0 player 0: 05"
unfolding event_text input_text sixteen ascii decimal_of signed_of digits hex_of hex_digit
input_example = refl

wide_example : event_text 2 sixteen (Input 0x7FFF_FFFE 3) ≡ ascii "Input frame -2 player 3: 0500"
unfolding event_text input_text sixteen ascii decimal_of signed_of digits hex_of hex_digit
wide_example = refl

synchronizing_example : event_text 1 sixteen (Synchronizing 5 2) ≡ ascii "Synchronizing 2 of 5"
unfolding event_text ascii decimal_of digits
synchronizing_example = refl

interrupted_example : event_text 1 sixteen (NetworkInterrupted 1500) ≡ ascii "NetworkInterrupted 1500"
unfolding event_text ascii decimal_of digits
interrupted_example = refl

lines_example : lines_of 65 1 (record { event = Synchronized; input = sixteen } ∷ record { event = Disconnected; input = sixteen } ∷ [])
    ≡ ascii "A: Synchronized\n" ∷ ascii "A: Disconnected\n" ∷ []
unfolding lines_of each_of under event_text ascii
lines_example = refl

none_example : lines_of 66 1 [] ≡ ascii "B: no event\n" ∷ []
unfolding lines_of under ascii
none_example = refl
