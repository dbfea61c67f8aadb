-- The bytes of an Input's entry: those given, zeros after them.
use mathlib.Core.List.{List, ◌++◌}
use mathlib.Core.Path.{◌≡◌}
use Prim.Native.Nat.{ℕ, min}
use lib.ListN.{length, take, drop, replicate}
use Rattle.base.proofs.Padded.{pad_over}
use Rattle.events.specs.declared.Entry.{Entry}
use Rattle.events.specs.declared.Event.TheVariants as Event
use Rattle.events.specs.Events.{input_of, input_entry}

unfoldable pub no_input : List ℕ
no_input = replicate 16 0

-- bytes laid over zeros, up to the shorter's end, are an input
pub laid_input : (bytes out : List ℕ) (i : ℕ) → i ≡ min 16 (length bytes) → out ≡ take i bytes ++ drop i no_input → out ≡ input_of bytes
unfolding input_of no_input
laid_input bytes out i m e = pad_over 0 16 bytes out i m e

-- the entry of a part
pub entry_is : (frame player : ℕ) (bytes out : List ℕ) (i : ℕ) → i ≡ min 16 (length bytes) → out ≡ take i bytes ++ drop i no_input
    → ◌≡◌ {A = Entry} (record { event = Event.Input frame player; input = out }) (input_entry frame player bytes)
unfolding input_entry
entry_is frame player bytes out i m e = rw (laid_input bytes out i m e)
