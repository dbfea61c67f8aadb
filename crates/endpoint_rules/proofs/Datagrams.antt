-- A datagram and the message that it is: its own fault comes before everything else, also before 8 and in Shutdown; without one it is the message.
use mathlib.Core.List.{List, []}
use mathlib.Core.Path.{◌≡◌}
use native.Mathlib.Omega.{arith}
use Prim.Native.Nat.{ℕ}
use borrow.Author.Tests.{ne_eqb}
use lib.ListN.{length}
use Rattle.base.specs.Little.{Bytes}
use Rattle.codec.specs.Message.{Wire, Fits}
use Rattle.codec.specs.Bytes.{bytes}
use Rattle.codec.specs.Read.{datagram}
use Rattle.codec.specs.Read.Reading.{got, fault}
use Rattle.codec.proofs.Laws.{read-bytes, datagram_fault_range}
use Rattle.endpoint_rules.specs.Seen.{Seen}
use Rattle.endpoint_rules.specs.Did.{refused, decided}
use Rattle.endpoint_rules.specs.Call.{Call}
use Rattle.endpoint_rules.specs.Step.{datagram_step, step}

module _ (from : ℕ) (d : List ℕ) (now epoch nonce buffer : ℕ) (s : Seen) where
  pub datagram-refused : (n : ℕ) → Bytes d → datagram d ≡ fault n → step (Call.datagram from d now epoch nonce buffer) s ≡ refused n s
  unfolding step datagram_step decided
  datagram-refused n h e =
      let range = datagram_fault_range d n h e in
      rw (e, ne_eqb n 0 (λ z. omega arith))

  pub datagram-message : (w : Wire) (rest : List ℕ) → datagram d ≡ got w rest
      → step (Call.datagram from d now epoch nonce buffer) s ≡ step (Call.message from (length w.reports) w now epoch nonce buffer) s
  unfolding step datagram_step decided
  datagram-message w rest e = rw e

-- so the bytes of a message do what the message does
pub bytes-message : (from : ℕ) (w : Wire) (now epoch nonce buffer : ℕ) (s : Seen) → Fits w
    → step (Call.datagram from (bytes w) now epoch nonce buffer) s ≡ step (Call.message from (length w.reports) w now epoch nonce buffer) s
bytes-message from w now epoch nonce buffer s h = datagram-message from (bytes w) now epoch nonce buffer s w [] (read-bytes w h)
