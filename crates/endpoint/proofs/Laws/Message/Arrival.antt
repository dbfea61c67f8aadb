-- What was read of a datagram, with the reader's answer, does what the datagram does.
use Rattle.std.specs.Prelude.{Ok, Err}
use mathlib.Core.List.{List}
use mathlib.Core.Path.{◌≡◌}
use Prim.Native.Nat.{ℕ}
use borrow.Author.Tests.{ne_eqb}
use lib.ListN.{length}
use Rattle.answer.specs.Number.{refusal_number}
use Rattle.answer.specs.declared.Refusal.{Refusal}
use Rattle.answer.proofs.Refused.{not_done}
use Rattle.codec.specs.Read.{datagram, number_in}
use Rattle.codec.specs.Message.{meant}
use Rattle.codec.specs.Calls.{payload_in, ReadAs}
use Rattle.codec.specs.declared.Message.{Message}
use Rattle.endpoint_rules.specs.Seen.{Seen}
use Rattle.endpoint_rules.specs.Did.{Did, refused, decided}
use Rattle.endpoint_rules.specs.Call.{Call}
use Rattle.endpoint_rules.specs.Step.{datagram_step, step}
use Rattle.endpoint.specs.declared.Endpoint.{Endpoint}
use Rattle.endpoint.specs.declared.Ended.{Ended}
use Rattle.endpoint.specs.Endpoint.{seen, SameTerms, DidAs}
use Rattle.endpoint.proofs.Laws.Ends.{refused_did}
use Rattle.endpoint.proofs.Laws.Settled.{did_settled}

decided-refused : (r : Refusal) (s : Seen) (d : Did) → decided (refusal_number r) s d ≡ refused (refusal_number r) s
unfolding decided
decided-refused r s d = rw (ne_eqb (refusal_number r) 0 (not_done r))

module _ (e : Endpoint) (from : ℕ) (bytes : List ℕ) (now epoch nonce : ℕ) (buffer : List ℕ) where
  abbrev Does : Did
  Does = step (Call.datagram from bytes now epoch nonce (length buffer)) (seen e)

  passes : (n : ℕ) → n ≡ 0 → (d : Did) (x : Ended) (b' : List ℕ) → DidAs e d buffer x b' → DidAs e (decided n (seen e) d) buffer x b'
  unfolding decided
  passes n h d x b' q = rw h q

  -- what was read does what the message does
  pub datagram_read : (m : Message) → ReadAs bytes (Ok m) → (p : List ℕ) → p ≡ payload_in bytes → (x : Ended) (b' : List ℕ)
      → DidAs e (step (Call.message from m.reports.count (meant m p) now epoch nonce (length buffer)) (seen e)) buffer x b' → DidAs e Does buffer x b'
  unfolding step datagram_step
  datagram_read m read p payload x b' d = rw (payload, read.message, read.count) at (passes (number_in (datagram bytes)) read.reads _ x b' d)

  -- and what cannot be read is refused
  pub datagram_refused : (r : Refusal) → ReadAs bytes (Err r) → DidAs e Does buffer (record { answer = Err r; endpoint = e }) buffer
  unfolding step datagram_step
  datagram_refused r read = refused_did e (Err r) Does (rw read (decided-refused r (seen e) _)) buffer

  pub datagram_settled : (r s : Ended) (b c : List ℕ) → DidAs e Does buffer r b → DidAs e Does buffer s c
      → (r.answer ≡ s.answer) × (seen r.endpoint ≡ seen s.endpoint) × SameTerms r.endpoint s.endpoint × (b ≡ c)
  datagram_settled = did_settled e Does buffer
