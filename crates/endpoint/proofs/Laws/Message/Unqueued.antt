-- A reaction that queues nothing: a buffer's length does not matter to it, and the buffer stays as it was.
use mathlib.Core.List.{List, [], flatten}
use mathlib.Core.Path.{◌≡◌, refl, sym}
use Prim.Native.Nat.{ℕ}
use lib.ListN.{length}
use Rattle.base.proofs.Lay.{laid_none}
use Rattle.outbox.specs.Outbox.{queue_size}
use Rattle.endpoint_rules.specs.Did.{Did, refused, done}
use Rattle.endpoint_rules.specs.Room.{buffer_full, is_full}
use Rattle.endpoint_rules.specs.Handshake.{Reaction}
use Rattle.endpoint_rules.specs.Step.{reacted}
use Rattle.endpoint_rules.proofs.Tested.{tested-both}
use Rattle.endpoint.specs.declared.Endpoint.{Endpoint}
use Rattle.endpoint.specs.declared.Ended.{Ended}
use Rattle.endpoint.specs.Endpoint.{seen, DidAs, DoneAs}

module _ (e : Endpoint) (r : Reaction) (o : r.effect.out ≡ []) where
  reacted_out : (reacted 0 (seen e) r).out ≡ []
  unfolding reacted done refused
  reacted_out = tested-both _ (seen e) (done r.effect) (λ (d : Did). d.out ≡ []) (λ _. refl) (λ _. o)

  reacted_any : (n : ℕ) → reacted n (seen e) r ≡ reacted 0 (seen e) r
  unfolding reacted is_full buffer_full queue_size
  reacted_any n = rw o

  pub unqueued : (buffer : List ℕ) (x : Ended) → DoneAs e (reacted 0 (seen e) r) x → DidAs e (reacted (length buffer) (seen e) r) buffer x buffer
  unfolding flatten
  unqueued buffer x d =
      rw (reacted_any (length buffer)) (record { answer = d.answer; after = d.after; terms = d.terms; lent = rw reacted_out (sym (laid_none buffer e.queued)); same = d.same })
