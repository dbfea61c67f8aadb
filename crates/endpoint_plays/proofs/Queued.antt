-- Bytes that are those of messages that were queued: what is cut out of them reads as one of these messages.
use mathlib.Core.List.{List, [], ◌∷◌, ◌++◌, append-nil, map, flatten, Memᴰ as Mem}
use mathlib.Core.Logic.{◌⊎◌, inl, inr}
use mathlib.Core.Path.{◌≡◌, refl, sym, ◌∙◌, ap}
use native.Mathlib.Nat.{add-zero}
use Prim.Native.Nat.{ℕ, ◌+◌, ◌≤◌}
use lib.ListN.{length, take}
use Rattle.base.specs.Lay.{laid_at}
use Rattle.base.proofs.Lay.{laid_none, laid_front}
use Rattle.codec.specs.Message.{Wire, FitAll}
use Rattle.codec.specs.Bytes.{queue_of}
use Rattle.codec.specs.Calls.{cut}
use Rattle.codec.proofs.Queue.{queue-append, read-queue}
use Rattle.endpoint_delivery.proofs.Lists.{append_cases, cases_cons, here, there, mem-left, mem-right, not-nil}
use Rattle.endpoint_plays.specs.Sides.{read_as}
use Rattle.endpoint_plays.proofs.Written.{no_bytes}

pub both_fit : (xs ys : List Wire) → FitAll xs → FitAll ys → FitAll (xs ++ ys)
both_fit [] ys p q = q
both_fit (x ∷ xs) ys p q = (p.0, both_fit xs ys p.1 q)

-- the bytes are those of some messages, each of which is among the ones queued
pub record OfQueued (waiting : List ℕ) (queued : List Wire) : Type 0 where
  pub messages : List Wire
  pub fit : FitAll messages
  pub bytes : waiting ≡ queue_of messages
  pub among : (w : Wire) → Mem w messages → Mem w queued

pub of_none : (queued : List Wire) → OfQueued [] queued
unfolding flatten
of_none queued = record { messages = []; fit = tt; bytes = refl; among = λ w h. absurd (not-nil h) }

-- more messages were queued, and their bytes wait too
pub of_more : (waiting : List ℕ) (queued ws : List Wire) → FitAll ws → OfQueued waiting queued → OfQueued (waiting ++ queue_of ws) (queued ++ ws)
of_more waiting queued ws f o =
    record {
      messages = o.messages ++ ws;
      fit = both_fit o.messages ws o.fit f;
      bytes = rw o.bytes (sym (queue-append o.messages ws));
      among = λ w h. elim (append_cases o.messages h) [ inl p ↦ mem-left {s = queued} ws (o.among w p) | inr p ↦ mem-right queued p ];
    }

-- or theirs do not
pub of_later : (waiting : List ℕ) (queued ws : List Wire) → OfQueued waiting queued → OfQueued waiting (queued ++ ws)
of_later waiting queued ws o = record { messages = o.messages; fit = o.fit; bytes = o.bytes; among = λ w h. mem-left {s = queued} ws (o.among w h) }

mem_map : {X Y : Type 0} (f : X → Y) (l : List X) {y : X} → Mem y l → Mem (f y) (map f l)
mem_map f [] h = absurd (not-nil h)
mem_map f (z ∷ l) {y} h = elim (cases_cons h) [ inl e ↦ here (ap f e) | inr t ↦ there (mem_map f l t) ]

-- a datagram that is cut out of them reads as a message that was queued
pub of_cut : (waiting : List ℕ) (queued : List Wire) → OfQueued waiting queued → (d : List ℕ) → Mem d (cut waiting) → Mem (read_as d) queued
of_cut waiting queued o d h = o.among (read_as d) (rw (read-queue o.messages o.fit) at (mem_map read_as (cut (queue_of o.messages)) (rw o.bytes at h)))

-- a buffer that has what waits at its front has it, and what was laid behind it, after that
pub laid_holds : (before : ℕ) (out waiting bytes : List ℕ) → (length bytes ≡ 0) ⊎ (before + length bytes ≤ length out) → take before out ≡ waiting
    → take (before + length bytes) (laid_at out before bytes) ≡ waiting ++ bytes
laid_holds before out waiting bytes (inl z) h = rw (no_bytes bytes z, laid_none, append-nil, add-zero) h
laid_holds before out waiting bytes (inr f) h = laid_front out before bytes f ∙ rw h
