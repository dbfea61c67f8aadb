-- Pieces put one after another are their sequence put at once.
use mathlib.Core.Path.{◌≡◌, ◌∙◌}
use mathlib.Core.List.{List, ◌++◌}
use Prim.Native.Nat.{ℕ, ◌+◌, ◌≤◌}
use native.Mathlib.Omega.{arith}
use native.Mathlib.Nat.{add_assoc}
use lib.ListN.{length, length-append}
use Rattle.base.proofs.Lay.{laid_join}
use Rattle.codec.specs.Put.{PutAs}

-- where both have room, the first has it, and after it the second
module _ (b : List ℕ) (at : ℕ) (x y : List ℕ) (room : at + length (x ++ y) ≤ length b) where
  pub room_first : at + length x ≤ length b
  room_first = omega (arith, length-append x y)

  module _ (r : ℕ) (b' : List ℕ) (p : PutAs b at x r b') where
    pub room_second : length b' ≡ length b → r + length y ≤ length b'
    room_second e = omega (arith, p.next, length-append x y)

    pub put_both : (r' : ℕ) (b'' : List ℕ) → PutAs b' r y r' b'' → PutAs b at (x ++ y) r' b''
    put_both r' b'' q =
        record {
          next = q.next ∙ rw (p.next, length-append, add_assoc);
          laid = q.laid ∙ rw (p.laid, p.next) (laid_join b at x y (omega (arith, length-append x y)));
        }
