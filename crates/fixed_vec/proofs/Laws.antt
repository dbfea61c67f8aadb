-- Laws of what a list of fixed capacity holds.
use Rattle.std.proofs.Common.{◌≡◌, List, ℕ, ◌-◌, length, take, drop, set, min, ◌<◌, ◌∙◌, arith}
use Rattle.std.specs.List.{copy_within}
use lib.ListN.{length-take, length-drop, drop_of_length-le}
use lib.Seq.{take_at, take-set-lt, length-take-le}
use Rattle.base.proofs.Arrays.{shifted}

module _ {X : Type 0} where
  -- to drop the least of a number and how many there are
  drop_least : (l : List X) (n gone : ℕ) → gone ≡ min n (length l) → drop gone l ≡ drop n l
  drop_least l n gone e = grind (arith, drop_of_length-le)

  -- those after the first n, copied to the front of the array
  pub front_gone : (L : List X) (u n count gone : ℕ) → count ≡ length (take u L) → gone ≡ min n count
      → take (count - gone) (copy_within L gone count 0) ≡ drop n (take u L)
  front_gone L u n count gone c e =
      let long = length-take u L in
      let far = length-drop gone L in
      let moved : take (count - gone) (copy_within L gone count 0) ≡ take (count - gone) (drop gone L)
      = take_at (take (count - gone) (drop gone L)) _ (count - gone) (length-take-le (count - gone) (drop gone L) (omega arith)) in
      shifted (copy_within L gone count 0) L u count gone c moved ∙ drop_least (take u L) n gone (rw (← c) e)

  -- one written over a place of the first u
  pub set_held : (l : List X) (u at : ℕ) (x : X) → at < length (take u l) → take u (set l at x) ≡ set (take u l) at x
  set_held l u at x h = take-set-lt u l at x (omega (arith, length-take u l))
