-- A draft that holds nothing, and a piece laid behind a draft's text or refused.
use borrow.Author.Tests.{not-false, ltb-true, le-leb, lt-leb}
use mathlib.Core.Path.{◌≡◌, sym, ◌∙◌, ap}
use mathlib.Core.Bool.{Bool, true, false}
use mathlib.Core.List.{List, [], ◌++◌}
use Prim.Native.Nat.{ℕ, ◌+◌, ◌≤◌}
use native.Mathlib.Omega.{arith}
use lib.ListN.{length, take, length-append, length-take}
use Rattle.base.specs.Lay.{no_room}
use Rattle.base.proofs.Arrays.{take_count}
use Rattle.base.proofs.Lay.{laid_front}
use Rattle.fixed_vec.specs.FixedVec.{held}
use Rattle.fixed_vec.specs.declared.FixedVec.{FixedVec}
use Rattle.text.specs.Append.{AppendedAs}
use Rattle.text.specs.Draft.{drafted, added, DraftedAs}
use Rattle.text.proofs.PageLaws.{room, fits}

module _ (v : FixedVec ℕ 256) (long : length v.list ≡ 256) where
  pub nothing : held v ≡ [] → DraftedAs [] (record { text = v })
  unfolding drafted held
  nothing e = record { text = e; count = omega (arith, sym (length-take v.count v.list) ∙ ap length e) }

  -- a piece laid behind the text, or refused
  module _ (piece : List ℕ) (n : ℕ) (e : n ≡ length (held v)) (ok : Bool) (list : List ℕ) (a : AppendedAs v.list n piece ok list) where
    pub put_fits : ok ≡ true → n + length piece ≤ 256
    put_fits h = omega (arith, fits v.list n piece ok list a h)

    pub put_done : (count : ℕ) → count ≡ n + length piece → ok ≡ true
        → DraftedAs (added (drafted (record { text = v })) piece) (record { text = record { list = list; count = count } })
    unfolding drafted added held
    put_done count u h =
        let inside : n + length piece ≤ length v.list = fits v.list n piece ok list a h in
        let yes = le-leb (length (held v) + length piece) 256 (omega arith) in
        let front : take (n + length piece) list ≡ take n v.list ++ piece
        = rw (a.lent, room v.list n piece ok list a h) (laid_front v.list n piece inside) in
        let text : take n v.list ≡ held v = rw e (sym (take_count v.count v.list)) in
        record { text = rw yes (rw (u, front, text)); count = rw (yes, length-append) (omega arith) }

    pub put_none : ok ≡ false → DraftedAs (added (drafted (record { text = v })) piece) (record { text = record { list = list; count = n } })
    unfolding drafted added held
    put_none h =
        let full = not-false (no_room v.list n (length piece)) (sym a.answer ∙ h) in
        let no = lt-leb (length (held v) + length piece) 256 (omega (arith, ltb-true (length v.list) (n + length piece) full)) in
        let same : list ≡ v.list = rw (a.lent, full) in
        record { text = rw no (rw (same, e) (sym (take_count v.count v.list))); count = rw no e }
