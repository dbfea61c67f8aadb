-- Pieces that are put into a draft one after another, as long as there is room, are their sequence; the numbers bound how many bytes are used.
use borrow.Author.Tests.{le-leb}
use mathlib.Core.Path.{◌≡◌, ◌∙◌}
use mathlib.Core.List.{List, [], ◌++◌, append_assoc}
use Prim.Native.Nat.{ℕ, ◌+◌, ◌≤◌}
use native.Mathlib.Omega.{arith}
use lib.ListN.{length, length-append, length-take}
use Rattle.fixed_vec.specs.FixedVec.{held}
use Rattle.text.specs.Draft.{drafted, added, DraftedAs, Holds, Adds}
use Rattle.text.specs.declared.draft.Draft.{Draft}

pub empty_holds : (r : Draft) → DraftedAs [] r → Holds [] 0 r
empty_holds r a = record { text = a.text; count = omega (arith, a.count) }

used_le : (d : Draft) → length (drafted d) ≤ d.text.count
unfolding drafted held
used_le d = simp length-take (omega arith)

-- a piece of at most so many bytes, for which there is room
pub put_adds : (d r : Draft) (piece : List ℕ) (most : ℕ) → length piece ≤ most → d.text.count + most ≤ 256 → DraftedAs (added (drafted d) piece) r → Adds d piece most r
unfolding added
put_adds d r piece most few room a =
    let n = used_le d in
    let yes = le-leb (length (drafted d) + length piece) 256 (omega arith) in
    record { text = rw yes at a.text; count = omega (arith, rw (yes, length-append) at a.count) }

pub wider : (line : List ℕ) (few most : ℕ) (r : Draft) → Holds line few r → few ≤ most → Holds line most r
wider line few most r h w = record { text = h.text; count = omega (arith, h.count) }

pub same_text : (line text : List ℕ) (most : ℕ) (r : Draft) → line ≡ text → Holds line most r → Holds text most r
same_text line text most r e h = record { text = h.text ∙ e; count = h.count }

pub same_piece : (d : Draft) (p q : List ℕ) (most : ℕ) (r : Draft) → p ≡ q → Adds d p most r → Adds d q most r
same_piece d p q most r e a = record { text = a.text ∙ rw e; count = a.count }

-- two pieces, one after the other
pub both : (line piece : List ℕ) (most more : ℕ) (d r : Draft) → Holds line most d → Adds d piece more r → Holds (line ++ piece) (most + more) r
both line piece most more d r h a = record { text = a.text ∙ rw h.text; count = omega (arith, h.count, a.count) }

pub both_adds : (d : Draft) (first piece : List ℕ) (most more : ℕ) (e r : Draft) → Adds d first most e → Adds e piece more r → Adds d (first ++ piece) (most + more) r
both_adds d first piece most more e r h a = record { text = a.text ∙ rw (h.text, append_assoc); count = omega (arith, h.count, a.count) }

-- the same of a piece that is put after others
pub then_put : (d e r : Draft) (first piece : List ℕ) (most more : ℕ) → Adds d first most e → length piece ≤ more → d.text.count + (most + more) ≤ 256
    → DraftedAs (added (drafted e) piece) r → Adds d (first ++ piece) (most + more) r
then_put d e r first piece most more h few room a = both_adds d first piece most more e r h (put_adds e r piece more few (omega (arith, h.count)) a)
