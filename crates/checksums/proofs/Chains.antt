-- What the chains of iterators over a store give, in the words of its definitions.
use borrow.Author.Tests.{le-leb, leb-false}
use mathlib.Core.Bool.{Bool, true, false}
use mathlib.Core.List.{List, [], ◌∷◌, ◌++◌}
use mathlib.Core.Path.{◌≡◌, refl, sym, ◌∙◌, ap}
use Prim.Native.Nat.{ℕ, zero, suc, ◌+◌, ◌≤◌, ◌<◌}
use native.Mathlib.Omega.{arith}
use native.Mathlib.Nat.{add-zero}
use lib.Dec.{eqb, leb}
use lib.ListN.{length, set}
use Rattle.std.proofs.Common.{Option, Some, None, cond}
use Rattle.std.specs.List.{find, filter, position, position_from, count_by}
use Rattle.std.proofs.lemmas.List.Sums.{length-filter}
use Rattle.std.proofs.lemmas.Iterator.Adapters.{position_from-zero}
use Rattle.base.specs.Pick.{pick}
use Rattle.base.specs.Keyed.{kept, has, first_with, place, put}
use Rattle.std.proofs.lemmas.Bool.{lt-leb}
use Rattle.base.proofs.Kept.{kept-length}
use Rattle.base.proofs.Removal.{kept_by_key, put_held, put_new}
use Rattle.checksums.specs.declared.Checksum.{Checksum}
use Rattle.checksums.specs.Checksums.{checksum_frame, kept_from, others_full, blank_checksum}

first_is : (frame : ℕ) (l : List Checksum) → find (λ c. eqb frame c.frame) l ≡ pick (has checksum_frame frame l) (Some (first_with checksum_frame frame blank_checksum l)) None
unfolding has first_with
first_is frame [] = refl
first_is frame (x ∷ l) =
    elim (eqb frame x.frame) as (λ b. cond b (Some x) (find (λ (c : Checksum). eqb frame c.frame) l) ≡ pick (pick b true (has checksum_frame frame l)) (Some (pick b x (first_with checksum_frame frame blank_checksum l))) None)
    [ true ↦ refl | false ↦ first_is frame l ]

pub find_is : (frame : ℕ) (l : List Checksum) (r : Option Checksum) → r ≡ find (λ c. eqb frame c.frame) l
    → r ≡ pick (has checksum_frame frame l) (Some (first_with checksum_frame frame blank_checksum l)) None
find_is frame l r e = e ∙ first_is frame l

place_from : (frame i : ℕ) (l : List Checksum) → position_from (λ c. eqb frame c.frame) i l ≡ pick (has checksum_frame frame l) (Some (i + place checksum_frame frame l)) None
unfolding has place
place_from frame i [] = refl
place_from frame i (x ∷ l) =
    elim (eqb frame x.frame) as (λ b. cond b (Some i) (position_from (λ (c : Checksum). eqb frame c.frame) (i + 1) l) ≡ pick (pick b true (has checksum_frame frame l)) (Some (i + pick b zero (suc (place checksum_frame frame l)))) None) [
      | true ↦ rw add-zero
      | false ↦ let e : i + 1 + place checksum_frame frame l ≡ i + suc (place checksum_frame frame l) = omega arith in place_from frame (i + 1) l ∙ rw e
    ]

place_is : (frame : ℕ) (l : List Checksum) → position (λ c. eqb frame c.frame) l ≡ pick (has checksum_frame frame l) (Some (place checksum_frame frame l)) None
place_is frame l =
    position_from-zero (λ (c : Checksum). eqb frame c.frame) l ∙ place_from frame 0 l ∙ let z : 0 + place checksum_frame frame l ≡ place checksum_frame frame l = omega arith in rw z

kept_is : (p : Checksum → Bool) (l : List Checksum) → filter p l ≡ kept p l
unfolding kept
kept_is p [] = refl
kept_is p (x ∷ l) = elim (p x) as (λ b. cond b (x ∷ filter p l) (filter p l) ≡ pick b (x ∷ kept p l) (kept p l)) [ true ↦ ap (λ (r : List Checksum). x ∷ r) (kept_is p l) | false ↦ kept_is p l ]

pub count_is : (line : ℕ) (l : List Checksum) (n : ℕ) → n ≡ count_by (λ c. leb line c.frame) l → n ≡ length (kept_from line l)
count_is line l n e = e ∙ sym (length-filter (λ (c : Checksum). leb line c.frame) l) ∙ ap length (kept_is (λ c. leb line c.frame) l)

-- a line that is not above the frame keeps it where it is stored
pub full_is : (frame line : ℕ) (l : List Checksum) → line ≤ frame → others_full frame (kept_from line l) ≡ pick (has checksum_frame frame l) false (leb 64 (length (kept_from line l)))
unfolding others_full
full_is frame line l h = rw (kept_by_key checksum_frame (leb line) frame l, le-leb line frame h)

-- where fewer than 64 are stored, there is room
pub few_fit : (frame line : ℕ) (l : List Checksum) → line ≤ frame → length l < 64 → others_full frame (kept_from line l) ≡ false
few_fit frame line l h few =
    let fewer : length (kept_from line l) < 64 = omega (arith, kept-length (λ (x : Checksum). leb line x.frame) l, few) in
    full_is frame line l h ∙ rw (lt-leb 64 _ fewer) (either (has checksum_frame frame l))
  where
    either : (b : Bool) → pick b false false ≡ false
    either true = refl
    either false = refl

-- one is put at the place found for its frame, or at the end
placed : (frame at : ℕ) (l : List Checksum) → pick (has checksum_frame frame l) (Some (place checksum_frame frame l)) None ≡ Some at → (has checksum_frame frame l ≡ true) × (at ≡ place checksum_frame frame l)
placed frame at l e =
    elim (has checksum_frame frame l) as (λ b. has checksum_frame frame l ≡ b → pick b (Some (place checksum_frame frame l)) None ≡ Some at → (has checksum_frame frame l ≡ true) × (at ≡ place checksum_frame frame l))
    [ true ↦ λ h q. (h, cc) | false ↦ λ _ q. absurd cc ]
    refl e

pub put_over : (c : Checksum) (at : ℕ) (l : List Checksum) → position (λ x. eqb c.frame x.frame) l ≡ Some at → set l at c ≡ put checksum_frame c l
put_over c at l e =
    let p = placed c.frame at l (sym (place_is c.frame l) ∙ e) in
    rw (put_held checksum_frame c l p.0, p.1)

absent : (frame : ℕ) (l : List Checksum) → position (λ c. eqb frame c.frame) l ≡ None → has checksum_frame frame l ≡ false
absent frame l e =
    elim (has checksum_frame frame l) as (λ b. pick b (Some (place checksum_frame frame l)) None ≡ None → b ≡ false) [ true ↦ λ q. absurd cc | false ↦ λ _. refl ]
    (sym (place_is frame l) ∙ e)

pub put_last : (c : Checksum) (l : List Checksum) → position (λ x. eqb c.frame x.frame) l ≡ None → l ++ c ∷ [] ≡ put checksum_frame c l
put_last c l e = sym (put_new checksum_frame c l (absent c.frame l e))

-- where the frame has no place and the store is not full, there is room
pub free : (frame : ℕ) (l : List Checksum) → position (λ c. eqb frame c.frame) l ≡ None → others_full frame l ≡ false → length l < 64
unfolding others_full
free frame l e f = leb-false 64 (length l) (rw (absent frame l e) at f)
