-- Laws of the smallest frame stored: it is stored, none is smaller, and a loop over the view finds it. Without it fewer are stored.
use borrow.Author.Tests.{eqb-true, eq-eqb, lt-leb}
use mathlib.Core.Bool.{Bool, true, false, true≢false, false≢true}
use mathlib.Core.List.{List, [], ◌∷◌, map}
use mathlib.Core.Logic.{⊎_elim}
use mathlib.Core.Path.{◌≡◌, refl, sym, ◌∙◌, ap, subst}
use Prim.Native.Nat.{ℕ, zero, suc, ◌≤◌, ◌<◌, min}
use native.Mathlib.Omega.{arith}
use lib.Dec.{eqb, leb}
use lib.ListN.{length, get_or, length-map}
use Rattle.std.specs.List.{Contains, All}
use Rattle.std.proofs.Common.{Option, Some, None, IfSome, IsNone, unwrap_or}
use Rattle.base.specs.Pick.{pick}
use Rattle.base.specs.Keyed.{kept, has}
use Rattle.base.proofs.Digits.{below_or_not}
use Rattle.base.proofs.Kept.{kept_whole}
use Rattle.base.proofs.Removal.{kept_by_key}
use Rattle.checksums.specs.declared.Checksum.{Checksum}
use Rattle.checksums.specs.Checksums.{checksum_frame, kept_from}
use Rattle.checksums.specs.Firm.{smallest}

-- none is smaller
pub smallest-le : (k : ℕ) (l : List Checksum) → has checksum_frame k l ≡ true → smallest l ≤ k
unfolding smallest has
smallest-le k [] e = absurd (false≢true e)
smallest-le k (x ∷ []) e =
    elim (eqb k x.frame) as (λ b. eqb k x.frame ≡ b → pick b true false ≡ true → x.frame ≤ k)
    [ true ↦ λ q _. omega (arith, eqb-true k x.frame q) | false ↦ λ _ f. absurd (false≢true f) ]
    refl e
smallest-le k (x ∷ y ∷ l) e =
    elim (eqb k x.frame) as (λ b. eqb k x.frame ≡ b → pick b true (has checksum_frame k (y ∷ l)) ≡ true → min x.frame (smallest (y ∷ l)) ≤ k)
    [ true ↦ λ q _. omega (arith, eqb-true k x.frame q) | false ↦ λ _ f. omega (arith, smallest-le k (y ∷ l) f) ]
    refl e

-- what holds a frame holds it with one more in front
has_more : (k : ℕ) (x : Checksum) (l : List Checksum) → has checksum_frame k l ≡ true → has checksum_frame k (x ∷ l) ≡ true
unfolding has
has_more k x l e = elim (eqb k x.frame) as (λ b. pick b true (has checksum_frame k l) ≡ true) [ true ↦ refl | false ↦ e ]

-- it is stored
smallest_among : (x : Checksum) (l : List Checksum) → has checksum_frame (smallest (x ∷ l)) (x ∷ l) ≡ true
unfolding smallest has
smallest_among x [] = rw (eq-eqb x.frame x.frame refl)
smallest_among x (y ∷ l) =
    let m = smallest (y ∷ l) in
    let rest = smallest_among y l in
    ⊎_elim
    (λ h. let q : min x.frame m ≡ x.frame = omega arith in rw (q, eq-eqb x.frame x.frame refl))
    (λ h.
    let q : m ≡ smallest (x ∷ y ∷ l) = omega arith in
    subst (λ (k : ℕ). has checksum_frame k (x ∷ y ∷ l) ≡ true) q (has_more m x (y ∷ l) rest))
    (below_or_not x.frame m)

pub smallest-has : (l : List Checksum) → 1 ≤ length l → has checksum_frame (smallest l) l ≡ true
smallest-has [] h = absurd (omega arith)
smallest-has (x ∷ l) h = smallest_among x l

-- those above it are fewer
pub above_fewer : (l : List Checksum) → 1 ≤ length l → length (kept_from (suc (smallest l)) l) < length l
above_fewer l h =
    let p : Checksum → Bool = λ x. leb (suc (smallest l)) x.frame in
    ⊎_elim (λ b. b) (λ b.
    let gone : has checksum_frame (smallest l) (kept p l) ≡ false = kept_by_key checksum_frame (leb (suc (smallest l))) (smallest l) l ∙ rw (lt-leb (suc (smallest l)) (smallest l) (omega arith)) in
    absurd (true≢false (sym (smallest-has l h) ∙ ap (has checksum_frame (smallest l)) (sym (kept_whole p l b)) ∙ gone)))
    (below_or_not (length (kept p l)) (length l))

-- ---- for the code, which asks a chain for the least of the frames

-- what is not above any of the frames is not above the smallest
below_all : (l : List Checksum) (m : ℕ) → 1 ≤ length l → ((k d : ℕ) → k < length (map checksum_frame l) → m ≤ get_or (map checksum_frame l) k d) → m ≤ smallest l
unfolding smallest
below_all [] m h f = absurd (omega arith)
below_all (x ∷ []) m h f = f 0 0 (omega arith)
below_all (x ∷ y ∷ l) m h f = omega (arith, f 0 0 (omega arith), below_all (y ∷ l) m (omega arith) (λ k d b. f (suc k) d (omega arith)))

-- and the smallest is not above any
above_smallest : (l : List Checksum) (k d : ℕ) → k < length (map checksum_frame l) → smallest l ≤ get_or (map checksum_frame l) k d
unfolding smallest
above_smallest [] k d h = absurd (omega arith)
above_smallest (x ∷ []) zero d h = omega arith
above_smallest (x ∷ []) (suc k) d h = absurd (omega arith)
above_smallest (x ∷ y ∷ l) zero d h = omega arith
above_smallest (x ∷ y ∷ l) (suc k) d h = let e = above_smallest (y ∷ l) k d (omega arith) in omega arith

smallest_is : (l : List Checksum) (m : ℕ) → Contains (map checksum_frame l) m → All (λ k. m ≤ k) (map checksum_frame l) → m ≡ smallest l
smallest_is l m c all =
    let some : 1 ≤ length l = omega (arith, c.1, length-map l checksum_frame) in
    omega (arith, below_all l m some all, above_smallest l c.0 m c.1, c.2)

pub smallest_or : (l : List Checksum) (o : Option ℕ) (r : ℕ) → r ≡ unwrap_or o 0 → (IsNone o → map checksum_frame l ≡ []) → IfSome o (Contains (map checksum_frame l))
    → IfSome o (λ m. All (λ k. m ≤ k) (map checksum_frame l)) → r ≡ smallest l
unfolding smallest
smallest_or [] None r e none some least = e
smallest_or (x ∷ l) None r e none some least = absurd (omega (arith, ap length (none refl)))
smallest_or l (Some m) r e none some least = e ∙ smallest_is l m some least
