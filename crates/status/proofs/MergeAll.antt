-- Laws of merging place by place, over lists: what merging does at a place, one report after another, and that order, grouping and repeats do not matter.
use mathlib.Core.Path.{◌≡◌, refl, sym, ap}
use mathlib.Core.List.{List, [], ◌∷◌, foldl}
use Prim.Native.Nat.{ℕ, zero, suc, ◌+◌, ◌≤◌, ◌<◌}
use native.Mathlib.Numerals.{add-one}
use native.Mathlib.Omega.{arith}
use native.Mathlib.Nat.{not-suc-le-zero, le_of_suc-le-suc}
use lib.ListN.{length, take, get_or}
use Rattle.base.proofs.Orders.{get_or_within, Among, same_runs}
use Rattle.status.specs.declared.ConnectionStatus.{ConnectionStatus}
use Rattle.status.specs.Status.{default_status, merged}
use Rattle.status.specs.Statuses.{merged_at, merged_all}
use Rattle.status.proofs.Merge.{merged_comm, merged_assoc, merged_self, merged_swap, merged_again}

abbrev L : Type 0
L = List ConnectionStatus

-- the length stays
pub all_length : (xs ys : L) → length (merged_all xs ys) ≡ length xs
unfolding merged_all
all_length [] ys = refl
all_length (x ∷ xs) [] = refl
all_length (x ∷ xs) (y ∷ ys) = ap suc (all_length xs ys)

-- what stands at a place that both have
pub all_at : (xs ys : L) (i : ℕ) (d : ConnectionStatus) → i < length xs → i < length ys
    → get_or (merged_all xs ys) i d ≡ merged (get_or xs i d) (get_or ys i d)
unfolding merged_all
all_at [] ys i d h k = absurd (not-suc-le-zero h)
all_at (x ∷ xs) [] i d h k = absurd (not-suc-le-zero k)
all_at (x ∷ xs) (y ∷ ys) zero d h k = refl
all_at (x ∷ xs) (y ∷ ys) (suc i) d h k = all_at xs ys i d (le_of_suc-le-suc h) (le_of_suc-le-suc k)

-- nothing to merge
pub all_none : (xs : L) → merged_all xs [] ≡ xs
unfolding merged_all
all_none [] = refl
all_none (x ∷ xs) = refl

-- one report after another, from the front: a turn
pub all_turn : (xs ys : L) (i : ℕ) → i < length ys
    → merged_all xs (take (suc i) ys) ≡ merged_at i (get_or ys i default_status) (merged_all xs (take i ys))
unfolding merged_all merged_at
all_turn xs [] i h = absurd (not-suc-le-zero h)
all_turn [] (y ∷ ys) i h = refl
all_turn (x ∷ xs) (y ∷ ys) zero h = rw (all_none xs)
all_turn (x ∷ xs) (y ∷ ys) (suc i) h = ap (λ (l : L). merged x y ∷ l) (all_turn xs ys i (le_of_suc-le-suc h))

-- lists of one length
pub all_comm : (xs ys : L) → length xs ≡ length ys → merged_all xs ys ≡ merged_all ys xs
unfolding merged_all
all_comm [] [] e = refl
all_comm [] (y ∷ ys) e = absurd (omega arith)
all_comm (x ∷ xs) [] e = absurd (omega arith)
all_comm (x ∷ xs) (y ∷ ys) e = rw (merged_comm x y, all_comm xs ys (omega arith))

pub all_self : (xs : L) → merged_all xs xs ≡ xs
unfolding merged_all
all_self [] = refl
all_self (x ∷ xs) = rw (merged_self, all_self xs)

-- two merged are the one after the other, where the second is no longer than the first
pub all_assoc : (xs ys zs : L) → length zs ≤ length ys → merged_all (merged_all xs ys) zs ≡ merged_all xs (merged_all ys zs)
unfolding merged_all
all_assoc [] ys zs h = refl
all_assoc (x ∷ xs) [] [] h = refl
all_assoc (x ∷ xs) [] (z ∷ zs) h = absurd (not-suc-le-zero h)
all_assoc (x ∷ xs) (y ∷ ys) [] h = refl
all_assoc (x ∷ xs) (y ∷ ys) (z ∷ zs) h = rw (merged_assoc x y z, all_assoc xs ys zs (le_of_suc-le-suc h))

-- lists of any length: two may change places, and a repeat changes nothing
pub all_swap : (l xs ys : L) → merged_all (merged_all l xs) ys ≡ merged_all (merged_all l ys) xs
unfolding merged_all
all_swap [] xs ys = refl
all_swap (s ∷ l) [] [] = refl
all_swap (s ∷ l) [] (y ∷ ys) = refl
all_swap (s ∷ l) (x ∷ xs) [] = refl
all_swap (s ∷ l) (x ∷ xs) (y ∷ ys) = rw (merged_swap s x y, all_swap l xs ys)

pub all_again : (l xs : L) → merged_all (merged_all l xs) xs ≡ merged_all l xs
unfolding merged_all
all_again [] xs = refl
all_again (s ∷ l) [] = refl
all_again (s ∷ l) (x ∷ xs) = rw (merged_again s x, all_again l xs)

-- any number of report lists: two runs over the same ones, in any order and with any repeats
pub all_any_order : (xss yss : List L) (l : L) → Among xss yss → Among yss xss → foldl merged_all l xss ≡ foldl merged_all l yss
all_any_order = same_runs merged_all all_swap all_again

-- the same of a turn that finds the reports as zs, and the record as it has come so far
pub merge_turn : (xs ys zs : L) (i : ℕ) (d : ConnectionStatus) (now : L) → zs ≡ ys → i < length zs → now ≡ merged_all xs (take i ys)
    → merged_at i (get_or zs i d) now ≡ merged_all xs (take (i + 1) ys)
merge_turn xs ys zs i d now e h a =
    rw (e, a, add-one) (
    let k : i < length ys = rw e at h in
    rw (get_or_within ys i d default_status k) (sym (all_turn xs ys i k))
    )
