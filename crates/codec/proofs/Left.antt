-- No reading leaves more bytes than there were, and a message takes at least one, whatever the bytes are.
use mathlib.Core.Bool.{Bool, true, false}
use mathlib.Core.Logic.{inl, inr}
use mathlib.Core.List.{List, []}
use Prim.Native.Nat.{ℕ, zero, suc, ◌<◌, ◌≤◌}
use native.Mathlib.Omega.{arith}
use lib.Dec.{ltb}
use lib.ListN.{length, take, drop, length-drop}
use Rattle.base.specs.Pick.{pick}
use Rattle.base.proofs.Digits.{below_or_not}
use Rattle.ceilings.specs.Ceilings.{most_players, most_payload}
use Rattle.codec.specs.Read.{Reading, Reads, and_then, ◌>>=◌, refuse, part, number, flag_of, flag, frame, advantage, wide, report, reports, input, kinds, message, left_in}
use Rattle.codec.specs.Read.Reading.{got, fault}
use Rattle.codec.specs.Front.{number_at}
use Rattle.codec.proofs.Takes.{head_short, head_whole}
use Rattle.codec.specs.declared.StatusReport.{StatusReport}

abbrev Shortens : {A : Type 0} → Reads A → Type 0
Shortens p = (d : List ℕ) → length (left_in (p d)) ≤ length d

of_then : {A B : Type 0} (p : Reads A) (next : A → Reads B) → Shortens p → ((a : A) → Shortens (next a)) → Shortens (◌>>=◌ p next)
of_then {A} p next h f d = go (p d) (h d)
  where
    go : (g : Reading A) → length (left_in g) ≤ length d → length (left_in (and_then g next)) ≤ length d
    go (got a left) l = omega (arith, f a left)
    go (fault n) l = omega arith

-- a value is given without a byte
stays : (d : List ℕ) → length d ≤ length d
stays d = omega arith

of-refuse : (test : Bool) (n : ℕ) → Shortens (refuse test n)
of-refuse true n d = omega arith
of-refuse false n d = omega arith

of_part : (k : ℕ) → Shortens (part k)
unfolding part
of_part k d = elim (ltb (length d) k) as (λ t. length (left_in (pick t (fault 9) (got (take k d) (drop k d)))) ≤ length d) [ true ↦ omega arith | false ↦ simp length-drop (omega arith) ]

of_number : (k : ℕ) → Shortens (number k)
unfolding number
of_number k = of_then (part k) _ (of_part k) (λ bs. stays)

of-flag : Shortens flag
unfolding flag
of-flag = of_then (number 1) _ (of_number 1) by_value
  where
    by_value : (n : ℕ) → Shortens (flag_of n)
    by_value zero d = omega arith
    by_value (suc zero) d = omega arith
    by_value (suc (suc n)) d = omega arith

of-frame : Shortens frame
unfolding frame
of-frame = of_then (number 4) _ (of_number 4) (λ n. stays)

of-advantage : Shortens advantage
unfolding advantage
of-advantage = of_then (number 2) _ (of_number 2) (λ n. stays)

of-wide : Shortens wide
unfolding wide
of-wide = of_then (number 8) _ (of_number 8) (λ low. of_then (number 8) _ (of_number 8) (λ high. stays))

of-report : Shortens report
unfolding report
of-report = of_then flag _ of-flag (λ b. of_then frame _ of-frame (λ f. stays))

of-reports : (n : ℕ) (rs : List StatusReport) → Shortens (reports n rs)
unfolding reports
of-reports zero rs = stays
of-reports (suc n) rs = of_then report _ of-report (λ r. of-reports n _)

of-input : (magic : ℕ) → Shortens (input magic)
unfolding input
of-input magic =
    of_then (number 8) _ (of_number 8)
    (λ n. of_then (refuse (ltb most_players n) 12) _ (of-refuse (ltb most_players n) 12)
    (λ u. of_then (reports n []) _ (of-reports n [])
    (λ rs. of_then flag _ of-flag
    (λ b. of_then frame _ of-frame
    (λ st. of_then frame _ of-frame
    (λ ak. of_then (number 8) _ (of_number 8)
    (λ k. of_then (refuse (ltb most_payload k) 12) _ (of-refuse (ltb most_payload k) 12)
    (λ u'. of_then (part k) _ (of_part k) (λ p. stays)))))))))

of-kinds : (kind magic : ℕ) → Shortens (kinds kind magic)
unfolding kinds
of-kinds zero magic = of_then (number 4) _ (of_number 4) (λ n. stays)
of-kinds (suc zero) magic = of_then (number 4) _ (of_number 4) (λ n. stays)
of-kinds (suc (suc zero)) magic = of-input magic
of-kinds (suc (suc (suc zero))) magic = of_then frame _ of-frame (λ a. stays)
of-kinds (suc (suc (suc (suc zero)))) magic = of_then advantage _ of-advantage (λ a. of_then wide _ of-wide (λ x. stays))
of-kinds (suc (suc (suc (suc (suc zero))))) magic = of_then wide _ of-wide (λ x. stays)
of-kinds (suc (suc (suc (suc (suc (suc zero)))))) magic = of_then wide _ of-wide (λ x. of_then frame _ of-frame (λ f. stays))
of-kinds (suc (suc (suc (suc (suc (suc (suc zero))))))) magic = stays
of-kinds (suc (suc (suc (suc (suc (suc (suc (suc n)))))))) magic = λ d. omega arith

pub message_shortens : (d : List ℕ) → 0 < length d → length (left_in (message d)) < length d
message_shortens d h =
    elim (below_or_not (length d) 6) [
      | inl l ↦ rw (head_short d l) h
      | inr l ↦ rw (head_whole d l) (omega (arith, of-kinds (number_at 4 2 d) (number_at 2 0 d) (drop 6 d), length-drop 6 d))
    ]
