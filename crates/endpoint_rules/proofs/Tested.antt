-- A call is refused, ignored or goes on, by its tests in their order: what holds in each case holds of the call.
use borrow.Author.Tests.{eqb-true, eqb-false}
use mathlib.Core.Bool.{Bool, true, false}
use mathlib.Core.List.{List, [], ◌∷◌}
use mathlib.Core.Path.{◌≡◌, refl}
use native.Mathlib.Omega.{arith}
use Prim.Native.Nat.{ℕ, ◌<◌}
use lib.Dec.{eqb}
use Rattle.base.specs.Pick.{pick}
use Rattle.endpoint_rules.specs.Seen.{Seen}
use Rattle.endpoint_rules.specs.Did.{Did, Verdict, refused, stopped, holding, tested, decided}
use Rattle.endpoint_rules.specs.Did.Verdict.{refuse, ignore}

-- ---- a call's tests

-- none of them holds
abbrev pub NoneHolds : List (Bool × Verdict) → Type 0
NoneHolds [] = Unit {0}
NoneHolds (t ∷ ts) = (t.0 ≡ false) × NoneHolds ts

-- P holds of a call that one of them stops
abbrev pub EachStops : (Did → Type 0) → Seen → List (Bool × Verdict) → Type 0
EachStops P s [] = Unit {0}
EachStops P s (t ∷ ts) = (t.0 ≡ true → P (stopped t.1 s)) × EachStops P s ts

pub by_tests : (ts : List (Bool × Verdict)) (s : Seen) (d : Did) (P : Did → Type 0) → EachStops P s ts → (NoneHolds ts → P d) → P (tested ts s d)
unfolding tested
by_tests [] s d P q f = f tt
by_tests (t ∷ ts) s d P q f = go (λ e. by_tests ts s d P q.1 (λ n. f (e, n))) t.0 refl
  where
    go : (t.0 ≡ false → P (tested ts s d)) → (x : Bool) → t.0 ≡ x → P (pick (eqb (holding x) 0) (tested ts s d) (stopped t.1 s))
    go rest true e = q.0 e
    go rest false e = rest e

-- what holds of every answer with which nothing happens, be it a refusal's number or the 0 of a call that is ignored, and of what goes on where no test holds
pub tested-both : (ts : List (Bool × Verdict)) (s : Seen) (d : Did) (P : Did → Type 0) → ((k : ℕ) → P (refused k s)) → (NoneHolds ts → P d) → P (tested ts s d)
unfolding refused
tested-both ts s d P r f = by_tests ts s d P (each ts) f
  where
    one : (v : Verdict) → P (stopped v s)
    one (refuse n) = r n
    one ignore = r 0

    each : (l : List (Bool × Verdict)) → EachStops P s l
    each [] = tt
    each (t ∷ l) = (λ _. one t.1, each l)

-- a test by which no call answers 0: its number is above 0, or it does not hold
abbrev NotZero : Bool → Verdict → Type 0
NotZero b (refuse n) = 0 < n
NotZero b ignore = b ≡ false

abbrev pub NoneZero : List (Bool × Verdict) → Type 0
NoneZero [] = Unit {0}
NoneZero (t ∷ ts) = NotZero t.0 t.1 × NoneZero ts

-- where the number is 0, the call has gone on
pub tested-done : (ts : List (Bool × Verdict)) (s : Seen) (d : Did) → NoneZero ts → (tested ts s d).answer ≡ 0 → tested ts s d ≡ d
unfolding refused
tested-done ts s d q = by_tests ts s d (λ (x : Did). x.answer ≡ 0 → x ≡ d) (each ts q) (λ _ _. refl)
  where
    one : (b : Bool) (v : Verdict) → NotZero b v → b ≡ true → (stopped v s).answer ≡ 0 → stopped v s ≡ d
    one b (refuse n) q h z = absurd (omega arith)
    one b ignore q h z = let x : ◌≡◌ {A = ℕ} 0 1 = cc in absurd (omega arith)

    each : (l : List (Bool × Verdict)) → NoneZero l → EachStops (λ (x : Did). x.answer ≡ 0 → x ≡ d) s l
    each [] q = tt
    each (t ∷ l) q = (one t.0 t.1 q.0, each l q.1)

-- the same tests give the same number, where what goes on has the same
pub tested_answer : (ts : List (Bool × Verdict)) (s t : Seen) (d e : Did) → d.answer ≡ e.answer → (tested ts s d).answer ≡ (tested ts t e).answer
unfolding tested refused
tested_answer [] s t d e h = h
tested_answer (x ∷ ts) s t d e h = go (tested_answer ts s t d e h) (eqb (holding x.0) 0)
  where
    stops : (v : Verdict) → (stopped v s).answer ≡ (stopped v t).answer
    stops (refuse n) = refl
    stops ignore = refl

    go : (tested ts s d).answer ≡ (tested ts t e).answer → (b : Bool) → (pick b (tested ts s d) (stopped x.1 s)).answer ≡ (pick b (tested ts t e) (stopped x.1 t)).answer
    go rest true = rest
    go rest false = stops x.1

-- two calls with the same tests: R relates them where it relates each refusal and an ignored call to itself, and what goes on to what goes on
pub tested_alike : (ts : List (Bool × Verdict)) (s : Seen) (d e : Did) (R : Did → Did → Type 0) → ((v : Verdict) → R (stopped v s) (stopped v s)) → R d e → R (tested ts s d) (tested ts s e)
unfolding tested
tested_alike [] s d e R stops h = h
tested_alike (t ∷ ts) s d e R stops h = go (tested_alike ts s d e R stops h) (eqb (holding t.0) 0)
  where
    go : R (tested ts s d) (tested ts s e) → (b : Bool) → R (pick b (tested ts s d) (stopped t.1 s)) (pick b (tested ts s e) (stopped t.1 s))
    go rest true = rest
    go rest false = stops t.1

-- ---- the reader's number

pub by_decided : (n : ℕ) (s : Seen) (d : Did) (P : Did → Type 0) → (n ≡ 0 → P d) → ((n ≡ 0 → ⊥) → P (refused n s)) → P (decided n s d)
unfolding decided
by_decided n s d P f g = go (eqb n 0) refl
  where
    go : (x : Bool) → eqb n 0 ≡ x → P (pick x d (refused n s))
    go true a = f (eqb-true n 0 a)
    go false a = g (eqb-false n 0 a)

-- what holds of every refusal, and of what goes on where the reader had none
pub decided-both : (n : ℕ) (s : Seen) (d : Did) (P : Did → Type 0) → ((k : ℕ) → P (refused k s)) → (n ≡ 0 → P d) → P (decided n s d)
decided-both n s d P r f = by_decided n s d P f (λ _. r n)
