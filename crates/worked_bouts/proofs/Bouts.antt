-- All fourteen worked bouts, together: from the laws of the crates that have their parts.
use mathlib.Core.List.{map}
use mathlib.Core.Path.{◌≡◌, ap}
use Prim.Native.Nat.{ℕ}
use Rattle.codec.specs.Message.{Wire}
use Rattle.codec.proofs.Bouts.{P1, P2_short, P2_extra}
use Rattle.message_line.proofs.Bouts.{P1_printed}
use Rattle.endpoint_rules.proofs.Bouts.{bouts}
use Rattle.worked_bouts.specs.Table.{AllHold, table}

pair : {A B : Type 0} {a a' : A} {b b' : B} → a ≡ a' → b ≡ b' → ◌≡◌ {A = A × B} (a, b) (a', b')
pair e f = rw (e, f)

triple : {A B C : Type 0} {a a' : A} {b b' : B} {c c' : C} → a ≡ a' → b ≡ b' → c ≡ c' → ◌≡◌ {A = A × B × C} (a, b, c) (a', b', c')
triple e f g = rw (e, f, g)

pub worked_bouts : (more : ℕ) → AllHold (table more)
worked_bouts more = (
  pair P1 P1_printed,
  (
    pair P2_short (P2_extra more),
    (
      pair bouts.0 (ap (map (λ (w : Wire). w.body)) bouts.1),
      (
        pair bouts.2 bouts.3,
        (
          pair bouts.4 bouts.5,
          (
            pair (pair bouts.6 bouts.7) bouts.8,
            (
              bouts.9,
              (
                triple (pair bouts.10 bouts.11) (pair bouts.13 bouts.14) bouts.12,
                (
                  pair bouts.15 bouts.16,
                  (
                    pair bouts.17 bouts.18,
                    (
                      pair bouts.19 (pair bouts.20 bouts.21),
                      (
                        triple bouts.22 bouts.23 bouts.24,
                        (
                          pair bouts.25 bouts.26,
                          (
                            bouts.27,
                            tt,
                          ),
                        ),
                      ),
                    ),
                  ),
                ),
              ),
            ),
          ),
        ),
      ),
    ),
  ),
)
