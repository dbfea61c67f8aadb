-- Two answers that a contract allows are equal, by name for each public function: of a store what is held and the count, so that what its array holds past the count alone is open.
use mathlib.Core.Bool.{Bool}
use mathlib.Core.List.{List}
use mathlib.Core.Path.{◌≡◌}
use Prim.Native.Nat.{ℕ, min}
use lib.ListN.{length, take, get_or}
use Rattle.base.proofs.Settled.{settled}
use Rattle.status.specs.declared.ConnectionStatus.{ConnectionStatus}
use Rattle.status.specs.declared.list.Statuses.{Statuses}
use Rattle.status.specs.Status.{default_status, reported, merged}
use Rattle.status.specs.Statuses.{held_statuses, HeldAs, CopiedAs, default_statuses, merged_at, merged_all}

pub default_settled : (r s : ConnectionStatus) → r ≡ default_status → s ≡ default_status → r ≡ s
default_settled = settled (λ r. r) default_status

pub reported_settled : (d : Bool) (f : ℕ) (r s : ConnectionStatus) → r ≡ reported d f → s ≡ reported d f → r ≡ s
reported_settled d f = settled (λ r. r) (reported d f)

pub connection_status_merge_settled : (x y r s : ConnectionStatus) → r ≡ merged x y → s ≡ merged x y → r ≡ s
connection_status_merge_settled x y = settled (λ r. r) (merged x y)

-- a store that holds a list with a count: both are determined
held_as_settled : (l : List ConnectionStatus) (n : ℕ) (r s : Statuses) → HeldAs l n r → HeldAs l n s → (held_statuses r ≡ held_statuses s) × (r.count ≡ s.count)
held_as_settled l n r s p q = (settled held_statuses l r s p.0 q.0, settled (λ (x : Statuses). x.count) n r s p.1 q.1)

pub new_settled : (players : ℕ) (r s : Statuses) → HeldAs (default_statuses players) (min players 4) r → HeldAs (default_statuses players) (min players 4) s → (held_statuses r ≡ held_statuses s) × (r.count ≡ s.count)
new_settled players = held_as_settled (default_statuses players) (min players 4)

module _ (l : Statuses) where
  pub count_settled : (r s : ℕ) → r ≡ length (held_statuses l) → s ≡ length (held_statuses l) → r ≡ s
  count_settled = settled (λ r. r) (length (held_statuses l))

  pub get_settled : (at : ℕ) (r s : ConnectionStatus) → r ≡ get_or (held_statuses l) at default_status → s ≡ get_or (held_statuses l) at default_status → r ≡ s
  get_settled at = settled (λ r. r) (get_or (held_statuses l) at default_status)

  pub merge_at_settled : (at : ℕ) (x : ConnectionStatus) (r s : Statuses) → HeldAs (merged_at at x (held_statuses l)) l.count r → HeldAs (merged_at at x (held_statuses l)) l.count s
      → (held_statuses r ≡ held_statuses s) × (r.count ≡ s.count)
  merge_at_settled at x = held_as_settled (merged_at at x (held_statuses l)) l.count

  pub merge_report_settled : (at : ℕ) (d : Bool) (f : ℕ) (r s : Statuses) → HeldAs (merged_at at (reported d f) (held_statuses l)) l.count r → HeldAs (merged_at at (reported d f) (held_statuses l)) l.count s
      → (held_statuses r ≡ held_statuses s) × (r.count ≡ s.count)
  merge_report_settled at d f = merge_at_settled at (reported d f)

  pub statuses_merge_settled : (m r s : Statuses) → HeldAs (merged_all (held_statuses l) (held_statuses m)) l.count r → HeldAs (merged_all (held_statuses l) (held_statuses m)) l.count s → (held_statuses r ≡ held_statuses s) × (r.count ≡ s.count)
  statuses_merge_settled m = held_as_settled (merged_all (held_statuses l) (held_statuses m)) l.count

  pub lent_settled : (r s : Statuses) → HeldAs (held_statuses l) (length (held_statuses l)) r → HeldAs (held_statuses l) (length (held_statuses l)) s → (held_statuses r ≡ held_statuses s) × (r.count ≡ s.count)
  lent_settled = held_as_settled (held_statuses l) (length (held_statuses l))

pub copied_settled : (l : List ConnectionStatus) (r s : Statuses) → CopiedAs l r → CopiedAs l s → (held_statuses r ≡ held_statuses s) × (r.count ≡ s.count)
copied_settled l = held_as_settled (take 4 l) (min (length l) 4)
