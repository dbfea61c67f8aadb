-- Laws of merging, over the whole record: neither the order of the reports, nor how they are grouped, nor that one comes again changes the outcome;
-- `disconnected` never clears, and `last_frame` never falls.
use mathlib.Core.Path.{◌≡◌, refl, sym, ◌∙◌, ap}
use mathlib.Core.Bool.{true, false, or_comm, or_assoc, or_self, or-false, or-true}
use mathlib.Core.List.{List, [], ◌∷◌, foldl}
use Prim.Native.Nat.{◌≤◌}
use native.Mathlib.Nat.{max_comm, max-eq_left, le-max_left, le-max_right}
use Rattle.base.proofs.Orders.{max_self, max_assoc, Among, same_runs}
use Rattle.frame.specs.Bias.{null_frame}
use Rattle.status.specs.declared.ConnectionStatus.{ConnectionStatus}
use Rattle.status.specs.Status.{default_status, reported, merged}

pub merged_comm : (x y : ConnectionStatus) → merged x y ≡ merged y x
unfolding merged
merged_comm x y = rw (or_comm x.disconnected y.disconnected, max_comm x.last_frame y.last_frame)

pub merged_assoc : (x y z : ConnectionStatus) → merged (merged x y) z ≡ merged x (merged y z)
unfolding merged
merged_assoc x y z = rw (or_assoc x.disconnected, max_assoc x.last_frame)

pub merged_self : (x : ConnectionStatus) → merged x x ≡ x
unfolding merged
merged_self x = rw (or_self, max_self)

-- a record that two reports come to: they may change places, a repeat changes nothing, and the two merged are the one after the other (`merged_assoc`)
pub merged_swap : (s a b : ConnectionStatus) → merged (merged s a) b ≡ merged (merged s b) a
merged_swap s a b = merged_assoc s a b ∙ ap (merged s) (merged_comm a b) ∙ sym (merged_assoc s b a)

pub merged_again : (s a : ConnectionStatus) → merged (merged s a) a ≡ merged s a
merged_again s a = merged_assoc s a a ∙ ap (merged s) (merged_self a)

-- any number of reports: two lists of the same ones, in any order and with any repeats
pub merged_any_order : (xs ys : List ConnectionStatus) (s : ConnectionStatus) → Among xs ys → Among ys xs
    → foldl merged s xs ≡ foldl merged s ys
merged_any_order = same_runs merged merged_swap merged_again

-- and grouped: merged with each other first, and then into the record
pub merged_grouped : (s x : ConnectionStatus) (xs : List ConnectionStatus) → merged s (foldl merged x xs) ≡ foldl merged s (x ∷ xs)
merged_grouped s x [] = refl
merged_grouped s x (y ∷ xs) = merged_grouped s (merged x y) xs ∙ ap (λ (t : ConnectionStatus). foldl merged t xs) (sym (merged_assoc s x y))

module _ (x y : ConnectionStatus) where
  pub stays_disconnected : x.disconnected ≡ true → (merged x y).disconnected ≡ true
  unfolding merged
  stays_disconnected e = rw e

  pub turns_disconnected : y.disconnected ≡ true → (merged x y).disconnected ≡ true
  unfolding merged
  turns_disconnected e = rw (e, or-true)

  pub never_falls : x.last_frame ≤ (merged x y).last_frame
  unfolding merged
  never_falls = le-max_left x.last_frame y.last_frame

  pub reaches_report : y.last_frame ≤ (merged x y).last_frame
  unfolding merged
  reaches_report = le-max_right x.last_frame y.last_frame

-- the default changes no record whose frame is -1 or later
pub merged_default : (x : ConnectionStatus) → null_frame ≤ x.last_frame → merged x default_status ≡ x
unfolding merged default_status
merged_default x h = rw (or-false, max-eq_left h)

-- and lifts an earlier one to -1
default_lifts : merged (reported false 0) default_status ≡ default_status
unfolding merged reported default_status
default_lifts = refl
