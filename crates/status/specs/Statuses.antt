-- The statuses of all players, as a list by handle: what the store holds, and what merging does to it.
use Rattle.std.specs.Prelude.{◌≡◌, refl, true, false, List, [], ◌∷◌, ℕ, min, length, take, replicate, get_or, set}
use Rattle.ceilings.specs.Ceilings.{most_players}
use Rattle.status.specs.declared.ConnectionStatus.{ConnectionStatus}
use Rattle.status.specs.declared.list.Statuses.{Statuses}
use Rattle.status.specs.Status.{default_status, merged, reported}

-- the statuses held; a count beyond the array counts as the array's length
unfoldable pub held_statuses : Statuses → List ConnectionStatus
held_statuses s = take s.count s.list

-- a store that holds a list, with this count; what its array holds past the count is left open
abbrev pub HeldAs : List ConnectionStatus → ℕ → Statuses → Type 0
HeldAs l n r = (held_statuses r ≡ l) × (r.count ≡ n)

-- a list of any length copied into a store: the first of it, one for each player at most, and how many they are
abbrev pub CopiedAs : List ConnectionStatus → Statuses → Type 0
CopiedAs l = HeldAs (take most_players l) (min (length l) most_players)

-- the default for each player, of whom there are so many at most
unfoldable pub default_statuses : ℕ → List ConnectionStatus
default_statuses players = replicate (min players most_players) default_status

-- the status at a place merged with another; nothing changes where there is no such place
unfoldable pub merged_at : ℕ → ConnectionStatus → List ConnectionStatus → List ConnectionStatus
merged_at at y xs = set xs at (merged (get_or xs at default_status) y)

-- place by place; what has no partner stays, and partners beyond the end are left out
unfoldable pub merged_all : List ConnectionStatus → List ConnectionStatus → List ConnectionStatus
merged_all [] ys = []
merged_all (x ∷ xs) [] = x ∷ xs
merged_all (x ∷ xs) (y ∷ ys) = merged x y ∷ merged_all xs ys

-- worked: each place has the or and the maximum, which neither list as it is has; the third player has no partner, and stays
merged_all_example : merged_all (reported true 5 ∷ reported false 9 ∷ reported true 6 ∷ []) (reported false 8 ∷ reported true 3 ∷ []) ≡ reported true 8 ∷ reported true 9 ∷ reported true 6 ∷ []
unfolding merged_all merged reported
merged_all_example = refl

-- worked: a partner beyond the end is left out
merged_all_longer : merged_all (reported true 5 ∷ []) (reported false 8 ∷ reported true 9 ∷ []) ≡ reported true 8 ∷ []
unfolding merged_all merged reported
merged_all_longer = refl

-- worked: one place merged, the others as they were; past the last nothing changes
merged_at_example : merged_at 1 (reported false 8) (reported false 4 ∷ reported true 5 ∷ []) ≡ reported false 4 ∷ reported true 8 ∷ []
unfolding merged_at merged reported
merged_at_example = refl

merged_at_past : merged_at 2 (reported true 8) (reported false 4 ∷ reported true 5 ∷ []) ≡ reported false 4 ∷ reported true 5 ∷ []
unfolding merged_at merged reported
merged_at_past = refl

-- worked: of five records four are copied, in their order, and four is the count
module _ (a b c d e : ConnectionStatus) where
  copied_five : CopiedAs (a ∷ b ∷ c ∷ d ∷ e ∷ []) (record { list = a ∷ b ∷ c ∷ d ∷ []; count = 4 })
  unfolding held_statuses
  copied_five = (refl, refl)

  -- of two, two, whatever the array holds past them
  copied_two : CopiedAs (a ∷ b ∷ []) (record { list = a ∷ b ∷ c ∷ d ∷ []; count = 2 })
  unfolding held_statuses
  copied_two = (refl, refl)
