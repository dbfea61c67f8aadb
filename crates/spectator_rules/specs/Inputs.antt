-- The inputs that a session holds: B slots one after the other, each of four places, one per player (those past the players stay blank). A frame
-- goes to the slot of its number mod B, over whatever frame stood there.
use Rattle.std.specs.Prelude.{List, ◌≡◌, refl, ℕ, ◌+◌, ◌-◌, ◌*◌, ◌%◌, min, replicate, get_or, set}
use Rattle.frame.specs.Bias.{bias32, null_frame}
use Rattle.ceilings.specs.Ceilings.{most_players, most_input_size, most_slots}
use Rattle.spectator_rules.specs.declared.PlayerInput.{PlayerInput}

-- no input: frame -1, zeros
unfoldable pub blank_input : PlayerInput
blank_input = record { frame = null_frame; input = replicate most_input_size 0 }

-- every place blank; of more than 64 slots, 64 (not reachable)
unfoldable pub fresh_inputs : (slots : ℕ) → List PlayerInput
fresh_inputs slots = replicate (min slots most_slots * most_players) blank_input

-- the slot of a frame
abbrev pub slot_of : (slots frame : ℕ) → ℕ
slot_of slots frame = (frame - bias32) % slots

-- where a player's input of a frame stands
abbrev pub place_of : (slots frame player : ℕ) → ℕ
place_of slots frame player = slot_of slots frame * most_players + player

-- a player's input of a frame goes to its place; nothing changes where there is none (not reachable)
unfoldable pub input_stored : (slots frame player : ℕ) → (input : List ℕ) → List PlayerInput → List PlayerInput
input_stored slots frame player input l = set l (place_of slots frame player) (record { frame = frame; input = input })

-- what stands there
unfoldable pub player_input_at : (slots frame player : ℕ) → List PlayerInput → PlayerInput
player_input_at slots frame player l = get_or l (place_of slots frame player) blank_input

-- worked: with 3 slots frame 7 is in slot 1, its player 2 at place 6
place_example : place_of 3 (bias32 + 7) 2 ≡ 6
place_example = refl
