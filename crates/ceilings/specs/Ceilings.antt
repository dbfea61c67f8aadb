-- The sizes of the stores and the ceilings that several crates share, each named once for the definitions, as src/lib.rt names them for the code.
use Rattle.std.specs.Prelude.{◌≡◌, refl, ℕ, ◌+◌, ◌-◌, ◌*◌}

-- players of a bout, handles of an endpoint, statuses of an Input
abbrev pub most_players : ℕ
most_players = 4

-- bytes of one player's input
abbrev pub most_input_size : ℕ
most_input_size = 16

-- bytes of one frame
abbrev pub most_width : ℕ
most_width = 64

-- pending inputs
abbrev pub most_pending : ℕ
most_pending = 129

-- payload bytes of an Input
abbrev pub most_payload : ℕ
most_payload = 8256

-- frames that are predicted ahead
abbrev pub most_prediction : ℕ
most_prediction = 16

-- inputs received that are kept
abbrev pub most_received : ℕ
most_received = 33

-- nonces outstanding
abbrev pub most_nonces : ℕ
most_nonces = 256

-- checksums stored, and how many of them bring the clean-up
abbrev pub most_checksums : ℕ
most_checksums = 64

abbrev pub clean_checksums : ℕ
clean_checksums = 32

-- the most checksums stored in firm mode
abbrev pub most_firm_checksums : ℕ
most_firm_checksums = 32

-- events that wait to be taken
abbrev pub most_events : ℕ
most_events = 640

-- slots of a spectator session
abbrev pub most_slots : ℕ
most_slots = 64

-- places of a session's inputs
abbrev pub most_places : ℕ
most_places = 256

-- frames that one advance of a session may bring
abbrev pub most_advanced : ℕ
most_advanced = 63

-- events of a session that wait to be taken
abbrev pub most_session_events : ℕ
most_session_events = 128

-- what some of them are made of
width_of : most_width ≡ most_players * most_input_size
width_of = refl

payload-of : most_payload ≡ most_pending * most_width
payload-of = refl

received-of : most_received ≡ 2 * most_prediction + 1
received-of = refl

places_of : most_places ≡ most_slots * most_players
places_of = refl

advanced-of : most_advanced ≡ most_slots - 1
advanced-of = refl
