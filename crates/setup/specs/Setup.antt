-- The setup of an endpoint (C-1 to C-10): what is given, when it lies outside the ceilings, what an endpoint keeps of it, and what then holds of that.
use Rattle.std.specs.Prelude.{Bool, true, false, List, [], ◌∷◌, ◌≡◌, refl, ℕ, suc, ◌*◌, ◌^◌, ◌≤◌, ◌<◌, ltb, leb, eqb, length, take}
use Rattle.base.specs.Pick.{pick}
use Rattle.base.specs.Keyed.{has}
use Rattle.numbers.specs.Range.{outside}
use Rattle.ceilings.specs.Ceilings.{most_players, most_input_size, most_prediction}
use Rattle.setup.specs.declared.Setup.{Setup}
use Rattle.fixed_vec.specs.declared.FixedVec.{FixedVec}
use Rattle.setup.specs.declared.Choices.{Choices}
use Rattle.setup.specs.declared.DesyncDetection.{DesyncDetection}
use Rattle.setup.specs.declared.DesyncDetection.TheVariants.{Off, On}

-- the crate's rule in all but the detection of desyncs; a choice that is to be another is then set, by a function such as the next one
abbrev pub choices_with : DesyncDetection → Choices
choices_with detection = record { desync_detection = detection; firm_checksums = false }

-- with a store of checksums that has a firm size
abbrev pub with_firm_checksums : Choices → Choices
with_firm_checksums c = record { desync_detection = c.desync_detection; firm_checksums = true }

-- what an endpoint keeps of its setup; nothing changes it
pub record Terms : Type 0 where
  pub players : ℕ
  pub handles : List ℕ
  pub local_players : ℕ
  pub input_size : ℕ
  pub max_prediction : ℕ
  pub disconnect_timeout : ℕ
  pub notify_start : ℕ
  pub fps : ℕ
  pub magic : ℕ
  pub peer : ℕ
  pub choices : Choices

-- the receiving width W (C-22) and the sending width (C-23)
abbrev pub receiving_width : Terms → ℕ
receiving_width t = length t.handles * t.input_size

abbrev pub sending_width : Terms → ℕ
sending_width t = t.local_players * t.input_size

-- ---- the ceilings that a setup alone has

abbrev pub most_handle : ℕ
most_handle = 65535

abbrev pub most_timeout : ℕ
most_timeout = 2 ^ 31

abbrev pub most_fps : ℕ
most_fps = 240

abbrev pub most_interval : ℕ
most_interval = 10000

-- one of some numbers lies above a greatest; one of them stands twice
unfoldable pub any_above : ℕ → List ℕ → Bool
any_above greatest [] = false
any_above greatest (x ∷ xs) = pick (ltb greatest x) true (any_above greatest xs)

unfoldable pub any_twice : List ℕ → Bool
any_twice [] = false
any_twice (x ∷ xs) = pick (has (λ y. y) x xs) true (any_twice xs)

-- one of some tests holds
abbrev pub any_of : List Bool → Bool
any_of [] = false
any_of (t ∷ ts) = pick t true (any_of ts)

-- the handles given; of more than four, four
abbrev pub handle_list : FixedVec ℕ most_players → List ℕ
handle_list h = take h.count h.list

-- handles that list these, with this count; what their array holds past the count is left open
abbrev pub ListedAs : List ℕ → ℕ → FixedVec ℕ most_players → Type 0
ListedAs hs n r = (handle_list r ≡ hs) × (r.count ≡ n)

-- handles outside their ceilings (C-2)
abbrev pub bad_handles : FixedVec ℕ most_players → Bool
bad_handles h = any_of (outside 1 most_players h.count ∷ any_twice (handle_list h) ∷ any_above most_handle (handle_list h) ∷ [])

-- an interval outside its ceilings (C-10)
abbrev pub bad_desync : DesyncDetection → Bool
bad_desync Off = false
bad_desync (On interval) = outside 1 most_interval interval

-- 1 (N-1): a number is outside its ceiling
unfoldable pub bad_setup : Setup → Bool
bad_setup g =
    any_of (outside 1 most_players g.num_players
    ∷ bad_handles g.handles
    ∷ outside 1 most_players g.local_players
    ∷ ltb g.num_players g.local_players
    ∷ outside 1 most_input_size g.input_size
    ∷ ltb most_prediction g.max_prediction
    ∷ ltb most_timeout g.disconnect_timeout
    ∷ ltb most_timeout g.disconnect_notify_start
    ∷ outside 1 most_fps g.fps
    ∷ eqb g.magic 0
    ∷ bad_desync g.choices.desync_detection
    ∷ [])

-- handles are held in ascending order (C-3)
unfoldable pub inserted : ℕ → List ℕ → List ℕ
inserted h [] = h ∷ []
inserted h (x ∷ xs) = pick (leb h x) (h ∷ x ∷ xs) (x ∷ inserted h xs)

unfoldable pub sorted : List ℕ → List ℕ
sorted [] = []
sorted (x ∷ xs) = inserted x (sorted xs)

-- the terms of a setup with these handles
unfoldable pub terms_with : List ℕ → Setup → Terms
terms_with handles g =
    record {
      players = g.num_players;
      handles = handles;
      local_players = g.local_players;
      input_size = g.input_size;
      max_prediction = g.max_prediction;
      disconnect_timeout = g.disconnect_timeout;
      notify_start = g.disconnect_notify_start;
      fps = g.fps;
      magic = g.magic;
      peer = g.peer_addr;
      choices = g.choices;
    }

-- the terms of a setup as given
abbrev pub terms_of : Setup → Terms
terms_of g = terms_with (handle_list g.handles) g

-- a setup with its handles sorted, and their count as it was, beyond 4 too
abbrev pub SortedAs : Setup → Setup → Type 0
SortedAs g r = (terms_of r ≡ terms_with (sorted (handle_list g.handles)) g) × (r.handles.count ≡ g.handles.count)

-- off is interval 1 (E-37)
abbrev pub interval_of : DesyncDetection → ℕ
interval_of Off = 1
interval_of (On interval) = interval

-- ---- what holds of terms within the ceilings

abbrev pub Between : (least greatest n : ℕ) → Type 0
Between least greatest n = (least ≤ n) × (n ≤ greatest)

-- each above the one before it, and at most a greatest
unfoldable pub Sorted : (low greatest : ℕ) → List ℕ → Type 0
Sorted low greatest [] = Unit {0}
Sorted low greatest (h ∷ hs) = Between low greatest h × Sorted (suc h) greatest hs

abbrev pub SoundDesync : DesyncDetection → Type 0
SoundDesync Off = Unit {0}
SoundDesync (On interval) = Between 1 most_interval interval

pub record SoundSetup (t : Terms) : Type 0 where
  pub players : Between 1 most_players t.players
  pub handles : Between 1 most_players (length t.handles)
  pub sorted : Sorted 0 most_handle t.handles
  pub local_players : Between 1 t.players t.local_players
  pub input_size : Between 1 most_input_size t.input_size
  pub max_prediction : t.max_prediction ≤ most_prediction
  pub disconnect_timeout : t.disconnect_timeout ≤ most_timeout
  pub notify_start : t.notify_start ≤ most_timeout
  pub fps : Between 1 most_fps t.fps
  pub magic : Between 1 65535 t.magic
  pub peer : t.peer < 2 ^ 32
  pub desync : SoundDesync t.choices.desync_detection

-- worked: handles given as 7, 2, 5
sorted_example : sorted (7 ∷ 2 ∷ 5 ∷ []) ≡ 2 ∷ 5 ∷ 7 ∷ []
unfolding sorted inserted
sorted_example = refl

twice_example : any_twice (7 ∷ 2 ∷ 7 ∷ []) ≡ true
unfolding any_twice has
twice_example = refl

-- two players, handle 1, inputs of one byte: within the ceilings
within-example
    : bad_setup (record {
      num_players = 2;
      handles = record { list = 1 ∷ 0 ∷ 0 ∷ 0 ∷ []; count = 1 };
      local_players = 1;
      input_size = 1;
      max_prediction = 2;
      disconnect_timeout = 2000;
      disconnect_notify_start = 500;
      fps = 60;
      magic = 4660;
      peer_addr = 7;
      choices = choices_with Off;
    })
    ≡ false
unfolding bad_setup any_twice any_above has
within-example = refl
