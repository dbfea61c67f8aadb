-- A packet that is looked into: what is found of it, before anything is done.
use Rattle.std.specs.Prelude.{Bool, ◌&&◌, true, false, ◌≡◌, ℕ, ◌+◌, ◌*◌, ◌^◌, suc, ◌-◌, min, ◌≤◌, ltb, List, length, is_some, unwrap_or}
use Rattle.packing.specs.Packing.{frame_count, decodable_length, decodable}
use Rattle.history.specs.declared.History.{History}
use Rattle.history.specs.History.{blank_frame, received, newest_of, Found, found_in, reference_frame, above, packet_of}
use Rattle.setup.specs.declared.Setup.{Setup}
use Rattle.setup.specs.Setup.{terms_of, receiving_width, handle_list}
use Rattle.endpoint.specs.declared.message.packet.Opened.{Opened}
use Rattle.base.specs.Pick.{pick}
use Rattle.events.specs.declared.Entry.{Entry}
use Rattle.events.specs.Events.{announced_each}
use Rattle.endpoint_rules.specs.Receiving.{discarded_by, too_long_by, overflows_by, reference}
use Rattle.endpoint.specs.declared.message.packet.News.{News}
use Rattle.packing.specs.declared.input_bytes.InputBytes.{InputBytes}
use Rattle.endpoint_rules.specs.Seen.{Seen}

-- the reference, as it was found: the blank one where it is not held
abbrev pub found_of : Opened → Found
found_of r = record { held = is_some r.reference; input = unwrap_or r.reference blank_frame }

pub record OpenedAs (h : History) (g : Setup) (requested : Bool) (start count length : ℕ) (r : Opened) : Type 0 where
  pub found : found_of r ≡ found_in (reference_frame start (received h)) (received h)
  pub newest : r.newest ≡ newest_of (received h)
  pub discarded : r.discarded ≡ discarded_by requested count g.num_players start
  pub long : r.too_long ≡ too_long_by (receiving_width (terms_of g)) length
  pub readable : r.readable ≡ (is_some r.reference && decodable_length (receiving_width (terms_of g)) length)
  pub overflows : r.overflows ≡ overflows_by start (frame_count (receiving_width (terms_of g)) length)

-- What a packet announces (E-26, E-27).

abbrev pub news : Setup → (newest start : ℕ) → (reference payload : List ℕ) → List Entry
news g newest start reference payload =
    announced_each g.input_size (handle_list g.handles) (above newest (packet_of start (receiving_width (terms_of g)) reference payload))

-- how many frames are not above the newest
abbrev pub skipped : (newest start width length : ℕ) → ℕ
skipped newest start width length = min (suc newest - start) (frame_count width length)

pub record NewsAs (newest start width length : ℕ) (r : News) : Type 0 where
  pub count : r.count ≡ frame_count width length - skipped newest start width length
  pub first : r.first ≡ pick (ltb 0 r.count) (start + skipped newest start width length) start
  pub at : r.at ≡ skipped newest start width length * width

-- inputs that cannot be read have none
pub record NewsIf (readable : Bool) (newest start width length : ℕ) (r : News) : Type 0 where
  pub some : readable ≡ true → NewsAs newest start width length r
  pub none : readable ≡ false → r ≡ record { first = 0; count = 0; at = 0 }

-- An Input whose inputs an endpoint can read: its reference is held, its payload is whole frames, and each of them has a number.

pub record Readable (s : Seen) (start : ℕ) (payload : List ℕ) (x : InputBytes) : Type 0 where
  pub found : reference start s.carried.receiver ≡ record { held = true; input = x }
  pub whole : decodable (receiving_width s.setup) payload ≡ true
  pub within : start + frame_count (receiving_width s.setup) (length payload) ≤ 2 ^ 32
