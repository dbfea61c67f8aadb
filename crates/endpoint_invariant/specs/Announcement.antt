-- An event as an endpoint announces it: its numbers, and the 16 bytes beside it (law `step_announcements`).
use mathlib.Core.List.{List, Memᴰ as Mem}
use Rattle.std.specs.Prelude.{◌≡◌, ℕ, ◌-◌, ◌^◌, ◌≤◌, ◌<◌, length, drop, replicate}
use Rattle.base.specs.Little.{Bytes}
use Rattle.ceilings.specs.Ceilings.{most_input_size}
use Rattle.frame.specs.Bias.{bias32}
use Rattle.events.specs.declared.Entry.{Entry}
use Rattle.events.specs.declared.Event.{Event}
use Rattle.setup.specs.Setup.{Terms, Between, most_handle, most_timeout}

-- an Input: a frame that is not negative, a player at the other end, and beside it an input of as many bytes as the setup says, zeros behind it
pub record InputAnnouncement (t : Terms) (frame player : ℕ) (input : List ℕ) : Type 0 where
  pub number : (bias32 ≤ frame) × (frame < 2 ^ 32)
  pub handle : Mem player t.handles × (player ≤ most_handle)
  pub size : length input ≡ most_input_size
  pub bytes : Bytes input
  pub past : drop t.input_size input ≡ replicate (most_input_size - t.input_size) 0

-- beside every other event stand zeros
abbrev pub NoInput : List ℕ → Type 0
NoInput input = input ≡ replicate most_input_size 0

-- an event with the bytes beside it. The first four of the handshake's five replies are announced as Synchronizing, with how many came so far;
-- an interruption is announced with what is left until the disconnect, 0 if that would come first
abbrev pub AnnouncedWith : Terms → Event → (input : List ℕ) → Type 0
AnnouncedWith t (Event.Synchronizing total count) input = (total ≡ 5) × Between 1 4 count × NoInput input
AnnouncedWith t Event.Synchronized input = NoInput input
AnnouncedWith t (Event.Input frame player) input = InputAnnouncement t frame player input
AnnouncedWith t Event.Disconnected input = NoInput input
AnnouncedWith t (Event.NetworkInterrupted timeout) input = (timeout ≡ t.disconnect_timeout - t.notify_start) × (timeout ≤ most_timeout) × NoInput input
AnnouncedWith t Event.NetworkResumed input = NoInput input

abbrev pub Announcement : Terms → Entry → Type 0
Announcement t x = AnnouncedWith t x.event x.input
