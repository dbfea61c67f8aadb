-- Worked: an endpoint as made, after its handshake, and with an Input that it announces.
use mathlib.Core.List.{List, [], ◌∷◌}
use mathlib.Core.Path.{◌≡◌, refl, ap}
use Prim.Native.Nat.{ℕ, zero, suc, ◌+◌, ◌<◌}
use native.Mathlib.Omega.{arith}
use lib.ListN.{length, get_or, replicate}
use Rattle.base.specs.Little.{Bytes}
use Rattle.codec.specs.Message.{FitsReports}
use Rattle.codec.proofs.Octets.{bytes_none, bytes-cons}
use Rattle.events.specs.declared.Event.TheVariants as Event
use Rattle.setup.specs.Setup.{terms_with}
use Rattle.endpoint_rules.specs.Seen.{made}
use Rattle.endpoint_rules.specs.Step.{fresh}
use Rattle.endpoint_rules.proofs.Bouts.{setup_of, setup_with, setup_taken, new, fr, none, handshake, reply, announced_input, P3, bouts}
use Rattle.endpoint_invariant.specs.Runs.{ran, all_announced}
use Rattle.endpoint_invariant.specs.Each.{Each}
use Rattle.endpoint_invariant.specs.Typed.{IsU32, Typed, TypedSetup}
use Rattle.endpoint_invariant.specs.Sound.{Sound}
use Rattle.endpoint_invariant.specs.Announcement.{Announcement}
use Rattle.endpoint_invariant.proofs.Runs.{reached_sound, reached_announces, reached_announcements}

pub small_typed : (handles : List ℕ) (count locals size prediction magic : ℕ) → length handles ≡ 4 → Each IsU32 handles
    → Each (λ n. n < 100) (count ∷ locals ∷ size ∷ prediction ∷ magic ∷ []) → TypedSetup (setup_of handles count locals size prediction magic)
unfolding Each
small_typed handles count locals size prediction magic l h k =
    record {
      players = omega arith;
      handles = l;
      handle = h;
      count = omega arith;
      local_players = omega arith;
      input_size = omega arith;
      max_prediction = omega arith;
      disconnect_timeout = omega arith;
      notify_start = omega arith;
      fps = omega arith;
      magic = omega arith;
      peer = omega arith;
      desync = tt;
    }

pub reply_typed : (nonce : ℕ) → nonce < 100 → Typed (reply nonce (nonce + 1))
reply_typed nonce h =
    (omega arith, omega arith, record { magic = omega arith; body = omega arith; frames = λ i d b. absurd (omega arith); bytes = λ i. omega arith }, (omega arith, omega arith, omega arith, omega arith))

pub handshake_typed : Each Typed handshake
unfolding Each
handshake_typed =
    ((omega arith, omega arith, omega arith, omega arith), (reply_typed 1 (omega arith), (reply_typed 2 (omega arith), (reply_typed 3 (omega arith), (reply_typed 4 (omega arith), (reply_typed 5 (omega arith), tt))))))

new_typed : TypedSetup (setup_with 1)
unfolding Each
new_typed =
    small_typed (1 ∷ 0 ∷ 0 ∷ 0 ∷ []) 1 1 1 2 7 refl (omega arith, (omega arith, (omega arith, (omega arith, tt)))) (omega arith, (omega arith, (omega arith, (omega arith, (omega arith, tt)))))

running_sound : Sound (ran handshake new)
running_sound = reached_sound (setup_with 1) 1000 new_typed setup_taken handshake handshake_typed

-- ---- an Input that is announced (P3): two frames of player 1, one byte each and 15 zeros behind it

P3_typed : Typed P3
P3_typed = (
  omega arith,
  omega arith,
  record { magic = omega arith; body = (omega arith, omega arith); frames = reports; bytes = payload },
  (omega arith, omega arith, omega arith, omega arith),
)
  where
    reports : FitsReports none
    reports zero d h = omega arith
    reports (suc zero) d h = omega arith
    reports (suc (suc i)) d h = absurd (omega arith)

    payload : Bytes (5 ∷ 7 ∷ [])
    payload = bytes-cons 5 (7 ∷ []) (omega arith) (bytes-cons 7 [] (omega arith) bytes_none)

P3_announces : Each (Announcement new.setup) (announced_input (fr 0) 5 ∷ announced_input (fr 1) 7 ∷ [])
unfolding Each all_announced
P3_announces =
    let all : Each (Announcement new.setup) (all_announced (P3 ∷ []) new)
    = rw (reached_announces (setup_with 1) 1000 (P3 ∷ [])) at (reached_announcements (setup_with 1) 1000 new_typed setup_taken (P3 ∷ []) (P3_typed, tt)) in
    rw bouts.0 at all

-- with inputs of one byte, an event with a second byte that is not 0 is none
second_byte : Announcement new.setup (record { event = Event.Input (fr 0) 1; input = 5 ∷ 7 ∷ replicate 14 0 }) → ⊥
unfolding fresh made terms_with
second_byte h = let z : ◌≡◌ {A = ℕ} 7 0 = ap (λ l. get_or l 0 0) h.past in omega arith
