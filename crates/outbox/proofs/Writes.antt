-- From the codec's answer for a message within the counts to the queue's.
use mathlib.Core.Bool.{Bool, true, false}
use mathlib.Core.List.{List}
use mathlib.Core.Path.{◌≡◌, refl, sym, ◌∙◌}
use Prim.Native.Nat.{ℕ, ◌≤◌}
use native.Mathlib.Omega.{arith}
use lib.ListN.{length}
use Rattle.std.specs.Prelude.{Result, Ok, Err}
use Rattle.base.specs.Pick.{pick}
use Rattle.base.specs.Lay.{no_room}
use Rattle.answer.specs.Number.{refusal_number}
use Rattle.answer.specs.declared.Refusal.{Refusal}
use Rattle.answer.specs.declared.Refusal.TheVariants.{Full}
use Rattle.answer.proofs.Number.{number_determines}
use Rattle.answer.proofs.Refused.{not_done}
use Rattle.ceilings.specs.Ceilings.{most_players, most_payload}
use Rattle.codec.specs.Message.{Wire, meant, table_size}
use Rattle.codec.specs.Calls.{write_refusal, WrittenAs}
use Rattle.codec.specs.declared.Message.{Message}
use Rattle.codec.proofs.Laws.{refused-room, written_end}
use Rattle.outbox.specs.Outbox.{QueuedAs}

room_known : (t : Bool) → ◌≡◌ {A = ℕ} (pick t 5 0) 0 → t ≡ false
room_known true e = absurd (omega arith)
room_known false e = refl

full_known : (t : Bool) (e : Refusal) → pick t 5 0 ≡ refusal_number e → (t ≡ true) × (e ≡ Full)
full_known true e n = (refl, same e (number_determines (Err e) (Err Full) (sym n)))
  where
    same : (e : Refusal) → ◌≡◌ {A = Result Unit Refusal} (Err e) (Err Full) → e ≡ Full
    same e q = cc
full_known false e n = absurd (not_done e (sym n))

module _ (b : List ℕ) (at : ℕ) (m : Message) (p : List ℕ) (few : m.reports.count ≤ most_players) (short : length p ≤ most_payload)
    (four : length m.reports.list ≡ 4) (w : Wire) (is : meant m p ≡ w) where
  refusal : write_refusal b at m (length p) ≡ pick (no_room b at (table_size w)) 5 0
  refusal = rw (← is) (refused-room b at m p few short four)

  pub queued : (r : Result ℕ Refusal) (b' : List ℕ) → WrittenAs b at m p r b' → QueuedAs b at w r b'
  queued (Ok next) b' h =
      record {
        room = room_known _ (sym refusal ∙ h.done);
        end = written_end b at m p next b' h ∙ rw is;
        lent = rw is at h.lent;
        fits = rw is at h.fits;
      }
  queued (Err e) b' h = let full = full_known _ e (sym refusal ∙ h.0) in (full.0, full.1, h.1)
