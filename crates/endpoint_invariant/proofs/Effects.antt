-- What a call does, step by step, keeps the state sound and queues only what the writer takes; and how a call ends.
use borrow.Author.Tests.{leb-true, not-false}
use mathlib.Core.Bool.{false, Bool}
use mathlib.Core.List.{List, [], ◌∷◌, ◌++◌}
use mathlib.Core.Path.{◌≡◌, refl}
use Prim.Native.Nat.{ℕ, ◌+◌, ◌^◌, ◌<◌}
use native.Mathlib.Omega.{arith}
use lib.ListN.{length, length-append}
use Rattle.base.proofs.Bools.{neither}
use Rattle.codec.specs.Message.{Wire, Fits, FitAll, FitsBody}
use Rattle.codec.specs.Read.{body_only}
use Rattle.codec.specs.declared.MessageBody.{MessageBody}
use Rattle.events.specs.declared.Entry.{Entry}
use Rattle.events.specs.declared.Event.{Event}
use Rattle.events.specs.Events.{has_room}
use Rattle.setup.specs.Setup.{Terms, SoundSetup}
use Rattle.endpoint_rules.specs.Seen.{Seen}
use Rattle.endpoint_rules.specs.Did.{Did, Effect, Verdict, refused, tested, decided, begin, change, queue_wire, queue, announce, announce_event, done}
use Rattle.endpoint_rules.specs.Room.{is_full, events_full}
use Rattle.endpoint_rules.proofs.Tested.{NoneHolds, tested-both, decided-both}
use Rattle.endpoint_invariant.specs.Sound.{Sound}
use Rattle.endpoint_invariant.proofs.Parts.{clocks_part, events_part, queued_part}
use Rattle.endpoint_invariant.proofs.Fields.{sent_clock}

-- of an effect that is not booked yet
pub record Good (e : Effect) : Type 0 where
  pub state : Sound e.state
  pub out : FitAll e.out

-- of a whole call
pub record Keeps (d : Did) : Type 0 where
  pub after : Sound d.after
  pub out : FitAll d.out

fit_end : (l : List Wire) (w : Wire) → FitAll l → Fits w → FitAll (l ++ w ∷ [])
fit_end [] w h k = (k, tt)
fit_end (x ∷ l) w h k = (h.0, fit_end l w h.1 k)

-- a message without statuses and payload
body_only_fits : (t : Terms) → SoundSetup t → (body : MessageBody) → FitsBody body → Fits (body_only t.magic body)
body_only_fits t s body b =
    record {
      magic = omega (arith, s.magic.1);
      body = b;
      frames = λ i d h. absurd (omega arith);
      statuses = omega arith;
      length = omega arith;
      bytes = λ i. omega arith;
      none = λ _. (refl, refl);
    }

-- ---- the steps

pub begun : (s : Seen) → Sound s → Good (begin s)
begun s h = record { state = h; out = tt }

module _ (e : Effect) (g : Good e) where
  pub changed_good : (s : Seen) → Sound s → Good (change (λ _. s) e)
  changed_good s h = record { state = h; out = g.out }

  pub announced_good : (es : List Entry) → Good (announce es e)
  announced_good es = record { state = g.state; out = g.out }

  pub event_good : (event : Event) → Good (announce_event event e)
  event_good event = record { state = g.state; out = g.out }

  module _ (now : ℕ) (small : now < 2 ^ 62) where
    pub queued_good : (w : Wire) → Fits w → Good (queue_wire now w e)
    unfolding queue_wire
    queued_good w h =
        record { state = clocks_part e.state g.state _ (sent_clock e.state.clocks g.state.clocks now small); out = fit_end e.out w g.out h }

    pub body_only_good : (body : MessageBody) → FitsBody body → Good (queue now body e)
    body_only_good body b = queued_good (body_only e.state.setup.magic body) (body_only_fits e.state.setup g.state.setup body b)

-- ---- the end of a call

pub decided_keeps : (n : ℕ) (s : Seen) (d : Did) → Sound s → (n ≡ 0 → Keeps d) → Keeps (decided n s d)
unfolding refused
decided_keeps n s d h f = decided-both n s d Keeps (λ _. record { after = h; out = tt }) f

pub tested_keeps : (ts : List (Bool × Verdict)) (s : Seen) (d : Did) → Sound s → (NoneHolds ts → Keeps d) → Keeps (tested ts s d)
unfolding refused
tested_keeps ts s d h f = tested-both ts s d Keeps (λ _. record { after = h; out = tt }) f

pub done_keeps : (buffer : ℕ) (e : Effect) → is_full buffer e ≡ false → Good e → Keeps (done e)
unfolding done is_full has_room
done_keeps buffer e f g =
    let room = leb-true (length e.state.events + length e.events) 640 (not-false _ (neither (events_full e.state.events e.events) _ f).0) in
    record {
      after = events_part _ (queued_part e.state g.state _) (e.state.events ++ e.events) (omega (arith, length-append e.state.events e.events));
      out = g.out;
    }
