-- Over every run of an endpoint that `new` made: it is sound, each event taken or held is as an endpoint announces it, and with one buffer lent each time the bytes
-- taken and queued are those of the messages queued.
use mathlib.Core.List.{List, [], ◌∷◌, ◌++◌}
use mathlib.Core.Path.{◌≡◌}
use Prim.Native.Nat.{ℕ}
use native.Mathlib.Omega.{arith}
use lib.ListN.{length, take}
use Rattle.codec.specs.Bytes.{queue_of}
use Rattle.setup.specs.declared.Setup.{Setup}
use Rattle.endpoint_rules.specs.Seen.{Seen, made}
use Rattle.endpoint_rules.specs.Call.{Call}
use Rattle.endpoint_rules.specs.Step.{fresh, step}
use Rattle.endpoint_invariant.specs.Runs.{ran, all_announced, all_handed, lent_to, Lent, lent_ran, all_gone, all_out}
use Rattle.endpoint_invariant.proofs.Queue.{run_queues}
use Rattle.endpoint_invariant.proofs.Announced.{run_announces}
use Rattle.endpoint_invariant.specs.Each.{Each}
use Rattle.endpoint_invariant.specs.Typed.{Typed, TypedSetup}
use Rattle.endpoint_invariant.specs.Sound.{Sound}
use Rattle.endpoint_invariant.specs.Announcement.{Announcement}
use Rattle.endpoint_invariant.proofs.Eaches.{each_append}
use Rattle.endpoint_invariant.proofs.Sound.{fresh_sound, step_sound, step_fits}
use Rattle.endpoint_invariant.proofs.Staying.{step_setup}
use Rattle.endpoint_invariant.proofs.Announcements.{step_announcements}

pub run_sound : (cs : List Call) → Each Typed cs → (s : Seen) → Sound s → Sound (ran cs s)
unfolding ran Each
run_sound [] t s h = h
run_sound (c ∷ cs) t s h = run_sound cs t.1 (step c s).after (step_sound c t.0 s h)

-- every call queues only messages that their bytes determine: of the calls it is only asked that they are lent one buffer
pub run_lent : (n : ℕ) (cs : List Call) → Each Typed cs → Each (λ c. lent_to c n ≡ n) cs → (s : Seen) → Sound s → Lent n cs s
unfolding Lent Each
run_lent n [] t l s h = tt
run_lent n (c ∷ cs) t l s h = (l.0, step_fits c t.0 s h, run_lent n cs t.1 l.1 (step c s).after (step_sound c t.0 s h))

-- every event announced in a run is an announcement
pub run_announcements : (cs : List Call) → Each Typed cs → (s : Seen) → Sound s → Each (Announcement s.setup) (all_announced cs s)
unfolding all_announced Each
run_announcements [] t s h = tt
run_announcements (c ∷ cs) t s h =
    each_append (Announcement s.setup) (step c s).events (all_announced cs (step c s).after) (step_announcements c t.0 s h)
    (rw (step_setup c s) at (run_announcements cs t.1 (step c s).after (step_sound c t.0 s h)))

-- of an endpoint that `new` made, events handed out and held are those that were announced
pub reached_announces : (g : Setup) (now : ℕ) (cs : List Call) → all_handed cs (fresh g now).1 ++ (ran cs (fresh g now).1).events ≡ all_announced cs (fresh g now).1
unfolding fresh made
reached_announces g now cs = run_announces cs (fresh g now).1

module _ (g : Setup) (now : ℕ) (t : TypedSetup g) (z : (fresh g now).0 ≡ 0) (cs : List Call) (ts : Each Typed cs) where
  pub reached_sound : Sound (ran cs (fresh g now).1)
  reached_sound = run_sound cs ts (fresh g now).1 (fresh_sound g now t z)

  -- every event taken or still held is an announcement
  pub reached_announcements : Each (Announcement (fresh g now).1.setup) (all_handed cs (fresh g now).1 ++ (ran cs (fresh g now).1).events)
  reached_announcements = rw (reached_announces g now cs) (run_announcements cs ts (fresh g now).1 (fresh_sound g now t z))

  pub reached_queues : (b : List ℕ) → Each (λ c. lent_to c (length b) ≡ length b) cs
      → all_gone cs b (fresh g now).1 ++ take (ran cs (fresh g now).1).queued (lent_ran cs b (fresh g now).1) ≡ queue_of (all_out cs (fresh g now).1)
  unfolding fresh made
  reached_queues b l = run_queues cs b (fresh g now).1 (run_lent (length b) cs ts l (fresh g now).1 (fresh_sound g now t z)) (omega arith)
