-- What `new` refuses, and that what it makes is the endpoint of its setup.
use Rattle.std.specs.Prelude.{Ok, Err}
use mathlib.Core.Bool.{true, false}
use mathlib.Core.List.{[], ◌∷◌}
use mathlib.Core.Path.{◌≡◌, sym, ◌∙◌}
use Prim.Native.Nat.{ℕ, min}
use lib.ListN.{replicate}
use Rattle.ceilings.specs.Ceilings.{most_players}
use Rattle.frame.specs.Bias.{null_frame}
use Rattle.answer.specs.Number.{number_of}
use Rattle.answer.proofs.Number.{number_determines}
use Rattle.answer.specs.Number.{Answered}
use Rattle.answer.specs.declared.Refusal.TheVariants.{BadSetup, BadClock}
use Rattle.packing.specs.Pad.{zeros}
use Rattle.pending.specs.declared.Pending.{Pending}
use Rattle.pending.specs.Pending.{waiting}
use Rattle.history.specs.declared.History.{History}
use Rattle.history.specs.History.{received, blank_frame}
use Rattle.nonces.specs.declared.Nonces.{Nonces}
use Rattle.nonces.specs.Nonces.{outstanding}
use Rattle.status.specs.declared.list.Statuses.{Statuses}
use Rattle.status.specs.Statuses.{held_statuses, default_statuses}
use Rattle.checksums.specs.declared.Checksums.{Checksums}
use Rattle.checksums.specs.Checksums.{stored}
use Rattle.events.specs.declared.Events.{Events}
use Rattle.events.specs.Events.{held_events}
use Rattle.setup.specs.declared.Setup.{Setup}
use Rattle.setup.specs.Setup.{bad_setup, terms_of, terms_with, sorted, handle_list}
use Rattle.timers.specs.declared.Clocks.{Clocks}
use Rattle.timers.specs.Timers.{bad_clock, made_at}
use Rattle.quality.specs.declared.Quality.{Quality}
use Rattle.quality.specs.Quality.{fresh_quality}
use Rattle.endpoint_rules.specs.declared.Phase.TheVariants.{Initializing}
use Rattle.endpoint_rules.specs.Seen.{made}
use Rattle.endpoint_rules.specs.Step.{fresh}
use Rattle.endpoint.specs.declared.Endpoint.{Endpoint}
use Rattle.endpoint.specs.declared.Ended.{Ended}
use Rattle.endpoint.specs.Endpoint.{seen}
use Rattle.endpoint.specs.Made.{MadeAs}

module _ (g : Setup) (now : ℕ) where
  pub refused_clock : bad_clock now ≡ true → number_of (Err BadClock) ≡ (fresh g now).0
  unfolding fresh
  refused_clock h = rw h

  module _ (good : bad_clock now ≡ false) where
    pub refused_setup : bad_setup g ≡ true → number_of (Err BadSetup) ≡ (fresh g now).0
    unfolding fresh
    refused_setup h = rw (good, h)

    pub not_refused : bad_setup g ≡ false → number_of (Ok tt) ≡ (fresh g now).0
    unfolding fresh
    not_refused h = rw (good, h)

  -- what each part of it is made to be
  pub makes : (s : Setup) (p : Pending) (h : History) (n : Nonces) (c : Clocks) (q : Quality) (st : Statuses) (cs : Checksums) (ev : Events)
      → terms_of s ≡ terms_with (sorted (handle_list g.handles)) g
      → waiting p ≡ []
      → received h ≡ blank_frame ∷ []
      → outstanding n ≡ []
      → c ≡ made_at now
      → q ≡ fresh_quality
      → held_statuses st ≡ default_statuses g.num_players
      → stored cs ≡ []
      → held_events ev ≡ []
      → seen (record {
        setup = s;
        pending = p;
        acked = record { frame = null_frame; bytes = replicate 64 0 };
        history = h;
        sync = record { phase = Initializing; remaining = 5; remote_magic = 0 };
        nonces = n;
        clocks = c;
        flags = record { disconnect_notify_sent = false; disconnect_event_sent = false };
        quality = q;
        statuses = st;
        checksums = cs;
        events = ev;
        queued = 0;
      })
      ≡ made g now
  unfolding seen made blank_frame zeros
  makes s p h n c q st cs ev es ep eh en ec eq est ecs eev = rw (es, ep, eh, en, ec, eq, est, ecs, eev)

  pub made_as : (a : Answered) (e : Endpoint) → number_of a ≡ (fresh g now).0 → seen e ≡ made g now → e.setup.handles.count ≡ g.handles.count → e.statuses.count ≡ min g.num_players most_players
      → MadeAs g now (record { answer = a; endpoint = e })
  unfolding fresh
  made_as a e ea ee handles count = record { answer = ea; made = ee; handles = handles; count = count }

  -- of the setup, whose handles are sorted, all but what their array holds past the count
  pub new_settled : (r s : Ended) → MadeAs g now r → MadeAs g now s
      → (r.answer ≡ s.answer) × (seen r.endpoint ≡ seen s.endpoint) × (r.endpoint.setup.handles.count ≡ s.endpoint.setup.handles.count) × (r.endpoint.statuses.count ≡ s.endpoint.statuses.count)
  new_settled r s a b =
      (number_determines r.answer s.answer (a.answer ∙ sym b.answer), a.made ∙ sym b.made, a.handles ∙ sym b.handles, a.count ∙ sym b.count)
