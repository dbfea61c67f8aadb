-- How calls end: refused or ignored, where the very endpoint and buffer are given back; done with nothing queued, or with one message.
use Rattle.std.specs.Prelude.{Ok, Err}
use mathlib.Core.List.{List, [], ◌∷◌, ◌++◌, append-nil, flatten}
use mathlib.Core.Path.{◌≡◌, refl, sym, ◌∙◌, ap}
use Rattle.std.specs.Result.{IsErrAnd}
use Rattle.std.proofs.lemmas.Result.{err_from_is_err_and}
use Rattle.answer.specs.declared.Refusal.{Refusal}
use native.Mathlib.Nat.{add-zero}
use Prim.Native.Nat.{ℕ}
use Rattle.base.proofs.Lay.{laid_none}
use Rattle.answer.specs.Number.{number_of}
use Rattle.answer.specs.Number.{Answered}
use Rattle.packing.specs.declared.input_bytes.InputBytes.{InputBytes}
use Rattle.pending.specs.declared.Pending.{Pending}
use Rattle.history.specs.declared.History.{History}
use Rattle.nonces.specs.declared.Nonces.{Nonces}
use Rattle.status.specs.declared.list.Statuses.{Statuses}
use Rattle.checksums.specs.declared.Checksums.{Checksums}
use Rattle.events.specs.declared.Events.{Events}
use Rattle.timers.specs.declared.Clocks.{Clocks}
use Rattle.quality.specs.declared.Quality.{Quality}
use Rattle.endpoint_rules.specs.declared.Flags.{Flags}
use Rattle.endpoint_rules.specs.declared.Phase.{Phase}
use Rattle.endpoint.specs.declared.Sync.{Sync}
use Rattle.codec.specs.Message.{Wire}
use Rattle.outbox.specs.Outbox.{queue_size, QueuedAs}
use Rattle.endpoint_rules.specs.Seen.{with_events, with_queued}
use Rattle.endpoint_rules.specs.Did.{Did, Effect, refused, done}
use Rattle.endpoint.specs.declared.Endpoint.{Endpoint}
use Rattle.endpoint.specs.Endpoint.{seen, SameTerms, DidAs, DoneAs}
use Rattle.endpoint.specs.Inside.Batch.{BatchWrittenAs}

-- what `?` passes on is the refusal that it met
pub passed_on : (r : Answered) (x : Refusal) → IsErrAnd r (λ y. y ≡ x) → r ≡ Err x
passed_on r x h = let z = err_from_is_err_and r h in z.1 ∙ ap Err z.2

-- the same in another phase
abbrev pub in_phase : Phase → Sync → Sync
in_phase p s = record { phase = p; remaining = s.remaining; remote_magic = s.remote_magic }

-- an endpoint with the setup of another: how a call that is done leaves it
abbrev pub remade : Endpoint → Pending → InputBytes → History → Sync → Nonces → Clocks → Flags → Quality → Statuses → Checksums → Events → (queued : ℕ) → Endpoint
remade e pending acked history sync nonces clocks flags quality statuses checksums events queued =
    record {
      setup = e.setup;
      pending = pending;
      acked = acked;
      history = history;
      sync = sync;
      nonces = nonces;
      clocks = clocks;
      flags = flags;
      quality = quality;
      statuses = statuses;
      checksums = checksums;
      events = events;
      queued = queued;
    }

-- the same with other events, and another end of its queue
abbrev pub grown : Endpoint → Events → ℕ → Endpoint
grown e events queued =
    remade e e.pending e.acked e.history e.sync e.nonces e.clocks e.flags e.quality e.statuses e.checksums events queued

module _ (e : Endpoint) (a : Answered) (d : Did) (h : d ≡ refused (number_of a) (seen e)) where
  pub refused-done : DoneAs e d (record { answer = a; endpoint = e })
  unfolding refused
  refused-done = rw h (record { answer = refl; after = refl; terms = record { setup = refl; count = refl }; same = λ _. refl })

  pub refused_did : (buffer : List ℕ) → DidAs e d buffer (record { answer = a; endpoint = e }) buffer
  unfolding refused flatten
  refused_did buffer = rw h (record { answer = refl; after = refl; terms = record { setup = refl; count = refl }; lent = sym (laid_none buffer e.queued); same = λ _. refl })

-- done: what is left to show of the state after it
module _ (e : Endpoint) (n : Endpoint) (terms : SameTerms e n) (f : Effect) (d : Did) (h : d ≡ done f) where
  -- nothing is queued
  module _ (o : f.out ≡ []) (after : seen n ≡ with_events (f.state.events ++ f.events) f.state) where
    pub done-done : DoneAs e d (record { answer = Ok tt; endpoint = n })
    unfolding done queue_size
    done-done = rw h (record { answer = refl; after = after ∙ rw (o, add-zero); terms = terms; same = λ x. absurd (x refl) })

  -- one message is
  module _ (w : Wire) (o : f.out ≡ w ∷ []) (buffer buffer' : List ℕ) (q : ℕ) (eq : QueuedAs buffer e.queued w (Ok q) buffer') where
    pub queued_did : f.state.queued ≡ e.queued → seen n ≡ with_events (f.state.events ++ f.events) (with_queued q f.state)
        → DidAs e d buffer (record { answer = Ok tt; endpoint = n }) buffer'
    unfolding done queue_size flatten
    queued_did k after =
        rw h (record {
          answer = refl;
          after = after ∙ rw (eq.end, o, k, add-zero);
          terms = terms;
          lent = rw o (eq.lent ∙ rw append-nil);
          same = λ x. absurd (x refl);
        })

-- done, with several messages queued or none
pub batch_did : (e n : Endpoint) → SameTerms e n → (f : Effect) (d : Did) (buffer buffer' : List ℕ) (stop : ℕ) → d ≡ done f → f.state.queued ≡ e.queued
    → BatchWrittenAs buffer e.queued f.out stop buffer' → seen n ≡ with_events (f.state.events ++ f.events) (with_queued stop f.state)
    → DidAs e d buffer (record { answer = Ok tt; endpoint = n }) buffer'
unfolding done
batch_did e n terms f d buffer buffer' stop h k w after =
    rw h (record { answer = refl; after = after ∙ rw (w.end, k); terms = terms; lent = w.lent; same = λ x. absurd (x refl) })
