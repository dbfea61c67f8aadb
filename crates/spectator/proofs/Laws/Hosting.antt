-- A call of the host alone is so of the session: what the host answers and becomes, the session answers, with that host.
use mathlib.Core.List.{List}
use mathlib.Core.Path.{◌≡◌, ap, ◌∙◌}
use Prim.Native.Nat.{ℕ}
use Rattle.answer.specs.Number.{number_of}
use Rattle.endpoint_rules.specs.Did.{Did as HostDid}
use Rattle.endpoint.specs.declared.Ended.{Ended as HostEnded}
use Rattle.endpoint.specs.Endpoint.{DidAs as HostDidAs, DoneAs as HostDoneAs}
use Rattle.spectator_rules.specs.Step.{by_host}
use Rattle.spectator.specs.declared.SpectatorSession.{SpectatorSession}
use Rattle.spectator.specs.declared.Ended.{Ended}
use Rattle.spectator.specs.Session.{seen, hosted, DidAs, DoneAs}

module _ (s : SpectatorSession) (d : HostDid) (e : HostEnded) (r : Ended) (er : (r.answer ≡ e.answer) × (r.session ≡ hosted s e.endpoint)) where
  pub host_did : (buffer buffer' : List ℕ) → HostDidAs s.host d buffer e buffer' → DidAs s (by_host d (seen s)) buffer r buffer'
  unfolding by_host seen
  host_did buffer buffer' h =
      record {
        answer = ap number_of er.0 ∙ h.answer;
        after = rw (er.1, h.after);
        lent = h.lent;
        own = rw er.1;
        terms = rw er.1 h.terms;
        same = λ n. er.1 ∙ ap (hosted s) (h.same n);
      }

  pub host_done : HostDoneAs s.host d e → DoneAs s (by_host d (seen s)) r
  unfolding by_host seen
  host_done h = record { answer = ap number_of er.0 ∙ h.answer; after = rw (er.1, h.after); own = rw er.1; terms = rw er.1 h.terms; same = λ n. er.1 ∙ ap (hosted s) (h.same n) }
