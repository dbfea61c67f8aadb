-- What a version's calls leave is what the rules say, and every session that they lead to is a value of its type and seated, and each of its counts is the number of what the
-- store holds.
use denote.Struct.Declared as Struct
use borrow.Author.Tests.{eqb-true, eqb-false}
use mathlib.Core.Bool.{Bool, true, false}
use mathlib.Core.List.{List, []}
use mathlib.Core.Path.{◌≡◌, refl, sym, ◌∙◌, ap}
use Prim.Native.Nat.{ℕ}
use lib.Dec.{eqb}
use lib.ListN.{length}
use Rattle.spectator_rules.specs.Watch.{Watch}
use Rattle.spectator_rules.specs.Call.{Call}
use Rattle.spectator_rules.specs.Step.{step}
use Rattle.spectator_invariant.specs.Seated.{Seated}
use Rattle.spectator_invariant.proofs.Seated.{fresh_seated, step_seated}
use Rattle.endpoint_version.proofs.Machine.{Means}
use Rattle.spectator.specs.declared.SpectatorSession.{SpectatorSession}
use Rattle.spectator.specs.contracts.SpectatorSession as SpectatorSession
use Rattle.spectator.specs.Stores.{events_of}
use Rattle.spectator.specs.Session.{seen, Counted, hosted}
use Rattle.spectator.specs.Answers.{polled_part, PolledAs}
use Rattle.endpoint.specs.declared.Endpoint.{Endpoint}
use Rattle.spectator_version.specs.Values.{IsSession}
use Rattle.spectator_version.specs.Version.{Version, Asked, IsAsked, call_of, session_after}
use Rattle.spectator_version.specs.Meets.{Meets, Reached}
use Rattle.spectator_version.proofs.Typed.{session_means}
use Rattle.spectator_version.proofs.Asked.{asked_typed}

module _ (v : Version) (m : Meets v) where
  -- what is seen after a call is what `step` leaves
  pub after-seen : (s : SpectatorSession) → IsSession s → (c : Asked) → IsAsked c → seen (session_after v s c) ≡ (step (call_of c) (seen s)).after
  after-seen s i (Asked.synchronize now epoch nonce out) h = (m.synchronize s now epoch nonce out i h).after
  after-seen s i (Asked.message from x payload now epoch nonce out) h = (m.message s from x payload now epoch nonce out i h).after
  after-seen s i (Asked.datagram from d now epoch nonce out) h = (m.datagram s from d now epoch nonce out i h).after
  after-seen s i (Asked.take_messages out) h = (m.take_messages s out i h).after
  after-seen s i (Asked.take_messages_into out into) h = (m.take_messages_into s out into i h).taken.after
  after-seen s i (Asked.poll_remote_clients now epoch nonce out) h = (m.poll_remote_clients s now epoch nonce out i h).after
  after-seen s i Asked.advance_frame h = (m.advance_frame s i).after
  after-seen s i Asked.take_events h = (m.take_events s i).after

  -- a session that is reached is a value of its type, and seated, and nobody has to clamp one of its counts
  pub record Good (s : SpectatorSession) : Type 0 where
    pub value : IsSession s
    pub seated : Seated (seen s)
    pub counted : Counted s

  -- a session of which all but its endpoint, or its current frame, is the very same
  hosted-counted : (s r : SpectatorSession) (e : Endpoint) → r ≡ hosted s e → Counted s → Counted r
  hosted-counted s r e q h = rw q h

  polled-counted : (s : SpectatorSession) → Good s → (now epoch nonce : ℕ) (out : List ℕ) → IsAsked (Asked.poll_remote_clients now epoch nonce out) → Counted (session_after v s (Asked.poll_remote_clients now epoch nonce out))
  polled-counted s g now epoch nonce out i = go (eqb n 0) refl
    where
      d : PolledAs s (step (Call.poll_remote_clients now epoch nonce (length out)) (seen s)) (polled_part now epoch nonce (length out) (seen s)) out (v.poll_remote_clients s now epoch nonce out).0 (v.poll_remote_clients s now epoch nonce out).1
      d = m.poll_remote_clients s now epoch nonce out g.value i

      n : ℕ
      n = (step (Call.poll_remote_clients now epoch nonce (length out)) (seen s)).answer

      go : (t : Bool) → eqb n 0 ≡ t → Counted (session_after v s (Asked.poll_remote_clients now epoch nonce out))
      go true e = d.counted (eqb-true n 0 e)
      go false e = rw (d.same (eqb-false n 0 e)) g.counted

  taken-counted : (s : SpectatorSession) → Good s → Counted (v.take_events s).session
  unfolding seen step
  taken-counted s g =
      let d = m.take_events s g.value in
      let none : events_of (v.take_events s).session.events ≡ [] = ap (λ (w : Watch). w.events) d.after in
      rw d.own (record { inputs = g.counted.inputs; statuses = g.counted.statuses; events = d.left ∙ sym (ap length none) })

  called_counted : (s : SpectatorSession) → Good s → (c : Asked) → IsAsked c → Counted (session_after v s c)
  called_counted s g (Asked.synchronize now epoch nonce out) h = hosted-counted s _ _ (m.synchronize s now epoch nonce out g.value h).own g.counted
  called_counted s g (Asked.message from x payload now epoch nonce out) h = hosted-counted s _ _ (m.message s from x payload now epoch nonce out g.value h).own g.counted
  called_counted s g (Asked.datagram from d now epoch nonce out) h = hosted-counted s _ _ (m.datagram s from d now epoch nonce out g.value h).own g.counted
  called_counted s g (Asked.take_messages out) h = hosted-counted s _ _ (m.take_messages s out g.value h).own g.counted
  called_counted s g (Asked.take_messages_into out into) h = hosted-counted s _ _ (m.take_messages_into s out into g.value h).taken.own g.counted
  called_counted s g (Asked.poll_remote_clients now epoch nonce out) h = polled-counted s g now epoch nonce out h
  called_counted s g Asked.advance_frame h = rw (m.advance_frame s g.value).own g.counted
  called_counted s g Asked.take_events h = taken-counted s g

  pub called_good : (s : SpectatorSession) → Good s → (c : Asked) → IsAsked c → Good (session_after v s c)
  called_good s g c h =
      record {
        value = m.values.called s g.value g.seated c h;
        seated = rw (after-seen s g.value c h) (step_seated (call_of c) (asked_typed c h) (seen s) g.seated);
        counted = called_counted s g c h;
      }

  pub reached_good : (s : SpectatorSession) → Reached v s → Good s
  reached_good s (Reached.made g now t n f) = record { value = m.values.made g now t n f; seated = rw (m.new g now t n).made (fresh_seated g now t.host f); counted = (m.new g now t n).counted }
  reached_good s (Reached.called x r c h) = called_good x (reached_good x r) c h

  -- and one that a machine value means
  pub reached_means : (s : SpectatorSession) → Reached v s → Means (Struct.row SpectatorSession.the_type) s
  reached_means s r = session_means s (reached_good s r).value
