-- What a version's calls leave is what the rules say, and every endpoint that they lead to is a value of its type and sound.
use denote.Struct.Declared as Struct
use mathlib.Core.Path.{◌≡◌, refl}
use Rattle.endpoint_rules.specs.Did.{refused}
use Rattle.endpoint_rules.specs.Call.{Call}
use Rattle.endpoint_rules.specs.Step.{stats_step, status_step, step}
use Rattle.endpoint_rules.proofs.Tested.{tested-both}
use Rattle.endpoint_invariant.specs.Sound.{Sound}
use Rattle.endpoint_invariant.proofs.Sound.{fresh_sound, step_sound}
use Rattle.endpoint.specs.declared.Endpoint.{Endpoint}
use Rattle.endpoint.specs.contracts.Endpoint as Endpoint
use Rattle.endpoint.specs.Endpoint.{seen}
use Rattle.endpoint_version.specs.Values.{IsEndpoint}
use Rattle.endpoint_version.specs.Version.{Version, Asked, IsAsked, call_of, endpoint_after}
use Rattle.endpoint_version.specs.Meets.{Meets, Reached}
use Rattle.endpoint_version.proofs.Machine.{Means}
use Rattle.endpoint_version.proofs.Typed.{endpoint_means}
use Rattle.endpoint_version.proofs.Asked.{asked_typed}

module _ (v : Version) (m : Meets v) where
  -- what is seen after a call is what `step` leaves
  pub after-seen : (e : Endpoint) → IsEndpoint e → (c : Asked) → IsAsked c → seen (endpoint_after v e c) ≡ (step (call_of c) (seen e)).after
  unfolding step stats_step status_step refused
  after-seen e i (Asked.synchronize now epoch nonce out) h = (m.synchronize e now epoch nonce out i h).after
  after-seen e i (Asked.message from x payload now epoch nonce out) h = (m.message e from x payload now epoch nonce out i h).after
  after-seen e i (Asked.datagram from d now epoch nonce out) h = (m.datagram e from d now epoch nonce out i h).after
  after-seen e i (Asked.act statuses now epoch nonce out) h = (m.act e statuses now epoch nonce out i h).after
  after-seen e i (Asked.send_input frame bytes statuses now out) h = (m.send_input e frame bytes statuses now out i h).after
  after-seen e i (Asked.disconnect now) h = (m.disconnect e now i h).after
  after-seen e i (Asked.send_checksum_report frame checksum now out) h = (m.send_checksum_report e frame checksum now out i h).after
  after-seen e i (Asked.update_local_frame_advantage local) h = (m.update_local_frame_advantage e local i h).after
  after-seen e i (Asked.take_messages out) h = (m.take_messages e out i h).after
  after-seen e i (Asked.network_stats epoch) h = tested-both _ (seen e) _ (λ d. seen e ≡ d.after) (λ _. refl) (λ _. refl)
  after-seen e i (Asked.peer_connect_status handle) h = tested-both _ (seen e) _ (λ d. seen e ≡ d.after) (λ _. refl) (λ _. refl)
  after-seen e i (Asked.take_messages_into out into) h = (m.take_messages_into e out into i h).taken.after

  -- an endpoint that is reached is a value of its type, and sound
  pub record Good (e : Endpoint) : Type 0 where
    pub value : IsEndpoint e
    pub sound : Sound (seen e)

  pub called_good : (e : Endpoint) → Good e → (c : Asked) → IsAsked c → Good (endpoint_after v e c)
  called_good e g c h = record { value = m.values.called e g.value g.sound c h; sound = rw (after-seen e g.value c h) (step_sound (call_of c) (asked_typed c h) (seen e) g.sound) }

  pub taken_good : (e : Endpoint) → Good e → Good (v.take_events e).endpoint
  taken_good e g =
      record { value = (m.values.taken e g.value g.sound).0; sound = rw (m.take_events e g.value).after (step_sound Call.take_events tt (seen e) g.sound) }

  pub reached_good : (e : Endpoint) → Reached v e → Good e
  reached_good e (Reached.made g now t n f) = record { value = m.values.made g now t n f; sound = rw (m.new g now t n).made (fresh_sound g now t f) }
  reached_good e (Reached.called x r c h) = called_good x (reached_good x r) c h
  reached_good e (Reached.taken x r) = taken_good x (reached_good x r)

  -- and one that a machine value means
  pub reached_means : (e : Endpoint) → Reached v e → Means (Struct.row Endpoint.the_type) e
  reached_means e r = endpoint_means e (reached_good e r).value
