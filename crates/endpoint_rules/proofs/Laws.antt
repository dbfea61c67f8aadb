-- What a proof of a call cites of its definition: a call's first refusals taken away one by one.
use mathlib.Core.Bool.{Bool, true, false}
use mathlib.Core.List.{List, []}
use mathlib.Core.Path.{◌≡◌, refl, sym, ◌∙◌, ap}
use native.Mathlib.Omega.{arith}
use Prim.Native.Nat.{ℕ}
use Rattle.timers.specs.Timers.{bad_clocks}
use Rattle.codec.specs.Message.{Wire}
use Rattle.events.specs.declared.Entry.{Entry}
use Rattle.events.specs.declared.Event.TheVariants.{NetworkResumed}
use Rattle.endpoint_rules.specs.declared.Flags.{Flags}
use Rattle.endpoint_rules.specs.Seen.{Seen, with_flags, heard_at}
use Rattle.endpoint_rules.specs.Did.{Did, Effect, refused, tested, begin, change, announce_event, done}
use Rattle.endpoint_rules.specs.Handshake.{Reaction}
use Rattle.endpoint_rules.specs.Step.{ignored, resumes, resumed, heard, on_body, reacted, message_step}
use Rattle.endpoint_rules.proofs.Tested.{tested-done}

module _ (from count : ℕ) (w : Wire) (now epoch nonce buffer : ℕ) (s : Seen) where
  pub message_clocks : bad_clocks now epoch ≡ true → message_step from count w now epoch nonce buffer s ≡ refused 8 s
  unfolding message_step tested
  message_clocks h = rw h

  pub message-ignored : bad_clocks now epoch ≡ false → ignored from w.magic s ≡ true → message_step from count w now epoch nonce buffer s ≡ refused 0 s
  unfolding message_step tested refused
  message-ignored h i = rw (h, i)

  pub message_reacts : bad_clocks now epoch ≡ false → ignored from w.magic s ≡ false
      → message_step from count w now epoch nonce buffer s ≡ reacted buffer s (on_body w.body count w now epoch nonce (heard now s))
  unfolding message_step tested
  message_reacts h i = rw (h, i)

  -- not ignored, and answered with 0: it was heard, and its reaction is done
  pub message-done : ignored from w.magic s ≡ false → (message_step from count w now epoch nonce buffer s).answer ≡ 0
      → message_step from count w now epoch nonce buffer s ≡ done (on_body w.body count w now epoch nonce (heard now s)).effect
  unfolding message_step reacted
  message-done i z =
      let r : Reaction = on_body w.body count w now epoch nonce (heard now s) in
      let reacts : message_step from count w now epoch nonce buffer s ≡ reacted buffer s r =
      tested-done _ s (reacted buffer s r) (omega arith, (i, tt)) z in
      reacts ∙ tested-done _ s (done r.effect) (omega arith, (omega arith, (omega arith, tt))) (ap (λ (x : Did). x.answer) (sym reacts) ∙ z)

-- hearing a message, by whether it ends an interruption
module _ (now : ℕ) (s : Seen) where
  pub heard_quiet : resumes s ≡ false → heard now s ≡ begin (heard_at now s)
  unfolding heard resumed
  heard_quiet h = rw h

  pub heard-resumes : resumes s ≡ true
      → heard now s ≡ announce_event NetworkResumed (change (λ x. with_flags (record { disconnect_notify_sent = false; disconnect_event_sent = x.flags.disconnect_event_sent }) x) (begin (heard_at now s)))
  unfolding heard resumed
  heard-resumes h = rw h

-- either way only the receive time and the flags change, and nothing is queued: what follows of all such effects holds of it
abbrev pub hearing : ℕ → Seen → Flags → List Entry → Effect
hearing now s f events = record { state = with_flags f (heard_at now s); out = []; events = events }

pub by_hearing : (now : ℕ) (s : Seen) (P : Effect → Type 0) → ((f : Flags) (events : List Entry) → P (hearing now s f events)) → P (heard now s)
by_hearing now s P h = go (resumes s) refl
  where
    go : (b : Bool) → resumes s ≡ b → P (heard now s)
    go true e = rw (heard-resumes now s e) (h _ _)
    go false e = rw (heard_quiet now s e) (h _ _)
