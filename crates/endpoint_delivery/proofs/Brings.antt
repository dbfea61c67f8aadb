-- An Input that is neither refused nor ignored nor discarded brings its receiver at least to its last frame, if the receiver has none yet or still holds the
-- frame before its first; otherwise it announces no frame.
use mathlib.Core.Bool.{Bool, true, false, not, ◌&&◌, ◌||◌, and-false}
use mathlib.Core.List.{List, [], ◌∷◌}
use mathlib.Core.Logic.{◌⊎◌, inl, inr}
use mathlib.Core.Path.{◌≡◌, ap, ◌∙◌}
use Prim.Native.Nat.{ℕ, ◌≤◌}
use lib.Dec.{eqb}
use lib.ListN.{length}
use borrow.Author.Tests.{le-ltb, eq-eqb}
use Rattle.frame.specs.Bias.{bias32, null_frame}
use Rattle.history.specs.History.{newest_of}
use Rattle.codec.specs.Message.{Wire}
use Rattle.codec.specs.declared.StatusReport.{StatusReport}
use Rattle.codec.specs.declared.MessageBody.TheVariants.{Input}
use Rattle.events.specs.Events.{announced_each}
use Rattle.endpoint_rules.specs.Seen.{Seen}
use Rattle.endpoint_rules.specs.Did.{Did, tested, decided, done}
use Rattle.endpoint_rules.specs.Receiving.{input_message, receive, discarded, input_taken, input_unless, on_input}
use Rattle.endpoint_rules.specs.Call.{Call}
use Rattle.endpoint_rules.specs.Step.{ignored, heard, on_body, step, message_step, datagram_step}
use Rattle.endpoint_rules.proofs.Laws.{message-done}
use Rattle.endpoint_invariant.specs.Each.{Each}
use Rattle.endpoint_delivery.specs.Frames.{last_announced}
use Rattle.endpoint_delivery.specs.Runs.{End, next, announced_by, Run, Heard, Heeded, Brings, EachBrings}
use Rattle.endpoint_delivery.proofs.Lists.{Mem}
use Rattle.endpoint_delivery.proofs.Wires.{OnInput, each_mem}
use Rattle.endpoint_delivery.proofs.Tape.{Packet}
use Rattle.endpoint_delivery.proofs.Moves.{inputs_in, reaches, unready}
use Rattle.endpoint_delivery.proofs.Effects.{Does, taken_in, taking, hearing}
use Rattle.endpoint_delivery.proofs.Calls.{Way, Both, message-both, datagram-both}
use Rattle.endpoint_delivery.proofs.Silent.{quiet_call, Free, free, silent}
use Rattle.endpoint_delivery.proofs.InOrder.{side, side_next, Tied, turned, tied, ordered, none_yet}

any : {X : Type 0} (l : List X) → Each (λ x. (magic : ℕ) → Unit {0}) l
unfolding Each
any [] = tt
any (x ∷ l) = (λ magic. tt, any l)

-- ---- 01's rules, as the step tests them

heard_passes : (peer magic : ℕ) (s : Seen) → Heard peer magic s → ignored peer magic s ≡ false
unfolding ignored
heard_passes peer magic s h = rw (h.alive, eq-eqb _ _ h.known) (go h.passes)
  where
    go : (s.sync.remote_magic ≡ 0) ⊎ (magic ≡ s.sync.remote_magic) → not (eqb s.sync.remote_magic 0) && not (eqb magic s.sync.remote_magic) ≡ false
    go (inl e) = rw (eq-eqb _ _ e)
    go (inr e) = rw (eq-eqb _ _ e) (and-false (not (eqb s.sync.remote_magic 0)))

heeded_passes : (d : Bool) (count start : ℕ) (s : Seen) → Heeded d count start s → discarded d count start s ≡ false
unfolding discarded
heeded_passes d count start s h = rw (le-ltb start bias32 h.from) (go h.complete)
  where
    go : (d ≡ true) ⊎ (count ≡ s.setup.players) → not d && not (eqb count s.setup.players) || false ≡ false
    go (inl e) = rw e
    go (inr e) = rw (eq-eqb _ _ e, and-false (not d))

module _ (a b : End) (t : Tied a b) where
  abbrev s : Seen
  s = a.state

  abbrev way : Way (side b) (side a)
  way = t.both.comes

  -- an Input of the other end's is taken in
  module _ (c : Call) (k : Both (side (next c a)) (side b)) (now : ℕ) (d : Bool) (start ack : ℕ) (reports : List StatusReport) (payload : List ℕ)
      (does : step c s ≡ done (input_taken now (input_message d start ack reports payload) (heard now s))) where
    abbrev Effect : Did → Type 0
    Effect x =
        Does s (taken_in Free free s start payload ack) (announced_each s.setup.input_size s.setup.handles (receive s.setup start payload s.carried.receiver).new_frames)
        Free x.after x.out x.events

    effect : Effect (step c s)
    unfolding done
    effect =
        let h = taking Free free s start payload now ack d reports (any _) in
        let e : Effect (done (input_taken now (input_message d start ack reports payload) (heard now s))) = record { setup = h.setup; carried = h.carried; out = h.out; events = h.events } in
        rw does e

    taken_brings : Packet way.tape way.reached payload start → bias32 ≤ start → Brings start payload a c
    unfolding last_announced announced_each
    taken_brings p from =
        let o = ordered b (next c a) k.comes (rw effect.setup t.sound_a.setup) (rw effect.setup t.meet.back) in
        let none : announced_by a ≡ [] → newest_of s.carried.receiver.history ≡ null_frame = λ e. rw e at (ordered b a way t.sound_a.setup t.meet.back).newest in
        record {
          reaches = λ y. rw (← o.newest, effect.carried) (reaches s.setup t.sound_a.setup way t.sound_a.receiver start payload p (elim y [ inl e ↦ inl (none e) | inr x ↦ inr x ]));
          nothing = λ n.
              let news = unready s.setup start payload s.carried.receiver from (λ y. n (elim y [ inl e ↦ inl (none_yet b a way t.sound_a.setup e) | inr x ↦ inr x ])) in
              let none_new : inputs_in (step c s).events ≡ [] = effect.events ∙ rw news in
              quiet_call c a none_new;
        }

  module _ (count : ℕ) (w : Wire) (now epoch nonce : ℕ) (d : Bool) (start ack : ℕ) (e : w.body ≡ Input d start ack) (x : Heeded d count start s) where
    not_discarded : discarded d count start (heard now s).state ≡ false
    unfolding discarded
    not_discarded = rw (hearing Free free s now).setup (heeded_passes d count start s x)

    effect_is : (on_body w.body count w now epoch nonce (heard now s)).effect ≡ input_taken now (input_message d start ack w.reports w.payload) (heard now s)
    unfolding on_body on_input input_unless
    effect_is = rw (e, not_discarded)

    packet : Mem w b.queued → Packet way.tape way.reached w.payload start
    packet m = rw e at (each_mem (λ (x : Wire). OnInput (Packet way.tape way.reached x.payload) x.body) b.queued way.link.packets m)

    taken-done : (peer buffer : ℕ) → (message_step peer count w now epoch nonce buffer s).answer ≡ 0 → Heard peer w.magic s
        → message_step peer count w now epoch nonce buffer s ≡ done (input_taken now (input_message d start ack w.reports w.payload) (heard now s))
    taken-done peer buffer z i = message-done peer count w now epoch nonce buffer s (heard_passes peer w.magic s i) z ∙ ap done effect_is

  pub each_brings : EachBrings a b
  unfolding step datagram_step tested decided
  each_brings = record {
    message = λ peer count w now epoch nonce buffer m d start ack e z i x.
        let c = Call.message peer count w now epoch nonce buffer in
        let k = message-both (side a) (side b) t.both t.meet t.sound_a t.sound_b peer count w now epoch nonce buffer (λ _. m) in
        taken_brings c (rw (side_next c a) k.both) now d start ack w.reports w.payload (taken-done count w now epoch nonce d start ack e x peer buffer z i)
        (packet count w now epoch nonce d start ack e x m) x.from;
    bytes = λ peer bytes w rest now epoch nonce buffer g m d start ack e z i x.
        let c = Call.datagram peer bytes now epoch nonce buffer in
        let k = datagram-both (side a) (side b) t.both t.meet t.sound_a t.sound_b peer bytes now epoch nonce buffer (rw g (λ _. λ _. m)) in
        taken_brings c (rw (side_next c a) k.both) now d start ack w.reports w.payload
        (rw g (taken-done (length w.reports) w now epoch nonce d start ack e x peer buffer (rw g at z) i))
        (packet (length w.reports) w now epoch nonce d start ack e x m) x.from;
    silent = λ c n. silent c a n;
  }

-- demand 3, its second part, at both ends
pub brings : {a b : End} → Run a b → EachBrings a b × EachBrings b a
brings {a} {b} r = let t = tied r in (each_brings a b t, each_brings b a (turned t))
