-- What the calls of a host that a session makes announce: Inputs that rise from the newest frame received before the call to the newest after it.
use borrow.Author.Tests.{eqb-true}
use mathlib.Core.Bool.{Bool, true, false}
use mathlib.Core.List.{List, [], ◌∷◌}
use mathlib.Core.Logic.{inl, inr}
use mathlib.Core.Path.{◌≡◌, refl}
use Prim.Native.Nat.{ℕ, suc, ◌-◌, ◌^◌, ◌≤◌, max}
use native.Mathlib.Omega.{arith}
use lib.Dec.{eqb}
use lib.ListN.{length, take}
use Rattle.base.specs.Pick.{pick}
use Rattle.base.specs.Keyed.{kept}
use Rattle.frame.specs.Bias.{null_frame}
use Rattle.packing.specs.Packing.{unpack, decodable}
use Rattle.packing.specs.declared.input_bytes.InputBytes.{InputBytes}
use Rattle.history.specs.History.{newest_of, Found, found_in, reference_frame, packet_of, newest_after}
use Rattle.history.proofs.Laws.{found_frame}
use Rattle.history.proofs.TakenIn.{newest-taken}
use Rattle.status.specs.declared.ConnectionStatus.{ConnectionStatus}
use Rattle.codec.specs.Message.{Wire}
use Rattle.codec.specs.Read.{datagram, wire_in}
use Rattle.codec.specs.declared.StatusReport.{StatusReport}
use Rattle.codec.specs.declared.MessageBody.{MessageBody}
use Rattle.codec.specs.declared.MessageBody.TheVariants.{SyncRequest, SyncReply, Input, InputAck, QualityReport, QualityReply, ChecksumReport, KeepAlive}
use Rattle.events.specs.declared.Entry.{Entry}
use Rattle.setup.specs.Setup.{Terms, SoundSetup, receiving_width}
use Rattle.events.specs.Events.{announced_each}
use Rattle.endpoint_rules.specs.Seen.{Seen, Receiver}
use Rattle.endpoint_rules.specs.Did.{Did, Effect, refused, begin, done}
use Rattle.endpoint_rules.specs.Handshake.{synchronized}
use Rattle.endpoint_rules.specs.Act.{acted}
use Rattle.endpoint_rules.specs.Receiving.{input_message, reference, taken, received_if, receive, discarded, input_taken, input_unless, on_input, on_input_ack}
use Rattle.endpoint_rules.specs.Step.{changed, heard, on_body, synchronize_step, message_step, datagram_step, act_step, stats_step, take_step, reacted}
use Rattle.endpoint_rules.proofs.Tested.{tested-both, decided-both}
use Rattle.endpoint_invariant.specs.Each.{Each}
use Rattle.endpoint_invariant.specs.Sound.{Sound, SoundReceiver}
use Rattle.endpoint_invariant.proofs.Receivers.{never_full}
use Rattle.endpoint_delivery.proofs.Lists.{found_mem, newest_mem}
use Rattle.endpoint_delivery.proofs.Moves.{inputs_in}
use Rattle.endpoint_delivery.proofs.Effects.{Does, hearing, starting, acts, others, acked, taking}
use Rattle.spectator_invariant.specs.Seated.{Next, Rising}
use Rattle.spectator_invariant.proofs.Rising.{Upto, rising_inputs, news_rise}

-- ---- a packet

-- a frame that is found is not above the newest
found_newest : (f : ℕ) (l : List InputBytes) → (found_in f l).held ≡ true → f ≤ newest_of l
found_newest f l e = omega (arith, newest_mem l (found_mem f l e), found_frame f l e)

-- so a packet whose reference is held goes on from the newest without a gap, or is the first
gapless : (start : ℕ) (r : Receiver) → (reference start r).held ≡ true → Next (newest_of r.history) 0 (max (suc (newest_of r.history)) start)
unfolding reference_frame
gapless start r e = go (eqb n null_frame) refl (found_newest (reference_frame start r.history) r.history e)
  where
    n : ℕ
    n = newest_of r.history

    go : (t : Bool) → eqb n null_frame ≡ t → pick t null_frame (start - 1) ≤ n → Next n 0 (max (suc n) start)
    go true q k = (omega arith, inl (omega (arith, eqb-true n null_frame q)))
    go false q k = (omega arith, inr (omega arith))

module _ (t : Terms) (sound : SoundSetup t) (some : 1 ≤ t.players) (few : Upto t.players 0 t.handles) (start : ℕ) (payload : List ℕ) (r : Receiver)
    (h : SoundReceiver (receiving_width t) t.max_prediction r) where
  abbrev Rises : List InputBytes → Receiver → Type 0
  Rises news x = Rising t.players (newest_of r.history) 0 (newest_of x.history) (announced_each t.input_size t.handles news)

  got_rises : (bytes : List ℕ) (is_held is_decodable : Bool) → (is_held ≡ true → Next (newest_of r.history) 0 (max (suc (newest_of r.history)) start)) → Rises (received_if is_held is_decodable t.max_prediction (packet_of start (receiving_width t) bytes payload) r).new_frames
      (received_if is_held is_decodable t.max_prediction (packet_of start (receiving_width t) bytes payload) r).receiver
  unfolding received_if taken announced_each Rising packet_of
  got_rises bytes false d g = (refl, refl)
  got_rises bytes true false g = (refl, refl)
  got_rises bytes true true g =
      let fs : List (List ℕ) = take (2 ^ 32 - start) (unpack (receiving_width t) bytes payload) in
      let n : ℕ = newest_of r.history in
      rw (never_full (receiving_width t) t.max_prediction r.history sound.max_prediction h start (receiving_width t) bytes payload, newest-taken t.max_prediction r.history start fs)
      (news_rise t.players n n (newest_after n start (length fs)) t.input_size t.handles some few start fs (omega arith) (g refl) refl)

  pub received_rises : Rises (receive t start payload r).new_frames (receive t start payload r).receiver
  unfolding receive
  received_rises =
      let found : Found = reference start r in
      got_rises found.input.bytes found.held (decodable (receiving_width t) payload) (gapless start r)

-- ---- a call

pub record Announces (s : Seen) (d : Did) : Type 0 where
  pub setup : d.after.setup ≡ s.setup
  pub rises : Rising s.setup.players (newest_of s.carried.receiver.history) 0 (newest_of d.after.carried.receiver.history) d.events

any : {X : Type 0} (l : List X) → Each (λ x. (magic : ℕ) → Unit {0}) l
unfolding Each
any [] = tt
any (x ∷ l) = (λ magic. tt, any l)

module _ (s : Seen) (h : Sound s) (few : Upto s.setup.players 0 s.setup.handles) where
  -- Inputs that rise, beside other events
  announces-of : (d : Did) (news : List Entry) → d.after.setup ≡ s.setup → inputs_in d.events ≡ news
      → Rising s.setup.players (newest_of s.carried.receiver.history) 0 (newest_of d.after.carried.receiver.history) news → Announces s d
  announces-of d news p q k = record { setup = p; rises = rising_inputs s.setup.players _ 0 _ d.events (rw q k) }

  -- none
  none_new : (d : Did) → d.after.setup ≡ s.setup → d.after.carried.receiver ≡ s.carried.receiver → inputs_in d.events ≡ [] → Announces s d
  unfolding Rising
  none_new d p q k = announces-of d [] p k (rw q (refl, refl))

  refuses : (k : ℕ) → Announces s (refused k s)
  unfolding refused kept
  refuses k = none_new (refused k s) refl refl refl

  changes : (t : Seen) → t.setup ≡ s.setup → t.carried.receiver ≡ s.carried.receiver → Announces s (changed t)
  unfolding kept
  changes t p q = none_new (changed t) p q refl

  abbrev Any : Wire → Type 0
  Any w = Unit {0}

  quiet : (e : Effect) → Does s s.carried [] Any e.state e.out e.events → Announces s (done e)
  unfolding done
  quiet e d = none_new (done e) d.setup (rw d.carried) d.events

  pub synchronize_announces : (now epoch nonce buffer : ℕ) → Announces s (synchronize_step now epoch nonce buffer s)
  unfolding synchronize_step
  synchronize_announces now epoch nonce buffer =
      tested-both _ s _ (Announces s) refuses (λ _. quiet (synchronized now epoch nonce (begin s)) (starting Any (λ m b q. tt) s now epoch nonce))

  pub act_announces : (count : ℕ) (statuses : List ConnectionStatus) (now epoch nonce buffer : ℕ) → Announces s (act_step count statuses now epoch nonce buffer s)
  unfolding act_step
  act_announces count statuses now epoch nonce buffer =
      tested-both _ s _ (Announces s) refuses (λ _. quiet (acted s.phase now epoch nonce statuses (begin s)) (acts Any (λ m b q. tt) s statuses (λ x xs q. tt) s.phase now epoch nonce))

  pub stats_announces : (epoch : ℕ) → Announces s (stats_step epoch s)
  unfolding stats_step
  stats_announces epoch = tested-both _ s _ (Announces s) refuses (λ _. changes s refl refl)

  pub take-announces : (buffer : ℕ) → Announces s (take_step buffer s)
  unfolding take_step
  take-announces buffer = tested-both _ s _ (Announces s) refuses (λ _. changes _ refl refl)

  -- ---- messages

  input-announces : (now : ℕ) (d : Bool) (start ack : ℕ) (reports : List StatusReport) (payload : List ℕ) → Announces s (done (input_taken now (input_message d start ack reports payload) (heard now s)))
  unfolding done
  input-announces now d start ack reports payload =
      let k = taking Any (λ m b q. tt) s start payload now ack d reports (any _) in
      announces-of (done (input_taken now (input_message d start ack reports payload) (heard now s))) _ k.setup k.events
      (rw k.carried (received_rises s.setup h.setup h.setup.players.0 few start payload s.carried.receiver h.receiver))

  body_announces : (m : MessageBody) (count : ℕ) (w : Wire) (now epoch nonce : ℕ) → Announces s (done (on_body m count w now epoch nonce (heard now s)).effect)
  unfolding on_body on_input input_unless done
  body_announces (Input d start ack) count w now epoch nonce = go (discarded d count start (heard now s).state)
    where
      go : (x : Bool) → Announces s (done (input_unless x now (input_message d start ack w.reports w.payload) (heard now s)).effect)
      go true = quiet (heard now s) (hearing Any (λ m b q. tt) s now)
      go false = input-announces now d start ack w.reports w.payload
  body_announces (InputAck ack) count w now epoch nonce =
      let k = acked Any (λ m b q. tt) s ack now in
      none_new (done (on_input_ack ack (heard now s)).effect) k.setup (rw k.carried) k.events
  body_announces (SyncRequest n) count w now epoch nonce = quiet (on_body (SyncRequest n) count w now epoch nonce (heard now s)).effect (others Any (λ m b q. tt) s (SyncRequest n) refl count w now epoch nonce)
  body_announces (SyncReply n) count w now epoch nonce = quiet (on_body (SyncReply n) count w now epoch nonce (heard now s)).effect (others Any (λ m b q. tt) s (SyncReply n) refl count w now epoch nonce)
  body_announces (QualityReport advantage ping) count w now epoch nonce =
      quiet (on_body (QualityReport advantage ping) count w now epoch nonce (heard now s)).effect (others Any (λ m b q. tt) s (QualityReport advantage ping) refl count w now epoch nonce)
  body_announces (QualityReply pong) count w now epoch nonce = quiet (on_body (QualityReply pong) count w now epoch nonce (heard now s)).effect (others Any (λ m b q. tt) s (QualityReply pong) refl count w now epoch nonce)
  body_announces (ChecksumReport checksum frame) count w now epoch nonce =
      quiet (on_body (ChecksumReport checksum frame) count w now epoch nonce (heard now s)).effect (others Any (λ m b q. tt) s (ChecksumReport checksum frame) refl count w now epoch nonce)
  body_announces KeepAlive count w now epoch nonce = quiet (on_body KeepAlive count w now epoch nonce (heard now s)).effect (others Any (λ m b q. tt) s KeepAlive refl count w now epoch nonce)

  pub message-announces : (from count : ℕ) (w : Wire) (now epoch nonce buffer : ℕ) → Announces s (message_step from count w now epoch nonce buffer s)
  unfolding message_step reacted
  message-announces from count w now epoch nonce buffer =
      tested-both _ s _ (Announces s) refuses (λ _. tested-both _ s _ (Announces s) refuses (λ _. body_announces w.body count w now epoch nonce))

  pub datagram-announces : (from : ℕ) (bytes : List ℕ) (now epoch nonce buffer : ℕ) → Announces s (datagram_step from bytes now epoch nonce buffer s)
  unfolding datagram_step
  datagram-announces from bytes now epoch nonce buffer =
      decided-both _ s _ (Announces s) refuses (λ _. message-announces from (length (wire_in (datagram bytes)).reports) (wire_in (datagram bytes)) now epoch nonce buffer)
