-- The bytes that wait at an end are those of messages that it queued. So whatever an owner cuts out of what `messages` hands back may be handed to the other end.
use mathlib.Core.Bool.{Bool, true, false}
use mathlib.Core.List.{List, [], ◌++◌, append-nil, flatten, Memᴰ as Mem}
use mathlib.Core.Logic.{◌⊎◌, inl, inr}
use mathlib.Core.Path.{◌≡◌, refl, sym, ◌∙◌, ap}
use native.Mathlib.Omega.{arith}
use native.Mathlib.Nat.{add-zero}
use borrow.Author.Tests.{eqb-true, eqb-false, le-ltb}
use Prim.Native.Nat.{ℕ, ◌+◌, ◌-◌, ◌≤◌}
use lib.Dec.{eqb}
use lib.ListN.{length, take, length-append, length-take}
use Rattle.base.specs.Pick.{pick}
use Rattle.base.specs.Lay.{laid_at}
use Rattle.codec.specs.Message.{Wire, FitAll}
use Rattle.codec.specs.Bytes.{bytes, queue_of}
use Rattle.codec.specs.Calls.{cut}
use Rattle.codec.proofs.Queue.{cut_none}
use Rattle.outbox.specs.Outbox.{queue_size}
use Rattle.outbox.proofs.Laws.{queue_size_lem}
use Rattle.setup.specs.declared.Setup.{Setup}
use Rattle.endpoint_rules.specs.Seen.{Seen, is_shutdown, made, with_queued}
use Rattle.endpoint_rules.specs.Did.{Did, tested}
use Rattle.endpoint_rules.specs.Call.{Call}
use Rattle.endpoint_rules.specs.Step.{fresh, changed, step, take_step}
use Rattle.endpoint_rules.specs.Value.{filled_part, handed_back, value_of}
use Rattle.endpoint_rules.proofs.Tested.{tested-done}
use Rattle.endpoint_invariant.specs.Typed.{IsU64, TypedSetup}
use Rattle.endpoint_invariant.specs.Runs.{lent_to, gone}
use Rattle.endpoint_invariant.proofs.Queue.{Queues, Takes, step_queues}
use Rattle.endpoint_invariant.proofs.Sound.{step_fits}
use Rattle.endpoint_delivery.specs.Runs.{Allowed}
use Rattle.endpoint_delivery.proofs.Lists.{mem-left, not-nil}
use Rattle.endpoint.specs.declared.Endpoint.{Endpoint}
use Rattle.endpoint.specs.Endpoint.{seen}
use Rattle.endpoint.specs.Taken.{shorter}
use Rattle.endpoint_version.specs.Values.{IsSlice}
use Rattle.endpoint_version.specs.Version.{Version, Asked, IsAsked, call_of, number_from, endpoint_after, buffer_after, queued_by}
use Rattle.endpoint_version.specs.Meets.{Meets}
use Rattle.endpoint_version.proofs.Asked.{asked_typed}
use Rattle.endpoint_version.proofs.Reached.{after-seen}
use Rattle.endpoint_plays.specs.Sides.{Side, waiting_after, after, taking, starts}
use Rattle.endpoint_plays.specs.Plays.{Play}
use Rattle.endpoint_plays.specs.Buffers.{Holds, CutAllowed, Lends, lent_after}
use Rattle.endpoint_plays.proofs.Written.{none_of_none, queued_bytes, queued_messages}
use Rattle.endpoint_plays.proofs.Queued.{OfQueued, of_none, of_more, of_later, of_cut, laid_holds}
use Rattle.endpoint_plays.proofs.Runs.{Kept, both-kept}

-- what waits at a side: bytes of messages that it queued, as many as its endpoint counts
pub record Waits (x : Side) : Type 0 where
  pub of : OfQueued x.waiting x.queued
  pub many : length x.waiting ≡ x.endpoint.queued

held_long : (n : ℕ) (l : List ℕ) → length (take n l) ≡ n → n ≤ length l
held_long n l h = let k = length-take n l in omega arith

-- messages that are taken leave nothing queued
pub all_taken : (buffer : ℕ) (s : Seen) → (step (Call.take_messages buffer) s).answer ≡ 0 → (step (Call.take_messages buffer) s).after.queued ≡ 0
unfolding step take_step
all_taken buffer s z = rw (tested-done _ s (changed (with_queued 0 s)) (omega arith, tt) z)

-- a call that takes no messages
abbrev NoTake : Asked → Type 0
NoTake c = (n : ℕ) → call_of c ≡ Call.take_messages n → ◌≡◌ {A = ℕ} 0 1

module _ (v : Version) (m : Meets v) (x : Side) (k : Kept v m x) where
  abbrev e : Endpoint
  e = x.endpoint

  abbrev did : Asked → Did
  did c = step (call_of c) (seen e)

  fits : (c : Asked) → IsAsked c → FitAll (did c).out
  fits c i = step_fits (call_of c) (asked_typed c i) (seen e) k.good.sound

  -- it adds the bytes of its messages
  adds : (c : Asked) → IsAsked c → NoTake c → (endpoint_after v e c).queued ≡ e.queued + length (queued_by v e c)
  unfolding seen
  adds c i n = go (step_queues (call_of c) 0 (seen e))
    where
      go : Takes (call_of c) ⊎ (((b : List ℕ) → gone (call_of c) b (seen e) ≡ []) × Queues (lent_to (call_of c) 0) (seen e) (did c)) → (endpoint_after v e c).queued ≡ e.queued + length (queued_by v e c)
      go (inl t) = let z = n t.0 t.1 in absurd (omega arith)
      go (inr q) = ap (λ (s : Seen). s.queued) (after-seen v m e k.good.value c i) ∙ q.1.counted ∙ rw (queued_bytes v m e k.good c i, queue_size_lem (did c).out (fits c i))

  waits_more : (c : Asked) → IsAsked c → NoTake c → waiting_after v e c x.waiting ≡ x.waiting ++ queued_by v e c → Waits x → Waits (after v c x)
  waits_more c i n a w =
      record {
        of = rw (a, queued_messages v m e k.good c i, queued_bytes v m e k.good c i) (of_more x.waiting x.queued (did c).out (fits c i) w.of);
        many = rw a (length-append x.waiting (queued_by v e c) ∙ rw w.many (sym (adds c i n)));
      }

  -- a call that is lent no buffer, and takes none, leaves what waits
  none_more : (c : Asked) → buffer_after v e c ≡ [] → x.waiting ≡ x.waiting ++ queued_by v e c
  none_more c b = rw (b, none_of_none ((endpoint_after v e c).queued - e.queued) e.queued) (sym (append-nil x.waiting))

  -- messages that are taken, or refused
  waits_none : (c : Asked) (buffer : ℕ) → call_of c ≡ Call.take_messages buffer → number_from v e c ≡ (did c).answer → seen (endpoint_after v e c) ≡ (did c).after
      → (((did c).answer ≡ 0 → ⊥) → endpoint_after v e c ≡ e) → waiting_after v e c x.waiting ≡ pick (eqb (number_from v e c) 0) [] x.waiting → Waits x → Waits (after v c x)
  unfolding seen flatten
  waits_none c buffer b n s same a w = go (eqb (number_from v e c) 0) refl
    where
      go : (t : Bool) → eqb (number_from v e c) 0 ≡ t → Waits (after v c x)
      go true h =
          let none : waiting_after v e c x.waiting ≡ [] = a ∙ rw h in
          let z : (did c).answer ≡ 0 = sym n ∙ eqb-true (number_from v e c) 0 h in
          let q : (endpoint_after v e c).queued ≡ 0 = ap (λ (s : Seen). s.queued) s ∙ rw b (all_taken buffer (seen e) (rw b at z)) in
          record { of = rw none (of_none (after v c x).queued); many = rw (none, q) }
      go false h =
          let kept : waiting_after v e c x.waiting ≡ x.waiting = a ∙ rw h in
          let q : endpoint_after v e c ≡ e = same (λ z. eqb-false (number_from v e c) 0 h (n ∙ z)) in
          record { of = rw kept (of_later x.waiting x.queued _ w.of); many = ap length kept ∙ w.many ∙ ap (λ (y : Endpoint). y.queued) (sym q) }

  pub after_waits : (c : Asked) → IsAsked c → Waits x → Waits (after v c x)
  after_waits (Asked.synchronize now epoch nonce out) i w = waits_more (Asked.synchronize now epoch nonce out) i (λ n h. cc) refl w
  after_waits (Asked.message from y payload now epoch nonce out) i w = waits_more (Asked.message from y payload now epoch nonce out) i (λ n h. cc) refl w
  after_waits (Asked.datagram from d now epoch nonce out) i w = waits_more (Asked.datagram from d now epoch nonce out) i (λ n h. cc) refl w
  after_waits (Asked.act statuses now epoch nonce out) i w = waits_more (Asked.act statuses now epoch nonce out) i (λ n h. cc) refl w
  after_waits (Asked.send_input frame bytes statuses now out) i w = waits_more (Asked.send_input frame bytes statuses now out) i (λ n h. cc) refl w
  after_waits (Asked.disconnect now) i w = waits_more (Asked.disconnect now) i (λ n h. cc) (none_more (Asked.disconnect now) refl) w
  after_waits (Asked.send_checksum_report frame checksum now out) i w = waits_more (Asked.send_checksum_report frame checksum now out) i (λ n h. cc) refl w
  after_waits (Asked.update_local_frame_advantage local) i w = waits_more (Asked.update_local_frame_advantage local) i (λ n h. cc) (none_more (Asked.update_local_frame_advantage local) refl) w
  after_waits (Asked.take_messages out) i w =
      let d = m.take_messages e out k.good.value i in
      waits_none (Asked.take_messages out) (length out) refl d.answer d.after d.same refl w
  after_waits (Asked.network_stats epoch) i w = waits_more (Asked.network_stats epoch) i (λ n h. cc) (none_more (Asked.network_stats epoch) refl) w
  after_waits (Asked.peer_connect_status handle) i w = waits_more (Asked.peer_connect_status handle) i (λ n h. cc) (none_more (Asked.peer_connect_status handle) refl) w
  after_waits (Asked.take_messages_into out into) i w =
      let d = (m.take_messages_into e out into k.good.value i).taken in
      waits_none (Asked.take_messages_into out into) (shorter out into) refl d.answer d.after d.same refl w

  pub taking_waits : Waits x → Waits (taking v x)
  unfolding seen step
  taking_waits w = record { of = w.of; many = w.many ∙ sym (ap (λ (s : Seen). s.queued) (m.take_events e k.good.value).after) }

module _ (v : Version) (m : Meets v) where
  pub starts_waits : (g : Setup) (now : ℕ) → TypedSetup g → IsU64 now → Waits (starts v g now)
  unfolding seen fresh made flatten
  starts_waits g now t i = record { of = of_none []; many = sym (ap (λ (s : Seen). s.queued) (m.new g now t i).made) }

  -- ---- what is handed back, cut into datagrams

  none_cut : (d : List ℕ) → Mem d (cut []) → ⊥
  none_cut d h = not-nil (rw cut_none at h)

  -- of a buffer that still has what waits, `messages` hands back all that waits, or nothing
  pub handed_waits : (x : Side) → Kept v m x → (out : List ℕ) → IsSlice out → Holds out x → (d : List ℕ) → Mem d (cut (v.messages x.endpoint out)) → Mem d (cut x.waiting)
  unfolding seen handed_back filled_part
  handed_waits x k out i h d q = go (eqb (step (Call.take_messages (length out)) (seen x.endpoint)).answer 0) (is_shutdown x.endpoint.sync.phase) (rw (m.messages x.endpoint out k.good.value i) at q)
    where
      go : (t u : Bool) → Mem d (cut (take (pick t (pick u 0 x.endpoint.queued) 0) out)) → Mem d (cut x.waiting)
      go true true q = absurd (none_cut d q)
      go true false q = rw h at q
      go false u q = absurd (none_cut d q)

  -- outside Shutdown it is all
  pub messages_all : (x : Side) → Kept v m x → Waits x → (out : List ℕ) → IsSlice out → Holds out x → is_shutdown (v.state x.endpoint) ≡ false → v.messages x.endpoint out ≡ x.waiting
  unfolding seen handed_back filled_part value_of step take_step tested
  messages_all x k w out i h s =
      let phase : v.state x.endpoint ≡ x.endpoint.sync.phase = let q = m.state x.endpoint k.good.value in cc in
      let alive : is_shutdown x.endpoint.sync.phase ≡ false = rw phase at s in
      let long : x.endpoint.queued ≤ length out = held_long x.endpoint.queued out (ap length h ∙ w.many) in
      m.messages x.endpoint out k.good.value i ∙ rw (alive, le-ltb (length out) x.endpoint.queued long) h

  -- ---- one buffer, lent to every call

  lent_holds : (x : Side) → Kept v m x → (c : Asked) → IsAsked c → NoTake c → (out : List ℕ) → lent_to (call_of c) 0 ≡ length out → buffer_after v x.endpoint c ≡ laid_at out x.endpoint.queued (queue_of (step (call_of c) (seen x.endpoint)).out)
      → waiting_after v x.endpoint c x.waiting ≡ x.waiting ++ queued_by v x.endpoint c → Holds out x → Holds (buffer_after v x.endpoint c) (after v c x)
  unfolding seen
  lent_holds x k c i n out l b a h = go (step_queues (call_of c) 0 (seen x.endpoint))
    where
      e : Endpoint
      e = x.endpoint

      ws : List Wire
      ws = (step (call_of c) (seen e)).out

      more : (endpoint_after v e c).queued ≡ e.queued + length (queue_of ws)
      more = adds v m x k c i n ∙ rw (queued_bytes v m e k.good c i)

      size : length (queue_of ws) ≡ queue_size ws
      size = queue_size_lem ws (fits v m x k c i)

      go : Takes (call_of c) ⊎ (((b : List ℕ) → gone (call_of c) b (seen e) ≡ []) × Queues (lent_to (call_of c) 0) (seen e) (step (call_of c) (seen e))) → Holds (buffer_after v e c) (after v c x)
      go (inl t) = let z = n t.0 t.1 in absurd (omega arith)
      go (inr q) = rw (b, more, a, queued_bytes v m e k.good c i) (laid_holds e.queued out x.waiting (queue_of ws) (rw (← size, l) at q.1.room) h)

  -- a call that is lent no buffer to queue in, and takes no messages
  none_holds : (x : Side) → Kept v m x → (c : Asked) → IsAsked c → NoTake c → buffer_after v x.endpoint c ≡ [] → waiting_after v x.endpoint c x.waiting ≡ x.waiting
      → (buffer : List ℕ) → Holds buffer x → Holds buffer (after v c x)
  none_holds x k c i n b a buffer h =
      let same : (endpoint_after v x.endpoint c).queued ≡ x.endpoint.queued =
      adds v m x k c i n ∙ rw (b, none_of_none ((endpoint_after v x.endpoint c).queued - x.endpoint.queued) x.endpoint.queued) (add-zero x.endpoint.queued) in
      rw (same, a) h

  -- one that takes them
  take_holds : (x : Side) (c : Asked) (buffer : ℕ) → call_of c ≡ Call.take_messages buffer → number_from v x.endpoint c ≡ (step (call_of c) (seen x.endpoint)).answer
      → seen (endpoint_after v x.endpoint c) ≡ (step (call_of c) (seen x.endpoint)).after → (((step (call_of c) (seen x.endpoint)).answer ≡ 0 → ⊥) → endpoint_after v x.endpoint c ≡ x.endpoint)
      → waiting_after v x.endpoint c x.waiting ≡ pick (eqb (number_from v x.endpoint c) 0) [] x.waiting → (kept : List ℕ) → Holds kept x → Holds kept (after v c x)
  unfolding seen
  take_holds x c buffer b n s same a kept h = go (eqb (number_from v x.endpoint c) 0) refl
    where
      go : (t : Bool) → eqb (number_from v x.endpoint c) 0 ≡ t → Holds kept (after v c x)
      go true e =
          let z : (step (call_of c) (seen x.endpoint)).answer ≡ 0 = sym n ∙ eqb-true (number_from v x.endpoint c) 0 e in
          let q : (endpoint_after v x.endpoint c).queued ≡ 0 = ap (λ (s : Seen). s.queued) s ∙ rw b (all_taken buffer (seen x.endpoint) (rw b at z)) in
          rw (q, a, e)
      go false e = rw (same (λ z. eqb-false (number_from v x.endpoint c) 0 e (n ∙ z)), a, e) h

  -- a buffer that is lent to every call has what waits at its front, after each of them
  pub holds_after : (x : Side) → Kept v m x → (c : Asked) → IsAsked c → (buffer : List ℕ) → Lends buffer c → Holds buffer x → Holds (lent_after v x.endpoint c buffer) (after v c x)
  holds_after x k (Asked.synchronize now epoch nonce out) i buffer l h =
      let d = m.synchronize x.endpoint now epoch nonce out k.good.value i in
      lent_holds x k (Asked.synchronize now epoch nonce out) i (λ n h. cc) out refl d.lent refl (rw (← l) at h)
  holds_after x k (Asked.message from y payload now epoch nonce out) i buffer l h =
      let d = m.message x.endpoint from y payload now epoch nonce out k.good.value i in
      lent_holds x k (Asked.message from y payload now epoch nonce out) i (λ n h. cc) out refl d.lent refl (rw (← l) at h)
  holds_after x k (Asked.datagram from b now epoch nonce out) i buffer l h =
      let d = m.datagram x.endpoint from b now epoch nonce out k.good.value i in
      lent_holds x k (Asked.datagram from b now epoch nonce out) i (λ n h. cc) out refl d.lent refl (rw (← l) at h)
  holds_after x k (Asked.act statuses now epoch nonce out) i buffer l h =
      let d = m.act x.endpoint statuses now epoch nonce out k.good.value i in
      lent_holds x k (Asked.act statuses now epoch nonce out) i (λ n h. cc) out refl d.lent refl (rw (← l) at h)
  holds_after x k (Asked.send_input frame bytes statuses now out) i buffer l h =
      let d = m.send_input x.endpoint frame bytes statuses now out k.good.value i in
      lent_holds x k (Asked.send_input frame bytes statuses now out) i (λ n h. cc) out refl d.lent refl (rw (← l) at h)
  holds_after x k (Asked.disconnect now) i buffer l h = none_holds x k (Asked.disconnect now) i (λ n h. cc) refl refl buffer h
  holds_after x k (Asked.send_checksum_report frame checksum now out) i buffer l h =
      let d = m.send_checksum_report x.endpoint frame checksum now out k.good.value i in
      lent_holds x k (Asked.send_checksum_report frame checksum now out) i (λ n h. cc) out refl d.lent refl (rw (← l) at h)
  holds_after x k (Asked.update_local_frame_advantage local) i buffer l h = none_holds x k (Asked.update_local_frame_advantage local) i (λ n h. cc) refl refl buffer h
  holds_after x k (Asked.take_messages out) i buffer l h =
      let d = m.take_messages x.endpoint out k.good.value i in
      take_holds x (Asked.take_messages out) (length out) refl d.answer d.after d.same refl buffer h
  holds_after x k (Asked.network_stats epoch) i buffer l h = none_holds x k (Asked.network_stats epoch) i (λ n h. cc) refl refl buffer h
  holds_after x k (Asked.peer_connect_status handle) i buffer l h = none_holds x k (Asked.peer_connect_status handle) i (λ n h. cc) refl refl buffer h
  holds_after x k (Asked.take_messages_into out into) i buffer l h =
      let d = (m.take_messages_into x.endpoint out into k.good.value i).taken in
      take_holds x (Asked.take_messages_into out into) (shorter out into) refl d.answer d.after d.same refl buffer h

  pub holds_taking : (x : Side) → Kept v m x → (buffer : List ℕ) → Holds buffer x → Holds buffer (taking v x)
  unfolding seen step
  holds_taking x k buffer h = rw (ap (λ (s : Seen). s.queued) (m.take_events x.endpoint k.good.value).after) h

  pub holds_starts : (g : Setup) (now : ℕ) → TypedSetup g → IsU64 now → (buffer : List ℕ) → Holds buffer (starts v g now)
  unfolding seen fresh made
  holds_starts g now t i buffer = rw (ap (λ (s : Seen). s.queued) (m.new g now t i).made)

module _ (v u : Version) (l : Meets v) (m : Meets u) where
  pub both_wait : {a b : Side} → Play v u a b → Waits a × Waits b
  both_wait (Play.begin g h now then tg th ig ih ng nh f) = (starts_waits v l g now tg ig, starts_waits u m h then th ih)
  both_wait (Play.at_a {a} {b} p c i q) = let w = both_wait p in (after_waits v l a (both-kept v u l m p).0 c i w.0, w.1)
  both_wait (Play.at_b {a} {b} p c i q) = let w = both_wait p in (w.0, after_waits u m b (both-kept v u l m p).1 c i w.1)
  both_wait (Play.takes_a {a} {b} p) = let w = both_wait p in (taking_waits v l a (both-kept v u l m p).0 w.0, w.1)
  both_wait (Play.takes_b {a} {b} p) = let w = both_wait p in (w.0, taking_waits u m b (both-kept v u l m p).1 w.1)

  -- a datagram that is cut out of what `messages` handed back may be handed to the other end, in both directions
  pub cut_allowed : {a b : Side} → Play v u a b → CutAllowed v a × CutAllowed u b
  cut_allowed {a} {b} p =
      let k = both-kept v u l m p in
      let w = both_wait p in (
        λ out i h d q peer now epoch nonce lent _ _. of_cut a.waiting a.queued w.0.of d (handed_waits v l a k.0 out i h d q),
        λ out i h d q peer now epoch nonce lent _ _. of_cut b.waiting b.queued w.1.of d (handed_waits u m b k.1 out i h d q),
      )

-- and may be later, whatever was called in between
pub allowed_later : (v : Version) (x : Side) (c : Asked) (call : Call) → Allowed call x.queued → Allowed call (after v c x).queued
allowed_later v x c (Call.synchronize now epoch nonce buffer) h = h
allowed_later v x c (Call.message from count w now epoch nonce buffer) h = λ t. mem-left {s = x.queued} _ (h t)
allowed_later v x c (Call.datagram from bytes now epoch nonce buffer) h = λ z t. mem-left {s = x.queued} _ (h z t)
allowed_later v x c (Call.act count statuses now epoch nonce buffer) h = h
allowed_later v x c (Call.send_input frame bytes count statuses now buffer) h = h
allowed_later v x c (Call.disconnect now) h = h
allowed_later v x c (Call.send_checksum_report frame checksum now buffer) h = h
allowed_later v x c (Call.update_local_frame_advantage local_frame) h = h
allowed_later v x c (Call.network_stats epoch) h = h
allowed_later v x c (Call.peer_connect_status handle) h = h
allowed_later v x c Call.take_events h = h
allowed_later v x c (Call.take_messages buffer) h = h
allowed_later v x c (Call.ask question) h = h
