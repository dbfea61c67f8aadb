-- Worked: an end that asks for a minute while nobody answers. It begins at 0 with nonce 1, and acts every 201 ms with the nonces 2, 3, ..
use borrow.Author.Tests.{ne_eqb}
use mathlib.Core.Bool.{false}
use mathlib.Core.List.{List, [], ◌∷◌, ◌++◌, map}
use mathlib.Core.Logic.{⊎_elim}
use mathlib.Core.Path.{◌≡◌, refl, ◌∙◌, ap}
use native.Mathlib.Omega.{arith}
use Prim.Native.Nat.{ℕ, zero, suc, ◌+◌, ◌-◌, ◌*◌, ◌^◌, ◌<◌, ◌≤◌, min}
use lib.ListN.{length}
use Rattle.base.specs.Keyed.{kept, has, without}
use Rattle.base.specs.Last.{last_of}
use Rattle.base.proofs.Digits.{below_or_not}
use Rattle.base.proofs.Removal.{without_none}
use Rattle.nonces.specs.Nonces.{is_outstanding, spent, issued, following}
use Rattle.nonces.proofs.Laws.{issued_all, issued_forgets}
use Rattle.status.specs.Status.{default_status}
use Rattle.codec.specs.declared.MessageBody.TheVariants.{SyncRequest, SyncReply}
use Rattle.events.specs.declared.Entry.{Entry}
use Rattle.events.specs.declared.Event.{Event}
use Rattle.events.specs.Events.{has_room}
use Rattle.setup.specs.Setup.{terms_with}
use Rattle.outbox.specs.Outbox.{queue_size}
use Rattle.quality.specs.Quality.{started_at}
use Rattle.endpoint_rules.specs.declared.Phase.TheVariants.{Synchronizing}
use Rattle.endpoint_rules.specs.Seen.{Seen, made, with_phase, with_sync, with_clocks, with_quality, with_queued, heard_at}
use Rattle.endpoint_rules.specs.Did.{Did, refused, tested, queue_wire, done}
use Rattle.endpoint_rules.specs.Room.{buffer_full, is_full}
use Rattle.endpoint_rules.specs.Handshake.{nonce_issued, request, started, synchronized, counted, running, replied, on_sync_reply}
use Rattle.endpoint_rules.specs.Act.{acted}
use Rattle.endpoint_rules.specs.Call.{Call}
use Rattle.endpoint_rules.specs.Step.{changed, fresh, synchronize_step, ignored, resumed, heard, on_body, reacted, message_step, act_step, step}
use Rattle.endpoint_rules.proofs.Bouts.{setup_with, wire, epoch_at, after, bodies}
use Rattle.endpoint_rules.proofs.Requests.{act_requests}

-- ---- nonces that follow each other, and the next one

following_new : (first n nonce : ℕ) → first + n ≤ nonce → is_outstanding nonce (following first n) ≡ false
unfolding has
following_new first zero nonce h = refl
following_new first (suc n) nonce h = rw (ne_eqb nonce first (λ e. omega arith)) (following_new (suc first) n nonce (omega arith))

following-spent : (first n nonce : ℕ) → first + n ≤ nonce → spent nonce (following first n) ≡ following first n
following-spent first n nonce h = without_none (λ x. x) nonce (following first n) (following_new first n nonce h)

following-length : (first n : ℕ) → length (following first n) ≡ n
following-length first zero = refl
following-length first (suc n) = ap suc (following-length (suc first) n)

following_end : (first n nonce : ℕ) → nonce ≡ first + n → following first n ++ nonce ∷ [] ≡ following first (suc n)
following_end first zero nonce h = let e : nonce ≡ first = omega arith in rw e
following_end first (suc n) nonce h = ap (λ (l : List ℕ). first ∷ l) (following_end (suc first) n nonce (omega arith))

-- up to 256 none is forgotten, and then the first
next-issued : (first n nonce : ℕ) → nonce ≡ first + n → n ≤ 256 → issued nonce (following first n) ≡ following (first + (suc n - 256)) (min (suc n) 256)
next-issued first n nonce h few = ⊎_elim kept_all forgets_first (below_or_not n 256)
  where
    same : spent nonce (following first n) ≡ following first n
    same = following-spent first n nonce (omega arith)

    kept_all : n < 256 → issued nonce (following first n) ≡ following (first + (suc n - 256)) (min (suc n) 256)
    kept_all k =
        let a : first + (suc n - 256) ≡ first = omega arith in
        let b : min (suc n) 256 ≡ suc n = omega arith in
        rw (a, b) (issued_all nonce (following first n) (rw same (omega (arith, following-length first n))) ∙ rw same (following_end first n nonce h))

    forgets_first : 256 ≤ n → issued nonce (following first n) ≡ following (first + (suc n - 256)) (min (suc n) 256)
    forgets_first k =
        let full : n ≡ 256 = omega arith in
        let a : first + (suc n - 256) ≡ suc first = omega arith in
        let b : min (suc n) 256 ≡ 256 = omega arith in
        rw (a, b, full)
        (issued_forgets nonce (following first 256) first (following (suc first) 255) (rw full at same) (following-length (suc first) 255) ∙ following_end (suc first) 255 nonce (omega arith))

-- made at clock 0
abbrev early : Seen
early = (fresh (setup_with 1) 0).1

abbrev acting : (now nonce buffer : ℕ) → Call
acting now nonce buffer = Call.act 2 (default_status ∷ default_status ∷ []) now (epoch_at now) nonce buffer

-- n acts, 201 ms apart, each with the nonce that follows
abbrev asking : (now nonce n : ℕ) → List Call
asking now nonce zero = []
asking now nonce (suc n) = acting now nonce 65536 ∷ asking (now + 201) (suc nonce) n

-- the end with n nonces outstanding that follow each other, its last request at a time, and so many bytes queued
abbrev asked : (first n last queued : ℕ) → Seen
asked first n last queued =
    with_phase Synchronizing
    (with_sync (record { remaining = 5; nonces = following first n; remote_magic = 0 })
    (with_quality (started_at 70000 early.quality)
    (with_queued queued
    (with_clocks (record {
      running_last_quality_report = 0;
      running_last_input_recv = 0;
      last_send_time = last;
      last_sync_request_time = last;
      last_recv_time = 0;
      shutdown_timeout = 0;
    }) early))))

-- ---- an act, 201 ms later, with the nonce that follows
module _ (first n last queued : ℕ) (soon : last < 2 ^ 32) (room : queued + 10 ≤ 65536) where
  -- the request goes out, whatever it forgets
  asks : (l : List ℕ) → issued (first + n) (following first n) ≡ l
      → (step (acting (last + 201) (first + n) 65536) (asked first n last queued)).after ≡ with_sync (record { remaining = 5; nonces = l; remote_magic = 0 }) (asked first n (last + 201) (queued + 10))
  unfolding step done request nonce_issued queue_wire queue_size fresh made terms_with
  asks l e =
      rw (act_requests 2 (default_status ∷ default_status ∷ []) (last + 201) (epoch_at (last + 201)) (first + n) 65536 (asked first n last queued) (omega arith) (omega arith) refl refl (omega arith) (omega arith) (omega arith), e)

-- ---- m acts: the nonces go on to follow each other, the last 256 of them at the most
many_acts : (m first n last queued : ℕ) → n ≤ 256 → last + 201 * m < 2 ^ 32 → queued + 10 * m ≤ 65536
    → after (asking (last + 201) (first + n) m) (asked first n last queued) ≡ asked (first + (n + m - 256)) (min (n + m) 256) (last + 201 * m) (queued + 10 * m)
many_acts zero first n last queued few soon room =
    let a : first + (n + 0 - 256) ≡ first = omega arith in
    let b : min (n + 0) 256 ≡ n = omega arith in
    let c : last + 201 * 0 ≡ last = omega arith in
    let d : queued + 10 * 0 ≡ queued = omega arith in
    rw (a, b, c, d)
many_acts (suc m) first n last queued few soon room =
    let f = first + (suc n - 256) in
    let k = min (suc n) 256 in
    let a : first + (n + suc m - 256) ≡ f + (k + m - 256) = omega arith in
    let b : min (n + suc m) 256 ≡ min (k + m) 256 = omega arith in
    let c : last + 201 * suc m ≡ last + 201 + 201 * m = omega arith in
    let d : queued + 10 * suc m ≡ queued + 10 + 10 * m = omega arith in
    let e : suc (first + n) ≡ f + k = omega arith in
    ap (after (asking (last + 201 + 201) (suc (first + n)) m)) (asks first n last queued (omega arith) (omega arith) (following f k) (next-issued first n (first + n) refl few))
    ∙ rw (a, b, c, d, e) (many_acts m f k (last + 201) (queued + 10) (omega arith) (omega arith) (omega arith))

-- ---- the minute

begun : after (Call.synchronize 0 70000 1 65536 ∷ []) early ≡ asked 1 1 0 10
unfolding kept without issued last_of has_room terms_with made tested queue_wire queue_size done buffer_full is_full nonce_issued request started synchronized fresh synchronize_step step
begun = refl

-- the end after so many acts, one every 201 ms
abbrev minute_of : (acts : ℕ) → Seen
minute_of acts = after (asking 201 2 acts) (after (Call.synchronize 0 70000 1 65536 ∷ []) early)

-- the 256th request goes out at 51,255, and 1 to 256 are outstanding; at 60,099 the 300th stands, and 45 to 300 are outstanding
at_256 : minute_of 255 ≡ asked 1 256 51255 2560
at_256 = rw begun (many_acts 255 1 1 0 10 (omega arith) (omega arith) (omega arith))

at_300 : minute_of 299 ≡ asked 45 256 60099 3000
at_300 = rw begun (many_acts 299 1 1 0 10 (omega arith) (omega arith) (omega arith))

-- a reply from the peer at a clock, with a nonce for the next request
abbrev replying : (reply now nonce : ℕ) → Call
replying reply now nonce = Call.message 3 0 (wire (SyncReply reply) [] []) now (epoch_at now) nonce 65536

abbrev kinds : Did → List Event
kinds d = map (λ (x : Entry). x.event) d.events

long_wait :
    -- the 257th request is due at 51,456, not before; it goes out, and forgets nonce 1
    (step (acting 51455 257 65536) (asked 1 256 51255 2560) ≡ changed (asked 1 256 51255 2560))
    × (bodies (step (acting 51456 257 65536) (asked 1 256 51255 2560)) ≡ SyncRequest 257 ∷ [])
    × ((step (acting 51456 257 65536) (asked 1 256 51255 2560)).after ≡ asked 2 256 51456 2570)
    -- then a reply to 1 is heard, and nothing else: five are still to come
    × (step (replying 1 51500 999) (asked 2 256 51456 2570) ≡ changed (heard_at 51500 (asked 2 256 51456 2570)))
    -- and after it a reply to 2 counts: four are to come, and another request goes out
    × (kinds (step (replying 2 51501 999) (heard_at 51500 (asked 2 256 51456 2570))) ≡ Event.Synchronizing 5 1 ∷ [])
    × (bodies (step (replying 2 51501 999) (heard_at 51500 (asked 2 256 51456 2570))) ≡ SyncRequest 999 ∷ [])
    × ((step (replying 2 51501 999) (heard_at 51500 (asked 2 256 51456 2570))).after.sync ≡ record { remaining = 4; nonces = following 3 255 ++ 999 ∷ []; remote_magic = 0 })
    -- the 300th stands: a reply to 44 is heard, one to 45 counts
    × (step (replying 44 60100 999) (asked 45 256 60099 3000) ≡ changed (heard_at 60100 (asked 45 256 60099 3000)))
    × (kinds (step (replying 45 60100 999) (asked 45 256 60099 3000)) ≡ Event.Synchronizing 5 1 ∷ [])
    × ((step (replying 45 60100 999) (asked 45 256 60099 3000)).after.sync.remaining ≡ 4)
unfolding kept has without issued last_of has_room terms_with made tested queue_wire queue_size done buffer_full is_full nonce_issued request counted replied on_sync_reply acted fresh ignored resumed heard on_body reacted message_step act_step step
long_wait = (refl, refl, refl, refl, refl, refl, refl, refl, refl, refl)

-- the last request went out at 1000, and 1 to 256 are outstanding
abbrev full : Seen
full = asked 1 256 1000 0

-- the same, with one reply to come
abbrev last_to_come : Seen
last_to_come = with_sync (record { remaining = 1; nonces = following 1 256; remote_magic = 0 }) full

at_ceiling :
    -- nothing at 1200; at 1201 a buffer with room for 10 bytes is enough
    (step (acting 1200 257 10) full ≡ changed full)
    × ((step (acting 1201 257 10) full).answer ≡ 0)
    × ((step (acting 1201 257 10) full).after.sync.nonces ≡ following 2 256)
    -- refused for want of a byte, by one clock or the other or by a status count, it forgets none: 1 is outstanding still
    × (step (acting 1201 257 9) full ≡ refused 5 full)
    × (step (Call.act 2 (default_status ∷ default_status ∷ []) (2 ^ 62) 0 257 10) full ≡ refused 8 full)
    × (step (Call.act 2 (default_status ∷ default_status ∷ []) 1201 (2 ^ 62) 257 10) full ≡ refused 8 full)
    × (step (Call.act 1 (default_status ∷ []) 1201 0 257 10) full ≡ refused 3 full)
    -- 7 again forgets none
    × ((step (acting 1201 7 10) full).after.sync.nonces ≡ following 1 6 ++ following 8 249 ++ 7 ∷ [])
    -- a reply to 3 spends it first, so that its next request forgets none: with 999 there are 256 again, with 5, which is outstanding, 255
    × ((step (replying 3 1100 999) full).after.sync.nonces ≡ following 1 2 ++ following 4 253 ++ 999 ∷ [])
    × ((step (replying 3 1100 5) full).after.sync.nonces ≡ following 1 2 ++ following 4 1 ++ following 6 251 ++ 5 ∷ [])
    -- the last reply issues none, and those that are left stay outstanding
    × ((step (replying 3 1100 999) last_to_come).after.sync ≡ record { remaining = 0; nonces = following 1 2 ++ following 4 253; remote_magic = 9 })
unfolding kept has without issued last_of has_room terms_with made tested queue_wire queue_size done buffer_full is_full nonce_issued request counted running replied on_sync_reply acted fresh ignored resumed heard on_body reacted message_step act_step step
at_ceiling = (refl, refl, refl, refl, refl, refl, refl, refl, refl, refl, refl)
