-- Taking events, and taking messages: refused, done, the part of the buffer that is handed back, and its copy.
use Rattle.std.specs.Prelude.{Result, Ok, Err}
use Rattle.answer.specs.declared.Refusal.{Refusal}
use borrow.Author.Tests.{ltb-false}
use mathlib.Core.Bool.{Bool, true, false, not, ◌&&◌}
use mathlib.Core.List.{List, [], ◌++◌}
use mathlib.Core.Path.{◌≡◌, refl, sym, ◌∙◌, ap}
use native.Mathlib.Omega.{arith}
use Prim.Native.Nat.{ℕ, ◌≤◌}
use lib.Dec.{ltb}
use lib.ListN.{length, take, drop}
use lib.Seq.{length-take-le}
use Rattle.base.specs.Pick.{pick}
use Rattle.base.specs.Lay.{laid_at}
use Rattle.base.proofs.Lay.{laid_none, laid_first}
use Rattle.base.proofs.Arrays.{take_count}
use Rattle.base.proofs.Settled.{settled}
use Rattle.answer.specs.declared.Refusal.TheVariants.{Full}
use Rattle.events.specs.Events.{held_events}
use Rattle.events.specs.declared.Events.{Events}
use Rattle.fixed_vec.specs.FixedVec.{held}
use Rattle.endpoint_rules.specs.Seen.{is_shutdown}
use Rattle.endpoint_rules.specs.Did.{Did, refused, tested}
use Rattle.endpoint_rules.specs.Call.{Call}
use Rattle.endpoint_rules.specs.Step.{step, take_step}
use Rattle.endpoint_rules.specs.Value.{Value, value_of, filled_part, handed_back}
use Rattle.endpoint.specs.declared.Endpoint.{Endpoint}
use Rattle.endpoint.specs.declared.Ended.{Ended}
use Rattle.endpoint.specs.declared.taking.TakenEvents.{TakenEvents}
use Rattle.endpoint.specs.declared.taking.TakenMessages.{TakenMessages}
use Rattle.endpoint.specs.Endpoint.{seen, SameTerms, DoneAs}
use Rattle.endpoint.specs.Taken.{TakenAs, shorter, answer_in, count_in, TakenIntoAs}
use Rattle.endpoint.proofs.Laws.Settled.{same_terms, done_settled}
use Rattle.endpoint.proofs.Laws.Handshake.{false_true}
use Rattle.endpoint.proofs.Laws.Ends.{remade, refused-done}

-- no more than the room is handed back
filled_fits : (b : Bool) (queued room : ℕ) → pick b 0 (pick (ltb room queued) 0 queued) ≤ room
filled_fits true queued room = omega arith
filled_fits false queued room =
    elim (ltb room queued) as (λ t. ltb room queued ≡ t → pick t 0 queued ≤ room) [
      | true ↦ λ _. omega arith
      | false ↦ λ h. ltb-false room queued h
    ]
    refl

-- so the part is as long as that
pub filled_part_lem : (b : Bool) (queued n : ℕ) (buffer : List ℕ) → n ≡ pick b 0 (pick (ltb (length buffer) queued) 0 queued) → n ≡ length (take n buffer)
filled_part_lem b queued n buffer h =
    let fits : n ≤ length buffer = rw h (filled_fits b queued (length buffer)) in
    sym (length-take-le n buffer fits)

module _ (e : Endpoint) where
  -- n: how many there are
  pub takes_events : (n : ℕ) → n ≡ length (held_events e.events) → (none : Events) → held_events none ≡ [] → TakenAs e (record { events = record { entries = record { list = e.events.entries.list; count = n } }; endpoint = remade e e.pending e.acked e.history e.sync e.nonces e.clocks e.flags e.quality e.statuses e.checksums none e.queued })
  unfolding value_of step seen held_events held
  takes_events n h none en =
      let same : take n e.events.entries.list ≡ held_events e.events = rw h (sym (take_count e.events.entries.count e.events.entries.list)) in
      record { events = ap Value.events same; count = h ∙ ap length (sym same); after = rw en; terms = record { setup = refl; count = refl } }

  module _ (room : ℕ) where
    pub take_short : not (is_shutdown e.sync.phase) && ltb room e.queued ≡ true → DoneAs e (step (Call.take_messages room) (seen e)) (record { answer = Err Full; endpoint = e })
    unfolding step take_step tested seen
    take_short h = refused-done e (Err Full) (take_step room (seen e)) (rw h)

    pub take_done : not (is_shutdown e.sync.phase) && ltb room e.queued ≡ false
        → DoneAs e (step (Call.take_messages room) (seen e)) (record { answer = Ok tt; endpoint = remade e e.pending e.acked e.history e.sync e.nonces e.clocks e.flags e.quality e.statuses e.checksums e.events 0 })
    unfolding step take_step tested seen
    take_done h = rw h (record { answer = refl; after = refl; terms = record { setup = refl; count = refl }; same = λ n. absurd (n refl) })

    pub handed_is : pick (is_shutdown e.sync.phase) 0 (pick (ltb room e.queued) 0 e.queued) ≡ handed_back room (seen e)
    unfolding handed_back step take_step tested refused filled_part seen
    handed_is = go (is_shutdown e.sync.phase) refl (ltb room e.queued) refl
      where
        go : (b : Bool) → is_shutdown e.sync.phase ≡ b → (t : Bool) → ltb room e.queued ≡ t → pick (is_shutdown e.sync.phase) 0 (pick (ltb room e.queued) 0 e.queued) ≡ handed_back room (seen e)
        go true eb t et = rw eb
        go false eb true et = rw (eb, et)
        go false eb false et = rw (eb, et)

-- nothing is handed back where the buffer is too short
none_filled : (shut short : Bool) (queued : ℕ) → not shut && short ≡ true → 0 ≡ pick shut 0 (pick short 0 queued)
none_filled true short queued h = refl
none_filled false true queued h = refl
none_filled false false queued h = absurd (false_true h)

module _ (e : Endpoint) (queue into : List ℕ) where
  pub into_short : not (is_shutdown e.sync.phase) && ltb (shorter queue into) e.queued ≡ true
      → TakenIntoAs e queue into (record { endpoint = e; answer = Err Full }) into
  into_short h =
      record {
        taken = take_short e (shorter queue into) h;
        count = none_filled (is_shutdown e.sync.phase) (ltb (shorter queue into) e.queued) e.queued h ∙ handed_is e (shorter queue into);
        lent = sym (laid_none into 0);
      }

  pub into_done : not (is_shutdown e.sync.phase) && ltb (shorter queue into) e.queued ≡ false
      → (n : ℕ) → n ≡ pick (is_shutdown e.sync.phase) 0 (pick (ltb (shorter queue into) e.queued) 0 e.queued)
      → (into' : List ℕ) → into' ≡ take (length (take n queue)) (take n queue) ++ drop (length (take n queue)) into
      → TakenIntoAs e queue into (record { answer = Ok n; endpoint = remade e e.pending e.acked e.history e.sync e.nonces e.clocks e.flags e.quality e.statuses e.checksums e.events 0 }) into'
  into_done h n en into' copied =
      record {
        taken = take_done e (shorter queue into) h;
        count = en ∙ handed_is e (shorter queue into);
        lent = copied ∙ laid_first into (take n queue);
      }

  -- what is copied has room in both
  pub into_fits : (n : ℕ) → n ≡ pick (is_shutdown e.sync.phase) 0 (pick (ltb (shorter queue into) e.queued) 0 e.queued) → n ≤ shorter queue into
  into_fits n h = rw h (filled_fits (is_shutdown e.sync.phase) e.queued (shorter queue into))

-- ---- two answers that a contract allows are equal: stores up to what their array holds past the count

module _ (e : Endpoint) where
  pub take_events_settled : (r s : TakenEvents) → TakenAs e r → TakenAs e s
      → (held_events r.events ≡ held_events s.events) × (r.events.entries.count ≡ s.events.entries.count) × (seen r.endpoint ≡ seen s.endpoint) × SameTerms r.endpoint s.endpoint
  take_events_settled r s a b =
      let held : held_events r.events ≡ held_events s.events = same a.events b.events in
      (held, a.count ∙ ap length held ∙ sym b.count, a.after ∙ sym b.after, same_terms e a.terms b.terms)
    where
      same : Value.events (held_events r.events) ≡ value_of Call.take_events (seen e) → Value.events (held_events s.events) ≡ value_of Call.take_events (seen e) → held_events r.events ≡ held_events s.events
      same x y = cc

  module _ (buffer : List ℕ) where
    abbrev Took : Did
    Took = step (Call.take_messages (length buffer)) (seen e)

    pub take_messages_settled : (r s : Ended) → DoneAs e Took r → DoneAs e Took s → (r.answer ≡ s.answer) × (seen r.endpoint ≡ seen s.endpoint) × SameTerms r.endpoint s.endpoint
    take_messages_settled = done_settled e Took

    same_taken : (r s : Result ℕ Refusal) → answer_in r ≡ answer_in s → count_in r ≡ count_in s → r ≡ s
    same_taken (Ok n) (Ok m) h k = ap Ok k
    same_taken (Ok n) (Err r) h k = cc
    same_taken (Err r) (Ok n) h k = cc
    same_taken (Err r) (Err s) h k = let same : r ≡ s = cc in ap Err same

    pub take_messages_into_settled : (into : List ℕ) (r s : TakenMessages) (b c : List ℕ) → TakenIntoAs e buffer into r b → TakenIntoAs e buffer into s c
        → (r.answer ≡ s.answer) × (seen r.endpoint ≡ seen s.endpoint) × SameTerms r.endpoint s.endpoint × (b ≡ c)
    take_messages_into_settled into r s b c x y =
        let same : count_in r.answer ≡ count_in s.answer = x.count ∙ sym y.count in
        let t = done_settled e (step (Call.take_messages (shorter buffer into)) (seen e)) _ _ x.taken y.taken in
        (same_taken r.answer s.answer t.0 same, t.1, t.2, x.lent ∙ ap (λ n. laid_at into 0 (take n buffer)) same ∙ sym y.lent)

    pub messages_settled : (r s : List ℕ) → r ≡ take (handed_back (length buffer) (seen e)) buffer → s ≡ take (handed_back (length buffer) (seen e)) buffer → r ≡ s
    messages_settled = settled (λ r. r) (take (handed_back (length buffer) (seen e)) buffer)
