-- Two answers that a call's contract allows are equal, as are the states, the counts of their stores and the lent buffers after them, for each public function.
-- What an array holds past its count alone is open.
use mathlib.Core.List.{List, []}
use mathlib.Core.Path.{◌≡◌, refl, sym, ◌∙◌, ap}
use Prim.Native.Nat.{ℕ}
use native.Mathlib.Decide.{ℕ_discrete}
use lib.ListN.{length, take, get_or}
use Rattle.base.specs.Lay.{laid_at}
use Rattle.base.proofs.Settled.{settled}
use Rattle.std.specs.Prelude.{Result, Ok, Err}
use Rattle.answer.specs.declared.Refusal.{Refusal}
use Rattle.answer.specs.Number.{Answered, number_of, refusal_number}
use Rattle.answer.proofs.Number.{number_determines}
use Rattle.answer.proofs.Refused.{not_done}
use Rattle.codec.specs.Message.{Wire}
use Rattle.endpoint_rules.specs.Value.{handed_back}
use Rattle.endpoint.specs.Endpoint.{SameTerms}
use Rattle.endpoint.specs.Taken.{shorter, answer_in, count_in}
use Rattle.quality.specs.declared.NetworkStats.{NetworkStats}
use Rattle.endpoint.proofs.Laws.Settled.{same_terms}
use Rattle.spectator_rules.specs.declared.SessionEntry.{SessionEntry}
use Rattle.spectator_rules.specs.declared.SessionSetup.{SessionSetup}
use Rattle.spectator_rules.specs.declared.SessionState.{SessionState}
use Rattle.spectator_rules.specs.declared.SyncedInput.{SyncedInput}
use Rattle.spectator_rules.specs.Watch.{Watch}
use Rattle.spectator_rules.specs.Call.{Call}
use Rattle.spectator_rules.specs.Step.{Did, step}
use Rattle.spectator_rules.specs.Value.{Value, value_of}
use Rattle.spectator.specs.declared.SpectatorSession.{SpectatorSession}
use Rattle.spectator.specs.declared.Ended.{Ended}
use Rattle.spectator.specs.declared.advancing.Advanced.{Advanced}
use Rattle.spectator.specs.declared.getters.TakenEvents.{TakenEvents}
use Rattle.spectator.specs.declared.hosting.TakenMessages.{TakenMessages}
use Rattle.spectator.specs.declared.polling.Polled.{Polled}
use Rattle.spectator.specs.declared.inputs.Inputs.{Inputs}
use Rattle.spectator.specs.declared.session_events.SessionEvents.{SessionEvents}
use Rattle.spectator.specs.declared.requests.Request.{Request}
use Rattle.spectator.specs.declared.requests.Requests.{Requests}
use Rattle.spectator.specs.Stores.{inputs_of, events_of, request_of, request_frames, request_counts, RequestAs, RequestsAs, blank_session_entry, blank_synced}
use Rattle.spectator.specs.Session.{seen, Counted, DidAs, DoneAs}
use Rattle.spectator.specs.Answers.{shown, shown_stats, shown_behind, MadeAs, TakenAs, TakenIntoAs, polled_part, PolledAs, AdvancedAs, frames_answer, GivenAs}

-- ---- two sessions are alike: they are seen the same, their stores have the same counts, and their hosts the same setup and the same count of statuses

abbrev SameCounts : SpectatorSession → SpectatorSession → Type 0
SameCounts r s = (r.inputs.entries.count ≡ s.inputs.entries.count) × (r.statuses.count ≡ s.statuses.count) × (r.events.entries.count ≡ s.events.entries.count)

abbrev Alike : SpectatorSession → SpectatorSession → Type 0
Alike r s = (seen r ≡ seen s) × SameCounts r s × SameTerms r.host s.host

-- a session's host has its own terms
own_terms : (e : SpectatorSession) → SameTerms e.host e.host
own_terms e = record { setup = refl; count = refl }

module _ (r s : SpectatorSession) (e : seen r ≡ seen s) where
  -- each count is the number of what is held
  counted_same : Counted r → Counted s → SameCounts r s
  unfolding seen
  counted_same a b = (
    a.inputs ∙ ap (λ (w : Watch). length w.inputs) e ∙ sym b.inputs,
    a.statuses ∙ ap (λ (w : Watch). length w.statuses) e ∙ sym b.statuses,
    a.events ∙ ap (λ (w : Watch). length w.events) e ∙ sym b.events,
  )

  -- both are known but for a part
  alike_but : {x y : SpectatorSession} → r ≡ x → s ≡ y → SameCounts x y → SameTerms x.host y.host → Alike r s
  alike_but p q k t = (e, rw (p, q) k, rw (p, q) t)

pub new_settled : (g : SessionSetup) (now : ℕ) (r s : Ended) → MadeAs g now r → MadeAs g now s
    → (r.answer ≡ s.answer) × (seen r.session ≡ seen s.session) × SameCounts r.session s.session
    × (r.session.host.setup.handles.count ≡ s.session.host.setup.handles.count) × (r.session.host.statuses.count ≡ s.session.host.statuses.count)
new_settled g now r s a b =
    let e = a.made ∙ sym b.made in (
      number_determines r.answer s.answer (a.answer ∙ sym b.answer),
      e,
      counted_same r.session s.session e a.counted b.counted,
      a.host_handles ∙ sym b.host_handles,
      a.host_statuses ∙ sym b.host_statuses,
    )

pub inputs_count_settled : (i : Inputs) (m n : ℕ) → m ≡ length (inputs_of i) → n ≡ length (inputs_of i) → m ≡ n
inputs_count_settled i = settled (λ x. x) (length (inputs_of i))

module _ (e : SessionEvents) where
  pub session_events_count_settled : (m n : ℕ) → m ≡ length (events_of e) → n ≡ length (events_of e) → m ≡ n
  session_events_count_settled = settled (λ x. x) (length (events_of e))

  pub entry_settled : (i : ℕ) (r s : SessionEntry) → r ≡ get_or (events_of e) i blank_session_entry → s ≡ get_or (events_of e) i blank_session_entry → r ≡ s
  entry_settled i = settled (λ x. x) (get_or (events_of e) i blank_session_entry)

-- the frames, how many they are, and the count of players in each
abbrev SameRequests : Requests → Requests → Type 0
SameRequests r s = (request_frames r ≡ request_frames s) × (r.frames.count ≡ s.frames.count) × (request_counts r ≡ request_counts s)

same_requests : {l : List (List SyncedInput)} {r s : Requests} → RequestsAs l r → RequestsAs l s → SameRequests r s
same_requests a b = (a.frames ∙ sym b.frames, a.count ∙ sym b.count, a.players ∙ sym b.players)

module _ (q : Requests) where
  pub requests_count_settled : (m n : ℕ) → m ≡ length (request_frames q) → n ≡ length (request_frames q) → m ≡ n
  requests_count_settled = settled (λ x. x) (length (request_frames q))

  pub frame_settled : (i : ℕ) (r s : Request) → RequestAs (get_or (request_frames q) i []) r → RequestAs (get_or (request_frames q) i []) s → (request_of r ≡ request_of s) × (r.inputs.count ≡ s.inputs.count)
  frame_settled i r s a b = (a.0 ∙ sym b.0, a.1 ∙ sym b.1)

module _ (q : Request) where
  pub request_count_settled : (m n : ℕ) → m ≡ length (request_of q) → n ≡ length (request_of q) → m ≡ n
  request_count_settled = settled (λ x. x) (length (request_of q))

  pub input_settled : (player : ℕ) (r s : SyncedInput) → r ≡ get_or (request_of q) player blank_synced → s ≡ get_or (request_of q) player blank_synced → r ≡ s
  input_settled player = settled (λ x. x) (get_or (request_of q) player blank_synced)

same_refusal : (a b : Refusal) → refusal_number a ≡ refusal_number b → a ≡ b
same_refusal a b h = let e : ◌≡◌ {A = Answered} (Err a) (Err b) = number_determines (Err a) (Err b) h in cc

same_stats : (r s : Result NetworkStats Refusal) → shown_stats r ≡ shown_stats s → r ≡ s
same_stats (Ok a) (Ok b) h = let v : Value.stats a ≡ Value.stats b = ap (λ (t : ℕ × Value). t.1) h in cc
same_stats (Ok a) (Err b) h = let v : Value.stats a ≡ Value.nothing = ap (λ (t : ℕ × Value). t.1) h in cc
same_stats (Err a) (Ok b) h = let v : Value.nothing ≡ Value.stats b = ap (λ (t : ℕ × Value). t.1) h in cc
same_stats (Err a) (Err b) h = ap Err (same_refusal a b (ap (λ (t : ℕ × Value). t.0) h))

same_behind : (r s : Result ℕ Refusal) → shown_behind r ≡ shown_behind s → r ≡ s
same_behind (Ok m) (Ok n) h = let v : Value.count m ≡ Value.count n = ap (λ (t : ℕ × Value). t.1) h in cc
same_behind (Ok m) (Err b) h = let v : Value.count m ≡ Value.nothing = ap (λ (t : ℕ × Value). t.1) h in cc
same_behind (Err a) (Ok n) h = let v : Value.nothing ≡ Value.count n = ap (λ (t : ℕ × Value). t.1) h in cc
same_behind (Err a) (Err b) h = ap Err (same_refusal a b (ap (λ (t : ℕ × Value). t.0) h))

-- an answer with a count
same_counted : (r s : Result ℕ Refusal) → number_of (answer_in r) ≡ number_of (answer_in s) → count_in r ≡ count_in s → r ≡ s
same_counted (Ok m) (Ok n) h k = ap Ok k
same_counted (Ok m) (Err b) h k = absurd (not_done b (sym h))
same_counted (Err a) (Ok n) h k = absurd (not_done a h)
same_counted (Err a) (Err b) h k = ap Err (same_refusal a b h)

-- the frames of an answer that has some, or its refusal
abbrev SameGiven : Result Requests Refusal → Result Requests Refusal → Type 0
SameGiven (Ok p) (Ok q) = SameRequests p q
SameGiven (Ok p) (Err b) = ⊥
SameGiven (Err a) (Ok q) = ⊥
SameGiven (Err a) (Err b) = a ≡ b

same_given : (l : List (List SyncedInput)) (r s : Result Requests Refusal) → number_of (frames_answer r) ≡ number_of (frames_answer s) → GivenAs l r → GivenAs l s → SameGiven r s
same_given l (Ok p) (Ok q) h x y = same_requests x y
same_given l (Ok p) (Err b) h x y = absurd (not_done b (sym h))
same_given l (Err a) (Ok q) h x y = absurd (not_done a h)
same_given l (Err a) (Err b) h x y = same_refusal a b h

module _ (e : SpectatorSession) where
  module _ (d : Did) where
    done_settled : (r s : Ended) → DoneAs e d r → DoneAs e d s → (r.answer ≡ s.answer) × Alike r.session s.session
    done_settled r s a b =
        (number_determines r.answer s.answer (a.answer ∙ sym b.answer), alike_but r.session s.session (a.after ∙ sym b.after) a.own b.own (refl, refl, refl) (same_terms e.host a.terms b.terms))

    did_settled : (buffer : List ℕ) (r s : Ended) (b c : List ℕ) → DidAs e d buffer r b → DidAs e d buffer s c → (r.answer ≡ s.answer) × Alike r.session s.session × (b ≡ c)
    did_settled buffer r s b c x y = (number_determines r.answer s.answer (x.answer ∙ sym y.answer), alike_but r.session s.session (x.after ∙ sym y.after) x.own y.own (refl, refl, refl) (same_terms e.host x.terms y.terms), x.lent ∙ sym y.lent)

  module _ (now epoch nonce : ℕ) (buffer : List ℕ) (r s : Ended) (b c : List ℕ) where
    abbrev Same : Type 0
    Same = (r.answer ≡ s.answer) × Alike r.session s.session × (b ≡ c)

    abbrev Both : Call → Type 0
    Both x = DidAs e (step x (seen e)) buffer r b → DidAs e (step x (seen e)) buffer s c → Same

    pub synchronize_settled : Both (Call.synchronize now epoch nonce (length buffer))
    synchronize_settled = did_settled (step (Call.synchronize now epoch nonce (length buffer)) (seen e)) buffer r s b c

    pub message_settled : (from count : ℕ) (w : Wire) → Both (Call.message from count w now epoch nonce (length buffer))
    message_settled from count w = did_settled (step (Call.message from count w now epoch nonce (length buffer)) (seen e)) buffer r s b c

    pub datagram_settled : (from : ℕ) (bytes : List ℕ) → Both (Call.datagram from bytes now epoch nonce (length buffer))
    datagram_settled from bytes = did_settled (step (Call.datagram from bytes now epoch nonce (length buffer)) (seen e)) buffer r s b c

  module _ (now epoch nonce : ℕ) (buffer : List ℕ) where
    abbrev Polls : Polled → List ℕ → Type 0
    Polls = PolledAs e (step (Call.poll_remote_clients now epoch nonce (length buffer)) (seen e)) (polled_part now epoch nonce (length buffer) (seen e)) buffer

    -- done, each count is the number of what is held; refused, both are the session before
    polled_alike : (r s : Polled) (b c : List ℕ) → Polls r b → Polls s c → Alike r.session s.session
    polled_alike r s b c x y = elim (ℕ_discrete (step (Call.poll_remote_clients now epoch nonce (length buffer)) (seen e)).answer 0) [
      | yes z ↦ (x.after ∙ sym y.after, counted_same r.session s.session (x.after ∙ sym y.after) (x.counted z) (y.counted z), same_terms e.host x.terms y.terms)
      | no n ↦ alike_but r.session s.session (x.after ∙ sym y.after) (x.same n) (y.same n) (refl, refl, refl) (own_terms e)
    ]

    pub poll_remote_clients_settled : (r s : Polled) (b c : List ℕ) → Polls r b → Polls s c
        → (r.answer ≡ s.answer) × Alike r.session s.session × (b ≡ c)
    poll_remote_clients_settled r s b c x y =
        (same_counted r.answer s.answer (x.answer ∙ sym y.answer) (x.filled ∙ sym y.filled), polled_alike r s b c x y, x.lent ∙ sym y.lent)

  pub advance_frame_settled : (r s : Advanced) → AdvancedAs e r → AdvancedAs e s
      → SameGiven r.answer s.answer × Alike r.session s.session
  advance_frame_settled r s x y = (same_given _ r.answer s.answer (x.answer ∙ sym y.answer) x.requests y.requests, alike_but r.session s.session (x.after ∙ sym y.after) x.own y.own (refl, refl, refl) (own_terms e))

  pub take_messages_settled : (buffer : ℕ) (r s : Ended) → DoneAs e (step (Call.take_messages buffer) (seen e)) r → DoneAs e (step (Call.take_messages buffer) (seen e)) s
      → (r.answer ≡ s.answer) × Alike r.session s.session
  take_messages_settled buffer = done_settled (step (Call.take_messages buffer) (seen e))

  pub take_messages_into_settled : (buffer into : List ℕ) (r s : TakenMessages) (b c : List ℕ) → TakenIntoAs e buffer into r b → TakenIntoAs e buffer into s c
      → (r.answer ≡ s.answer) × Alike r.session s.session × (b ≡ c)
  take_messages_into_settled buffer into r s b c x y =
      let same : count_in r.answer ≡ count_in s.answer = x.count ∙ sym y.count in
      let t = done_settled (step (Call.take_messages (shorter buffer into)) (seen e)) _ _ x.taken y.taken in
      (same_counted r.answer s.answer (ap number_of t.0) same, t.1, x.lent ∙ ap (λ n. laid_at into 0 (take n buffer)) same ∙ sym y.lent)

  pub messages_settled : (buffer a b : List ℕ) → a ≡ take (handed_back (length buffer) (seen e).host) buffer → b ≡ take (handed_back (length buffer) (seen e).host) buffer → a ≡ b
  messages_settled buffer a b = settled (λ x. x) (take (handed_back (length buffer) (seen e).host) buffer) a b

  pub take_events_settled : (r s : TakenEvents) → TakenAs e r → TakenAs e s
      → (events_of r.events ≡ events_of s.events) × (r.events.entries.count ≡ s.events.entries.count) × Alike r.session s.session
  take_events_settled r s x y =
      let z : Value.events (events_of r.events) ≡ Value.events (events_of s.events) = x.events ∙ sym y.events in
      let same : events_of r.events ≡ events_of s.events = cc in
      (same, x.count ∙ ap length same ∙ sym y.count, alike_but r.session s.session (x.after ∙ sym y.after) x.own y.own (refl, refl, x.left ∙ sym y.left) (own_terms e))

  pub network_stats_settled : (epoch : ℕ) (r s : Result NetworkStats Refusal) → shown_stats r ≡ shown (Call.network_stats epoch) (seen e) → shown_stats s ≡ shown (Call.network_stats epoch) (seen e) → r ≡ s
  network_stats_settled epoch r s a b = same_stats r s (a ∙ sym b)

  pub frames_behind_host_settled : (r s : Result ℕ Refusal) → shown_behind r ≡ shown Call.frames_behind_host (seen e) → shown_behind s ≡ shown Call.frames_behind_host (seen e) → r ≡ s
  frames_behind_host_settled r s a b = same_behind r s (a ∙ sym b)

  pub current_state_settled : (r s : SessionState) → Value.state r ≡ value_of Call.current_state (seen e) → Value.state s ≡ value_of Call.current_state (seen e) → r ≡ s
  current_state_settled r s x y = let z : Value.state r ≡ Value.state s = x ∙ sym y in cc

  pub current_frame_settled : (r s : ℕ) → Value.frame r ≡ value_of Call.current_frame (seen e) → Value.frame s ≡ value_of Call.current_frame (seen e) → r ≡ s
  current_frame_settled r s x y = let z : Value.frame r ≡ Value.frame s = x ∙ sym y in cc

  pub num_players_settled : (r s : ℕ) → Value.count r ≡ value_of Call.num_players (seen e) → Value.count s ≡ value_of Call.num_players (seen e) → r ≡ s
  num_players_settled r s x y = let z : Value.count r ≡ Value.count s = x ∙ sym y in cc
