-- What hearing a message does, and what a call that does it has of its endpoint.
use mathlib.Core.Bool.{Bool, true, false, ◌&&◌}
use mathlib.Core.List.{[], ◌∷◌, ◌++◌}
use mathlib.Core.Path.{◌≡◌, refl, sym, ap, ◌∙◌}
use Prim.Native.Nat.{ℕ}
use lib.ListN.{length}
use Rattle.base.specs.Pick.{pick}
use Rattle.timers.specs.declared.Clocks.{Clocks}
use Rattle.events.specs.declared.Entry.{Entry}
use Rattle.events.specs.declared.Events.{Events}
use Rattle.std.specs.Prelude.{Ok, Err}
use Rattle.answer.specs.Number.{Answered, done}
use Rattle.answer.specs.declared.Refusal.TheVariants.{Full}
use Rattle.events.specs.declared.Event.TheVariants.{NetworkResumed}
use Rattle.events.specs.Events.{held_events, has_room, without_input, PushedAs}
use Rattle.endpoint_rules.specs.declared.Flags.{Flags}
use Rattle.endpoint_rules.specs.Seen.{is_running}
use Rattle.endpoint_rules.specs.Did.{Effect}
use Rattle.endpoint_rules.specs.Step.{resumes, heard}
use Rattle.endpoint_rules.proofs.Laws.{heard_quiet, heard-resumes, hearing}
use Rattle.endpoint.specs.declared.Endpoint.{Endpoint}
use Rattle.endpoint.specs.declared.message.hearing.Heard.{Heard}
use Rattle.endpoint.specs.Endpoint.{seen}
use Rattle.endpoint.specs.Inside.Hearing.{heard_by, resumed_flags}
use lib.Dec.{leb}
use Rattle.timers.specs.Timers.{heard_at}
use Rattle.events.proofs.Laws.{pushed_if, not_pushed}
use Rattle.endpoint.proofs.Laws.Lengths.{events_most}
use Rattle.endpoint.proofs.Laws.Room.{crowded, roomy, room_known, crowd_known}

-- the parts that have heard: what hearing announces is at the end of the events, where it fits
pub record Ears : Type 0 where
  pub ok : Bool
  pub clocks : Clocks
  pub flags : Flags
  pub events : Events

pub record HeardAs (e : Endpoint) (x : Effect) (r : Ears) : Type 0 where
  pub ok : r.ok ≡ has_room (held_events e.events) (length x.events)
  pub clocks : r.clocks ≡ x.state.clocks
  pub flags : r.flags ≡ x.state.flags
  pub events : held_events r.events ≡ pick r.ok (held_events e.events ++ x.events) (held_events e.events)

abbrev pub ears : Heard → Bool → Events → Ears
ears h ok t = record { ok = ok; clocks = h.clocks; flags = h.flags; events = t }

module _ (e : Endpoint) where
  pub not_resumes : is_running e.sync.phase ≡ false → resumes (seen e) ≡ false
  unfolding seen
  not_resumes h = rw h

  module _ (now : ℕ) where
    -- b: whether it resumes
    heard_is : (b : Bool) → b ≡ resumes (seen e) → heard now (seen e) ≡ hearing now (seen e) (resumed_flags b e.flags) (pick b (without_input NetworkResumed ∷ []) [])
    unfolding seen
    heard_is true h = rw (heard-resumes now (seen e) (sym h))
    heard_is false h = rw (heard_quiet now (seen e) (sym h))

    pub heard_by_lem : heard now (seen e) ≡ hearing now (seen e) (heard_by e.sync.phase e.clocks e.flags now).flags (pick (heard_by e.sync.phase e.clocks e.flags now).resumes (without_input NetworkResumed ∷ []) [])
    unfolding seen
    heard_by_lem = heard_is (resumes (seen e)) refl

    pub hears : (h : Heard) (x : Entry) (r : Answered) (t : Events) (ok : Bool) → h ≡ heard_by e.sync.phase e.clocks e.flags now → x ≡ without_input NetworkResumed
        → PushedAs e.events (has_room (held_events e.events) (length (pick h.resumes (x ∷ []) []))) (pick h.resumes (x ∷ []) []) r t
        → ok ≡ has_room (held_events e.events) (length (pick h.resumes (x ∷ []) []))
        → HeardAs e (heard now (seen e)) (ears h ok t)
    unfolding seen
    hears h x r t ok eh ex ep eo =
        let q = rw (ex, ap (λ (y : Heard). y.resumes) eh) at ep in
        let k = rw (ex, ap (λ (y : Heard). y.resumes) eh) at eo in
        rw heard_by_lem (record { ok = k; clocks = ap (λ (y : Heard). y.clocks) eh; flags = ap (λ (y : Heard). y.flags) eh; events = rw k q.view })

-- What a message has of its endpoint once it is heard, where an interruption's end is announced only if there is one.

-- r: whether an interruption ends, n: how many events there are, f: whether it cannot be announced
module _ (e : Endpoint) (now : ℕ) (r : Bool) (er : r ≡ (is_running e.sync.phase && e.flags.disconnect_notify_sent)) (n : ℕ) (en : n ≡ length (held_events e.events))
    (f : Bool) (ef : f ≡ (r && leb 640 n)) where
  abbrev pub heard_with : Bool → Events → Ears
  heard_with ok events = record { ok = ok; clocks = heard_at now e.clocks; flags = resumed_flags r e.flags; events = events }

  abbrev Able : Bool
  Able = has_room (held_events e.events) (length (pick r (without_input NetworkResumed ∷ []) []))

  abbrev Pushes : Answered → Events → Type 0
  Pushes a t = PushedAs e.events Able (pick r (without_input NetworkResumed ∷ []) []) a t

  heard_with_lem : (a : Answered) (t : Events) (ok : Bool) → Pushes a t → ok ≡ Able → HeardAs e (heard now (seen e)) (heard_with ok t)
  heard_with_lem a t ok ep eo = rw er (hears e now (heard_by e.sync.phase e.clocks e.flags now) (without_input NetworkResumed) a t ok refl refl (rw er at ep) (rw er at eo))

  pub ears_full : f ≡ true → HeardAs e (heard now (seen e)) (heard_with false e.events)
  ears_full h =
      let none = crowded e.events (without_input NetworkResumed) n en r (sym ef ∙ h) in
      heard_with_lem (Err Full) e.events false none (sym (crowd_known _ _ Full none.answer refl).0)

  pub ears_quiet : r ≡ false → length e.events.entries.list ≡ 640 → HeardAs e (heard now (seen e)) (heard_with true e.events)
  ears_quiet h l =
      let none = not_pushed e.events r (without_input NetworkResumed) h (events_most e.events l) in
      heard_with_lem done e.events true none (sym (room_known _ _ none.answer refl))

  pub ears_announced : f ≡ false → r ≡ true → (x : Entry) → x ≡ without_input NetworkResumed → (a : Answered) (v : Events) → PushedAs e.events (has_room (held_events e.events) 1) (x ∷ []) a v
      → HeardAs e (heard now (seen e)) (heard_with true v)
  ears_announced h t x ex a v ep =
      let ok : a ≡ Ok tt = roomy e.events x n en r a v (sym ef ∙ h) t ep in
      let one = pushed_if e.events r (without_input NetworkResumed) a v t (rw ex at ep) in
      heard_with_lem a v true one (sym (room_known _ a one.answer ok))
