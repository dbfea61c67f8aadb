-- Over every run of a box with the endpoint that sends to it: what was shown of a bout is what was played.
use mathlib.Core.List.{List, [], ◌∷◌, ◌++◌, map}
use mathlib.Core.Path.{◌≡◌, refl, sym, ap, ◌∙◌}
use Prim.Native.Nat.{ℕ, ◌≤◌}
use native.Mathlib.Omega.{arith}
use lib.ListN.{length, take}
use lib.Seq.{take-take, length-take-le}
use Rattle.frame.specs.Bias.{bias32}
use Rattle.history.specs.History.{numbered}
use Rattle.setup.proofs.Laws.{receiving_within}
use Rattle.events.specs.Events.{announced_each}
use Rattle.endpoint_invariant.specs.Each.{Each}
use Rattle.endpoint_invariant.proofs.Eaches.{each_also}
use Rattle.endpoint_delivery.specs.Frames.{announced_to}
use Rattle.endpoint_delivery.specs.Runs.{End}
use Rattle.endpoint_delivery.proofs.Lists.{Mem, mem-left, mem_kept, wide-take}
use Rattle.endpoint_delivery.proofs.Moves.{is_input, inputs_in}
use Rattle.endpoint_delivery.proofs.Tape.{framed}
use Rattle.endpoint_delivery.proofs.Calls.{Way}
use Rattle.endpoint_delivery.proofs.InOrder.{side, tied, take_framed, in_order}
use Rattle.spectator_invariant.specs.Seated.{Seated}
use Rattle.spectator_invariant.specs.Handled.{input_event}
use Rattle.spectator_invariant.proofs.Seated.{few}
use Rattle.spectator_delivery.specs.Viewing.{Shown, Box, end_of, Viewing}
use Rattle.spectator_delivery.specs.Viewed.{InTurn, FromEvents, read_off, Shows, Viewed}
use Rattle.spectator_delivery.proofs.Runs.{viewing_shows, viewing_runs, showing_seated}
use Rattle.spectator_delivery.proofs.Shown.{by_also, shows}
use Rattle.spectator_delivery.proofs.Delivered.{shown_from_lem, delivers}

module _ (a : End) (x : Box) (seated : Seated x.watch) (way : Way (side a) (side (end_of x))) (shows : Shows x) where
  abbrev players : ℕ
  players = x.watch.host.setup.players

  abbrev size : ℕ
  size = x.watch.host.setup.input_size

  abbrev handles : List ℕ
  handles = x.watch.host.setup.handles

  -- the frames that the sending end accepted, and those of them that the session's endpoint announced
  abbrev first : ℕ
  first = way.tape.f

  abbrev accepted : List (List ℕ)
  accepted = way.tape.bs

  abbrev arrived : List (List ℕ)
  arrived = take way.reached accepted

  -- what was shown came with the events of those
  came : Each (FromEvents players (announced_each size handles (numbered first arrived))) x.shown
  came = each_also _ _ (λ s h. record { count = h.count; inputs = by_also _ _ 0 s.inputs (λ player y _ m. input_came s.number player y.input m) h.inputs }) x.shown shows.announced
    where
      input_came : (frame player : ℕ) (input : List ℕ) → Mem (input_event player (record { frame = frame; input = input })) x.handled
          → Mem (input_event player (record { frame = frame; input = input })) (announced_each size handles (numbered first arrived))
      input_came frame player input m =
          let held : Mem (input_event player (record { frame = frame; input = input })) (inputs_in (x.handled ++ x.watch.host.events)) =
          mem_kept is_input (x.handled ++ x.watch.host.events) (mem-left {s = x.handled} x.watch.host.events m) refl in
          rw way.link.announced at held

  some : 1 ≤ players
  some = seated.host.setup.players.0

  -- where a frame was shown, the first one accepted was frame 0
  shown_same : (shown : List Shown) → InTurn bias32 shown → Each (FromEvents players (announced_each size handles (numbered first arrived))) shown
      → map (read_off size) shown ≡ map (announced_to size handles) (take (length shown) a.accepted)
  unfolding InTurn Each
  shown_same [] t c = refl
  shown_same (s ∷ shown) t c =
      let sized = seated.host.setup.input_size.1 in
      let begins : first ≡ bias32 = omega (arith, way.tape.first, (shown_from_lem players size sized handles some first arrived s c.0).0, t.0) in
      let wide = wide-take _ way.reached accepted way.tape.wide in
      let narrow = (receiving_within x.watch.host.setup seated.host.setup).1 in
      let d = delivers players size sized handles some (few x.watch seated) narrow first arrived (s ∷ shown) wide (rw begins t) c in
      let m : ℕ = length (s ∷ shown) in
      let most : m ≤ way.reached = omega (arith, d.most, length-take-le way.reached accepted way.link.holding.most) in
      let fewer : framed first (take m arrived) ≡ take m a.accepted =
      ap (framed first) (take-take m way.reached accepted most) ∙ sym (take_framed first m accepted) ∙ ap (take m) (sym way.link.accepted) in
      d.same ∙ ap (map (announced_to size handles)) fewer

-- what was shown of a bout is what was played
pub viewed : {a : End} {x : Box} → Viewing a x → Viewed a x
viewed {a} {x} v =
    let run = viewing_shows v in
    let seated = showing_seated run in
    let ends = viewing_runs v in
    let way = (tied ends).both.goes in
    record {
      shows = shows run;
      accepted = shown_same a x seated way (shows run) x.shown (shows run).turn (came a x seated way (shows run));
      wide = (in_order ends).0.wide;
    }
