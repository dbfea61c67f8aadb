-- What a viewer gets, of the functions that people call: `watched` and `viewed`.
use mathlib.Core.List.{◌++◌}
use mathlib.Core.Path.{◌≡◌, refl, sym, ◌∙◌, ap}
use Prim.Native.Nat.{ℕ}
use Rattle.setup.specs.Setup.{Terms, terms_with}
use Rattle.endpoint_rules.specs.Call.{Call as HostCall}
use Rattle.endpoint_rules.specs.Step.{fresh as host_fresh}
use Rattle.endpoint_version.specs.Version as Endpoint
use Rattle.endpoint_version.specs.Meets.{Meets as EndpointMeets}
use Rattle.endpoint_version.proofs.Asked.{asked_typed as endpoint-typed}
use Rattle.endpoint_plays.specs.Sides.{Side}
use Rattle.endpoint_plays.specs.Sides as Side
use Rattle.endpoint_plays.proofs.Runs.{fitting_meet, after-shown, taking-shown}
use Rattle.endpoint_plays.proofs.Runs as Sides
use Rattle.spectator_rules.specs.declared.SessionSetup.{SessionSetup}
use Rattle.spectator_rules.specs.Setup.{host_setup}
use Rattle.spectator_rules.specs.Watch.{Watch, made_watch}
use Rattle.spectator_rules.specs.Step.{fresh}
use Rattle.spectator_rules.specs.Value.{value_of}
use Rattle.spectator_invariant.specs.Seated.{Seated}
use Rattle.spectator_delivery.specs.Viewing.{Box, Viewing}
use Rattle.spectator_delivery.specs.Viewed.{Shows}
use Rattle.spectator_delivery.proofs.Runs.{made-taken}
use Rattle.spectator_delivery.proofs.Shown.{shows}
use Rattle.spectator_delivery.proofs.Viewed.{viewed as viewing-viewed}
use Rattle.endpoint.specs.Endpoint.{seen as seen_host}
use Rattle.spectator.specs.Session.{seen}
use Rattle.spectator_version.specs.Version.{Version, call_of}
use Rattle.spectator_version.specs.Meets.{Meets}
use Rattle.spectator_version.proofs.Asked.{asked_typed}
use Rattle.spectator_plays.specs.Screens.{Screen}
use Rattle.spectator_plays.specs.Plays.{Watching, Broadcast, box_of, box_in}
use Rattle.spectator_plays.specs.Viewed.{Behind, Watched, Viewed}
use Rattle.spectator_plays.proofs.Behind.{Kept, done-fresh, opens_kept, opens-behind, after_kept, after-behind, watching_kept, watching_behind}

module _ (u : Version) (m : Meets u) where
  -- ---- a session alone

  -- every session that plays lead to is seated
  pub watching_seated : {x : Screen} → Watching u x → Seated (seen x.session)
  watching_seated p = (watching_kept u m p).good.seated

  shows_watched : (x : Screen) → Kept u m x → (b : Box) → Behind x b → Shows b → Watched u x b
  unfolding seen seen_host value_of terms_with host_setup
  shows_watched x k b h s =
      let setup : b.watch.host.setup ≡ _ = ap (λ (w : Watch). w.host.setup) h.watch ∙ k.setup in
      let players : b.watch.host.setup.players ≡ x.setup.num_players = ap (λ (t : Terms). t.players) setup in
      let now-at : b.watch.current ≡ u.current_frame x.session = ap (λ (w : Watch). w.current) h.watch ∙ (let q = m.current_frame x.session k.good.value in cc) in
      record {
        turn = rw h.shown at s.turn;
        current = rw (h.shown, now-at) at s.current;
        marked = rw (h.shown, players) at s.marked;
        behind = h;
        announced = rw (h.shown, players) at s.announced;
        once = s.once;
        whole = ap (λ (w : Watch). b.handled ++ w.host.events) (sym h.watch) ∙ s.whole;
        zeros = rw (h.shown, setup) at s.zeros;
      }

  pub watched : {x : Screen} → (p : Watching u x) → Watched u x (box_of p)
  watched {x} p = let h = watching_behind u m p in shows_watched x (watching_kept u m p) (box_of p) h (shows h.run)

-- ---- with the endpoint that sends to it

host_made : (h : SessionSetup) (then : ℕ) → (host_fresh (host_setup h) then).1 ≡ (fresh h then).1.host
unfolding fresh host_fresh made_watch
host_made h then = refl

module _ (v : Endpoint.Version) (l : EndpointMeets v) (u : Version) (m : Meets u) where
  -- both sides, and the run of the rules behind them
  pub record Tied (a : Side) (x : Screen) (b : Box) : Type 0 where
    pub side : Sides.Kept v l a
    pub screen : Kept u m x
    pub behind : Behind x b
    pub run : Viewing (Side.shown a) b

  pub tied : {a : Side} {x : Screen} → (p : Broadcast v u a x) → Tied a x (box_in p)
  unfolding box_in
  tied (Broadcast.begin g h now then tg th ig ih ng nh f) =
      let zg : (host_fresh g now).0 ≡ 0 = Sides.done-fresh v l g now tg ig ng in
      let zh : (fresh h then).0 ≡ 0 = done-fresh u m h then th ih nh in
      record {
        side = Sides.starts-kept v l g now tg ig ng;
        screen = opens_kept u m h then th ih nh;
        behind = opens-behind u m h then th ih nh;
        run = rw (l.new g now tg ig).made
            (Viewing.begin g h now then tg th.host zg zh (rw (host_made h then) at (fitting_meet g (host_setup h) now then tg th.host zg (made-taken h then zh) f)));
      }
  tied (Broadcast.at_end {a} {x} p c i q) =
      let t = tied p in
      record {
        side = Sides.after_kept v l a t.side c i;
        screen = t.screen;
        behind = t.behind;
        run = rw (after-shown v l a t.side.good c i) (Viewing.at_end t.run (Endpoint.call_of c) (endpoint-typed c i) (rw (← t.behind.queued) at q));
      }
  tied (Broadcast.takes_end {a} {x} p) =
      let t = tied p in
      record {
        side = Sides.taking-kept v l a t.side;
        screen = t.screen;
        behind = t.behind;
        run = rw (taking-shown v l a t.side.good) (Viewing.at_end t.run HostCall.take_events tt tt);
      }
  tied (Broadcast.at_box {a} {x} p c i q) =
      let t = tied p in
      record {
        side = t.side;
        screen = after_kept u m x t.screen c i;
        behind = after-behind u m x t.screen (box_in p) t.behind c i;
        run = Viewing.at_box t.run (call_of c) (asked_typed c i) q;
      }

  -- what the box shows of a bout is what was fenced
  pub viewed : {a : Side} {x : Screen} → (p : Broadcast v u a x) → Viewed u a x (box_in p)
  unfolding terms_with host_setup
  viewed {a} {x} p =
      let t = tied p in
      let w = viewing-viewed t.run in
      let setup : (box_in p).watch.host.setup ≡ _ = ap (λ (y : Watch). y.host.setup) t.behind.watch ∙ t.screen.setup in
      record {
        watched = shows_watched u m x t.screen (box_in p) t.behind w.shows;
        accepted = rw (t.behind.shown, setup) at w.accepted;
        wide = rw setup at w.wide;
      }
