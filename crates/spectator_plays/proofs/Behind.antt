-- Behind every screen stands a box of the rules: each call, with what it handed back, is one step.
use mathlib.Core.Bool.{Bool, true, false}
use mathlib.Core.List.{List, [], ◌++◌}
use mathlib.Core.Path.{◌≡◌, refl, sym, ◌∙◌, ap}
use Prim.Native.Nat.{ℕ}
use Rattle.base.specs.Pick.{pick}
use Rattle.answer.specs.Number.{number_of}
use Rattle.status.specs.Statuses.{held_statuses}
use Rattle.status.specs.declared.ConnectionStatus.{ConnectionStatus}
use Rattle.endpoint_rules.specs.Seen.{made}
use Rattle.endpoint_invariant.specs.Typed.{IsU64}
use Rattle.endpoint.specs.Endpoint.{seen as seen_host}
use Rattle.endpoint_plays.specs.Delivered.{given_terms}
use Rattle.spectator_rules.specs.declared.SessionSetup.{SessionSetup}
use Rattle.spectator_rules.specs.declared.SyncedInput.{SyncedInput}
use Rattle.spectator_rules.specs.Setup.{host_setup}
use Rattle.spectator_rules.specs.Watch.{Watch, made_watch}
use Rattle.spectator_rules.specs.Call.{Call}
use Rattle.spectator_rules.specs.Step.{fresh}
use Rattle.spectator_rules.specs.Value.{value_of}
use Rattle.spectator_delivery.specs.Viewing.{Shown, Box, numbered_from, shown_by, next_box, Showing}
use Rattle.spectator_delivery.specs.Viewing as Boxes
use Rattle.spectator_delivery.proofs.Shown.{copied_last}
use Rattle.spectator.specs.declared.SpectatorSession.{SpectatorSession}
use Rattle.spectator.specs.Session.{seen}
use Rattle.spectator_version.specs.Values.{IsSessionSetup}
use Rattle.spectator_version.specs.Version.{Version, Asked, IsAsked, call_of, session_after}
use Rattle.spectator_version.specs.Meets.{Meets, Reached}
use Rattle.spectator_version.proofs.Asked.{asked_typed}
use Rattle.spectator_version.proofs.Reached.{Good, after-seen, called_good, reached_good}
use Rattle.spectator_plays.specs.Screens.{Screen, shown_from, after, opens}
use Rattle.spectator_plays.specs.Plays.{Watching, box_of}
use Rattle.spectator_plays.specs.Viewed.{Behind}
use Rattle.spectator_plays.proofs.Written.{queued_messages}
use Rattle.spectator.proofs.Laws.Advancing.{frames_given}

none_numbered : (t : Bool) (number : ℕ) (statuses : List ConnectionStatus) (l : List (List SyncedInput)) → numbered_from number statuses (pick t l []) ≡ pick t (numbered_from number statuses l) []
unfolding numbered_from
none_numbered true number statuses l = refl
none_numbered false number statuses l = refl

-- what a screen is, after any calls: a value, seated, and its endpoint has the setup that was given
pub record Kept (u : Version) (m : Meets u) (x : Screen) : Type 0 where
  pub good : Good u m x.session
  pub setup : (seen x.session).host.setup ≡ given_terms (host_setup x.setup)

module _ (u : Version) (m : Meets u) where
  module _ (g : SessionSetup) (now : ℕ) (t : IsSessionSetup g) (i : IsU64 now) (n : number_of (u.new g now).answer ≡ 0) where
    pub done-fresh : (fresh g now).0 ≡ 0
    done-fresh = sym (m.new g now t i).answer ∙ n

    pub opens_kept : Kept u m (opens u g now)
    unfolding fresh made_watch made
    opens_kept = record { good = reached_good u m (u.new g now).session (Reached.made g now t i done-fresh); setup = ap (λ (w : Watch). w.host.setup) (m.new g now t i).made }

    pub opens-behind : Behind (opens u g now) (Boxes.opens g now)
    opens-behind = record { run = Showing.begin g now t.host done-fresh; watch = sym (m.new g now t i).made; queued = refl; shown = refl }

  -- no call changes the setup of the session's endpoint
  same_setup : (s : SpectatorSession) → Good u m s → (c : Asked) → IsAsked c → (session_after u s c).host.setup ≡ s.host.setup
  same_setup s g (Asked.synchronize now epoch nonce out) h = (m.synchronize s now epoch nonce out g.value h).terms.setup
  same_setup s g (Asked.message from x payload now epoch nonce out) h = (m.message s from x payload now epoch nonce out g.value h).terms.setup
  same_setup s g (Asked.datagram from d now epoch nonce out) h = (m.datagram s from d now epoch nonce out g.value h).terms.setup
  same_setup s g (Asked.take_messages out) h = (m.take_messages s out g.value h).terms.setup
  same_setup s g (Asked.take_messages_into out into) h = (m.take_messages_into s out into g.value h).taken.terms.setup
  same_setup s g (Asked.poll_remote_clients now epoch nonce out) h = (m.poll_remote_clients s now epoch nonce out g.value h).terms.setup
  same_setup s g Asked.advance_frame h = ap (λ (r : SpectatorSession). r.host.setup) (m.advance_frame s g.value).own
  same_setup s g Asked.take_events h = ap (λ (r : SpectatorSession). r.host.setup) (m.take_events s g.value).own

  pub after_kept : (x : Screen) → Kept u m x → (c : Asked) → IsAsked c → Kept u m (after u c x)
  unfolding seen seen_host
  after_kept x k c h = record { good = called_good u m x.session k.good c h; setup = rw (same_setup x.session k.good c h) k.setup }

  module _ (x : Screen) (k : Kept u m x) (b : Box) (h : Behind x b) where
    -- what an advance hands back is what the rules say
    advance_shown : shown_by Call.advance_frame b ≡ shown_from u x.session Asked.advance_frame
    unfolding seen value_of
    advance_shown =
        let s : SpectatorSession = x.session in
        let d = m.advance_frame s k.good.value in
        let now-at : u.current_frame s ≡ s.current_frame = let q = m.current_frame s k.good.value in cc in
        let copied : b.copied ≡ held_statuses s.statuses = copied_last h.run ∙ ap (λ (w : Watch). w.statuses) h.watch in
        rw (h.watch, copied, now-at, frames_given _ _ d.requests, none_numbered)

    shown_is : (c : Asked) → shown_by (call_of c) b ≡ shown_from u x.session c
    shown_is (Asked.synchronize now epoch nonce out) = refl
    shown_is (Asked.message from y payload now epoch nonce out) = refl
    shown_is (Asked.datagram from d now epoch nonce out) = refl
    shown_is (Asked.take_messages out) = refl
    shown_is (Asked.take_messages_into out into) = refl
    shown_is (Asked.poll_remote_clients now epoch nonce out) = refl
    shown_is Asked.advance_frame = advance_shown
    shown_is Asked.take_events = refl

    pub after-behind : (c : Asked) → IsAsked c → Behind (after u c x) (next_box (call_of c) b)
    after-behind c i =
        record {
          run = Showing.more h.run (call_of c) (asked_typed c i);
          watch = rw h.watch (sym (after-seen u m x.session k.good.value c i));
          queued = rw (h.watch, h.queued, queued_messages u m x.session k.good c i);
          shown = ap (λ (l : List Shown). l ++ shown_by (call_of c) b) h.shown ∙ ap (λ (l : List Shown). x.shown ++ l) (shown_is c);
        }

  pub watching_kept : {x : Screen} → Watching u x → Kept u m x
  watching_kept (Watching.begin g now t i n) = opens_kept g now t i n
  watching_kept (Watching.more {x} p c i) = after_kept x (watching_kept p) c i

  pub watching_behind : {x : Screen} → (p : Watching u x) → Behind x (box_of p)
  unfolding box_of
  watching_behind (Watching.begin g now t i n) = opens-behind g now t i n
  watching_behind (Watching.more {x} p c i) = after-behind x (watching_kept p) (box_of p) (watching_behind p) c i
