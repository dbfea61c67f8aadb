-- Over every run of a session: the frames shown are 0, 1, 2, .. up to the current one, with what its endpoint announced, and marked by the statuses copied last.
use borrow.Author.Tests.{ltb-true, lt-ltb, eqb-true}
use mathlib.Core.Bool.{Bool, true, false}
use mathlib.Core.List.Memᴰ.{append_left as mem-left}
use mathlib.Core.List.Memᴰ.{not-nil}
use mathlib.Core.List.{List, [], ◌∷◌, ◌++◌, append_assoc}
use mathlib.Core.Path.{◌≡◌, refl, sym, ap, ◌∙◌}
use Prim.Native.Nat.{ℕ, suc, ◌+◌, ◌≤◌, ◌<◌}
use native.Mathlib.Omega.{arith}
use native.Mathlib.Nat.{add-zero, zero-add, add-suc, suc-add}
use lib.Dec.{ltb, eqb}
use lib.ListN.{length, get_or, length-append}
use Rattle.base.specs.Pick.{pick}
use Rattle.base.specs.First.{first_of}
use Rattle.base.proofs.Bools.{both}
use Rattle.frame.specs.Bias.{bias32, null_frame}
use Rattle.status.specs.Status.{default_status}
use Rattle.status.specs.declared.ConnectionStatus.{ConnectionStatus}
use Rattle.events.specs.declared.Entry.{Entry}
use Rattle.events.specs.declared.Event.{Event}
use Rattle.setup.specs.Setup.{Terms}
use Rattle.endpoint_rules.specs.Seen.{made}
use Rattle.endpoint_invariant.specs.Each.{Each}
use Rattle.endpoint_invariant.specs.Announcement.{InputAnnouncement, Announcement}
use Rattle.endpoint_invariant.proofs.Choices.{never, by_pick}
use Rattle.endpoint_invariant.proofs.Eaches.{each_append, each_also}
use Rattle.endpoint_delivery.proofs.Wires.{each_mem}
use Rattle.spectator_rules.specs.declared.InputStatus.TheVariants.{Confirmed, Disconnected}
use Rattle.spectator_rules.specs.declared.SyncedInput.{SyncedInput}
use Rattle.spectator_rules.specs.Watch.{Watch, made_watch}
use Rattle.spectator_rules.specs.Handling.{announce, input_handled, handled, handled_all}
use Rattle.spectator_rules.specs.Advance.{behind_overflows, is_gone, status_of, synced_at, frames_to_advance, requests_of, advance_refusal, advanced}
use Rattle.spectator_rules.specs.Call.{Call}
use Rattle.spectator_rules.specs.Step.{Did, fresh, refused, changed, decided, by_host, poll_refusal, polled, poll_step, advance_step, frames_behind_step, step}
use Rattle.spectator_invariant.specs.Typed.{Typed}
use Rattle.spectator_invariant.specs.Seated.{Rising, Seated}
use Rattle.spectator_invariant.proofs.Rising.{rising-append, rising_once}
use Rattle.spectator_invariant.specs.Handled.{handled_by, Came}
use Rattle.spectator_invariant.proofs.Advancing.{advance_counts, advance_gives}
use Rattle.spectator_invariant.proofs.Seated.{fresh_seated, step_seated}
use Rattle.spectator_invariant.proofs.Handled.{call_kept, advance_came, fresh_came}
use Rattle.spectator_delivery.specs.Viewing.{Shown, Box, numbered_from, shown_by, events_by, next_box, Showing}
use Rattle.spectator_delivery.specs.Viewed.{InTurn, ByPlayer, FromEvents, ZerosPast, MarksLeft, Marked, Shows}
use Rattle.spectator_delivery.proofs.Copying.{call_copies}
use Rattle.spectator_delivery.proofs.Announcing.{call_announces, call_announcements}

-- ---- lists of frames shown, and of inputs

turn_append : (first : ℕ) (l m : List Shown) → InTurn first l → InTurn (first + length l) m → InTurn first (l ++ m)
unfolding InTurn
turn_append first [] m h k = rw add-zero at k
turn_append first (s ∷ l) m h k = (h.0, turn_append (suc first) l m h.1 (rw (suc-add, ← add-suc) k))

numbered_turn : (number : ℕ) (statuses : List ConnectionStatus) (ls : List (List SyncedInput)) → InTurn number (numbered_from number statuses ls)
unfolding InTurn numbered_from
numbered_turn number statuses [] = tt
numbered_turn number statuses (l ∷ ls) = (refl, numbered_turn (suc number) statuses ls)

numbered-length : (number : ℕ) (statuses : List ConnectionStatus) (ls : List (List SyncedInput)) → length (numbered_from number statuses ls) ≡ length ls
unfolding numbered_from
numbered-length number statuses [] = refl
numbered-length number statuses (l ∷ ls) = ap suc (numbered-length (suc number) statuses ls)

-- what holds of each by its place
numbered_each : (P : Shown → Type 0) (number : ℕ) (statuses : List ConnectionStatus) (ls : List (List SyncedInput))
    → ((i : ℕ) → i < length ls → P (record { number = number + i; inputs = get_or ls i []; statuses = statuses })) → Each P (numbered_from number statuses ls)
unfolding numbered_from Each
numbered_each P number statuses [] f = tt
numbered_each P number statuses (l ∷ ls) f =
    (rw add-zero at (f 0 (omega arith)), numbered_each P (suc number) statuses ls (λ i b. rw (add-suc, ← suc-add) at (f (suc i) (omega arith))))

-- a player's place is the player's number
by_place_from : (P : (player : ℕ) → SyncedInput → Type 0) (player : ℕ) (l : List SyncedInput) → ((i : ℕ) → i < length l → (none : SyncedInput) → P (player + i) (get_or l i none))
    → ByPlayer P player l
unfolding ByPlayer
by_place_from P player [] f = tt
by_place_from P player (y ∷ l) f = (rw add-zero at (f 0 (omega arith) y), by_place_from P (suc player) l (λ i b n. rw (add-suc, ← suc-add) at (f (suc i) (omega arith) n)))

by_place : (P : (player : ℕ) → SyncedInput → Type 0) (l : List SyncedInput) → ((player : ℕ) → player < length l → (none : SyncedInput) → P player (get_or l player none)) → ByPlayer P 0 l
by_place P l f = by_place_from P 0 l (λ i b none. rw zero-add (f i b none))

-- what follows for each player, from the first on
pub by_also : (P Q : (player : ℕ) → SyncedInput → Type 0) (first : ℕ) (l : List SyncedInput) → ((player : ℕ) (y : SyncedInput) → first ≤ player → P player y → Q player y)
    → ByPlayer P first l → ByPlayer Q first l
unfolding ByPlayer
by_also P Q first [] f h = tt
by_also P Q first (y ∷ l) f h = (f first y (omega arith) h.0, by_also P Q (suc first) l (λ player z b k. f player z (omega arith) k) h.1)

more_events : (players : ℕ) (events more : List Entry) (s : Shown) → FromEvents players events s → FromEvents players (events ++ more) s
more_events players events more s h = record { count = h.count; inputs = by_also _ _ 0 s.inputs (λ player y _ m. mem-left {s = events} more m) h.inputs }

-- past its bytes an input that was announced has zeros
zeros_past : (t : Terms) (players : ℕ) (events more : List Entry) → Each (Announcement t) (events ++ more) → (s : Shown) → FromEvents players events s → ZerosPast t.input_size s
zeros_past t players events more a s h =
    by_also _ _ 0 s.inputs (λ player y _ m.
    let input : InputAnnouncement t s.number player y.input = each_mem (Announcement t) (events ++ more) a (mem-left {s = events} more m) in
    input.past)
    h.inputs

-- ---- an advance

not_confirmed : Confirmed ≡ Disconnected → ⊥
not_confirmed e = let z : ◌≡◌ {A = ℕ} 0 1 = cc in omega arith

-- an input is marked by whether its player is gone
marks : (frame : ℕ) (s : ConnectionStatus) → MarksLeft frame s (status_of (is_gone frame s))
marks frame s = go (is_gone frame s) refl
  where
    go : (t : Bool) → is_gone frame s ≡ t → MarksLeft frame s (status_of t)
    go true q = let k = both s.disconnected (ltb s.last_frame frame) q in (λ _. (k.0, ltb-true s.last_frame frame k.1), λ _. refl)
    go false q = (λ e. absurd (not_confirmed e), λ k. never (sym q ∙ rw (k.0, lt-ltb s.last_frame frame k.1)))

-- what a call shows goes on from the current frame, up to the current one after it
record Added (x : Box) (l : List Shown) (w : Watch) : Type 0 where
  turn : InTurn (suc x.watch.current) l
  current : w.current ≡ x.watch.current + length l
  announced : Each (FromEvents x.watch.host.setup.players x.handled) l
  marked : Each (Marked x.watch.host.setup.players) l

-- handling events leaves the current frame
all_current : (l : List Entry) (w : Watch) → (handled_all l w).current ≡ w.current
unfolding handled_all handled announce input_handled
all_current [] w = refl
all_current (x ∷ l) w = go x.event (all_current l (handled x w))
  where
    go : (e : Event) → (handled_all l (handled (record { event = e; input = x.input }) w)).current ≡ (handled (record { event = e; input = x.input }) w).current
        → (handled_all l (handled (record { event = e; input = x.input }) w)).current ≡ w.current
    go (Event.Synchronizing total count) k = k
    go Event.Synchronized k = k
    go (Event.Input frame player) k = k
    go Event.Disconnected k = k
    go (Event.NetworkInterrupted timeout) k = k
    go Event.NetworkResumed k = k

module _ (x : Box) (h : Seated x.watch) (came : Came x.handled x.watch.inputs) (e : x.copied ≡ x.watch.statuses) where
  abbrev w : Watch
  w = x.watch

  none : (y : Watch) → y.current ≡ w.current → Added x [] y
  unfolding InTurn Each
  none y c = record { turn = tt; current = c ∙ sym (add-zero w.current); announced = tt; marked = tt }

  module _ (z : advance_refusal w ≡ 0) (i : ℕ) (b : i < frames_to_advance w) where
    abbrev frame : Shown
    frame = record { number = suc w.current + i; inputs = get_or (requests_of w) i []; statuses = x.copied }

    count : length frame.inputs ≡ w.host.setup.players
    count = (advance_counts w h).1 i b

    frame-announced : FromEvents w.host.setup.players x.handled frame
    frame-announced =
        record {
          count = count;
          inputs =
              by_place _ frame.inputs (λ player c none.
              let d : player < w.host.setup.players = omega (arith, count) in
              rw (advance_gives w h i player none b d) (advance_came w h x.handled came z i player b d));
        }

    frame_marked : Marked w.host.setup.players frame
    unfolding synced_at
    frame_marked =
        record {
          count = rw e h.own.players;
          inputs =
              by_place _ frame.inputs (λ player c none.
              let d : player < w.host.setup.players = omega (arith, count) in
              rw (advance_gives w h i player none b d, e) (marks (suc w.current + i) (get_or w.statuses player default_status)));
        }

  advanced-added : advance_refusal w ≡ 0 → Added x (numbered_from (suc w.current) x.copied (requests_of w)) (advanced w)
  advanced-added z =
      let n = (advance_counts w h).0 in
      record {
        turn = numbered_turn (suc w.current) x.copied (requests_of w);
        current = rw (numbered-length (suc w.current) x.copied (requests_of w), n);
        announced = numbered_each _ (suc w.current) x.copied (requests_of w) (λ i b. frame-announced z i (rw n at b));
        marked = numbered_each _ (suc w.current) x.copied (requests_of w) (λ i b. frame_marked z i (rw n at b));
      }

  -- every call
  call_adds : (c : Call) → Added x (shown_by c x) (step c w).after
  unfolding step by_host poll_step decided refused advance_step frames_behind_step polled
  call_adds (Call.synchronize now epoch nonce buffer) = none _ refl
  call_adds (Call.message from count m now epoch nonce buffer) = none _ refl
  call_adds (Call.datagram from bytes now epoch nonce buffer) = none _ refl
  call_adds (Call.poll_remote_clients now epoch nonce buffer) =
      by_pick (λ (d : Did). Added x [] d.after) (eqb (poll_refusal now epoch nonce buffer w) 0) (polled now epoch nonce buffer w) _
      (λ _. none (polled now epoch nonce buffer w).after (all_current _ _)) (λ _. none w refl)
  call_adds Call.advance_frame = go (eqb (advance_refusal w) 0) refl
    where
      after : Bool → Did
      after t = pick t (changed (advanced w)) (refused (advance_refusal w) w)

      go : (t : Bool) → eqb (advance_refusal w) 0 ≡ t
          → Added x (pick (eqb (after t).answer 0) (numbered_from (suc w.current) x.copied (requests_of w)) []) (after t).after
      go true q = advanced-added (eqb-true (advance_refusal w) 0 q)
      go false q = rw q (none w refl)
  call_adds (Call.take_messages buffer) = none _ refl
  call_adds Call.take_events = none _ refl
  call_adds (Call.network_stats epoch) = none _ refl
  call_adds Call.frames_behind_host =
      by_pick (λ (d : Did). Added x [] d.after) (eqb (first_of ((behind_overflows w, 6) ∷ [])) 0) (changed w) _ (λ _. none w refl) (λ _. none w refl)
  call_adds Call.current_state = none w refl
  call_adds Call.current_frame = none w refl
  call_adds Call.num_players = none w refl

-- ---- a run

-- what runs keep
record Watched (x : Box) : Type 0 where
  seated : Seated x.watch
  came : Came x.handled x.watch.inputs
  rises : Rising x.watch.host.setup.players null_frame 0 x.watch.newest x.handled
  copied : x.copied ≡ x.watch.statuses
  announcements : Each (Announcement x.watch.host.setup) x.announced
  shows : Shows x

watched_more : (x : Box) → Watched x → (c : Call) → Typed c → Watched (next_box c x)
watched_more x h c t =
    let k = call_kept x.watch h.seated x.handled h.came c t in
    let a = call_adds x h.seated h.came h.copied c in
    let s = h.shows in
    let n = x.watch.host.setup.players in
    let r = rising-append n null_frame 0 x.watch.newest _ x.handled (handled_by c x.watch) h.rises k.rises in
    let whole = append_assoc x.handled (handled_by c x.watch) (step c x.watch).after.host.events
    ∙ ap (λ (l : List Entry). x.handled ++ l) (call_announces x.watch h.seated c t)
    ∙ sym (append_assoc x.handled x.watch.host.events (events_by c x.watch))
    ∙ ap (λ (l : List Entry). l ++ events_by c x.watch) s.whole in
    let all = each_append _ x.announced (events_by c x.watch) h.announcements (call_announcements x.watch h.seated c t) in
    let came = each_also _ (FromEvents n (x.handled ++ handled_by c x.watch)) (more_events n x.handled (handled_by c x.watch)) (x.shown ++ shown_by c x)
    (each_append _ x.shown (shown_by c x) s.announced a.announced) in
    record {
      seated = step_seated c t x.watch h.seated;
      came = k.came;
      rises = rw k.terms r;
      copied = call_copies x h.copied c;
      announcements = rw k.terms all;
      shows = record {
        turn = turn_append bias32 x.shown (shown_by c x) s.turn (rw s.current a.turn);
        current = rw a.current (omega (arith, length-append x.shown (shown_by c x), s.current));
        whole = whole;
        announced = rw k.terms came;
        zeros =
            rw k.terms
            (each_also _ _ (zeros_past x.watch.host.setup n (x.handled ++ handled_by c x.watch) (step c x.watch).after.host.events (rw whole all)) (x.shown ++ shown_by c x) came);
        once = λ frame player input other a b. rising_once n null_frame 0 _ (x.handled ++ handled_by c x.watch) frame player input other r a b;
        marked = rw k.terms (each_append _ x.shown (shown_by c x) s.marked a.marked);
      };
    }

watched : {x : Box} → Showing x → Watched x
unfolding fresh made made_watch InTurn Each Rising
watched (Showing.begin g now t z) =
    record {
      seated = fresh_seated g now t z;
      came = fresh_came g now;
      rises = (refl, refl);
      copied = refl;
      announcements = tt;
      shows = record { turn = tt; current = omega arith; whole = refl; announced = tt; zeros = tt; once = λ frame player input other a b. absurd (not-nil a); marked = tt };
    }
watched (Showing.more {x} r c t) = watched_more x (watched r) c t

-- what a box shows, whatever messages it is handed
pub shows : {x : Box} → Showing x → Shows x
shows r = (watched r).shows

-- the session's own statuses are those that were copied last
pub copied_last : {x : Box} → Showing x → x.copied ≡ x.watch.statuses
copied_last r = (watched r).copied
