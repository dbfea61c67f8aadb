-- Over every run of two endpoints: what each announced is what the other accepted first, in order, each frame once, bytes equal.
use mathlib.Core.List.{List, [], ◌∷◌, ◌++◌, map, append_assoc}
use mathlib.Core.Logic.{◌⊎◌, inl, inr}
use mathlib.Core.Path.{◌≡◌, refl, sym, ap, ◌∙◌}
use Prim.Native.Nat.{ℕ, zero, suc, ◌+◌, ◌*◌, ◌≤◌, ◌<◌}
use native.Mathlib.Omega.{arith}
use native.Mathlib.Nat.{add-zero, add-suc, suc-add}
use lib.ListN.{length, take, drop}
use lib.Seq.{length-take-le}
use Rattle.frame.specs.Bias.{null_frame}
use Rattle.packing.specs.Packing.{Wide}
use Rattle.packing.specs.declared.input_bytes.InputBytes.{InputBytes}
use Rattle.history.specs.History.{blank_frame, newest_of, numbered}
use Rattle.events.specs.declared.Entry.{Entry}
use Rattle.setup.specs.declared.Setup.{Setup}
use Rattle.setup.specs.Setup.{SoundSetup, receiving_width, sending_width}
use Rattle.setup.proofs.Laws.{receiving_within}
use Rattle.endpoint_rules.specs.Seen.{made}
use Rattle.endpoint_rules.specs.Call.{Call}
use Rattle.endpoint_rules.specs.Step.{fresh, step}
use Rattle.endpoint_invariant.specs.Each.{Each}
use Rattle.endpoint_invariant.specs.Runs.{handed}
use Rattle.endpoint_invariant.specs.Sound.{Sound}
use Rattle.endpoint_invariant.specs.Typed.{Typed}
use Rattle.endpoint_invariant.proofs.Sound.{fresh_sound, step_sound}
use Rattle.endpoint_invariant.proofs.Announced.{step-announces}
use Rattle.endpoint_delivery.specs.Frames.{accepted_by, Announced, last_announced, shares, announced_to, AsWide, Following}
use Rattle.endpoint_delivery.specs.Runs.{End, starts, next, announced_by, pending_by, Allowed, Meet, Run, Holds, IsToHold, InOrder}
use Rattle.endpoint_delivery.specs.Runs.Run.{begin, at_a, at_b}
use Rattle.endpoint_delivery.proofs.Lists.{Mem, here, there, not-nil, cases_cons, take-padded, wide-take, wide-drop}
use Rattle.endpoint_delivery.proofs.Tape.{Tape, ref, framed, ref_inj, top_is}
use Rattle.endpoint_delivery.proofs.Moves.{begins}
use Rattle.endpoint_delivery.proofs.Calls.{Side, Way, Both, onto, call_kept}
use Rattle.endpoint_delivery.proofs.Announcing.{of_inputs, frames_announced}

-- an end with all events that it announced: those taken and those held
abbrev pub side : End → Side
side x = record { state = x.state; queued = x.queued; events = x.taken ++ x.state.events; accepted = x.accepted }

-- what a call announces is held or taken after it
pub side_next : (c : Call) (x : End) → side (next c x) ≡ onto (side x) (step c x.state) (accepted_by c x.state)
side_next c x =
    let d = step c x.state in
    let e : (x.taken ++ handed c x.state) ++ d.after.events ≡ (x.taken ++ x.state.events) ++ d.events =
    append_assoc x.taken (handed c x.state) d.after.events
    ∙ ap (λ (l : List Entry). x.taken ++ l) (step-announces c x.state)
    ∙ sym (append_assoc x.taken x.state.events d.events) in
    rw e

-- what runs keep
pub record Tied (a b : End) : Type 0 where
  pub both : Both (side a) (side b)
  pub meet : Meet a.state b.state
  pub sound_a : Sound a.state
  pub sound_b : Sound b.state

abbrev pub turned : {a b : End} → Tied a b → Tied b a
turned t =
    record {
      both = record { goes = t.both.comes; comes = t.both.goes };
      meet = record { there = t.meet.back; back = t.meet.there };
      sound_a = t.sound_b;
      sound_b = t.sound_a;
    }

begun : (g h : Setup) (now then : ℕ) → Both (side (starts (fresh g now).1)) (side (starts (fresh h then).1))
unfolding fresh made
begun g h now then = record { goes = begins _ _ _ _; comes = begins _ _ _ _ }

stepped : {a b : End} → Tied a b → (c : Call) → Typed c → Allowed c b.queued → Tied (next c a) b
stepped {a} {b} t c y q =
    let k = call_kept (side a) (side b) t.both t.meet t.sound_a t.sound_b c y q in
    record {
      both = rw (side_next c a) k.both;
      meet = record { there = rw k.setup t.meet.there; back = rw k.setup t.meet.back };
      sound_a = step_sound c y a.state t.sound_a;
      sound_b = t.sound_b;
    }

pub tied : {a b : End} → Run a b → Tied a b
tied (begin g h now then tg th zg zh m) = record { both = begun g h now then; meet = m; sound_a = fresh_sound g now tg zg; sound_b = fresh_sound h then th zh }
tied (at_a r c y q) = stepped (tied r) c y q
tied (at_b r c y q) = turned (stepped (turned (tied r)) c y q)

-- ---- in order

following : (f : ℕ) (bs : List (List ℕ)) → Following f (framed f bs)
unfolding Following
following f [] = tt
following f (b ∷ bs) = (refl, following (suc f) bs)

wide_framed : (w f : ℕ) (bs : List (List ℕ)) → Wide w bs → Each (AsWide w) (framed f bs)
unfolding Wide Each
wide_framed w f [] h = tt
wide_framed w f (b ∷ bs) h = (h.0, wide_framed w (suc f) bs h.1)

pub take_framed : (f n : ℕ) (l : List (List ℕ)) → take n (framed f l) ≡ framed f (take n l)
take_framed f zero l = refl
take_framed f (suc n) [] = refl
take_framed f (suc n) (b ∷ bs) = rw (take_framed (suc f) n bs)

drop_framed : (f n : ℕ) (l : List (List ℕ)) → drop n (framed f l) ≡ framed (f + n) (drop n l)
drop_framed f zero l = rw add-zero
drop_framed f (suc n) [] = refl
drop_framed f (suc n) (b ∷ bs) = rw (drop_framed (suc f) n bs, add-suc, suc-add)

-- what stands in a store of inputs, without the zeros behind it
unpadded : (w f : ℕ) (l : List (List ℕ)) → w ≤ 64 → Wide w l → map (λ (y : InputBytes). record { number = y.frame; bytes = take w y.bytes }) (numbered f l) ≡ framed f l
unfolding numbered Wide
unpadded w f [] few h = refl
unpadded w f (b ∷ bs) few h = rw (take-padded w b few h.0, unpadded w (suc f) bs few h.1)

length_framed : (f : ℕ) (l : List (List ℕ)) → length (framed f l) ≡ length l
length_framed f [] = refl
length_framed f (b ∷ bs) = rw (length_framed (suc f) bs)

last_framed : (size : ℕ) (hs : List ℕ) (none f : ℕ) (b : List ℕ) (l : List (List ℕ)) → last_announced none (map (announced_to size hs) (framed f (b ∷ l))) ≡ f + length l
unfolding last_announced
last_framed size hs none f b [] = rw add-zero
last_framed size hs none f b (c ∷ l) = rw (last_framed size hs f (suc f) c l) (omega arith)

-- the reference after all frames of a tape's beginning is the last of them
last_ref : {w : ℕ} (t : Tape w) (size : ℕ) (hs : List ℕ) (n : ℕ) → n ≤ length t.bs → last_announced null_frame (map (announced_to size hs) (framed t.f (take n t.bs))) ≡ (ref t n).frame
unfolding last_announced blank_frame
last_ref t size hs n m = go n (take n t.bs) (length-take-le n t.bs m)
  where
    go : (n : ℕ) (l : List (List ℕ)) → length l ≡ n → last_announced null_frame (map (announced_to size hs) (framed t.f l)) ≡ (ref t n).frame
    go zero [] e = refl
    go zero (b ∷ l) e = absurd (omega arith)
    go (suc n) [] e = absurd (omega arith)
    go (suc n) (b ∷ l) e = last_framed size hs null_frame t.f b l ∙ omega arith

-- an announced frame is one of the tape's, and each of them is announced
announced_mem : (size : ℕ) (hs : List ℕ) (f : ℕ) (l : List (List ℕ)) {x : Announced} → Mem x (map (announced_to size hs) (framed f l)) → (j : ℕ) × (j < length l) × (x.number ≡ f + j)
announced_mem size hs f [] m = absurd (not-nil m)
announced_mem size hs f (b ∷ l) {x} m = go (λ q. announced_mem size hs (suc f) l q) (cases_cons m)
  where
    go : (Mem x (map (announced_to size hs) (framed (suc f) l)) → (j : ℕ) × (j < length l) × (x.number ≡ suc f + j))
        → (x ≡ record { number = f; inputs = shares size hs b }) ⊎ Mem x (map (announced_to size hs) (framed (suc f) l)) → (j : ℕ) × (j < length (b ∷ l)) × (x.number ≡ f + j)
    go ih (inl q) = (zero, omega arith, ap (λ (y : Announced). y.number) q ∙ rw add-zero)
    go ih (inr q) = (suc (ih q).0, omega (arith, (ih q).1), omega (arith, (ih q).2))

mem_announced : (size : ℕ) (hs : List ℕ) (f : ℕ) (l : List (List ℕ)) (j : ℕ) → j < length l → (x : Announced) × Mem x (map (announced_to size hs) (framed f l)) × (x.number ≡ f + j)
mem_announced size hs f [] j h = absurd (omega arith)
mem_announced size hs f (b ∷ l) zero h = (record { number = f; inputs = shares size hs b }, here refl, rw add-zero)
mem_announced size hs f (b ∷ l) (suc j) h = let x = mem_announced size hs (suc f) l j (omega arith) in (x.0, there x.1, omega (arith, x.2))

module _ (a b : End) (d : Way (side a) (side b)) (h : SoundSetup b.state.setup) where
  abbrev size : ℕ
  size = b.state.setup.input_size

  abbrev handles : List ℕ
  handles = b.state.setup.handles

  announced_is : announced_by b ≡ map (announced_to size handles) (framed d.tape.f (take d.reached d.tape.bs))
  announced_is =
      let t = d.tape in
      let n = d.reached in
      of_inputs size (b.taken ++ b.state.events)
      ∙ rw d.link.announced
      (frames_announced size h.input_size.1 handles h.handles.0 (receiving_within b.state.setup h).1 t.f (take n t.bs) (wide-take _ n t.bs t.wide))

  last_is : last_announced null_frame (announced_by b) ≡ (ref d.tape d.reached).frame
  last_is = rw announced_is (last_ref d.tape size handles d.reached d.link.holding.most)

  -- what is held, by how many frames it is the reference after
  reference_held : (j : ℕ) → j ≤ d.reached → last_announced null_frame (announced_by b) ≤ (ref d.tape j).frame + 2 * b.state.setup.max_prediction → Holds (ref d.tape j).frame b
  reference_held j m q = (ref d.tape j, d.link.holding.has j m (rw last_is at q), refl)

  holds_these : (number : ℕ) → IsToHold number b → Holds number b
  unfolding blank_frame
  holds_these number q = go q.0
    where
      n : ℕ
      n = d.reached

      go : (number ≡ null_frame) ⊎ ((x : Announced) × Mem x (announced_by b) × (x.number ≡ number)) → Holds number b
      go (inl e) = rw e (reference_held 0 (omega arith) (rw e at q.1))
      go (inr x) =
          let j = announced_mem size handles d.tape.f (take n d.tape.bs) (rw announced_is at x.1) in
          let e : number ≡ d.tape.f + j.0 = sym x.2 ∙ j.2 in
          rw e (reference_held (suc j.0) (omega (arith, j.1, length-take-le n d.tape.bs d.link.holding.most)) (rw e at q.1))

  holds_only : (number : ℕ) → Holds number b → IsToHold number b
  unfolding blank_frame
  holds_only number y =
      let old = d.link.holding.old y.0 y.1 in
      let top = top_is d.tape d.reached b.state.carried.receiver.history d.link.holding in
      (go old.0 old.1 (sym (ap (λ (x : InputBytes). x.frame) old.2) ∙ y.2), omega (arith, d.link.lined y.0 y.1, y.2, top, last_is))
    where
      go : (j : ℕ) → j ≤ d.reached → (ref d.tape j).frame ≡ number → (number ≡ null_frame) ⊎ ((x : Announced) × Mem x (announced_by b) × (x.number ≡ number))
      go zero m e = inl (sym e)
      go (suc j) m e =
          let l : List (List ℕ) = take d.reached d.tape.bs in
          let x = mem_announced size handles d.tape.f l j (omega (arith, length-take-le d.reached d.tape.bs d.link.holding.most)) in
          inr (x.0, rw announced_is x.1, x.2 ∙ e)

  pending_is : sending_width a.state.setup ≡ receiving_width b.state.setup → pending_by a ≡ drop d.dropped a.accepted
  pending_is e =
      let t = d.tape in
      let k = d.dropped in
      rw (d.link.accepted, drop_framed t.f k t.bs, e, d.link.sending.pend)
      (unpadded _ (t.f + k) (drop k t.bs) (receiving_within b.state.setup h).1 (wide-drop _ k t.bs t.wide))

  pub ordered : sending_width a.state.setup ≡ receiving_width b.state.setup → InOrder a b
  ordered e =
      let t = d.tape in
      let n = d.reached in
      record {
        first = t.f;
        following = rw d.link.accepted (following t.f t.bs);
        wide = rw d.link.accepted (wide_framed _ t.f t.bs t.wide);
        count = n;
        most = rw (d.link.accepted, length_framed t.f t.bs) d.link.holding.most;
        announced = rw (d.link.accepted, take_framed t.f n t.bs) announced_is;
        newest = rw last_is (top_is t n b.state.carried.receiver.history d.link.holding);
        dropped = d.dropped;
        arrived = d.link.behind;
        pending = pending_is e;
        holds = holds_these;
        only = holds_only;
      }

  -- while its newest frame is none it announced none
  pub none_yet : newest_of b.state.carried.receiver.history ≡ null_frame → announced_by b ≡ []
  unfolding blank_frame
  none_yet e =
      let z : d.reached ≡ 0 = ref_inj d.tape d.reached 0 (sym (top_is d.tape d.reached b.state.carried.receiver.history d.link.holding) ∙ e) in
      rw z at announced_is

-- demand 3, its first part: at every moment, in both directions
pub in_order : {a b : End} → Run a b → InOrder a b × InOrder b a
in_order {a} {b} r = let t = tied r in (ordered a b t.both.goes t.sound_b.setup t.meet.there, ordered b a t.both.comes t.sound_a.setup t.meet.back)
