-- One direction: what one end sends, what the other takes in, the Inputs that the one queued and the acks that the other did.
use mathlib.Core.Path.{◌≡◌, refl, sym, ap, ◌∙◌}
use mathlib.Core.Bool.{Bool, true, false}
use mathlib.Core.List.{List, [], ◌∷◌, ◌++◌, append-nil, map}
use mathlib.Core.Logic.{inl, inr}
use Prim.Native.Nat.{ℕ, zero, suc, ◌+◌, ◌-◌, ◌*◌, ◌^◌, ◌≤◌, ◌<◌, max}
use native.Mathlib.Omega.{arith}
use native.Mathlib.Nat.{add-suc, add_assoc}
use lib.Dec.{eqb}
use lib.ListN.{length, get_or, take, drop, length-drop, take-append-drop, drop_of_length-le}
use lib.Seq.{get_or-drop, get_or-take, drop-drop, take-take, length-take-le, take-length, take_all}
use borrow.Author.Tests.{eqb-true, le-leb, leb-true}
use Rattle.base.specs.Pick.{pick}
use Rattle.base.proofs.Digits.{below_or_not}
use Rattle.frame.specs.Bias.{null_frame}
use Rattle.packing.specs.Packing.{pack, unpack, decodable, Wide}
use Rattle.packing.specs.declared.input_bytes.InputBytes.{InputBytes}
use Rattle.packing.proofs.Laws.{unpack-pack, pack-decodable}
use Rattle.packing.proofs.Pads.{zeros-length, padded-length}
use Rattle.pending.specs.Pending.{drop_to, last_to, first_frame, last_frame, payload, sent_bytes}
use Rattle.history.specs.History.{blank_frame, newest_of, Found, found_in, reference_frame, stays, at_line, above, numbered, packet_of, taken_in}
use Rattle.history.proofs.Laws.{found_frame}
use Rattle.codec.specs.Message.{Wire}
use Rattle.setup.specs.Setup.{Terms, SoundSetup, receiving_width}
use Rattle.setup.proofs.Laws.{receiving_within}
use Rattle.endpoint_rules.specs.Seen.{Sender}
use Rattle.endpoint_rules.specs.Sending.{dropped_to, last_accepted}
use Rattle.endpoint_rules.specs.Receiving.{Reception, taken, received_if, receive}
use Rattle.endpoint_invariant.specs.Each.{Each}
use Rattle.endpoint_invariant.specs.Sound.{SoundReceiver}
use Rattle.endpoint_invariant.proofs.Receivers.{never_full}
use Rattle.endpoint_delivery.specs.Frames.{Frame}
use Rattle.endpoint_delivery.proofs.Lists.{Mem, append_cases, mem-left, mem-right, entry, kept_mem, kept_passes, mem_kept, found_mem, newest_bound, newest_mem, wide-take, wide-drop, bytes-numbered, number_append, mem_number, number_mem, above_all, above-drop, drop_none, last_none, drop_some, last_some, last_number}
use Rattle.endpoint_delivery.proofs.Wires.{OnInput, OnAck}

-- ---- what has been accepted for sending: bytes of one width, at the frames f, f + 1, ...

pub record Tape (w : ℕ) : Type 0 where
  pub f : ℕ
  pub bs : List (List ℕ)
  pub first : null_frame < f
  pub last : f + length bs ≤ 2 ^ 32
  pub wide : Wide w bs

-- the reference after j frames: the blank one, then the j-th
abbrev pub ref : {w : ℕ} → Tape w → ℕ → InputBytes
ref {w} t zero = blank_frame
ref {w} t (suc j) = entry (t.f + j) (get_or t.bs j [])

abbrev pub part : {w : ℕ} → Tape w → ℕ → ℕ → List (List ℕ)
part t a b = drop a (take b t.bs)

abbrev pub framed : ℕ → List (List ℕ) → List Frame
framed f [] = []
framed f (b ∷ bs) = record { number = f; bytes = b } ∷ framed (suc f) bs

-- ---- the invariant, in parts. k: how many the sender has dropped; n: how many the receiver has announced; mp: its max_prediction, which sets the keep line

module _ {w : ℕ} (t : Tape w) where
  pub record Sending (k : ℕ) (s : Sender) : Type 0 where
    pub most : k ≤ length t.bs
    pub pend : s.pending ≡ numbered (t.f + k) (drop k t.bs)
    pub ackd : s.acked ≡ ref t k

  pub record Holding (mp n : ℕ) (h : List InputBytes) : Type 0 where
    pub most : n ≤ length t.bs
    pub old : (e : InputBytes) → Mem e h → (j : ℕ) × (j ≤ n) × (e ≡ ref t j)
    pub has : (j : ℕ) → j ≤ n → (ref t n).frame ≤ (ref t j).frame + 2 * mp → Mem (ref t j) h

  pub record Packet (n : ℕ) (p : List ℕ) (start : ℕ) : Type 0 where
    pub from : ℕ
    pub upto : ℕ
    pub known : from ≤ n
    pub some_new : from < upto
    pub most : upto ≤ length t.bs
    pub starts : start ≡ t.f + from
    pub is : p ≡ pack (ref t from).bytes (part t from upto)

  pub record Ack (n x : ℕ) : Type 0 where
    pub count : ℕ
    pub most : count ≤ n
    pub is : x ≡ (ref t count).frame

  abbrev pub Packets : ℕ → List Wire → Type 0
  Packets n log = Each (λ (x : Wire). OnInput (Packet n x.payload) x.body) log

  abbrev pub Acks : ℕ → List Wire → Type 0
  Acks n log = Each (λ (x : Wire). OnAck (Ack n) x.body) log

-- nothing held lies below the keep line of the newest
abbrev pub Lined : (mp : ℕ) → List InputBytes → Type 0
Lined mp h = (e : InputBytes) → Mem e h → newest_of h ≤ e.frame + 2 * mp

-- ---- references

module _ {w : ℕ} (t : Tape w) where
  ref_le : (i j : ℕ) → i ≤ j → (ref t i).frame ≤ (ref t j).frame
  unfolding blank_frame
  ref_le zero zero h = omega arith
  ref_le zero (suc j) h = omega arith
  ref_le (suc i) zero h = absurd (omega arith)
  ref_le (suc i) (suc j) h = omega arith

  pub ref_inj : (i j : ℕ) → (ref t i).frame ≡ (ref t j).frame → i ≡ j
  unfolding blank_frame
  ref_inj zero zero h = refl
  ref_inj zero (suc j) h = absurd (omega arith)
  ref_inj (suc i) zero h = absurd (omega arith)
  ref_inj (suc i) (suc j) h = omega arith

  pub ref_suc : (n : ℕ) → 0 < n → suc (ref t n).frame ≡ t.f + n
  ref_suc zero l = absurd (omega arith)
  ref_suc (suc n) l = omega arith

  pub ref_long : (i : ℕ) → length (ref t i).bytes ≡ 64
  unfolding blank_frame
  ref_long zero = zeros-length
  ref_long (suc i) = padded-length (get_or t.bs i [])

  null_ref : (n : ℕ) → null_frame ≤ (ref t n).frame
  unfolding blank_frame
  null_ref n = ref_le 0 n (omega arith)

  pub size_part : (a b : ℕ) → b ≤ length t.bs → length (part t a b) ≡ b - a
  size_part a b m = simp (length-drop, length-take-le b t.bs m)

  pub wide-part : (a b : ℕ) → Wide w (part t a b)
  wide-part a b = wide-drop w a (take b t.bs) (wide-take w b t.bs t.wide)

  -- the newest is held at any max_prediction
  pub top_held : {mp : ℕ} (n : ℕ) (h : List InputBytes) → Holding t mp n h → Mem (ref t n) h
  top_held n h i = i.has n (omega arith) (omega arith)

  pub top_is : {mp : ℕ} (n : ℕ) (h : List InputBytes) → Holding t mp n h → newest_of h ≡ (ref t n).frame
  top_is n h i =
      let up : newest_of h ≤ (ref t n).frame = newest_bound (ref t n).frame h (null_ref n) (λ e m. let r = i.old e m in rw r.2 (ref_le r.0 n r.1)) in
      omega (arith, newest_mem h (top_held n h i))

  -- ---- the sender drops

  keep_inv : (k x : ℕ) (s : Sender) → Sending t k s → x < t.f + k → Sending t k (dropped_to x s)
  unfolding dropped_to
  keep_inv k x s h l =
      let e : drop_to x s.pending ≡ s.pending = rw h.pend (drop_none x (t.f + k) (drop k t.bs) l) in
      let g : last_to x s.acked s.pending ≡ s.acked = rw h.pend (last_none x s.acked (t.f + k) (drop k t.bs) l) in
      record { most = h.most; pend = rw e h.pend; ackd = rw g h.ackd }

  drop_inv : (k i : ℕ) (s : Sender) → Sending t k s → k ≤ i → i < length t.bs → Sending t (suc i) (dropped_to (t.f + i) s)
  unfolding dropped_to
  drop_inv k i s h l m =
      let d : ℕ = i - k in
      let q : k + d ≡ i = omega arith in
      let b : d < length (drop k t.bs) = omega (arith, length-drop k t.bs) in
      let e : drop_to (t.f + i) s.pending ≡ numbered (t.f + suc i) (drop (suc i) t.bs) =
      rw h.pend (simp add-suc (simp (add_assoc, add-suc, drop-drop, q) at (drop_some (t.f + k) d (drop k t.bs) b))) in
      let g : last_to (t.f + i) s.acked s.pending ≡ ref t (suc i) =
      rw h.pend (simp (add_assoc, get_or-drop, q) at (last_some s.acked (t.f + k) d (drop k t.bs) b)) in
      record { most = m; pend = e; ackd = g }

  pub pop_inv : (k j : ℕ) (s : Sender) → Sending t k s → j ≤ length t.bs → (k' : ℕ) × (k' ≤ max k j) × Sending t k' (dropped_to (ref t j).frame s)
  unfolding blank_frame
  pop_inv k zero s h l = (k, omega arith, keep_inv k null_frame s h (omega arith))
  pop_inv k (suc i) s h l = elim (below_or_not i k) [
    | inl a ↦ (k, omega arith, keep_inv k (t.f + i) s h (omega arith))
    | inr a ↦ (suc i, omega arith, drop_inv k i s h a l)
  ]

  -- ---- the sender queues

  -- the last accepted frame
  pub last_is : (k : ℕ) (s : Sender) → Sending t k s → (m : ℕ) → length t.bs ≡ m → last_accepted s ≡ (ref t m).frame
  unfolding numbered last_frame
  last_is k s h m e = rw h.pend (go (drop k t.bs) refl m e)
    where
      go : (l : List (List ℕ)) → drop k t.bs ≡ l → (m : ℕ) → length t.bs ≡ m → last_frame s.acked.frame (numbered (t.f + k) l) ≡ (ref t m).frame
      go [] q m e = let z : k ≡ m = omega (arith, ap length q, length-drop k t.bs, h.most) in rw (h.ackd, z)
      go (b ∷ u) q zero e = absurd (omega (arith, ap length q, length-drop k t.bs))
      go (b ∷ u) q (suc m) e = last_number s.acked.frame (t.f + k) b u ∙ omega (arith, ap length q, length-drop k t.bs)

  -- the Input of all that is pending is a packet
  pub sent : (k n : ℕ) (s : Sender) (x : InputBytes) (xs : List InputBytes) → w ≤ 64 → Sending t k s → k ≤ n → s.pending ≡ x ∷ xs
      → Packet t n (payload w s.acked s.pending) (first_frame null_frame s.pending)
  unfolding payload first_frame numbered
  sent k n s x xs few h a p = rw (h.pend, h.ackd) (go (drop k t.bs) refl (sym h.pend ∙ p))
    where
      go : (l : List (List ℕ)) → drop k t.bs ≡ l → numbered (t.f + k) l ≡ x ∷ xs
          → Packet t n (pack (ref t k).bytes (map (sent_bytes w) (numbered (t.f + k) l))) (first_frame null_frame (numbered (t.f + k) l))
      go [] q m = absurd (omega (arith, ap length m))
      go (b ∷ u) q m =
          let wd : Wide w (b ∷ u) = rw q at (wide-drop w k t.bs t.wide) in
          record {
            from = k;
            upto = length t.bs;
            known = a;
            some_new = omega (arith, ap length q, length-drop k t.bs);
            most = omega arith;
            starts = refl;
            is = cc (take-length t.bs, bytes-numbered w (t.f + k) (b ∷ u) few wd);
          }

  -- ---- the receiver takes in

  new_mem : (n j n' : ℕ) → n < j → j ≤ n' → n' ≤ length t.bs → Mem (ref t j) (numbered (t.f + n) (part t n n'))
  new_mem n zero n' l b m = absurd (omega arith)
  new_mem n (suc i) n' l b m =
      let d : ℕ = i - n in
      let q : n + d ≡ i = omega arith in
      let r : i < n' = omega arith in
      simp (add_assoc, get_or-drop, get_or-take, q, r) at (mem_number (t.f + n) (part t n n') d (omega (arith, size_part n n' m)))

  -- the frames from n up to n', on top of a history up to n
  extend_inv : {mp : ℕ} (n n' : ℕ) (h : List InputBytes) → n ≤ n' → n' ≤ length t.bs → Holding t mp n h → Holding t mp n' (h ++ numbered (t.f + n) (part t n n'))
  extend_inv n n' h l m i = record {
    most = m;
    old = λ e q. elim (append_cases h q) [
      | inl a ↦ ((i.old e a).0, omega (arith, (i.old e a).1), (i.old e a).2)
      | inr a ↦ new e (number_mem (t.f + n) (part t n n') a)
    ];
    has = λ j b q. elim (below_or_not n j) [
      | inl a ↦ mem-right h (new_mem n j n' a b m)
      | inr a ↦ mem-left {s = h} (numbered (t.f + n) (part t n n')) (i.has j a (omega (arith, ref_le n n' l)))
    ];
  }
    where
      new : (e : InputBytes) → (j : ℕ) × (j < length (part t n n')) × (e ≡ entry (t.f + n + j) (get_or (part t n n') j [])) → (j : ℕ) × (j ≤ n') × (e ≡ ref t j)
      new e q =
          let r : n + q.0 < n' = omega (arith, size_part n n' m) in
          (suc (n + q.0), r, simp (add_assoc, get_or-drop, get_or-take, r) at q.2)

  -- what is too old goes
  line_inv : (n mp : ℕ) (h : List InputBytes) → Holding t mp n h → Holding t mp n (at_line mp h)
  unfolding at_line
  line_inv n mp h i = record {
    most = i.most;
    old = λ e m. i.old e (kept_mem (λ (x : InputBytes). stays (newest_of h) mp x.frame) h m);
    has = λ j b q. mem_kept (λ (x : InputBytes). stays (newest_of h) mp x.frame) h (i.has j b q) (le-leb (newest_of h) ((ref t j).frame + 2 * mp) (omega (arith, top_is n h i)));
  }

  line_lined : (n mp : ℕ) (h : List InputBytes) → Holding t mp n h → Lined mp (at_line mp h)
  unfolding at_line
  line_lined n mp h i e m =
      let passes : newest_of h ≤ e.frame + 2 * mp = leb-true _ _ (kept_passes (λ (x : InputBytes). stays (newest_of h) mp x.frame) h m) in
      omega (arith, passes, top_is n h i, top_is n (at_line mp h) (line_inv n mp h i))

  -- of the frames from `from` on, those above the newest are those from n on
  above_is : (from n x : ℕ) (l : List (List ℕ)) → from ≤ n → x ≡ (ref t n).frame
      → above x (numbered (t.f + from) (drop from l)) ≡ numbered (t.f + n) (drop n l)
  unfolding blank_frame
  above_is from zero x l h e = let q : from ≡ 0 = omega arith in rw q (above_all x (t.f + 0) l (omega arith))
  above_is from (suc n) x l h e =
      let d : ℕ = suc n - from in
      let q : from + d ≡ suc n = omega arith in
      simp (add_assoc, drop-drop, q) at (above-drop x (t.f + from) d (drop from l) (omega arith))

  pub grown : (n n' : ℕ) → n ≤ n' → n' ≤ length t.bs → numbered t.f (take n t.bs) ++ numbered (t.f + n) (part t n n') ≡ numbered t.f (take n' t.bs)
  grown n n' l m =
      let u : List (List ℕ) = take n' t.bs in
      cc (take-append-drop n u, number_append t.f (take n u) (drop n u), take-take n n' t.bs l, length-take-le n t.bs (omega arith))

  -- the reference found is the one that the packet was made with
  ref_found : {mp : ℕ} (n start : ℕ) (p : List ℕ) (h : List InputBytes) → Holding t mp n h → (k : Packet t n p start)
      → (found_in (reference_frame start h) h).held ≡ true → (found_in (reference_frame start h) h).input ≡ ref t k.from
  unfolding reference_frame blank_frame
  ref_found n start p h i k q = go (eqb (newest_of h) null_frame) refl (found_mem (reference_frame start h) h q) (found_frame (reference_frame start h) h q)
    where
      at : (from j : ℕ) → start ≡ t.f + from → (ref t j).frame ≡ start - 1 → j ≡ from
      at zero zero s m = refl
      at zero (suc j) s m = absurd (omega arith)
      at (suc from) j s m = ref_inj j (suc from) (omega arith)

      go : (b : Bool) → eqb (newest_of h) null_frame ≡ b → Mem (found_in (reference_frame start h) h).input h
          → (found_in (reference_frame start h) h).input.frame ≡ pick b null_frame (start - 1) → (found_in (reference_frame start h) h).input ≡ ref t k.from
      go true w m g =
          let j = i.old (found_in (reference_frame start h) h).input m in
          let z : n ≡ 0 = ref_inj n 0 (sym (top_is n h i) ∙ eqb-true (newest_of h) null_frame w) in
          let y : j.0 ≡ k.from = omega arith in
          rw y at j.2
      go false w m g =
          let j = i.old (found_in (reference_frame start h) h).input m in
          let y : j.0 ≡ k.from = at k.from j.0 k.starts (sym (ap (λ (z : InputBytes). z.frame) j.2) ∙ g) in
          rw y at j.2

  -- what the receiver gets of a packet of the sender's
  pub record Took (mp n upto : ℕ) (held : Type 0) (g : Reception) : Type 0 where
    pub count : ℕ
    pub grows : n ≤ count
    pub holding : Holding t mp count g.receiver.history
    pub lined : Lined mp g.receiver.history
    pub new_frames : numbered t.f (take n t.bs) ++ g.new_frames ≡ numbered t.f (take count t.bs)
    pub acks : Each (Ack t count) g.acks
    pub reaches : held → upto ≤ count

  -- the decoded frames, from..upto, are taken in; n' is the larger of n and upto
  stored : (mp n n' start : ℕ) (p : List ℕ) (l : List InputBytes) {held : Type 0} → Holding t mp n l → (k : Packet t n p start)
      → n ≤ n' → k.upto ≤ n' → n' ≤ length t.bs → part t n k.upto ≡ part t n n'
      → take 33 (taken_in mp l (numbered start (part t k.from k.upto))) ≡ taken_in mp l (numbered start (part t k.from k.upto))
      → Took mp n k.upto held (taken mp (numbered start (part t k.from k.upto)) (record { history = l }))
  unfolding taken taken_in Each
  stored mp n n' start p l i k a b m e room =
      let new : List InputBytes = numbered (t.f + n) (part t n n') in
      let q : above (newest_of l) (numbered start (part t k.from k.upto)) ≡ new =
      ap (λ (z : ℕ). above (newest_of l) (numbered z (part t k.from k.upto))) k.starts
      ∙ above_is k.from n (newest_of l) (take k.upto t.bs) k.known (top_is n l i) ∙ ap (λ (z : List (List ℕ)). numbered (t.f + n) z) e in
      let more : Holding t mp n' (l ++ new) = extend_inv n n' l a m i in
      let h : Holding t mp n' (at_line mp (l ++ new)) = line_inv n' mp (l ++ new) more in
      rw (room, q) (record {
        count = n';
        grows = a;
        holding = h;
        lined = line_lined n' mp (l ++ new) more;
        new_frames = grown n n' a m;
        acks = (record { count = n'; most = omega arith; is = top_is n' (at_line mp (l ++ new)) h }, tt);
        reaches = λ h. b;
      })

-- the receiver's step
module _ (g : Terms) (sg : SoundSetup g) (t : Tape (receiving_width g)) (n start : ℕ) (p : List ℕ) (l : List InputBytes)
    (sound : SoundReceiver (receiving_width g) g.max_prediction (record { history = l })) (i : Holding t g.max_prediction n l) (low : Lined g.max_prediction l) (k : Packet t n p start) where
  abbrev found : Found
  found = found_in (reference_frame start l) l

  -- what is decoded against the reference
  decoded : packet_of start (receiving_width g) (ref t k.from).bytes p ≡ numbered start (part t k.from k.upto)
  unfolding packet_of
  decoded =
      let w = receiving_within g sg in
      let u : unpack (receiving_width g) (ref t k.from).bytes p ≡ part t k.from k.upto =
      rw k.is (unpack-pack (receiving_width g) (ref t k.from).bytes (omega (arith, ref_long t k.from)) w.0 (part t k.from k.upto) (wide-part t k.from k.upto)) in
      rw u (ap (numbered start) (take_all (2 ^ 32 - start) (part t k.from k.upto) (omega (arith, size_part t k.from k.upto k.most, k.starts, k.most, t.last))))

  is_decodable_lem : decodable (receiving_width g) p ≡ true
  is_decodable_lem =
      let w = receiving_within g sg in
      rw k.is (pack-decodable (receiving_width g) (ref t k.from).bytes (omega (arith, ref_long t k.from)) w.0 (part t k.from k.upto) (wide-part t k.from k.upto))

  took_it : found.input ≡ ref t k.from
      → Took t g.max_prediction n k.upto (true ≡ true) (taken g.max_prediction (packet_of start (receiving_width g) found.input.bytes p) (record { history = l }))
  took_it e =
      let room = never_full (receiving_width g) g.max_prediction l sg.max_prediction sound start (receiving_width g) (ref t k.from).bytes p in
      rw (e, decoded) (elim (below_or_not n k.upto) [
        | inl a ↦ stored t g.max_prediction n k.upto start p l i k (omega arith) (omega arith) k.most refl (rw decoded at room)
        | inr a ↦ stored t g.max_prediction n n start p l i k (omega arith) a i.most
            (drop_of_length-le (take k.upto t.bs) {i = n} (omega (arith, length-take-le k.upto t.bs k.most)) ∙ sym (drop_of_length-le (take n t.bs) {i = n} (omega (arith, length-take-le n t.bs i.most))))
            (rw decoded at room)
      ])

  pub takes : Took t g.max_prediction n k.upto (found.held ≡ true) (receive g start p (record { history = l }))
  unfolding receive received_if Each
  takes = rw is_decodable_lem (go found.held refl)
    where
      go : (b : Bool) → found.held ≡ b
          → Took t g.max_prediction n k.upto (b ≡ true) (received_if b true g.max_prediction (packet_of start (receiving_width g) found.input.bytes p) (record { history = l }))
      go true q = took_it (ref_found t n start p l i k q)
      go false q = record {
        count = n;
        grows = omega arith;
        holding = i;
        lined = low;
        new_frames = append-nil (numbered t.f (take n t.bs));
        acks = tt;
        reaches = λ e. absurd (let z : ◌≡◌ {A = ℕ} 0 1 = cc in omega arith);
      }
