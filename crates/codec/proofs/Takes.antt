-- Readings of a fixed size: one that takes k bytes gives 9 where fewer are left and goes on after them otherwise; two in a row take the sum.
use borrow.Author.Tests.{lt-ltb, le-ltb}
use mathlib.Core.Path.{◌≡◌, refl, ◌∙◌}
use mathlib.Core.Logic.{inl, inr}
use mathlib.Core.List.{List}
use Prim.Native.Nat.{ℕ, zero, suc, ◌+◌, ◌<◌, ◌≤◌}
use native.Mathlib.Omega.{arith}
use native.Mathlib.Nat.{add-zero}
use lib.ListN.{length, take, drop, length-drop}
use lib.Seq.{drop-drop}
use Rattle.base.specs.Little.{unle}
use Rattle.base.proofs.Digits.{below_or_not}
use Rattle.frame.specs.Bias.{bias32, bias16, bits_of}
use Rattle.codec.specs.Read.{Reads, ◌>>=◌, give, part, number, frame, advantage, wide, kinds, message, body_only}
use Rattle.codec.specs.Read.Reading.{got, fault}
use Rattle.codec.specs.Sizes.{fixed_size}
use Rattle.codec.specs.Message.{Wire}
use Rattle.codec.specs.Front.{number_at, wide_at, body_at}
use Rattle.codec.specs.declared.MessageBody.TheVariants.{SyncRequest, SyncReply, InputAck, QualityReport, QualityReply, ChecksumReport, KeepAlive}

pub record Takes {A : Type 0} (p : Reads A) (k : ℕ) (v : List ℕ → A) : Type 0 where
  pub short : (d : List ℕ) → length d < k → p d ≡ fault 9
  pub whole : (d : List ℕ) → k ≤ length d → p d ≡ got (v d) (drop k d)

pub takes_part : (k : ℕ) → Takes (part k) k (take k)
unfolding part
takes_part k = record { short = λ d h. rw (lt-ltb (length d) k h); whole = λ d h. rw (le-ltb (length d) k h) }

takes_give : {A : Type 0} (a : A) → Takes (give a) 0 (λ d. a)
takes_give a = record { short = λ d h. absurd (omega arith); whole = λ d h. refl }

takes_then : {A B : Type 0} (p : Reads A) (j : ℕ) (v : List ℕ → A) (f : A → Reads B) (k : ℕ) (w : A → List ℕ → B) → Takes p j v
    → ((a : A) → Takes (f a) k (w a)) → Takes (◌>>=◌ p f) (j + k) (λ d. w (v d) (drop j d))
takes_then p j v f k w t u =
    record {
      short = λ d h.
          elim (below_or_not (length d) j) [
            | inl l ↦ rw (t.short d l)
            | inr l ↦ rw (t.whole d l) ((u (v d)).short (drop j d) (rw length-drop (omega arith)))
          ];
      whole = λ d h.
          rw (t.whole d (omega arith), (u (v d)).whole (drop j d) (rw length-drop (omega arith)), drop-drop);
    }

pub takes_number : (k : ℕ) → Takes (number k) k (λ d. unle (take k d))
unfolding number
takes_number k = rw (add-zero k) at (takes_then (part k) k (take k) (λ bs. give (unle bs)) 0 (λ bs d. unle bs) (takes_part k) (λ bs. takes_give (unle bs)))

pub takes_frame : Takes frame 4 (λ d. bits_of bias32 (unle (take 4 d)))
unfolding frame
takes_frame = takes_then (number 4) 4 _ _ 0 _ (takes_number 4) (λ n. takes_give (bits_of bias32 n))

takes_advantage : Takes advantage 2 (λ d. bits_of bias16 (unle (take 2 d)))
unfolding advantage
takes_advantage = takes_then (number 2) 2 _ _ 0 _ (takes_number 2) (λ n. takes_give (bits_of bias16 n))

takes_wide : Takes wide 16 (λ d. record { low = unle (take 8 d); high = unle (take 8 (drop 8 d)) })
unfolding wide
takes_wide =
    takes_then (number 8) 8 _ _ 8 _ (takes_number 8)
    (λ low. takes_then (number 8) 8 _ _ 0 _ (takes_number 8) (λ high. takes_give (record { low = low; high = high })))

-- the message of a fixed size, by its kind
module _ (magic : ℕ) where
  kind_0 : Takes (kinds 0 magic) 4 (λ d. body_only magic (SyncRequest (unle (take 4 d))))
  unfolding kinds
  kind_0 = takes_then (number 4) 4 _ _ 0 _ (takes_number 4) (λ n. takes_give (body_only magic (SyncRequest n)))

  kind_1 : Takes (kinds 1 magic) 4 (λ d. body_only magic (SyncReply (unle (take 4 d))))
  unfolding kinds
  kind_1 = takes_then (number 4) 4 _ _ 0 _ (takes_number 4) (λ n. takes_give (body_only magic (SyncReply n)))

  kind_3 : Takes (kinds 3 magic) 4 (λ d. body_only magic (InputAck (bits_of bias32 (unle (take 4 d)))))
  unfolding kinds
  kind_3 = takes_then frame 4 _ _ 0 _ takes_frame (λ f. takes_give (body_only magic (InputAck f)))

  kind_4 : Takes (kinds 4 magic) 18
      (λ d. body_only magic (QualityReport (bits_of bias16 (unle (take 2 d))) (record { low = unle (take 8 (drop 2 d)); high = unle (take 8 (drop 8 (drop 2 d))) })))
  unfolding kinds
  kind_4 =
      takes_then advantage 2 _ _ 16 _ takes_advantage
      (λ a. takes_then wide 16 _ _ 0 _ takes_wide (λ p. takes_give (body_only magic (QualityReport a p))))

  kind_5 : Takes (kinds 5 magic) 16 (λ d. body_only magic (QualityReply (record { low = unle (take 8 d); high = unle (take 8 (drop 8 d)) })))
  unfolding kinds
  kind_5 = takes_then wide 16 _ _ 0 _ takes_wide (λ p. takes_give (body_only magic (QualityReply p)))

  kind_6 : Takes (kinds 6 magic) 20
      (λ d. body_only magic (ChecksumReport (record { low = unle (take 8 d); high = unle (take 8 (drop 8 d)) }) (bits_of bias32 (unle (take 4 (drop 16 d))))))
  unfolding kinds
  kind_6 =
      takes_then wide 16 _ _ 4 _ takes_wide
      (λ x. takes_then frame 4 _ _ 0 _ takes_frame (λ f. takes_give (body_only magic (ChecksumReport x f))))

  kind_7 : Takes (kinds 7 magic) 0 (λ d. body_only magic KeepAlive)
  unfolding kinds
  kind_7 = takes_give (body_only magic KeepAlive)

-- a kind above 7
above : (n magic : ℕ) (d : List ℕ) → 7 < n → kinds n magic d ≡ fault 10
unfolding kinds
above zero magic d l = absurd (omega arith)
above (suc zero) magic d l = absurd (omega arith)
above (suc (suc zero)) magic d l = absurd (omega arith)
above (suc (suc (suc zero))) magic d l = absurd (omega arith)
above (suc (suc (suc (suc zero)))) magic d l = absurd (omega arith)
above (suc (suc (suc (suc (suc zero))))) magic d l = absurd (omega arith)
above (suc (suc (suc (suc (suc (suc zero)))))) magic d l = absurd (omega arith)
above (suc (suc (suc (suc (suc (suc (suc zero))))))) magic d l = absurd (omega arith)
above (suc (suc (suc (suc (suc (suc (suc (suc n)))))))) magic d l = refl

-- the kind that is left
pub last_kind : (k : ℕ) → k < 8 → (k ≡ 0 → ⊥) → (k ≡ 1 → ⊥) → (k ≡ 2 → ⊥) → (k ≡ 3 → ⊥) → (k ≡ 4 → ⊥) → (k ≡ 5 → ⊥) → (k ≡ 6 → ⊥) → k ≡ 7
last_kind zero l n0 n1 n2 n3 n4 n5 n6 = absurd (n0 refl)
last_kind (suc zero) l n0 n1 n2 n3 n4 n5 n6 = absurd (n1 refl)
last_kind (suc (suc zero)) l n0 n1 n2 n3 n4 n5 n6 = absurd (n2 refl)
last_kind (suc (suc (suc zero))) l n0 n1 n2 n3 n4 n5 n6 = absurd (n3 refl)
last_kind (suc (suc (suc (suc zero)))) l n0 n1 n2 n3 n4 n5 n6 = absurd (n4 refl)
last_kind (suc (suc (suc (suc (suc zero))))) l n0 n1 n2 n3 n4 n5 n6 = absurd (n5 refl)
last_kind (suc (suc (suc (suc (suc (suc zero)))))) l n0 n1 n2 n3 n4 n5 n6 = absurd (n6 refl)
last_kind (suc (suc (suc (suc (suc (suc (suc zero))))))) l n0 n1 n2 n3 n4 n5 n6 = refl
last_kind (suc (suc (suc (suc (suc (suc (suc (suc n)))))))) l n0 n1 n2 n3 n4 n5 n6 = absurd (omega arith)

-- magic and kind
module _ (d : List ℕ) where
  pub head_short : length d < 6 → message d ≡ fault 9
  unfolding message
  head_short h =
      elim (below_or_not (length d) 2) [
        | inl l ↦ rw ((takes_number 2).short d l)
        | inr l ↦ rw ((takes_number 2).whole d l, (takes_number 4).short (drop 2 d) (rw length-drop (omega arith)))
      ]

  pub head_whole : 6 ≤ length d → message d ≡ kinds (number_at 4 2 d) (number_at 2 0 d) (drop 6 d)
  unfolding message number_at
  head_whole h =
      rw ((takes_number 2).whole d (omega arith), (takes_number 4).whole (drop 2 d) (rw length-drop (omega arith)), drop-drop 4 2 d)

  pub bad_kind : 6 ≤ length d → 7 < number_at 4 2 d → message d ≡ fault 10
  bad_kind h k = head_whole h ∙ above (number_at 4 2 d) (number_at 2 0 d) (drop 6 d) k

  module _ (h : 6 ≤ length d) where
    from : (k j : ℕ) (v : List ℕ → Wire) → Takes (kinds k (number_at 2 0 d)) j v → number_at 4 2 d ≡ k → length d < 6 + j → message d ≡ fault 9
    from k j v t e l = head_whole h ∙ rw e (t.short (drop 6 d) (rw length-drop (omega arith)))

    upto : (k j : ℕ) (v : List ℕ → Wire) → Takes (kinds k (number_at 2 0 d)) j v → number_at 4 2 d ≡ k → 6 + j ≤ length d
        → message d ≡ got (v (drop 6 d)) (drop (6 + j) d)
    upto k j v t e l = head_whole h ∙ rw (e, t.whole (drop 6 d) (rw length-drop (omega arith)), drop-drop j 6 d)

    -- the table's size
    pub fixed_short : (k : ℕ) → number_at 4 2 d ≡ k → k < 8 → (k ≡ 2 → ⊥) → length d < fixed_size k → message d ≡ fault 9
    fixed_short zero e l n s = from 0 4 _ (kind_0 (number_at 2 0 d)) e s
    fixed_short (suc zero) e l n s = from 1 4 _ (kind_1 (number_at 2 0 d)) e s
    fixed_short (suc (suc zero)) e l n s = absurd (n refl)
    fixed_short (suc (suc (suc zero))) e l n s = from 3 4 _ (kind_3 (number_at 2 0 d)) e s
    fixed_short (suc (suc (suc (suc zero)))) e l n s = from 4 18 _ (kind_4 (number_at 2 0 d)) e s
    fixed_short (suc (suc (suc (suc (suc zero))))) e l n s = from 5 16 _ (kind_5 (number_at 2 0 d)) e s
    fixed_short (suc (suc (suc (suc (suc (suc zero)))))) e l n s = from 6 20 _ (kind_6 (number_at 2 0 d)) e s
    fixed_short (suc (suc (suc (suc (suc (suc (suc zero))))))) e l n s = from 7 0 _ (kind_7 (number_at 2 0 d)) e s
    fixed_short (suc (suc (suc (suc (suc (suc (suc (suc k)))))))) e l n s = absurd (omega arith)

    -- the body that stands there, where it is whole
    pub request : number_at 4 2 d ≡ 0 → 10 ≤ length d → message d ≡ got (body_only (number_at 2 0 d) (SyncRequest (number_at 4 6 d))) (drop 10 d)
    unfolding number_at
    request e l = upto 0 4 _ (kind_0 (number_at 2 0 d)) e l

    pub reply : number_at 4 2 d ≡ 1 → 10 ≤ length d → message d ≡ got (body_only (number_at 2 0 d) (SyncReply (number_at 4 6 d))) (drop 10 d)
    unfolding number_at
    reply e l = upto 1 4 _ (kind_1 (number_at 2 0 d)) e l

    pub ack : number_at 4 2 d ≡ 3 → 10 ≤ length d → message d ≡ got (body_only (number_at 2 0 d) (InputAck (bits_of bias32 (number_at 4 6 d)))) (drop 10 d)
    unfolding number_at
    ack e l = upto 3 4 _ (kind_3 (number_at 2 0 d)) e l

    pub quality : number_at 4 2 d ≡ 4 → 24 ≤ length d
        → message d ≡ got (body_only (number_at 2 0 d) (QualityReport (bits_of bias16 (number_at 2 6 d)) (wide_at 8 d))) (drop 24 d)
    unfolding number_at wide_at
    quality e l = upto 4 18 _ (kind_4 (number_at 2 0 d)) e l ∙ simp drop-drop

    pub pong : number_at 4 2 d ≡ 5 → 22 ≤ length d → message d ≡ got (body_only (number_at 2 0 d) (QualityReply (wide_at 6 d))) (drop 22 d)
    unfolding number_at wide_at
    pong e l = upto 5 16 _ (kind_5 (number_at 2 0 d)) e l ∙ simp drop-drop

    pub checksum : number_at 4 2 d ≡ 6 → 26 ≤ length d
        → message d ≡ got (body_only (number_at 2 0 d) (ChecksumReport (wide_at 6 d) (bits_of bias32 (number_at 4 22 d)))) (drop 26 d)
    unfolding number_at wide_at
    checksum e l = upto 6 20 _ (kind_6 (number_at 2 0 d)) e l ∙ simp drop-drop

    pub alive : number_at 4 2 d ≡ 7 → message d ≡ got (body_only (number_at 2 0 d) KeepAlive) (drop 6 d)
    unfolding number_at
    alive e = upto 7 0 _ (kind_7 (number_at 2 0 d)) e h

    -- by the table
    pub fixed_whole : (k : ℕ) → number_at 4 2 d ≡ k → k < 8 → (k ≡ 2 → ⊥) → fixed_size k ≤ length d
        → message d ≡ got (body_only (number_at 2 0 d) (body_at k d)) (drop (fixed_size k) d)
    fixed_whole zero e l n s = request e s
    fixed_whole (suc zero) e l n s = reply e s
    fixed_whole (suc (suc zero)) e l n s = absurd (n refl)
    fixed_whole (suc (suc (suc zero))) e l n s = ack e s
    fixed_whole (suc (suc (suc (suc zero)))) e l n s = quality e s
    fixed_whole (suc (suc (suc (suc (suc zero))))) e l n s = pong e s
    fixed_whole (suc (suc (suc (suc (suc (suc zero)))))) e l n s = checksum e s
    fixed_whole (suc (suc (suc (suc (suc (suc (suc zero))))))) e l n s = alive e
    fixed_whole (suc (suc (suc (suc (suc (suc (suc (suc k)))))))) e l n s = absurd (omega arith)
