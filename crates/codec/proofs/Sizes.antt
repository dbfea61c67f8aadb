-- What a message takes, by whether it is an Input.
use borrow.Author.Tests.{lt-ltb, le-ltb, ltb-false}
use mathlib.Core.Path.{◌≡◌, refl, ap}
use mathlib.Core.Bool.{Bool, true, false}
use mathlib.Core.List.{List, []}
use Prim.Native.Nat.{ℕ, ◌+◌, ◌*◌, ◌<◌, ◌≤◌}
use native.Mathlib.Omega.{arith}
use native.Mathlib.Nat.{add-zero}
use lib.Dec.{ltb}
use lib.ListN.{length, length-take}
use Rattle.base.specs.Pick.{pick}
use Rattle.ceilings.specs.Ceilings.{most_players, most_payload}
use Rattle.answer.specs.Number.{refusal_number}
use Rattle.answer.specs.declared.Refusal.{Refusal}
use Rattle.answer.proofs.Refused.{not_done}
use Rattle.codec.specs.Sizes.{fixed_size}
use Rattle.codec.specs.Message.{kind_of, is_input, report_list, meant, size_with}
use Rattle.codec.specs.Bytes.{head}
use Rattle.codec.specs.Calls.{too_long, size_for, size_as}
use Rattle.codec.proofs.Lengths.{head-length}
use Rattle.codec.specs.declared.StatusReport.{StatusReport}
use Rattle.codec.specs.declared.Message.{Message}
use Rattle.codec.specs.declared.MessageBody.{MessageBody}
use Rattle.codec.specs.declared.MessageBody.TheVariants.{SyncRequest, SyncReply, Input, InputAck, QualityReport, QualityReply, ChecksumReport, KeepAlive}

pub kind_below : (body : MessageBody) → kind_of body < 8
unfolding kind_of
kind_below (SyncRequest n) = omega arith
kind_below (SyncReply n) = omega arith
kind_below (Input d s a) = omega arith
kind_below (InputAck a) = omega arith
kind_below (QualityReport a p) = omega arith
kind_below (QualityReply p) = omega arith
kind_below (ChecksumReport x f) = omega arith
kind_below KeepAlive = omega arith

module _ (m : Message) (n : ℕ) where
  pub size_other : is_input m.body ≡ false → (0, fixed_size (kind_of m.body)) ≡ size_as m n
  unfolding too_long size_with
  size_other h = rw (h, add-zero)

  module _ (h : is_input m.body ≡ true) where
    pub size_statuses : most_players < m.reports.count → (12, 0) ≡ size_as m n
    unfolding too_long
    size_statuses k = rw (h, lt-ltb _ _ k)

    pub size_payload : m.reports.count ≤ most_players → most_payload < n → (12, 0) ≡ size_as m n
    unfolding too_long
    size_payload k l = rw (h, le-ltb _ _ k, lt-ltb _ _ l)

    pub size_input : m.reports.count ≤ most_players → n ≤ most_payload → (0, fixed_size (kind_of m.body) + (5 * m.reports.count + n)) ≡ size_as m n
    unfolding too_long size_with
    size_input k l = rw (h, le-ltb _ _ k, le-ltb _ _ l)

-- what the answer of `size_of` says
sized : (t : Bool) (e : Refusal) (x : ℕ) → ◌≡◌ {A = ℕ × ℕ} (refusal_number e, 0) (pick t (12, 0) (0, x)) → (t ≡ true) × (refusal_number e ≡ 12)
sized true e x h = (refl, ap (λ (p : ℕ × ℕ). p.0) h)
sized false e x h = absurd (not_done e (ap (λ (p : ℕ × ℕ). p.0) h))

unsized : (t : Bool) (s x : ℕ) → ◌≡◌ {A = ℕ × ℕ} (0, s) (pick t (12, 0) (0, x)) → (t ≡ false) × (s ≡ x)
unsized true s x e = let z : ◌≡◌ {A = ℕ} 0 12 = ap (λ (p : ℕ × ℕ). p.0) e in absurd (omega arith)
unsized false s x e = (refl, ap (λ (p : ℕ × ℕ). p.1) e)

module _ (m : Message) (n : ℕ) where
  pub is_long : (e : Refusal) → (refusal_number e, 0) ≡ size_as m n → (too_long m n ≡ true) × (refusal_number e ≡ 12)
  is_long e = sized (too_long m n) e (size_for m n)

  pub is_size : (s : ℕ) → (0, s) ≡ size_as m n → (too_long m n ≡ false) × (s ≡ size_for m n)
  is_size s = unsized (too_long m n) s (size_for m n)

  -- an Input that is not too long
  within : (t u : Bool) → pick t (pick u true (ltb most_payload n)) false ≡ false → t ≡ true → (u ≡ false) × (ltb most_payload n ≡ false)
  within true true e h = let z : ◌≡◌ {A = ℕ} 0 1 = cc in absurd (omega arith)
  within true false e h = (refl, e)
  within false u e h = let z : ◌≡◌ {A = ℕ} 0 1 = cc in absurd (omega arith)

  module _ (short : too_long m n ≡ false) where
    pub input-counts : is_input m.body ≡ true → (m.reports.count ≤ most_players) × (n ≤ most_payload)
    unfolding too_long
    input-counts h =
        let w = within (is_input m.body) (ltb most_players m.reports.count) short h in
        (ltb-false most_players m.reports.count w.0, ltb-false most_payload n w.1)

    -- a message's bytes are its head's and an Input's payload
    pub size_head : length m.reports.list ≡ 4 → size_for m n ≡ length (head (meant m []) n) + pick (is_input m.body) n 0
    unfolding size_with meant
    size_head four =
        rw (head-length (meant m []) n)
        (go (is_input m.body) (λ h. omega (arith, (input-counts h).0, length-take m.reports.count m.reports.list)))
      where
        fixed : ℕ
        fixed = fixed_size (kind_of m.body)

        rs : List StatusReport
        rs = report_list m.reports

        go : (t : Bool) → (t ≡ true → length rs ≡ m.reports.count)
            → fixed + pick t (5 * m.reports.count + n) 0 ≡ fixed + pick t (5 * length (pick t rs [])) 0 + pick t n 0
        go true f = rw (f refl) (omega arith)
        go false f = omega arith
