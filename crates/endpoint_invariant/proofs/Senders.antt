-- The sender stays sound: pending inputs dropped up to an acknowledged frame, one more accepted; and the Input of all that is pending fits.
use borrow.Author.Tests.{ltb-true, ltb-false, le-leb, eqb-true, not-false}
use mathlib.Core.Bool.{true, false}
use mathlib.Core.List.{List, [], ◌∷◌, ◌++◌}
use mathlib.Core.Logic.{◌⊎◌, inl, inr}
use mathlib.Core.Path.{◌≡◌, refl, sym, ◌∙◌}
use Prim.Native.Nat.{ℕ, suc, ◌+◌, ◌^◌, ◌≤◌, ◌<◌}
use native.Mathlib.Omega.{arith}
use lib.Dec.{ltb, leb}
use lib.ListN.{length, length-append}
use Rattle.base.specs.Pick.{pick}
use Rattle.base.specs.Little.{Bytes}
use Rattle.base.proofs.Digits.{below_or_not}
use Rattle.base.proofs.Bools.{neither}
use Rattle.frame.specs.Bias.{bias32, null_frame}
use Rattle.packing.specs.Pad.{padded}
use Rattle.packing.specs.declared.input_bytes.InputBytes.{InputBytes}
use Rattle.pending.specs.Pending.{room, drop_to, last_to, first_frame, last_frame}
use Rattle.pending.proofs.Laws.{last_pushed}
use Rattle.history.specs.History.{blank_frame}
use Rattle.endpoint_rules.specs.Seen.{Sender}
use Rattle.endpoint_rules.specs.Sending.{dropped_to, bad_frame}
use Rattle.endpoint_invariant.specs.Each.{Each}
use Rattle.endpoint_invariant.specs.Sound.{Kept, Consecutive, SoundSender}
use Rattle.endpoint_invariant.proofs.Choices.{and_none}
use Rattle.endpoint_invariant.proofs.Eaches.{each_append}
use Rattle.endpoint_invariant.proofs.Padding.{kept_blank, kept-padded}

abbrev pub sends : List InputBytes → InputBytes → Sender
sends l r = record { pending = l; acked = r }

-- ---- frames one after the other

-- one more at the end
consecutive_end : (first last : ℕ) (l : List InputBytes) (x : InputBytes) → first ≡ suc last → Consecutive first l → x.frame ≡ suc (last_frame last l)
    → Consecutive first (l ++ x ∷ [])
unfolding Consecutive last_frame
consecutive_end first last [] x q h e = (e ∙ sym q, tt)
consecutive_end first last (y ∷ l) x q h e = (h.0, consecutive_end (suc first) y.frame l x (omega (arith, h.0)) h.1 e)

-- the last by their number
pub consecutive_last : (first last : ℕ) (l : List InputBytes) → first ≡ suc last → Consecutive first l → last_frame last l ≡ last + length l
unfolding Consecutive last_frame
consecutive_last first last [] q h = omega arith
consecutive_last first last (y ∷ l) q h = consecutive_last (suc first) y.frame l (omega (arith, h.0)) h.1 ∙ omega (arith, h.0)

-- ---- made

pub made_sender : (width : ℕ) → SoundSender width (sends [] blank_frame)
unfolding Consecutive first_frame last_frame Each blank_frame
made_sender width =
    record {
      count = omega arith;
      consecutive = tt;
      follows = inl refl;
      first = omega arith;
      acked = omega arith;
      last = omega arith;
      inputs = tt;
      reference = kept_blank width;
    }

module _ (width : ℕ) where
  -- ---- dropped

  popped : (x : InputBytes) (l : List InputBytes) (r : InputBytes) → SoundSender width (sends (x ∷ l) r) → SoundSender width (sends l x)
  unfolding Consecutive first_frame last_frame Each
  popped x [] r h =
      record {
        count = omega arith;
        consecutive = tt;
        follows = inr refl;
        first = omega arith;
        acked = omega (arith, h.first);
        last = h.last;
        inputs = tt;
        reference = h.inputs.0;
      }
  popped x (y ∷ l) r h =
      let next : y.frame ≡ suc x.frame = h.consecutive.1.0 in
      record {
        count = omega (arith, h.count);
        consecutive = (refl, rw next h.consecutive.1.1);
        follows = inr next;
        first = omega (arith, h.first);
        acked = omega (arith, h.first);
        last = h.last;
        inputs = h.inputs.1;
        reference = h.inputs.0;
      }

  pub dropped_sender : (ack : ℕ) (l : List InputBytes) (r : InputBytes) → SoundSender width (sends l r) → SoundSender width (dropped_to ack (sends l r))
  unfolding dropped_to drop_to last_to
  dropped_sender ack [] r h = h
  dropped_sender ack (x ∷ l) r h =
      elim (leb x.frame ack) as (λ b. SoundSender width (sends (pick b (drop_to ack l) (x ∷ l)) (pick b (last_to ack x l) r)))
      [ true ↦ dropped_sender ack l x (popped x l r h) | false ↦ h ]

  -- ---- accepted

  module _ (frame : ℕ) (bytes : List ℕ) (small : frame < 2 ^ 32) (are : Bytes bytes) (long : length bytes ≡ width) (few : width ≤ 64) where
    abbrev new : InputBytes
    new = record { frame = frame; bytes = padded bytes }

    runs : (l : List InputBytes) (r : InputBytes) → bias32 ≤ frame → (bias32 ≤ last_frame r.frame l → frame ≡ suc (last_frame r.frame l)) → SoundSender width (sends l r)
        → Consecutive (first_frame bias32 (l ++ new ∷ [])) (l ++ new ∷ [])
    unfolding Consecutive first_frame last_frame
    runs [] r from next h = (refl, tt)
    runs (x ∷ l) r from next h =
        let last = consecutive_last (suc x.frame) x.frame l refl h.consecutive.1 in
        (refl, consecutive_end (suc x.frame) x.frame l new refl h.consecutive.1 (next (omega (arith, h.first))))

    on : (l : List InputBytes) (r : InputBytes) → (bias32 ≤ last_frame r.frame l → frame ≡ suc (last_frame r.frame l)) → SoundSender width (sends l r)
        → (r.frame ≡ null_frame) ⊎ (first_frame (suc r.frame) (l ++ new ∷ []) ≡ suc r.frame)
    unfolding first_frame last_frame
    on [] r next h = elim (below_or_not r.frame bias32) [ inl q ↦ inl (omega (arith, h.acked)) | inr q ↦ inr (next q) ]
    on (x ∷ l) r next h = h.follows

    begins : (l : List InputBytes) (r : InputBytes) → bias32 ≤ frame → SoundSender width (sends l r) → bias32 ≤ first_frame bias32 (l ++ new ∷ [])
    unfolding first_frame
    begins [] r from h = from
    begins (x ∷ l) r from h = h.first

    one : bias32 ≤ frame → Each (Kept width) (new ∷ [])
    unfolding Each
    one from = (kept-padded width frame bytes are long few (λ e. omega arith), tt)

    pub accepted_sender : (l : List InputBytes) (r : InputBytes) → room l ≡ true → bad_frame frame (sends l r) ≡ false → SoundSender width (sends l r)
        → SoundSender width (sends (l ++ new ∷ []) r)
    unfolding room bad_frame
    accepted_sender l r k b h =
        let t = neither (ltb frame bias32) _ b in
        let from : bias32 ≤ frame = ltb-false frame bias32 t.0 in
        let next : bias32 ≤ last_frame r.frame l → frame ≡ suc (last_frame r.frame l)
        = λ q. eqb-true frame (suc (last_frame r.frame l)) (not-false _ (and_none (leb bias32 (last_frame r.frame l)) _ t.1 (le-leb _ _ q))) in
        record {
          count = omega (arith, length-append l (new ∷ []), ltb-true (length l) 129 k);
          consecutive = runs l r from next h;
          follows = on l r next h;
          first = begins l r from h;
          acked = h.acked;
          last = rw (last_pushed r.frame l new) small;
          inputs = each_append (Kept width) l (new ∷ []) h.inputs (one from);
          reference = h.reference;
        }
