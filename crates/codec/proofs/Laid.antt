-- What a writer answers, one law for each way out.
use borrow.Author.Tests.{lt-ltb, le-ltb, ltb-false}
use mathlib.Core.Path.{◌≡◌, refl, sym, ◌∙◌}
use mathlib.Core.Bool.{Bool, true, false}
use mathlib.Core.List.{List, [], ◌++◌, append-nil}
use Rattle.std.specs.Prelude.{Ok, Err}
use Prim.Native.Nat.{ℕ, ◌+◌, ◌<◌, ◌≤◌}
use native.Mathlib.Omega.{arith}
use native.Mathlib.Nat.{add_assoc}
use lib.ListN.{length, length-append, length-take}
use Rattle.base.specs.Lay.{laid_at, no_room}
use Rattle.base.specs.Little.{Bytes}
use Rattle.base.proofs.Lay.{laid_join}
use Rattle.answer.specs.Number.{refusal_number}
use Rattle.answer.specs.declared.Refusal.{Refusal}
use Rattle.answer.specs.declared.Refusal.TheVariants.{Full}
use Rattle.codec.specs.Message.{Wire, Fits, is_input, report_list, meant}
use Rattle.codec.specs.Bytes.{body_bytes, head, bytes}
use Rattle.codec.specs.Put.{HeadPut}
use Rattle.codec.specs.Calls.{too_long, size_for, size_as, write_refusal, LaidAs, HeadAs, WrittenAs}
use Rattle.ceilings.specs.Ceilings.{most_players, most_payload}
use Rattle.codec.proofs.Sizes.{is_long, input-counts, size_head}
use Rattle.base.specs.Pick.{pick}
use Rattle.codec.specs.declared.StatusReport.{StatusReport}
use Rattle.codec.specs.declared.Message.{Message}
use Rattle.codec.specs.declared.MessageBody.{MessageBody}
use Rattle.codec.specs.declared.MessageBody.TheVariants.{SyncRequest, SyncReply, Input, InputAck, QualityReport, QualityReply, ChecksumReport, KeepAlive}

module _ (b : List ℕ) (at : ℕ) (m : Message) (n : ℕ) (w : Wire) (piece : List ℕ) where
  pub long_refused : (e : Refusal) → (refusal_number e, 0) ≡ size_as m n → LaidAs b at (write_refusal b at m n) w piece (Err e) b
  unfolding write_refusal
  long_refused e h = let l = is_long m n e h in (rw l.0 (sym l.1), refl)

  module _ (t : too_long m n ≡ false) where
    pub full_refused : length b < at + size_for m n → LaidAs b at (write_refusal b at m n) w piece (Err Full) b
    unfolding write_refusal
    full_refused h = (rw (t, lt-ltb (length b) (at + size_for m n) h), refl)

    pub laid : (r : ℕ) (b' : List ℕ) → at + size_for m n ≤ length b → r ≡ at + length piece → b' ≡ laid_at b at piece → Fits w
        → LaidAs b at (write_refusal b at m n) w piece (Ok r) b'
    unfolding write_refusal
    laid r b' h e l f = record { done = rw (t, le-ltb (length b) (at + size_for m n) h); end = e; lent = l; fits = f }

-- a choice of a list that is short where it is chosen
chosen_length : {A : Type 0} (l : List A) (k : ℕ) (u : Bool) → (u ≡ true → length l ≤ k) → length (pick u l []) ≤ k
chosen_length l k true f = f refl
chosen_length l k false f = omega arith

chosen_bytes : (l : List ℕ) (u : Bool) → Bytes l → Bytes (pick u l [])
chosen_bytes l true f = f
chosen_bytes l false f = λ i. omega arith

module _ (m : Message) (n : ℕ) (t : too_long m n ≡ false) where
  -- a message whose fields were put, and which is not too long, fits
  pub fits_head : (b : List ℕ) (at r : ℕ) (b' : List ℕ) → HeadPut m n b at r b' → length m.reports.list ≡ 4 → Fits (meant m [])
  unfolding meant
  fits_head b at r b' h four =
      record {
        magic = h.magic;
        body = h.fits;
        frames = h.frames;
        statuses =
            chosen_length (report_list m.reports) most_players (is_input m.body)
            (λ e. omega (arith, (input-counts m n t e).0, length-take m.reports.count m.reports.list));
        length = chosen_length [] most_payload (is_input m.body) (λ e. omega arith);
        bytes = chosen_bytes [] (is_input m.body) (λ i. omega arith);
        none = λ e. rw e (refl, refl);
      }

  -- so it does with its payload
  pub fits_payload : (payload : List ℕ) → length payload ≡ n → Bytes payload → Fits (meant m []) → Fits (meant m payload)
  unfolding meant
  fits_payload payload k q f =
      record {
        magic = f.magic;
        body = f.body;
        frames = f.frames;
        statuses = f.statuses;
        length = chosen_length payload most_payload (is_input m.body) (λ e. omega (arith, (input-counts m n t e).1));
        bytes = chosen_bytes payload (is_input m.body) q;
        none = λ e. rw e (refl, refl);
      }

refusal_none : (t u : Bool) → ◌≡◌ {A = ℕ} (pick t 12 (pick u 5 0)) 0 → (t ≡ false) × (u ≡ false)
refusal_none true u e = absurd (omega arith)
refusal_none false true e = absurd (omega arith)
refusal_none false false e = (refl, refl)

-- a body that is no Input does not depend on the payload
body_other : (body : MessageBody) (rs : List StatusReport) (k n : ℕ) → is_input body ≡ false → body_bytes body rs k ≡ body_bytes body rs n
unfolding is_input body_bytes
body_other (SyncRequest x) rs k n e = refl
body_other (SyncReply x) rs k n e = refl
body_other (Input d s a) rs k n e = let z : ◌≡◌ {A = ℕ} 0 1 = cc in absurd (omega arith)
body_other (InputAck x) rs k n e = refl
body_other (QualityReport x y) rs k n e = refl
body_other (QualityReply x) rs k n e = refl
body_other (ChecksumReport x y) rs k n e = refl
body_other KeepAlive rs k n e = refl

module _ (m : Message) (payload : List ℕ) where
  pub bytes_other : (n : ℕ) → is_input m.body ≡ false → bytes (meant m payload) ≡ head (meant m []) n
  unfolding bytes head meant
  bytes_other n e = rw (e, append-nil, body_other m.body [] 0 n e)

  pub bytes-input : is_input m.body ≡ true → bytes (meant m payload) ≡ head (meant m []) (length payload) ++ payload
  unfolding bytes head meant
  bytes-input e = rw e

-- from the head's answer to the whole message's
module _ (b : List ℕ) (at : ℕ) (m : Message) (payload : List ℕ) (r : ℕ) (b' : List ℕ) (h : HeadAs b at m (length payload) (Ok r) b') where
  pub not_long : (too_long m (length payload) ≡ false) × (at + size_for m (length payload) ≤ length b)
  unfolding write_refusal
  not_long =
      let q = refusal_none (too_long m (length payload)) (no_room b at (size_for m (length payload))) h.done in
      (q.0, ltb-false (length b) (at + size_for m (length payload)) q.1)

  pub head_lent : b' ≡ laid_at b at (head (meant m []) (length payload))
  head_lent = h.lent

  -- the payload has its room after the head
  pub room_after : length m.reports.list ≡ 4 → is_input m.body ≡ true → r + length payload ≤ length b
  room_after four input = let q = not_long in omega (arith, q.1, h.end, rw input at (size_head m (length payload) q.0 four))

  pub other_written : Bytes payload → is_input m.body ≡ false → WrittenAs b at m payload (Ok r) b'
  other_written q e =
      record {
        done = h.done;
        end = rw (bytes_other m payload (length payload) e) h.end;
        lent = rw (bytes_other m payload (length payload) e) h.lent;
        fits = fits_payload m (length payload) not_long.0 payload refl q h.fits;
      }

  pub input-written : (b'' : List ℕ) (r' : ℕ) → Bytes payload → is_input m.body ≡ true → at + length (head (meant m []) (length payload)) + length payload ≤ length b
      → r' ≡ r + length payload → b'' ≡ laid_at b' r payload → WrittenAs b at m payload (Ok r') b''
  input-written b'' r' q e room n l =
      rw (bytes-input m payload e)
      (laid b at m (length payload) (meant m payload) (head (meant m []) (length payload) ++ payload) not_long.0 r' b'' not_long.1
      (n ∙ rw (h.end, length-append, add_assoc)) (l ∙ rw (h.lent, h.end) (laid_join b at (head (meant m []) (length payload)) payload room))
      (fits_payload m (length payload) not_long.0 payload refl q h.fits))
