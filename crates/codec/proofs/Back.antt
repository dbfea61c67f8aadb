-- What a reading took is the bytes of what it gave, and that has its widths: field by field, then a whole message. No reading is undone: each is
-- followed forwards, from the bytes before it to those that are left.
use borrow.Author.Tests.{ltb-false}
use mathlib.Core.Path.{◌≡◌, refl, sym, ◌∙◌, ap}
use mathlib.Core.Bool.{Bool, true, false}
use mathlib.Core.List.{List, [], ◌∷◌, ◌++◌, append_assoc, append-nil}
use Prim.Native.Nat.{ℕ, zero, suc, ◌+◌, ◌^◌, ◌<◌, ◌≤◌}
use native.Mathlib.Omega.{arith}
use lib.Dec.{ltb}
use lib.ListN.{length, take, drop, length-append, take-append-drop}
use lib.Seq.{length-take-le}
use Rattle.base.specs.Pick.{pick}
use Rattle.base.specs.Little.{Bytes, le}
use Rattle.base.proofs.Little.{le-unle, unle_bound}
use Rattle.base.proofs.Bytes.{bytes_take, bytes_drop}
use Rattle.frame.specs.Bias.{bias32, bias16, bits_of}
use Rattle.frame.proofs.Bits.{bits_below, bits_bits}
use Rattle.ceilings.specs.Ceilings.{most_players, most_payload}
use Rattle.codec.specs.Message.{kind_of, is_input, FitsWide, FitsBody, FitsReports, Fits}
use Rattle.codec.specs.Bytes.{flag_bytes, frame_bytes, advantage_bytes, wide_bytes, report_bytes, reports_bytes, statuses_bytes, input_bytes, body_bytes, head, bytes}
use Rattle.codec.specs.Read.{Reading, Reads, and_then, give, part, refuse, number, flag_of, flag, frame, advantage, wide, report, reports, input, body_only, kinds, message}
use Rattle.codec.specs.Read.Reading.{got, fault}
use Rattle.codec.proofs.Reports.{reports-append, fits_snoc}
use Rattle.codec.specs.declared.StatusReport.{StatusReport}
use Rattle.codec.specs.declared.MessageBody.{MessageBody}
use Rattle.codec.specs.declared.MessageBody.TheVariants.{SyncRequest, SyncReply, InputAck, QualityReport, QualityReply, ChecksumReport, KeepAlive}

-- d is some bytes that were read and those that are left
pub record Splits (d read left : List ℕ) : Type 0 where
  pub whole : d ≡ read ++ left
  pub bytes : Bytes left

start : {d : List ℕ} → Bytes d → Splits d [] d
start h = record { whole = refl; bytes = h }

known : {d a b left : List ℕ} → Splits d a left → a ≡ b → Splits d b left
known s e = record { whole = s.whole ∙ rw e; bytes = s.bytes }

-- a reading of d that gave a value read that value's bytes, and the value has its width; one that stopped gives one of the reader's numbers
pub data Right {A : Type 0} (enc : A → List ℕ) (width : A → Type 0) (d : List ℕ) : Reading A → Type 0 where
  right : {a : A} {left : List ℕ} → Splits d (enc a) left → width a → Right enc width d (got a left)
  stopped : {n : ℕ} → (9 ≤ n) × (n ≤ 12) → Right enc width d (fault n)

-- one reading after another
then : {A B : Type 0} {enc : A → List ℕ} {width : A → Type 0} {enc' : B → List ℕ} {width' : B → Type 0} {d l read : List ℕ} {g : Reading A}
    {next : A → Reads B} → Splits d read l → (Bytes l → Right enc width l g)
    → ((a : A) (left : List ℕ) → Splits d (read ++ enc a) left → width a → Right enc' width' d (next a left)) → Right enc' width' d (and_then g next)
then {A} {B} {enc} {width} {enc'} {width'} {d} {l} {read} {g} {next} s first f = go g (first s.bytes)
  where
    go : (g : Reading A) → Right enc width l g → Right enc' width' d (and_then g next)
    go (got a left) (right t w) = f a left (record { whole = s.whole ∙ rw (t.whole, append_assoc); bytes = t.bytes }) w
    go (fault n) (stopped k) = stopped k

part_right : (k : ℕ) (d : List ℕ) → Bytes d → Right (λ p. p) (λ p. (length p ≡ k) × Bytes p) d (part k d)
unfolding part
part_right k d h = go (ltb (length d) k) refl
  where
    go : (t : Bool) → ltb (length d) k ≡ t
        → Right (λ p. p) (λ p. (length p ≡ k) × Bytes p) d (pick t (fault 9) (got (take k d) (drop k d)))
    go true e = stopped {n = 9} (omega arith)
    go false e =
        right (record { whole = sym (take-append-drop k d); bytes = bytes_drop k d h })
        (length-take-le k d (ltb-false (length d) k e), bytes_take k d h)

long_right : (test : Bool) (d : List ℕ) → Bytes d → Right (λ u. []) (λ u. test ≡ false) d (refuse test 12 d)
long_right true d h = stopped {n = 12} (omega arith)
long_right false d h = right (start h) refl

number_right : (k : ℕ) (d : List ℕ) → Bytes d → Right (le k) (λ n. n < 256 ^ k) d (number k d)
unfolding number
number_right k d h =
    then (start h) (part_right k d)
    (λ p left s w. right (known s (rw (← w.0) (sym (le-unle p w.1)))) (rw w.0 at (unle_bound p w.1)))

flag_right : (d : List ℕ) → Bytes d → Right flag_bytes (λ b. Unit {0}) d (flag d)
unfolding flag flag_bytes le
flag_right d h = then (start h) (number_right 1 d) (λ n left s w. of n left s)
  where
    of : (n : ℕ) (left : List ℕ) → Splits d (le 1 n) left → Right flag_bytes (λ b. Unit {0}) d (flag_of n left)
    of zero left s = right s tt
    of (suc zero) left s = right s tt
    of (suc (suc n)) left s = stopped {n = 11} (omega arith)

-- a signed number of k bytes, held with the bias b
signed_right : (k b : ℕ) (d : List ℕ) → 0 < b → b + b ≡ 256 ^ k → Bytes d
    → Right (λ f. le k (bits_of b f)) (λ f. f < b + b) d (and_then (number k d) (λ n. give (bits_of b n)))
signed_right k b d pos e h =
    then (start h) (number_right k d)
    (λ n left s w. right (known s (ap (le k) (sym (bits_bits b n (rw e w))))) (bits_below b n pos))

frame_right : (d : List ℕ) → Bytes d → Right frame_bytes (λ f. f < 2 ^ 32) d (frame d)
unfolding frame frame_bytes
frame_right d h = signed_right 4 bias32 d (omega arith) refl h

advantage_right : (d : List ℕ) → Bytes d → Right advantage_bytes (λ a. a < 2 ^ 16) d (advantage d)
unfolding advantage advantage_bytes
advantage_right d h = signed_right 2 bias16 d (omega arith) refl h

wide_right : (d : List ℕ) → Bytes d → Right wide_bytes FitsWide d (wide d)
unfolding wide wide_bytes
wide_right d h =
    then (start h) (number_right 8 d) (λ low l s w. then s (number_right 8 l) (λ high left s' w'. right s' (w, w')))

report_right : (d : List ℕ) → Bytes d → Right report_bytes (λ r. r.last_frame < 2 ^ 32) d (report d)
unfolding report report_bytes
report_right d h = then (start h) (flag_right d) (λ b l s w. then s (frame_right l) (λ f left s' w'. right s' w'))

-- all m reports, those read already among them
reports_right : (n m : ℕ) (rs : List StatusReport) (d l : List ℕ) → length rs + n ≡ m → FitsReports rs → Splits d (reports_bytes rs) l
    → Right reports_bytes (λ all. FitsReports all × (length all ≡ m)) d (reports n rs l)
unfolding reports
reports_right zero m rs d l e f s = let k : length rs ≡ m = omega arith in right s (f, k)
reports_right (suc n) m rs d l e f s =
    then s (report_right l)
    (λ r left s' w. reports_right n m (rs ++ r ∷ []) d left (simp length-append (omega arith)) (fits_snoc rs r f w) (known s' (one r)))
  where
    one : (r : StatusReport) → reports_bytes rs ++ report_bytes r ≡ reports_bytes (rs ++ r ∷ [])
    one r = sym (reports-append rs (r ∷ []) ∙ unfold reports_bytes in rw append-nil)

all_right : (n : ℕ) (d : List ℕ) → Bytes d → Right reports_bytes (λ rs. FitsReports rs × (length rs ≡ n)) d (reports n [] d)
unfolding reports_bytes
all_right n d h = reports_right n n [] d d (omega arith) (λ i r k. absurd (omega arith)) (start h)

module _ (magic : ℕ) (small : magic < 2 ^ 16) where
  -- the end of each kind that is no Input
  body_only_right : (body : MessageBody) (d left : List ℕ) → FitsBody body
      → Splits d (le 2 magic ++ le 4 (kind_of body) ++ body_bytes body [] 0) left → Right bytes Fits d (got (body_only magic body) left)
  unfolding bytes head
  body_only_right body d left fits s =
      right {a = body_only magic body} (known s (sym (append-nil _)))
      (record {
        magic = small;
        body = fits;
        frames = λ i r k. absurd (omega arith);
        statuses = omega arith;
        length = omega arith;
        bytes = λ i. omega arith;
        none = λ e. (refl, refl);
      })

  input_right : (d l : List ℕ) → Splits d (le 2 magic ++ le 4 2) l → Right bytes Fits d (input magic l)
  unfolding input bytes head body_bytes kind_of statuses_bytes input_bytes is_input
  input_right d l s =
      then s (number_right 8 l)
      (λ n l1 s1 w1. then s1 (long_right (ltb most_players n) l1)
      (λ u l2 s2 w2. then s2 (all_right n l2)
      (λ rs l3 s3 w3. then s3 (flag_right l3)
      (λ b l4 s4 w4. then s4 (frame_right l4)
      (λ st l5 s5 w5. then s5 (frame_right l5)
      (λ ak l6 s6 w6. then s6 (number_right 8 l6)
      (λ k l7 s7 w7. then s7 (long_right (ltb most_payload k) l7)
      (λ u' l8 s8 w8. then s8 (part_right k l8)
      (λ p left s9 w9. right (known s9 (rw (← w3.1, ← w9.0) (simp append_assoc)))
      (record {
        magic = small;
        body = (w5, w6);
        frames = w3.0;
        statuses = omega (arith, ltb-false most_players n w2, w3.1);
        length = omega (arith, ltb-false most_payload k w8, w9.0);
        bytes = w9.1;
        none = λ e. let z : ◌≡◌ {A = ℕ} 0 1 = cc in absurd (omega arith);
      }))))))))))

  kinds_right : (kind : ℕ) (d l : List ℕ) → Splits d (le 2 magic ++ le 4 kind) l → Right bytes Fits d (kinds kind magic l)
  unfolding kinds kind_of body_bytes
  kinds_right zero d l s = then s (number_right 4 l) (λ n left s' w. body_only_right (SyncRequest n) d left w s')
  kinds_right (suc zero) d l s = then s (number_right 4 l) (λ n left s' w. body_only_right (SyncReply n) d left w s')
  kinds_right (suc (suc zero)) d l s = input_right d l s
  kinds_right (suc (suc (suc zero))) d l s = then s (frame_right l) (λ a left s' w. body_only_right (InputAck a) d left w s')
  kinds_right (suc (suc (suc (suc zero)))) d l s =
      then s (advantage_right l)
      (λ a l' s' w. then s' (wide_right l') (λ x left s'' w'. body_only_right (QualityReport a x) d left (w, w') (known s'' (simp append_assoc))))
  kinds_right (suc (suc (suc (suc (suc zero))))) d l s =
      then s (wide_right l) (λ x left s' w. body_only_right (QualityReply x) d left w s')
  kinds_right (suc (suc (suc (suc (suc (suc zero)))))) d l s =
      then s (wide_right l)
      (λ x l' s' w. then s' (frame_right l') (λ f left s'' w'. body_only_right (ChecksumReport x f) d left (w, w') (known s'' (simp append_assoc))))
  kinds_right (suc (suc (suc (suc (suc (suc (suc zero))))))) d l s = body_only_right KeepAlive d l tt (known s (sym (append-nil _)))
  kinds_right (suc (suc (suc (suc (suc (suc (suc (suc n)))))))) d l s = stopped {n = 10} (omega arith)

pub message_right : (d : List ℕ) → Bytes d → Right bytes Fits d (message d)
unfolding message
message_right d h =
    then (start h) (number_right 2 d) (λ magic l s small. then s (number_right 4 l) (λ kind left s' w. kinds_right magic small kind d left s'))

pub took : {A : Type 0} {enc : A → List ℕ} {width : A → Type 0} {d left : List ℕ} {a : A} → Right enc width d (got a left)
    → (d ≡ enc a ++ left) × width a
took (right s w) = (s.whole, w)

pub fault_bounds : {A : Type 0} {enc : A → List ℕ} {width : A → Type 0} {d : List ℕ} {n : ℕ} → Right enc width d (fault n) → (9 ≤ n) × (n ≤ 12)
fault_bounds (stopped k) = k
