-- What a message struct stands for, as a whole and field by field, for crates that do not open `meant`.
use mathlib.Core.Path.{◌≡◌, refl}
use mathlib.Core.Bool.{Bool, true, false}
use mathlib.Core.List.{List, []}
use Prim.Native.Nat.{ℕ, ◌≤◌}
use native.Mathlib.Omega.{arith}
use lib.ListN.{length, length-take}
use Rattle.base.specs.Pick.{pick}
use Rattle.codec.specs.Message.{Reports, is_input, report_list, meant}
use Rattle.codec.specs.Read.{body_only}
use Rattle.codec.specs.declared.Message.{Message}
use Rattle.codec.specs.declared.MessageBody.{MessageBody}
use Rattle.codec.specs.declared.MessageBody.TheVariants.{Input}

chosen_none : {A : Type 0} (t : Bool) (l : List A) → l ≡ [] → pick t l [] ≡ []
chosen_none true l e = e
chosen_none false l e = refl

-- a message whose count is 0 is a plain one
pub meant_body_only : (magic : ℕ) (body : MessageBody) (rs : Reports) → rs.count ≡ 0
    → meant (record { magic = magic; body = body; reports = rs }) [] ≡ body_only magic body
unfolding meant
meant_body_only magic body rs e =
    rw (chosen_none (is_input body) (report_list rs) (rw e), chosen_none {A = ℕ} (is_input body) [] refl)

pub input_is : (d : Bool) (s a : ℕ) → is_input (Input d s a) ≡ true
unfolding is_input
input_is d s a = refl

-- an Input has the reports that its array lists, and the payload beside it
pub meant-input : (magic : ℕ) (d : Bool) (s a : ℕ) (rs : Reports) (payload : List ℕ)
    → meant (record { magic = magic; body = Input d s a; reports = rs }) payload
    ≡ record { magic = magic; body = Input d s a; reports = report_list rs; payload = payload }
unfolding meant is_input
meant-input magic d s a rs payload = refl

module _ (m : Message) (payload : List ℕ) where
  pub meant_magic : (meant m payload).magic ≡ m.magic
  unfolding meant
  meant_magic = refl

  pub meant_body : (meant m payload).body ≡ m.body
  unfolding meant
  meant_body = refl

  -- an Input has the reports that its array lists
  pub meant-reports : (d : Bool) (s a : ℕ) → m.body ≡ Input d s a → (meant m payload).reports ≡ report_list m.reports
  unfolding meant is_input
  meant-reports d s a e = rw e

  -- and the payload beside it
  pub meant-payload : (d : Bool) (s a : ℕ) → m.body ≡ Input d s a → (meant m payload).payload ≡ payload
  unfolding meant is_input
  meant-payload d s a e = rw e

  -- and no message has more than the array
  pub meant_few : length (meant m payload).reports ≤ length m.reports.list
  unfolding meant
  meant_few =
      elim (is_input m.body) as (λ b. length (pick b (report_list m.reports) []) ≤ length m.reports.list) [ true ↦ simp length-take (omega arith) | false ↦ omega arith ]
