-- Two answers that a contract allows are equal, by name for each public function: numerals up to the bytes before their text, drafts up to those after
-- it.
use mathlib.Core.Bool.{Bool}
use mathlib.Core.List.{List, []}
use mathlib.Core.Path.{◌≡◌, sym, ◌∙◌}
use Prim.Native.Nat.{ℕ}
use lib.ListN.{take}
use Rattle.base.proofs.Settled.{settled}
use Rattle.text.specs.declared.number.Numeral.{Numeral}
use Rattle.text.specs.Decimal.{decimal_of, signed_of, text_of}
use Rattle.text.specs.Hex.{hex_of}
use Rattle.text.specs.Append.{AppendedAs}
use Rattle.text.specs.Page.{page, written}
use Rattle.text.specs.declared.draft.Draft.{Draft}
use Rattle.text.specs.Draft.{drafted, added, DraftedAs}

pub decimal_settled : (n : ℕ) (r s : Numeral) → text_of r ≡ decimal_of n → text_of s ≡ decimal_of n → text_of r ≡ text_of s
decimal_settled n = settled text_of (decimal_of n)

pub signed_settled : (n bias : ℕ) (r s : Numeral) → text_of r ≡ signed_of bias n → text_of s ≡ signed_of bias n → text_of r ≡ text_of s
signed_settled n bias = settled text_of (signed_of bias n)

pub numeral_as_slice_settled : (n : Numeral) (r s : List ℕ) → r ≡ text_of n → s ≡ text_of n → r ≡ s
numeral_as_slice_settled n = settled (λ r. r) (text_of n)

module _ (buffer : List ℕ) (at : ℕ) (r s : Bool) (b c : List ℕ) where
  pub append_settled : (piece : List ℕ) → AppendedAs buffer at piece r b → AppendedAs buffer at piece s c → (r ≡ s) × (b ≡ c)
  append_settled piece x y = (x.answer ∙ sym y.answer, x.lent ∙ sym y.lent)

  pub hex_settled : (bytes : List ℕ) → AppendedAs buffer at (hex_of bytes) r b → AppendedAs buffer at (hex_of bytes) s c → (r ≡ s) × (b ≡ c)
  hex_settled bytes = append_settled (hex_of bytes)

module _ (r s : Draft) where
  abbrev pub SameDraft : Type 0
  SameDraft = (drafted r ≡ drafted s) × (r.text.count ≡ s.text.count)

  drafted_settled : (text : List ℕ) → DraftedAs text r → DraftedAs text s → SameDraft
  drafted_settled text x y = (x.text ∙ sym y.text, x.count ∙ sym y.count)

  pub new_settled : DraftedAs [] r → DraftedAs [] s → SameDraft
  new_settled = drafted_settled []

  module _ (d : Draft) where
    pub put_settled : (piece : List ℕ) → DraftedAs (added (drafted d) piece) r → DraftedAs (added (drafted d) piece) s → SameDraft
    put_settled piece = drafted_settled (added (drafted d) piece)

    pub put_hex_settled : (bytes : List ℕ) → DraftedAs (added (drafted d) (hex_of bytes)) r → DraftedAs (added (drafted d) (hex_of bytes)) s → SameDraft
    put_hex_settled bytes = put_settled (hex_of bytes)

    pub put_decimal_settled : (n : ℕ) → DraftedAs (added (drafted d) (decimal_of n)) r → DraftedAs (added (drafted d) (decimal_of n)) s → SameDraft
    put_decimal_settled n = put_settled (decimal_of n)

    pub put_signed_settled : (n bias : ℕ) → DraftedAs (added (drafted d) (signed_of bias n)) r → DraftedAs (added (drafted d) (signed_of bias n)) s → SameDraft
    put_signed_settled n bias = put_settled (signed_of bias n)

pub draft_as_slice_settled : (d : Draft) (r s : List ℕ) → r ≡ drafted d → s ≡ drafted d → r ≡ s
draft_as_slice_settled d = settled (λ r. r) (drafted d)

-- a place and a buffer, as a page
module _ (buffer : List ℕ) (at : ℕ) (r s : ℕ) (b c : List ℕ) where
  pub lay_settled : (piece : List ℕ) → page b r ≡ written piece (page buffer at) → page c s ≡ written piece (page buffer at) → page b r ≡ page c s
  lay_settled piece x y = x ∙ sym y

  pub lay_into_settled : (d : Draft) → page b r ≡ written (drafted d) (page buffer at) → page c s ≡ written (drafted d) (page buffer at) → page b r ≡ page c s
  lay_into_settled d = lay_settled (drafted d)

pub filled_settled : (buffer : List ℕ) (end : ℕ) (r s : List ℕ) → r ≡ take end buffer → s ≡ take end buffer → r ≡ s
filled_settled buffer end = settled (λ r. r) (take end buffer)
