-- Two answers that a contract allows are equal, by name for each public function.
use mathlib.Core.List.{List, [], ◌∷◌}
use mathlib.Core.Path.{◌≡◌, sym, ◌∙◌}
use Prim.Native.Nat.{ℕ}
use Rattle.std.specs.Prelude.{Result}
use Rattle.answer.specs.declared.Refusal.{Refusal}
use Rattle.text.specs.Ascii.{ascii}
use Rattle.text.specs.Page.{page, written_all}
use Rattle.message_line.specs.Calls.{LineAs}
use Rattle.message_line.specs.Line.{line_of}

pub line_settled : (buffer : List ℕ) (at : ℕ) (text : List ℕ) (r s : Result ℕ Refusal) (b c : List ℕ) → LineAs buffer at text r b → LineAs buffer at text s c
    → (r ≡ s) × (b ≡ c)
line_settled buffer at text r s b c x y = (x.answer ∙ sym y.answer, x.lent ∙ sym y.lent)

pub line_after_settled : (buffer : List ℕ) (at : ℕ) (words d : List ℕ) (r s : ℕ) (b c : List ℕ)
    → page b r ≡ written_all (words ∷ line_of d ∷ ascii "\n" ∷ []) (page buffer at) → page c s ≡ written_all (words ∷ line_of d ∷ ascii "\n" ∷ []) (page buffer at)
    → page b r ≡ page c s
line_after_settled buffer at words d r s b c x y = x ∙ sym y
