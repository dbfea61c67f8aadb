-- A text while it is composed, of at most 256 bytes.
use Rattle.std.specs.Prelude.{List, ◌++◌, ◌≡◌, ℕ, ◌+◌, ◌≤◌, leb, length}
use Rattle.base.specs.Pick.{pick}
use Rattle.fixed_vec.specs.FixedVec.{held}
use Rattle.text.specs.declared.draft.Draft.{Draft}

-- the bytes of its array (`MOST_DRAFT`)
abbrev pub most_draft : ℕ
most_draft = 256

-- the text in the front of a draft's array
unfoldable pub drafted : Draft → List ℕ
drafted d = held d.text

-- a piece after it, where there is room
unfoldable pub added : List ℕ → List ℕ → List ℕ
added text piece = pick (leb (length text + length piece) most_draft) (text ++ piece) text

-- a draft of a text
pub record DraftedAs (line : List ℕ) (r : Draft) : Type 0 where
  pub text : drafted r ≡ line
  pub count : r.text.count ≡ length line

-- a draft that holds a text, of at most so many bytes
pub record Holds (line : List ℕ) (most : ℕ) (r : Draft) : Type 0 where
  pub text : drafted r ≡ line
  pub count : r.text.count ≤ most

-- a draft with a piece of at most so many bytes after what stood there
abbrev pub Adds : Draft → List ℕ → ℕ → Draft → Type 0
Adds d piece most r = Holds (drafted d ++ piece) (d.text.count + most) r
