-- A lent buffer that fills with text from a place on, piece by piece.
use Rattle.std.specs.Prelude.{List, [], ◌∷◌, ℕ, ◌+◌, length}
use Rattle.base.specs.Pick.{pick}
use Rattle.base.specs.Lay.{no_room, laid_at}

-- the buffer, and the place up to which it is filled
pub record Page : Type 0 where
  pub bytes : List ℕ
  pub end : ℕ

abbrev pub page : List ℕ → ℕ → Page
page bytes end = record { bytes = bytes; end = end }

-- one more piece, where it fits
unfoldable pub written : List ℕ → Page → Page
written piece p = pick (no_room p.bytes p.end (length piece)) p (page (laid_at p.bytes p.end piece) (p.end + length piece))

-- pieces one after another
unfoldable pub written_all : List (List ℕ) → Page → Page
written_all [] p = p
written_all (piece ∷ rest) p = written_all rest (written piece p)
