-- Two answers that a contract allows are equal, by name for each public function, and so are the lent buffers after them.
use mathlib.Core.List.{List}
use mathlib.Core.Path.{◌≡◌, sym, ◌∙◌}
use Prim.Native.Nat.{ℕ}
use Rattle.text.specs.Page.{page, written, written_all}
use Rattle.events.specs.declared.Entry.{Entry}
use Rattle.events.specs.declared.Events.{Events}
use Rattle.events.specs.Events.{held_events}
use Rattle.event_line.specs.Lines.{entry_line, lines_of}

module _ (buffer : List ℕ) (at size : ℕ) (r s : ℕ) (b c : List ℕ) where
  pub line_settled : (x : Entry) → page b r ≡ written (entry_line size x) (page buffer at) → page c s ≡ written (entry_line size x) (page buffer at) → page b r ≡ page c s
  line_settled x e f = e ∙ sym f

  pub lines_settled : (name : ℕ) (es : Events) → page b r ≡ written_all (lines_of name size (held_events es)) (page buffer at)
      → page c s ≡ written_all (lines_of name size (held_events es)) (page buffer at) → page b r ≡ page c s
  lines_settled name es e f = e ∙ sym f
