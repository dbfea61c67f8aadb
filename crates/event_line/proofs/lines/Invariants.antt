-- `lines` lays one line a turn. The invariant: the lines laid so far and those that are left are all lines.
use Rattle.std.proofs.Common.{◌≡◌, length, drop}
use Rattle.text.specs.Page.{page, written_all}
use Rattle.event_line.specs.Lines.{each_of}
use Rattle.event_line.proofs.lines.Given as goal

abbrev pub invariant-loop-entry : goal.invariant-loop-entry
invariant-loop-entry l =
    (length l.out ≡ length l.initial.out)
    × (written_all (each_of l.name l.size (drop l.entry-index l.entries)) (page l.out l.end)
    ≡ written_all (each_of l.name l.size l.entries) (page l.initial.out l.at))
