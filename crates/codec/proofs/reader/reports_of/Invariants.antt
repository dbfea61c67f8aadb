-- `reports_of` reads one report a turn: what is left to read, after those found, gives what all gives.
use Rattle.std.proofs.Common.{◌≡◌, ◌+◌, ◌-◌, ◌*◌, ◌≤◌, [], length, take, drop}
use Rattle.codec.specs.Read.{reports}
use Rattle.codec.proofs.reader.reports_of.Given as goal

abbrev pub invariant-loop-i : goal.invariant-loop-i
invariant-loop-i l =
    (14 + 5 * l.i ≤ length l.d) × (length l.found.list ≡ 4)
    × (reports (l.count - l.i) (take l.i l.found.list) (drop (14 + 5 * l.i) l.d) ≡ reports l.count [] (drop 14 l.d))
