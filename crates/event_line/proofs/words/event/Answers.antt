-- Each variant's words.
use Rattle.std.proofs.Common.{rules}
use lib.Dec.{lit≤}
use Rattle.text.specs.Ascii.{ascii}
use Rattle.event_line.specs.Lines.{event_text}
use Rattle.event_line.proofs.WordLaws.{word_added, interrupted-added, synchronizing_added}
use Rattle.event_line.proofs.words.event.Goals as goal

pub returns-in-Synchronizing : goal.returns-in-Synchronizing
unfolding event_text ascii
returns-in-Synchronizing c =
    rw c.in-Synchronizing.is
    (synchronizing_added c.args.draft c.requires _ _ (search rules) (search rules) _ _ _ _ c.put.ensures (rw c.from.ensures at c.put_decimal.ensures)
    c.put-in-Synchronizing.ensures (rw c.from-in-Synchronizing.ensures at c.put_decimal-in-Synchronizing.ensures))

pub returns-in-Synchronized : goal.returns-in-Synchronized
unfolding event_text ascii
returns-in-Synchronized c = rw c.in-Synchronized.is (word_added c.args.draft c.requires _ _ (lit≤ tt) c.put-in-Synchronized.ensures)

pub returns-in-Disconnected : goal.returns-in-Disconnected
unfolding event_text ascii
returns-in-Disconnected c = rw c.in-Disconnected.is (word_added c.args.draft c.requires _ _ (lit≤ tt) c.put-in-Disconnected.ensures)

pub returns-in-NetworkInterrupted : goal.returns-in-NetworkInterrupted
unfolding event_text ascii
returns-in-NetworkInterrupted c =
    rw c.in-NetworkInterrupted.is
    (interrupted-added c.args.draft c.requires _ (search rules) _ _ c.put-in-NetworkInterrupted.ensures
    (rw c.from-in-NetworkInterrupted.ensures at c.put_decimal-in-NetworkInterrupted.ensures))

pub returns-in-NetworkResumed : goal.returns-in-NetworkResumed
unfolding event_text ascii
returns-in-NetworkResumed c = rw c.in-NetworkResumed.is (word_added c.args.draft c.requires _ _ (lit≤ tt) c.put-in-NetworkResumed.ensures)
