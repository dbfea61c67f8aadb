-- Each event by its kind.
use Rattle.spectator.proofs.Laws.Handling.{by_kind, by_running}
use Rattle.spectator.proofs.SpectatorSession.handle.Goals as goal

pub returns-in-Synchronizing : goal.returns-in-Synchronizing
returns-in-Synchronizing c = by_kind c.args.self.now _ c.args.entry _ c.in-Synchronizing.is c.announce.ensures

pub returns-in-Disconnected : goal.returns-in-Disconnected
returns-in-Disconnected c = by_kind c.args.self.now _ c.args.entry _ c.in-Disconnected.is c.announce-in-Disconnected.ensures

pub returns-in-NetworkInterrupted : goal.returns-in-NetworkInterrupted
returns-in-NetworkInterrupted c = by_kind c.args.self.now _ c.args.entry _ c.in-NetworkInterrupted.is c.announce-in-NetworkInterrupted.ensures

pub returns-in-NetworkResumed : goal.returns-in-NetworkResumed
returns-in-NetworkResumed c = by_kind c.args.self.now _ c.args.entry _ c.in-NetworkResumed.is c.announce-in-NetworkResumed.ensures

pub returns-in-Synchronized : goal.returns-in-Synchronized
returns-in-Synchronized c = by_kind c.args.self.now _ c.args.entry _ c.in-Synchronized.is (by_running c.args.self.now _ c.args.entry.input c.announce-in-Synchronized.ensures)

pub returns-in-Input : goal.returns-in-Input
returns-in-Input c = by_kind c.args.self.now _ c.args.entry _ c.in-Input.is c.store.ensures
