-- What is held there, or the blank.
use Rattle.std.proofs.lemmas.Option.{unwrap_or-slice_get}
use Rattle.fixed_vec.specs.FixedVec.{held}
use Rattle.spectator.specs.Stores.{blank_session_entry}
use Rattle.spectator.specs.Stores.{events_of}
use Rattle.spectator.proofs.session_events.SessionEvents.entry.Goals as goal

pub returns : goal.returns
unfolding events_of blank_session_entry
returns c =
    let a = c.args in
    rw (c.unwrap_or.ensures, c.get.ensures) (unwrap_or-slice_get (held a.self.now.entries) a.i blank_session_entry)
