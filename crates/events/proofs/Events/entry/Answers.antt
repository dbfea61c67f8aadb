-- `unwrap_or` of a read is the read with that default.
use Rattle.std.proofs.lemmas.Option.{unwrap_or-slice_get}
use Rattle.events.specs.Events.{held_events, blank_entry}
use Rattle.fixed_vec.specs.FixedVec.{held}
use Rattle.events.proofs.Events.entry.Goals as goal

pub returns : goal.returns
unfolding held_events blank_entry
returns c = cc (unwrap_or-slice_get (held c.args.self.now.entries) c.args.i blank_entry)
