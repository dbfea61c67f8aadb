-- `unwrap_or` of a read is the read with that default.
use Rattle.std.proofs.lemmas.Option.{unwrap_or-slice_get}
use Rattle.checksums.specs.Checksums.{stored, blank_checksum}
use Rattle.fixed_vec.specs.FixedVec.{held}
use Rattle.checksums.proofs.Checksums.entry.Goals as goal

pub returns : goal.returns
unfolding stored
returns c = cc (unwrap_or-slice_get (held c.args.self.now.entries) c.args.i blank_checksum)
