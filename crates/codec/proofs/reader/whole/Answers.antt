-- A message with nothing after it is the datagram's.
use Rattle.std.proofs.Common.{arith}
use Rattle.codec.proofs.Fronts.{alone}
use Rattle.codec.proofs.reader.whole.Goals as goal

pub returns : goal.returns
returns c = let f = c.in_ok-front in alone c.args.d.now f.front f.ensures (omega arith)
