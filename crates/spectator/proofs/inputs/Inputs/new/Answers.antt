-- A new store is blank as far as its slots go.
use Rattle.std.proofs.Common.{◌*◌, arith}
use Prim.Native.Nat.{min}
use lib.ListN.{length-replicate}
use Rattle.base.proofs.Orders.{take-replicate}
use Rattle.spectator_rules.specs.Inputs.{blank_input, fresh_inputs}
use Rattle.fixed_vec.specs.FixedVec.{held}
use Rattle.spectator.specs.Stores.{inputs_of}
use Rattle.spectator.proofs.inputs.Inputs.new.Goals as goal

pub returns : goal.returns
unfolding inputs_of held fresh_inputs blank_input
returns c =
    let s = c.args.slots in
    (rw c.min.ensures (take-replicate (min s 64 * 4) 256 blank_input (omega arith)), rw (length-replicate, c.min.ensures))
