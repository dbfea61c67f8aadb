-- What is held there, or the blank.
use Rattle.std.proofs.lemmas.Option.{unwrap_or-slice_get}
use Rattle.fixed_vec.specs.FixedVec.{held}
use Rattle.spectator_rules.specs.Inputs.{blank_input, place_of, player_input_at}
use Rattle.spectator.specs.Stores.{inputs_of}
use Rattle.spectator.proofs.inputs.Inputs.at.Goals as goal

pub returns : goal.returns
unfolding inputs_of blank_input player_input_at
returns c =
    let a = c.args in
    rw (c.unwrap_or.ensures, c.get.ensures, c.place_of-place.ensures) (unwrap_or-slice_get (held a.self.now.entries) (place_of a.slots a.frame a.player) blank_input)
