-- `is_bad` makes the definition's tests, in its order.
use Rattle.std.proofs.Common.{◌≡◌, [], ◌∷◌, arith}
use Rattle.std.proofs.Math.Bool.{not}
use Rattle.std.proofs.lemmas.Grind.{common_steps}
use Rattle.numbers.specs.Range.{outside}
use Rattle.setup.specs.Setup.{bad_setup}
use Rattle.setup.proofs.Tests.{or_any}
use Rattle.setup.proofs.Setup.is_bad.Goals as goal

pub returns : goal.returns
unfolding bad_setup
returns c =
    let s = c.args.self in
    let players : not c.contains.result ≡ outside 1 4 s.num_players = grind (arith, common_steps, c.contains.ensures, c.new.ensures) in
    let local : not c.contains-2.result ≡ outside 1 4 s.local_players = grind (arith, common_steps, c.contains-2.ensures, c.new-2.ensures) in
    let size : not c.contains-3.result ≡ outside 1 16 s.input_size = grind (arith, common_steps, c.contains-3.ensures, c.new-3.ensures) in
    let fps : not c.contains-4.result ≡ outside 1 240 s.fps = grind (arith, common_steps, c.contains-4.ensures, c.new-4.ensures) in
    rw (players, c.is_bad.ensures, local, size, fps, c.is_bad-2.ensures)
    (or_any (outside 1 4 s.num_players) (_ ∷ _ ∷ _ ∷ _ ∷ _ ∷ _ ∷ _ ∷ _ ∷ _ ∷ _ ∷ []))
