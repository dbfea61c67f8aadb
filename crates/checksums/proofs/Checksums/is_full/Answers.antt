-- `is_full` looks at the checksums only where 64 are stored.
use Rattle.std.proofs.Common.{◌≡◌, sym, arith}
use Rattle.checksums.specs.Checksums.{stored}
use Rattle.checksums.proofs.Chains.{few_fit}
use Rattle.checksums.proofs.Checksums.is_full.Goals as goal

pub returns-then-count-lt-MOST_CHECKSUMS : goal.returns-then-count-lt-MOST_CHECKSUMS
returns-then-count-lt-MOST_CHECKSUMS c =
    let a = c.args in
    sym (few_fit a.frame a.line (stored a.self.now) c.requires (omega (arith, c.count.ensures.value)))
