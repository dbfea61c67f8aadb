-- Two answers that a contract allows are equal, by name for each public function: an endpoint up to what is not seen of it.
use mathlib.Core.Path.{◌≡◌}
use Prim.Native.Nat.{ℕ}
use Rattle.base.proofs.Settled.{settled}
use Rattle.setup.specs.declared.Setup.{Setup}
use Rattle.endpoint_rules.specs.Seen.{made}
use Rattle.endpoint.specs.declared.Endpoint.{Endpoint}
use Rattle.endpoint.specs.Endpoint.{seen}
use Rattle.demo_ends.specs.Running.{two_players, synchronized_with}

pub two_players_settled : (magic peer player : ℕ) (r s : Setup) → r ≡ two_players magic peer player → s ≡ two_players magic peer player → r ≡ s
two_players_settled magic peer player = settled (λ r. r) (two_players magic peer player)

pub synchronized_settled : (magic : ℕ) (e r s : Endpoint) → seen r ≡ synchronized_with magic (seen e) → seen s ≡ synchronized_with magic (seen e) → seen r ≡ seen s
synchronized_settled magic e = settled seen (synchronized_with magic (seen e))

pub end_settled : (own other player now : ℕ) (r s : Endpoint) → seen r ≡ synchronized_with other (made (two_players own other player) now)
    → seen s ≡ synchronized_with other (made (two_players own other player) now) → seen r ≡ seen s
end_settled own other player now = settled seen (synchronized_with other (made (two_players own other player) now))
