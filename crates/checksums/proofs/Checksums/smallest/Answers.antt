-- The chain's least is the smallest frame.
use Rattle.std.proofs.Common.{rules, ◌≡◌}
use Rattle.std.proofs.iter.runs.Made.{chains}
use Rattle.fixed_vec.specs.FixedVec.{held}
use Rattle.checksums.specs.Checksums.{stored, checksum_frame}
use Rattle.std.proofs.Common.{[], map, IsNone, IfSome}
use Rattle.std.specs.List.{Contains, All}
use Prim.Native.Nat.{ℕ, ◌≤◌}
use Rattle.checksums.proofs.Smallest.{smallest_or}
use Rattle.checksums.proofs.Checksums.smallest.Goals as goal

pub returns : goal.returns
unfolding stored held
returns c =
    let l = held c.args.self.now.entries in
    let none : IsNone c.min.result → map checksum_frame l ≡ [] = search (rules, chains) in
    let some : IfSome c.min.result (Contains (map checksum_frame l)) = search (rules, chains) in
    let least : IfSome c.min.result (λ (m : ℕ). All (λ (k : ℕ). m ≤ k) (map checksum_frame l)) = search (rules, chains) in
    smallest_or l c.min.result c.unwrap_or.result c.unwrap_or.ensures none some least
