-- The checksum goes to the place found, or to the end, where there is room.
use Rattle.std.proofs.Common.{◌≡◌, ◌∙◌, sym, length, None, Some}
use Rattle.std.specs.List.{position}
use borrow.Author.Tests.{lt-ltb}
use lib.Dec.{eqb}
use Rattle.fixed_vec.specs.FixedVec.{held}
use Rattle.checksums.specs.declared.Checksum.{Checksum}
use Rattle.checksums.specs.Checksums.{stored}
use Rattle.checksums.proofs.Chains.{put_over, put_last, free}
use Rattle.checksums.proofs.Checksums.put.Goals as goal

pub unwrap-requires : goal.unwrap-requires
unfolding stored
unwrap-requires c =
    let l = held c.args.self.now.entries in
    let p : position (λ (x : Checksum). eqb c.args.checksum.frame x.frame) l ≡ None = rw c.as_slice.ensures.value at (sym c.first_place.ensures ∙ c.in-None.is) in
    rw (c.push.ensures.0, lt-ltb (length l) 64 (free c.args.checksum.frame l p c.requires))

pub returns-in-Some : goal.returns-in-Some
unfolding stored
returns-in-Some c =
    let l = held c.args.self.now.entries in
    let p : position (λ (x : Checksum). eqb c.args.checksum.frame x.frame) l ≡ Some c.in-Some.at = rw c.as_slice.ensures.value at (sym c.first_place.ensures ∙ c.in-Some.is) in
    c.set.ensures ∙ put_over c.args.checksum c.in-Some.at l p

pub returns-in-None : goal.returns-in-None
unfolding stored
returns-in-None c =
    let l = held c.args.self.now.entries in
    let p : position (λ (x : Checksum). eqb c.args.checksum.frame x.frame) l ≡ None = rw c.as_slice.ensures.value at (sym c.first_place.ensures ∙ c.in-None.is) in
    c.push.ensures.1 ∙ rw (lt-ltb (length l) 64 (free c.args.checksum.frame l p c.requires)) (put_last c.args.checksum l p)
