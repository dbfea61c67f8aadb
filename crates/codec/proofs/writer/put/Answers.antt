-- A piece copied over its place is the piece laid there.
use Rattle.std.proofs.Common.{◌+◌, ◌-◌, length, arith, refl}
use Rattle.std.proofs.lemmas.Slice.{put_mid-paste}
use lib.Seq.{take-length}
use Rattle.base.specs.Lay.{laid_at}
use Rattle.codec.proofs.writer.put.Goals as goal

pub returns : goal.returns
unfolding laid_at
returns c =
    let a = c.args in
    let p = a.piece.now in
    record {
      next = refl;
      laid =
          rw take-length at (put_mid-paste a.at (a.at + length p - a.at) a.out.now c.copy_from_slice.new.self p (length p)
          c.copy_from_slice.ensures.after (omega arith) (omega arith));
    }
