-- `merge_at` sets one place below the count, which is a place of the view.
use native.Mathlib.Omega.{arith}
use lib.ListN.{length-take}
use lib.Seq.{take-set-lt}
use mathlib.Core.Path.{refl}
use Rattle.status.specs.Statuses.{held_statuses, merged_at}
use Rattle.status.proofs.list.Statuses.merge_at.Goals as goal

pub returns-then-at-count : goal.returns-then-at-count
unfolding held_statuses merged_at
returns-then-at-count c =
    let a = c.args in (
      rw (
        take-set-lt a.self.count a.self.list a.at c.merge.result (omega (arith, c.if-at-count.true, c.count.ensures, length-take a.self.count a.self.list)),
        c.merge.ensures,
        c.get.ensures,
      ),
      refl,
    )
