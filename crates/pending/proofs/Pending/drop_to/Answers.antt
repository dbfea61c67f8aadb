-- `drop_to`: the number of the leading inputs determines what is left, and the last of them.
use Rattle.std.proofs.Common.{rules, ◌≡◌, ◌-◌, ◌∙◌, slice_get, take, length}
use Rattle.pending.specs.Pending.{waiting}
use Rattle.pending.proofs.Laws.{leading_left, leading_last}
use Rattle.pending.proofs.Pending.drop_to.Goals as goal

pub returns : goal.returns
unfolding waiting
returns c =
    let a = c.args in
    let n = c.leading-n in
    let l = waiting a.self.now in
    let last : c.copied-last.result ≡ slice_get (take n.result l) (length (take n.result l) - 1) = search rules in
    record {
      last = c.unwrap_or.ensures ∙ rw last (leading_last a.ack l n.result n.ensures a.reference);
      view = c.remove_front.ensures ∙ leading_left a.ack l n.result n.ensures;
    }
