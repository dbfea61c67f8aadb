-- `open` finds of a packet what its parts say; the reference is the one that `look` found.
use mathlib.Core.Path.{ap}
use Rattle.history.specs.declared.Looked.{Looked}
use Rattle.history.specs.History.{received, reference_frame, looked_at}
use Rattle.endpoint.proofs.Laws.Message.Packet.{found_again}
use Rattle.endpoint.proofs.message.packet.open.Goals as goal

pub returns : goal.returns
unfolding looked_at
returns c =
    let l = received c.args.history.now in
    let looked = c.look-looked.ensures in
    record {
      found = found_again (reference_frame c.args.head.start_frame l) l _ (ap (λ (x : Looked). x.reference) looked);
      newest = ap (λ (x : Looked). x.newest) looked;
      discarded = cc;
      long = cc;
      readable = cc;
      overflows = cc;
    }
