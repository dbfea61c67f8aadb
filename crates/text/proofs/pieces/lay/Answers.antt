-- The piece that was laid is one more on the page.
use Rattle.text.proofs.PageLaws.{laid_page}
use Rattle.text.proofs.pieces.lay.Goals as goal

pub returns-then-append : goal.returns-then-append
returns-then-append c = laid_page c.args.out.now c.args.at c.args.piece.now _ _ c.append.ensures c.if-append.true
