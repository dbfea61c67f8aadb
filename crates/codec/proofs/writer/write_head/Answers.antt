-- A message that is too long or has no room is refused; one that fits is put.
use Rattle.std.proofs.Common.{[], arith, rules}
use Rattle.std.proofs.lemmas.Result.{err_from_is_err_and}
use Rattle.codec.specs.Message.{meant}
use Rattle.codec.specs.Bytes.{head}
use Rattle.codec.proofs.Laid.{fits_head, long_refused, full_refused, laid}
use Rattle.codec.proofs.Sizes.{is_size, input-counts}
use Rattle.codec.proofs.writer.write_head.Goals as goal

pub returns-in_err-size : goal.returns-in_err-size
returns-in_err-size c =
    let a = c.args in
    let m = a.message in
    let p = err_from_is_err_and c.from_residual.result c.from_residual.ensures.1 in
    rw (p.1, p.2)
    (long_refused a.out.now a.at m a.length (meant m []) (head (meant m []) a.length) _ c.in_err-size.ensures)

pub returns-then-out-at : goal.returns-then-out-at
returns-then-out-at c =
    let a = c.args in
    let m = a.message in
    let s = is_size m a.length _ c.in_ok-size.ensures in
    full_refused a.out.now a.at m a.length (meant m []) (head (meant m []) a.length) s.0 (omega arith)

pub put_head-requires-clause-count_le_most_players : goal.put_head-requires-clause-count_le_most_players
put_head-requires-clause-count_le_most_players c =
    let a = c.args in
    λ e. (input-counts a.message a.length (is_size a.message a.length _ c.in_ok-size.ensures).0 e).0

pub returns : goal.returns
returns c =
    let a = c.args in
    let m = a.message in
    let s = is_size m a.length _ c.in_ok-size.ensures in
    let p = c.put_head in
    laid a.out.now a.at m a.length (meant m []) (head (meant m []) a.length) s.0 p.result p.new.out (omega arith) p.ensures.put.next
    p.ensures.put.laid (fits_head m a.length s.0 a.out.now a.at p.result p.new.out p.ensures (search rules))
