-- Each way out of `report` has its law (proofs/Report.antt), by the line that the code has computed.
use Rattle.std.proofs.Common.{◌≡◌, ◌∙◌, sym, ap, true, false, arith}
use Rattle.base.specs.Keyed.{put}
use Rattle.checksums.specs.Checksums.{stored, checksum_frame, kept_from, others_full}
use Rattle.checksums.specs.Report.{line_by}
use Rattle.checksums.proofs.Report.{overflow_test, gives_6, gives_none, gives_5, gives_put}
use Rattle.checksums.proofs.Checksums.report.Goals as goal

pub returns-then-firm-too_early : goal.returns-then-firm-too_early
returns-then-firm-too_early c =
    let a = c.args in
    let l = stored a.self.now in
    gives_6 a.self.now a.checksum a.interval a.firm
    (sym (overflow_test a.firm c.too_early.result a.checksum.frame a.interval c.count.result l c.too_early.ensures c.count.ensures.value) ∙ c.if-firm-too_early.true)

pub returns-then-from-line : goal.returns-then-from-line
returns-then-from-line c =
    let a = c.args in
    let l = stored a.self.now in
    let passed = sym (overflow_test a.firm c.too_early.result a.checksum.frame a.interval c.count.result l c.too_early.ensures c.count.ensures.value) ∙ c.if-firm-too_early.false in
    gives_none a.self.now a.checksum a.interval a.firm passed (omega arith)

pub returns-then-is_full : goal.returns-then-is_full
returns-then-is_full c =
    let a = c.args in
    let l = stored a.self.now in
    let passed = sym (overflow_test a.firm c.too_early.result a.checksum.frame a.interval c.count.result l c.too_early.ensures c.count.ensures.value) ∙ c.if-firm-too_early.false in
    let full : others_full a.checksum.frame (kept_from (line_by a.firm a.checksum.frame a.interval l) l) ≡ true =
    ap (λ n. others_full a.checksum.frame (kept_from n l)) (sym c.line-line.ensures) ∙ sym c.is_full.ensures ∙ c.if-is_full.true in
    gives_5 a.self.now a.checksum a.interval a.firm passed (omega (arith, c.count.ensures.value, c.count.ensures.fits)) full

pub returns : goal.returns
returns c =
    let a = c.args in
    let l = stored a.self.now in
    let passed = sym (overflow_test a.firm c.too_early.result a.checksum.frame a.interval c.count.result l c.too_early.ensures c.count.ensures.value) ∙ c.if-firm-too_early.false in
    let room : others_full a.checksum.frame (kept_from (line_by a.firm a.checksum.frame a.interval l) l) ≡ false =
    ap (λ n. others_full a.checksum.frame (kept_from n l)) (sym c.line-line.ensures) ∙ sym c.is_full.ensures ∙ c.if-is_full.false in
    gives_put a.self.now a.checksum a.interval a.firm passed (omega (arith, c.count.ensures.value, c.count.ensures.fits)) _ (omega arith) room
    (c.put.ensures ∙ ap (put checksum_frame a.checksum) (c.keep_from.ensures ∙ ap (λ n. kept_from n l) c.line-line.ensures))
