-- The ways out of `report`.
use mathlib.Core.Bool.{Bool, true, false, not, ◌&&◌}
use mathlib.Core.List.{List}
use mathlib.Core.Path.{◌≡◌, refl, sym, ◌∙◌}
use Prim.Native.Nat.{ℕ, ◌≤◌, ◌<◌}
use lib.ListN.{length}
use Rattle.std.proofs.Common.{Err}
use Rattle.answer.specs.Number.{done}
use Rattle.answer.specs.declared.Refusal.TheVariants.{Full, Overflow}
use Rattle.base.specs.Keyed.{put}
use Rattle.checksums.specs.declared.Checksum.{Checksum}
use Rattle.checksums.specs.declared.Checksums.{Checksums}
use Rattle.checksums.specs.Checksums.{stored, checksum_frame, kept_from, too_early, others_full}
use Rattle.checksums.specs.Report.{overflows_by, line_by, ReportedAs}
use Rattle.checksums.proofs.Lines.{early, below_line, full_line, full_same, report_line}

-- the code's test for 6 is the definition's
pub overflow_test : (firm early : Bool) (frame interval n : ℕ) (l : List Checksum) → early ≡ too_early n frame interval → n ≡ length l → (not firm && early) ≡ overflows_by firm frame interval l
overflow_test true early frame interval n l e all = refl
overflow_test false early frame interval n l e all = rw (e, all)

module _ (s : Checksums) (c : Checksum) (interval : ℕ) (firm : Bool) where
  pub gives_6 : overflows_by firm c.frame interval (stored s) ≡ true → ReportedAs s c interval firm (Err Overflow) s
  gives_6 o =
      let r = early firm c interval (stored s) o in
      record { answer = rw o; view = sym r.1; same = λ _ _. refl }

  module _ (o : overflows_by firm c.frame interval (stored s) ≡ false) where
    -- below the line: not stored
    pub gives_none : c.frame < line_by firm c.frame interval (stored s) → ReportedAs s c interval firm done s
    gives_none h =
        let r = below_line firm c interval (stored s) h in
        record { answer = rw (o, r.0); view = sym r.1; same = λ _ _. refl }

    module _ (few : length (stored s) ≤ 64) where
      -- no room: 64 others stay
      pub gives_5 : others_full c.frame (kept_from (line_by firm c.frame interval (stored s)) (stored s)) ≡ true → ReportedAs s c interval firm (Err Full) s
      gives_5 f =
          let full = full_line firm c interval (stored s) o few ∙ f in
          record { answer = rw (o, full); view = sym (full_same firm c interval (stored s) full); same = λ _ _. refl }

      -- done: put into those that stay
      pub gives_put : (new : Checksums) → line_by firm c.frame interval (stored s) ≤ c.frame
          → others_full c.frame (kept_from (line_by firm c.frame interval (stored s)) (stored s)) ≡ false
          → stored new ≡ put checksum_frame c (kept_from (line_by firm c.frame interval (stored s)) (stored s)) → ReportedAs s c interval firm done new
      gives_put new h f e =
          let room = full_line firm c interval (stored s) o few ∙ f in
          record { answer = rw (o, room); view = e ∙ sym (report_line firm c interval (stored s) o h room); same = λ _ q. cc }
