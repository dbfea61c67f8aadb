-- Inside the writer, where the room is known: what the functions that put one field after another leave.
use Rattle.std.specs.Prelude.{◌≡◌, List, [], ℕ, ◌+◌, ◌^◌, ◌<◌, length}
use Rattle.base.specs.Lay.{laid_at}
use Rattle.codec.specs.Message.{FitsBody, FitsReports, Reports, report_list, meant}
use Rattle.codec.specs.Bytes.{report_bytes, reports_bytes, statuses_bytes, body_bytes, head}
use Rattle.codec.specs.declared.StatusReport.{StatusReport}
use Rattle.codec.specs.declared.Message.{Message}

-- the piece stands at its place, and the answer is the place after it
pub record PutAs (buffer : List ℕ) (at : ℕ) (piece : List ℕ) (r : ℕ) (buffer' : List ℕ) : Type 0 where
  pub next : r ≡ at + length piece
  pub laid : buffer' ≡ laid_at buffer at piece

-- with it comes that each field has its width, as every value of the code's types has
pub record ReportPut (report : StatusReport) (buffer : List ℕ) (at r : ℕ) (buffer' : List ℕ) : Type 0 where
  pub put : PutAs buffer at (report_bytes report) r buffer'
  pub frame : report.last_frame < 2 ^ 32

pub record ReportsPut (reports : Reports) (buffer : List ℕ) (at r : ℕ) (buffer' : List ℕ) : Type 0 where
  pub put : PutAs buffer at (reports_bytes (report_list reports)) r buffer'
  pub frames : FitsReports (report_list reports)

pub record StatusesPut (reports : Reports) (buffer : List ℕ) (at r : ℕ) (buffer' : List ℕ) : Type 0 where
  pub put : PutAs buffer at (statuses_bytes (report_list reports)) r buffer'
  pub frames : FitsReports (report_list reports)
  pub count : length (report_list reports) ≡ reports.count

pub record BodyPut (m : Message) (n : ℕ) (buffer : List ℕ) (at r : ℕ) (buffer' : List ℕ) : Type 0 where
  pub put : PutAs buffer at (body_bytes m.body (meant m []).reports n) r buffer'
  pub fits : FitsBody m.body
  pub frames : FitsReports (meant m []).reports

pub record HeadPut (m : Message) (n : ℕ) (buffer : List ℕ) (at r : ℕ) (buffer' : List ℕ) : Type 0 where
  pub put : PutAs buffer at (head (meant m []) n) r buffer'
  pub magic : m.magic < 2 ^ 16
  pub fits : FitsBody m.body
  pub frames : FitsReports (meant m []).reports
