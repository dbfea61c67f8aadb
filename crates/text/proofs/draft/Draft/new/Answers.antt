-- A list that holds nothing counts 0.
use Rattle.std.proofs.Common.{rules}
use Rattle.text.proofs.DraftLaws.{nothing}
use Rattle.text.proofs.draft.Draft.new.Goals as goal

pub returns : goal.returns
returns c = nothing c.new.result (search rules) c.new.ensures
