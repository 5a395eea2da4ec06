-- `reading::solve_parts` meets its contract. Assumes nothing.
use Rattle.reading.proofs.Parts.{cut_text}
use Rattle.base.proofs.Write.{same_text}
use Rattle.reading.proofs.solve_parts.Goals as goal

pub returns : goal.returns
returns c =
    let given = c.args in
    same_text (cut_text given.sizes given.shorts.now given.floats.now _) c.solve_text.ensures
