use Rattle.std.proofs.Common.{rules, tests, ◌∙◌, take, arith}
use Rattle.std.proofs.lemmas.Iterator.{YieldsList-from_slice}
use Rattle.std.proofs.lemmas.Iterator.Search.{position_from_yields_List}
use Rattle.machine.specs.Outcome.{is_spoilt}
use Rattle.machine.proofs.Lowest.{position_first}
use Rattle.machine.proofs.lowest_spoilt.Goals as goal

pub returns : goal.returns
returns c =
    let s = c.args.statuses in
    position_from_yields_List _ _ _ _ c.position.ensures.ran (YieldsList-from_slice (take c.args.width s) cc) (λ x b q k. search (rules, tests))
    ∙ position_first is_spoilt s c.args.width (omega arith)
