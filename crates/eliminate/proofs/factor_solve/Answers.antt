-- `eliminate::factor_solve` meets its contract. Assumes nothing.
use Rattle.memory.proofs.Plans.{given_of}
use Rattle.eliminate.proofs.Rows.{two_room, solved_all, back_in}
use Rattle.eliminate.proofs.factor_solve.Goals as goal

pub backward-requires : goal.backward-requires
backward-requires c =
    let b = c.requires.0 in
    back_in (given_of b.is {work = c.args.work.now} c.requires.1 c.requires.2) (two_room (c.factor_forward.ensures b.off b.cols b.is).kept)

pub returns : goal.returns
returns c = λ off cols P. solved_all (given_of P c.requires.1 c.requires.2) (c.factor_forward.ensures off cols P) c.backward.ensures
