-- `eliminate::factor_forward` meets its contract. Assumes nothing.
use Rattle.std.proofs.Common.{◌≡◌, arith}
use Rattle.lanes.proofs.Regions.{kept_room}
use Rattle.memory.proofs.Plans.{given_of}
use Rattle.eliminate.proofs.Rows.{two_room, done_none, done_more, done_all, due}
use Rattle.eliminate.proofs.factor_forward.Goals as goal

pub loop-i-init : goal.loop-i-init
loop-i-init c = λ off cols P. done_none (given_of P c.requires.1 c.requires.2)

pub normal_matrix_cholesky_row-v-requires : goal.normal_matrix_cholesky_row-v-requires
normal_matrix_cholesky_row-v-requires c =
    let b = c.requires.0 in
    record { off = b.off; cols = b.cols; is = due (given_of b.is {work = c.args.work.now} c.requires.1 c.requires.2) (c.loop-i.invariant b.off b.cols b.is) (rw c.regions-mem.ensures at c.loop-i-test.true) }

pub put-requires : goal.put-requires
put-requires c =
    let b = c.requires.0 in
    let h = rw c.regions-mem.ensures at c.loop-i-test.true in
    let i = c.loop-i.invariant b.off b.cols b.is in
    let r = c.normal_matrix_cholesky_row-v.ensures b.off b.cols (due (given_of b.is {work = c.args.work.now} c.requires.1 c.requires.2) i h) in
    rw c.regions-mem.ensures (c.requires.2, omega (arith, c.requires.1, h, two_room i.kept, kept_room r.kept))

pub loop-i-preserved : goal.loop-i-preserved
loop-i-preserved c =
    λ off cols P.
    let g = given_of P {work = c.args.work.now} c.requires.1 c.requires.2 in
    let h = rw c.regions-mem.ensures at c.loop-i-test.true in
    let i = c.loop-i.invariant off cols P in
    let r = c.normal_matrix_cholesky_row-v.ensures off cols (due g i h) in
    done_more g i h r.kept r.filled r.entry (rw c.regions-mem.ensures at c.put.ensures)

pub returns : goal.returns
returns c =
    λ off cols P.
    let e : c.loop-i.i ≡ c.regions-mem.result.m = omega arith in
    done_all (given_of P c.requires.1 c.requires.2) (c.loop-i.invariant off cols P) (rw c.regions-mem.ensures at e)
