use mathlib.Core.Path.{sym}
use lib.ListN.{length}
use Rattle.std.specs.Prelude.{option_map}
use Rattle.std.proofs.lemmas.Result.{err_from_is_err_and}
use Rattle.csr.proofs.Yes.{values_of}
use Rattle.file_questions.proofs.Three.{passes}
use Rattle.ipm_simd.specs.Solve.{given_of, with_file}
use Rattle.ipm_simd.proofs.Solves.{solved_on, solved_not, with_file_lem, matrix_is}
use Rattle.ipm_simd.proofs.solve.Goals as goal

pub solve_accepted-requires : goal.solve_accepted-requires
solve_accepted-requires c =
    let P = c.args.problem.now in
    let M = c.in_ok-matrix.ensures.matrix in
    let v = (passes _ _ (sym c.in_ok-matrix.ensures.verdict)).0 in
    (M.0, M.1, M.2, values_of P.m P.n P.rows.offsets.now P.rows.columns.now (length P.values.now) v)

pub returns-in_err-matrix : goal.returns-in_err-matrix
returns-in_err-matrix c =
    let a = with_file (option_map (λ f. f.now) c.args.file) (given_of c.args.problem.now c.args.controls) in
    let p = err_from_is_err_and c.from_residual.result c.from_residual.ensures.1 in
    rw (p.1, p.2) (solved_not a _ _ (matrix_is a c.in_err-matrix.ensures.verdict))

pub returns : goal.returns
returns c =
    let a = given_of c.args.problem.now c.args.controls in
    let file = option_map (λ f. f.now) c.args.file in
    solved_on (with_file file a) _ (matrix_is (with_file file a) c.in_ok-matrix.ensures.verdict) (with_file_lem file a c.solve_accepted.ensures)
