-- `file_lists::is_side_list` meets its contract. Assumes nothing.
use native.Mathlib.Omega.{arith}
use mathlib.Core.Path.{sym, ap, ◌∙◌}
use lib.ListN.{length}
use Rattle.lists.specs.Lists.{shape, ends_of}
use Rattle.lists.specs.declared.Side.TheVariants.{Matrix}
use Rattle.transpose.specs.Bins.{cols_of}
use Rattle.transpose.proofs.Count.{ends_long, cols_long}
use Rattle.plan_file.specs.Verdicts.{same}
use Rattle.file_numbers.specs.Agree.{numbers_of, agree}
use Rattle.file_numbers.proofs.Agrees.{agree_same}
use Rattle.file_lists.specs.declared.Part.{Part}
use Rattle.file_lists.specs.Sizes.{side_list}
use Rattle.file_lists.proofs.Small.{front}
use Rattle.file_lists.proofs.is_side_list.Goals as goal

pub is_same-requires : goal.is_same-requires
is_same-requires c =
    let rows = c.args.rows.now in
    let list = side_list rows.offsets.now (cols_of rows.columns) rows.m rows.n in
    (omega (arith, c.put_starts-words.ensures.ends.next, c.requires.3, ap (λ (p : Part). length (list p)) c.in-Ends.is), omega (arith, c.put_starts-words.ensures.ends.next, ends_long rows.offsets.now (cols_of rows.columns) rows.m rows.n, c.requires.2, c.put_starts-words.auto.made))

pub match_rows-requires : goal.match_rows-requires
match_rows-requires c =
    let rows = c.args.rows.now in
    let cols = cols_of rows.columns in
    (omega (arith, c.requires.0, c.put_starts-words.auto.next), c.requires.3 ∙ ap (λ (p : Part). length (side_list rows.offsets.now cols rows.m rows.n p)) c.in-Entries.is ∙ cols_long rows.offsets.now cols rows.m rows.n _, c.put_starts-words.ensures.starts)

pub returns-in-Ends : goal.returns-in-Ends
returns-in-Ends c =
    let rows = c.args.rows.now in
    let s = numbers_of c.args.body.now in
    let cols = cols_of rows.columns in
    let list = side_list rows.offsets.now cols rows.m rows.n in
    c.is_same.ensures
    ∙ ap (agree s 0) (front _ _ _ _ (omega (arith, ends_long rows.offsets.now cols rows.m rows.n, c.requires.2)) c.put_starts-words.ensures.ends)
    ∙ agree_same s (ends_of (shape rows.offsets.now cols) Matrix rows.m rows.n) (c.requires.3 ∙ ap (λ (p : Part). length (list p)) c.in-Ends.is)
    ∙ ap (λ (p : Part). same s (list p)) (sym c.in-Ends.is)
