-- `shared_columns::count_shared` meets its contract. Assumes nothing.
use mathlib.Core.Path.{◌∙◌, ap}
use Prim.Native.Nat.{◌<◌}
use native.Mathlib.Omega.{arith}
use lib.ListN.{length, get_or}
use Rattle.std.specs.List.{count_by}
use Rattle.std.proofs.lemmas.List.Elements.{All-from_get_or}
use Rattle.std.proofs.lemmas.List.Sums.{count_by-le-length}
use Rattle.base.proofs.Numbers.{below_at}
use Rattle.csr.specs.Pattern.{row}
use Rattle.csr.proofs.RowParts.{row_le}
use Rattle.shared_columns.specs.Marked.{marked}
use Rattle.shared_columns.proofs.Among.{count_common}
use Rattle.shared_columns.proofs.Marks as marks
use Rattle.shared_columns.proofs.count_shared.Goals as goal

pub row-requires : goal.row-requires
row-requires c = marks.other_part c.requires

pub count_marked-requires : goal.count_marked-requires
count_marked-requires c =
    let r = row c.args.rows.now.offsets.now c.args.rows.now.columns.now c.args.j in
    rw c.row.ensures (All-from_get_or (λ v. v < length c.args.mark.now) r 0 (λ k h. below_at (length c.args.mark.now) r k (marks.other_below c.requires) h))

pub returns : goal.returns
returns c =
    let h = marked c.args.mark.now (get_or c.args.rows.now.offsets.now c.args.i 0) in
    let r = row c.args.rows.now.offsets.now c.args.rows.now.columns.now c.args.j in
    let e = c.count_marked.ensures ∙ ap (count_by h) c.row.ensures in
    (e ∙ count_common c.requires, omega (arith, e, count_by-le-length h r, row_le c.args.rows.now.offsets.now c.args.rows.now.columns.now c.args.j))
