-- `file_write::put_file` meets its contract. Assumes nothing.
use mathlib.Core.Path.{refl}
use native.Mathlib.Omega.{arith}
use lib.ListN.{length}
use Rattle.file_write.specs.Writable.{Writable}
use Rattle.file_write.proofs.Runs.{with_sizes, Writing, writing_none, writing_more, list_fits, list_long, record_fits, record_low}
use Rattle.file_write.proofs.put_file.Goals as goal

pub loop-k-init : goal.loop-k-init
loop-k-init c = λ lists w. writing_none lists _ _ _ _ w

pub overflow_add-end : goal.overflow_add-end
overflow_add-end c =
    let lists = c.requires.1.0 in
    let known : Writable lists c.sizes-sizes.result c.args.index.now (length c.args.file.now) = with_sizes c.sizes-sizes.ensures c.requires.1.1 in
    omega (arith, list_fits lists _ _ _ known _ _ _ _ _ _ c.loop-k-test.true refl (c.loop-k.invariant lists known))

pub slice_bounds-put_record-end : goal.slice_bounds-put_record-end
slice_bounds-put_record-end c =
    let lists = c.requires.1.0 in
    let known : Writable lists c.sizes-sizes.result c.args.index.now (length c.args.file.now) = with_sizes c.sizes-sizes.ensures c.requires.1.1 in
    omega (arith, list_fits lists _ _ _ known _ _ _ _ _ _ c.loop-k-test.true refl (c.loop-k.invariant lists known))

pub put_record-at-requires : goal.put_record-at-requires
put_record-at-requires c =
    let lists = c.requires.1.0 in
    let known : Writable lists c.sizes-sizes.result c.args.index.now (length c.args.file.now) = with_sizes c.sizes-sizes.ensures c.requires.1.1 in
    let going : Writing lists c.args.index.now c.args.file.now c.loop-k.file c.loop-k.at c.loop-k.from c.loop-k.k = c.loop-k.invariant lists known in
    let fits = record_fits lists _ _ _ known _ _ _ _ _ _ c.loop-k-test.true refl going in
    let low = record_low lists _ _ _ known _ _ _ _ _ _ c.loop-k-test.true refl going in
    let long = list_long lists _ _ _ known _ _ _ _ _ _ c.loop-k-test.true refl going in
    (omega (arith, c.loop-k.auto.file, fits, long), omega (arith, low, long))

pub loop-k-preserved : goal.loop-k-preserved
loop-k-preserved c = λ lists w. writing_more lists _ _ _ w _ _ _ _ _ _ c.loop-k-test.true refl (c.loop-k.invariant lists w) _ _ c.put_record-at.ensures
