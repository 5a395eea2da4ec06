use native.Mathlib.Omega.{arith}
use mathlib.Core.Path.{◌∙◌}
use Rattle.layout.specs.Layout.{y_at, l_in}
use Rattle.outputs.proofs.Regions.{output_fits, region_out}
use Rattle.outputs.proofs.write_outputs.Goals as goal

pub write_output-requires-2 : goal.write_output-requires-2
write_output-requires-2 c =
    let p = c.args.plan in
    rw c.regions-at.ensures (output_fits c.args.lanes _ p.m (l_in p) _ _ c.requires.prices_long (omega arith) c.requires.room)

pub returns : goal.returns
returns c =
    let K = c.args.lanes in
    let p = c.args.plan in
    let work = c.args.work.now in
    let o = c.args.outcome in record {
      x = rw c.regions-at.ensures at c.write_output.ensures
          ∙ region_out K 0 p.n (l_in p) work c.args.output.now o c.requires.lanes c.requires.output_long (omega arith) c.requires.room;
      y = rw c.regions-at.ensures at c.write_output-2.ensures
          ∙ region_out K (y_at p.n) p.m (l_in p) work c.args.prices.now o c.requires.lanes c.requires.prices_long (omega arith) c.requires.room;
    }
