use mathlib.Core.Path.{sym}
use native.Mathlib.Omega.{arith}
use lib.Seq.{length-take-le}
use Rattle.reading.specs.Answer.{index_words, work_floats}
use Rattle.reading.specs.Parts.{most_shorts, most_floats, most_output}
use Rattle.reading.proofs.Parts.{zeros_lem, blank_lem, front_room, front_long, read_text}
use Rattle.reading.proofs.Parts.{short_count, float_count, shorts_fit, floats_fit, output_long}
use Rattle.base.proofs.Write.{same_text}
use Rattle.reading.proofs.answer.Goals as goal

pub slice_bounds-read_shorts-end : goal.slice_bounds-read_shorts-end
slice_bounds-read_shorts-end c = sym (length-take-le _ _ (shorts_fit c.requires.0 (zeros_lem most_shorts c.filled-shorts.ensures)))

pub read_shorts-requires : goal.read_shorts-requires
read_shorts-requires c =
    let long = length-take-le (short_count c.args.sizes) c.filled-shorts.result (shorts_fit c.requires.0 (zeros_lem most_shorts c.filled-shorts.ensures)) in
    omega (arith, c.requires.0.ends, long)

pub slice_bounds-read_floats-end : goal.slice_bounds-read_floats-end
slice_bounds-read_floats-end c = sym (length-take-le _ _ (floats_fit c.requires.0 (blank_lem most_floats c.filled-floats.ensures)))

pub read_floats-requires : goal.read_floats-requires
read_floats-requires c =
    let long = length-take-le (float_count c.args.sizes) c.filled-floats.result (floats_fit c.requires.0 (blank_lem most_floats c.filled-floats.ensures)) in
    omega (arith, c.requires.0.ends, long)

pub slice_bounds-shorts-end-2 : goal.slice_bounds-shorts-end-2
slice_bounds-shorts-end-2 c =
    let fit = shorts_fit c.requires.0 (zeros_lem most_shorts c.filled-shorts.ensures) in
    front_room c.filled-shorts.result c.read_shorts.new.out (short_count c.args.sizes) fit c.read_shorts.auto.out

pub slice_bounds-solve_parts-end : goal.slice_bounds-solve_parts-end
slice_bounds-solve_parts-end c =
    let fit = shorts_fit c.requires.0 (zeros_lem most_shorts c.filled-shorts.ensures) in
    sym (front_long c.filled-shorts.result c.read_shorts.new.out (short_count c.args.sizes) fit c.read_shorts.auto.out)

pub slice_bounds-floats-end-2 : goal.slice_bounds-floats-end-2
slice_bounds-floats-end-2 c =
    let fit = floats_fit c.requires.0 (blank_lem most_floats c.filled-floats.ensures) in
    front_room c.filled-floats.result c.read_floats.new.out (float_count c.args.sizes) fit c.read_floats.auto.out

pub slice_bounds-solve_parts-end-2 : goal.slice_bounds-solve_parts-end-2
slice_bounds-solve_parts-end-2 c =
    let fit = floats_fit c.requires.0 (blank_lem most_floats c.filled-floats.ensures) in
    sym (front_long c.filled-floats.result c.read_floats.new.out (float_count c.args.sizes) fit c.read_floats.auto.out)

pub slice_bounds-solve_parts-end-3 : goal.slice_bounds-solve_parts-end-3
slice_bounds-solve_parts-end-3 c = sym (output_long c.requires.0 (blank_lem most_output c.filled-output.ensures))

pub solve_parts-requires : goal.solve_parts-requires
solve_parts-requires c =
    let whole = c.requires.0 in
    let z = c.args.sizes in
    record {
      rows = whole.rows;
      columns = whole.columns;
      entries = whole.entries;
      shorts_all = front_long c.filled-shorts.result c.read_shorts.new.out (short_count z) (shorts_fit whole (zeros_lem most_shorts c.filled-shorts.ensures)) c.read_shorts.auto.out;
      floats_all = front_long c.filled-floats.result c.read_floats.new.out (float_count z) (floats_fit whole (blank_lem most_floats c.filled-floats.ensures)) c.read_floats.auto.out;
      output_all = output_long whole (blank_lem most_output c.filled-output.ensures);
      room = c.requires.1;
    }

pub returns : goal.returns
returns c =
    same_text
    (read_text c.args.bytes.now c.args.sizes c.requires.0 c.filled-output.result c.filled-work.result c.filled-index.result
    c.filled-shorts.result c.read_shorts.new.out c.filled-floats.result c.read_floats.new.out
    (blank_lem most_output c.filled-output.ensures) (zeros_lem index_words c.filled-index.ensures) (blank_lem work_floats c.filled-work.ensures) (zeros_lem most_shorts c.filled-shorts.ensures) c.read_shorts.ensures (blank_lem most_floats c.filled-floats.ensures) c.read_floats.ensures
    c.read_shorts.auto.out c.read_floats.auto.out)
    c.solve_parts.ensures
