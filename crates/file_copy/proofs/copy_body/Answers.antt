-- `file_copy::copy_body` meets its contract. Assumes nothing.
use mathlib.Core.Path.{refl, ◌∙◌}
use native.Mathlib.Omega.{arith}
use lib.ListN.{length}
use Prim.Native.Nat.{◌/◌}
use Rattle.file_numbers.proofs.Agrees.{how_many}
use Rattle.file_copy.proofs.Copies.{word_more, words_all, word_is}
use Rattle.file_copy.proofs.copy_body.Goals as goal

pub bounds-index-start : goal.bounds-index-start
bounds-index-start c =
    omega (arith, c.requires, how_many c.args.body.now, c.as_chunks.ensures.front_len, c.loop-k.auto.index, c.loop-k-test.true)

pub loop-k-preserved : goal.loop-k-preserved
loop-k-preserved c =
    let body = c.args.body.now in
    let word = word_is body (length body / 4) c.loop-k.k refl (omega (arith, c.as_chunks.ensures.front_len, c.loop-k-test.true)) in
    word_more _ _ _ _ _ _ (omega (arith, how_many body, c.as_chunks.ensures.front_len, c.loop-k-test.true))
    (c.from_le_bytes.ensures ∙ rw c.as_chunks.ensures.front word) c.loop-k.invariant

pub returns : goal.returns
returns c =
    words_all _ _ _ _ _ _ (omega (arith, how_many c.args.body.now, c.as_chunks.ensures.front_len))
    (omega (arith, c.loop-k.auto, c.loop-k-test.false)) c.loop-k.invariant
