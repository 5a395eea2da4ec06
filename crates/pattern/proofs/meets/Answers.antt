-- `pattern::meets` meets its contract. Assumes nothing.
use Rattle.std.proofs.Common.{arith, rules, ◌≡◌, ◌<◌, ◌^◌, refl, bit_or}
use Rattle.std.proofs.lemmas.Iterator.{YieldsList-from_range}
use Rattle.std.proofs.lemmas.Iterator.Consumers.{fold_from_yields_List}
use Rattle.pattern.specs.Word.{common_word}
use Rattle.pattern.proofs.Rows.{meet_word, meet_yes, meet_no}
use Rattle.pattern.proofs.meets.Goals as goal

pub returns : goal.returns
returns c =
    let p = c.args.p.now in
    let i = c.args.i in
    let j = c.args.j in
    let e : c.fold.result ≡ meet_word p i j = fold_from_yields_List _ (λ a w. bit_or a (common_word p i j w)) 0 c.fold.result c.fold.ensures.ran (YieldsList-from_range 0 4 4 refl refl) (λ a x b q k. search rules) in
    let fits : meet_word p i j < 2 ^ 64 = omega (arith, e) in
    record { yes = λ h. meet_yes p i j fits (rw e at h); no = λ h. meet_no p i j (rw e at h) }
