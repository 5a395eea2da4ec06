-- What follows where an index memory begins with the plan of a matrix. Assumes nothing.
use mathlib.Core.Path.{ap}
use mathlib.Core.List.{List}
use Prim.Native.Nat.{ℕ, ◌≤◌}
use native.Mathlib.Omega.{arith}
use lib.ListN.{length, length-append}
use lib.Ieee.{Float}
use Rattle.csr.specs.Counts.{size_w}
use Rattle.lists.specs.Lists.{plan_words}
use Rattle.lists.proofs.Sizes.{plan_size}
use Rattle.lanes.specs.Lanes.{Width, room}
use Rattle.plan_laws.specs.Prepared.{Prepared}
use Rattle.plan_laws.specs.Factoring.{Given}
use Rattle.plan_laws.proofs.Cuts.{prepared_of}
use Rattle.lists.proofs.Few.{few_stored, few_shared, few_products}
use Rattle.layout.specs.declared.Plan.{Plan}
use Rattle.layout.specs.Lists.{Indexed}
use Rattle.memory.specs.Planned.{Planned}
use Rattle.layout.specs.Layout.{top_in}

module _ {off cols : List ℕ} {vals : List Float} {p : Plan} {index : List ℕ} (P : Planned off cols vals p index) where
  -- the index memory has room for the plan, whose bytes fit a word of 64 bits
  pub indexed : Indexed p index
  unfolding size_w
  indexed =
      let c = P.counts in
      let k = P.ok.csr in
      record {
        room = omega (arith, c.stored, c.shared, c.products, P.entries, plan_size off cols p.m p.n P.ok, ap length P.plan, length-append (plan_words off cols p.m p.n) P.rest);
        fits = omega (arith, c.stored, c.shared, c.products, P.entries, few_stored off cols p.m k, few_shared off cols p.m k P.ok.offsets.few, few_products off cols p.m k, k.few, P.ok.offsets.few, P.ok.wide);
      }

  -- the sixteen lists, cut out between their bounds, are the plan's
  pub prepared : Prepared off cols vals p index
  prepared = prepared_of P.rest P.ok P.values P.slack P.plan P.entries P.counts.stored P.counts.shared P.counts.products

  -- what the factor starts from, where the working memory has room for it
  pub given_of : {width : ℕ} {work : List Float} → top_in p ≤ room width work → Width width → Given width off cols vals p index work
  given_of fits wide = record { prepared = prepared; indexed = indexed; wide = wide; fits = fits }
