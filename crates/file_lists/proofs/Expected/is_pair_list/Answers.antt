-- `file_lists::Expected::is_pair_list` meets its contract. Assumes nothing.
use Prim.Native.Nat.{ℕ}
use mathlib.Core.Path.{ap, ◌∙◌}
use native.Mathlib.Omega.{arith}
use lib.ListN.{length}
use Rattle.base.proofs.Front.{cleared_at}
use Rattle.lists.specs.Lists.{shape, list_of}
use Rattle.file_numbers.specs.Agree.{numbers_of, agree}
use Rattle.file_numbers.proofs.Agrees.{agree_same}
use Rattle.file_lists.proofs.Small.{piece_room}
use Rattle.file_lists.proofs.Expected.is_pair_list.Goals as goal

pub same_list-requires : goal.same_list-requires
same_list-requires c =
    let x = c.args.self.now in
    let grid = x.source.listing.grid in
    let long = ap (λ (m : ℕ). length (list_of (shape x.source.rows.offsets.now x.source.rows.columns.now) c.args.which m)) x.same_m in (
      record {
        wide = x.source.n;
        listing = x.source.listing;
        long = omega (arith, c.requires.1, x.same_n);
        low = λ e h. omega (arith, cleared_at _ _ 0 0 x.plan.n c.fill_front.ensures e (omega (arith, x.same_n)));
      },
      omega (arith, c.requires.0, long),
      omega (arith, c.requires.2.rows),
      λ i h. piece_room _ _ x.plan.m x.plan.n i _ (rw (x.same_m, x.same_n) at grid) (omega (arith, x.same_m)) c.requires.2,
    )

pub returns : goal.returns
returns c =
    let x = c.args.self.now in
    c.same_list.ensures
    ∙ ap (λ (m : ℕ). agree (numbers_of c.args.body.now) 0 (list_of (shape x.source.rows.offsets.now x.source.rows.columns.now) c.args.which m)) x.same_m
    ∙ agree_same _ _ c.requires.0
