-- `root::root` meets its contract. Assumes nothing.
use mathlib.Core.Path.{sym, ap, ◌∙◌, subst}
use lib.Dec.{T}
use Rattle.root.specs.Root.{root_bits}
use Rattle.root.proofs.Floats.{read_back}
use Rattle.root.proofs.root.Goals as goal

pub returns : goal.returns
returns c = c.value_of.ensures ∙ read_back _ (subst T (sym c.well_formed.0.1) tt) _ (c.root_bits.ensures ∙ ap root_bits c.bits_of.ensures)
