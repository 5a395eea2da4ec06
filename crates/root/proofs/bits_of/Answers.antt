-- `root::bits_of` meets its contract. Assumes nothing.
use mathlib.Core.Path.{sym, ap, ◌∙◌}
use lib.Ieee.{binary64, to_bits}
use Rattle.root.proofs.Floats.{is_nan_lem, nan_pattern}
use Rattle.root.proofs.bits_of.Goals as goal

pub returns-then-is_nan : goal.returns-then-is_nan
returns-then-is_nan c = nan_pattern ∙ ap (to_bits binary64) (is_nan_lem _ (sym c.if-is_nan.ensures.value))
