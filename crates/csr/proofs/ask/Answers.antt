-- A matrix that got five yeses is accepted. Assumes nothing.
use mathlib.Core.Path.{sym}
use Rattle.csr.proofs.Yes.{accepted_of}
use Rattle.csr.proofs.ask.Goals as goal

pub invariant_of-result : goal.invariant_of-result
invariant_of-result c = record { accepted = accepted_of _ _ _ _ c.args.values (sym c.in_ok-ask_lists.ensures) }
