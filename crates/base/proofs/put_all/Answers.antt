-- `base::put_all` meets its contract. Assumes nothing.
use Rattle.base.proofs.Parts.{copied}
use Rattle.base.proofs.put_all.Goals as goal

pub returns : goal.returns
returns g c = rw c.copy_from_slice.ensures.after (copied _ _ _ c.requires)
