use native.Mathlib.Omega.{arith}
use Rattle.entries.proofs.Entries.{put_copy}
use Rattle.entries.proofs.put4.Goals as goal

pub returns : goal.returns
returns c = rw c.copy_from_slice.ensures.after (put_copy _ _ _ (omega arith) c.requires)
