use Rattle.file_write.proofs.Puts.{Puts}
use Rattle.file_write.proofs.records.put_words.Given as goal

abbrev pub invariant-loop-x : goal.invariant-loop-x
invariant-loop-x l = Puts 4 l.initial.file l.file l.start l.list l.x-index l.at
