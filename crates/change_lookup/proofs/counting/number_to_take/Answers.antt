use Rattle.change_lookup.proofs.Numbers.{new_taken, spare_taken}
use Rattle.change_lookup.proofs.counting.number_to_take.Goals as goal

pub returns-in-Some : goal.returns-in-Some
returns-in-Some c = rw c.in-Some.is (spare_taken c.args.room c.args.count c.in-Some.number)

pub returns-in-None : goal.returns-in-None
returns-in-None c = rw c.in-None.is (new_taken c.args.room c.args.count c.first_new.result c.first_new.ensures)
