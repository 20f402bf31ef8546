use Rattle.vx_initial_heap.proofs.Listed.{listed_more}
use Rattle.vx_initial_heap.proofs.literals.Literals.add_new_entry.Goals as goal

pub returns-in_ok-add_entry-clause-added : goal.returns-in_ok-add_entry-clause-added
returns-in_ok-add_entry-clause-added c =
    rw c.in_ok-add_entry.ensures (listed_more c.args.self.now c.args.pool.now c.args.entry.now c.args.added.now c.put.new.self c.put.ensures.texts c.put.ensures.classes c.requires)
