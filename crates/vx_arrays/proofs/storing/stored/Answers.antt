use Rattle.vx_space.proofs.Spaces.{Extends-trans}
use Rattle.vx_arrays.proofs.Stores.{stored-made}
use Rattle.vx_arrays.proofs.storing.stored.Goals as goal

pub passes_at-requires-clause-places : goal.passes_at-requires-clause-places
passes_at-requires-clause-places g c = c.in_ok-places.ensures.ok.is_cond

pub returns-clause-extends : goal.returns-clause-extends
returns-clause-extends g c = Extends-trans c.in_ok-places.ensures.extends c.in_ok-answers.ensures.extends

pub returns-clause-ok : goal.returns-clause-ok
returns-clause-ok g c = stored-made c.args.site.now c.args.element c.args.heap.now c.written.new.heap c.passes_at.new.heap c.args.group.now c.in_ok-places.places c.in_ok-answers.answers c.requires.running c.in_ok-places.ensures.extends c.in_ok-answers.ensures.extends c.in_ok-places.ensures.ok c.in_ok-answers.ensures.more c.in_ok-answers.ensures.ok
