use Rattle.std.proofs.Common.{◌≡◌, Bool, List, true, false, ap, arith, sym}
use Rattle.vx_frames.proofs.GivingLaws.{GivesIn-split, IsGroupIn-part}
use Rattle.vx_group.proofs.CallerLaws.{Keeps-refl}
use Rattle.vx_group.proofs.GroupLaws.{IsGroupIn-group}
use Rattle.vx_group.specs.Group.{path_of}
use Rattle.vx_group_states.proofs.Gathering.{IsPartOf-group}
use Rattle.vx_group_states.proofs.StateLaws.{both_first}
use Rattle.vx_group_states.specs.Sites.{here}
use Rattle.vx_heap.specs.Heap.{HeapView}
use Rattle.vx_java.specs.Machine.{State, illegal}
use Rattle.vx_ready.proofs.Going.{part_operands}
use Rattle.vx_space.proofs.Spaces.{Extends-trans}
use Rattle.vx_returns.specs.Handing.{left_by, left_where}
use Rattle.vx_returns.proofs.returning.leave_where.Goals as goal

pub split-requires-clause-group : goal.split-requires-clause-group
split-requires-clause-group g c = IsGroupIn-group _ _ c.args.group c.requires.group

pub ended_part-requires : goal.ended_part-requires
ended_part-requires g c = IsPartOf-group _ _ _ c.args.group _ c.in_ok-leaving.ensures.outside

pub leave-requires-clause-bounded : goal.leave-requires-clause-bounded
leave-requires-clause-bounded g c = c.requires.bounded

pub leave-requires-clause-group : goal.leave-requires-clause-group
leave-requires-clause-group g c =
    let path = (g.S.Space.sets c.args.space.now).test (path_of c.args.group) in
    IsGroupIn-part c.in_ok-leaving.ensures.extends (Keeps-refl c.args.callers.now) _ c.args.group c.in_ok-leaving.leaving (λ d t. both_first (path d) _ t) c.requires.group c.in_ok-leaving.ensures.inside

pub leave-requires-clause-value : goal.leave-requires-clause-value
leave-requires-clause-value g c = λ _. omega (arith, c.requires.operand, part_operands _ _ _ c.args.group c.in_ok-leaving.leaving c.in_ok-leaving.ensures.inside)

pub returns-in_err-append-clause-extends : goal.returns-in_err-append-clause-extends
returns-in_err-append-clause-extends g c = Extends-trans c.in_ok-leaving.ensures.extends c.in_ok-outcomes.ensures.extends

pub returns-clause-extends : goal.returns-clause-extends
returns-clause-extends g c = Extends-trans c.in_ok-leaving.ensures.extends c.in_ok-outcomes.ensures.extends

pub returns-clause-gives : goal.returns-clause-gives
returns-clause-gives g c = λ heap.
    let site = c.args.site.now in
    let start = g.S.Space.sets c.args.space.now in
    let fits = start.test c.args.fits in
    let leaves = λ (h : HeapView _ _) (d : List Bool) (s : State). left_by site true s in
    let ended = λ (h : HeapView _ _) (d : List Bool) (s : State). illegal (here site s) in
    let says = λ (h : HeapView _ _) (d : List Bool) (s : State). left_where site true (fits d) s in
    let first = λ (d : List Bool) (t : fits d ≡ true) (s : State). ap (λ b. left_where site true b s) (sym t) in
    let second = λ (d : List Bool) (t : fits d ≡ false) (s : State). ap (λ b. left_where site true b s) (sym t) in
    rw (c.in_ok-outcomes.ensures.callers, c.in_ok-append.ensures.ok) (GivesIn-split site.program.now c.args.callers.now c.args.callers.now fits c.args.group c.in_ok-leaving.leaving _ says leaves ended _ _ heap c.in_ok-leaving.ensures.extends c.in_ok-outcomes.ensures.extends (Keeps-refl c.args.callers.now) c.in_ok-leaving.ensures.inside c.in_ok-leaving.ensures.outside first second (rw c.in_ok-outcomes.ensures.callers at (c.in_ok-outcomes.ensures.gives heap)) (c.in_ok-ended.ensures heap))
