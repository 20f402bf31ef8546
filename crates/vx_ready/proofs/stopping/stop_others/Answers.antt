use Rattle.std.proofs.Common.{◌≡◌, Bool, List, true}
use Rattle.std.specs.Prelude.{not, ◌&&◌}
use Rattle.vx_group.specs.Group.{path_of}
use Rattle.vx_group.proofs.GroupLaws.{IsPartOf-extends}
use Rattle.vx_java.specs.Machine.{State}
use Rattle.vx_space.proofs.Spaces.{Extends-trans}
use Rattle.vx_group_states.specs.Sites.{here}
use Rattle.vx_group_states.proofs.Gathering.{IsPartOf-group}
use Rattle.vx_ready.specs.Initialising.{stopped, stopped_by}
use Rattle.vx_ready.proofs.Splitting.{GivesWithin-part}
use Rattle.vx_ready.proofs.stopping.stop_others.Goals as goal
use Rattle.vx_group_states.proofs.StateLaws.{both_first}

pub stopped_parts-requires-clause-group : goal.stopped_parts-requires-clause-group
stopped_parts-requires-clause-group g c = IsPartOf-group _ _ _ c.args.group _ c.in_ok-going.ensures.outside

pub stopped_parts-requires-clause-needs : goal.stopped_parts-requires-clause-needs
stopped_parts-requires-clause-needs g c = c.in_ok-going.ensures.extends.known c.args.needs c.requires.needs

pub stopped_parts-requires-clause-fails : goal.stopped_parts-requires-clause-fails
stopped_parts-requires-clause-fails g c = c.in_ok-going.ensures.extends.known c.args.readiness.now.fails c.requires.fails

pub returns-clause-extends : goal.returns-clause-extends
returns-clause-extends g c = Extends-trans c.in_ok-going.ensures.extends c.in_ok-outcomes.ensures.extends

pub returns-clause-going : goal.returns-clause-going
returns-clause-going g c = IsPartOf-extends _ c.in_ok-outcomes.ensures.extends _ c.args.group _ c.in_ok-going.ensures.inside

pub returns-clause-others : goal.returns-clause-others
returns-clause-others g c = λ heap.
    let site = c.args.site.now in
    let start = g.S.Space.sets c.args.space.now in
    let later = g.S.Space.sets c.split.new.space in
    let e = c.in_ok-going.ensures.extends in
    let path = start.test (path_of c.args.group) in
    let others = λ (d : List Bool). path d && not (start.test c.args.readiness.now.proceeds d) in
    let law : (d : List Bool) → others d ≡ true → (s : State) → stopped_by site c.args.class.0 later c.args.needs c.args.readiness.now.fails heap d s ≡ stopped_by site c.args.class.0 start c.args.needs c.args.readiness.now.fails heap d s = λ d t s i. stopped (here site s) c.args.class.0 (e.test c.args.needs d c.requires.needs i) (e.test c.args.readiness.now.fails d c.requires.fails i) in
    GivesWithin-part site.program.now others c.args.group _ (stopped_by site c.args.class.0 start c.args.needs c.args.readiness.now.fails) (stopped_by site c.args.class.0 later c.args.needs c.args.readiness.now.fails) _ heap e (λ d t. both_first (path d) (not (start.test c.args.readiness.now.proceeds d)) t) c.in_ok-going.ensures.outside law (c.in_ok-outcomes.ensures.gives heap)
