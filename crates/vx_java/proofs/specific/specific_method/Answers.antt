use Rattle.std.proofs.Common.{◌∙◌, ap, sym}
use Rattle.vx_java.proofs.Specifics.{abstract_where_none, conflict_where_more, none_selected, selected_as, selected_where_one, specifics_are}
use Rattle.vx_java.specs.Selection.{of_specific}
use Rattle.vx_java.specs.Specific.{specific_in}
use Rattle.vx_link.specs.Hierarchy.{superinterfaces}
use Rattle.vx_java.proofs.specific.specific_method.Goals as goal

pub returns-in_default : goal.returns-in_default
returns-in_default c =
    let p = c.args.program.now in
    let s = c.args.sought.now in
    sym
    (ap of_specific (specifics_are p s.0 s.1 c.args.class.0)
    ∙ abstract_where_none (specific_in p s.0 s.1 c.args.class.0) (superinterfaces p c.args.class.0) (sym c.in_default.ensures))

pub returns-then-others_give : goal.returns-then-others_give
returns-then-others_give c =
    let p = c.args.program.now in
    let s = c.args.sought.now in
    sym
    (ap of_specific (specifics_are p s.0 s.1 c.args.class.0)
    ∙ conflict_where_more (specific_in p s.0 s.1 c.args.class.0) (superinterfaces p c.args.class.0) c.in-Some.first (sym c.in-Some.ensures) (sym c.others_give.ensures ∙ c.if-others_give.true))

pub returns-in-Some-specific_in : goal.returns-in-Some-specific_in
returns-in-Some-specific_in c =
    let p = c.args.program.now in
    let s = c.args.sought.now in
    selected_as (specific_in p s.0 s.1 c.args.class.0 c.in-Some.first) c.in-Some-specific_in.method c.in-Some-specific_in.ensures
    ∙ sym
    (ap of_specific (specifics_are p s.0 s.1 c.args.class.0)
    ∙ selected_where_one (specific_in p s.0 s.1 c.args.class.0) (superinterfaces p c.args.class.0) c.in-Some.first (sym c.in-Some.ensures) (sym c.others_give.ensures ∙ c.if-others_give.false))

pub returns-in-None : goal.returns-in-None
returns-in-None c =
    let p = c.args.program.now in
    let s = c.args.sought.now in
    none_selected (specific_in p s.0 s.1 c.args.class.0 c.in-Some.first) c.in-None.ensures
    ∙ sym
    (ap of_specific (specifics_are p s.0 s.1 c.args.class.0)
    ∙ selected_where_one (specific_in p s.0 s.1 c.args.class.0) (superinterfaces p c.args.class.0) c.in-Some.first (sym c.in-Some.ensures) (sym c.others_give.ensures ∙ c.if-others_give.false))
