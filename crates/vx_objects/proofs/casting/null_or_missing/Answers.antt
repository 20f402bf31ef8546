use Rattle.std.proofs.Common.{◌≤◌, arith, length}
use Rattle.vx_group_states.specs.Sites.{here}
use Rattle.vx_java.specs.Machine.{unsupported}
use Rattle.vx_java.specs.Operation.{class_word}
use Rattle.vx_link.specs.Names.{class_name}
use Rattle.vx_group_states.proofs.EndingLaws.{HasPast-part}
use Rattle.vx_group_states.proofs.Gathering.{IsPartOf-group}
use Rattle.vx_ready.proofs.Going.{part_operands}
use Rattle.vx_ready.proofs.Splitting.{GivesAt-later}
use Rattle.vx_space.proofs.Spaces.{Extends-refl, Extends-trans}
use Rattle.vx_objects.proofs.Missing.{without-gives}
use Rattle.vx_objects.proofs.casting.null_or_missing.Goals as goal

pub missing_part-requires : goal.missing_part-requires
missing_part-requires g c = IsPartOf-group _ _ _ c.args.group _ c.in_ok-passing.ensures.outside

pub answered_part-requires-clause-group : goal.answered_part-requires-clause-group
answered_part-requires-clause-group g c = IsPartOf-group _ _ _ c.args.group _ c.in_ok-passing.ensures.inside

pub answered_part-requires-clause-past : goal.answered_part-requires-clause-past
answered_part-requires-clause-past g c = HasPast-part c.args.site.now _ _ _ c.args.group _ c.in_ok-passing.ensures.inside c.requires.past

pub answered_part-requires-clause-operand : goal.answered_part-requires-clause-operand
answered_part-requires-clause-operand g c =
    let count = part_operands _ _ _ c.args.group _ c.in_ok-passing.ensures.inside in
    omega (arith, count, c.requires.operand)

pub returns-in_err-outcomes-clause-extends : goal.returns-in_err-outcomes-clause-extends
returns-in_err-outcomes-clause-extends g c = Extends-trans c.in_ok-passing.ensures.extends c.answered_part.ensures.extends

pub returns-in_err-append-clause-extends : goal.returns-in_err-append-clause-extends
returns-in_err-append-clause-extends g c = Extends-trans c.in_ok-passing.ensures.extends c.in_ok-outcomes.ensures.extends

pub returns-clause-extends : goal.returns-clause-extends
returns-clause-extends g c = Extends-trans c.in_ok-passing.ensures.extends c.in_ok-outcomes.ensures.extends

pub returns-clause-gives : goal.returns-clause-gives
returns-clause-gives g c = λ sets earlier set heap.
    let site = c.args.site.now in
    let some : 1 ≤ length c.args.group.top.stack.conds = omega (arith, c.requires.operand) in
    let later = g.S.Space.sets c.split.new.space in
    rw c.in_ok-append.ensures.ok (without-gives site c.args.index c.args.answer _ c.args.group _ _ c.args.null _ _ c.requires.names some earlier set c.in_ok-passing.ensures.extends c.in_ok-passing.ensures.inside c.in_ok-passing.ensures.outside c.in_ok-outcomes.ensures.gives (λ heap. GivesAt-later site.program.now later (λ _ _ s. unsupported (here site s) class_word (class_name (here site s).pool c.args.index)) _ _ heap (Extends-refl later) c.in_ok-outcomes.ensures.extends (c.in_ok-missing.ensures heap)) heap)
