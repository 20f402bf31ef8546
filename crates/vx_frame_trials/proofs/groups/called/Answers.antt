use Rattle.std.proofs.Common.{ap, arith, suc, sym, ◌∙◌}
use Rattle.vx_space.proofs.Spaces.{Extends-trans}
use Rattle.vx_frame_trials.proofs.CalledLaws.{AreArguments-more, alone_depth, alone_in}
use Rattle.vx_frame_trials.proofs.groups.called.Goals as goal

pub arguments-requires : goal.arguments-requires
arguments-requires g c = c.in_ok-group.ensures.extends.known c.args.on c.requires.known

pub entered-requires-clause-group : goal.entered-requires-clause-group
entered-requires-clause-group g c = alone_in c.in_ok-arguments.ensures.extends _ c.in_ok-group.group c.in_ok-group.ensures.alone

pub entered-requires-clause-depth : goal.entered-requires-clause-depth
entered-requires-clause-depth g c = let one = alone_depth _ c.in_ok-group.group c.in_ok-group.ensures.alone in omega (arith, one)

pub entered-requires-clause-arguments : goal.entered-requires-clause-arguments
entered-requires-clause-arguments g c = AreArguments-more _ _ _ 3 _ _ (c.in_ok-group.ensures.alone.path ∙ sym c.in_ok-arguments.ensures.extends.always) c.requires.room c.in_ok-arguments.ensures.arguments

pub returns-clause-extends : goal.returns-clause-extends
returns-clause-extends g c = Extends-trans c.in_ok-group.ensures.extends c.in_ok-arguments.ensures.extends

pub returns-clause-group : goal.returns-clause-group
returns-clause-group g c = c.in_ok-group-2.ensures.entered.is_group

pub returns-clause-depth : goal.returns-clause-depth
returns-clause-depth g c = c.in_ok-group-2.ensures.entered.depth ∙ ap suc (alone_depth _ c.in_ok-group.group c.in_ok-group.ensures.alone)
