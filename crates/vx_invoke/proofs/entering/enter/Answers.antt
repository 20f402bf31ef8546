use Rattle.std.proofs.Common.{refl}
use Rattle.std.proofs.lemmas.Result.{IfOk-weaker}
use Rattle.vx_group.proofs.GroupLaws.{IsGroup-one_scope, IsGroupIn-group}
use Rattle.vx_invoke.proofs.EnterLaws.{caller_arguments, caller_group, enter-gives, full-gives}
use Rattle.vx_invoke.proofs.entering.enter.Goals as goal

pub returns-then-depth-ge-MOST_FRAMES-clause-gives : goal.returns-then-depth-ge-MOST_FRAMES-clause-gives
returns-then-depth-ge-MOST_FRAMES-clause-gives g c =
    IfOk-weaker c.raise.result _ _ (λ r' h'. λ heap. full-gives _ c.args.group c.args.count c.requires.enter.enough c.args.site.now c.args.method heap c.args.callers.now _ (rw c.depth.ensures at c.if-depth-ge-MOST_FRAMES.true) (λ h s. h' _ heap c.args.callers.now h s))
    c.raise.ensures

pub taken-requires-clause-scope : goal.taken-requires-clause-scope
taken-requires-clause-scope g c = IsGroup-one_scope _ c.args.group (IsGroupIn-group _ _ c.args.group c.requires.group)

pub entered-requires-clause-group : goal.entered-requires-clause-group
entered-requires-clause-group g c = caller_group _ c.args.group c.args.count c.requires.enter.enough c.args.callers.now c.in_ok-caller.caller c.in_ok-caller.ensures.left c.requires.group

pub entered-requires-clause-arguments : goal.entered-requires-clause-arguments
entered-requires-clause-arguments g c = caller_arguments _ c.args.group c.args.count c.requires.enter.enough _ c.in_ok-caller.caller _ c.in_ok-caller.ensures.left c.in_ok-caller.ensures.values (c.requires.enter.room c.args.method refl)

pub returns-clause-gives : goal.returns-clause-gives
returns-clause-gives g c =
    IfOk-weaker c.go.result _ _ (λ r' h'. λ heap. enter-gives _ c.args.group c.args.count c.requires.enter.enough c.args.site.now c.args.method heap c.args.callers.now _ c.in_ok-caller.caller c.in_ok-called.called _ _ (rw c.depth.ensures at c.if-depth-ge-MOST_FRAMES.false) c.in_ok-caller.ensures.left c.in_ok-caller.ensures.values c.in_ok-called.ensures.entered h')
    c.go.ensures.one
