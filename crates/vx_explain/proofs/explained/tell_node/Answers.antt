use Rattle.std.proofs.Common.{◌∙◌}
use Rattle.vx_space.proofs.Spaces.{Extends-trans}
use Rattle.vx_explain.proofs.Explaining.{IsTold-of, example_of, rule_later}
use Rattle.vx_explain.proofs.explained.tell_node.Goals as goal

pub and-requires-clause-first : goal.and-requires-clause-first
and-requires-clause-first g c = (c.set_of-set.ensures c.args.report.now.nodes c.requires.sets).known

pub and-requires-clause-second : goal.and-requires-clause-second
and-requires-clause-second g c = c.requires.scope.known

pub rule_within-requires-clause-set : goal.rule_within-requires-clause-set
rule_within-requires-clause-set g c = c.in_ok-both.ensures.extends.known c.set_of-set.result (c.set_of-set.ensures c.args.report.now.nodes c.requires.sets).known

pub rule_within-requires-clause-scope : goal.rule_within-requires-clause-scope
rule_within-requires-clause-scope g c = c.in_ok-both.ensures.extends.known c.args.scope c.requires.scope.known

pub returns-clause-extends : goal.returns-clause-extends
returns-clause-extends g c = Extends-trans c.in_ok-both.ensures.extends c.in_ok-rule.ensures.extends

pub returns-clause-told : goal.returns-clause-told
returns-clause-told g c =
    let set = c.set_of-set.ensures c.args.report.now.nodes c.requires.sets in
    IsTold-of (g.met.S.Space.lawful c.args.space.now) c.args.report.now c.args.node c.set_of-set.result c.args.scope _ c.requires.options set c.requires.scope
    (c.in_ok-rule.ensures.rule ∙ rule_later c.in_ok-both.ensures.extends c.set_of-set.result c.args.scope set.known c.requires.scope.known)
    (example_of (g.met.S.Space.lawful c.and.new.self) c.in_ok-both.ensures.extends c.set_of-set.result c.args.scope c.in_ok-both.both c.in_ok-example.example c.in_ok-both.ensures.ok c.in_ok-example.ensures.none c.in_ok-example.ensures.some)
