use Rattle.vx_verify.proofs.StartLaws.{value_one, value_two}
use Rattle.vx_verify.proofs.start.put_value.Goals as goal

pub returns-then-not-is_long : goal.returns-then-not-is_long
returns-then-not-is_long c =
    value_one c.args.store.now c.put_type.new.self c.args.numbers.now.items _ c.in_ok-number.number c.args.item c.is_of-is_long.result c.requires.numbers c.in_ok-number.ensures.ok c.is_of-is_long.ensures
    c.if-not-is_long.true c.in_ok-push.ensures.items

pub returns : goal.returns
returns c =
    value_two c.args.store.now c.put_type.new.self c.args.numbers.now.items _ _ c.in_ok-number.number c.args.item c.is_of-is_long.result c.requires.numbers c.in_ok-number.ensures.ok c.is_of-is_long.ensures
    c.if-not-is_long.false c.in_ok-push.ensures.items c.in_ok-push-2.ensures.items
