use Rattle.std.proofs.lemmas.Result.{on_ok_weaker}
use Rattle.vx_placing.proofs.Going.{AreLeavesOf-no_text, AreLeavesOf-text, empty_text, some_text}
use Rattle.vx_placing.proofs.placing.put_text.Goals as goal

pub returns-then-is_empty-clause-put : goal.returns-then-is_empty-clause-put
returns-then-is_empty-clause-put g c = AreLeavesOf-no_text _ c.args.texts.now.items c.args.condition c.args.stream c.args.text.items c.requires.texts c.requires.apart (empty_text c.args.text.items c.args.text.len c.args.text.ok.0 c.if-is_empty.ensures)

pub returns-clause-put : goal.returns-clause-put
returns-clause-put g c =
    on_ok_weaker c.add.result
    (λ added. AreLeavesOf-text (g.S.Space.sets c.args.space.now) _ c.args.texts.now.items c.add.new.list.items c.args.condition c.args.stream c.args.text.items c.from_vec.result (some_text c.args.text.items c.args.text.len c.args.text.ok.0 c.if-is_empty.ensures) c.from_vec.ensures added)
    c.add.ensures.added
