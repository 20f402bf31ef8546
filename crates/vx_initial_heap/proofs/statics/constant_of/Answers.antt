use Rattle.vx_initial_heap.proofs.Constants.{constant_held, text_constant}
use Rattle.vx_initial_heap.proofs.statics.constant_of.Goals as goal

pub returns-in-Some-Text-clause-value : goal.returns-in-Some-Text-clause-value
returns-in-Some-Text-clause-value c =
    text_constant c.args.program.now c.args.literals.now c.args.class.0 c.args.constant c.object_of.result c.args.pool.now c.in-Some-Text.field-0.now _ c.requires.literals c.requires.pool c.in-Some-Text.ensures c.in-Some-Text.field-0-is c.object_of.ensures

pub returns-in-Some-Text-clause-held : goal.returns-in-Some-Text-clause-held
returns-in-Some-Text-clause-held c =
    constant_held c.args.program.now c.args.literals.now c.args.class.0 c.args.constant c.object_of.result c.args.pool.now c.in-Some-Text.field-0.now c.requires.literals c.requires.pool c.in-Some-Text.ensures c.object_of.ensures
