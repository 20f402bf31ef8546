use Rattle.vx_natives.specs.declared.effect.Exception.TheVariants as exception
use Rattle.vx_effects.proofs.Carried.{class_of_raised}
use Rattle.vx_effects.proofs.giving.class_raised.Goals as goal

pub returns-in-Null : goal.returns-in-Null
returns-in-Null c = class_of_raised c.args.program.now c.args.exception exception.Null c.core_class.result.0 c.in-Null.is c.core_class.ensures

pub returns-in-BadIndex : goal.returns-in-BadIndex
returns-in-BadIndex c = class_of_raised c.args.program.now c.args.exception exception.BadIndex c.core_class-in-BadIndex.result.0 c.in-BadIndex.is c.core_class-in-BadIndex.ensures

pub returns-in-BadNumber : goal.returns-in-BadNumber
returns-in-BadNumber c = class_of_raised c.args.program.now c.args.exception exception.BadNumber c.core_class-in-BadNumber.result.0 c.in-BadNumber.is c.core_class-in-BadNumber.ensures

pub returns-in-Memory : goal.returns-in-Memory
returns-in-Memory c = class_of_raised c.args.program.now c.args.exception exception.Memory c.core_class-in-Memory.result.0 c.in-Memory.is c.core_class-in-Memory.ensures

pub returns-in-NegativeSize : goal.returns-in-NegativeSize
returns-in-NegativeSize c = class_of_raised c.args.program.now c.args.exception exception.NegativeSize c.core_class-in-NegativeSize.result.0 c.in-NegativeSize.is c.core_class-in-NegativeSize.ensures

pub returns-in-Store : goal.returns-in-Store
returns-in-Store c = class_of_raised c.args.program.now c.args.exception exception.Store c.core_class-in-Store.result.0 c.in-Store.is c.core_class-in-Store.ensures

pub returns-in-Outside : goal.returns-in-Outside
returns-in-Outside c = class_of_raised c.args.program.now c.args.exception exception.Outside c.core_class-in-Outside.result.0 c.in-Outside.is c.core_class-in-Outside.ensures
