use Rattle.std.proofs.Common.{sym, ◌∙◌}
use Rattle.std.proofs.lemmas.Result.{on_ok_weaker}
use Rattle.vx_verify.proofs.StartLaws.{argument_read, argument_unread, no_sort}
use Rattle.vx_verify.proofs.start.put_argument.Goals as goal

pub put_unread-requires : goal.put_unread-requires
put_unread-requires c = no_sort c.args.program.now c.args.descriptor.now c.args.item.now (sym c.in-None.is ∙ c.in_ok-found.ensures)

pub returns-in-Some : goal.returns-in-Some
returns-in-Some c =
    on_ok_weaker c.put_value.result
    (λ h. argument_read c.args.store.now c.put_value.new.store c.args.program.now c.args.descriptor.now c.args.item.now c.args.numbers.now.items _ c.in-Some.value (sym c.in-Some.is ∙ c.in_ok-found.ensures) h)
    c.put_value.ensures

pub returns-in-None : goal.returns-in-None
returns-in-None c =
    on_ok_weaker c.put_unread.result
    (λ h. argument_unread c.args.store.now c.args.program.now c.args.descriptor.now c.args.item.now c.args.numbers.now.items _ c.requires.store c.requires.numbers (sym c.in-None.is ∙ c.in_ok-found.ensures) h)
    c.put_unread.ensures
