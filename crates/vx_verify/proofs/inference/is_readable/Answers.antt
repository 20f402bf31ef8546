use Rattle.std.proofs.Common.{ap, arith, ◌∙◌}
use Rattle.std.specs.Prelude.{nat_le}
use Rattle.vx_verify.proofs.PutLaws.{words_known}
use Rattle.vx_verify.proofs.Reaching.{readable_is}
use Rattle.vx_verify.specs.States.{operands_at}
use Rattle.vx_verify.proofs.inference.is_readable.Goals as goal

pub returns : goal.returns
returns c =
    let s = c.args.store.now in
    ap (nat_le c.words.result) c.from.ensures
    ∙ ap (λ n. nat_le n c.args.max_stack) (c.words.ensures ∙ words_known s c.args.operands c.requires.store c.requires.operands)
    ∙ readable_is (operands_at s c.args.operands) c.args.max_stack (omega arith)
