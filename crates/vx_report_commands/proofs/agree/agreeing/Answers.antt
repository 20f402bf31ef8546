use Rattle.std.proofs.Common.{arith, sym, ◌∙◌, inr}
use Rattle.vx_interact.proofs.Entries.{few_options}
use Rattle.vx_report_commands.proofs.Alike.{alike, not_alike}
use Rattle.vx_report_commands.proofs.agree.agreeing.Goals as goal

pub overflow_cast-len : goal.overflow_cast-len
overflow_cast-len c = omega (arith, few_options c.args.one.now c.requires.one, c.len.ensures)

pub new-requires : goal.new-requires
new-requires c = omega (arith, few_options c.args.one.now c.requires.one, c.len.ensures)

pub returns-then-not-have_same_options : goal.returns-then-not-have_same_options
returns-then-not-have_same_options c = inr (not_alike c.args.one.now c.args.other.now (sym c.have_same_options.ensures.names ∙ c.if-not-have_same_options.true))

pub agreement-requires-clause-names : goal.agreement-requires-clause-names
agreement-requires-clause-names c = rw c.if-not-have_same_options.false at c.have_same_options.ensures.told

pub agreement-requires-clause-options : goal.agreement-requires-clause-options
agreement-requires-clause-options c = sym (c.in_ok-space.ensures.options_are ∙ c.len.ensures)

pub agreement_text-requires-clause-known : goal.agreement_text-requires-clause-known
agreement_text-requires-clause-known c = c.in_ok-set.ensures.agreement.known

pub agreement_text-requires-clause-options : goal.agreement_text-requires-clause-options
agreement_text-requires-clause-options c = sym (c.in_ok-set.ensures.extends.options ∙ c.in_ok-space.ensures.options_are ∙ c.len.ensures)

pub returns : goal.returns
returns c = record {
  alike = alike c.args.one.now c.args.other.now (sym c.have_same_options.ensures.names ∙ c.if-not-have_same_options.false);
  shows = c.in_ok-agreement_text.ensures.text c.args.other.now c.in_ok-set.ensures.agreement;
}
