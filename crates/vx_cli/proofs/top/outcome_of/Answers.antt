use Rattle.std.proofs.Common.{arith}
use Rattle.vx_cli.specs.Pages.{page_text}
use Rattle.vx_plans.specs.Job.{Exactly, Summary}
use Rattle.vx_cli.proofs.Shown.{answer_given, given_of, product_given}
use Rattle.vx_cli.proofs.top.outcome_of.Goals as goal

pub run_text-requires-clause-least : goal.run_text-requires-clause-least
run_text-requires-clause-least g c = let range = rw c.in-Run.is at c.requires in omega (arith, range.0.0)

pub run_text-requires-clause-most : goal.run_text-requires-clause-most
run_text-requires-clause-most g c = let range = rw c.in-Run.is at c.requires in range.0.1

pub run_text-requires-clause-version : goal.run_text-requires-clause-version
run_text-requires-clause-version g c = let range = rw c.in-Run.is at c.requires in range.1

pub load_text-requires-clause-least : goal.load_text-requires-clause-least
load_text-requires-clause-least g c = let range = rw c.in-Load.is at c.requires in range.1

pub load_text-requires-clause-most : goal.load_text-requires-clause-most
load_text-requires-clause-most g c = let range = rw c.in-Load.is at c.requires in range.2

pub returns-in-Run-clause-given : goal.returns-in-Run-clause-given
returns-in-Run-clause-given g c = rw (c.said.ensures, c.in-Run.is) (given_of _ _ _ _ c.run_text.ensures.ok c.run_text.ensures.err)

pub returns-in-Project-clause-given : goal.returns-in-Project-clause-given
returns-in-Project-clause-given g c = rw (c.said-in-Project.ensures, c.in-Project.is) (given_of _ _ _ _ c.projection.ensures.ok c.projection.ensures.err)

pub returns-in-Output-clause-given : goal.returns-in-Output-clause-given
returns-in-Output-clause-given g c = rw (c.said-in-Output.ensures, c.in-Output.is) (given_of _ _ _ _ c.output_of.ensures.ok c.output_of.ensures.err)

pub returns-in-Tell-clause-given : goal.returns-in-Tell-clause-given
returns-in-Tell-clause-given g c = rw (c.said-in-Tell.ensures, c.in-Tell.is) (given_of _ _ _ _ c.tale_of.ensures.ok c.tale_of.ensures.err)

pub returns-in-Agree-clause-given : goal.returns-in-Agree-clause-given
returns-in-Agree-clause-given g c = rw (c.said-in-Agree.ensures, c.in-Agree.is) (given_of _ _ _ _ c.agreement_of.ensures.ok c.agreement_of.ensures.err)

pub returns-in-Join-clause-given : goal.returns-in-Join-clause-given
returns-in-Join-clause-given g c = rw (c.said-in-Join.ensures, c.in-Join.is) (given_of _ _ _ _ c.join_of.ensures.ok c.join_of.ensures.err)

pub returns-in-Asm-clause-given : goal.returns-in-Asm-clause-given
returns-in-Asm-clause-given g c = rw (c.said-in-Asm.ensures, c.in-Asm.is) (given_of _ _ _ _ c.class_file.ensures.ok c.class_file.ensures.err)

pub returns-in-Load-clause-given : goal.returns-in-Load-clause-given
returns-in-Load-clause-given g c = rw (c.said-in-Load.ensures, c.in-Load.is) (product_given (g.F.Files.seen c.args.files.now) (g.F.Files.seen c.args.files.now) (Summary c.in-Load.words.seed c.in-Load.words.options) _ c.load_text.ensures)

pub returns-in-Verify-clause-given : goal.returns-in-Verify-clause-given
returns-in-Verify-clause-given g c = rw (c.said-in-Verify.ensures, c.in-Verify.is) (given_of _ _ _ _ c.verification.ensures.ok c.verification.ensures.err)

pub returns-in-Retell-clause-given : goal.returns-in-Retell-clause-given
returns-in-Retell-clause-given g c = rw (c.said-in-Retell.ensures, c.in-Retell.is) (given_of _ _ _ _ c.retold.ensures.ok c.retold.ensures.err)

pub returns-in-Cut-clause-given : goal.returns-in-Cut-clause-given
returns-in-Cut-clause-given g c = rw (c.said-in-Cut.ensures, c.in-Cut.is) (given_of _ _ _ _ c.cutting.ensures.ok c.cutting.ensures.err)

pub returns-in-Doctor-clause-given : goal.returns-in-Doctor-clause-given
returns-in-Doctor-clause-given g c = rw c.in-Doctor.is c.doctor_of.ensures.given

pub returns-in-Show-clause-given : goal.returns-in-Show-clause-given
returns-in-Show-clause-given g c = rw (c.said-in-Show.ensures, c.in-Show.is) (product_given (g.F.Files.seen c.args.files.now) (g.F.Files.seen c.args.files.now) (Exactly (page_text c.in-Show.page)) _ c.text_of_page.ensures)

pub returns-in-Check-clause-given : goal.returns-in-Check-clause-given
returns-in-Check-clause-given g c = rw c.in-Check.is (answer_given _ _ _ _ c.check_of.ensures.ok c.check_of.ensures.err)

pub returns-in-Compare-clause-given : goal.returns-in-Compare-clause-given
returns-in-Compare-clause-given g c = rw c.in-Compare.is (answer_given _ _ _ _ c.compare_of.ensures.ok c.compare_of.ensures.err)

pub returns-in-Run-clause-told : goal.returns-in-Run-clause-told
returns-in-Run-clause-told g c = rw c.in-Run.is c.run_text.ensures.told
