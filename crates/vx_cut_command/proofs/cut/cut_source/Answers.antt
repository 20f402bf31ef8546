use Rattle.std.proofs.Common.{◌∙◌}
use Rattle.std.proofs.lemmas.Result.{err_from_is_err_and}
use Rattle.vx_model.specs.Models.{is_allowed}
use Rattle.vx_space.proofs.Spaces.{IsSet-extends}
use Rattle.vx_cut_command.specs.Words.{choice_of}
use Rattle.vx_cut_command.proofs.Choosing.{chosen_length}
use Rattle.vx_cut_command.proofs.Sources.{cut_gives, unchosen_refused}
use Rattle.vx_cut_command.proofs.cut.cut_source.Goals as goal

pub chosen_options-requires-clause-known : goal.chosen_options-requires-clause-known
chosen_options-requires-clause-known c = c.requires.modeled.is_set.known

pub chosen_options-requires-clause-options : goal.chosen_options-requires-clause-options
chosen_options-requires-clause-options c = c.requires.modeled.options

pub returns-in_err-chosen : goal.returns-in_err-chosen
returns-in_err-chosen c =
    let p = err_from_is_err_and c.from_residual.result c.from_residual.ensures.1 in
    rw (p.1, p.2) (unchosen_refused c.args.words.model.now c.args.source.text.items (choice_of c.args.words.chosen) c.args.source.modeled.model _ c.in_err-chosen.ensures.chosen)

pub parts_by-requires-clause-spelled : goal.parts_by-requires-clause-spelled
parts_by-requires-clause-spelled c = rw c.as_slice.ensures.value c.requires.spelled

pub parts_by-requires-clause-names : goal.parts_by-requires-clause-names
parts_by-requires-clause-names c = c.requires.modeled.names

pub parts_by-requires-clause-allowed : goal.parts_by-requires-clause-allowed
parts_by-requires-clause-allowed c = IsSet-extends c.in_ok-chosen.ensures.extends c.args.source.modeled.allowed (is_allowed c.args.source.modeled.model) c.requires.modeled.is_set

pub parts_by-requires-clause-options : goal.parts_by-requires-clause-options
parts_by-requires-clause-options c = c.in_ok-chosen.ensures.extends.options ∙ c.requires.modeled.options

pub parts_by-requires-clause-chosen : goal.parts_by-requires-clause-chosen
parts_by-requires-clause-chosen c = rw c.as_slice-2.ensures.value (chosen_length (choice_of c.args.words.chosen) c.args.source.modeled.model c.in_ok-chosen.chosen.items c.in_ok-chosen.ensures.chosen)

pub returns : goal.returns
returns c =
    let made = rw (c.as_slice.ensures.value, c.as_slice-2.ensures.value) at c.parts_by.ensures in
    cut_gives c.args.words.model.now c.args.source.text.items (choice_of c.args.words.chosen) c.args.source.modeled.model c.in_ok-chosen.chosen.items c.parts_by.result c.in_ok-chosen.ensures.chosen made
