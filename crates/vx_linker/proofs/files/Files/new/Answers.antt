use Rattle.std.proofs.Common.{◌∙◌, ap, sym, subst, [], Option}
use Rattle.vx_linker.specs.Answers.{IsFault}
use Rattle.vx_link.specs.Tables.{names_of, twice_among}
use Rattle.vx_link.specs.declared.fault.LinkFault.{LinkFault}
use Rattle.vx_linker.proofs.Twices.{twice_fault, twice_none}
use Rattle.vx_linker.proofs.files.Files.new.Goals as goal

pub returns-in-Ok-clause-judges : goal.returns-in-Ok-clause-judges
returns-in-Ok-clause-judges c =
    twice_none c.args.core.items c.args.classes.items c.in_ok-core_names.core_names (c.in_ok-core_names.ensures ∙ ap names_of c.deref.ensures.value)
    (ap (twice_among c.in_ok-core_names.core_names []) (sym c.deref-2.ensures.value) ∙ c.in-Ok.ensures.judges)

pub returns-in-Err-clause-judges : goal.returns-in-Err-clause-judges
returns-in-Err-clause-judges c =
    let P : Option LinkFault → Type 0 = IsFault c.in-Err.fault in
    twice_fault c.args.core.items c.args.classes.items c.in_ok-core_names.core_names c.in-Err.fault (c.in_ok-core_names.ensures ∙ ap names_of c.deref.ensures.value)
    (subst P (ap (twice_among c.in_ok-core_names.core_names []) c.deref-2.ensures.value) c.in-Err.ensures.judges)
