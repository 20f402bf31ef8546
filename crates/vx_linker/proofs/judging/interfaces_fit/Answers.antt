use Rattle.std.proofs.Common.{◌∙◌, sym, ◌++◌}
use Rattle.std.proofs.lemmas.List.Folds.{list_all-map}
use Rattle.vx_link.specs.Faults.{passes, file_named, is_interface_file}
use Rattle.vx_link.specs.Names.{class_name}
use Rattle.vx_linker.proofs.judging.interfaces_fit.Goals as goal

pub returns : goal.returns
returns c =
    c.all_fit.ensures ∙ sym (list_all-map (λ name. passes is_interface_file (file_named (c.args.files.now.classes.items ++ c.args.files.now.core.items) name)) (class_name c.args.class.now.pool) c.args.class.now.interfaces)
