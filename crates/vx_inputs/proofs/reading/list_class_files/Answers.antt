use Rattle.std.proofs.Common.{arith, ◌∙◌, ap, length, map, string_bytes}
use Rattle.std.proofs.lemmas.List.{length-map}
use Rattle.vx_inputs.proofs.Inputs.{listed_gives, listed_exceeds}
use Rattle.vx_inputs.proofs.reading.list_class_files.Goals as goal

pub returns-then-len-gt-MOST_CLASSES-clause-err : goal.returns-then-len-gt-MOST_CLASSES-clause-err
returns-then-len-gt-MOST_CLASSES-clause-err g c next =
    let size = ap length c.keep_class_files.ensures in
    rw (c.in_ok-path-in-Ok.ensures ∙ c.as_bytes.ensures.value)
    (listed_exceeds _ _ _ (map string_bytes c.in-Ok.paths.items) next (omega (arith, size, length-map c.keep_class_files.new.paths.items string_bytes)) c.in-Ok.ensures.listed)

pub returns-else-len-gt-MOST_CLASSES-clause-ok : goal.returns-else-len-gt-MOST_CLASSES-clause-ok
returns-else-len-gt-MOST_CLASSES-clause-ok g c next =
    let size = ap length c.keep_class_files.ensures in
    rw c.keep_class_files.ensures
    (listed_gives _ c.args.folder.now (map string_bytes c.in-Ok.paths.items) next (omega (arith, size, length-map c.keep_class_files.new.paths.items string_bytes)) c.in-Ok.ensures.listed)

pub returns-else-len-gt-MOST_CLASSES-clause-listed : goal.returns-else-len-gt-MOST_CLASSES-clause-listed
returns-else-len-gt-MOST_CLASSES-clause-listed g c =
    record { listing = map string_bytes c.in-Ok.paths.items; told = c.in-Ok.ensures.listed; classes = c.keep_class_files.ensures; few = omega (arith, length-map c.keep_class_files.new.paths.items string_bytes) }
