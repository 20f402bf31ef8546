use Rattle.std.proofs.Common.{◌≡◌, ◌++◌, take}
use Rattle.std.specs.List.{flat_map}
use Rattle.vx_picture.specs.Text.{box_text}
use Rattle.vx_picture.proofs.text.put_boxes.Given as goal

abbrev pub invariant-loop-subject : goal.invariant-loop-subject
invariant-loop-subject l = l.out.items ≡ l.initial.out.items ++ flat_map box_text (take l.subject-index l.boxes)
