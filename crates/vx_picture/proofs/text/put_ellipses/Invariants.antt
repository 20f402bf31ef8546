use Rattle.std.proofs.Common.{◌≡◌, ◌++◌, take}
use Rattle.std.specs.List.{flat_map}
use Rattle.vx_picture.specs.Text.{ellipse_text}
use Rattle.vx_picture.proofs.text.put_ellipses.Given as goal

abbrev pub invariant-loop-ellipse : goal.invariant-loop-ellipse
invariant-loop-ellipse l = l.out.items ≡ l.initial.out.items ++ flat_map (ellipse_text l.names) (take l.ellipse-index l.ellipses)
