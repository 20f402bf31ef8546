use Rattle.std.proofs.Common.{refl}
use Rattle.vx_gen.specs.Workload.{keep_items, turn_items}
use Rattle.vx_gen.proofs.Same.{gathered}
use Rattle.vx_gen.proofs.class_files.Goals as goal

pub returns : goal.returns
returns c = λ texts are.
    gathered c.new-files.result.items c.push.new.self.items c.push-2.new.self.items c.push-3.new.self.items c.push-4.new.self.items
    c.in_ok-main_file.field-0 c.in_ok-step_file.field-0 c.in_ok-stepping_file.field-0 c.in_ok-stepping_file-2.field-0 _ _ _ _
    c.new-files.ensures.items c.in_ok-push.ensures.items c.in_ok-push-2.ensures.items c.in_ok-push-3.ensures.items c.in_ok-push-4.ensures.items
    (c.in_ok-main_file.ensures texts are) c.in_ok-step_file.ensures (c.in_ok-stepping_file.ensures "Keep" keep_items refl refl) (c.in_ok-stepping_file-2.ensures "Turn" turn_items refl refl)
