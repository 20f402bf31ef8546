use Rattle.std.proofs.Common.{Option, ap, sym, ◌∙◌}
use Rattle.std.specs.Prelude.{option_map}
use Rattle.vx_link.specs.Assignability.{assignable}
use Rattle.vx_plain.specs.Views.{state_of, value_of}
use Rattle.vx_plain_casts.specs.Casts.{tested_object, tested_value}
use Rattle.vx_plain_casts.specs.declared.casts.Cast.TheVariants.{Object}
use Rattle.vx_value.specs.declared.ids.ClassId.{ClassId}
use Rattle.vx_plain_casts.proofs.casts.tested_value.Goals as goal

pub returns-in-Some : goal.returns-in-Some
returns-in-Some c =
    let p = c.args.here.now.program.now in
    let s = state_of c.args.state.now in
    ap (λ fits. Object fits) (c.assignable.ensures ∙ ap (λ from. assignable p from c.in-Some.class.0) c.class_of.ensures)
    ∙ ap (λ (n : Option ClassId). tested_object p s c.in-Ref.object (option_map (λ k. k.0) n)) (sym c.in-Some.is)
    ∙ ap (λ v. tested_value p s (option_map (λ k. k.0) c.args.named) (value_of v)) (sym c.in-Ref.is)
