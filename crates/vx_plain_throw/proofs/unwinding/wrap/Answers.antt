use Rattle.std.proofs.Common.{ap, sym, true, false, ◌≡◌, ◌∙◌, if◌then◌else◌}
use Rattle.vx_java.specs.Machine.{Null, Ref, next_object}
use Rattle.vx_java.specs.Throwing.{is_error, throwable, with_wrapper}
use Rattle.vx_link.specs.Assignability.{assignable}
use Rattle.vx_link.specs.ClassNames.{core_class}
use Rattle.vx_plain.specs.Views.{state_of}
use Rattle.vx_plain_throw.proofs.Laws.{wrapped_now, wrapped_place}
use Rattle.vx_plain_throw.proofs.unwinding.wrap.Goals as goal

pub returns-then-is_error : goal.returns-then-is_error
returns-then-is_error c =
    let p = c.args.program.now in
    let s = state_of c.args.state.now in
    let told : true ≡ is_error p s c.args.object = sym c.if-is_error.true ∙ c.is_error.ensures ∙ ap (λ class. assignable p class (core_class p "java/lang/Error")) c.class_of.ensures in
    record {
      object = ap (λ b. if b then c.args.object else next_object s) told;
      state = ap (λ b. if b then s else with_wrapper p s c.args.object) told;
      err = tt;
    }

pub returns : goal.returns
returns c =
    let p = c.args.program.now in
    let s = state_of c.args.state.now in
    let told : false ≡ is_error p s c.args.object = sym c.if-is_error.false ∙ c.is_error.ensures ∙ ap (λ class. assignable p class (core_class p "java/lang/Error")) c.class_of.ensures in
    let made = c.in_ok-made.ensures ∙ ap (λ class. throwable p class Null (Ref c.args.object)) c.core_class-class.ensures in
    record {
      object = wrapped_place c.add.result p s c.args.object told c.add.ensures.place;
      state = wrapped_now c.add.result p s (state_of c.add.new.self) c.args.object _ told made c.add.ensures.added;
      err = c.add.ensures.err;
    }
