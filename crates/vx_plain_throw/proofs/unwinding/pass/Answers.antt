use Rattle.std.proofs.Common.{ap}
use Rattle.vx_java.specs.Throwing.{passed_object, passed_state}
use Rattle.vx_plain.specs.Views.{state_of}
use Rattle.vx_plain_throw.proofs.Laws.{place_of_kind, state_of_kind}
use Rattle.vx_plain_throw.proofs.unwinding.pass.Goals as goal
use Rattle.vx_value.specs.declared.key.Kind.TheVariants.{Init, Wait}

pub returns-in-Call : goal.returns-in-Call
returns-in-Call c =
    let p = c.args.program.now in
    let s = state_of c.args.state.now in
    record {
      object = ap (λ kind. passed_object p s kind c.args.object) c.in-Call.ensures;
      state = ap (λ kind. passed_state p s kind c.args.object) c.in-Call.ensures;
      err = tt;
    }

pub returns-in-Init : goal.returns-in-Init
returns-in-Init c =
    let p = c.args.program.now in
    let s = state_of c.args.state.now in
    record {
      object = place_of_kind c.pass_initialisation.result p s c.args.object Init s.top.kind c.in-Init.ensures c.pass_initialisation.ensures.object;
      state = state_of_kind c.pass_initialisation.result p s (state_of c.pass_initialisation.new.state) c.args.object Init s.top.kind c.in-Init.ensures c.pass_initialisation.ensures.state;
      err = c.pass_initialisation.ensures.err;
    }

pub returns-in-Wait : goal.returns-in-Wait
returns-in-Wait c =
    let p = c.args.program.now in
    let s = state_of c.args.state.now in
    record {
      object = place_of_kind c.pass_initialisation-in-Wait.result p s c.args.object Wait s.top.kind c.in-Wait.ensures c.pass_initialisation-in-Wait.ensures.object;
      state = state_of_kind c.pass_initialisation-in-Wait.result p s (state_of c.pass_initialisation-in-Wait.new.state) c.args.object Wait s.top.kind c.in-Wait.ensures c.pass_initialisation-in-Wait.ensures.state;
      err = c.pass_initialisation-in-Wait.ensures.err;
    }
