use Rattle.std.proofs.Common.{◌≡◌, ◌+◌, ◌^◌, ◌<◌, ◌∙◌, ap, arith, inl, inr, length, refl, subst, suc, sym, zero, ℕ}
use Rattle.std.proofs.lemmas.Result.{IfOk-weaker}
use Rattle.vx_families.proofs.Given.{given_past}
use Rattle.vx_group.proofs.GroupLaws.{IsGroup-extends, IsGroup-path_known}
use Rattle.vx_group.specs.Group.{path_of}
use Rattle.vx_heap.proofs.HeapLaws.{IsHeap-extends}
use Rattle.vx_heap.proofs.Written.{allowed_known}
use Rattle.vx_natives.proofs.Behaving.{behaviour-attempts, calls_given, calls_held}
use Rattle.vx_natives.proofs.Few.{few-attempts}
use Rattle.vx_natives.proofs.Full.{full-attempts}
use Rattle.vx_space.proofs.Spaces.{Extends-trans}
use Rattle.vx_lang.proofs.attempting.attempt.Goals as goal

-- one operand more than those left has a number of 32 bits
room : (depth taken : ℕ) → depth < 2 ^ 32 → (taken ≡ 0 → depth < 2 ^ 16) → depth + 1 < 2 ^ 32 + taken
room depth zero few none = omega (arith, none refl)
room depth (suc n) few none = omega (arith, few)

pub native_call-requires-clause-few : goal.native_call-requires-clause-few
native_call-requires-clause-few g c = rw (← c.group.view_is) c.group.invariant.1

pub returns-then-breaks_rules-clause-ok : goal.returns-then-breaks_rules-clause-ok
returns-then-breaks_rules-clause-ok g c =
    let site = c.args.site.now in
    let m = c.args.method.0 in
    let depth : c.len-depth.result ≡ length c.args.group.top.stack.conds = rw (← c.top_frame.ensures) c.len-depth.ensures in
    IfOk-weaker c.illegal.result _ _
    (λ r h. elim (c.breaks_rules.ensures.broken c.if-breaks_rules.true) [
      | inl few ↦ few-attempts site c.requires.given.0 m c.args.heap.now c.args.group r.items.items c.in_ok-native.ensures.extends c.requires.given.1 (omega (arith, few, depth, c.in_ok-native.ensures.taken)) (h _)
      | inr full ↦ full-attempts site c.requires.given.0 m c.args.behaviour c.args.heap.now c.args.group r.items.items c.in_ok-native.ensures.extends c.requires.given.1 c.requires.does (omega (arith, full.0, c.in_ok-native.ensures.taken)) (omega (arith, full.1, depth)) (h _)
    ]) c.illegal.ensures

pub answered-requires-clause-classes : goal.answered-requires-clause-classes
answered-requires-clause-classes g c = c.requires.given.1.bounded.classes

pub answered-requires-clause-heap : goal.answered-requires-clause-heap
answered-requires-clause-heap g c = IsHeap-extends c.in_ok-native.ensures.extends c.args.heap.now c.requires.given.1.is_heap

pub answered-requires-clause-for_program : goal.answered-requires-clause-for_program
answered-requires-clause-for_program g c = c.requires.given.1.is_for

pub answered-requires-clause-calls : goal.answered-requires-clause-calls
answered-requires-clause-calls g c = c.in_ok-native.ensures.calls.is_cond

pub answered-requires-clause-runs : goal.answered-requires-clause-runs
answered-requires-clause-runs g c =
    let given = c.requires.given.1 in
    let e = c.in_ok-native.ensures.extends in
    let s0 = g.S.Space.sets c.args.space.now in
    let s1 = g.S.Space.sets c.native_call.new.space in
    record {
      inside = λ d t.
          let path = sym (e.test (path_of c.args.group) d (IsGroup-path_known s0 c.args.group given.is_group)) ∙ ap (λ i. s1.test i d) (sym c.in_ok-native.ensures.calls.scope) ∙ t in
          e.test c.args.heap.now.allowed d (allowed_known s0 c.args.heap.now given.is_heap) ∙ given.runs.inside d path;
    }

pub answered-requires-clause-held : goal.answered-requires-clause-held
answered-requires-clause-held g c = calls_held c.args.site.now c.requires.given.0 c.args.method.0 c.args.behaviour c.args.heap.now c.args.group c.in_ok-native.native.calls c.requires.given.1 c.requires.does c.in_ok-native.ensures.calls c.in_ok-native.ensures.extends

pub answered-requires-clause-given : goal.answered-requires-clause-given
answered-requires-clause-given g c = calls_given c.args.site.now c.requires.given.0 c.args.method.0 c.args.behaviour c.args.heap.now c.args.group c.in_ok-native.native.calls c.requires.given.1 c.requires.does c.in_ok-native.ensures.calls c.in_ok-native.ensures.extends

pub returns-in_err-answers-clause-extends : goal.returns-in_err-answers-clause-extends
returns-in_err-answers-clause-extends g c = Extends-trans c.in_ok-native.ensures.extends c.answered.ensures.extends

pub carry_out-requires-clause-ready : goal.carry_out-requires-clause-ready
carry_out-requires-clause-ready g c =
    let depth : c.len-depth.result ≡ length c.args.group.top.stack.conds = rw (← c.top_frame.ensures) c.len-depth.ensures in
    let few : length c.args.group.top.stack.conds < 2 ^ 32 = rw (← c.group.view_is) c.group.invariant.1 in
    let enough = c.breaks_rules.ensures.enough c.if-breaks_rules.false in
    record {
      is_group = IsGroup-extends (Extends-trans c.in_ok-native.ensures.extends c.in_ok-answers.ensures.extends) c.args.group c.requires.given.1.is_group;
      past = given_past c.args.site.now c.requires.given.0 _ c.args.heap.now c.args.group c.requires.given.1;
      enough = omega (arith, enough, depth);
      few = room (length c.args.group.top.stack.conds) c.in_ok-native.native.taken few (λ none. subst (λ n. n < 2 ^ 16) depth (c.breaks_rules.ensures.room c.if-breaks_rules.false none));
      are_answers = c.in_ok-answers.ensures.done.is_cond;
      inside = record { inside = λ d t. ap (λ i. (g.S.Space.sets c.answered.new.space).test i d) (c.in_ok-answers.ensures.done.scope ∙ c.in_ok-native.ensures.calls.scope) ∙ t };
    }

pub carry_out-requires-clause-scope : goal.carry_out-requires-clause-scope
carry_out-requires-clause-scope g c = c.in_ok-answers.ensures.done.scope ∙ c.in_ok-native.ensures.calls.scope

pub returns-clause-extends : goal.returns-clause-extends
returns-clause-extends g c = Extends-trans c.in_ok-native.ensures.extends (Extends-trans c.in_ok-answers.ensures.extends c.carry_out.ensures.extends)

pub returns-clause-ok : goal.returns-clause-ok
returns-clause-ok g c =
    IfOk-weaker c.carry_out.result _ _
    (λ r h.
    behaviour-attempts c.args.site.now c.requires.given.0 c.args.method.0 c.args.behaviour c.args.heap.now c.args.group c.in_ok-native.native.calls c.requires.given.1 c.requires.does c.in_ok-native.ensures.calls c.in_ok-native.ensures.extends c.answered.new.heap c.in_ok-answers.answers r.items.items c.in_ok-answers.ensures.extends c.carry_out.ensures.extends c.in_ok-answers.ensures.done
    (rw c.in_ok-native.ensures.taken at h))
    c.carry_out.ensures.gives
