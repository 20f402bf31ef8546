use Rattle.std.proofs.Common.{◌≡◌, ℕ, ◌<◌, ◌-◌, sym, ◌∙◌, arith, ap}
use Rattle.std.specs.Prelude.{Some}
use Rattle.vx_cond.proofs.CondLaws.{AreDisjoint-extends}
use Rattle.vx_group.proofs.CallerLaws.{Keeps-refl, Keeps-trans, AreCallers-later}
use Rattle.vx_group.proofs.JoinLaws.{AreJoined-same, AreJoined-step, same_callers, step_down, step_shapes}
use Rattle.vx_group.proofs.joins.+join_callers.Goals as goal
use Rattle.vx_group.proofs.joins.+join_callers.Goals.{in_default-via-in-Some+in_default, in_default-via-in_default}

pub returns-in_default-clause-ok : goal.returns-in_default-clause-ok
returns-in_default-clause-ok g t c =
    let same : ((x y : ℕ) → c.args.first.now.caller ≡ Some x → c.args.second.now.caller ≡ Some y → x ≡ y) → c.args.first.now.caller ≡ c.args.second.now.caller = same_callers (g.S.Space.sets c.args.space.now) c.args.callers.now c.args.depth c.args.first.now.path c.args.second.now.path c.args.first.now.caller c.args.second.now.caller c.requires.first c.requires.second in
    let one : c.args.first.now.caller ≡ c.args.second.now.caller = elim c.in_default.branch [
      | in_default-via-in-Some+in_default w ↦ let n = w.in_default.is-1 in same (λ x y p q. cc)
      | in_default-via-in_default w ↦ let n = w.in_default.is-0 in same (λ x y p q. cc)
    ] in
    AreJoined-same _ _ _ _ _ _ _ one c.requires.first c.requires.second

pub returns-then-m-n-clause-ok : goal.returns-then-m-n-clause-ok
returns-then-m-n-clause-ok g t c = AreJoined-same _ _ _ _ _ _ _ (c.in-Some-Some.is-0 ∙ ap Some c.if-m-n.true ∙ sym c.in-Some-Some.is-1) c.requires.first c.requires.second

pub join_inside-requires-clause-first : goal.join_inside-requires-clause-first
join_inside-requires-clause-first g t c = (step_down _ _ _ _ _ _ (rw c.in-Some-Some.is-0 at c.requires.first) (sym c.in-Some-Some-2.ensures)).1

pub join_inside-requires-clause-second : goal.join_inside-requires-clause-second
join_inside-requires-clause-second g t c = (step_down _ _ _ _ _ _ (rw c.in-Some-Some.is-1 at c.requires.second) (sym c.in-Some-Some-2.ensures')).1

pub join_inside-requires-clause-shapes : goal.join_inside-requires-clause-shapes
join_inside-requires-clause-shapes g t c = (step_shapes _ _ _ _ c.in-Some-Some-2.x.now c.in-Some-Some-2.y.now (step_down _ _ _ _ _ _ (rw c.in-Some-Some.is-0 at c.requires.first) (sym c.in-Some-Some-2.ensures)).0 (sym c.in-Some-Some-2.ensures) (sym c.in-Some-Some-2.ensures') (rw (c.in-Some-Some.is-0, c.in-Some-Some.is-1) at c.requires.shapes)).0

pub join_callers-requires : goal.join_callers-requires
join_callers-requires g t c κs within =
    let first = step_down _ _ _ _ _ c.in-Some-Some-2.x.now (rw c.in-Some-Some.is-0 at c.requires.first) (sym c.in-Some-Some-2.ensures) in
    let second = step_down _ _ _ _ _ c.in-Some-Some-2.y.now (rw c.in-Some-Some.is-1 at c.requires.second) (sym c.in-Some-Some-2.ensures') in
    let shapes = step_shapes _ _ _ _ c.in-Some-Some-2.x.now c.in-Some-Some-2.y.now first.0 (sym c.in-Some-Some-2.ensures) (sym c.in-Some-Some-2.ensures') (rw (c.in-Some-Some.is-0, c.in-Some-Some.is-1) at c.requires.shapes) in
    let e = c.in_ok-frame.ensures.extends in
    let falls : c.args.depth - 1 < t = rw c.decreases (let l = first.0 in omega (arith, l)) in
    let kept = Keeps-refl c.args.callers.now in
    (falls, (within.0, (within.1, (AreCallers-later e kept c.args.first.now.path c.requires.known_first (c.args.depth - 1) c.in-Some-Some-2.x.now.caller first.2, (AreCallers-later e kept c.args.second.now.path c.requires.known_second (c.args.depth - 1) c.in-Some-Some-2.y.now.caller second.2, (shapes.1, (e.known _ c.requires.known_first, (e.known _ c.requires.known_second, AreDisjoint-extends e c.requires.known_first c.requires.known_second c.requires.disjoint))))))))

pub returns-clause-keeps : goal.returns-clause-keeps
returns-clause-keeps g t c = Keeps-trans c.in_ok-caller.ensures.keeps c.in_ok-add.ensures.ok.keeps

pub returns-clause-ok : goal.returns-clause-ok
returns-clause-ok g t c =
    rw (c.in-Some-Some.is-0, c.in-Some-Some.is-1) (AreJoined-step _ _ _ _ _ _ c.in-Some-Some-2.x.now c.in-Some-Some-2.y.now _ _ c.requires.known_first c.requires.known_second (rw c.in-Some-Some.is-0 at c.requires.first) (rw c.in-Some-Some.is-1 at c.requires.second) (sym c.in-Some-Some-2.ensures) (sym c.in-Some-Some-2.ensures') c.in_ok-frame.ensures.extends c.in_ok-caller.ensures.extends c.in_ok-frame.ensures.ok c.in_ok-caller.ensures.keeps c.in_ok-caller.ensures.ok c.in_ok-add.ensures.ok)
