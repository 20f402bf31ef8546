use Rattle.std.proofs.Common.{◌≡◌, Bool, List, true, false, ap, sym}
use Rattle.vx_group_states.proofs.Gathering.{IsPartOf-group}
use Rattle.vx_heap.specs.Heap.{HeapView}
use Rattle.vx_java.specs.Machine.{Go, State, when}
use Rattle.vx_ready.proofs.Splitting.{split-gives}
use Rattle.vx_returns.specs.Handing.{ended_at}
use Rattle.vx_returns.proofs.receiving.fitting_parts.Goals as goal

pub misfits-requires : goal.misfits-requires
misfits-requires g c = IsPartOf-group _ _ _ c.args.group _ c.in_ok-going.ensures.outside

pub going_part-requires : goal.going_part-requires
going_part-requires g c = IsPartOf-group _ _ _ c.args.group _ c.in_ok-going.ensures.inside

pub returns-clause-gives : goal.returns-clause-gives
returns-clause-gives g c = λ heap.
    let p = c.args.program.now in
    let fits = (g.S.Space.sets c.args.space.now).test c.args.fits in
    let goes = λ (h : HeapView _ _) (d : List Bool) (s : State). Go s in
    let ends = λ (h : HeapView _ _) (d : List Bool) (s : State). ended_at p c.args.at in
    let says = λ (h : HeapView _ _) (d : List Bool) (s : State). when (fits d) (Go s) (ended_at p c.args.at) in
    let first = λ (d : List Bool) (t : fits d ≡ true) (s : State). ap (λ b. when b (Go s) (ended_at p c.args.at)) (sym t) in
    let second = λ (d : List Bool) (t : fits d ≡ false) (s : State). ap (λ b. when b (Go s) (ended_at p c.args.at)) (sym t) in
    rw c.in_ok-append.ensures.ok (split-gives p fits c.args.group _ _ says goes ends _ _ heap c.in_ok-going.ensures.extends c.in_ok-going.ensures.inside c.in_ok-going.ensures.outside first second (c.in_ok-outcomes.ensures p heap) (c.in_ok-ended.ensures heap))
