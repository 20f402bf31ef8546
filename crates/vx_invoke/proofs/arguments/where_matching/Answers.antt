use Rattle.std.proofs.Common.{◌≡◌, ◌-◌, ap, get_or, length}
use Rattle.std.proofs.lemmas.List.{get_or_default}
use Rattle.vx_desc.specs.declared.java_type.Base.TheVariants.{Bool}
use Rattle.vx_desc.specs.declared.java_type.JavaType.{JavaType}
use Rattle.vx_invoke.proofs.Fitting.{IsMatching-start, IsMatching-step, operand_is_cond}
use Rattle.vx_invoke.proofs.arguments.where_matching.Goals as goal

-- what a place behind the last one would read
abbrev no_type : JavaType
no_type = record { base = Bool; dimensions = 0; from = 0; end = 0 }

pub loop-i-init : goal.loop-i-init
loop-i-init g c = IsMatching-start _ c.args.group.now c.args.types.now c.path-matching.result c.path-matching.ensures c.requires.group

pub where_fitting-requires : goal.where_fitting-requires
where_fitting-requires g c =
    let group = c.args.group.now in
    let types = c.args.types.now in
    let below : c.len.result - length types ≡ length group.top.stack.conds - length types = ap (λ n. n - length types) (rw c.top_frame.ensures at c.len.ensures) in
    operand_is_cond group types c.loop-i.i (c.len.result - length types) c.get.result.now c.loop-i.matching c.requires.group c.requires.enough below (rw c.top_frame.ensures at c.get.ensures) c.loop-i.invariant

pub loop-i-preserved : goal.loop-i-preserved
loop-i-preserved g c =
    let group = c.args.group.now in
    let types = c.args.types.now in
    let t = get_or types c.loop-i.i no_type in
    let below : c.len.result - length types ≡ length group.top.stack.conds - length types = ap (λ n. n - length types) (rw c.top_frame.ensures at c.len.ensures) in
    IsMatching-step group types c.loop-i.i (c.len.result - length types) c.get.result.now c.loop-i.matching c.requires.group c.requires.enough below (rw c.top_frame.ensures at c.get.ensures) c.loop-i.invariant _ _ t c.in_ok-fitting.fitting c.in_ok-matching.matching c.loop-i-test.true c.where_fitting.ensures.extends c.in_ok-fitting.ensures.set c.in_ok-matching.ensures.extends c.in_ok-matching.ensures.ok (get_or_default types c.loop-i.i no_type t c.loop-i-test.true)
