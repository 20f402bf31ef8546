use Rattle.std.proofs.Common.{◌≡◌, ◌<◌, ◌-◌, ◌∙◌, ap, arith, drop, get_or, length, pos, rules, take}
use Rattle.std.proofs.Math.Facts.{to_z-of_z}
use Rattle.std.specs.Int.{w32}
use Rattle.std.specs.Prelude.{unsigned_abs}
use mir.Val.{SFits, of_z, to_z}
use Rattle.vx_space.proofs.Spaces.{Extends-trans}
use Rattle.vx_value.specs.Arithmetic.{natural}
use Rattle.vx_cells.proofs.Somewhere.{somewhere_later}
use Rattle.vx_arrays.specs.Making.{is_length}
use Rattle.vx_arrays.proofs.GridParts.{IsGridMade-last, IsMakingParts-all, IsMakingParts-array, IsMakingParts-part, IsMakingParts-start, IsMakingParts-step, abs_natural, first_rest, rest_fits, rest_shorter}
use Rattle.vx_arrays.proofs.grids.+grid.Goals as goal

pub returns-in_default-clause-ok : goal.returns-in_default-clause-ok
returns-in_default-clause-ok g t c =
    let none : length c.args.deeper.now < 1 = omega arith in
    let in_range : SFits w32 c.args.size = search rules in
    let same : to_z w32 (of_z w32 c.args.size) ≡ c.args.size = to_z-of_z {w = w32} {z = c.args.size} in_range in
    IsGridMade-last c.args.program.now c.args.class.0 c.args.size c.args.deeper.now _ c.args.heap.now c.first_array.new.heap c.args.condition c.in_ok-array.array none c.requires.heap (rw same at (c.in_ok-array.ensures (g.S.Space.sets c.args.space.now) c.requires.heap c.requires.known))

pub loop-index-init : goal.loop-index-init
loop-index-init g t c = IsMakingParts-start c.args.program.now c.args.class.0 _ _ _ _ c.args.heap.now c.first_array.new.heap c.args.condition c.in_ok-array.array c.requires.heap (c.in_ok-array.ensures (g.S.Space.sets c.args.space.now) c.requires.heap c.requires.known)

pub grid-requires : goal.grid-requires
grid-requires g t c κs within =
    let kept = c.loop-index.invariant in
    let in_range : SFits w32 (get_or c.args.deeper.now 0 (pos 0)) = search rules in
    let next : to_z w32 (of_z w32 (get_or c.args.deeper.now 0 (pos 0))) ≡ get_or c.args.deeper.now 0 (pos 0) = to_z-of_z {w = w32} {z = get_or c.args.deeper.now 0 (pos 0)} in_range in
    let fits = rest_fits c.args.deeper.now (pos 0) c.in-len1-up.len_at_least c.requires.deeper in
    let shorter = rest_shorter c.args.deeper.now c.in-len1-up.len_at_least in
    let falls : length (take (length c.args.deeper.now - 1) (drop 1 c.args.deeper.now)) < t = omega (arith, shorter, c.decreases) in
    (falls, (within.0, (within.1, (kept.changed.is_heap, (kept.extends.known _ c.requires.known, (somewhere_later kept.extends c.args.condition c.requires.known c.requires.somewhere, (ap is_length next ∙ fits.0, fits.1)))))))

pub returns-in_err-part-clause-extends : goal.returns-in_err-part-clause-extends
returns-in_err-part-clause-extends g t c = Extends-trans c.loop-index.invariant.extends c.in_err-part.ensures.extends

pub write_inside-requires-clause-known : goal.write_inside-requires-clause-known
write_inside-requires-clause-known g t c = (Extends-trans c.loop-index.invariant.extends c.in_ok-part.ensures.extends).known _ c.requires.known

pub write_inside-requires-clause-somewhere : goal.write_inside-requires-clause-somewhere
write_inside-requires-clause-somewhere g t c = somewhere_later (Extends-trans c.loop-index.invariant.extends c.in_ok-part.ensures.extends) c.args.condition c.requires.known c.requires.somewhere

pub write_inside-requires-clause-object : goal.write_inside-requires-clause-object
write_inside-requires-clause-object g t c =
    let in_range : SFits w32 (get_or c.args.deeper.now 0 (pos 0)) = search rules in
    let next : to_z w32 (of_z w32 (get_or c.args.deeper.now 0 (pos 0))) ≡ get_or c.args.deeper.now 0 (pos 0) = to_z-of_z {w = w32} {z = get_or c.args.deeper.now 0 (pos 0)} in_range in
    IsMakingParts-array c.args.program.now c.args.class.0 _ _ _ c.args.heap.now c.loop-index.heap c.grid.new.heap c.args.condition c.in_ok-array.array c.in_ok-part.part c.loop-index.index c.requires.known c.loop-index.invariant c.in_ok-part.ensures.extends (rw (c.component_of-component.ensures, next) at c.in_ok-part.ensures.ok)

pub write_inside-requires-clause-held : goal.write_inside-requires-clause-held
write_inside-requires-clause-held g t c =
    let in_range : SFits w32 (get_or c.args.deeper.now 0 (pos 0)) = search rules in
    let next : to_z w32 (of_z w32 (get_or c.args.deeper.now 0 (pos 0))) ≡ get_or c.args.deeper.now 0 (pos 0) = to_z-of_z {w = w32} {z = get_or c.args.deeper.now 0 (pos 0)} in_range in
    IsMakingParts-part c.args.program.now c.args.class.0 _ _ _ c.args.heap.now c.loop-index.heap c.grid.new.heap c.args.condition c.in_ok-array.array c.in_ok-part.part c.loop-index.index c.requires.known c.loop-index.invariant c.in_ok-part.ensures.extends (rw (c.component_of-component.ensures, next) at c.in_ok-part.ensures.ok)

pub returns-in_err-write_inside-clause-extends : goal.returns-in_err-write_inside-clause-extends
returns-in_err-write_inside-clause-extends g t c = Extends-trans c.loop-index.invariant.extends (Extends-trans c.in_ok-part.ensures.extends c.in_err-write_inside.ensures.extends)

pub loop-index-preserved : goal.loop-index-preserved
loop-index-preserved g t c =
    let in_range : SFits w32 c.args.size = search rules in
    let same : to_z w32 (of_z w32 c.args.size) ≡ c.args.size = to_z-of_z {w = w32} {z = c.args.size} in_range in
    let abs = abs_natural (to_z w32 (of_z w32 c.args.size)) (ap is_length same ∙ c.requires.fits) in
    let count : c.unsigned_abs-count.result ≡ unsigned_abs (to_z w32 (of_z w32 c.args.size)) = c.unsigned_abs-count.ensures.value in
    let test : c.loop-index.index < c.unsigned_abs-count.result = c.loop-index-test.true in
    let below : c.loop-index.index < natural (to_z w32 (of_z w32 c.args.size)) = omega (arith, abs, count, test) in
    let in_range : SFits w32 (get_or c.args.deeper.now 0 (pos 0)) = search rules in
    let next : to_z w32 (of_z w32 (get_or c.args.deeper.now 0 (pos 0))) ≡ get_or c.args.deeper.now 0 (pos 0) = to_z-of_z {w = w32} {z = get_or c.args.deeper.now 0 (pos 0)} in_range in
    IsMakingParts-step c.args.program.now c.args.class.0 _ _ _ c.args.heap.now c.loop-index.heap c.grid.new.heap c.args.condition c.in_ok-array.array c.in_ok-part.part c.loop-index.index c.requires.known c.loop-index.invariant c.in_ok-part.ensures.extends (rw (c.component_of-component.ensures, next) at c.in_ok-part.ensures.ok) c.write_inside.new.heap below c.in_ok-write_inside.ensures.extends c.in_ok-write_inside.ensures.ok

pub returns-clause-extends : goal.returns-clause-extends
returns-clause-extends g t c = c.loop-index.invariant.extends

pub returns-clause-ok : goal.returns-clause-ok
returns-clause-ok g t c =
    let in_range : SFits w32 c.args.size = search rules in
    let same : to_z w32 (of_z w32 c.args.size) ≡ c.args.size = to_z-of_z {w = w32} {z = c.args.size} in_range in
    let abs = abs_natural (to_z w32 (of_z w32 c.args.size)) (ap is_length same ∙ c.requires.fits) in
    let count : c.unsigned_abs-count.result ≡ unsigned_abs (to_z w32 (of_z w32 c.args.size)) = c.unsigned_abs-count.ensures.value in
    let all : c.loop-index.index ≡ natural (to_z w32 (of_z w32 c.args.size)) = omega (arith, abs, count, c.loop-index-test.false, c.loop-index.auto.index-end) in
    rw same at (IsMakingParts-all c.args.program.now c.args.class.0 (to_z w32 (of_z w32 c.args.size)) (get_or c.args.deeper.now 0 (pos 0)) _ c.args.deeper.now (g.S.Space.sets c.args.space.now) (g.S.Space.sets c.loop-index.space) c.args.heap.now c.loop-index.heap c.args.condition c.in_ok-array.array c.loop-index.index (first_rest c.args.deeper.now (pos 0) c.in-len1-up.len_at_least) all c.loop-index.invariant)
