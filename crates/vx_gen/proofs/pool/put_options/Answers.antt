use Rattle.std.proofs.Common.{[], ap, arith, codes, get_or, refl, sym, ◌++◌, ◌∙◌}
use Rattle.vx_gen.specs.Parts.{option_parts, reference_part}
use Rattle.vx_gen.specs.declared.pool.Kind.TheVariants as kind
use Rattle.vx_gen.proofs.Loops.{done, option_step, short_at, two}
use Rattle.vx_gen.proofs.pool.put_options.Goals as goal
use Rattle.vx_list.proofs.CutLaws.{always_on_err, cut_back}

pub put_reference-put-requires-clause-name : goal.put_reference-put-requires-clause-name
put_reference-put-requires-clause-name c = short_at c.args.names.now c.loop-name.name-index _ c.requires.short c.loop-name-test.true

pub loop-name-preserved : goal.loop-name-preserved
loop-name-preserved c =
    let put = c.loop-name.invariant.0 in
    let name = get_or c.args.names.now c.loop-name.name-index (record { ref_ptr = (0, 0); now = [] }) in
    let part = reference_part c.loop-name.index kind.Field (codes "Main") name.now (codes "Z") in (
      put ++ part,
      two _ _ _ put part _ c.loop-name.invariant.1 (c.in_ok-or_cut_back.ensures.ok ∙ (rw (← c.in_ok-or_cut_back.ensures.same) at c.put_reference-put.ensures.ok)) refl,
      option_step c.args.names.now c.loop-name.name-index (record { ref_ptr = (0, 0); now = [] }) c.loop-name.index put _ _ c.loop-name-test.true refl c.loop-name.invariant.2,
      omega (arith, c.loop-name.invariant.3),
    )

pub returns-clause-ok : goal.returns-clause-ok
returns-clause-ok c =
    c.loop-name.invariant.1
    ∙ ap (λ x. c.args.pool.now.items ++ x) (done (option_parts c.loop-name.index) refl c.args.names.now c.loop-name.name-index c.loop-name.invariant.0 _ c.loop-name-test.false c.loop-name.invariant.2)

pub returns-in_err-or_cut_back-clause-err : goal.returns-in_err-or_cut_back-clause-err
returns-in_err-or_cut_back-clause-err c =
    always_on_err c.from_residual.result
    (cut_back c.args.pool.now.items c.loop-name.pool.items c.put_reference-put.new.pool.items _ c.loop-name.invariant.0 c.len-held.result c.in_err-or_cut_back.ensures.err
    (rw (← c.in_err-or_cut_back.ensures.same) at c.put_reference-put.ensures.err) c.loop-name.invariant.1 (sym (c.len-held.ensures ∙ c.args.pool.now.ok.0)))
