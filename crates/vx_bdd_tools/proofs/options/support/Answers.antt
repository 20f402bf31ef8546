use Rattle.std.proofs.Common.{◌≡◌, sym, ◌∙◌, ap, arith, ◌∷◌, [], ◌++◌}
use Rattle.std.specs.Prelude.{◌==◌}
use Rattle.std.specs.List.{list_any}
use Rattle.vx_bdd_tools.proofs.Supports.{IsSupportBelow-none, IsSupportBelow-asked, IsSupportBelow-unasked, IsSupport-of, depends_asked, free_unasked}
use Rattle.vx_bdd_tools.proofs.options.support.Goals as goal
use Rattle.vx_bdd_tools.proofs.options.support.Goals.{then-is_asked+in_ok-push-2, else-is_asked}

pub loop-option-init : goal.loop-option-init
loop-option-init g c = rw c.new-options.ensures.items (IsSupportBelow-none ((g.S.Space.sets c.args.space.now).test c.args.id))

pub loop-option-preserved : goal.loop-option-preserved
loop-option-preserved g c =
    let lawful = g.met.S.Space.lawful c.args.space.now in
    let alone : c.as_slice.result.now ≡ c.args.id ∷ [] = c.as_slice.ensures.value ∙ c.in_ok-push.ensures.items ∙ ap (λ xs. xs ++ c.args.id ∷ []) c.new-roots.ensures.items in
    let list = rw alone at c.in_ok-list.ensures.ok in
    let asked : c.is_asked.result ≡ list_any (λ node. node.option == c.loop-option.option) c.in_ok-list.list.nodes = c.is_asked.ensures ∙ ap (list_any (λ node. node.option == c.loop-option.option)) c.as_slice-in-loop-option.ensures in
    elim c.if-is_asked.branch [
      | then-is_asked+in_ok-push-2 w ↦ rw (w.options-is, w.in_ok-push-2.ensures.items) (IsSupportBelow-asked _ _ _ c.loop-option.invariant (depends_asked lawful c.args.id c.in_ok-list.list.nodes c.in_ok-list.list.roots c.loop-option.option list (sym asked ∙ w.if-is_asked.true)))
      | else-is_asked w ↦ rw w.options-is (IsSupportBelow-unasked _ _ _ c.loop-option.invariant (free_unasked c.args.id c.in_ok-list.list.nodes c.in_ok-list.list.roots c.loop-option.option list (sym asked ∙ w.if-is_asked.false)))
    ]

pub returns : goal.returns
returns g c = IsSupport-of (g.met.S.Space.lawful c.args.space.now) c.args.id c.loop-option.option _ c.requires (omega (arith, c.loop-option-test.false, c.options-option-end.ensures)) c.loop-option.invariant
