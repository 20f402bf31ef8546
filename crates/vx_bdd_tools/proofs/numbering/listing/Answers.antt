use Rattle.std.proofs.Common.{◌≡◌, ◌+◌, sym, ◌∙◌, ap, ◌∷◌, [], ◌++◌, take}
use Rattle.std.proofs.lemmas.List.{take_more, take_all}
use Rattle.std.specs.BTreeMap.{get, is_at}
use Rattle.std.specs.Map.{lookup}
use Rattle.vx_bdd_tools.proofs.OneNumbering.{IsOnlyListing-of}
use Rattle.vx_bdd_tools.proofs.NumberingSteps.{IsNumberingAll-none, IsNumberingAll-more, IsListing-all, known_at}
use Rattle.vx_bdd_tools.proofs.numbering.listing.Goals as goal

pub loop-root-init : goal.loop-root-init
loop-root-init g c = rw (c.new-nodes.ensures.items, c.new-numbered.ensures.items) (IsNumberingAll-none (g.S.Space.sets c.args.space.now) (get g.S.Id.Ord.cmp c.new-numbers.result) (λ id. ap (lookup (is_at (g.S.Id.Ord.cmp id))) c.new-numbers.ensures.empty))

pub number_of-requires-clause-known : goal.number_of-requires-clause-known
number_of-requires-clause-known g c = known_at (g.S.Space.sets c.args.space.now) c.args.roots.now c.loop-root.root-index c.root-item.result c.requires c.loop-root-test.true c.root-item.is

pub loop-root-preserved : goal.loop-root-preserved
loop-root-preserved g c =
    let more : take (c.loop-root.root-index + 1) c.args.roots.now ≡ take c.loop-root.root-index c.args.roots.now ++ c.root-item.result ∷ [] = take_more c.args.roots.now c.loop-root.root-index c.root-item.result c.loop-root-test.true ∙ ap (λ x. take c.loop-root.root-index c.args.roots.now ++ x ∷ []) (sym c.root-item.is) in
    rw c.in_ok-push.ensures.items (IsNumberingAll-more _ _ _ _ _ _ _ _ c.in_ok-number.number c.loop-root.invariant c.in_ok-number.ensures more)

pub returns-clause-ok : goal.returns-clause-ok
returns-clause-ok g c = rw (c.of.ensures, c.of-2.ensures) (IsListing-all _ c.args.roots.now _ _ _ c.loop-root.invariant (take_all c.loop-root.root-index c.args.roots.now c.loop-root-test.false))

pub returns-clause-only : goal.returns-clause-only
returns-clause-only g c = IsOnlyListing-of _ _ _ _ (returns-clause-ok g c)
