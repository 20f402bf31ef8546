use Rattle.std.proofs.Common.{◌-◌, ◌∙◌, arith, sym}
use Rattle.std.proofs.lemmas.Int.{to_z-of_z}
use Rattle.std.specs.Int.{w32}
use Rattle.vx_switches.proofs.Pairs.{IsSearching-end, IsSearching-found, IsSearching-start, IsSearching-step}
use Rattle.vx_switches.proofs.pair_jump.Goals as goal

pub loop-pair-init : goal.loop-pair-init
loop-pair-init c = IsSearching-start c.args.code.now _ _ c.args.pairs c.args.first

pub loop-pair-preserved : goal.loop-pair-preserved
loop-pair-preserved c = IsSearching-step c.args.code.now _ _ c.args.pairs c.args.first c.loop-pair.pair c.loop-pair.invariant (omega arith) (sym c.has_key.ensures ∙ c.if-has_key.false)

pub returns-then-has_key : goal.returns-then-has_key
returns-then-has_key c =
    let searching = rw (to_z-of_z w32 c.args.key c.ranges.key, to_z-of_z w32 c.args.fallback c.ranges.fallback) at c.loop-pair.invariant in
    let same = rw (to_z-of_z w32 c.args.key c.ranges.key) at c.has_key.ensures in
    to_z-of_z w32 c.number_at.result (record { sfits = c.number_at.type_inv }) ∙ c.number_at.ensures ∙ IsSearching-found c.args.code.now c.args.key c.args.fallback c.args.pairs c.args.first c.loop-pair.pair (c.args.pairs - c.loop-pair.pair - 1) searching (omega arith) (sym same ∙ c.if-has_key.true)

pub returns : goal.returns
returns c =
    let searching = rw (to_z-of_z w32 c.args.key c.ranges.key, to_z-of_z w32 c.args.fallback c.ranges.fallback) at c.loop-pair.invariant in
    to_z-of_z w32 c.args.fallback c.ranges.fallback ∙ IsSearching-end c.args.code.now c.args.key c.args.fallback c.args.pairs c.args.first c.loop-pair.pair searching (omega arith)
