use Rattle.std.proofs.Common.{◌<◌, arith, length}
use Rattle.std.proofs.lemmas.Int.{to_z-of_z}
use Rattle.std.specs.Int.{w32}
use Rattle.vx_units.proofs.Walks.{last_hash, next_hash}
use Rattle.vx_units.proofs.asking.hash.Goals as goal

pub loop-unit-preserved : goal.loop-unit-preserved
loop-unit-preserved c =
    let lt : c.loop-unit.unit-index < length c.args.units.now = omega arith in
    rw (to_z-of_z w32 c.hash_with-sum.result (record { sfits = c.hash_with-sum.type_inv })) (next_hash _ _ _ _ _ lt c.hash_with-sum.ensures c.loop-unit.invariant)

pub returns : goal.returns
returns c = last_hash _ _ _ _ c.loop-unit-test.false c.loop-unit.invariant
