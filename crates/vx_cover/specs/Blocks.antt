-- Targets in blocks.
use Rattle.std.specs.Prelude.{◌≡◌, Bool, true, List, [], ◌∷◌, ◌||◌}
use Rattle.std.specs.List.{flat_map}
use Rattle.vx_space.specs.Sets.{Sets}
use Rattle.vx_cover.specs.declared.blocks.Block.{Block}
use Rattle.vx_cover.specs.declared.target.Target.{Target}
use Rattle.vx_cover.specs.Targets.{AreOpen}

-- the targets of blocks, in their order
abbrev pub flat : {I : Type 0} → List (Block I) → List (Target I)
flat blocks = flat_map (λ b. b.targets.items) blocks

-- a set has what each target has
abbrev pub AreWithin : {I : Type 0} → Sets I → (whole : I) → List (Target I) → Type 0
AreWithin sets whole [] = Unit {0}
AreWithin sets whole (t ∷ ts) = ((c : List Bool) → sets.test t.set c ≡ true → sets.test whole c ≡ true) × AreWithin sets whole ts

pub record IsWhole {I : Type 0} (sets : Sets I) (whole : I) (ts : List (Target I)) : Type 0 where
  pub known : sets.is_known whole ≡ true
  pub within : AreWithin sets whole ts

-- a set has what two others have
pub record IsWider {I : Type 0} (old new : Sets I) (one other wider : I) : Type 0 where
  pub known : new.is_known wider ≡ true
  pub has : (c : List Bool) → (old.test one c || old.test other c) ≡ true → new.test wider c ≡ true

pub record IsBlock {I : Type 0} (sets : Sets I) (b : Block I) : Type 0 where
  pub open_sets : AreOpen sets b.targets.items
  pub whole : IsWhole sets b.whole b.targets.items

abbrev pub AreBlocks : {I : Type 0} → Sets I → List (Block I) → Type 0
AreBlocks sets [] = Unit {0}
AreBlocks sets (b ∷ bs) = IsBlock sets b × AreBlocks sets bs

-- targets in blocks
pub record AreBlocksOf {I : Type 0} (sets : Sets I) (ts : List (Target I)) (blocks : List (Block I)) : Type 0 where
  pub each : AreBlocks sets blocks
  pub all : flat blocks ≡ ts
