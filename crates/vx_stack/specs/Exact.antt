-- The derived orders of cuts and of their parts are exact.
use Rattle.std.specs.Prelude.{◌≡◌, refl}
use Rattle.std.specs.declared.cmp.Ordering.{Ordering}
use Rattle.std.specs.declared.cmp.Ordering.TheVariants.{Equal}
use Rattle.vx_value.specs.Exact.{then_first, then_second}
use Rattle.vx_stack.specs.declared.cut.Part.{Part}
use Rattle.vx_stack.specs.declared.cut.Part.TheVariants.{Zero, One, Two, Word, Words, Second}
use Rattle.vx_stack.specs.declared.cut.Cut.{Cut}
use Rattle.vx_stack.specs.declared.cut.Cut.TheVariants.{Divided, Parts}
use Rattle.vx_stack.specs.contracts.cut.PartOrd.TheImpl as part_ord
use Rattle.vx_stack.specs.contracts.cut.CutOrd.TheImpl as cut_ord

abbrev pub part_cmp : Part → Part → Ordering
part_cmp = part_ord.ghosts.cmp

-- by the upper words, then by those under them
abbrev pub cut_cmp : Cut → Cut → Ordering
cut_cmp = cut_ord.ghosts.cmp

pub part_exact : (a b : Part) → part_cmp a b ≡ Equal → a ≡ b
part_exact Zero Zero h = refl
part_exact One One h = refl
part_exact Two Two h = refl
part_exact Word Word h = refl
part_exact Words Words h = refl
part_exact Second Second h = refl
part_exact _ _ h = cc

pub cut_exact : (a b : Cut) → cut_cmp a b ≡ Equal → a ≡ b
cut_exact Divided Divided h = refl
cut_exact (Parts a b) (Parts c d) h =
    let upper = part_exact a c (then_first (part_cmp a c) (part_cmp b d) h) in
    let lower = part_exact b d (then_second (part_cmp a c) (part_cmp b d) h) in
    λ i. Parts (upper i) (lower i)
cut_exact _ _ h = cc
