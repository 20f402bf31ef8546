-- What stack forms and loads of references do with operands.
use Rattle.std.specs.Prelude.{List, None, Option, Some, [], option_map, ◌++◌, ◌∷◌, ◌≡◌}
use Rattle.vx_java.specs.declared.operation.Shuffle.{Shuffle}
use Rattle.vx_java.specs.declared.operation.Shuffle.TheVariants.{Pop, Pop2, Swap}
use Rattle.vx_types.specs.Flow.{component, types_reordered}
use Rattle.vx_types.specs.declared.types.VerType.{VerType}
use Rattle.vx_verify.specs.States.{AreTypes, IsStack, operands_at, types_at}
use Rattle.vx_verify.specs.declared.rows.Cut.{Cut}
use Rattle.vx_verify.specs.declared.rows.Kind.{Kind}
use Rattle.vx_verify.specs.declared.rows.Kind.TheVariants.{Copies, Drops, Exchanges}
use Rattle.vx_verify.specs.declared.store.Store.{Store}

abbrev pub kind_of : Shuffle → Kind
kind_of Pop = Drops
kind_of Pop2 = Drops
kind_of Swap = Exchanges
kind_of _ = Copies

-- the types in their new order, by what the form does
abbrev pub ordered_by : Kind → List VerType → List VerType → List VerType → List VerType
ordered_by Drops a b rest = rest
ordered_by Exchanges a b rest = b ++ (a ++ rest)
ordered_by Copies a b rest = a ++ (b ++ (a ++ rest))

-- the operands of a stack form, which in their new order are these
pub record AreCut (s : Store) (form : Shuffle) (cut : Cut) (these : List VerType) : Type 0 where
  pub above : AreTypes s cut.tops.items
  pub below : AreTypes s cut.under.items
  pub within : IsStack s cut.rest
  pub is : types_reordered form (types_at s cut.tops.items) (types_at s cut.under.items) (operands_at s cut.rest) ≡ these

-- there are too few operands, or these
abbrev pub HasCut : Store → Shuffle → Option Cut → Option (List VerType) → Type 0
HasCut s form None None = Unit {0}
HasCut s form (Some cut) (Some these) = AreCut s form cut these
HasCut s form _ _ = ⊥

-- the component of an array of references, in its place
abbrev pub component_on_top : List VerType → Option (List VerType)
component_on_top [] = None
component_on_top (array ∷ rest) = option_map (λ t. t ∷ rest) (component array)
