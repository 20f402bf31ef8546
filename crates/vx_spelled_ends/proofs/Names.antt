-- What a named operation leaves out can be spelled.
use Rattle.std.proofs.Common.{Option, Some, codes, nat_le, refl, true, ◌++◌, ◌≡◌}
use Rattle.std.specs.Cmp.Derive.{both_true}
use Rattle.vx_java.specs.declared.operation.Operation.{Operation}
use Rattle.vx_java.specs.declared.operation.Operation.TheVariants.{CheckCast, GetField, GetStatic, InstanceOf, Invoke, New, NewGrid, NewPrimitives, NewReferences, PushEntry, PutField, PutStatic, Refuse}
use Rattle.vx_kept_facts.proofs.RowClaims.{Asks, OfEntry, OfField}
use Rattle.vx_kept_facts.proofs.Places.{or_right}
use Rattle.vx_link.specs.Names.{Member, member}
use Rattle.vx_link.specs.Parts.{class_at}
use Rattle.vx_named_classes.specs.Named.{is_given, is_named_entry, is_named_operation}
use Rattle.vx_pool.specs.Lookups.{entry_of}
use Rattle.vx_pool.specs.declared.pool.Entry.{Entry}
use Rattle.vx_pool.specs.declared.pool.Entry.TheVariants as entry
use Rattle.vx_pool.specs.declared.pool.Pool.{Pool}
use Rattle.vx_spelled_ends.proofs.Sites.{good_rows}
use Rattle.vx_spelled_ends.proofs.Tests.{few_kinds, given_behind}

entry_named : (pool : Pool) (e : Option Entry) → is_named_entry pool e ≡ true → OfEntry good_rows pool e
entry_named pool (Some (entry.Class i)) named = named
entry_named pool (Some (entry.Float n)) named = refl
entry_named pool (Some (entry.Double n)) named = refl
entry_named pool (Some (entry.MethodHandle kind i)) named = refl
entry_named pool (Some (entry.MethodType i)) named = refl
entry_named pool _ named = tt

field_named : (m : Member) → is_given m.class ≡ true → OfField good_rows m
field_named m named = record {
  class = named;
  field = given_behind m.class (codes "." ++ (m.name ++ (codes ":" ++ m.descriptor))) refl;
  float = refl;
  begins = λ c. tt;
}

pub all_named : (pool : Pool) (o : Operation) → is_named_operation pool o ≡ true → Asks good_rows pool o
all_named pool (PushEntry i) named = entry_named pool (entry_of pool i) named
all_named pool (GetStatic i) named = field_named (member pool i) named
all_named pool (PutStatic i) named = field_named (member pool i) named
all_named pool (GetField i) named = field_named (member pool i) named
all_named pool (PutField i) named = field_named (member pool i) named
all_named pool (Invoke mode i) named = record {
  class = named;
  method = given_behind (member pool i).class (codes "." ++ ((member pool i).name ++ (member pool i).descriptor)) refl;
  native = λ p n. given_behind (class_at p n.class.0).name (codes "." ++ (n.name ++ n.descriptor)) refl;
  begins = λ c. tt;
}
all_named pool (New i) named = record { class = named; begins = λ c. tt }
all_named pool (NewPrimitives code) named = refl
all_named pool (NewReferences i) named = named
all_named pool (NewGrid i d) named = named
all_named pool (CheckCast i) named = named
all_named pool (InstanceOf i) named = named
all_named pool (Refuse word) named = both_true (both_true (few_kinds word named) (or_right (nat_le 5 word) _ refl)) refl
all_named pool _ named = tt
