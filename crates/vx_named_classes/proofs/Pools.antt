-- In a pool whose entries meet their checks, a class is named by a text.
use Rattle.std.proofs.Common.{Bool, List, None, Option, Some, [], false, is_some, refl, slice_get, subst, suc, true, zero, ℕ, ◌&&◌, ◌∷◌, ◌≡◌}
use Rattle.std.proofs.lemmas.Option.{same_Some}
use Rattle.std.specs.List.{AllByRecursion}
use Rattle.std.specs.Prelude.{IsTrue, option_and_then, unwrap_or, ◌||◌}
use Rattle.vx_pool.specs.Checks.{all_hold}
use Rattle.vx_pool.specs.Entries.{checks_of, member_checks, usable, where_read}
use Rattle.vx_pool.specs.Holding.{and_true}
use Rattle.vx_pool.specs.Lookups.{class, entry_of, is_class_text, is_field, is_interface_method, is_method, member_descriptor, member_name, name_and_type, text}
use Rattle.vx_desc.specs.Descriptors.{is_field_descriptor, is_method_descriptor}
use Rattle.vx_desc.specs.Names.{is_class_name, is_field_name, is_method_name}
use Rattle.vx_link.specs.Names.{class_name, member, member_named, utf8}
use Rattle.vx_pool.specs.declared.pool.Entry.{Entry}
use Rattle.vx_pool.specs.declared.pool.Entry.TheVariants as entry
use Rattle.vx_pool.specs.declared.pool.Pool.{Pool}
use Rattle.vx_named_classes.specs.Named.{is_given, is_named_entry}

-- the entries of a pool meet their checks
abbrev pub MeetsChecks : Pool → Entry → Type 0
MeetsChecks pool e = IsTrue (all_hold (checks_of pool e))

abbrev pub AreChecked : Pool → Type 0
AreChecked pool = AllByRecursion (MeetsChecks pool) pool.entries

checked_at : (pool : Pool) (es : List Entry) (i : ℕ) (e : Entry) → AllByRecursion (MeetsChecks pool) es → slice_get es i ≡ Some e → MeetsChecks pool e
checked_at pool [] i e all is = absurd cc
checked_at pool (x ∷ es) zero e all is = subst (MeetsChecks pool) (same_Some x e is) all.0
checked_at pool (x ∷ es) (suc i) e all is = checked_at pool es i e all.1 is

-- ---- classes

text_given : (name : List ℕ) → is_class_text name ≡ true → is_given name ≡ true
unfolding is_class_name
text_given [] e = cc
text_given (b ∷ name) e = refl

-- the text of a class entry, with what is checked before and behind it
by_text : (before : Bool) (o : Option (List ℕ)) → (before && (is_some o && (where_read is_class_text o && true))) ≡ true → is_given (unwrap_or o []) ≡ true
by_text true (Some name) e = text_given name (and_true (is_class_text name) true e).0
by_text true None e = cc
by_text false o e = cc

class_given : (pool : Pool) (i : ℕ) → MeetsChecks pool (entry.Class i) → is_given (utf8 pool i) ≡ true
class_given pool i holds = by_text (usable pool i) (text pool i) holds

-- an index of a class
pub class_at_index : (pool : Pool) (i : ℕ) → AreChecked pool → is_some (class (entry_of pool i)) ≡ true → is_given (class_name pool i) ≡ true
class_at_index pool i checked is = by_entry (entry_of pool i) refl is
  where
    by_entry : (e : Option Entry) → entry_of pool i ≡ e → is_some (class e) ≡ true → is_given (unwrap_or (option_and_then (text pool) (class e)) []) ≡ true
    by_entry (Some (entry.Class j)) at is = class_given pool j (checked_at pool pool.entries i (entry.Class j) checked at)
    by_entry _ at is = cc

-- what ldc loads
pub loaded_at_index : (pool : Pool) (i : ℕ) → AreChecked pool → is_named_entry pool (entry_of pool i) ≡ true
loaded_at_index pool i checked = by_entry (entry_of pool i) refl
  where
    by_entry : (e : Option Entry) → entry_of pool i ≡ e → is_named_entry pool e ≡ true
    by_entry (Some (entry.Class j)) at = class_given pool j (checked_at pool pool.entries i (entry.Class j) checked at)
    by_entry _ at = refl

-- ---- members

abbrev pub is_member : Option Entry → Bool
is_member e = is_field e || (is_method e || is_interface_method e)

second_part : (before first other rest : Bool) → (before && ((first && other) && rest)) ≡ true → first ≡ true
second_part true true other rest e = refl
second_part true false other rest e = cc
second_part false first other rest e = cc

class_of_member : (pool : Pool) (is_name is_descriptor : List ℕ → Bool) (c n : ℕ) → AreChecked pool → IsTrue (all_hold (member_checks is_name is_descriptor pool c n)) → is_given (class_name pool c) ≡ true
class_of_member pool is_name is_descriptor c n checked holds =
    class_at_index pool c checked
    (second_part (usable pool c && usable pool n) (is_some (class (entry_of pool c))) (is_some (name_and_type (entry_of pool n)))
    (where_read is_name (member_name pool n) && (where_read is_descriptor (member_descriptor pool n) && true))
    holds)

-- an index of a member
pub member_at_index : (pool : Pool) (i : ℕ) → AreChecked pool → is_member (entry_of pool i) ≡ true → is_given (member pool i).class ≡ true
member_at_index pool i checked is = by_entry (entry_of pool i) refl is
  where
    by_entry : (e : Option Entry) → entry_of pool i ≡ e → is_member e ≡ true → is_given (member_named pool e).class ≡ true
    by_entry (Some (entry.Field c n)) at is = class_of_member pool is_field_name is_field_descriptor c n checked (checked_at pool pool.entries i (entry.Field c n) checked at)
    by_entry (Some (entry.Method c n)) at is = class_of_member pool is_method_name is_method_descriptor c n checked (checked_at pool pool.entries i (entry.Method c n) checked at)
    by_entry (Some (entry.InterfaceMethod c n)) at is = class_of_member pool is_method_name is_method_descriptor c n checked (checked_at pool pool.entries i (entry.InterfaceMethod c n) checked at)
    by_entry _ at is = cc
