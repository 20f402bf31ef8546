-- Numbers of classes, fields and methods that a search gives, from the form in which the program's code gives them.
use Rattle.std.proofs.Common.{◌≡◌, ℕ, refl, Option, Some, None}
use Rattle.std.specs.Prelude.{option_map}
use Rattle.vx_java.specs.Ids.{as_class, as_field}
use Rattle.vx_value.specs.declared.ids.ClassId.{ClassId}
use Rattle.vx_value.specs.declared.ids.FieldId.{FieldId}

pub class_some : (o : Option ℕ) (class : ClassId) → Some class ≡ option_map as_class o → o ≡ Some class.0
class_some None class e = cc
class_some (Some n) class e = cc

pub class_none : (o : Option ℕ) → None ≡ option_map as_class o → o ≡ None
class_none None e = refl
class_none (Some n) e = cc

pub field_some : (o : Option ℕ) (field : FieldId) → Some field ≡ option_map as_field o → o ≡ Some field.0
field_some None field e = cc
field_some (Some n) field e = cc

pub field_none : (o : Option ℕ) → None ≡ option_map as_field o → o ≡ None
field_none None e = refl
field_none (Some n) e = cc
