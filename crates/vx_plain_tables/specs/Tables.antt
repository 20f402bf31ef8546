-- What the entries of pools come to in a program.
use Rattle.std.specs.List.{list_all}
use Rattle.std.specs.Prelude.{◌≡◌, ℕ, Bool, true, Option, Some, None, length, map, nat_lt}
use Rattle.vx_class.specs.declared.class_file.Code.{Code}
use Rattle.vx_java.specs.FirstObjects.{literal_object}
use Rattle.vx_java.specs.Ids.{HasClassNumbers}
use Rattle.vx_link.specs.declared.program.LinkedMethod.{LinkedMethod}
use Rattle.vx_link.specs.declared.program.Program.{Program}
use Rattle.vx_pool.specs.declared.pool.Entry.{Entry}
use Rattle.vx_pool.specs.declared.pool.Pool.{Pool}
use Rattle.vx_plain_tables.specs.declared.tables.Tables.{Tables}
use Rattle.vx_references.specs.Named.{class_table}

-- a descriptor whose length two bytes hold (JVMS 4.4.7)
abbrev pub has_short_descriptor : LinkedMethod → Bool
has_short_descriptor m = nat_lt (length m.descriptor) 65536

abbrev pub has_short_bytes : Option Code → Bool
has_short_bytes None = true
has_short_bytes (Some code) = nat_lt (length code.bytes) 65536

-- a method whose code, if it has any, is not longer than code may be (JVMS 4.7.3)
abbrev pub has_short_code : LinkedMethod → Bool
has_short_code m = has_short_bytes m.code

-- the descriptors and the code of all methods are short
pub record IsShort (p : Program) : Type 0 where
  pub descriptors : list_all has_short_descriptor p.methods ≡ true
  pub codes : list_all has_short_code p.methods ≡ true

-- the tables of a program
pub record AreTables (p : Program) (tables : Tables) : Type 0 where
  pub classes : tables.classes.items ≡ class_table p
  pub literals : tables.literals.items ≡ map (λ c. map (literal_object p c.pool) c.pool.entries) p.classes
  pub short : IsShort p

-- the object of a literal that is an entry of a pool
abbrev pub literal_in : Program → Pool → Option Entry → ℕ
literal_in p pool (Some e) = literal_object p pool e
literal_in p pool None = 0
