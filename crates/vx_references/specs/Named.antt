-- The classes that the entries of pools name in a program (JVMS 4.4.1, 5.4.3.1).
use Rattle.std.specs.Prelude.{List, Option, Some, [], map, option_and_then, option_map, slice_get, unwrap_or}
use Rattle.vx_pool.specs.Lookups.{class, text, utf8}
use Rattle.vx_java.specs.Ids.{as_class}
use Rattle.vx_link.specs.ClassNames.{class_named}
use Rattle.vx_link.specs.declared.program.Program.{Program}
use Rattle.vx_pool.specs.declared.pool.Entry.{Entry}
use Rattle.vx_pool.specs.declared.pool.Pool.{Pool}
use Rattle.vx_value.specs.declared.ids.ClassId.{ClassId}

-- the class of a text; what is no text is empty
abbrev pub class_of_text : Program → Option Entry → Option ClassId
class_of_text p e = option_map as_class (class_named p (unwrap_or (utf8 e) []))

-- the class that an entry names; what is no class has the empty name
abbrev pub class_of_entry : Program → Pool → Option Entry → Option ClassId
class_of_entry p pool e = option_map as_class (class_named p (unwrap_or (option_and_then (text pool) (class e)) []))

-- the same, from the classes of the pool's texts and that of the empty name
abbrev pub class_by_texts : List (Option ClassId) → Option ClassId → Option Entry → Option ClassId
class_by_texts texts nothing e = unwrap_or (option_and_then (slice_get texts) (class e)) nothing

-- for each class and each entry of its pool
abbrev pub class_table : Program → List (List (Option ClassId))
class_table p = map (λ c. map (λ e. class_of_entry p c.pool (Some e)) c.pool.entries) p.classes
