-- What each text of a pool may be.
use Rattle.std.specs.Prelude.{ℕ, List, map, Option, Some, None}
use Rattle.vx_pool.specs.declared.pool.Entry.{Entry}
use Rattle.vx_pool.specs.declared.pool.Pool.{Pool}
use Rattle.vx_desc.specs.Names.{is_field_name, is_method_name}
use Rattle.vx_desc.specs.Descriptors.{is_field_descriptor, method_slots}
use Rattle.vx_pool.specs.declared.judged.Verdict.{Verdict}
use Rattle.vx_pool.specs.Lookups.{utf8, is_class_text}
use Rattle.vx_pool.specs.Entries.{where_read}

-- the argument slots where a text can be read
abbrev pub slots_read : Option (List ℕ) → Option ℕ
slots_read None = Some 0
slots_read (Some t) = method_slots t

abbrev pub verdict_of : Option (List ℕ) → Verdict
verdict_of t = record {
  class_text = where_read is_class_text t;
  field_name = where_read is_field_name t;
  method_name = where_read is_method_name t;
  field_descriptor = where_read is_field_descriptor t;
  slots = slots_read t;
}

abbrev pub entry_verdict : Entry → Verdict
entry_verdict e = verdict_of (utf8 (Some e))

abbrev pub verdicts_of : Pool → List Verdict
verdicts_of pool = map entry_verdict pool.entries
