use Rattle.std.specs.Char.{encode_utf8}
use Rattle.std.specs.Char.Utf16.{utf16_chars}
use Rattle.std.specs.Fmt.{digits}
use Rattle.std.specs.Prelude.{refl}
use Rattle.vx_desc.specs.Descriptors.{element_at, field_of, method_of, result_at, type_at, types_at}
use Rattle.vx_desc.specs.Names.{is_class_name}
use Rattle.vx_opcode.specs.Decode.{instruction_at, lookup_at, shaped_at, table_at, wide_at}
use Rattle.vx_opcode.specs.Numbers.{s1, s2, s4, u2, u4}
use Rattle.vx_computed.proofs.values.plain_values.Goals as goal

pub returns-clause-plain_operations : goal.returns-clause-plain_operations
unfolding utf16_chars encode_utf8 digits is_class_name element_at type_at types_at result_at method_of field_of u2 u4 s1 s2 s4 table_at lookup_at wide_at shaped_at instruction_at
returns-clause-plain_operations c = (refl, refl, refl, refl, refl, refl, refl, refl, refl, refl, refl, refl, refl, refl, refl, refl, refl)

pub returns-clause-stack_forms : goal.returns-clause-stack_forms
unfolding utf16_chars encode_utf8 digits is_class_name element_at type_at types_at result_at method_of field_of u2 u4 s1 s2 s4 table_at lookup_at wide_at shaped_at instruction_at
returns-clause-stack_forms c = (refl, refl, refl, refl, refl, refl, refl, refl, refl, refl, refl, refl, refl, refl)

pub returns-clause-text_values : goal.returns-clause-text_values
unfolding utf16_chars encode_utf8 digits is_class_name element_at type_at types_at result_at method_of field_of u2 u4 s1 s2 s4 table_at lookup_at wide_at shaped_at instruction_at
returns-clause-text_values c = (refl, refl, refl, refl, refl, refl, refl, refl, refl, refl)

pub returns-clause-operations : goal.returns-clause-operations
unfolding utf16_chars encode_utf8 digits is_class_name element_at type_at types_at result_at method_of field_of u2 u4 s1 s2 s4 table_at lookup_at wide_at shaped_at instruction_at
returns-clause-operations c = (refl, refl, refl, refl, refl, refl, refl, refl, refl, refl)
