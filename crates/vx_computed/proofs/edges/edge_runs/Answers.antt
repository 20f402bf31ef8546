use Rattle.std.specs.Char.{encode_utf8}
use Rattle.std.specs.Char.Utf16.{utf16_chars}
use Rattle.std.specs.Fmt.{digits}
use Rattle.std.specs.Prelude.{refl}
use Rattle.vx_desc.specs.Descriptors.{element_at, field_of, method_of, result_at, type_at, types_at}
use Rattle.vx_desc.specs.Names.{is_class_name}
use Rattle.vx_opcode.specs.Decode.{instruction_at, lookup_at, shaped_at, table_at, wide_at}
use Rattle.vx_opcode.specs.Numbers.{s1, s2, s4, u2, u4}
use Rattle.vx_computed.proofs.edges.edge_runs.Goals as goal

pub returns-clause-zero_before_large : goal.returns-clause-zero_before_large
unfolding utf16_chars encode_utf8 digits is_class_name element_at type_at types_at result_at method_of field_of u2 u4 s1 s2 s4 table_at lookup_at wide_at shaped_at instruction_at
returns-clause-zero_before_large c = refl

pub returns-clause-handler_without_room : goal.returns-clause-handler_without_room
unfolding utf16_chars encode_utf8 digits is_class_name element_at type_at types_at result_at method_of field_of u2 u4 s1 s2 s4 table_at lookup_at wide_at shaped_at instruction_at
returns-clause-handler_without_room c = refl

pub returns-clause-push_without_room : goal.returns-clause-push_without_room
unfolding utf16_chars encode_utf8 digits is_class_name element_at type_at types_at result_at method_of field_of u2 u4 s1 s2 s4 table_at lookup_at wide_at shaped_at instruction_at
returns-clause-push_without_room c = refl

pub returns-clause-result_without_room : goal.returns-clause-result_without_room
unfolding utf16_chars encode_utf8 digits is_class_name element_at type_at types_at result_at method_of field_of u2 u4 s1 s2 s4 table_at lookup_at wide_at shaped_at instruction_at
returns-clause-result_without_room c = refl

pub returns-clause-abstract_static : goal.returns-clause-abstract_static
unfolding utf16_chars encode_utf8 digits is_class_name element_at type_at types_at result_at method_of field_of u2 u4 s1 s2 s4 table_at lookup_at wide_at shaped_at instruction_at
returns-clause-abstract_static c = refl

pub returns-clause-gone_class_of_int : goal.returns-clause-gone_class_of_int
unfolding utf16_chars encode_utf8 digits is_class_name element_at type_at types_at result_at method_of field_of u2 u4 s1 s2 s4 table_at lookup_at wide_at shaped_at instruction_at
returns-clause-gone_class_of_int c = refl

pub returns-clause-int_against_class : goal.returns-clause-int_against_class
unfolding utf16_chars encode_utf8 digits is_class_name element_at type_at types_at result_at method_of field_of u2 u4 s1 s2 s4 table_at lookup_at wide_at shaped_at instruction_at
returns-clause-int_against_class c = refl

pub returns-clause-gone_class_object : goal.returns-clause-gone_class_object
unfolding utf16_chars encode_utf8 digits is_class_name element_at type_at types_at result_at method_of field_of u2 u4 s1 s2 s4 table_at lookup_at wide_at shaped_at instruction_at
returns-clause-gone_class_object c = refl

pub returns-clause-negative_capacity : goal.returns-clause-negative_capacity
unfolding utf16_chars encode_utf8 digits is_class_name element_at type_at types_at result_at method_of field_of u2 u4 s1 s2 s4 table_at lookup_at wide_at shaped_at instruction_at
returns-clause-negative_capacity c = refl

pub returns-clause-interface_of_array : goal.returns-clause-interface_of_array
unfolding utf16_chars encode_utf8 digits is_class_name element_at type_at types_at result_at method_of field_of u2 u4 s1 s2 s4 table_at lookup_at wide_at shaped_at instruction_at
returns-clause-interface_of_array c = refl

pub returns-clause-static_clone : goal.returns-clause-static_clone
unfolding utf16_chars encode_utf8 digits is_class_name element_at type_at types_at result_at method_of field_of u2 u4 s1 s2 s4 table_at lookup_at wide_at shaped_at instruction_at
returns-clause-static_clone c = refl

pub returns-clause-null_before_argument : goal.returns-clause-null_before_argument
unfolding utf16_chars encode_utf8 digits is_class_name element_at type_at types_at result_at method_of field_of u2 u4 s1 s2 s4 table_at lookup_at wide_at shaped_at instruction_at
returns-clause-null_before_argument c = refl

pub returns-clause-argument_of_wrong_class : goal.returns-clause-argument_of_wrong_class
unfolding utf16_chars encode_utf8 digits is_class_name element_at type_at types_at result_at method_of field_of u2 u4 s1 s2 s4 table_at lookup_at wide_at shaped_at instruction_at
returns-clause-argument_of_wrong_class c = refl

pub returns-clause-double_argument : goal.returns-clause-double_argument
unfolding utf16_chars encode_utf8 digits is_class_name element_at type_at types_at result_at method_of field_of u2 u4 s1 s2 s4 table_at lookup_at wide_at shaped_at instruction_at
returns-clause-double_argument c = refl

pub returns-clause-own_text : goal.returns-clause-own_text
unfolding utf16_chars encode_utf8 digits is_class_name element_at type_at types_at result_at method_of field_of u2 u4 s1 s2 s4 table_at lookup_at wide_at shaped_at instruction_at
returns-clause-own_text c = refl

pub returns-clause-blocked_main : goal.returns-clause-blocked_main
unfolding utf16_chars encode_utf8 digits is_class_name element_at type_at types_at result_at method_of field_of u2 u4 s1 s2 s4 table_at lookup_at wide_at shaped_at instruction_at
returns-clause-blocked_main c = refl
