use Rattle.std.specs.Char.{encode_utf8}
use Rattle.std.specs.Char.Utf16.{utf16_chars}
use Rattle.std.specs.Fmt.{digits}
use Rattle.std.specs.Prelude.{refl}
use Rattle.vx_desc.specs.Descriptors.{element_at, field_of, method_of, result_at, type_at, types_at}
use Rattle.vx_desc.specs.Names.{is_class_name}
use Rattle.vx_opcode.specs.Decode.{instruction_at, lookup_at, shaped_at, table_at, wide_at}
use Rattle.vx_opcode.specs.Numbers.{s1, s2, s4, u2, u4}
use Rattle.vx_computed.proofs.exceptions.throwing_runs.Goals as goal

pub returns-clause-two_exceptions : goal.returns-clause-two_exceptions
unfolding utf16_chars encode_utf8 digits is_class_name element_at type_at types_at result_at method_of field_of u2 u4 s1 s2 s4 table_at lookup_at wide_at shaped_at instruction_at
returns-clause-two_exceptions c = refl

pub returns-clause-exit_and_uncaught : goal.returns-clause-exit_and_uncaught
unfolding utf16_chars encode_utf8 digits is_class_name element_at type_at types_at result_at method_of field_of u2 u4 s1 s2 s4 table_at lookup_at wide_at shaped_at instruction_at
returns-clause-exit_and_uncaught c = refl

pub returns-clause-printed_exception : goal.returns-clause-printed_exception
unfolding utf16_chars encode_utf8 digits is_class_name element_at type_at types_at result_at method_of field_of u2 u4 s1 s2 s4 table_at lookup_at wide_at shaped_at instruction_at
returns-clause-printed_exception c = refl

pub returns-clause-cause_as_message : goal.returns-clause-cause_as_message
unfolding utf16_chars encode_utf8 digits is_class_name element_at type_at types_at result_at method_of field_of u2 u4 s1 s2 s4 table_at lookup_at wide_at shaped_at instruction_at
returns-clause-cause_as_message c = refl

pub returns-clause-deep_exception : goal.returns-clause-deep_exception
unfolding utf16_chars encode_utf8 digits is_class_name element_at type_at types_at result_at method_of field_of u2 u4 s1 s2 s4 table_at lookup_at wide_at shaped_at instruction_at
returns-clause-deep_exception c = refl

pub returns-clause-its_trace : goal.returns-clause-its_trace
unfolding utf16_chars encode_utf8 digits is_class_name element_at type_at types_at result_at method_of field_of u2 u4 s1 s2 s4 table_at lookup_at wide_at shaped_at instruction_at
returns-clause-its_trace c = refl
