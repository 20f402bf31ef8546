-- What native methods do, as the ordinary machine has it.
use Rattle.std.specs.Int.{int_max, int_min}
use Rattle.std.specs.Prelude.{Bool, false, true, [], ◌∷◌}
use Rattle.vx_java.specs.Library.{absolute_int, absolute_long, add_suppressed, array_copy, boolean_to_string, boolean_value_of, compare_numbers, enum_compare, enum_init, exit, first_cell, integer_compare, integer_int_value, integer_long_value, integer_parse, integer_to_string, integer_to_string_of, integer_value_of, line_separator, of_ints, of_longs, same_number, second_cell, throwable_class_name, throwable_init}
use Rattle.vx_java.specs.Natives.{no_native}
use Rattle.vx_java.specs.Texts.{NativeMethod, Spelling as PlainSpelling, answer_false, answer_receiver, builder_append, builder_delete, builder_init_capacity, builder_reverse, builder_set_length, object_init, print_line_end, print_of, same_object, spell_bool, spell_char, spell_chars, spell_int, spell_long, spell_string, string_compare, string_concat, string_ends_with, string_equals, string_hash, string_index_of, string_index_of_point, string_init, string_init_chars, string_init_string, string_starts_with, string_substring, string_to_chars, text_char_at, text_is_empty, text_length, text_to_string, value_of}
use Rattle.vx_natives.specs.declared.behaviour.Behaviour.{Behaviour}
use Rattle.vx_natives.specs.declared.behaviour.Behaviour.TheVariants as behaviour
use Rattle.vx_natives.specs.declared.behaviour.BuilderChange.{BuilderChange}
use Rattle.vx_natives.specs.declared.behaviour.BuilderChange.TheVariants as change
use Rattle.vx_natives.specs.declared.behaviour.CellQuestion.{CellQuestion}
use Rattle.vx_natives.specs.declared.behaviour.CellQuestion.TheVariants as cell
use Rattle.vx_natives.specs.declared.behaviour.Computation.{Computation}
use Rattle.vx_natives.specs.declared.behaviour.Computation.TheVariants as compute
use Rattle.vx_natives.specs.declared.behaviour.Initialiser.{Initialiser}
use Rattle.vx_natives.specs.declared.behaviour.Initialiser.TheVariants as init
use Rattle.vx_natives.specs.declared.behaviour.Maker.{Maker}
use Rattle.vx_natives.specs.declared.behaviour.Maker.TheVariants as maker
use Rattle.vx_natives.specs.declared.behaviour.Printing.{Printing}
use Rattle.vx_natives.specs.declared.behaviour.Printing.TheVariants as printing
use Rattle.vx_natives.specs.declared.behaviour.Spelling.{Spelling}
use Rattle.vx_natives.specs.declared.behaviour.Spelling.TheVariants as spelling
use Rattle.vx_natives.specs.declared.behaviour.TextQuestion.{TextQuestion}
use Rattle.vx_natives.specs.declared.behaviour.TextQuestion.TheVariants as text

abbrev pub computed : Computation → NativeMethod
computed compute.Pass = object_init
computed compute.SameObject = same_object
computed compute.Receiver = answer_receiver
computed compute.False = answer_false
computed compute.Exit = exit
computed compute.CompareInts = integer_compare
computed compute.BooleanOf = boolean_value_of
computed compute.AbsoluteInt = absolute_int
computed compute.AbsoluteLong = absolute_long
computed compute.GreaterInt = of_ints int_max
computed compute.GreaterLong = of_longs int_max
computed compute.LesserInt = of_ints int_min
computed compute.LesserLong = of_longs int_min
computed compute.AddSuppressed = add_suppressed

abbrev pub asked_of_cells : CellQuestion → NativeMethod
asked_of_cells cell.IntValue = integer_int_value
asked_of_cells cell.LongValue = integer_long_value
asked_of_cells cell.SameNumber = same_number
asked_of_cells cell.CompareNumbers = compare_numbers
asked_of_cells cell.FirstCell = first_cell
asked_of_cells cell.SecondCell = second_cell
asked_of_cells cell.CompareOrdinals = enum_compare

abbrev pub asked_of_texts : TextQuestion → NativeMethod
asked_of_texts text.Length = text_length
asked_of_texts text.IsEmpty = text_is_empty
asked_of_texts text.CharAt = text_char_at
asked_of_texts text.Hash = string_hash
asked_of_texts text.Equals = string_equals
asked_of_texts text.Compare = string_compare
asked_of_texts text.PlaceOfPoint = string_index_of_point
asked_of_texts text.PlaceOf = string_index_of
asked_of_texts text.StartsWith = string_starts_with
asked_of_texts text.EndsWith = string_ends_with
asked_of_texts text.Parse = integer_parse

abbrev pub spelled_by : Spelling → PlainSpelling
spelled_by spelling.Int = spell_int
spelled_by spelling.Long = spell_long
spelled_by spelling.Bool = spell_bool
spelled_by spelling.Char = spell_char
spelled_by spelling.Text = spell_string
spelled_by spelling.Chars = spell_chars

abbrev pub initialised_by : Initialiser → NativeMethod
initialised_by init.Empty = string_init
initialised_by init.OfText = string_init_string
initialised_by init.OfChars = string_init_chars
initialised_by init.OfCapacity = builder_init_capacity
initialised_by init.Enum = enum_init
initialised_by init.Throwable = throwable_init

abbrev pub changed_by : BuilderChange → NativeMethod
changed_by (change.Append s) = builder_append (spelled_by s)
changed_by change.SetLength = builder_set_length
changed_by change.Delete = builder_delete
changed_by change.Reverse = builder_reverse

abbrev pub made_by : Maker → NativeMethod
made_by maker.Concat = string_concat
made_by maker.Substring = string_substring
made_by maker.ToChars = string_to_chars
made_by (maker.TextOf s) = value_of (spelled_by s)
made_by maker.ToText = text_to_string
made_by maker.LineSeparator = line_separator
made_by maker.IntegerOf = integer_value_of
made_by maker.SpellInt = integer_to_string_of
made_by maker.SpellInteger = integer_to_string
made_by maker.SpellBoolean = boolean_to_string
made_by maker.ClassName = throwable_class_name

abbrev pub printed_by : Printing → NativeMethod
printed_by (printing.Value s) = print_of (spelled_by s) []
printed_by (printing.Line s) = print_of (spelled_by s) (10 ∷ [])
printed_by printing.LineEnd = print_line_end

abbrev pub meaning : Behaviour → NativeMethod
meaning behaviour.Missing = no_native
meaning (behaviour.Compute c) = computed c
meaning (behaviour.AskCells c) = asked_of_cells c
meaning (behaviour.AskTexts t) = asked_of_texts t
meaning (behaviour.Initialise i) = initialised_by i
meaning (behaviour.Change b) = changed_by b
meaning (behaviour.Make m) = made_by m
meaning (behaviour.Print p) = printed_by p
meaning behaviour.CopyArray = array_copy

-- there is a native method of the number
abbrev pub is_known : Behaviour → Bool
is_known behaviour.Missing = false
is_known _ = true
