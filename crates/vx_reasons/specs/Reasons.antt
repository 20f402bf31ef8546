-- Why an input is refused, or a run ends as unsupported, in words: a sentence for each reason of each form (own).
use Rattle.std.specs.Prelude.{ℕ, List, [], codes, slice_get, unwrap_or, ◌∷◌}
use Rattle.vx_reasons.specs.declared.sentences.Form.{Form}
use Rattle.vx_reasons.specs.declared.sentences.Form.TheVariants.{ClassFile, Model, Dimacs, Source, Unsupported}

abbrev pub class_file_sentences : List (List ℕ)
class_file_sentences =
    []
    ∷ codes "the first four bytes are not those of a class file"
    ∷ codes "the major version is not from 45 to 52, which is Java 8"
    ∷ codes "the file ends too early"
    ∷ codes "an entry of the pool has an unknown tag"
    ∷ codes "an index is outside of the pool or not usable, or a local is outside of the frame"
    ∷ codes "an index names an entry of another kind"
    ∷ codes "a text is no modified UTF-8, or no name"
    ∷ codes "a text is no descriptor"
    ∷ codes "the length of code is not from 1 to 65,535"
    ∷ codes "no whole instruction stands there"
    ∷ codes "a jump or a switch leads to no instruction"
    ∷ codes "a rule of attributes, repeated members, locals, switches, catch rows, dimensions or argument slots is broken"
    ∷ codes "bytes stand behind the end"
    ∷ []

abbrev pub model_sentences : List (List ℕ)
model_sentences =
    []
    ∷ codes "the line is no comment, no option and no rule"
    ∷ codes "a name has 1 to 64 letters, digits or _, begins with no digit, and is neither true nor false"
    ∷ codes "the name or the field is taken by an option above"
    ∷ codes "the rule is no expression of ->, |, &, !, brackets and names, or nests deeper than 256"
    ∷ codes "the rule names an option that no line above declares"
    ∷ codes "there are more than 64 options"
    ∷ []

abbrev pub dimacs_sentences : List (List ℕ)
dimacs_sentences =
    []
    ∷ []
    ∷ []
    ∷ codes "a variable, a name or a field is named twice"
    ∷ []
    ∷ []
    ∷ codes "there are more than 64 variables"
    ∷ codes "a number stands before the header, or the header is a second one or malformed"
    ∷ codes "a word is neither 0 nor a variable of the header, with or without a minus"
    ∷ codes "there are more clauses than the header says, or too few at the end"
    ∷ []

abbrev pub source_sentences : List (List ℕ)
source_sentences =
    []
    ∷ codes "an unknown word, or a byte that stands only in texts and comments"
    ∷ codes "wrong operands, a text where none is expected, interface in a source whose version isn't 52"
    ∷ codes "a number out of range, also that of the version"
    ∷ codes "a label that is unknown in its method, or stands there before"
    ∷ codes "a line out of order, as a part before the end of a body, or a line of a body outside of bodies; no class, or no end"
    ∷ codes "no text where one is expected, or one of more than 65,535 bytes"
    ∷ codes "more than 65,535 bytes of code or catch rows, a jump of two bytes that is too long, an ldc whose entry stands behind the first 255; more than 65,535 places in the pool, or interfaces, fields or methods"
    ∷ codes "a rule of class files: names, descriptors, flags, repeated members, values, locals, dimensions, keys, catch rows, a jump or a handler behind which no instruction stands, no instructions"
    ∷ []

abbrev pub unsupported_sentences : List (List ℕ)
unsupported_sentences =
    []
    ∷ codes "an instruction of floats or doubles, a constant or a field of such a type, a new array of them"
    ∷ codes "jsr, jsr_w or ret"
    ∷ codes "invokedynamic"
    ∷ codes "ldc of a method handle or of a method type"
    ∷ codes "a native method that is left out: any of a class of the folder, and Object's hashCode and toString"
    ∷ codes "a class that is neither in the folder nor a core class; or an interface that Java 8 would initialise before a class below it, since it has an initialiser and a method that is neither abstract nor static"
    ∷ codes "a field that the class doesn't have, nor those above it"
    ∷ codes "a method that the class doesn't have, nor those above it"
    ∷ []

-- the sentences of a form, each at the place of its reason; those of numbers that are no reason are empty
abbrev pub sentences_of : Form → List (List ℕ)
sentences_of ClassFile = class_file_sentences
sentences_of Model = model_sentences
sentences_of Dimacs = dimacs_sentences
sentences_of Source = source_sentences
sentences_of Unsupported = unsupported_sentences

-- what fails where an input of a form is refused with a reason
abbrev pub sentence_of : Form → ℕ → List ℕ
sentence_of form reason = unwrap_or (slice_get (sentences_of form) reason) []
