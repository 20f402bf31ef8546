-- Inputs that are refused, in words, and how many classes of which version there are (own).
use Rattle.std.specs.Prelude.{List, [], codes, decimal, filter, flat_map, if◌then◌else◌, length, nat_le, ℕ, ◌*◌, ◌+◌, ◌++◌, ◌-◌, ◌==◌, ◌∷◌}
use Rattle.vx_class.specs.declared.class_file.ClassFile.{ClassFile}
use Rattle.vx_list.specs.Places.{item_or}
use Rattle.vx_reasons.specs.Reasons.{sentence_of}
use Rattle.vx_reasons.specs.declared.sentences.Form.{Form}
use Rattle.vx_reasons.specs.declared.sentences.Form.TheVariants.{ClassFile as class_file, Model}
use Rattle.vx_value.specs.Words.{text_of, word_of}
use Rattle.vx_words.specs.Lines.{lines}
use Rattle.vx_refusals.specs.Slips.{slips_text}

-- ---- models

-- the line of a number, the first of which is 1; empty where there is none
abbrev pub line_at : List (List ℕ) → (number : ℕ) → List ℕ
line_at all number = item_or ([] ∷ all) number []

unfoldable pub line_text : ℕ → List ℕ → List ℕ
line_text number line = codes "line " ++ decimal number ++ codes ": " ++ text_of line ++ codes "\n"

unfoldable pub reason_text : Form → (reason : ℕ) → List ℕ
reason_text form reason = codes "reason " ++ decimal reason ++ codes ": " ++ sentence_of form reason ++ codes "\n"

abbrev pub slips_of : Form → List ℕ → List ℕ
slips_of Model line = slips_text line
slips_of _ line = []

abbrev pub model_text : Form → (text : List ℕ) → (line reason : ℕ) → List ℕ
model_text form text line reason =
    line_text line (line_at (lines text) line) ++ reason_text form reason ++ slips_of form (line_at (lines text) line)

-- ---- class files

-- the major version that bytes give (JVMS 4.1)
abbrev pub major_in : List ℕ → ℕ
major_in (a ∷ b ∷ c ∷ d ∷ e ∷ f ∷ high ∷ low ∷ rest) = 256 * high + low
major_in _ = 0

unfoldable pub place_text : (path : List ℕ) → (at : ℕ) → List ℕ
place_text path at = codes "class file " ++ word_of path ++ codes " at byte " ++ decimal at ++ codes "\n"

unfoldable pub compiled_text : (java : ℕ) → List ℕ
compiled_text java = codes "compiled for Java " ++ decimal java ++ codes ": compile with javac --release 8\n"

-- Java 9 has the major version 53, and so on
abbrev pub later_text : (major : ℕ) → List ℕ
later_text major = if nat_le major 52 then [] else compiled_text (major - 44)

abbrev pub class_text : (path bytes : List ℕ) → (at reason : ℕ) → List ℕ
class_text path bytes at reason =
    place_text path at ++ reason_text class_file reason ++ (if reason == 2 then later_text (major_in bytes) else [])

-- ---- versions

abbrev pub count_of : List ClassFile → (version : ℕ) → ℕ
count_of classes version = length (filter (λ c. c.major == version) classes)

unfoldable pub version_text : (version count : ℕ) → List ℕ
version_text version count =
    if count == 0 then [] else codes "version " ++ decimal version ++ codes " " ++ decimal count ++ codes "\n"

abbrev pub versions_of : List ClassFile → List ℕ → List ℕ
versions_of classes versions = flat_map (λ v. version_text v (count_of classes v)) versions

abbrev pub head_text : (count : ℕ) → List ℕ
head_text count = codes "classes " ++ decimal count ++ codes "\n"

abbrev pub versions_text : List ClassFile → List ℕ
versions_text classes =
    head_text (length classes) ++ versions_of classes (45 ∷ 46 ∷ 47 ∷ 48 ∷ 49 ∷ 50 ∷ 51 ∷ 52 ∷ [])
