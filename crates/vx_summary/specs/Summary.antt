-- The summary of a report (own): how large it is, and what it says that its runs write to `out` with all options on and with none.
use Rattle.std.specs.Prelude.{Bool, List, [], codes, decimal, false, flat_map, length, replicate, true, ℕ, ◌++◌, ◌∷◌}
use Rattle.vx_report.specs.Projection.{output_at}
use Rattle.vx_report.specs.declared.report.Report.{Report}
use Rattle.vx_value.specs.Words.{text_of}
use Rattle.vx_value.specs.declared.end.Stream.{Stream}
use Rattle.vx_value.specs.declared.end.Stream.TheVariants.{Err, Out}

-- what stands on `out`
abbrev pub on_out : Stream → List ℕ → List ℕ
on_out Out bytes = bytes
on_out Err bytes = []

abbrev pub out_bytes : List (Stream × ℕ) → List ℕ
out_bytes output = flat_map (λ b. on_out b.0 (b.1 ∷ [])) output

-- with one value for all options
abbrev pub written_with : Report → Bool → List ℕ
written_with r value = out_bytes (output_at r (replicate (length r.options) value))

-- ---- lines

abbrev pub number_line : (word : List ℕ) → ℕ → List ℕ
number_line word n = word ++ (decimal n ++ codes "\n")

abbrev pub text_line : (word text : List ℕ) → List ℕ
text_line word text = word ++ (text_of text ++ codes "\n")

-- what is asked for: a seed, and the options
unfoldable pub asked_lines : (seed : ℕ) → Report → List ℕ
asked_lines seed r = number_line (codes "seed ") seed ++ number_line (codes "options ") (length r.options)

unfoldable pub count_lines : Report → List ℕ
count_lines r =
    number_line (codes "rounds ") r.rounds
    ++ (number_line (codes "nodes ") (length r.nodes) ++ (number_line (codes "pieces ") (length r.pieces) ++ number_line (codes "ends ") (length r.ends)))

unfoldable pub text_lines : Report → List ℕ
text_lines r = text_line (codes "all ") (written_with r true) ++ text_line (codes "none ") (written_with r false)

-- the summary of the report of a seed
unfoldable pub summary_text : (seed : ℕ) → Report → List ℕ
summary_text seed r = codes "varexj load 1\n" ++ (asked_lines seed r ++ (count_lines r ++ (text_lines r ++ codes "done\n")))
