-- The options of a lawful report have the names of a model's.
use Rattle.std.proofs.Common.{◌≡◌, ℕ, Bool, true, List, [], ◌∷◌, ◌++◌, map, refl}
use Rattle.std.specs.Prelude.{◌&&◌}
use Rattle.std.specs.List.{list_all}
use Rattle.vx_words.specs.Names.{AreOptionNames, is_name}
use Rattle.vx_report.specs.Text.{found_lines, front_lines, numbered}
use Rattle.vx_report.specs.declared.line.Line.{Line}
use Rattle.vx_report.specs.declared.line.Line.TheVariants.{Done, Limit, Named, Rounds}
use Rattle.vx_report.specs.declared.report.Report.{Report}
use Rattle.vx_report_line.specs.Forms.{is_line}
use Rattle.vx_report_reader.specs.Lawful.{IsLawful}
use Rattle.vx_interact.proofs.Entries.{few_options}
use Rattle.vx_cut.proofs.LineTexts.{both}

all_front : {A : Type 0} (p : A → Bool) (xs ys : List A) → list_all p (xs ++ ys) ≡ true → list_all p xs ≡ true
all_front p [] ys h = refl
all_front p (x ∷ xs) ys h = let two = both (p x) (list_all p (xs ++ ys)) h in rw two.0 (all_front p xs ys two.1)

all_named : (names : List (List ℕ)) → list_all is_line (map Named names) ≡ true → list_all is_name names ≡ true
unfolding is_line
all_named [] h = refl
all_named (n ∷ ns) h = let two = both (is_name n) (list_all is_line (map Named ns)) h in rw two.0 (all_named ns two.1)

pub lawful_names : (r : Report) → IsLawful r → AreOptionNames r.options
unfolding front_lines
lawful_names r h = record {
  named = all_named r.options
      (all_front is_line (map Named r.options) (Limit r.limit ∷ Rounds r.rounds ∷ [])
      (all_front is_line (map Named r.options ++ (Limit r.limit ∷ Rounds r.rounds ∷ [])) (numbered 2 r.nodes)
      (all_front is_line (map Named r.options ++ (Limit r.limit ∷ Rounds r.rounds ∷ []) ++ numbered 2 r.nodes) (found_lines r)
      (all_front is_line (map Named r.options ++ (Limit r.limit ∷ Rounds r.rounds ∷ []) ++ numbered 2 r.nodes ++ found_lines r) (Done ∷ []) (both _ _ (both _ _ h.lines).1).1))));
  distinct = h.names;
  few = few_options r h;
}
