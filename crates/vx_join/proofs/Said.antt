-- What several reports say of a configuration, by their texts, and that it is lawful.
use Rattle.std.proofs.Common.{◌≡◌, ◌≢◌, ℕ, ◌<◌, ◌≤◌, zero, suc, Bool, true, false, cond, List, [], ◌∷◌, ◌++◌, map, filter, refl, sym, ◌∙◌, ap, subst, append-nil, arith, take}
use Rattle.std.proofs.lemmas.Grind.{flat_map-append}
use Rattle.std.proofs.lemmas.List.Folds.{list_all-append}
use Rattle.std.proofs.lemmas.Option.{same_Some}
use Rattle.std.specs.Cmp.Derive.{both_true}
use Rattle.std.specs.List.{AllByRecursion, list_all}
use Rattle.std.specs.Option.{option_or}
use Rattle.std.specs.Prelude.{◌&&◌, not, find, flat_map, nat_eq, nat_le, slice_get, Option, None, Some, is_some, option_and_then, option_map, if◌then◌else◌}
use Rattle.vx_value.specs.declared.end.End.{End}
use Rattle.vx_value.specs.declared.end.Stream.{Stream}
use Rattle.vx_bdd_tools.specs.declared.node.Node.{Node}
use Rattle.vx_bdd_tools.specs.Nodes.{holds}
use Rattle.vx_report.specs.declared.line.Line.{Line}
use Rattle.vx_report.specs.declared.line.Line.TheVariants.{Ended, Printed}
use Rattle.vx_report.specs.declared.report.AttemptLine.{AttemptLine}
use Rattle.vx_report.specs.declared.report.Piece.{Piece}
use Rattle.vx_report.specs.declared.report.Report.{Report}
use Rattle.vx_report.specs.Projection.{Projection, attempts_at, bytes_of, end_at, output_at, project}
use Rattle.vx_report_line.proofs.Numbers.{both_true as parts_true}
use Rattle.vx_report_line.specs.Forms.{is_end, is_line, is_text}
use Rattle.vx_report_reader.specs.Lawful.{EachFollows, IsLawful}
use Rattle.vx_report_reader.specs.Rules.{is_above, last_of}
use Rattle.vx_one_report.proofs.LawfulLines.{end_words, parts_of, piece_text}
use Rattle.vx_cover.specs.Covers.{has_end}
use Rattle.vx_findings.specs.declared.piece.Piece as written
use Rattle.vx_findings.specs.declared.shared.Shared.{Shared}
use Rattle.vx_space.specs.Sets.{Sets}
use Rattle.vx_join.specs.Joined.{IsLike, Told, attempts_said, end_said, first_said, told_by, told_of}
use Rattle.vx_join.specs.Steps.{AreTold}
use Rattle.vx_join.proofs.Numbered.{told_bytes}
use Rattle.vx_join.proofs.Reports.{is_some_project, said_with}
use Rattle.vx_report.specs.Text.{report_lines}

-- ---- texts

abbrev pub said_output : Option Projection → List (Stream × ℕ)
said_output None = []
said_output (Some p) = p.output

filter_append : {A : Type 0} (p : A → Bool) (xs ys : List A) → filter p (xs ++ ys) ≡ filter p xs ++ filter p ys
filter_append p [] ys = refl
filter_append {A} p (x ∷ xs) ys = by (p x) (filter_append p xs ys)
  where
    by : (b : Bool) → filter p (xs ++ ys) ≡ filter p xs ++ filter p ys → cond b (x ∷ filter p (xs ++ ys)) (filter p (xs ++ ys)) ≡ cond b (x ∷ filter p xs) (filter p xs) ++ filter p ys
    by true e = ap (λ zs. x ∷ zs) e
    by false e = e

-- one report's texts within a scope
own_output : (scope : List Bool → Bool) (nodes : List Node) (c : List Bool) (b : Bool) → scope c ≡ b → (pieces : List Piece)
    → flat_map told_bytes (filter (λ t. t.set c) (map (told_of scope nodes) pieces)) ≡ (if b then flat_map bytes_of (filter (λ piece. holds nodes piece.node c) pieces) else [])
own_output scope nodes c true s [] = refl
own_output scope nodes c false s [] = refl
own_output scope nodes c b s (piece ∷ pieces) = by (scope c) b (holds nodes piece.node c) s (own_output scope nodes c b s pieces)
  where
    rest : List Told
    rest = filter (λ t. t.set c) (map (told_of scope nodes) pieces)

    by : (a b h : Bool) → a ≡ b → flat_map told_bytes (filter (λ t. t.set c) (map (told_of scope nodes) pieces)) ≡ (if b then flat_map bytes_of (filter (λ piece. holds nodes piece.node c) pieces) else [])
        → flat_map told_bytes (cond (a && h) (told_of scope nodes piece ∷ filter (λ t. t.set c) (map (told_of scope nodes) pieces)) (filter (λ t. t.set c) (map (told_of scope nodes) pieces)))
        ≡ (if b then flat_map bytes_of (cond h (piece ∷ filter (λ piece. holds nodes piece.node c) pieces) (filter (λ piece. holds nodes piece.node c) pieces)) else [])
    by true true true d e = ap (λ o. bytes_of piece ++ o) e
    by true true false d e = e
    by true false h d e = cc
    by false true h d e = cc
    by false false h d e = e

both_outputs : (u : Bool) (r : Report) (c : List Bool) (others : Option Projection) → (if (u && has_end r c) then output_at r c else []) ++ (if (u && not (has_end r c)) then said_output others else []) ≡ (if u then said_output (option_or (project r c) others) else [])
both_outputs false r c others = refl
both_outputs true r c others = ap (λ b. (if b then output_at r c else []) ++ (if not b then said_output others else [])) (sym (is_some_project r c)) ∙ by (end_at r c)
  where
    by : (o : Option End) → (if is_some (said_with r c o) then output_at r c else []) ++ (if not (is_some (said_with r c o)) then said_output others else [])
        ≡ said_output (option_or (said_with r c o) others)
    by None = refl
    by (Some end) = append-nil (output_at r c)

-- the bytes of the texts that a configuration has are the output that is said
pub told_output : (unsaid : List Bool → Bool) (reports : List Report) (c : List Bool) → flat_map told_bytes (filter (λ t. t.set c) (told_by unsaid reports)) ≡ (if unsaid c then said_output (first_said reports c) else [])
told_output unsaid [] c = by (unsaid c)
  where
    by : (b : Bool) → flat_map told_bytes [] ≡ (if b then [] else [])
    by true = refl
    by false = refl
told_output unsaid (r ∷ reports) c =
    let own = map (told_of (λ d. unsaid d && has_end r d) r.nodes) r.pieces in
    let others = told_by (λ d. unsaid d && not (has_end r d)) reports in
    ap (flat_map told_bytes) (filter_append (λ (t : Told). t.set c) own others)
    ∙ flat_map-append told_bytes (filter (λ t. t.set c) own) (filter (λ t. t.set c) others)
    ∙ (λ i. own_output (λ d. unsaid d && has_end r d) r.nodes c (unsaid c && has_end r c) refl r.pieces i ++ told_output (λ d. unsaid d && not (has_end r d)) reports c i)
    ∙ both_outputs (unsaid c) r c (first_said reports c)

-- ---- lawful parts

own_texts : (scope : List Bool → Bool) (nodes : List Node) (pieces : List Piece) → list_all is_line (map Printed pieces) ≡ true → list_all (λ t. is_text t.text) (map (told_of scope nodes) pieces) ≡ true
own_texts scope nodes [] h = refl
own_texts scope nodes (piece ∷ pieces) h =
    let p = parts_true (is_line (Printed piece)) (list_all is_line (map Printed pieces)) h in
    both_true (piece_text piece p.0) (own_texts scope nodes pieces p.1)

-- all texts are lawful
pub told_texts : (unsaid : List Bool → Bool) (reports : List Report) → AllByRecursion IsLawful reports → list_all (λ t. is_text t.text) (told_by unsaid reports) ≡ true
told_texts unsaid [] all = refl
told_texts unsaid (r ∷ reports) all =
    list_all-append (λ (t : Told). is_text t.text) (map (told_of (λ c. unsaid c && has_end r c) r.nodes) r.pieces) (told_by (λ c. unsaid c && not (has_end r c)) reports)
    ∙ both_true (own_texts (λ c. unsaid c && has_end r c) r.nodes r.pieces (parts_of r all.0).pieces) (told_texts (λ c. unsaid c && not (has_end r c)) reports all.1)

pub found_texts : {S I : Type 0} (sets : Sets I) (q : List ℕ → Bool) (found : List (Shared written.Piece S I)) (told : List Told) → AreTold sets found told → list_all (λ t. q t.text) told ≡ true → list_all (λ x. q x.value.text) found ≡ true
found_texts sets q found told AreTold.none h = refl
found_texts sets q found told (AreTold.kept shared rest t more g k) h =
    let p = parts_true (q t.text) (list_all (λ (t : Told). q t.text) more) h in
    both_true (ap q g.text ∙ p.0) (found_texts sets q rest more k p.1)
found_texts sets q found told (AreTold.dropped _ t more g k) h = found_texts sets q found more k (parts_true (q t.text) (list_all (λ (t : Told). q t.text) more) h).1

-- a value that is found in a list passes a test that all its items pass
found_passes : {E V : Type 0} (p q : E → Bool) (value_of : E → V) (passes : V → Bool) → ((x : E) → q x ≡ true → passes (value_of x) ≡ true) → (xs : List E) → list_all q xs ≡ true → (v : V) → option_map value_of (find p xs) ≡ Some v → passes v ≡ true
found_passes p q value_of passes law [] all v e = absurd cc
found_passes {E} {V} p q value_of passes law (x ∷ xs) all v e =
    let parts = parts_true (q x) (list_all q xs) all in
    by (p x) e (law x parts.0) (λ d. found_passes p q value_of passes law xs parts.1 v d)
  where
    by : (b : Bool) → option_map value_of (cond b (Some x) (find p xs)) ≡ Some v → passes (value_of x) ≡ true → (option_map value_of (find p xs) ≡ Some v → passes v ≡ true) → passes v ≡ true
    by true d here later = sym (ap passes (same_Some (value_of x) v d)) ∙ here
    by false d here later = later d

lines_all : {E : Type 0} (line : E → Line) (xs : List E) → list_all is_line (map line xs) ≡ true → list_all (λ x. is_line (line x)) xs ≡ true
lines_all line [] h = refl
lines_all line (x ∷ xs) h = let p = parts_true (is_line (line x)) (list_all is_line (map line xs)) h in both_true p.0 (lines_all line xs p.1)

-- a value that is said is said by a report
said_by : {V : Type 0} (value_of : Projection → Option V) (passes : V → Bool) (reports : List Report) → AllByRecursion (λ r. (c : List Bool) (v : V) → option_and_then value_of (project r c) ≡ Some v → passes v ≡ true) reports
    → (c : List Bool) (v : V) → option_and_then value_of (first_said reports c) ≡ Some v → passes v ≡ true
said_by value_of passes [] all c v e = absurd cc
said_by {V} value_of passes (r ∷ reports) all c v e = by (project r c) e (all.0 c v) (said_by value_of passes reports all.1 c v)
  where
    by : (o : Option Projection) → option_and_then value_of (option_or o (first_said reports c)) ≡ Some v → (option_and_then value_of o ≡ Some v → passes v ≡ true) → (option_and_then value_of (first_said reports c) ≡ Some v → passes v ≡ true) → passes v ≡ true
    by None d here later = later d
    by (Some p) d here later = here d

each_of : {A : Type 0} {P Q : A → Type 0} (xs : List A) → ((x : A) → P x → Q x) → AllByRecursion P xs → AllByRecursion Q xs
each_of [] f all = tt
each_of (x ∷ xs) f all = (f x all.0, each_of xs f all.1)

map_bind : {A B : Type 0} (f : A → B) (o : Option A) → option_map f o ≡ option_and_then (λ x. Some (f x)) o
map_bind f None = refl
map_bind f (Some x) = refl

own_end : (r : Report) → IsLawful r → (c : List Bool) (e : End) → option_and_then (λ (p : Projection). Some p.end) (project r c) ≡ Some e → is_end e ≡ true
own_end r lawful c e h =
    found_passes (λ line. holds r.nodes line.node c) (λ line. is_line (Ended line)) (λ line. line.end) is_end end_words r.ends (lines_all Ended r.ends (parts_of r lawful).ends) e (by (end_at r c) ∙ h)
  where
    by : (o : Option End) → o ≡ option_and_then (λ (p : Projection). Some p.end) (said_with r c o)
    by None = refl
    by (Some end) = refl

-- each end that is said is lawful
pub ends_lawful : (reports : List Report) → AllByRecursion IsLawful reports → (c : List Bool) (e : End) → end_said reports c ≡ Some e → is_end e ≡ true
ends_lawful reports all c e h = said_by (λ (p : Projection). Some p.end) is_end reports (each_of reports own_end all) c e (sym (map_bind (λ (p : Projection). p.end) (first_said reports c)) ∙ h)

-- a test that holds of each item at its place holds of all
each_at : {A : Type 0} (q : A → Bool) (xs : List A) → ((place : ℕ) (x : A) → slice_get xs place ≡ Some x → q x ≡ true) → list_all q xs ≡ true
each_at q [] h = refl
each_at q (x ∷ xs) h = both_true (h zero x refl) (each_at q xs (λ place y e. h (suc place) y e))

within_limit : (r : Report) → IsLawful r → list_all (λ line. nat_le line.attempts r.limit) r.attempts ≡ true
within_limit r lawful = each_at (λ (line : AttemptLine). nat_le line.attempts r.limit) r.attempts (λ place line e. (parts_true (is_above (last_of (take place r.attempts)) line.attempts) (nat_le line.attempts r.limit) (lawful.attempts place line e)).1)

own_attempts : (r : Report) → IsLawful r → (c : List Bool) (n : ℕ) → option_and_then (λ (p : Projection). p.attempts) (project r c) ≡ Some n → nat_le n r.limit ≡ true
own_attempts r lawful c n h = by (end_at r c) h
  where
    of_version : (b : Bool) → (if b then option_map (λ line. line.attempts) (find (λ line. holds r.nodes line.node c) r.attempts) else None) ≡ Some n → nat_le n r.limit ≡ true
    of_version true e = found_passes (λ line. holds r.nodes line.node c) (λ line. nat_le line.attempts r.limit) (λ line. line.attempts) (λ m. nat_le m r.limit) (λ line t. t) r.attempts (within_limit r lawful) n e
    of_version false e = absurd cc

    by : (o : Option End) → option_and_then (λ (p : Projection). p.attempts) (said_with r c o) ≡ Some n → nat_le n r.limit ≡ true
    by None e = absurd cc
    by (Some end) e = of_version (nat_eq r.version 2) e

-- each number of attempts that is said is within the limit
pub attempts_within : (reports : List Report) (limit : ℕ) → AllByRecursion IsLawful reports → AllByRecursion (λ r. r.limit ≡ limit) reports → (c : List Bool) (n : ℕ) → attempts_said reports c ≡ Some n → nat_le n limit ≡ true
attempts_within reports limit all same c n h = said_by (λ (p : Projection). p.attempts) (λ m. nat_le m limit) reports (both reports all same) c n h
  where
    both : (rs : List Report) → AllByRecursion IsLawful rs → AllByRecursion (λ r. r.limit ≡ limit) rs → AllByRecursion (λ r. (c : List Bool) (v : ℕ) → option_and_then (λ (p : Projection). p.attempts) (project r c) ≡ Some v → nat_le v limit ≡ true) rs
    both [] l s = tt
    both (r ∷ rs) l s = (λ d v e. ap (λ m. nat_le v m) (sym s.0) ∙ own_attempts r l.0 d v e, both rs l.1 s.1)

-- in version 1 no number is said
pub attempts_shown : (reports : List Report) (version : ℕ) → AllByRecursion (λ r. r.version ≡ version) reports → (c : List Bool) → attempts_said reports c ≡ (if nat_eq version 2 then attempts_said reports c else None)
attempts_shown reports version same c = by_version (nat_eq version 2) refl
  where
    none : (rs : List Report) → nat_eq version 2 ≡ false → AllByRecursion (λ r. r.version ≡ version) rs → attempts_said rs c ≡ None
    none [] e s = refl
    none (r ∷ rs) e s = by_end (end_at r c) (ap (λ n. nat_eq n 2) s.0 ∙ e) (none rs e s.1)
      where
        by_end : (o : Option End) → nat_eq r.version 2 ≡ false → attempts_said rs c ≡ None → option_and_then (λ (p : Projection). p.attempts) (option_or (said_with r c o) (first_said rs c)) ≡ None
        by_end None d rest = rest
        by_end (Some end) d rest = ap (λ b. if b then option_map (λ line. line.attempts) (find (λ line. holds r.nodes line.node c) r.attempts) else None) d

    by_version : (b : Bool) → nat_eq version 2 ≡ b → attempts_said reports c ≡ (if b then attempts_said reports c else None)
    by_version true e = refl
    by_version false e = none reports e same
