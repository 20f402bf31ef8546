-- What was collected is the join of the reports, and lawful.
use Rattle.std.proofs.Common.{◌≡◌, ◌≢◌, ℕ, ◌+◌, ◌<◌, ◌≤◌, ◌^◌, zero, suc, Bool, true, false, cond, List, [], ◌∷◌, ◌++◌, map, filter, length, drop, refl, sym, ◌∙◌, ap, subst, append-nil, append_assoc, arith, inl, inr}
use Rattle.std.proofs.lemmas.Bool.Decides.{nat_tests}
use Rattle.std.proofs.lemmas.Bool.{leb-true, lt-ltb, ltb-true}
use Rattle.std.specs.Cmp.Derive.{both_true}
use Rattle.std.specs.List.{AllByRecursion, AllZip, list_all, list_any}
use Rattle.std.specs.Option.{option_or}
use Rattle.std.specs.Ordering.{nat_cmp}
use Rattle.std.specs.Prelude.{◌&&◌, ◌||◌, not, find, nat_eq, nat_le, nat_lt, Option, None, Some, is_some, option_and_then, option_map, if◌then◌else◌}
use Rattle.std.specs.declared.cmp.Ordering.{Ordering}
use Rattle.std.specs.declared.cmp.Ordering.TheVariants.{Less}
use Rattle.vx_list.specs.Places.{item_or}
use Rattle.vx_value.specs.Ends.{compare_ends}
use Rattle.vx_value.specs.declared.end.End.{End}
use Rattle.vx_value.specs.declared.end.Stream.{Stream}
use Rattle.vx_space.specs.Sets.{AreKnown, Sets, IsLawful as IsLawfulSpace}
use Rattle.vx_cond.specs.Leaves.{AreLeaves, value_at}
use Rattle.vx_bdd_tools.proofs.NodeSets.{canonical}
use Rattle.vx_bdd_tools.specs.declared.node.Node.{Node}
use Rattle.vx_bdd_tools.specs.Listing.{IsListing}
use Rattle.vx_bdd_tools.specs.Nodes.{holds}
use Rattle.vx_bdd_tools.specs.Numbering.{HoldAll, IsNumbered}
use Rattle.vx_findings.specs.declared.piece.Piece as written
use Rattle.vx_findings.specs.declared.shared.Shared.{Shared}
use Rattle.vx_findings.specs.Shared.{leaves_of}
use Rattle.vx_one_report.proofs.Alike.{all_split}
use Rattle.vx_one_report.proofs.LawfulLines.{all_lawful, end_root, parts_of, roots_within}
use Rattle.vx_report.specs.declared.line.Line.TheVariants.{Ended, Printed, Spent}
use Rattle.vx_report.specs.declared.report.AttemptLine.{AttemptLine}
use Rattle.vx_report.specs.declared.report.EndLine.{EndLine}
use Rattle.vx_report.specs.declared.report.Piece.{Piece}
use Rattle.vx_report.specs.declared.report.Report.{Report}
use Rattle.vx_report.specs.Projection.{Projection, attempts_at, attempts_in, end_at, output_at, project}
use Rattle.vx_report_line.proofs.Numbers.{both_true as parts_true}
use Rattle.vx_report_line.specs.Forms.{is_end, is_line, is_root, is_text}
use Rattle.vx_report_reader.specs.Lawful.{IsLawful}
use Rattle.vx_report_reader.specs.Rules.{comes_after, is_above, is_less, is_nil, last_of, roots_of}
use Rattle.vx_join.specs.declared.collecting.Collected.{Collected}
use Rattle.vx_join.specs.Joined.{IsJoined, IsLike, Told, attempts_said, end_said, first_said, is_joinable, rounds_of, told_by}
use Rattle.vx_join.specs.Steps.{AreCollected, AreTold, attempts_line, collected_ids, end_line, lines_with, piece_line, report_by, shared_ids}
use Rattle.vx_join.proofs.Lawful.{IsSome, follows_too, limit_most, lines_lawful, lines_rise, roots_lawful}
use Rattle.vx_join.proofs.Numbered.{Hold, hold_behind, hold_first, hold_none, lines_said, numbers_of, output_same, pieces_told, said_each, value_same}
use Rattle.vx_join.proofs.Reports.{always, said_with}
use Rattle.vx_join.proofs.Said.{attempts_shown, attempts_within, ends_lawful, found_texts, said_output, told_output, told_texts}
use Rattle.vx_count.specs.Settings.{settings}
use Rattle.vx_join.proofs.Settings.{member_of, no_setting, some_setting}

-- ---- numbers

-- what holds of the numbers of all that was collected
record AreNumbers {S I : Type 0} (sets : Sets I) (collected : Collected S I) (nodes : List Node) (numbers : List ℕ) : Type 0 where
  found : Hold nodes sets collected.found.items numbers
  ends : Hold nodes sets collected.ends.items (drop (length collected.found.items) numbers)
  spent : Hold nodes sets collected.spent.items (drop (length collected.ends.items) (drop (length collected.found.items) numbers))
  last : drop (length collected.spent.items) (drop (length collected.ends.items) (drop (length collected.found.items) numbers)) ≡ []

are_numbers : {S I : Type 0} (sets : Sets I) (collected : Collected S I) (nodes : List Node) (numbers : List ℕ) → HoldAll nodes numbers (map sets.test (collected_ids collected)) → AreNumbers sets collected nodes numbers
are_numbers sets collected nodes numbers h =
    let found = collected.found.items in
    let ends = collected.ends.items in
    let spent = collected.spent.items in
    let first = drop (length found) numbers in
    let second = drop (length ends) first in
    let behind = hold_behind nodes sets found (shared_ids ends ++ shared_ids spent) numbers h in
    let behind_ends = hold_behind nodes sets ends (shared_ids spent) first behind in
    record {
      found = hold_first nodes sets found (shared_ids ends ++ shared_ids spent) numbers h;
      ends = hold_first nodes sets ends (shared_ids spent) first behind;
      spent = hold_first nodes sets spent [] second (rw append-nil behind_ends);
      last = hold_none nodes sets (drop (length spent) second) (hold_behind nodes sets spent [] second (rw append-nil behind_ends));
    }

roots_are : {S I : Type 0} (sets : Sets I) (like : Report) (rounds : ℕ) (collected : Collected S I) (nodes : List Node) (numbers : List ℕ) → AreNumbers sets collected nodes numbers → roots_of (report_by like rounds collected nodes numbers) ≡ numbers
roots_are sets like rounds collected nodes numbers are =
    let found = collected.found.items in
    let ends = collected.ends.items in
    let spent = collected.spent.items in
    let first = drop (length found) numbers in
    let second = drop (length ends) first in
    let piece_roots = map (λ (piece : Piece). piece.node) (lines_with piece_line found numbers) in
    let end_roots = map (λ (line : EndLine). line.node) (lines_with end_line ends first) in
    let attempt_roots = map (λ (line : AttemptLine). line.node) (lines_with attempts_line spent second) in
    let last : attempt_roots ≡ second = sym (append-nil attempt_roots) ∙ ap (λ rest. attempt_roots ++ rest) (sym are.last) ∙ numbers_of nodes sets attempts_line (λ line. line.node) (λ n v. refl) spent second are.spent in
    append_assoc piece_roots end_roots attempt_roots
    ∙ ap (λ rest. piece_roots ++ rest) (ap (λ rest. end_roots ++ rest) last ∙ numbers_of nodes sets end_line (λ line. line.node) (λ n v. refl) ends first are.ends)
    ∙ numbers_of nodes sets piece_line (λ piece. piece.node) (λ n v. refl) found numbers are.found

-- ---- what is said

project_same : (f : Option Projection) (end : Option End) (output : List (Stream × ℕ)) (attempts : Option ℕ) → end ≡ option_map (λ (p : Projection). p.end) f → output ≡ said_output f → attempts ≡ option_and_then (λ (p : Projection). p.attempts) f
    → option_map (λ end. record { output = output; end = end; attempts = attempts }) end ≡ f
project_same None end output attempts e o a = ap (option_map (λ end. record { output = output; end = end; attempts = attempts })) e
project_same (Some p) end output attempts e o a = ap (option_map (λ end. record { output = output; end = end; attempts = attempts })) e ∙ (λ i. Some (record { output = o i; end = p.end; attempts = a i }))

versions : (first : Report) (others : List Report) → AllByRecursion (IsLike first) others → AllByRecursion (λ r. r.version ≡ first.version) others
versions first [] like = tt
versions first (r ∷ others) like = let same = like.0.version in (sym same, versions first others like.1)

limits : (first : Report) (others : List Report) → AllByRecursion (IsLike first) others → AllByRecursion (λ r. r.limit ≡ first.limit) others
limits first [] like = tt
limits first (r ∷ others) like = let same = like.0.limit in (sym same, limits first others like.1)

says : {S I : Type 0} (sets : Sets I) (first : Report) (others : List Report) (rounds : ℕ) (collected : Collected S I) (nodes : List Node) (numbers : List ℕ)
    → AllByRecursion (IsLike first) others → AreNumbers sets collected nodes numbers → AreCollected sets (first ∷ others) collected → (c : List Bool) → project (report_by first rounds collected nodes numbers) c ≡ first_said (first ∷ others) c
says sets first others rounds collected nodes numbers like are h c =
    let reports = first ∷ others in
    let behind = drop (length collected.found.items) numbers in
    let last = drop (length collected.ends.items) behind in
    let made = report_by first rounds collected nodes numbers in
    let end : end_at made c ≡ end_said reports c = value_same nodes sets end_line (λ line. line.node) (λ line. line.end) (λ n v. refl) (λ n v. refl) collected.ends.items behind c are.ends ∙ h.ends.values c in
    let output : output_at made c ≡ said_output (first_said reports c) = output_same nodes sets collected.found.items (told_by always reports) numbers c h.found are.found ∙ told_output always reports c in
    let found : attempts_in nodes made.attempts c ≡ attempts_said reports c = value_same nodes sets attempts_line (λ line. line.node) (λ line. line.attempts) (λ n v. refl) (λ n v. refl) collected.spent.items last c are.spent ∙ h.spent.values c in
    let attempts : attempts_at made c ≡ attempts_said reports c = ap (λ o. if nat_eq first.version 2 then o else None) found ∙ sym (attempts_shown reports first.version (refl, versions first others like) c) in
    project_same (first_said reports c) (end_at made c) (output_at made c) (attempts_at made c) end output attempts

-- ---- there is an end

some_none : (b : Bool) (line : EndLine) (o : Option EndLine) → option_map (λ (l : EndLine). l.end) (cond b (Some line) o) ≡ None → b ≡ false
some_none true line o e = absurd cc
some_none false line o e = refl

-- a lawful report has an end at some configuration
pub some_end : (r : Report) → IsLawful r → ((c : List Bool) → end_at r c ≡ None) → ⊥
some_end r lawful none = by r.ends refl
  where
    by : (ends : List EndLine) → r.ends ≡ ends → ⊥
    by [] is = let wrong = rw is at lawful.ended in absurd cc
    by (line ∷ rest) is =
        let all = rw is at (parts_of r lawful).ends in
        let root = parts_true (nat_le 1 line.node) (nat_lt line.node (2 ^ 64)) (end_root line (parts_true (is_line (Ended line)) (list_all is_line (map Ended rest)) all).0) in
        let within = all_split (λ root. nat_lt root (length r.nodes + 2)) (map (λ (piece : Piece). piece.node) r.pieces) (map (λ (line : EndLine). line.node) r.ends)
        (all_split (λ root. nat_lt root (length r.nodes + 2)) (map (λ (piece : Piece). piece.node) r.pieces ++ map (λ (line : EndLine). line.node) r.ends) (map (λ (line : AttemptLine). line.node) r.attempts) (roots_within r.nodes 2 (roots_of r) (length r.nodes + 2) (omega arith) lawful.numbered.numbered)).0 in
        let here = rw is at within.1 in
        let below : line.node < length r.nodes + 2 = ltb-true line.node (length r.nodes + 2) (parts_true (nat_lt line.node (length r.nodes + 2)) (list_all (λ root. nat_lt root (length r.nodes + 2)) (map (λ (line : EndLine). line.node) rest)) here).0 in
        let off : (c : List Bool) → holds r.nodes line.node c ≡ false = λ c. let at = rw is at (none c) in some_none (holds r.nodes line.node c) line (find (λ (l : EndLine). holds r.nodes l.node c) rest) at in
        let least = leb-true 1 line.node root.0 in
        let never : line.node ≡ 0 = canonical lawful.numbered.reduced line.node 0 below (omega arith) off in
        omega (arith, least, never)

none_of_first : (first : Report) (others : List Report) (c : List Bool) → end_said (first ∷ others) c ≡ None → end_at first c ≡ None
none_of_first first others c e = by (end_at first c) e
  where
    by : (o : Option End) → option_map (λ (p : Projection). p.end) (option_or (said_with first c o) (first_said others c)) ≡ None → o ≡ None
    by None d = refl
    by (Some end) d = absurd cc

ended : {S I : Type 0} (sets : Sets I) (first : Report) (others : List Report) (ends : List (Shared End S I)) (numbers : List ℕ) → IsLawful first → ((c : List Bool) → value_at sets (leaves_of ends) c ≡ end_said (first ∷ others) c) → is_nil (lines_with end_line ends numbers) ≡ false
ended sets first others [] numbers lawful said = absurd (some_end first lawful (λ c. none_of_first first others c (sym (said c))))
ended sets first others (x ∷ ends) numbers lawful said = some_there (end_line (item_or numbers 0 0) x.value) (lines_with end_line ends (drop 1 numbers))
  where
    some_there : {A : Type 0} (x : A) (xs : List A) → is_nil (x ∷ xs) ≡ false
    some_there x xs = grind (arith, nat_tests)

-- ---- numbers of attempts, which version 2 alone has

attempts_there : {S I : Type 0} {sets : Sets I} → IsLawfulSpace sets → (version : ℕ) (said : List Bool → Option ℕ) (spent : List (Shared ℕ S I)) (numbers : List ℕ) → AreLeaves nat_cmp sets (leaves_of spent)
    → ((c : List Bool) → value_at sets (leaves_of spent) c ≡ said c) → ((c : List Bool) → said c ≡ (if nat_eq version 2 then said c else None)) → (nat_eq version 2 && is_nil spent) ≡ false
    → nat_eq version 2 ≡ not (is_nil (lines_with attempts_line spent numbers))
attempts_there {S} {I} {sets} lawful version said spent numbers leaves values shown some = by spent (nat_eq version 2) leaves values shown some
  where
    there : {A : Type 0} (x : A) (xs : List A) → true ≡ not (is_nil (x ∷ xs))
    there x xs = grind (arith, nat_tests)

    by : (spent : List (Shared ℕ S I)) (b : Bool) → AreLeaves nat_cmp sets (leaves_of spent) → ((c : List Bool) → value_at sets (leaves_of spent) c ≡ said c) → ((c : List Bool) → said c ≡ (if b then said c else None)) → (b && is_nil spent) ≡ false → b ≡ not (is_nil (lines_with attempts_line spent numbers))
    by [] true l v s e = absurd cc
    by [] false l v s e = refl
    by (x ∷ spent) true l v s e = there (attempts_line (item_or numbers 0 0) x.value) (lines_with attempts_line spent (drop 1 numbers))
    by (x ∷ spent) false l v s e =
        let member = member_of lawful x.condition l.0.known l.0.nonempty in
        let here : Some x.value ≡ None = sym (ap (λ b. cond b (Some x.value) (value_at sets (leaves_of spent) member.config)) member.holds) ∙ v member.config ∙ s member.config in
        absurd cc

-- ---- sets that some configuration has

some_leaves : {V S I : Type 0} (cmp : V → V → Ordering) (sets : Sets I) (values : List (Shared V S I)) → AreLeaves cmp sets (leaves_of values) → AllByRecursion (IsSome sets) (shared_ids values)
some_leaves cmp sets [] l = tt
some_leaves cmp sets (x ∷ values) l = (record { known = l.0.known; some = l.0.nonempty }, some_leaves cmp sets values l.1)

some_told : {S I : Type 0} (sets : Sets I) (found : List (Shared written.Piece S I)) (told : List Told) → AreTold sets found told → AllByRecursion (IsSome sets) (shared_ids found)
some_told sets found told AreTold.none = tt
some_told sets found told (AreTold.kept shared rest t more h k) = (record { known = h.set.known; some = h.some }, some_told sets rest more k)
some_told sets found told (AreTold.dropped _ t more h k) = some_told sets found more k

some_both : {I : Type 0} (sets : Sets I) (xs ys : List I) → AllByRecursion (IsSome sets) xs → AllByRecursion (IsSome sets) ys → AllByRecursion (IsSome sets) (xs ++ ys)
some_both sets [] ys h k = k
some_both sets (x ∷ xs) ys h k = (h.0, some_both sets xs ys h.1 k)

some_known : {I : Type 0} (sets : Sets I) (ids : List I) → AllByRecursion (IsSome sets) ids → AreKnown sets ids
some_known sets [] h = tt
some_known sets (id ∷ ids) h = (h.0.known, some_known sets ids h.1)

all_some : {S I : Type 0} (sets : Sets I) (reports : List Report) (collected : Collected S I) → AreCollected sets reports collected → AllByRecursion (IsSome sets) (collected_ids collected)
all_some sets reports collected h =
    some_both sets (shared_ids collected.found.items) _ (some_told sets collected.found.items (told_by always reports) h.found)
    (some_both sets (shared_ids collected.ends.items) _ (some_leaves compare_ends sets collected.ends.items h.ends.are_leaves) (some_leaves nat_cmp sets collected.spent.items h.spent.are_leaves))

-- the sets of all that was collected are known
pub all_known : {S I : Type 0} (sets : Sets I) (reports : List Report) (collected : Collected S I) → AreCollected sets reports collected → AreKnown sets (collected_ids collected)
all_known sets reports collected h = some_known sets (collected_ids collected) (all_some sets reports collected h)

-- ---- values that pass a test

values_pass : {V S I : Type 0} {sets : Sets I} → IsLawfulSpace sets → (passes : V → Bool) (said : List Bool → Option V) (values : List (Shared V S I)) → AllByRecursion (IsSome sets) (shared_ids values)
    → AllByRecursion (λ (x : Shared V S I). (c : List Bool) → sets.test x.condition c ≡ true → said c ≡ Some x.value) values → ((c : List Bool) (v : V) → said c ≡ Some v → passes v ≡ true) → list_all (λ x. passes x.value) values ≡ true
values_pass lawful passes said [] some each law = refl
values_pass lawful passes said (x ∷ values) some each law =
    let member = member_of lawful x.condition some.0.known some.0.some in
    both_true (law member.config x.value (each.0 member.config member.holds)) (values_pass lawful passes said values some.1 each.1 law)

lines_pass : {V L S I : Type 0} (line : ℕ → V → L) (test : V → Bool) (passes : L → Bool) → ((n : ℕ) (v : V) → passes (line n v) ≡ test v) → (values : List (Shared V S I)) (numbers : List ℕ) → list_all (λ x. test x.value) values ≡ true → list_all passes (lines_with line values numbers) ≡ true
lines_pass line test passes law [] numbers h = refl
lines_pass {V} {L} {S} {I} line test passes law (x ∷ values) numbers h =
    let p = parts_true (test x.value) (list_all (λ (y : Shared V S I). test y.value) values) h in
    both_true (law _ x.value ∙ p.0) (lines_pass line test passes law values (drop 1 numbers) p.1)

piece_is : (piece : Piece) → is_text piece.text ≡ true → is_root piece.node ≡ true → is_line (Printed piece) ≡ true
unfolding is_line
piece_is piece text root = both_true root text

end_is : (line : EndLine) → is_end line.end ≡ true → is_root line.node ≡ true → is_line (Ended line) ≡ true
unfolding is_line
end_is line end root = both_true root end

attempts_is : (limit : ℕ) (line : AttemptLine) → limit ≤ 1000000000 → nat_le line.attempts limit ≡ true → is_root line.node ≡ true → is_line (Spent line) ≡ true
unfolding is_line
attempts_is limit line most within root = let few = leb-true line.attempts limit within in both_true root (lt-ltb line.attempts (2 ^ 64) (omega (arith, few, most)))

above_last : (v w : ℕ) → nat_cmp v w ≡ Less → nat_lt v w ≡ true
above_last v w e = grind (arith, nat_tests)

-- ---- the whole

likes : (first r : Report) (others : List Report) → r.version ≡ first.version → r.options ≡ first.options → r.limit ≡ first.limit → AllByRecursion (IsLike first) others → AllByRecursion (IsLike r) others
likes first r [] e f g like = tt
likes first r (x ∷ others) e f g like = (record { version = e ∙ like.0.version; options = f ∙ like.0.options; limit = g ∙ like.0.limit }, likes first r others e f g like.1)

-- what a join stands on
pub record IsReady {S I : Type 0} (sets : Sets I) (first : Report) (others : List Report) (rounds : ℕ) (collected : Collected S I) (nodes : List Node) (numbers : List ℕ) : Type 0 where
  pub lawful : IsLawful first
  pub all_are : AllByRecursion IsLawful others
  pub like : AllByRecursion (IsLike first) others
  pub options : length first.options ≡ sets.options
  pub rounds_are : rounds ≡ rounds_of (first ∷ others)
  pub few : rounds < 2 ^ 128
  pub short : length nodes < 2 ^ 63
  pub are : AreCollected sets (first ∷ others) collected
  pub some : (nat_eq first.version 2 && is_nil collected.spent.items) ≡ false
  pub listing : IsListing sets (collected_ids collected) nodes numbers

made_joined : {S I : Type 0} {sets : Sets I} → IsLawfulSpace sets → (first : Report) (others : List Report) (rounds : ℕ) (collected : Collected S I) (nodes : List Node) (numbers : List ℕ) → IsReady sets first others rounds collected nodes numbers
    → IsJoined (first ∷ others) (report_by first rounds collected nodes numbers)
made_joined {S} {I} {sets} lawful first others rounds collected nodes numbers h =
    let reports = first ∷ others in
    let made = report_by first rounds collected nodes numbers in
    let behind = drop (length collected.found.items) numbers in
    let last = drop (length collected.ends.items) behind in
    let are = are_numbers sets collected nodes numbers h.listing.hold in
    record {
      like = (record { version = refl; options = refl; limit = refl }, likes first made others refl refl refl h.like);
      rounds = h.rounds_are;
      says = says sets first others rounds collected nodes numbers h.like are h.are;
      pieces = pieces_told lawful (length first.options) h.options nodes collected.found.items (told_by always reports) numbers h.are.found are.found;
      ends = lines_said nodes sets end_line (λ line. line.node) (λ line. line.end) (end_said reports) (λ n v. refl) (λ n v. refl) collected.ends.items behind are.ends
          (said_each compare_ends sets (end_said reports) collected.ends.items h.are.ends.are_leaves (λ c v e. sym (h.are.ends.values c) ∙ e));
      attempts = lines_said nodes sets attempts_line (λ line. line.node) (λ line. line.attempts) (attempts_said reports) (λ n v. refl) (λ n v. refl) collected.spent.items last are.spent
          (said_each nat_cmp sets (attempts_said reports) collected.spent.items h.are.spent.are_leaves (λ c v e. sym (h.are.spent.values c) ∙ e));
    }

-- each line of a kind is lawful
record AreLines (r : Report) : Type 0 where
  pieces : list_all is_line (map Printed r.pieces) ≡ true
  ends : list_all is_line (map Ended r.ends) ≡ true
  attempts : list_all is_line (map Spent r.attempts) ≡ true
  within : list_all (λ line. nat_le line.attempts r.limit) r.attempts ≡ true

made_lines : {S I : Type 0} {sets : Sets I} → IsLawfulSpace sets → (first : Report) (others : List Report) (rounds : ℕ) (collected : Collected S I) (nodes : List Node) (numbers : List ℕ) → IsReady sets first others rounds collected nodes numbers
    → AreLines (report_by first rounds collected nodes numbers)
made_lines {S} {I} {sets} lawful first others rounds collected nodes numbers h =
    let reports = first ∷ others in
    let made = report_by first rounds collected nodes numbers in
    let behind = drop (length collected.found.items) numbers in
    let last = drop (length collected.ends.items) behind in
    let are = are_numbers sets collected nodes numbers h.listing.hold in
    let roots = roots_are sets first rounds collected nodes numbers are in
    let good : list_all is_root (roots_of made) ≡ true = rw roots (roots_lawful lawful sets.options nodes (collected_ids collected) numbers h.short h.listing.hold (all_some sets reports collected h.are) h.listing.numbered) in
    let two = all_split is_root (map (λ (piece : Piece). piece.node) made.pieces ++ map (λ (line : EndLine). line.node) made.ends) (map (λ (line : AttemptLine). line.node) made.attempts) good in
    let one = all_split is_root (map (λ (piece : Piece). piece.node) made.pieces) (map (λ (line : EndLine). line.node) made.ends) two.0 in
    let texts = found_texts sets is_text collected.found.items (told_by always reports) h.are.found (told_texts always reports (h.lawful, h.all_are)) in
    let end_values = values_pass lawful is_end (end_said reports) collected.ends.items (some_leaves compare_ends sets collected.ends.items h.are.ends.are_leaves)
    (said_each compare_ends sets (end_said reports) collected.ends.items h.are.ends.are_leaves (λ c v e. sym (h.are.ends.values c) ∙ e)) (ends_lawful reports (h.lawful, h.all_are)) in
    let numbers_within = values_pass lawful (λ n. nat_le n first.limit) (attempts_said reports) collected.spent.items (some_leaves nat_cmp sets collected.spent.items h.are.spent.are_leaves)
    (said_each nat_cmp sets (attempts_said reports) collected.spent.items h.are.spent.are_leaves (λ c v e. sym (h.are.spent.values c) ∙ e)) (attempts_within reports first.limit (h.lawful, h.all_are) (refl, limits first others h.like)) in
    let within = lines_pass attempts_line (λ n. nat_le n first.limit) (λ line. nat_le line.attempts first.limit) (λ n v. refl) collected.spent.items last numbers_within in
    record {
      pieces = lines_lawful Printed (λ piece. piece.node) (λ piece. is_text piece.text) piece_is made.pieces (lines_pass piece_line (λ (v : written.Piece). is_text v.text) (λ piece. is_text piece.text) (λ n v. refl) collected.found.items numbers texts) one.0;
      ends = lines_lawful Ended (λ line. line.node) (λ line. is_end line.end) end_is made.ends (lines_pass end_line is_end (λ line. is_end line.end) (λ n v. refl) collected.ends.items behind end_values) one.1;
      attempts = lines_lawful Spent (λ line. line.node) (λ line. nat_le line.attempts first.limit) (λ line t root. attempts_is first.limit line (limit_most first (parts_of first h.lawful).front) t root) made.attempts within two.1;
      within = within;
    }

made_lawful : {S I : Type 0} {sets : Sets I} → IsLawfulSpace sets → (first : Report) (others : List Report) (rounds : ℕ) (collected : Collected S I) (nodes : List Node) (numbers : List ℕ) → IsReady sets first others rounds collected nodes numbers
    → IsLawful (report_by first rounds collected nodes numbers)
made_lawful {S} {I} {sets} lawful first others rounds collected nodes numbers h =
    let reports = first ∷ others in
    let made = report_by first rounds collected nodes numbers in
    let behind = drop (length collected.found.items) numbers in
    let last = drop (length collected.ends.items) behind in
    let are = are_numbers sets collected nodes numbers h.listing.hold in
    let roots = roots_are sets first rounds collected nodes numbers are in
    let numbered : IsNumbered (length first.options) nodes (roots_of made) = rw (h.options, roots) h.listing.numbered in
    let lines = made_lines lawful first others rounds collected nodes numbers h in
    let most = lawful.at_most_64 in
    let count = h.options in
    let few : length first.options < 65 = omega (arith, most, count) in
    let shown = attempts_shown reports first.version (refl, versions first others h.like) in
    record {
      lines = all_lawful first made refl refl refl h.few (parts_of first h.lawful).front few h.short numbered.reduced lines.pieces lines.ends lines.attempts;
      names = h.lawful.names;
      numbered = numbered;
      ended = ended sets first others collected.ends.items behind h.lawful h.are.ends.values;
      ends = lines_rise compare_ends end_line (λ o line. comes_after o line.end) sets (λ v w n m e. ap is_less e) (λ line. refl) collected.ends.items behind h.are.ends.are_leaves;
      spent = attempts_there lawful first.version (attempts_said reports) collected.spent.items last h.are.spent.are_leaves h.are.spent.values shown h.some;
      attempts = follows_too (λ before line. is_above (last_of before) line.attempts) (λ line. nat_le line.attempts first.limit) made.attempts
          (lines_rise nat_cmp attempts_line (λ o line. is_above o line.attempts) sets (λ v w n m e. above_last v w e) (λ line. refl) collected.spent.items last h.are.spent.are_leaves) lines.within;
    }

-- ---- whether there is a join

not_below : (a b : ℕ) → b ≤ a → nat_lt a b ≡ false
not_below a b h = grind (arith, nat_tests)

-- the rounds don't fit
pub many_rounds : (first : Report) (others : List Report) → 2 ^ 128 ≤ rounds_of (first ∷ others) → is_joinable (first ∷ others) ≡ false
many_rounds first others h = ap (λ b. b && (not (nat_eq first.version 2) || list_any (λ c. is_some (attempts_said (first ∷ others) c)) (settings (length first.options)))) (not_below (rounds_of (first ∷ others)) (2 ^ 128) h)

second_false : (a b d : Bool) → b ≡ true → d ≡ false → (a && (not b || d)) ≡ false
second_false true true d e f = f
second_false false true d e f = refl
second_false a false d e f = cc

-- version 2 would have no number
pub none_spent : {S I : Type 0} (sets : Sets I) (first : Report) (others : List Report) (collected : Collected S I) → AreCollected sets (first ∷ others) collected → (nat_eq first.version 2 && is_nil collected.spent.items) ≡ true → is_joinable (first ∷ others) ≡ false
none_spent {S} {I} sets first others collected h e =
    let p = parts_true (nat_eq first.version 2) (is_nil collected.spent.items) e in
    second_false (nat_lt (rounds_of (first ∷ others)) (2 ^ 128)) (nat_eq first.version 2) (list_any (λ c. is_some (attempts_said (first ∷ others) c)) (settings (length first.options))) p.0
    (no_setting (λ c. is_some (attempts_said (first ∷ others) c)) (settings (length first.options)) (λ c. ap is_some (sym (h.spent.values c) ∙ no_value collected.spent.items p.1 c)))
  where
    no_value : (spent : List (Shared ℕ S I)) → is_nil spent ≡ true → (c : List Bool) → value_at sets (leaves_of spent) c ≡ None
    no_value [] n c = refl
    no_value (x ∷ spent) n c =
        let some : is_nil (x ∷ spent) ≡ false = grind (arith, nat_tests) in
        let wrong : true ≡ false = sym n ∙ some in
        cc

both_hold : (a b d : Bool) → a ≡ true → (b ≡ true → d ≡ true) → (a && (not b || d)) ≡ true
both_hold true true d e f = f refl
both_hold true false d e f = refl
both_hold false b d e f = cc

-- what was collected is joinable
pub joinable : {S I : Type 0} {sets : Sets I} → IsLawfulSpace sets → (first : Report) (others : List Report) (rounds : ℕ) (collected : Collected S I) (nodes : List Node) (numbers : List ℕ) → IsReady sets first others rounds collected nodes numbers → is_joinable (first ∷ others) ≡ true
joinable {S} {I} {sets} lawful first others rounds collected nodes numbers h =
    both_hold (nat_lt (rounds_of (first ∷ others)) (2 ^ 128)) (nat_eq first.version 2) (list_any (λ c. is_some (attempts_said (first ∷ others) c)) (settings (length first.options)))
    (ap (λ n. nat_lt n (2 ^ 128)) (sym h.rounds_are) ∙ lt-ltb rounds (2 ^ 128) h.few)
    (λ two. by collected.spent.items h.are.spent.are_leaves h.are.spent.values (ap (λ b. b && is_nil collected.spent.items) (sym two) ∙ h.some))
  where
    by : (spent : List (Shared ℕ S I)) → AreLeaves nat_cmp sets (leaves_of spent) → ((c : List Bool) → value_at sets (leaves_of spent) c ≡ attempts_said (first ∷ others) c) → (true && is_nil spent) ≡ false → list_any (λ c. is_some (attempts_said (first ∷ others) c)) (settings (length first.options)) ≡ true
    by [] l v e = absurd cc
    by (x ∷ spent) l v e =
        let member = member_of lawful x.condition l.0.known l.0.nonempty in
        let here : Some x.value ≡ attempts_said (first ∷ others) member.config = sym (ap (λ b. cond b (Some x.value) (value_at sets (leaves_of spent) member.config)) member.holds) ∙ v member.config in
        some_setting (length first.options) (λ c. is_some (attempts_said (first ∷ others) c)) member.config (member.whole ∙ sym h.options) (ap is_some (sym here))

-- a report that is made of what was collected
pub is_joined : {S I : Type 0} {sets : Sets I} → IsLawfulSpace sets → (first : Report) (others : List Report) (rounds : ℕ) (collected : Collected S I) (nodes : List Node) (numbers : List ℕ) (r : Report) → IsReady sets first others rounds collected nodes numbers
    → r ≡ report_by first rounds collected nodes numbers → (is_joinable (first ∷ others) ≡ true) × IsLawful r × IsJoined (first ∷ others) r
is_joined lawful first others rounds collected nodes numbers r h same = (
  joinable lawful first others rounds collected nodes numbers h,
  subst (λ (x : Report). IsLawful x) (sym same) (made_lawful lawful first others rounds collected nodes numbers h),
  subst (λ (x : Report). IsJoined (first ∷ others) x) (sym same) (made_joined lawful first others rounds collected nodes numbers h),
)
