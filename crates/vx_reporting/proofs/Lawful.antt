-- A report that says what lockstep does, of a program whose report can be spelled, is lawful, so its text is read as the report.
use Rattle.std.proofs.Common.{Bool, List, None, Option, Some, [], ap, arith, false, filter, inl, inr, length, map, refl, subst, suc, sym, true, zero, ℕ, ◌&&◌, ◌++◌, ◌+◌, ◌<◌, ◌^◌, ◌≤◌, ◌⊎◌, ◌∙◌, ◌∷◌, ◌≡◌}
use Rattle.std.proofs.lemmas.Bool.Decides.{nat_tests}
use Rattle.std.proofs.lemmas.Bool.{le-leb, leb-true, lt-ltb}
use Rattle.std.proofs.lemmas.List.Folds.{list_all-append, list_all-map}
use Rattle.std.proofs.lemmas.List.{length-take}
use Rattle.std.proofs.lemmas.Option.{same_Some}
use Rattle.std.specs.Cmp.Derive.{both_true}
use Rattle.std.specs.List.{list_all}
use Rattle.std.specs.Prelude.{nat_eq, nat_le, nat_lt, not, option_map, slice_get}
use Rattle.vx_bdd_tools.proofs.OneNumbering.{Numbers-within}
use Rattle.vx_bdd_tools.specs.Nodes.{IsReducedList, holds}
use Rattle.vx_bdd_tools.specs.Numbering.{IsNumbered, NumbersAll}
use Rattle.vx_bdd_tools.specs.declared.node.Node.{Node}
use Rattle.vx_java.specs.Lockstep as lockstep
use Rattle.vx_java.specs.Report.{LockReport, attempts_in, attempts_shown}
use Rattle.vx_java.specs.Step.{Config}
use Rattle.vx_named_classes.specs.Named.{is_given}
use Rattle.vx_one_report.proofs.Alike.{all_split}
use Rattle.vx_report.specs.Projection.{Projection, attempts_at, end_at, output_at, project}
use Rattle.vx_report.specs.Text.{found_lines, front_lines, numbered as numbered_lines, report_lines}
use Rattle.vx_report.specs.declared.line.Line.{Line}
use Rattle.vx_report.specs.declared.line.Line.TheVariants.{Count, Done, Ended, Head, Limit, Named, Numbered, Printed, Rounds, Spent}
use Rattle.vx_report.specs.declared.report.AttemptLine.{AttemptLine}
use Rattle.vx_report.specs.declared.report.EndLine.{EndLine}
use Rattle.vx_report.specs.declared.report.Piece.{Piece}
use Rattle.vx_report.specs.declared.report.Report.{Report}
use Rattle.vx_report_line.proofs.Numbers.{both_true as parts_true}
use Rattle.vx_report_line.specs.Forms.{is_end, is_line, is_named, is_root, is_text}
use Rattle.vx_report_reader.specs.Lawful.{EachFollows, IsLawful}
use Rattle.vx_report_reader.specs.Rules.{comes_after, is_above, is_nil, last_of, roots_of}
use Rattle.vx_spelled_ends.specs.Spelled.{IsSpelledReport, is_shared, is_some_list, is_spelled}
use Rattle.vx_value.specs.declared.end.End.{End}
use Rattle.vx_value.specs.declared.end.End.TheVariants.{Exit, Illegal, Return, Uncaught, Unfinished, Unsupported}
use Rattle.vx_words.specs.Names.{AreOptionNames, is_name}
use Rattle.vx_reporting.specs.Fitting.{IsFitting, are_bytes, is_fitting}
use Rattle.vx_reporting.specs.Reported.{SaysLockstep, attempts_of, configs_of, end_of, piece_of}
use Rattle.vx_reporting.proofs.Rising.{follows_too}

-- ---- the front

head_lawful : (version : ℕ) → (version ≡ 1) ⊎ (version ≡ 2) → is_line (Head version) ≡ true
unfolding is_line
head_lawful version (inl e) = rw e refl
head_lawful version (inr e) = rw e refl

count_lawful : (n : ℕ) → n ≤ 64 → is_line (Count n) ≡ true
unfolding is_line
count_lawful n few = le-leb n 64 few

names_lawful : (names : List (List ℕ)) → list_all is_name names ≡ true → list_all is_line (map Named names) ≡ true
unfolding is_line
names_lawful [] h = refl
names_lawful (x ∷ names) h = let p = parts_true (is_name x) (list_all is_name names) h in both_true p.0 (names_lawful names p.1)

limit_lawful : (n : ℕ) → 1 ≤ n → n ≤ 1000000000 → is_line (Limit n) ≡ true
unfolding is_line
limit_lawful n least most = both_true (le-leb 1 n least) (le-leb n 1000000000 most)

rounds_lawful : (n : ℕ) → n < 2 ^ 128 → is_line (Rounds n) ≡ true
unfolding is_line
rounds_lawful n few = lt-ltb n (2 ^ 128) few

front_lawful : (r : Report) → (r.version ≡ 1) ⊎ (r.version ≡ 2) → AreOptionNames r.options → 1 ≤ r.limit → r.limit ≤ 1000000000 → r.rounds < 2 ^ 128 → list_all is_line (front_lines r) ≡ true
unfolding front_lines
front_lawful r version names least most rounds =
    list_all-append is_line (Head r.version ∷ Count (length r.options) ∷ map Named r.options) (Limit r.limit ∷ Rounds r.rounds ∷ [])
    ∙ both_true
    (both_true (head_lawful r.version version) (both_true (count_lawful (length r.options) names.few) (names_lawful r.options names.named)))
    (both_true (limit_lawful r.limit least most) (both_true (rounds_lawful r.rounds rounds) refl))

-- ---- nodes

record IsSmall (node : Node) : Type 0 where
  option : node.option < 2 ^ 32
  low : node.low < 2 ^ 64
  high : node.high < 2 ^ 64

node_lawful : (id : ℕ) (node : Node) → id < 2 ^ 64 → IsSmall node → is_line (Numbered id node) ≡ true
unfolding is_line
node_lawful id node few small =
    both_true (both_true (both_true (lt-ltb id (2 ^ 64) few) (lt-ltb node.option (2 ^ 32) small.option)) (lt-ltb node.low (2 ^ 64) small.low)) (lt-ltb node.high (2 ^ 64) small.high)

nodes_lawful : (id : ℕ) (nodes : List Node) → id + length nodes < 2 ^ 64 → ((place : ℕ) (node : Node) → slice_get nodes place ≡ Some node → IsSmall node) → list_all is_line (numbered_lines id nodes) ≡ true
nodes_lawful id [] few small = refl
nodes_lawful id (node ∷ nodes) few small =
    both_true (node_lawful id node (omega (arith, few)) (small zero node refl))
    (nodes_lawful (suc id) nodes (omega (arith, few)) (λ place other e. small (suc place) other e))

reduced_small : (options : ℕ) (nodes : List Node) → options ≤ 64 → length nodes < 2 ^ 63 → IsReducedList options nodes → (place : ℕ) (node : Node) → slice_get nodes place ≡ Some node → IsSmall node
reduced_small options nodes few short reduced place node e =
    let next = reduced.each place node e in
    let front = length-take place nodes in
    record {
      option = omega (arith, next.in_range, few);
      low = omega (arith, next.low_given, front, short);
      high = omega (arith, next.high_given, front, short);
    }

-- ---- roots

roots_below : (nodes : List Node) (n : ℕ) (roots : List ℕ) (m : ℕ) → n ≤ length nodes + 2 → length nodes < 2 ^ 63 → NumbersAll nodes n roots m → list_all (λ root. nat_lt root (2 ^ 64)) roots ≡ true
roots_below nodes n [] m few short all = refl
roots_below nodes n (root ∷ roots) m few short (NumbersAll.first _ _ between _ _ walk later) =
    let within = Numbers-within nodes n root between few walk in
    both_true (lt-ltb root (2 ^ 64) (omega (arith, within.0, within.2, short))) (roots_below nodes between roots m within.2 short later)

-- never holds nothing
never_holds : (nodes : List Node) (list : List Config) → is_some_list (filter (holds nodes 0) list) ≡ false
never_holds nodes [] = refl
never_holds nodes (c ∷ list) = never_holds nodes list

some_root : (nodes : List Node) (list : List Config) (root : ℕ) → is_some_list (configs_of nodes list root) ≡ true → nat_le 1 root ≡ true
some_root nodes list zero e = let none = never_holds nodes list in cc
some_root nodes list (suc n) e = le-leb 1 (suc n) (omega arith)

root_lawful : (nodes : List Node) (list : List Config) (root : ℕ) → is_some_list (configs_of nodes list root) ≡ true → nat_lt root (2 ^ 64) ≡ true → is_root root ≡ true
root_lawful nodes list root some below = both_true (some_root nodes list root some) below

-- ---- words

given_length : (text : List ℕ) → is_given text ≡ true → nat_le 1 (length text) ≡ true
given_length [] e = absurd cc
given_length (b ∷ text) e = le-leb 1 (length (b ∷ text)) (omega arith)

text_lawful : (text : List ℕ) → is_given text ≡ true → are_bytes text ≡ true → is_text text ≡ true
text_lawful text given bytes = both_true (given_length text given) bytes

end_lawful : (e : End) → is_spelled e ≡ true → is_fitting e ≡ true → is_end e ≡ true
unfolding is_end
end_lawful Return spelled fits = refl
end_lawful (Exit code) spelled fits = fits
end_lawful (Uncaught class) spelled fits = text_lawful class spelled fits
end_lawful (Unsupported word what place) spelled fits =
    let kind = parts_true (nat_le 1 word && nat_le word 8) (is_given what && (is_named word what && is_given place)) spelled in
    let given = parts_true (is_given what) (is_named word what && is_given place) kind.1 in
    let named = parts_true (is_named word what) (is_given place) given.1 in
    let bytes = parts_true (are_bytes what) (are_bytes place) fits in
    both_true (both_true (both_true kind.0 (text_lawful what given.0 bytes.0)) named.0) (text_lawful place named.1 bytes.1)
end_lawful (Illegal place) spelled fits = text_lawful place spelled fits
end_lawful Unfinished spelled fits = refl

-- ---- lines

-- lines of items that pass two tests, and whose nodes are small
lines_lawful : {A : Type 0} (line : A → Line) (node : A → ℕ) (first second : A → Bool)
    → ((x : A) → first x ≡ true → second x ≡ true → nat_lt (node x) (2 ^ 64) ≡ true → is_line (line x) ≡ true)
    → (xs : List A) → list_all first xs ≡ true → list_all second xs ≡ true → list_all (λ root. nat_lt root (2 ^ 64)) (map node xs) ≡ true → list_all is_line (map line xs) ≡ true
lines_lawful line node first second law [] f s b = refl
lines_lawful line node first second law (x ∷ xs) f s b =
    let p = parts_true (first x) (list_all first xs) f in
    let q = parts_true (second x) (list_all second xs) s in
    let t = parts_true (nat_lt (node x) (2 ^ 64)) (list_all (λ root. nat_lt root (2 ^ 64)) (map node xs)) b in
    both_true (law x p.0 q.0 t.0) (lines_lawful line node first second law xs p.1 q.1 t.1)

piece_lawful : (nodes : List Node) (list : List Config) (piece : Piece) → (is_given piece.text && is_some_list (configs_of nodes list piece.node)) ≡ true → are_bytes piece.text ≡ true → nat_lt piece.node (2 ^ 64) ≡ true → is_line (Printed piece) ≡ true
unfolding is_line
piece_lawful nodes list piece shared bytes below =
    let p = parts_true (is_given piece.text) (is_some_list (configs_of nodes list piece.node)) shared in
    both_true (root_lawful nodes list piece.node p.1 below) (text_lawful piece.text p.0 bytes)

end_line_lawful : (nodes : List Node) (list : List Config) (line : EndLine) → (is_spelled line.end && is_some_list (configs_of nodes list line.node)) ≡ true → is_fitting line.end ≡ true → nat_lt line.node (2 ^ 64) ≡ true → is_line (Ended line) ≡ true
unfolding is_line
end_line_lawful nodes list line shared fits below =
    let p = parts_true (is_spelled line.end) (is_some_list (configs_of nodes list line.node)) shared in
    both_true (root_lawful nodes list line.node p.1 below) (end_lawful line.end p.0 fits)

attempts_line_lawful : (nodes : List Node) (list : List Config) (limit : ℕ) (line : AttemptLine) → limit ≤ 1000000000 → (nat_le line.attempts limit && is_some_list (configs_of nodes list line.node)) ≡ true → nat_lt line.node (2 ^ 64) ≡ true → is_line (Spent line) ≡ true
unfolding is_line
attempts_line_lawful nodes list limit line most shared below =
    let p = parts_true (nat_le line.attempts limit) (is_some_list (configs_of nodes list line.node)) shared in
    let within = leb-true line.attempts limit p.0 in
    both_true (root_lawful nodes list line.node p.1 below) (lt-ltb line.attempts (2 ^ 64) (omega (arith, within, most)))

-- ---- what lockstep says, of the lines

shared_lines : {L A : Type 0} (test : A → Bool) (made : L → lockstep.Shared A) (lines : List L) (groups : List (lockstep.Shared A)) → map made lines ≡ groups → list_all (is_shared test) groups ≡ true → list_all (λ line. is_shared test (made line)) lines ≡ true
shared_lines {A = A} test made lines groups same all =
    sym (list_all-map (is_shared test) made lines) ∙ subst (λ (gs : List (lockstep.Shared A)). list_all (is_shared test) gs ≡ true) (sym same) all

joined : (xs ys : List Line) → list_all is_line xs ≡ true → list_all is_line ys ≡ true → list_all is_line (xs ++ ys) ≡ true
joined xs ys e f = list_all-append is_line xs ys ∙ both_true e f

done_lawful : list_all is_line (Done ∷ []) ≡ true
unfolding is_line
done_lawful = refl

found_lawful : (r : Report) → list_all is_line (map Printed r.pieces) ≡ true → list_all is_line (map Ended r.ends) ≡ true → list_all is_line (map Spent r.attempts) ≡ true → list_all is_line (found_lines r) ≡ true
unfolding found_lines
found_lawful r p e a = joined (map Printed r.pieces ++ map Ended r.ends) (map Spent r.attempts) (joined (map Printed r.pieces) (map Ended r.ends) p e) a

all_lawful : (r : Report) → list_all is_line (front_lines r) ≡ true → list_all is_line (numbered_lines 2 r.nodes) ≡ true → list_all is_line (found_lines r) ≡ true → list_all is_line (report_lines r) ≡ true
all_lawful r front nodes found =
    joined (front_lines r ++ numbered_lines 2 r.nodes ++ found_lines r) (Done ∷ []) (joined (front_lines r ++ numbered_lines 2 r.nodes) (found_lines r) (joined (front_lines r) (numbered_lines 2 r.nodes) front nodes) found) done_lawful

first_of_two : {A : Type 0} (first second : A → Bool) (xs : List A) → list_all (λ x. first x && second x) xs ≡ true → list_all first xs ≡ true
first_of_two first second [] e = refl
first_of_two first second (x ∷ xs) e =
    let p = parts_true (first x && second x) (list_all (λ y. first y && second y) xs) e in
    both_true (parts_true (first x) (second x) p.0).0 (first_of_two first second xs p.1)

-- ---- the whole

is_some_nil : {A : Type 0} (xs : List A) (x : A) (others : List A) → xs ≡ x ∷ others → is_nil xs ≡ false
is_some_nil {A} xs x others e = rw e (some_there x others)
  where
    some_there : (x : A) (others : List A) → is_nil (x ∷ others) ≡ false
    some_there x others = grind (arith, nat_tests)

-- where a report says something of a configuration it has an end
pub ended_there : (r : Report) (c : Config) (p : Projection) → project r c ≡ Some p → is_nil r.ends ≡ false
ended_there r c p e = by_ends r.ends refl
  where
    by_ends : (ends : List EndLine) → r.ends ≡ ends → is_nil r.ends ≡ false
    by_ends [] is = let none = rw is at e in absurd cc
    by_ends (x ∷ others) is = is_some_nil r.ends x others is

-- what a report needs beside what lockstep says
pub record IsReady (r : Report) : Type 0 where
  pub version : (r.version ≡ 1) ⊎ (r.version ≡ 2)
  pub names : AreOptionNames r.options
  pub least : 1 ≤ r.limit
  pub most : r.limit ≤ 1000000000
  pub fits : IsFitting r
  pub numbered : IsNumbered (length r.options) r.nodes (roots_of r)
  pub ends : EachFollows (λ before line. comes_after (last_of before) line.end ≡ true) r.ends
  pub attempts : EachFollows (λ before line. is_above (last_of before) line.attempts ≡ true) r.attempts
  pub ended : is_nil r.ends ≡ false
  pub spent : nat_eq r.version 2 ≡ not (is_nil r.attempts)

pub lawful : (r : Report) (list : List Config) (lock : LockReport) → IsReady r → SaysLockstep list lock r → IsSpelledReport r.limit lock → IsLawful r
lawful r list lock ready says spelled =
    let nodes = r.nodes in
    let small : ℕ → Bool = λ root. nat_lt root (2 ^ 64) in
    let piece_roots = map (λ (piece : Piece). piece.node) r.pieces in
    let end_roots = map (λ (line : EndLine). line.node) r.ends in
    let attempt_roots = map (λ (line : AttemptLine). line.node) r.attempts in
    let all_small : list_all small (roots_of r) ≡ true = roots_below nodes 2 (roots_of r) (length nodes + 2) (omega arith) ready.fits.nodes ready.numbered.numbered in
    let first_small = all_split small (piece_roots ++ end_roots) attempt_roots all_small in
    let two_small = all_split small piece_roots end_roots first_small.0 in
    let pieces = shared_lines (λ piece. is_given piece.1) (piece_of nodes list) r.pieces lock.pieces says.pieces spelled.pieces in
    let ends = shared_lines is_spelled (end_of nodes list) r.ends lock.ends says.ends spelled.ends in
    let attempts = shared_lines (λ n. nat_le n r.limit) (attempts_of nodes list) r.attempts lock.attempts says.attempts spelled.attempts in
    let front_are = front_lawful r ready.version ready.names ready.least ready.most ready.fits.rounds in
    let nodes_are = nodes_lawful 2 nodes (omega (arith, ready.fits.nodes)) (reduced_small (length r.options) nodes ready.names.few ready.fits.nodes ready.numbered.reduced) in
    let pieces_are = lines_lawful Printed (λ piece. piece.node) (λ piece. is_given piece.text && is_some_list (configs_of nodes list piece.node)) (λ piece. are_bytes piece.text) (piece_lawful nodes list) r.pieces pieces ready.fits.pieces two_small.0 in
    let ends_are = lines_lawful Ended (λ line. line.node) (λ line. is_spelled line.end && is_some_list (configs_of nodes list line.node)) (λ line. is_fitting line.end) (end_line_lawful nodes list) r.ends ends ready.fits.ends two_small.1 in
    let within : AttemptLine → Bool = λ line. nat_le line.attempts r.limit && is_some_list (configs_of nodes list line.node) in
    let attempts_are = lines_lawful Spent (λ line. line.node) within within (λ line f s b. attempts_line_lawful nodes list r.limit line ready.most f b) r.attempts attempts attempts first_small.1 in
    record {
      lines = all_lawful r front_are nodes_are (found_lawful r pieces_are ends_are attempts_are);
      names = ready.names.distinct;
      numbered = ready.numbered;
      ended = ready.ended;
      ends = ready.ends;
      spent = ready.spent;
      attempts = follows_too (λ before line. is_above (last_of before) line.attempts) (λ line. nat_le line.attempts r.limit) r.attempts ready.attempts (first_of_two (λ line. nat_le line.attempts r.limit) (λ line. is_some_list (configs_of nodes list line.node)) r.attempts attempts);
    }

-- ---- numbers of attempts, which version 2 alone shows

attempts_said : (r : Report) (c : Config) (p : Projection) → project r c ≡ Some p → p.attempts ≡ attempts_at r c
attempts_said r c p e = by_end (end_at r c) e
  where
    by_end : (o : Option End) → option_map (λ end. record { output = output_at r c; end = end; attempts = attempts_at r c }) o ≡ Some p → p.attempts ≡ attempts_at r c
    by_end None f = absurd cc
    by_end (Some end) f = sym (ap (λ (x : Projection). x.attempts) (same_Some (record { output = output_at r c; end = end; attempts = attempts_at r c }) p f))

-- version 1 shows none, and what a report of version 2 says of a configuration has one
pub spent_shown : (r : Report) (has_attempts : Bool) (members : List lockstep.ConfigRun) (c : Config) (p : Projection) (n : ℕ) (list : List Config)
    → nat_eq r.version 2 ≡ has_attempts → map (attempts_of r.nodes list) r.attempts ≡ attempts_in has_attempts members → project r c ≡ Some p → p.attempts ≡ attempts_shown has_attempts n
    → nat_eq r.version 2 ≡ not (is_nil r.attempts)
spent_shown r false members c p n list version says projects shown = by_attempts r.attempts refl
  where
    by_attempts : (attempts : List AttemptLine) → r.attempts ≡ attempts → nat_eq r.version 2 ≡ not (is_nil r.attempts)
    by_attempts [] is = let nil : not (is_nil r.attempts) ≡ false = rw is refl in version ∙ sym nil
    by_attempts (x ∷ others) is = let some = rw is at says in absurd cc
spent_shown r true members c p n list version says projects shown = by_attempts r.attempts refl
  where
    by_attempts : (attempts : List AttemptLine) → r.attempts ≡ attempts → nat_eq r.version 2 ≡ not (is_nil r.attempts)
    by_attempts [] is =
        let none : attempts_at r c ≡ None = rw (version, is) refl in
        let bad : Some n ≡ None = sym shown ∙ attempts_said r c p projects ∙ none in
        absurd cc
    by_attempts (x ∷ others) is = version ∙ sym (ap not (is_some_nil r.attempts x others is))
