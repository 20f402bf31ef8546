-- A report with nodes over other names says of each configuration what the report says of what it sees of it, and is lawful.
use Rattle.std.proofs.Common.{◌≡◌, ℕ, ◌+◌, ◌<◌, ◌≤◌, ◌^◌, zero, suc, Bool, true, false, not, ◌&&◌, ◌==◌, List, [], ◌∷◌, ◌++◌, map, length, drop, nat_eq, nat_le, nat_lt, option_map, refl, sym, ◌∙◌, ap, subst, append-nil, append_assoc, arith}
use Rattle.std.specs.Prelude.{Option, Some, None, if◌then◌else◌}
use Rattle.std.specs.List.{AllByRecursion, AllZip, list_all}
use Rattle.std.specs.Cmp.Derive.{both_true}
use Rattle.std.proofs.lemmas.Bool.{le-leb, leb-true, lt-ltb, ltb-true}
use Rattle.std.proofs.lemmas.List.{length-map}
use Rattle.std.proofs.lemmas.List.Folds.{list_all-append}
use Rattle.vx_value.specs.declared.end.End.{End}
use Rattle.vx_value.specs.declared.end.Stream.{Stream}
use Rattle.vx_bdd_tools.specs.declared.node.Node.{Node}
use Rattle.vx_bdd_tools.specs.Nodes.{IsReducedList, holds}
use Rattle.vx_bdd_tools.specs.Numbering.{IsNumbered}
use Rattle.vx_words.specs.Names.{AreOptionNames, is_name}
use Rattle.vx_report.specs.Projection.{attempts_at, attempts_in, bytes_of, end_at, output_at, project}
use Rattle.vx_report.specs.Text.{front_lines, report_lines}
use Rattle.vx_report.specs.declared.line.Line.{Line}
use Rattle.vx_report.specs.declared.line.Line.TheVariants.{Count, Ended, Head, Limit, Named, Printed, Rounds, Spent}
use Rattle.vx_report.specs.declared.report.AttemptLine.{AttemptLine}
use Rattle.vx_report.specs.declared.report.EndLine.{EndLine}
use Rattle.vx_report.specs.declared.report.Piece.{Piece}
use Rattle.vx_report.specs.declared.report.Report.{Report}
use Rattle.vx_report_line.proofs.Numbers.{both_true as parts_true}
use Rattle.vx_report_line.specs.Forms.{is_end, is_line, is_root, is_text}
use Rattle.vx_report_reader.specs.Lawful.{IsLawful}
use Rattle.vx_report_reader.specs.Rules.{comes_after, is_above, is_nil, roots_of}
use Rattle.vx_one_report.proofs.Alike.{all_split}
use Rattle.vx_one_report.proofs.LawfulLines.{HasParts, all_lawful, attempts_root, end_root, parts_of, roots_within}
use Rattle.vx_compare.specs.Names.{IsWide, place_of, places_of, values_at}
use Rattle.vx_compare.specs.Wide.{HoldsSeen, IsSeenListing, attempts_with, end_with, piece_with, renumbered, wide_report}
use Rattle.vx_compare.proofs.Apart.{AreApart, new_apart, seen_never}
use Rattle.vx_compare.proofs.NamesOfBoth.{apart_places}
use Rattle.vx_compare.proofs.Renumbered.{AreHeld, follows_renumbered, given_same, held_behind, held_first, held_none, length_renumbered, lines_renumbered, numbers_of, value_same}

-- ---- roots

roots_there : {A : Type 0} (line : A → Line) (node : A → ℕ) → ((x : A) → is_line (line x) ≡ true → is_root (node x) ≡ true) → (xs : List A) → list_all is_line (map line xs) ≡ true → list_all is_root (map node xs) ≡ true
roots_there line node law [] h = refl
roots_there line node law (x ∷ xs) h =
    let p = parts_true (is_line (line x)) (list_all is_line (map line xs)) h in
    both_true (law x p.0) (roots_there line node law xs p.1)

piece_root : (piece : Piece) → is_line (Printed piece) ≡ true → is_root piece.node ≡ true
unfolding is_line
piece_root piece h = (parts_true (is_root piece.node) (is_text piece.text) h).0

-- what a report names are roots
report_roots : (r : Report) → HasParts r → list_all is_root (roots_of r) ≡ true
report_roots r parts =
    let pieces : list_all is_root (map (λ (piece : Piece). piece.node) r.pieces) ≡ true = roots_there Printed (λ piece. piece.node) piece_root r.pieces parts.pieces in
    let ends : list_all is_root (map (λ (line : EndLine). line.node) r.ends) ≡ true = roots_there Ended (λ line. line.node) end_root r.ends parts.ends in
    let attempts : list_all is_root (map (λ (line : AttemptLine). line.node) r.attempts) ≡ true = roots_there Spent (λ line. line.node) attempts_root r.attempts parts.attempts in
    list_all-append is_root (map (λ (piece : Piece). piece.node) r.pieces ++ map (λ (line : EndLine). line.node) r.ends) (map (λ (line : AttemptLine). line.node) r.attempts)
    ∙ both_true (list_all-append is_root (map (λ (piece : Piece). piece.node) r.pieces) (map (λ (line : EndLine). line.node) r.ends) ∙ both_true pieces ends) attempts

-- a number that holds what a root holds is a root
root_seen : (places : List ℕ) (nodes wide : List Node) → IsReducedList (length places) nodes → AreApart places → length wide < 2 ^ 63 → (k n : ℕ) → is_root k ≡ true → nat_lt k (length nodes + 2) ≡ true → nat_lt n (length wide + 2) ≡ true → HoldsSeen places nodes wide k n → is_root n ≡ true
root_seen places nodes wide reduced apart short k zero root within small holds_seen =
    let never : k ≡ 0 = seen_never places nodes reduced apart k (ltb-true k (length nodes + 2) within) (λ c. sym (holds_seen c)) in
    let least = leb-true 1 k (parts_true (nat_le 1 k) (nat_lt k (2 ^ 64)) root).0 in
    absurd (omega (arith, never, least))
root_seen places nodes wide reduced apart short k (suc n) root within small holds_seen =
    let below = ltb-true (suc n) (length wide + 2) small in
    both_true (le-leb 1 (suc n) (omega arith)) (lt-ltb (suc n) (2 ^ 64) (omega (arith, below, short)))

roots_seen : (places : List ℕ) (nodes wide : List Node) → IsReducedList (length places) nodes → AreApart places → length wide < 2 ^ 63 → (ks numbers : List ℕ) → list_all is_root ks ≡ true → list_all (λ k. nat_lt k (length nodes + 2)) ks ≡ true
    → list_all (λ n. nat_lt n (length wide + 2)) numbers ≡ true → AllZip (HoldsSeen places nodes wide) ks numbers → list_all is_root numbers ≡ true
roots_seen places nodes wide reduced apart short [] [] roots within small h = refl
roots_seen places nodes wide reduced apart short [] (n ∷ numbers) roots within small h = absurd h
roots_seen places nodes wide reduced apart short (k ∷ ks) [] roots within small h = refl
roots_seen places nodes wide reduced apart short (k ∷ ks) (n ∷ numbers) roots within small h =
    let root = parts_true (is_root k) (list_all is_root ks) roots in
    let inside = parts_true (nat_lt k (length nodes + 2)) (list_all (λ j. nat_lt j (length nodes + 2)) ks) within in
    let below = parts_true (nat_lt n (length wide + 2)) (list_all (λ j. nat_lt j (length wide + 2)) numbers) small in
    both_true (root_seen places nodes wide reduced apart short k n root.0 inside.0 below.0 h.0) (roots_seen places nodes wide reduced apart short ks numbers root.1 inside.1 below.1 h.1)

-- ---- lines

piece_line : (n : ℕ) (piece : Piece) → is_line (Printed piece) ≡ true → is_root n ≡ true → is_line (Printed (piece_with n piece)) ≡ true
unfolding is_line
piece_line n piece h root = both_true root (parts_true (is_root piece.node) (is_text piece.text) h).1

end_line : (n : ℕ) (line : EndLine) → is_line (Ended line) ≡ true → is_root n ≡ true → is_line (Ended (end_with n line)) ≡ true
unfolding is_line
end_line n line h root = both_true root (parts_true (is_root line.node) (is_end line.end) h).1

attempts_line : (n : ℕ) (line : AttemptLine) → is_line (Spent line) ≡ true → is_root n ≡ true → is_line (Spent (attempts_with n line)) ≡ true
unfolding is_line
attempts_line n line h root = both_true root (parts_true (is_root line.node) (nat_lt line.attempts (2 ^ 64)) h).1

names_line : (names : List (List ℕ)) → list_all is_name names ≡ true → list_all is_line (map Named names) ≡ true
unfolding is_line
names_line [] h = refl
names_line (name ∷ names) h = let p = parts_true (is_name name) (list_all is_name names) h in both_true p.0 (names_line names p.1)

count_line : (n : ℕ) → n ≤ 64 → is_line (Count n) ≡ true
unfolding is_line
count_line n few = le-leb n 64 few

rounds_few : (n : ℕ) → is_line (Rounds n) ≡ true → n < 2 ^ 128
unfolding is_line
rounds_few n h = ltb-true n (2 ^ 128) h

-- the first lines, over other names
front_line : (r : Report) (names : List (List ℕ)) (nodes : List Node) (numbers : List ℕ) → AreOptionNames names → list_all is_line (front_lines r) ≡ true → (list_all is_line (front_lines (wide_report r names nodes numbers)) ≡ true) × (r.rounds < 2 ^ 128)
unfolding front_lines
front_line r names nodes numbers are h =
    let p = all_split is_line (Head r.version ∷ Count (length r.options) ∷ map Named r.options) (Limit r.limit ∷ Rounds r.rounds ∷ []) h in
    let head = (parts_true (is_line (Head r.version)) (list_all is_line (Count (length r.options) ∷ map Named r.options)) p.0).0 in
    let limit = parts_true (is_line (Limit r.limit)) (list_all is_line (Rounds r.rounds ∷ [])) p.1 in
    let rounds = (parts_true (is_line (Rounds r.rounds)) true limit.1).0 in (
      list_all-append is_line (Head r.version ∷ Count (length names) ∷ map Named names) (Limit r.limit ∷ Rounds r.rounds ∷ []) ∙ both_true (both_true head (both_true (count_line (length names) are.few) (names_line names are.named))) p.1,
      rounds_few r.rounds rounds,
    )

-- ---- the whole

module _ (r : Report) (names : List (List ℕ)) (nodes : List Node) (numbers : List ℕ) where
  abbrev wide : Report
  wide = wide_report r names nodes numbers

  abbrev places : List ℕ
  places = places_of names r.options

  abbrev Seen : ℕ → ℕ → Type 0
  Seen = HoldsSeen places r.nodes nodes

  abbrev behind_pieces : List ℕ
  behind_pieces = drop (length r.pieces) numbers

  abbrev behind_ends : List ℕ
  behind_ends = drop (length r.ends) behind_pieces

  -- what holds of the numbers of each kind
  record AreNumbers : Type 0 where
    pieces : AreHeld (λ (piece : Piece). piece.node) Seen r.pieces numbers
    ends : AreHeld (λ (line : EndLine). line.node) Seen r.ends behind_pieces
    attempts : AreHeld (λ (line : AttemptLine). line.node) Seen r.attempts behind_ends
    last : drop (length r.attempts) behind_ends ≡ []

  are_numbers : AllZip Seen (roots_of r) numbers → AreNumbers
  are_numbers hold =
      let piece_roots = map (λ (piece : Piece). piece.node) r.pieces in
      let end_roots = map (λ (line : EndLine). line.node) r.ends in
      let attempt_roots = map (λ (line : AttemptLine). line.node) r.attempts in
      let all : AllZip Seen (piece_roots ++ (end_roots ++ attempt_roots)) numbers = subst (λ ks. AllZip Seen ks numbers) (append_assoc piece_roots end_roots attempt_roots) hold in
      let behind : AllZip Seen (end_roots ++ attempt_roots) behind_pieces = held_behind (λ (piece : Piece). piece.node) Seen r.pieces (end_roots ++ attempt_roots) numbers all in
      let last : AllZip Seen attempt_roots behind_ends = held_behind (λ (line : EndLine). line.node) Seen r.ends attempt_roots behind_pieces behind in
      let whole : AllZip Seen (attempt_roots ++ []) behind_ends = subst (λ ks. AllZip Seen ks behind_ends) (sym (append-nil attempt_roots)) last in
      record {
        pieces = held_first (λ (piece : Piece). piece.node) Seen r.pieces (end_roots ++ attempt_roots) numbers all;
        ends = held_first (λ (line : EndLine). line.node) Seen r.ends attempt_roots behind_pieces behind;
        attempts = held_first (λ (line : AttemptLine). line.node) Seen r.attempts [] behind_ends whole;
        last = held_none Seen (drop (length r.attempts) behind_ends) (held_behind (λ (line : AttemptLine). line.node) Seen r.attempts [] behind_ends whole);
      }

  roots_are : AreNumbers → roots_of wide ≡ numbers
  roots_are are =
      let piece_roots = map (λ (piece : Piece). piece.node) wide.pieces in
      let end_roots = map (λ (line : EndLine). line.node) wide.ends in
      let attempt_roots = map (λ (line : AttemptLine). line.node) wide.attempts in
      let last : attempt_roots ≡ behind_ends =
      sym (append-nil attempt_roots) ∙ ap (λ rest. attempt_roots ++ rest) (sym are.last) ∙ numbers_of attempts_with (λ line. line.node) (λ n x. refl) Seen r.attempts behind_ends are.attempts in
      append_assoc piece_roots end_roots attempt_roots
      ∙ ap (λ rest. piece_roots ++ rest) (ap (λ rest. end_roots ++ rest) last ∙ numbers_of end_with (λ line. line.node) (λ n x. refl) Seen r.ends behind_pieces are.ends)
      ∙ numbers_of piece_with (λ piece. piece.node) (λ n x. refl) Seen r.pieces numbers are.pieces

  says : AreNumbers → (c : List Bool) → project wide c ≡ project r (values_at places c)
  says are c =
      let d = values_at places c in
      let end : end_at wide c ≡ end_at r d = value_same end_with (λ line. line.node) (λ line. line.end) (λ n x. refl) (λ n x. refl) Seen (λ k. holds r.nodes k d) (λ n. holds nodes n c) (λ k n h. h c) r.ends behind_pieces are.ends in
      let output : output_at wide c ≡ output_at r d = given_same piece_with (λ piece. piece.node) bytes_of (λ n x. refl) (λ n x. refl) Seen (λ k. holds r.nodes k d) (λ n. holds nodes n c) (λ k n h. h c) r.pieces numbers are.pieces in
      let spent : attempts_in nodes wide.attempts c ≡ attempts_in r.nodes r.attempts d = value_same attempts_with (λ line. line.node) (λ line. line.attempts) (λ n x. refl) (λ n x. refl) Seen (λ k. holds r.nodes k d) (λ n. holds nodes n c) (λ k n h. h c) r.attempts behind_ends are.attempts in
      let attempts : attempts_at wide c ≡ attempts_at r d = ap (λ o. if nat_eq r.version 2 then o else None) spent in
      λ i. option_map (λ e. record { output = output i; end = e; attempts = attempts i }) (end i)

  wide_lawful : IsLawful r → AreOptionNames names → AllByRecursion (λ place. place < length names) places → IsSeenListing r names nodes numbers → IsLawful wide
  wide_lawful lawful option_names within listing =
      let parts = parts_of r lawful in
      let are = are_numbers listing.hold in
      let same = roots_are are in
      let apart : AreApart places = apart_places names r.options (new_apart r.options lawful.names) within in
      let reduced : IsReducedList (length places) r.nodes = subst (λ n. IsReducedList n r.nodes) (sym (length-map r.options (place_of names))) lawful.numbered.reduced in
      let within_old = roots_within r.nodes 2 (roots_of r) (length r.nodes + 2) (omega arith) lawful.numbered.numbered in
      let within_new = roots_within nodes 2 numbers (length nodes + 2) (omega arith) listing.numbered.numbered in
      let roots : list_all is_root (roots_of wide) ≡ true =
      ap (list_all is_root) same ∙ roots_seen places r.nodes nodes reduced apart listing.short (roots_of r) numbers (report_roots r parts) within_old within_new listing.hold in
      let two = all_split is_root (map (λ (piece : Piece). piece.node) wide.pieces ++ map (λ (line : EndLine). line.node) wide.ends) (map (λ (line : AttemptLine). line.node) wide.attempts) roots in
      let one = all_split is_root (map (λ (piece : Piece). piece.node) wide.pieces) (map (λ (line : EndLine). line.node) wide.ends) two.0 in
      let front = front_line r names nodes numbers option_names parts.front in
      let few : length names < 65 = let most = option_names.few in omega (arith, most) in
      record {
        lines = all_lawful wide wide refl refl refl front.1 front.0 few listing.short listing.numbered.reduced
            (lines_renumbered piece_with Printed (λ piece. piece.node) piece_line r.pieces numbers parts.pieces one.0)
            (lines_renumbered end_with Ended (λ line. line.node) end_line r.ends behind_pieces parts.ends one.1)
            (lines_renumbered attempts_with Spent (λ line. line.node) attempts_line r.attempts behind_ends parts.attempts two.1);
        names = option_names.distinct;
        numbered = subst (λ ks. IsNumbered (length names) nodes ks) (sym same) listing.numbered;
        ended = ap (λ (n : ℕ). n == 0) (length_renumbered end_with r.ends behind_pieces) ∙ lawful.ended;
        ends = follows_renumbered end_with (λ o line. comes_after o line.end) (λ n m x y. refl) (λ m y. refl) r.ends behind_pieces lawful.ends;
        spent = lawful.spent ∙ ap (λ (n : ℕ). not (n == 0)) (sym (length_renumbered attempts_with r.attempts behind_ends));
        attempts = follows_renumbered attempts_with (λ o line. is_above o line.attempts && nat_le line.attempts r.limit) (λ n m x y. refl) (λ m y. refl) r.attempts behind_ends lawful.attempts;
      }

-- a report that was put together from a listing is over the other names
pub is_wide : (r : Report) (names : List (List ℕ)) (nodes : List Node) (numbers : List ℕ) (made : Report) → IsLawful r → AreOptionNames names → AllByRecursion (λ place. place < length names) (places_of names r.options) → IsSeenListing r names nodes numbers
    → made ≡ wide_report r names nodes numbers → IsWide r names made
is_wide r names nodes numbers made lawful option_names within listing same = subst (IsWide r names) (sym same) (record {
  lawful = wide_lawful r names nodes numbers lawful option_names within listing;
  options = refl;
  same = says r names nodes numbers (are_numbers r names nodes numbers listing.hold);
})
