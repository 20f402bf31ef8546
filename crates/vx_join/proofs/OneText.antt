-- The join of some reports has one text.
use Rattle.std.proofs.Common.{◌≡◌, ℕ, ◌+◌, ◌-◌, ◌<◌, ◌≤◌, ◌^◌, zero, suc, Bool, true, false, cond, List, [], ◌∷◌, ◌++◌, map, length, take, refl, sym, ◌∙◌, ap, subst, arith}
use Rattle.std.proofs.lemmas.Bool.{leb-true, ltb-true}
use Rattle.std.proofs.lemmas.Bool.Decides.{nat_tests}
use Rattle.std.specs.Cmp.{IsTotalOrder, nat_cmp_total}
use Rattle.std.specs.Cmp.Derive.{both_true}
use Rattle.std.specs.List.{AllByRecursion, AllZip, list_all, list_any}
use Rattle.std.specs.Ordering.{nat_cmp}
use Rattle.std.specs.Prelude.{◌&&◌, ◌||◌, nat_eq, nat_le, nat_lt, slice_get, Option, None, Some, option_and_then, option_map, if◌then◌else◌}
use Rattle.std.specs.declared.cmp.Ordering.{Ordering}
use Rattle.std.specs.declared.cmp.Ordering.TheVariants.{Less, Equal, Greater}
use Rattle.std.proofs.lemmas.Map.Lookups.{exact_unsigned}
use Rattle.vx_value.specs.Ends.{compare_ends}
use Rattle.vx_value.specs.declared.end.End.{End}
use Rattle.vx_end_order.proofs.EndOrder.{end_equal, end_total}
use Rattle.vx_space.proofs.Differences.{firsts, value_of-firsts}
use Rattle.vx_bdd_tools.proofs.NodeSets.{canonical, holds-options}
use Rattle.vx_bdd_tools.specs.declared.node.Node.{Node}
use Rattle.vx_bdd_tools.specs.Nodes.{IsReducedList, holds}
use Rattle.vx_count.specs.Settings.{settings}
use Rattle.vx_one_report.proofs.Alike.{all_split}
use Rattle.vx_one_report.proofs.OneReport.{reports_one}
use Rattle.vx_one_report.specs.Law.{IsSameEnd, IsSameNumber, IsSamePiece, SaySame}
use Rattle.vx_report.specs.declared.line.Line.TheVariants.{Ended, Spent}
use Rattle.vx_report.specs.declared.report.AttemptLine.{AttemptLine}
use Rattle.vx_report.specs.declared.report.EndLine.{EndLine}
use Rattle.vx_report.specs.declared.report.Piece.{Piece}
use Rattle.vx_report.specs.declared.report.Report.{Report}
use Rattle.vx_report.specs.Projection.{Projection, attempts_at, attempts_in, end_at, output_at, project}
use Rattle.vx_report.specs.Text.{report_text}
use Rattle.vx_report_line.proofs.Numbers.{both_true as parts_true}
use Rattle.vx_report_line.specs.Forms.{is_line, is_root}
use Rattle.vx_report_reader.proofs.Good.{lawful_good}
use Rattle.vx_report_reader.proofs.Read.{good_lawful}
use Rattle.vx_report_reader.specs.Lawful.{IsLawful}
use Rattle.vx_report_reader.specs.Rules.{comes_after, is_above, is_less, last_of, roots_of}
use Rattle.vx_join.specs.Joined.{IsEndSaid, IsJoined, IsNumberSaid, IsTold, Told, all_told, attempts_said, end_said, first_said}
use Rattle.vx_join.specs.Text.{IsJoinedText, IsOnlyJoined}
use Rattle.vx_join.proofs.Ascending.{AreOwn, HasMember, IsAlike, IsAscending, alike_lines, found_said}
use Rattle.vx_join.proofs.Reports.{said_with}
use Rattle.vx_one_report.proofs.LawfulLines.{attempts_root, end_root, parts_of, roots_within}
use Rattle.vx_join.proofs.Settings.{length_firsts, some_setting}
use Rattle.vx_join.proofs.Whole.{some_end}
use Rattle.vx_join.specs.Steps.{first_in}

-- ---- numbers that hold a configuration

any_member : (p : List Bool → Bool) (list : List (List Bool)) → list_any p list ≡ true → (c : List Bool) × (p c ≡ true)
any_member p [] e = absurd cc
any_member p (c ∷ list) e = by (p c) refl e (any_member p list)
  where
    by : (b : Bool) → p c ≡ b → (b || list_any p list) ≡ true → (list_any p list ≡ true → (d : List Bool) × (p d ≡ true)) → (d : List Bool) × (p d ≡ true)
    by true h d rest = (c, h)
    by false h d rest = rest d

-- a number above never holds one
root_member : {n : ℕ} {nodes : List Node} → IsReducedList n nodes → (k : ℕ) → 1 ≤ k → k < length nodes + 2 → HasMember nodes k
root_member {n} {nodes} reduced k some below = by (list_any (holds nodes k) (settings n)) refl
  where
    off : list_any (holds nodes k) (settings n) ≡ false → (c : List Bool) → holds nodes k (firsts n c) ≡ false
    off e c = at (holds nodes k (firsts n c)) refl
      where
        at : (b : Bool) → holds nodes k (firsts n c) ≡ b → b ≡ false
        at true h = let wrong : true ≡ false = sym (some_setting n (holds nodes k) (firsts n c) (length_firsts n c) h) ∙ e in cc
        at false h = refl

    by : (b : Bool) → list_any (holds nodes k) (settings n) ≡ b → HasMember nodes k
    by true e = let member = any_member (holds nodes k) (settings n) e in record { config = member.0; holds_it = member.1 }
    by false e =
        let never : k ≡ 0 = canonical reduced k 0 below (omega arith) (λ c. holds-options reduced k c (firsts n c) (λ i l. sym (value_of-firsts n c i l)) ∙ off e c) in
        absurd (omega (arith, some, never))

-- ---- lines that ascend

module _ {L V : Type 0} (cmp : V → V → Ordering) (node_of : L → ℕ) (value_of : L → V) (total : IsTotalOrder cmp) where
  below_all : (v w : V) (xs : List L) → cmp v w ≡ Less → AllByRecursion (λ x. cmp w (value_of x) ≡ Less) xs → AllByRecursion (λ x. cmp v (value_of x) ≡ Less) xs
  below_all v w [] e all = tt
  below_all v w (x ∷ xs) e all = (total.trans v w (value_of x) e all.0, below_all v w xs e all.1)

  ascends : (xs : List L) → ((k : ℕ) (x y : L) → slice_get xs k ≡ Some x → slice_get xs (suc k) ≡ Some y → cmp (value_of x) (value_of y) ≡ Less) → IsAscending cmp node_of value_of xs
  ascends [] f = tt
  ascends (x ∷ []) f = (tt, tt)
  ascends (x ∷ y ∷ xs) f =
      let rest = ascends (y ∷ xs) (λ k a b p q. f (suc k) a b p q) in
      let first = f 0 x y refl refl in
      ((first, below_all (value_of x) (value_of y) xs first rest.0), rest)

last_taken : {L : Type 0} (xs : List L) (k : ℕ) (x : L) → slice_get xs k ≡ Some x → last_of (take (suc k) xs) ≡ Some x
last_taken [] k x e = absurd cc
last_taken (y ∷ ys) zero x e = e
last_taken {L} (y ∷ ys) (suc k) x e = next (take (suc k) ys) (last_taken ys k x e)
  where
    next : (zs : List L) → last_of zs ≡ Some x → last_of (y ∷ zs) ≡ Some x
    next [] h = absurd cc
    next (z ∷ zs) h =
        let more : suc (suc (length zs)) - 1 ≡ suc (length zs) = omega arith in
        let same : suc (length zs) - 1 ≡ length zs = omega arith in
        ap (slice_get (y ∷ z ∷ zs)) more ∙ ap (slice_get (z ∷ zs)) (sym same) ∙ h

less_of : (o : Ordering) → is_less o ≡ true → o ≡ Less
less_of Less t = refl
less_of Equal t = absurd cc
less_of Greater t = absurd cc

ends_ascend : (r : Report) → IsLawful r → IsAscending compare_ends (λ (line : EndLine). line.node) (λ line. line.end) r.ends
ends_ascend r h = ascends compare_ends (λ (line : EndLine). line.node) (λ line. line.end) end_total r.ends (λ k x y p q.
    less_of (compare_ends x.end y.end) (ap (λ o. comes_after o y.end) (sym (last_taken r.ends k x p)) ∙ h.ends (suc k) y q))

less_above : (m n : ℕ) → nat_lt m n ≡ true → nat_cmp m n ≡ Less
less_above m n t = grind (arith, nat_tests)

numbers_ascend : (r : Report) → IsLawful r → IsAscending nat_cmp (λ (line : AttemptLine). line.node) (λ line. line.attempts) r.attempts
numbers_ascend r h = ascends nat_cmp (λ (line : AttemptLine). line.node) (λ line. line.attempts) nat_cmp_total r.attempts (λ k x y p q.
    let follows = parts_true (is_above (last_of (take (suc k) r.attempts)) y.attempts) (nat_le y.attempts r.limit) (h.attempts (suc k) y q) in
    less_above x.attempts y.attempts (ap (λ o. is_above o y.attempts) (sym (last_taken r.attempts k x p)) ∙ follows.0))

-- ---- lines of their own

own_lines : {L V : Type 0} {n : ℕ} (node_of : L → ℕ) (value_of : L → V) (cmp : V → V → Ordering) (nodes : List Node) (said : List Bool → Option V) → IsReducedList n nodes → (lines : List L)
    → list_all (λ l. is_root (node_of l)) lines ≡ true → list_all (λ root. nat_lt root (length nodes + 2)) (map node_of lines) ≡ true
    → AllByRecursion (λ (l : L). (c : List Bool) → holds nodes (node_of l) c ≡ true → said c ≡ Some (value_of l)) lines → AreOwn cmp node_of value_of nodes said lines
own_lines node_of value_of cmp nodes said reduced [] roots below all = tt
own_lines {L} node_of value_of cmp nodes said reduced (l ∷ lines) roots below all =
    let root = parts_true (is_root (node_of l)) (list_all (λ (x : L). is_root (node_of x)) lines) roots in
    let within = parts_true (nat_lt (node_of l) (length nodes + 2)) (list_all (λ root. nat_lt root (length nodes + 2)) (map node_of lines)) below in
    let some = leb-true 1 (node_of l) (parts_true (nat_le 1 (node_of l)) (nat_lt (node_of l) (2 ^ 64)) root.0).0 in
    ((root_member reduced (node_of l) some (ltb-true (node_of l) (length nodes + 2) within.0), all.0), own_lines node_of value_of cmp nodes said reduced lines root.1 within.1 all.1)

-- a fact of each line, by its form
each_line : {L : Type 0} (p q : L → Bool) → ((l : L) → p l ≡ true → q l ≡ true) → (lines : List L) → list_all p lines ≡ true → list_all q lines ≡ true
each_line p q law [] h = refl
each_line p q law (l ∷ lines) h = let parts = parts_true (p l) (list_all p lines) h in both_true (law l parts.0) (each_line p q law lines parts.1)

unmapped : {L M : Type 0} (f : L → M) (p : M → Bool) (xs : List L) → list_all p (map f xs) ≡ true → list_all (λ x. p (f x)) xs ≡ true
unmapped f p [] h = refl
unmapped f p (x ∷ xs) h = let parts = parts_true (p (f x)) (list_all p (map f xs)) h in both_true parts.0 (unmapped f p xs parts.1)

record AreBelow (r : Report) : Type 0 where
  ends : list_all (λ root. nat_lt root (length r.nodes + 2)) (map (λ line. line.node) r.ends) ≡ true
  attempts : list_all (λ root. nat_lt root (length r.nodes + 2)) (map (λ line. line.node) r.attempts) ≡ true

are_below : (r : Report) → IsLawful r → AreBelow r
are_below r h =
    let first = all_split (λ root. nat_lt root (length r.nodes + 2)) (map (λ (piece : Piece). piece.node) r.pieces ++ map (λ (line : EndLine). line.node) r.ends) (map (λ (line : AttemptLine). line.node) r.attempts) (roots_within r.nodes 2 (roots_of r) (length r.nodes + 2) (omega arith) h.numbered.numbered) in
    let second = all_split (λ root. nat_lt root (length r.nodes + 2)) (map (λ (piece : Piece). piece.node) r.pieces) (map (λ (line : EndLine). line.node) r.ends) first.0 in
    record { ends = second.1; attempts = first.1 }

own_ends : (reports : List Report) (r : Report) → IsLawful r → IsJoined reports r → AreOwn compare_ends (λ (line : EndLine). line.node) (λ line. line.end) r.nodes (end_said reports) r.ends
own_ends reports r h joined = own_lines (λ (line : EndLine). line.node) (λ line. line.end) compare_ends r.nodes (end_said reports) h.numbered.reduced r.ends
    (each_line (λ line. is_line (Ended line)) (λ line. is_root line.node) end_root r.ends (unmapped Ended is_line r.ends (parts_of r h).ends)) (are_below r h).ends joined.ends

own_numbers : (reports : List Report) (r : Report) → IsLawful r → IsJoined reports r → AreOwn nat_cmp (λ (line : AttemptLine). line.node) (λ line. line.attempts) r.nodes (attempts_said reports) r.attempts
own_numbers reports r h joined = own_lines (λ (line : AttemptLine). line.node) (λ line. line.attempts) nat_cmp r.nodes (attempts_said reports) h.numbered.reduced r.attempts
    (each_line (λ line. is_line (Spent line)) (λ line. is_root line.node) attempts_root r.attempts (unmapped Spent is_line r.attempts (parts_of r h).attempts)) (are_below r h).attempts joined.attempts

-- ---- what is said

end_is_said : (reports : List Report) (r : Report) → IsJoined reports r → (c : List Bool) → end_at r c ≡ end_said reports c
end_is_said reports r joined c = by (end_at r c) ∙ ap (option_map (λ (p : Projection). p.end)) (joined.says c)
  where
    by : (o : Option End) → o ≡ option_map (λ (p : Projection). p.end) (said_with r c o)
    by None = refl
    by (Some end) = refl

number_is_said : (reports : List Report) (r : Report) → IsLawful r → IsJoined reports r → (c : List Bool) → attempts_in r.nodes r.attempts c ≡ attempts_said reports c
number_is_said reports r h joined c = by (attempts_in r.nodes r.attempts c) refl
  where
    none : (b : Bool) (o : Option End) → attempts_in r.nodes r.attempts c ≡ None → option_and_then (λ (p : Projection). p.attempts) (option_map (λ end. record { output = output_at r c; end = end; attempts = (if b then attempts_in r.nodes r.attempts c else None) }) o) ≡ None
    none b None e = refl
    none true (Some end) e = e
    none false (Some end) e = refl

    by : (o : Option ℕ) → attempts_in r.nodes r.attempts c ≡ o → o ≡ attempts_said reports c
    by None e = sym (none (nat_eq r.version 2) (end_at r c) e) ∙ ap (option_and_then (λ (p : Projection). p.attempts)) (joined.says c)
    by (Some n) e = sym (found_said nat_cmp (λ (line : AttemptLine). line.node) (λ line. line.attempts) r.nodes (attempts_said reports) r.attempts c (own_numbers reports r h joined) n e)

-- ---- two joins

same_pieces : (one other : Report) (xs ys : List Piece) (told : List Told) → AllZip (IsTold one.nodes) xs told → AllZip (IsTold other.nodes) ys told → AllZip (IsSamePiece one other) xs ys
same_pieces one other [] [] told h k = tt
same_pieces one other [] (y ∷ ys) [] h k = absurd k
same_pieces one other [] (y ∷ ys) (t ∷ told) h k = absurd h
same_pieces one other (x ∷ xs) ys [] h k = absurd h
same_pieces one other (x ∷ xs) [] (t ∷ told) h k = absurd k
same_pieces one other (x ∷ xs) (y ∷ ys) (t ∷ told) h k = (
  record { stream = h.0.stream ∙ sym k.0.stream; text = h.0.text ∙ sym k.0.text; holds = λ c size. h.0.holds c ∙ sym (k.0.holds c) },
  same_pieces one other xs ys told h.1 k.1,
)

zip_weaker : {A : Type 0} {R Q : A → A → Type 0} (xs ys : List A) → ((x y : A) → R x y → Q x y) → AllZip R xs ys → AllZip Q xs ys
zip_weaker [] [] f h = tt
zip_weaker [] (y ∷ ys) f h = absurd h
zip_weaker (x ∷ xs) [] f h = absurd h
zip_weaker (x ∷ xs) (y ∷ ys) f h = (f x y h.0, zip_weaker xs ys f h.1)

-- two lawful reports that are the join of the same ones are one
pub one_join : (first : Report) (others : List Report) (one other : Report) → IsLawful one → IsLawful other → IsJoined (first ∷ others) one → IsJoined (first ∷ others) other → one ≡ other
one_join first others one other h k a b =
    let reports = first ∷ others in
    let options : one.options ≡ other.options = a.like.0.options ∙ sym b.like.0.options in
    let ends = alike_lines compare_ends (λ (line : EndLine). line.node) (λ line. line.end) end_total end_equal one.nodes other.nodes (end_said reports) one.ends other.ends (own_ends reports one h a) (own_ends reports other k b) (ends_ascend one h) (ends_ascend other k)
    (λ c. end_is_said reports one a c ∙ sym (end_is_said reports other b c)) in
    let numbers = alike_lines nat_cmp (λ (line : AttemptLine). line.node) (λ line. line.attempts) nat_cmp_total exact_unsigned one.nodes other.nodes (attempts_said reports) one.attempts other.attempts (own_numbers reports one h a) (own_numbers reports other k b) (numbers_ascend one h) (numbers_ascend other k)
    (λ c. number_is_said reports one h a c ∙ sym (number_is_said reports other k b c)) in
    reports_one one other h.numbered k.numbered (record {
      version = a.like.0.version ∙ sym b.like.0.version;
      options = options;
      limit = a.like.0.limit ∙ sym b.like.0.limit;
      rounds = a.rounds ∙ sym b.rounds;
      pieces = same_pieces one other one.pieces other.pieces (all_told (length one.options) reports) a.pieces (subst (λ (names : List (List ℕ)). AllZip (IsTold other.nodes) other.pieces (all_told (length names) reports)) (sym options) b.pieces);
      ends = zip_weaker one.ends other.ends (λ x y r. record { end = r.value; holds = λ c size. r.same c }) ends;
      attempts = zip_weaker one.attempts other.attempts (λ x y r. record { attempts = r.value; holds = λ c size. r.same c }) numbers;
    })

-- the text of a lawful report that is the join of some
pub is_joined_text : (reports : List Report) (r : Report) (text : List ℕ) → IsLawful r → IsJoined reports r → text ≡ report_text r → IsJoinedText reports text
is_joined_text reports r text lawful joined is = record { report = r; spells = record { text = is; good = lawful_good r lawful }; joined = joined }

-- so there is one text
pub only_joined : (first : Report) (others : List Report) (text : List ℕ) → IsJoinedText (first ∷ others) text → IsOnlyJoined (first ∷ others) text
only_joined first others text h = record {
  only = λ other k. k.spells.text ∙ ap report_text (one_join first others k.report h.report (good_lawful k.report k.spells.good) (good_lawful h.report h.spells.good) k.joined h.joined) ∙ sym h.spells.text;
}

-- two texts of the join of the same reports are one
pub one_joined_text : (reports : List Report) (one other : List ℕ) → IsJoinedText reports one → IsJoinedText reports other → one ≡ other
one_joined_text [] one other h k = absurd (some_end h.report (good_lawful h.report h.spells.good) (λ c. end_is_said [] h.report h.joined c))
one_joined_text (first ∷ others) one other h k = (only_joined first others other k).only one h
