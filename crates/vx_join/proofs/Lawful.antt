-- The report of what was collected is lawful.
use Rattle.std.proofs.Common.{◌≡◌, ◌≢◌, ℕ, ◌+◌, ◌-◌, ◌<◌, ◌≤◌, ◌^◌, zero, suc, Bool, true, false, List, [], ◌∷◌, map, length, drop, take, refl, sym, ◌∙◌, ap, subst, arith}
use Rattle.std.proofs.lemmas.Bool.{le-leb, leb-true, lt-ltb}
use Rattle.std.proofs.lemmas.Option.{same_Some}
use Rattle.std.specs.Cmp.Derive.{both_true}
use Rattle.std.specs.List.{AllByRecursion, list_all}
use Rattle.std.specs.Prelude.{◌&&◌, nat_eq, nat_le, nat_lt, not, slice_get, Option, None, Some}
use Rattle.std.specs.declared.cmp.Ordering.{Ordering}
use Rattle.std.specs.declared.cmp.Ordering.TheVariants.{Less}
use Rattle.vx_list.specs.Places.{item_or}
use Rattle.vx_space.specs.Sets.{Sets, IsLawful as IsLawfulSpace}
use Rattle.vx_cond.specs.Leaves.{AreLeaves, IsBelow}
use Rattle.vx_bdd_tools.proofs.OneNumbering.{Numbers-within}
use Rattle.vx_bdd_tools.specs.declared.node.Node.{Node}
use Rattle.vx_bdd_tools.specs.Nodes.{holds}
use Rattle.vx_bdd_tools.specs.Numbering.{HoldAll, IsNumbered, NumbersAll}
use Rattle.vx_findings.specs.declared.shared.Shared.{Shared}
use Rattle.vx_findings.specs.Shared.{leaves_of}
use Rattle.vx_one_report.proofs.Alike.{all_split}
use Rattle.vx_report.specs.Text.{front_lines}
use Rattle.vx_report.specs.declared.line.Line.{Line}
use Rattle.vx_report.specs.declared.line.Line.TheVariants.{Count, Head, Limit, Named, Rounds}
use Rattle.vx_report.specs.declared.report.Report.{Report}
use Rattle.vx_report_line.proofs.Numbers.{both_true as parts_true}
use Rattle.vx_report_line.specs.Forms.{is_line, is_root}
use Rattle.vx_report_reader.specs.Lawful.{EachFollows}
use Rattle.vx_report_reader.specs.Rules.{last_of, roots_of}
use Rattle.vx_join.specs.Steps.{lines_with}
use Rattle.vx_join.proofs.Settings.{member_of}
use Rattle.std.proofs.lemmas.Bool.Decides.{nat_tests}

-- ---- order

-- each item comes after each of those before it
abbrev IsRising : {A : Type 0} → (Option A → A → Bool) → List A → Type 0
IsRising after [] = Unit {0}
IsRising after (x ∷ xs) = AllByRecursion (λ y. after (Some x) y ≡ true) xs × IsRising after xs

all_at : {A : Type 0} (P : A → Type 0) (xs : List A) (place : ℕ) (x : A) → AllByRecursion P xs → slice_get xs place ≡ Some x → P x
all_at P [] place x all e = absurd cc
all_at P (y ∷ xs) zero x all e = subst P (same_Some y x e) all.0
all_at P (y ∷ xs) (suc place) x all e = all_at P xs place x all.1 e

last_behind : {A : Type 0} (y z : A) (zs : List A) → last_of (y ∷ z ∷ zs) ≡ last_of (z ∷ zs)
last_behind y z zs =
    let longer : length (y ∷ z ∷ zs) - 1 ≡ suc (length zs) = omega arith in
    let shorter : length (z ∷ zs) - 1 ≡ length zs = omega arith in
    ap (slice_get (y ∷ z ∷ zs)) longer ∙ sym (ap (slice_get (z ∷ zs)) shorter)

rises : {A : Type 0} (after : Option A → A → Bool) → ((x : A) → after None x ≡ true) → (xs : List A) → IsRising after xs → EachFollows (λ before x. after (last_of before) x ≡ true) xs
rises after none [] rising place x e = absurd cc
rises after none (y ∷ ys) rising zero x e = none x
rises {A} after none (y ∷ ys) rising (suc place) x e = by_before (take place ys) (rises after none ys rising.1 place x e)
  where
    by_before : (before : List A) → after (last_of before) x ≡ true → after (last_of (y ∷ before)) x ≡ true
    by_before [] earlier = all_at (λ x. after (Some y) x ≡ true) ys place x rising.0 e
    by_before (z ∷ zs) earlier = subst (λ (o : Option A). after o x ≡ true) (sym (last_behind y z zs)) earlier

-- a rule that holds beside another one of each item
pub follows_too : {A : Type 0} (first : List A → A → Bool) (other : A → Bool) (xs : List A) → EachFollows (λ before x. first before x ≡ true) xs → list_all other xs ≡ true → EachFollows (λ before x. (first before x && other x) ≡ true) xs
follows_too {A} first other xs follows all = λ place x e. both_true (follows place x e) (other_at xs place x all e)
  where
    other_at : (xs : List A) (place : ℕ) (x : A) → list_all other xs ≡ true → slice_get xs place ≡ Some x → other x ≡ true
    other_at [] place x all e = absurd cc
    other_at (y ∷ xs) zero x all e = subst (λ (z : A). other z ≡ true) (same_Some y x e) (parts_true (other y) (list_all other xs) all).0
    other_at (y ∷ xs) (suc place) x all e = other_at xs place x (parts_true (other y) (list_all other xs) all).1 e

module _ {V L S I : Type 0} (order : V → V → Ordering) (line : ℕ → V → L) (after : Option L → L → Bool) (sets : Sets I) (law : (v w : V) (n m : ℕ) → order v w ≡ Less → after (Some (line n v)) (line m w) ≡ true) where
  below_lines : (v : V) (n : ℕ) (list : List (Shared V S I)) (numbers : List ℕ) → IsBelow order v (leaves_of list) → AllByRecursion (λ l. after (Some (line n v)) l ≡ true) (lines_with line list numbers)
  below_lines v n [] numbers below = tt
  below_lines v n (x ∷ list) numbers below = (law v x.value n (item_or numbers 0 0) below.0, below_lines v n list (drop 1 numbers) below.1)

  rising_lines : (list : List (Shared V S I)) (numbers : List ℕ) → AreLeaves order sets (leaves_of list) → IsRising after (lines_with line list numbers)
  rising_lines [] numbers leaves = tt
  rising_lines (x ∷ list) numbers leaves = (below_lines x.value (item_or numbers 0 0) list (drop 1 numbers) leaves.0.below, rising_lines list (drop 1 numbers) leaves.1)

  -- the lines of ascending values ascend
  pub lines_rise : ((l : L) → after None l ≡ true) → (list : List (Shared V S I)) (numbers : List ℕ) → AreLeaves order sets (leaves_of list) → EachFollows (λ before l. after (last_of before) l ≡ true) (lines_with line list numbers)
  lines_rise none list numbers leaves = rises after none (lines_with line list numbers) (rising_lines list numbers leaves)

-- ---- numbers

roots_below : (nodes : List Node) (n : ℕ) (roots : List ℕ) (m : ℕ) → n ≤ length nodes + 2 → length nodes < 2 ^ 63 → NumbersAll nodes n roots m → list_all (λ root. nat_lt root (2 ^ 64)) roots ≡ true
roots_below nodes n [] m few short all = refl
roots_below nodes n (root ∷ roots) m few short (NumbersAll.first _ _ between _ _ walk later) =
    let within = Numbers-within nodes n root between few walk in
    both_true (lt-ltb root (2 ^ 64) (omega (arith, within.0, within.2, short))) (roots_below nodes between roots m within.2 short later)

-- a number that holds a configuration isn't never
some_root : (nodes : List Node) (root : ℕ) (c : List Bool) → holds nodes root c ≡ true → nat_le 1 root ≡ true
some_root nodes zero c t = cc
some_root nodes (suc n) c t = le-leb 1 (suc n) (omega arith)

-- an id is known, and not never
pub record IsSome {I : Type 0} (sets : Sets I) (id : I) : Type 0 where
  pub known : sets.is_known id ≡ true
  pub some : id ≢ sets.never

both_roots : {I : Type 0} {sets : Sets I} → IsLawfulSpace sets → (nodes : List Node) (ids : List I) (roots : List ℕ) → HoldAll nodes roots (map sets.test ids) → AllByRecursion (IsSome sets) ids → list_all (λ root. nat_lt root (2 ^ 64)) roots ≡ true → list_all is_root roots ≡ true
both_roots lawful nodes [] [] hold some below = refl
both_roots lawful nodes [] (root ∷ roots) hold some below = absurd hold
both_roots lawful nodes (id ∷ ids) [] hold some below = absurd hold
both_roots {I} {sets} lawful nodes (id ∷ ids) (root ∷ roots) hold some below =
    let member = member_of lawful id some.0.known some.0.some in
    let p = parts_true (nat_lt root (2 ^ 64)) (list_all (λ r. nat_lt r (2 ^ 64)) roots) below in
    both_true (both_true (some_root nodes root member.config (hold.0 member.config ∙ member.holds)) p.0) (both_roots lawful nodes ids roots hold.1 some.1 p.1)

-- the roots of sets that some configuration has are lawful
pub roots_lawful : {I : Type 0} {sets : Sets I} → IsLawfulSpace sets → (options : ℕ) (nodes : List Node) (ids : List I) (roots : List ℕ) → length nodes < 2 ^ 63 → HoldAll nodes roots (map sets.test ids) → AllByRecursion (IsSome sets) ids → IsNumbered options nodes roots → list_all is_root roots ≡ true
roots_lawful lawful options nodes ids roots short hold some numbered = both_roots lawful nodes ids roots hold some (roots_below nodes 2 roots (length nodes + 2) (omega arith) short numbered.numbered)

-- ---- lines

-- lines of items that pass a test, and whose nodes are lawful
pub lines_lawful : {A : Type 0} (line : A → Line) (node : A → ℕ) (passes : A → Bool) → ((x : A) → passes x ≡ true → is_root (node x) ≡ true → is_line (line x) ≡ true)
    → (xs : List A) → list_all passes xs ≡ true → list_all is_root (map node xs) ≡ true → list_all is_line (map line xs) ≡ true
lines_lawful line node passes law [] p r = refl
lines_lawful line node passes law (x ∷ xs) p r =
    let here = parts_true (passes x) (list_all passes xs) p in
    let root = parts_true (is_root (node x)) (list_all is_root (map node xs)) r in
    both_true (law x here.0 root.0) (lines_lawful line node passes law xs here.1 root.1)

-- the limit of a report, by its front
limit_line : (like : Report) → list_all is_line (front_lines like) ≡ true → is_line (Limit like.limit) ≡ true
unfolding front_lines
limit_line like h =
    let p = all_split is_line (Head like.version ∷ Count (length like.options) ∷ map Named like.options) (Limit like.limit ∷ Rounds like.rounds ∷ []) h in
    (parts_true (is_line (Limit like.limit)) (list_all is_line (Rounds like.rounds ∷ [])) p.1).0

limit_of : (n : ℕ) → is_line (Limit n) ≡ true → n ≤ 1000000000
unfolding is_line
limit_of n h = leb-true n 1000000000 (parts_true (nat_le 1 n) (nat_le n 1000000000) h).1

pub limit_most : (like : Report) → list_all is_line (front_lines like) ≡ true → like.limit ≤ 1000000000
limit_most like h = limit_of like.limit (limit_line like h)
