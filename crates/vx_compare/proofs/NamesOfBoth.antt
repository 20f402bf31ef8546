-- The names of the options of two reports: the places of each one's, and that all of them are names of which none stands twice.
use Rattle.std.proofs.Common.{◌≡◌, ◌≢◌, ℕ, ◌+◌, ◌<◌, ◌≤◌, zero, suc, Bool, true, false, cond, not, ◌||◌, List, [], ◌∷◌, map, length, filter, slice_get, refl, sym, ◌∙◌, ap, arith}
use Rattle.std.specs.Prelude.{Some}
use Rattle.std.specs.List.{AllByRecursion, list_all, list_any}
use Rattle.std.specs.Str.{bytes_eq}
use Rattle.std.specs.Cmp.Derive.{both_true}
use Rattle.std.proofs.lemmas.Bool.Decides.{nat_tests}
use Rattle.std.proofs.lemmas.List.Folds.{list_all-append, list_any-append}
use Rattle.std.proofs.lemmas.Option.{same_Some}
use Rattle.vx_words.specs.Names.{AreOptionNames, is_name}
use Rattle.vx_report.specs.declared.report.Report.{Report}
use Rattle.vx_report.specs.declared.line.Line.TheVariants.{Count, Head, Limit, Named, Rounds}
use Rattle.vx_report.specs.Text.{front_lines}
use Rattle.vx_report_line.proofs.Numbers.{both_true as parts_true, same_bytes_refl, same_bytes_same}
use Rattle.vx_report_line.specs.Forms.{is_line}
use Rattle.vx_report_reader.specs.Lawful.{IsLawful}
use Rattle.vx_one_report.proofs.Alike.{all_split}
use Rattle.vx_one_report.proofs.LawfulLines.{parts_of}
use Rattle.vx_compare.specs.Names.{all_names, is_new, place_of, places_of}
use Rattle.vx_compare.proofs.Apart.{AreApart, all_from, apart_new, both_apart, kept_apart, new_apart}

-- ---- places

-- a name is among others
abbrev has : List (List ℕ) → List ℕ → Bool
has names name = list_any (λ other. bytes_eq other name) names

or_true : (a b : Bool) → b ≡ true → (a || b) ≡ true
or_true true b e = refl
or_true false b e = e

has_at : (names : List (List ℕ)) (place : ℕ) (name : List ℕ) → slice_get names place ≡ Some name → has names name ≡ true
has_at [] place name e = absurd cc
has_at (x ∷ xs) zero name e =
    let same : bytes_eq x name ≡ true = ap (λ y. bytes_eq y name) (same_Some x name e) ∙ same_bytes_refl name in
    ap (λ b. b || has xs name) same
has_at (x ∷ xs) (suc place) name e = or_true (bytes_eq x name) (has xs name) (has_at xs place name e)

place_within : (names : List (List ℕ)) (name : List ℕ) → has names name ≡ true → place_of names name < length names
place_within [] name h = absurd cc
place_within (x ∷ xs) name h = by (bytes_eq x name) h (place_within xs name)
  where
    by : (b : Bool) → (b || has xs name) ≡ true → (has xs name ≡ true → place_of xs name < length xs) → cond (not b) (1 + place_of xs name) 0 < length (x ∷ xs)
    by true h rest = omega arith
    by false h rest = let within = rest h in omega (arith, within)

place_last : (names : List (List ℕ)) (name : List ℕ) → has names name ≡ false → place_of names name ≡ length names
place_last [] name h = refl
place_last (x ∷ xs) name h = by (bytes_eq x name) h (place_last xs name)
  where
    by : (b : Bool) → (b || has xs name) ≡ false → (has xs name ≡ false → place_of xs name ≡ length xs) → cond (not b) (1 + place_of xs name) 0 ≡ length (x ∷ xs)
    by true h rest = cc
    by false h rest = let last = rest h in omega (arith, last)

found_at : (all : List (List ℕ)) (name : List ℕ) → place_of all name < length all → slice_get all (place_of all name) ≡ Some name
found_at [] name l = absurd (omega (arith, l))
found_at (x ∷ xs) name l = by (bytes_eq x name) refl l (found_at xs name)
  where
    by : (b : Bool) → bytes_eq x name ≡ b → cond (not b) (1 + place_of xs name) 0 < length (x ∷ xs) → (place_of xs name < length xs → slice_get xs (place_of xs name) ≡ Some name) → slice_get (x ∷ xs) (cond (not b) (1 + place_of xs name) 0) ≡ Some name
    by true e l rest = ap Some (same_bytes_same x name e)
    by false e l rest =
        let next : 1 + place_of xs name ≡ suc (place_of xs name) = omega arith in
        ap (slice_get (x ∷ xs)) next ∙ rest (omega (arith, l))

-- different names stand at different places
pub apart_places : (all options : List (List ℕ)) → AreApart options → AllByRecursion (λ place. place < length all) (places_of all options) → AreApart (places_of all options)
apart_places all [] h within = tt
apart_places all (x ∷ xs) h within = (others xs h.0 within.1, apart_places all xs h.1 within.1)
  where
    others : (ys : List (List ℕ)) → AllByRecursion (λ y. x ≢ y) ys → AllByRecursion (λ place. place < length all) (places_of all ys) → AllByRecursion (λ place. place_of all x ≢ place) (places_of all ys)
    others [] h k = tt
    others (y ∷ ys) h k = ((λ e. h.0 (same_Some x y (sym (found_at all x within.0) ∙ ap (slice_get all) e ∙ found_at all y k.0))), others ys h.1 k.1)

-- ---- the names of both

all_there : (all names : List (List ℕ)) → AllByRecursion (λ name. has all name ≡ true) names → AllByRecursion (λ place. place < length all) (places_of all names)
all_there all [] h = tt
all_there all (name ∷ names) h = (place_within all name h.0, all_there all names h.1)

pub one_there : (one other : List (List ℕ)) → AllByRecursion (λ place. place < length (all_names one other)) (places_of (all_names one other) one)
one_there one other = all_there (all_names one other) one (all_from (λ name. has (all_names one other) name ≡ true) one (λ place name e.
    list_any-append (λ x. bytes_eq x name) one (filter (is_new one) other) ∙ ap (λ b. b || has (filter (is_new one) other) name) (has_at one place name e)))

is_new_of : (one : List (List ℕ)) (name : List ℕ) → has one name ≡ false → is_new one name ≡ true
is_new_of one name h = let last = place_last one name h in grind (arith, nat_tests)

kept_there : (p : List ℕ → Bool) (names : List (List ℕ)) (place : ℕ) (name : List ℕ) → slice_get names place ≡ Some name → p name ≡ true → has (filter p names) name ≡ true
kept_there p [] place name e t = absurd cc
kept_there p (x ∷ xs) zero name e t = by (p x) (ap p (same_Some x name e) ∙ t)
  where
    same : bytes_eq x name ≡ true
    same = ap (λ y. bytes_eq y name) (same_Some x name e) ∙ same_bytes_refl name

    by : (b : Bool) → b ≡ true → has (cond b (x ∷ filter p xs) (filter p xs)) name ≡ true
    by true u = ap (λ b. b || has (filter p xs) name) same
    by false u = cc
kept_there p (x ∷ xs) (suc place) name e t = by (p x) (kept_there p xs place name e t)
  where
    by : (b : Bool) → has (filter p xs) name ≡ true → has (cond b (x ∷ filter p xs) (filter p xs)) name ≡ true
    by true u = or_true (bytes_eq x name) (has (filter p xs) name) u
    by false u = u

pub other_there : (one other : List (List ℕ)) → AllByRecursion (λ place. place < length (all_names one other)) (places_of (all_names one other) other)
other_there one other = all_there (all_names one other) other (all_from (λ name. has (all_names one other) name ≡ true) other (λ place name e.
    list_any-append (λ x. bytes_eq x name) one (filter (is_new one) other) ∙ by place name e (has one name) refl))
  where
    by : (place : ℕ) (name : List ℕ) → slice_get other place ≡ Some name → (b : Bool) → has one name ≡ b → (b || has (filter (is_new one) other) name) ≡ true
    by place name e true h = refl
    by place name e false h = kept_there (is_new one) other place name e (is_new_of one name h)

-- ---- that they are names

named : (names : List (List ℕ)) → list_all is_line (map Named names) ≡ true → list_all is_name names ≡ true
unfolding is_line
named [] h = refl
named (name ∷ names) h = let p = parts_true (is_name name) (list_all is_line (map Named names)) h in both_true p.0 (named names p.1)

front_named : (r : Report) → list_all is_line (front_lines r) ≡ true → list_all is_name r.options ≡ true
unfolding front_lines
front_named r h =
    let first = all_split is_line (Head r.version ∷ Count (length r.options) ∷ map Named r.options) (Limit r.limit ∷ Rounds r.rounds ∷ []) h in
    let head = parts_true (is_line (Head r.version)) (list_all is_line (Count (length r.options) ∷ map Named r.options)) first.0 in
    let count = parts_true (is_line (Count (length r.options))) (list_all is_line (map Named r.options)) head.1 in
    named r.options count.1

kept_all : {A : Type 0} (q p : A → Bool) (xs : List A) → list_all q xs ≡ true → list_all q (filter p xs) ≡ true
kept_all q p [] h = refl
kept_all {A} q p (x ∷ xs) h = let parts = parts_true (q x) (list_all q xs) h in by (p x) parts.0 (kept_all q p xs parts.1)
  where
    by : (b : Bool) → q x ≡ true → list_all q (filter p xs) ≡ true → list_all q (cond b (x ∷ filter p xs) (filter p xs)) ≡ true
    by true here rest = both_true here rest
    by false here rest = rest

kept_pass : {A : Type 0} (p : A → Bool) (xs : List A) → AllByRecursion (λ x. p x ≡ true) (filter p xs)
kept_pass p [] = tt
kept_pass {A} p (x ∷ xs) = by (p x) refl (kept_pass p xs)
  where
    by : (b : Bool) → p x ≡ b → AllByRecursion (λ y. p y ≡ true) (filter p xs) → AllByRecursion (λ y. p y ≡ true) (cond b (x ∷ filter p xs) (filter p xs))
    by true e rest = (e, rest)
    by false e rest = rest

-- a name of the one is none of those that the other alone has
not_new : (one : List (List ℕ)) (place : ℕ) (name : List ℕ) → slice_get one place ≡ Some name → is_new one name ≡ true → ⊥
not_new one place name e t =
    let within = place_within one name (has_at one place name e) in
    let same : place_of one name ≡ length one = grind (arith, nat_tests) in
    omega (arith, within, same)

others_differ : (one : List (List ℕ)) (place : ℕ) (name : List ℕ) → slice_get one place ≡ Some name → (ys : List (List ℕ)) → AllByRecursion (λ y. is_new one y ≡ true) ys → AllByRecursion (λ y. name ≢ y) ys
others_differ one place name e [] h = tt
others_differ one place name e (y ∷ ys) h = ((λ same. not_new one place name e (ap (is_new one) same ∙ h.0)), others_differ one place name e ys h.1)

-- the names of the options of two lawful reports, if they are few
pub are_option_names : (one other : Report) → IsLawful one → IsLawful other → length (all_names one.options other.options) ≤ 64 → AreOptionNames (all_names one.options other.options)
are_option_names one other lawful lawful_other few =
    let kept : List (List ℕ) = filter (is_new one.options) other.options in
    record {
      named = list_all-append is_name one.options kept ∙ both_true (front_named one (parts_of one lawful).front) (kept_all is_name (is_new one.options) other.options (front_named other (parts_of other lawful_other).front));
      distinct = apart_new (all_names one.options other.options) (both_apart one.options kept (new_apart one.options lawful.names) (kept_apart (is_new one.options) other.options (new_apart other.options lawful_other.names))
          (all_from (λ x. AllByRecursion (λ y. x ≢ y) kept) one.options (λ place name e. others_differ one.options place name e kept (kept_pass (is_new one.options) other.options))));
      few = few;
    }
