-- A table of labels finds what a search from the front finds.
use Rattle.std.proofs.Common.{◌≡◌, ℕ, zero, suc, ◌+◌, ◌≤◌, List, [], ◌∷◌, ◌++◌, length, take, Bool, true, false, cond, nat_lt, Option, Some, None, is_some, option_map, option_and_then, slice_get, refl, sym, ap, ◌∙◌, arith, lt-ltb, le-ltb, Vec, Global, if◌then◌else◌}
use Rattle.std.specs.List.{position_from}
use Rattle.std.specs.Map.{lookup}
use Rattle.std.specs.Option.{option_or}
use Rattle.std.specs.Str.{bytes_eq}
use Rattle.std.proofs.lemmas.Cmp.{nat_list_eq_equiv}
use Rattle.indexmap.specs.IndexMap.{IndexMap, insert_entry}
use Rattle.indexmap.proofs.CallerLemmas.{insert_entry-new}
use Rattle.vx_code_parts.specs.Bodies.{find_label}
use Rattle.vx_code_parts.specs.Firsts.{AreFirst, first_of, place_of}
use Rattle.vx_code_parts.specs.declared.label_table.Label.{Label}

-- ---- one more at the end

pub lookup-more : {K X : Type 0} (test : K → Bool) (entries : List (K × X)) (k : K) (x : X)
    → lookup test (entries ++ (k, x) ∷ []) ≡ option_or (lookup test entries) (cond (test k) (Some x) None)
lookup-more test [] k x = refl
lookup-more test (e ∷ es) k x = by_test (test e.0) (lookup-more test es k x)
  where
    by_test : (b : Bool) → lookup test (es ++ (k, x) ∷ []) ≡ option_or (lookup test es) (cond (test k) (Some x) None)
        → cond b (Some e.1) (lookup test (es ++ (k, x) ∷ [])) ≡ option_or (cond b (Some e.1) (lookup test es)) (cond (test k) (Some x) None)
    by_test true h = refl
    by_test false h = h

none_there : {X : Type 0} (o : Option X) → is_some o ≡ false → o ≡ None
none_there None h = refl
none_there (Some x) h = cc h

abbrev Places : Type 0 → Type 0
Places S = IndexMap (Vec ℕ Global) ℕ S

-- a key of a name that has no place
pub first_of-more : {S : Type 0} (firsts new : Places S) (key : Vec ℕ Global) (name : List ℕ) (place : ℕ) (there : Bool)
    → there ≡ is_some (first_of firsts name) → there ≡ false → key.items ≡ name
    → new.entries ≡ insert_entry (λ (k l : Vec ℕ Global). bytes_eq k.items l.items) firsts.entries key place
    → (n : List ℕ) → first_of new n ≡ option_or (first_of firsts n) (if bytes_eq name n then Some place else None)
first_of-more firsts new key name place there e f is entries n =
    let none : lookup (λ (k : Vec ℕ Global). bytes_eq key.items k.items) firsts.entries ≡ None =
    ap (λ bytes. lookup (λ (k : Vec ℕ Global). bytes_eq bytes k.items) firsts.entries) is ∙ none_there (first_of firsts name) (sym e ∙ f) in
    ap (lookup (λ (k : Vec ℕ Global). bytes_eq n k.items)) (entries ∙ insert_entry-new (λ (k l : Vec ℕ Global). bytes_eq k.items l.items) firsts key place none)
    ∙ lookup-more (λ (k : Vec ℕ Global). bytes_eq n k.items) firsts.entries key place
    ∙ ap (λ b. option_or (first_of firsts n) (if b then Some place else None)) (ap (bytes_eq n) is ∙ nat_list_eq_equiv.symm n name)

pub position-more : {A : Type 0} (test : A → Bool) (i : ℕ) (xs : List A) (x : A)
    → position_from test i (xs ++ x ∷ []) ≡ option_or (position_from test i xs) (cond (test x) (Some (i + length xs)) None)
position-more test i [] x = ap (λ n. cond (test x) (Some n) None) (omega arith)
position-more test i (y ∷ ys) x = by_test (test y) (position-more test (i + 1) ys x ∙ ap (λ n. option_or (position_from test (i + 1) ys) (cond (test x) (Some n) None)) (omega arith))
  where
    by_test : (b : Bool) → position_from test (i + 1) (ys ++ x ∷ []) ≡ option_or (position_from test (i + 1) ys) (cond (test x) (Some (i + length (y ∷ ys))) None)
        → cond b (Some i) (position_from test (i + 1) (ys ++ x ∷ [])) ≡ option_or (cond b (Some i) (position_from test (i + 1) ys)) (cond (test x) (Some (i + length (y ∷ ys))) None)
    by_test true h = refl
    by_test false h = h

-- a label more, whose name has a place then
pub AreFirst-more : {S : Type 0} (labels more : List Label) (firsts new : Places S) (own : Label) (name : List ℕ) (place : ℕ) → AreFirst labels firsts
    → more ≡ labels ++ own ∷ [] → name ≡ own.name → place ≡ length labels
    → ((n : List ℕ) → first_of new n ≡ option_or (first_of firsts n) (if bytes_eq name n then Some place else None)) → AreFirst more new
AreFirst-more labels more firsts new own name place t e named at h = record { places = places }
  where
    behind : place ≡ 0 + length labels
    behind = omega (arith, at)

    places : (n : List ℕ) → first_of new n ≡ place_of more n
    places n =
        h n
        ∙ (λ i. option_or (t.places n i) (if bytes_eq (named i) n then Some (behind i) else None))
        ∙ sym (position-more (λ (l : Label). bytes_eq l.name n) 0 labels own)
        ∙ ap (λ ls. place_of ls n) (sym e)

-- ---- what stands at the first place

position-later : {A : Type 0} (test : A → Bool) (i : ℕ) (xs : List A) → position_from test (i + 1) xs ≡ option_map suc (position_from test i xs)
position-later test i [] = refl
position-later test i (x ∷ xs) = by_test (test x) (position-later test (i + 1) xs)
  where
    by_test : (b : Bool) → position_from test (i + 1 + 1) xs ≡ option_map suc (position_from test (i + 1) xs)
        → cond b (Some (i + 1)) (position_from test (i + 1 + 1) xs) ≡ option_map suc (cond b (Some i) (position_from test (i + 1) xs))
    by_test true h = ap Some (omega arith)
    by_test false h = h

-- the number behind the label at a place
abbrev pub number_there : List Label → Option ℕ → Option ℕ
number_there labels place = option_map (λ (l : Label). l.at) (option_and_then (slice_get labels) place)

pub found-there : (labels : List Label) (name : List ℕ) → number_there labels (place_of labels name) ≡ find_label labels name
unfolding find_label
found-there [] name = refl
found-there (l ∷ ls) name =
    by_test (bytes_eq l.name name) (position_from (λ (x : Label). bytes_eq x.name name) 0 ls) (position-later (λ (x : Label). bytes_eq x.name name) 0 ls) (found-there ls name)
  where
    later : (place : Option ℕ) → number_there (l ∷ ls) (option_map suc place) ≡ number_there ls place
    later None = refl
    later (Some n) = refl

    by_test : (b : Bool) (place : Option ℕ) → position_from (λ (x : Label). bytes_eq x.name name) 1 ls ≡ option_map suc place → number_there ls place ≡ find_label ls name
        → number_there (l ∷ ls) (cond b (Some 0) (position_from (λ (x : Label). bytes_eq x.name name) 1 ls)) ≡ cond b (Some l.at) (find_label ls name)
    by_test true place e h = refl
    by_test false place e h = ap (number_there (l ∷ ls)) e ∙ later place ∙ h

-- ---- the first labels, so many

-- a place is below a number
abbrev pub is_before : Option ℕ → ℕ → Bool
is_before None count = false
is_before (Some place) count = nat_lt place count

later_is_behind : {A : Type 0} (test : A → Bool) (i k : ℕ) (xs : List A) → k ≤ i → is_before (position_from test i xs) k ≡ false
later_is_behind test i k [] le = refl
later_is_behind test i k (x ∷ xs) le = by_test (test x) (later_is_behind test (i + 1) k xs (omega (arith, le)))
  where
    by_test : (b : Bool) → is_before (position_from test (i + 1) xs) k ≡ false → is_before (cond b (Some i) (position_from test (i + 1) xs)) k ≡ false
    by_test true h = le-ltb i k le
    by_test false h = h

among_from : (i k : ℕ) (labels : List Label) (name : List ℕ) → is_before (position_from (λ (l : Label). bytes_eq l.name name) i labels) (i + k) ≡ is_some (find_label (take k labels) name)
unfolding find_label
among_from i zero labels name = later_is_behind (λ (l : Label). bytes_eq l.name name) i (i + zero) labels (omega arith)
among_from i (suc k) [] name = refl
among_from i (suc k) (l ∷ ls) name =
    by_test (bytes_eq l.name name) (ap (is_before (position_from (λ (x : Label). bytes_eq x.name name) (i + 1) ls)) (omega arith) ∙ among_from (i + 1) k ls name)
  where
    by_test : (b : Bool) → is_before (position_from (λ (x : Label). bytes_eq x.name name) (i + 1) ls) (i + suc k) ≡ is_some (find_label (take k ls) name)
        → is_before (cond b (Some i) (position_from (λ (x : Label). bytes_eq x.name name) (i + 1) ls)) (i + suc k) ≡ is_some (cond b (Some l.at) (find_label (take k ls) name))
    by_test true h = lt-ltb i (i + suc k) (omega arith)
    by_test false h = h

pub among-there : (count : ℕ) (labels : List Label) (name : List ℕ) → is_before (place_of labels name) count ≡ is_some (find_label (take count labels) name)
among-there count labels name = ap (is_before (place_of labels name)) (omega arith) ∙ among_from 0 count labels name

-- ---- what a table answers

pub none_found : {S : Type 0} (labels : List Label) (firsts : Places S) (name : List ℕ) → AreFirst labels firsts → None ≡ first_of firsts name → None ≡ find_label labels name
none_found labels firsts name t e = ap (number_there labels) (e ∙ t.places name) ∙ found-there labels name

pub some_found : {S : Type 0} (labels : List Label) (firsts : Places S) (name : List ℕ) (place : ℕ) → AreFirst labels firsts → Some place ≡ first_of firsts name
    → option_map (λ (l : Label). l.at) (slice_get labels place) ≡ find_label labels name
some_found labels firsts name place t e = ap (number_there labels) (e ∙ t.places name) ∙ found-there labels name

pub none_among : {S : Type 0} (labels : List Label) (firsts : Places S) (name : List ℕ) (count : ℕ) → AreFirst labels firsts → None ≡ first_of firsts name
    → false ≡ is_some (find_label (take count labels) name)
none_among labels firsts name count t e = ap (λ p. is_before p count) (e ∙ t.places name) ∙ among-there count labels name

pub some_among : {S : Type 0} (labels : List Label) (firsts : Places S) (name : List ℕ) (count place : ℕ) → AreFirst labels firsts → Some place ≡ first_of firsts name
    → nat_lt place count ≡ is_some (find_label (take count labels) name)
some_among labels firsts name count place t e = ap (λ p. is_before p count) (e ∙ t.places name) ∙ among-there count labels name
