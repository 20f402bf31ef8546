-- Loops that go over a list from the front.
use Rattle.std.proofs.Common.{◌≡◌, ℕ, suc, ◌+◌, ◌<◌, List, [], ◌∷◌, ◌++◌, length, drop, get_or, Bool, true, false, Option, Some, refl, sym, ap, ◌∙◌, arith, add-one, drop-cons, append_assoc, length-drop, ◌≤◌}
use Rattle.std.specs.Prelude.{◌&&◌}
use Rattle.std.proofs.lemmas.List.{append-nil, nil_from_length}
use Rattle.vx_source.specs.declared.lines.SourceLine.{SourceLine}
use Rattle.vx_code_parts.specs.declared.labels.Labels.{Labels}
use Rattle.vx_code_parts.specs.declared.drafts.Draft.{Draft}
use Rattle.vx_code_parts.specs.Bodies.{after, labels_from}
use Rattle.vx_source.specs.declared.statement.Case.{Case}
use Rattle.vx_code_parts.specs.Instructions.{is_above, ascend}
use Rattle.vx_code_parts.specs.Drafts.{next_place, draft_bytes, code_bytes, reaches, all_reach}

-- the item of an index, and those behind it
pub front_is : {A : Type 0} (xs : List A) (i : ℕ) (x : A) → i < length xs → x ≡ get_or xs i x → drop i xs ≡ x ∷ drop (i + 1) xs
front_is xs i x lt e = drop-cons xs i x lt ∙ ap (λ y. y ∷ drop (suc i) xs) (sym e) ∙ ap (λ k. x ∷ drop k xs) (sym (add-one i))

-- ---- labels

pub labels_go_on : (l m : Labels) (xs : List SourceLine) (i : ℕ) (x : SourceLine) (total : Labels) → i < length xs → x ≡ get_or xs i x → x.ends_body ≡ false → m ≡ after l x.said
    → labels_from l (drop i xs) ≡ total → labels_from m (drop (i + 1) xs) ≡ total
unfolding labels_from
labels_go_on l m xs i x total lt is goes_on next so_far =
    let one : labels_from l (drop i xs) ≡ labels_from (after l x.said) (drop (i + 1) xs) = ap (labels_from l) (front_is xs i x lt is) ∙ rw goes_on refl in
    ap (λ k. labels_from k (drop (i + 1) xs)) next ∙ sym one ∙ so_far

pub labels_end : (l : Labels) (xs : List SourceLine) (i : ℕ) (x : SourceLine) (total : Labels) → i < length xs → x ≡ get_or xs i x → x.ends_body ≡ true
    → labels_from l (drop i xs) ≡ total → l ≡ total
unfolding labels_from
labels_end l xs i x total lt is ends so_far =
    let one : labels_from l (drop i xs) ≡ l = ap (labels_from l) (front_is xs i x lt is) ∙ rw ends refl in
    sym one ∙ so_far

pub labels_done : (l : Labels) (rest : List SourceLine) (total : Labels) → rest ≡ [] → labels_from l rest ≡ total → l ≡ total
unfolding labels_from
labels_done l rest total e so_far = sym (ap (labels_from l) e) ∙ so_far

-- ---- code

pub code_goes_on : (places : List ℕ) (at next : ℕ) (out written : List ℕ) (xs : List Draft) (i : ℕ) (x : Draft) (total : List ℕ) → i < length xs → x ≡ get_or xs i x → next ≡ next_place at x
    → written ≡ out ++ draft_bytes places at x → out ++ code_bytes places at (drop i xs) ≡ total → written ++ code_bytes places next (drop (i + 1) xs) ≡ total
unfolding code_bytes
code_goes_on places at next out written xs i x total lt is e w so_far =
    let one : code_bytes places at (drop i xs) ≡ draft_bytes places at x ++ code_bytes places (next_place at x) (drop (i + 1) xs) = ap (code_bytes places at) (front_is xs i x lt is) in
    rw (w, e) (append_assoc out (draft_bytes places at x) (code_bytes places (next_place at x) (drop (i + 1) xs)) ∙ sym (ap (λ b. out ++ b) one) ∙ so_far)

pub code_done : (places : List ℕ) (at : ℕ) (out : List ℕ) (rest : List Draft) (total : List ℕ) → rest ≡ [] → out ++ code_bytes places at rest ≡ total → out ≡ total
unfolding code_bytes
code_done places at out rest total e so_far = sym (append-nil out) ∙ sym (ap (λ ds. out ++ code_bytes places at ds) e) ∙ so_far

pub reach_goes_on : (places : List ℕ) (at next : ℕ) (xs : List Draft) (i : ℕ) (x : Draft) (near total : Bool) → i < length xs → x ≡ get_or xs i x → near ≡ reaches places at x → near ≡ true
    → next ≡ next_place at x → all_reach places at (drop i xs) ≡ total → all_reach places next (drop (i + 1) xs) ≡ total
unfolding all_reach
reach_goes_on places at next xs i x near total lt is e holds n so_far =
    let reached : reaches places at x ≡ true = sym e ∙ holds in
    let front = ap (all_reach places at) (front_is xs i x lt is) in
    let step : all_reach places at (x ∷ drop (i + 1) xs) ≡ all_reach places (next_place at x) (drop (i + 1) xs) = by_test (reaches places at x) reached in
    rw n (sym (front ∙ step) ∙ so_far)
  where
    by_test : (b : Bool) → b ≡ true → (b && all_reach places (next_place at x) (drop (i + 1) xs)) ≡ all_reach places (next_place at x) (drop (i + 1) xs)
    by_test b t = rw t refl

pub reach_ends : (places : List ℕ) (at : ℕ) (xs : List Draft) (i : ℕ) (x : Draft) (near total : Bool) → i < length xs → x ≡ get_or xs i x → near ≡ reaches places at x → near ≡ false
    → all_reach places at (drop i xs) ≡ total → false ≡ total
unfolding all_reach
reach_ends places at xs i x near total lt is e fails so_far =
    let missed : reaches places at x ≡ false = sym e ∙ fails in
    let front = ap (all_reach places at) (front_is xs i x lt is) in
    let step : all_reach places at (x ∷ drop (i + 1) xs) ≡ false = by_test (reaches places at x) missed in
    sym (front ∙ step) ∙ so_far
  where
    by_test : (b : Bool) → b ≡ false → (b && all_reach places (next_place at x) (drop (i + 1) xs)) ≡ false
    by_test b t = rw t refl

pub reach_done : (places : List ℕ) (at : ℕ) (rest : List Draft) (total : Bool) → rest ≡ [] → all_reach places at rest ≡ total → true ≡ total
unfolding all_reach
reach_done places at rest total e so_far = sym (ap (all_reach places at) e) ∙ so_far

pub none_left : {A : Type 0} (xs : List A) (i : ℕ) → length xs ≤ i → drop i xs ≡ []
none_left {A = A} xs i le = nil_from_length (drop i xs) (omega (arith, length-drop i xs))

pub ascend_goes_on : (least : Option Case) (xs : List Case) (i : ℕ) (x : Case) (above total : Bool) → i < length xs → x ≡ get_or xs i x → above ≡ is_above least x → above ≡ true
    → ascend least (drop i xs) ≡ total → ascend (Some x) (drop (i + 1) xs) ≡ total
unfolding ascend
ascend_goes_on least xs i x above total lt is e holds so_far =
    let higher : is_above least x ≡ true = sym e ∙ holds in
    let front = ap (ascend least) (front_is xs i x lt is) in
    let step : ascend least (x ∷ drop (i + 1) xs) ≡ ascend (Some x) (drop (i + 1) xs) = by_test (is_above least x) higher in
    sym (front ∙ step) ∙ so_far
  where
    by_test : (b : Bool) → b ≡ true → (b && ascend (Some x) (drop (i + 1) xs)) ≡ ascend (Some x) (drop (i + 1) xs)
    by_test b t = rw t refl

pub ascend_ends : (least : Option Case) (xs : List Case) (i : ℕ) (x : Case) (above total : Bool) → i < length xs → x ≡ get_or xs i x → above ≡ is_above least x → above ≡ false
    → ascend least (drop i xs) ≡ total → false ≡ total
unfolding ascend
ascend_ends least xs i x above total lt is e fails so_far =
    let lower : is_above least x ≡ false = sym e ∙ fails in
    let front = ap (ascend least) (front_is xs i x lt is) in
    let step : ascend least (x ∷ drop (i + 1) xs) ≡ false = by_test (is_above least x) lower in
    sym (front ∙ step) ∙ so_far
  where
    by_test : (b : Bool) → b ≡ false → (b && ascend (Some x) (drop (i + 1) xs)) ≡ false
    by_test b t = rw t refl

pub ascend_done : (least : Option Case) (rest : List Case) (total : Bool) → rest ≡ [] → ascend least rest ≡ total → true ≡ total
unfolding ascend
ascend_done least rest total e so_far = sym (ap (ascend least) e) ∙ so_far
