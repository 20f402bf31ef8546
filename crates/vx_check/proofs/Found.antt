-- What is found, one step after the other.
use Rattle.std.proofs.Common.{BTreeMap, ◌≡◌, ℕ, ◌+◌, ◌<◌, ◌≤◌, suc, Bool, true, false, List, [], ◌∷◌, ◌++◌, length, map, take, drop, get_or, refl, sym, ap, subst, ◌∙◌, arith, append_assoc, append-nil}
use Rattle.std.specs.Prelude.{◌&&◌, ◌||◌, not, filter, MatchOption, Option, Some, None, option_to_list, slice_get, if◌then◌else◌}
use Rattle.std.specs.List.{flat_map, list_any}
use Rattle.std.specs.declared.cmp.Ordering.{Ordering}
use Rattle.std.specs.BTreeMap.{IsEmpty, get, is_at}
use Rattle.std.specs.Map.{lookup}
use Rattle.std.proofs.lemmas.Grind.{flat_map-append}
use Rattle.std.proofs.lemmas.List.{drop_more}
use Rattle.std.proofs.lemmas.List.Folds.{list_any-append}
use Rattle.vx_words.specs.Lines.{words}
use Rattle.vx_space.specs.Sets.{Sets, Extends, IsKnown, IsLawful, IsSet}
use Rattle.vx_space.proofs.Spaces.{Extends-refl, Extends-trans, IsSet-extends}
use Rattle.vx_model.specs.Models.{is_allowed}
use Rattle.vx_report.specs.declared.report.Report.{Report}
use Rattle.vx_cover.specs.Covers.{has_end}
use Rattle.vx_count.specs.Listed.{first_settings}
use Rattle.vx_count.specs.Memo.{AreNumbers}
use Rattle.vx_count.specs.Settings.{number, settings}
use Rattle.vx_count.proofs.Halves.{AreNumbers-extends}
use Rattle.vx_explain.specs.declared.rule.Rule.{Rule}
use Rattle.vx_explain.specs.Scopes.{rule_within}
use Rattle.vx_check.specs.Ends.{begin, fits, passes}
use Rattle.vx_check.specs.Expected.{AreOf, IsOf}
use Rattle.vx_check.specs.Failing.{speaks, spoken}
use Rattle.vx_check.specs.Finding.{AreFound, FindsAt, FindsIn, FindsMissed, HasFound, IsCounted, IsScope, IsSound, in_some}
use Rattle.vx_check.specs.Lines.{AreEnded, AreKnownEnds, IsEnded, is_good_here, told_here}
use Rattle.vx_check.specs.Text.{IsChecked}
use Rattle.vx_check.specs.Ways.{Ending, IsSortedOf, Way, endings, is_good, number_of, told_all, told_of, way_by, ways_by, ways_missed, ways_of}
use Rattle.vx_check.specs.declared.ended.Ended.{Ended}
use Rattle.vx_check.specs.declared.expected.Expectation.{Expectation}
use Rattle.vx_check.specs.declared.finding.Finding.{Finding}
use Rattle.vx_check.specs.declared.told.Checked.{Checked}
use Rattle.vx_check.specs.declared.told.Told.{Told}
use Rattle.vx_check.proofs.Fails.{in_some_fails}

-- ---- facts that stay

pub IsScope-extends : {I : Type 0} {s s' : Sets I} → Extends s s' → (r : Report) (scope : I) → IsScope s r scope → IsScope s' r scope
IsScope-extends x r scope h = record { options = h.options ∙ sym x.options; set = IsSet-extends x scope (has_end r) h.set }

pub IsEnded-extends : {I : Type 0} {s s' : Sets I} → Extends s s' → (ending : Ending) (e : Ended I) → IsEnded s ending e → IsEnded s' ending e
IsEnded-extends x ending e h = record { place = h.place; words = h.words; rank = h.rank; passes = h.passes; set = IsSet-extends x e.set ending.has h.set }

pub AreEnded-extends : {I : Type 0} {s s' : Sets I} → Extends s s' → (endings : List Ending) (es : List (Ended I)) → AreEnded s endings es → AreEnded s' endings es
AreEnded-extends x [] [] h = tt
AreEnded-extends x (ending ∷ endings) (e ∷ es) h = (IsEnded-extends x ending e h.0, AreEnded-extends x endings es h.1)
AreEnded-extends x [] (e ∷ es) h = absurd h
AreEnded-extends x (ending ∷ endings) [] h = absurd h

pub AreKnownEnds-extends : {I : Type 0} {s s' : Sets I} → Extends s s' → (es : List (Ended I)) → AreKnownEnds s es → AreKnownEnds s' es
AreKnownEnds-extends x [] h = tt
AreKnownEnds-extends x (e ∷ es) h = (x.known e.set h.0, AreKnownEnds-extends x es h.1)

pub AreKnownEnds-of : {I : Type 0} (s : Sets I) (xs : List Ending) (es : List (Ended I)) → AreEnded s xs es → AreKnownEnds s es
AreKnownEnds-of s [] [] h = tt
AreKnownEnds-of s (x ∷ xs) (e ∷ es) h = (h.0.set.known, AreKnownEnds-of s xs es h.1)
AreKnownEnds-of s [] (e ∷ es) h = absurd h
AreKnownEnds-of s (x ∷ xs) [] h = absurd h

AreFound-extends : {I : Type 0} {s s' : Sets I} → Extends s s' → (r : Report) (ways : List Way) (f : Finding I) → AreFound s r ways f → AreFound s' r ways f
AreFound-extends x r ways f h = record { told = h.told; failing = IsSet-extends x f.failing (in_some ways) h.failing }

-- ---- one way

good_same : {I : Type 0} {s : Sets I} (ending : Ending) (e : Ended I) (line : Option Expectation) → IsEnded s ending e → is_good_here e line ≡ is_good line ending.end
good_same ending e None h = h.passes
good_same ending e (Some line) h = ap (λ text. begin line.end (words text)) h.words

told_same : {I : Type 0} {s : Sets I} (r : Report) (scope way : I) (ending : Ending) (e : Ended I) (line : Option ℕ) (has : List Bool → Bool) → IsScope s r scope → IsEnded s ending e → IsSet s way has → told_here s scope e line way ≡ told_of r (record { ending = ending; line = line; has = has })
told_same {I} {s} r scope way ending e line has sc h w =
    let o : s.options ≡ length r.options = sym sc.options in
    λ i. map (λ c. record {
      rank = h.rank i;
      place = h.place i;
      end = h.words i;
      line = line;
      number = number (o i) (λ d. w.test d i);
      example = c;
      rule = rule_within (o i) (λ d. w.test d i) (λ d. sc.set.test d i);
    }) (first_settings 1 (o i) (λ d. w.test d i))

-- a good end has no way
pub found_none : {I : Type 0} {s : Sets I} (scope : I) (ended : Ended I) (line : Option Expectation) (set : I) (f : Finding I) → is_good_here ended line ≡ true → FindsAt s s scope ended line set f f
found_none {I} {s} scope ended line set f good r ending has ways sc h hs found =
    let g : is_good line ending.end ≡ true = sym (good_same ending ended line h) ∙ good in
    let none : ways ++ way_by line has ending ≡ ways = ap (λ t. ways ++ (if t then [] else record { ending = ending; line = number_of line; has = λ c. ending.has c && has c } ∷ [])) g ∙ append-nil ways in
    subst (λ ws. AreFound s r ws f) (sym none) found

or_false : (a : Bool) → (a || false) ≡ a
or_false true = refl
or_false false = refl

-- another end has one
pub found_one : {I : Type 0} {s0 s1 s2 s3 : Sets I} (scope : I) (ended : Ended I) (line : Option Expectation) (set way joined : I) (f f' : Finding I) → Extends s0 s1 → Extends s1 s2 → Extends s2 s3 → IsKnown s0 f.failing → is_good_here ended line ≡ false
    → IsSet s1 way (λ c. s0.test ended.set c && s0.test set c) → IsSet s2 joined (λ c. s1.test f.failing c || s1.test way c) → f'.failing ≡ joined → f'.told.items ≡ f.told.items ++ told_here s2 scope ended (number_of line) way → FindsAt s0 s3 scope ended line set f f'
found_one {I} {s0} {s1} {s2} {s3} scope ended line set way joined f f' x y z known bad hw hj same told r ending has ways sc h hs found =
    let w : Way = record { ending = ending; line = number_of line; has = λ c. ending.has c && has c } in
    let b : is_good line ending.end ≡ false = sym (good_same ending ended line h) ∙ bad in
    let more : ways ++ way_by line has ending ≡ ways ++ w ∷ [] = ap (λ t. ways ++ (if t then [] else w ∷ [])) b in
    let way_is : IsSet s1 way w.has = record { known = hw.known; test = λ c. hw.test c ∙ (λ i. h.set.test c i && hs.test c i) } in
    let after : Extends s0 s2 = Extends-trans x y in
    let told_is : told_here s2 scope ended (number_of line) way ≡ told_of r w = told_same r scope way ending ended (number_of line) w.has (IsScope-extends after r scope sc) (IsEnded-extends after ending ended h) (IsSet-extends y way w.has way_is) in
    let one : told_all r (w ∷ []) ≡ told_of r w = append-nil (told_of r w) in
    let joined_is : (c : List Bool) → s2.test joined c ≡ in_some (ways ++ w ∷ []) c = λ c.
    hj.test c
    ∙ (λ i. (x.test f.failing c known ∙ found.failing.test c) i || (way_is.test c ∙ sym (or_false (w.has c))) i)
    ∙ sym (list_any-append (λ (v : Way). v.has c) ways (w ∷ [])) in
    subst (λ ws. AreFound s3 r ws f') (sym more) (record {
      told = told ∙ (λ i. found.told i ++ (told_is ∙ sym one) i) ∙ sym (flat_map-append (told_of r) ways (w ∷ []));
      failing = subst (λ id. IsSet s3 id (in_some (ways ++ w ∷ []))) (sym same) (record { known = z.known joined hj.known; test = λ c. z.test joined c hj.known ∙ joined_is c });
    })

-- ---- the ways of some ends

-- what was found so far leads on, whatever is found of the ends that are left
pub record LeadsIn {I : Type 0} (s0 s : Sets I) (scope : I) (ends rest : List (Ended I)) (line : Option Expectation) (set : I) (f0 f : Finding I) : Type 0 where
  pub extends : Extends s0 s
  pub left_known : AreKnownEnds s rest
  pub goes : (s' : Sets I) (f' : Finding I) → FindsIn s s' scope rest line set f f' → FindsIn s0 s' scope ends line set f0 f'

pub LeadsIn-start : {I : Type 0} {s : Sets I} (scope : I) (ends : List (Ended I)) (line : Option Expectation) (set : I) (f : Finding I) → AreKnownEnds s ends → LeadsIn s s scope ends ends line set f f
LeadsIn-start {I} {s} scope ends line set f h = record { extends = Extends-refl s; left_known = h; goes = λ s' f' g. g }

in_cons : {I : Type 0} {s s1 : Sets I} (scope : I) (e : Ended I) (rest : List (Ended I)) (line : Option Expectation) (set : I) (f f1 : Finding I) (s' : Sets I) (f' : Finding I) → Extends s s1 → FindsAt s s1 scope e line set f f1 → FindsIn s1 s' scope rest line set f1 f' → FindsIn s s' scope (e ∷ rest) line set f f'
in_cons scope e rest line set f f1 s' f' x one more r [] has ways sc h hs found = absurd h
in_cons scope e rest line set f f1 s' f' x one more r (ending ∷ others) has ways sc h hs found =
    subst (λ ws. AreFound s' r ws f') (append_assoc ways (way_by line has ending) (flat_map (way_by line has) others))
    (more r others has (ways ++ way_by line has ending) (IsScope-extends x r scope sc) (AreEnded-extends x others rest h.1) (IsSet-extends x set has hs) (one r ending has ways sc h.0 hs found))

pub LeadsIn-step : {I : Type 0} {s0 s s1 : Sets I} (scope : I) (ends : List (Ended I)) (i : ℕ) (e : Ended I) (line : Option Expectation) (set : I) (f0 f f1 : Finding I) → i < length ends → e ≡ get_or ends i e → LeadsIn s0 s scope ends (drop i ends) line set f0 f → Extends s s1 → FindsAt s s1 scope e line set f f1 → LeadsIn s0 s1 scope ends (drop (i + 1) ends) line set f0 f1
LeadsIn-step {I} {s0} {s} {s1} scope ends i e line set f0 f f1 l here h x one =
    let split : drop i ends ≡ e ∷ drop (i + 1) ends = drop_more ends i e l ∙ ap (λ y. y ∷ drop (i + 1) ends) (sym here) in
    let known : AreKnownEnds s (e ∷ drop (i + 1) ends) = subst (AreKnownEnds s) split h.left_known in
    record {
      extends = Extends-trans h.extends x;
      left_known = AreKnownEnds-extends x (drop (i + 1) ends) known.1;
      goes = λ s' f' g. h.goes s' f' (subst (λ es. FindsIn s s' scope es line set f f') (sym split) (in_cons scope e (drop (i + 1) ends) line set f f1 s' f' x one g));
    }

-- the end that comes next is known
pub next_known : {I : Type 0} (s : Sets I) (ends : List (Ended I)) (i : ℕ) (e : Ended I) → i < length ends → e ≡ get_or ends i e → AreKnownEnds s (drop i ends) → IsKnown s e.set
next_known s ends i e l here h =
    let split : drop i ends ≡ e ∷ drop (i + 1) ends = drop_more ends i e l ∙ ap (λ y. y ∷ drop (i + 1) ends) (sym here) in
    (subst (AreKnownEnds s) split h).0

in_none : {I : Type 0} {s : Sets I} (scope : I) (line : Option Expectation) (set : I) (f : Finding I) → FindsIn s s scope [] line set f f
in_none {I} {s} scope line set f r [] has ways sc h hs found = subst (λ ws. AreFound s r ws f) (sym (append-nil ways)) found
in_none scope line set f r (ending ∷ endings) has ways sc h hs found = absurd h

pub LeadsIn-all : {I : Type 0} {s0 s : Sets I} (scope : I) (ends rest : List (Ended I)) (line : Option Expectation) (set : I) (f0 f : Finding I) → rest ≡ [] → LeadsIn s0 s scope ends rest line set f0 f → FindsIn s0 s scope ends line set f0 f
LeadsIn-all {I} {s0} {s} scope ends rest line set f0 f none h = h.goes s f (subst (λ es. FindsIn s s scope es line set f f) (sym none) (in_none scope line set f))

-- ---- the ways that miss lines

pub record LeadsMissed {I : Type 0} (s0 s : Sets I) (scope : I) (ends : List (Ended I)) (expected rest : List Expectation) (spoke : I) (f0 f : Finding I) : Type 0 where
  pub extends : Extends s0 s
  pub left_of : AreOf s.options rest
  pub spoke_known : IsKnown s spoke
  pub spoken_left : (c : List Bool) → (s.test spoke c || spoken rest c) ≡ spoken expected c
  pub goes : (s' : Sets I) (f' : Finding I) → FindsMissed s s' scope ends rest f f' → FindsMissed s0 s' scope ends expected f0 f'

pub LeadsMissed-start : {I : Type 0} {s : Sets I} → IsLawful s → (scope : I) (ends : List (Ended I)) (expected : List Expectation) (f : Finding I) → AreOf s.options expected → LeadsMissed s s scope ends expected expected s.never f f
LeadsMissed-start {I} {s} lawful scope ends expected f h = record {
  extends = Extends-refl s;
  left_of = h;
  spoke_known = lawful.never_known;
  spoken_left = λ c. ap (λ b. b || spoken expected c) (lawful.never_test c);
  goes = λ s' f' g. g;
}

pub next_line_of : (options : ℕ) (expected : List Expectation) (i : ℕ) (line : Expectation) → i < length expected → line ≡ get_or expected i line → AreOf options (drop i expected) → IsOf options line
next_line_of options expected i line l here h =
    let split : drop i expected ≡ line ∷ drop (i + 1) expected = drop_more expected i line l ∙ ap (λ y. y ∷ drop (i + 1) expected) (sym here) in
    (subst (AreOf options) split h).0

missed_cons : {I : Type 0} {s s2 s3 : Sets I} (scope : I) (ends : List (Ended I)) (line : Expectation) (rest : List Expectation) (set : I) (f f1 : Finding I) (s' : Sets I) (f' : Finding I) → Extends s s2 → Extends s2 s3 → IsSet s2 set (is_allowed line.model) → FindsIn s2 s3 scope ends (Some line) set f f1 → FindsMissed s3 s' scope ends rest f1 f' → FindsMissed s s' scope ends (line ∷ rest) f f'
missed_cons scope ends line rest set f f1 s' f' x y hs one more r ways sc h found =
    subst (λ ws. AreFound s' r ws f') (append_assoc ways (ways_by r (Some line) (is_allowed line.model)) (ways_missed r rest))
    (more r (ways ++ ways_by r (Some line) (is_allowed line.model)) (IsScope-extends (Extends-trans x y) r scope sc) (AreEnded-extends (Extends-trans x y) (endings r) ends h)
    (one r (endings r) (is_allowed line.model) ways (IsScope-extends x r scope sc) (AreEnded-extends x (endings r) ends h) hs (AreFound-extends x r ways f found)))

or_assoc : (a b c : Bool) → ((a || b) || c) ≡ (a || (b || c))
or_assoc true b c = refl
or_assoc false b c = refl

pub LeadsMissed-step : {I : Type 0} {s0 s s1 s2 s3 : Sets I} (scope : I) (ends : List (Ended I)) (expected : List Expectation) (i : ℕ) (line : Expectation) (set spoke spoke' : I) (f0 f f1 : Finding I) → i < length expected → line ≡ get_or expected i line → LeadsMissed s0 s scope ends expected (drop i expected) spoke f0 f → Extends s s1 → Extends s1 s2 → Extends s2 s3 → IsSet s1 set (is_allowed line.model) → IsSet s2 spoke' (λ c. s1.test spoke c || s1.test set c) → FindsIn s2 s3 scope ends (Some line) set f f1 → LeadsMissed s0 s3 scope ends expected (drop (i + 1) expected) spoke' f0 f1
LeadsMissed-step {I} {s0} {s} {s1} {s2} {s3} scope ends expected i line set spoke spoke' f0 f f1 l here h x y z hs hj one =
    let rest = drop (i + 1) expected in
    let split : drop i expected ≡ line ∷ rest = drop_more expected i line l ∙ ap (λ e. e ∷ rest) (sym here) in
    let xy = Extends-trans x y in
    let of : AreOf s.options (line ∷ rest) = subst (AreOf s.options) split h.left_of in
    let options : s3.options ≡ s.options = z.options ∙ xy.options in
    record {
      extends = Extends-trans h.extends (Extends-trans xy z);
      left_of = subst (λ n. AreOf n rest) (sym options) of.1;
      spoke_known = z.known spoke' hj.known;
      spoken_left = λ c.
          (λ k. (z.test spoke' c hj.known ∙ hj.test c ∙ (λ j. (x.test spoke c h.spoke_known) j || hs.test c j)) k || spoken rest c)
          ∙ or_assoc (s.test spoke c) (speaks c line) (spoken rest c)
          ∙ ap (λ es. s.test spoke c || spoken es c) (sym split)
          ∙ h.spoken_left c;
      goes = λ s' f' g. h.goes s' f' (subst (λ es. FindsMissed s s' scope ends es f f') (sym split) (missed_cons scope ends line rest set f f1 s' f' xy z (IsSet-extends y set (is_allowed line.model) hs) one g));
    }

missed_none : {I : Type 0} {s : Sets I} (scope : I) (ends : List (Ended I)) (f : Finding I) → FindsMissed s s scope ends [] f f
missed_none {I} {s} scope ends f r ways sc h found = subst (λ ws. AreFound s r ws f) (sym (append-nil ways)) found

pub LeadsMissed-all : {I : Type 0} {s0 s : Sets I} (scope : I) (ends : List (Ended I)) (expected rest : List Expectation) (spoke : I) (f0 f : Finding I) → rest ≡ [] → LeadsMissed s0 s scope ends expected rest spoke f0 f → FindsMissed s0 s scope ends expected f0 f
LeadsMissed-all {I} {s0} {s} scope ends expected rest spoke f0 f none h = h.goes s f (subst (λ es. FindsMissed s s scope ends es f f) (sym none) (missed_none scope ends f))

pub LeadsMissed-spoken : {I : Type 0} {s0 s : Sets I} (scope : I) (ends : List (Ended I)) (expected rest : List Expectation) (spoke : I) (f0 f : Finding I) → rest ≡ [] → LeadsMissed s0 s scope ends expected rest spoke f0 f → IsSet s spoke (spoken expected)
LeadsMissed-spoken {I} {s0} {s} scope ends expected rest spoke f0 f none h = record {
  known = h.spoke_known;
  test = λ c. sym (or_false (s.test spoke c)) ∙ ap (λ es. s.test spoke c || spoken es c) (sym none) ∙ h.spoken_left c;
}

-- ---- all of them

pub has_found : {I : Type 0} {s0 s1 s2 s3 : Sets I} → IsLawful s0 → (scope : I) (ends : List (Ended I)) (expected : List Expectation) (spoke unspoken : I) (f0 f1 f2 : Finding I) → Extends s0 s1 → Extends s1 s2 → f0.told.items ≡ [] → f0.failing ≡ s0.never → FindsMissed s0 s1 scope ends expected f0 f1 → IsSet s1 spoke (spoken expected) → IsSet s2 unspoken (λ c. s1.test s1.always c && not (s1.test spoke c)) → IsLawful s1 → FindsIn s2 s3 scope ends None unspoken f1 f2 → HasFound s0 s3 scope ends expected f2
has_found {I} {s0} {s1} {s2} {s3} lawful scope ends expected spoke unspoken f0 f1 f2 x y told never missed hs hu lawful1 rest r sc h =
    let none : AreFound s0 r [] f0 = record { told = told; failing = subst (λ id. IsSet s0 id (in_some [])) (sym never) (record { known = lawful.never_known; test = lawful.never_test }) } in
    let first = missed r [] sc h none in
    let all = Extends-trans x y in
    let u : IsSet s2 unspoken (λ c. not (spoken expected c)) = record { known = hu.known; test = λ c. hu.test c ∙ (λ i. lawful1.always_test c i && not (hs.test c i)) } in
    rest r (endings r) (λ c. not (spoken expected c)) (ways_missed r expected) (IsScope-extends all r scope sc) (AreEnded-extends all (endings r) ends h) u (AreFound-extends y r (ways_missed r expected) f1 first)

-- a memo that is empty has no wrong number
pub no_numbers : {I : Type 0} (s : Sets I) (cmp : I → I → Ordering) (numbers : BTreeMap I ℕ) → IsEmpty numbers → AreNumbers s (get cmp numbers)
no_numbers s cmp numbers empty = record { each = λ id n e. let none : None ≡ Some n = sym (ap (lookup (is_at (cmp id))) empty) ∙ e in cc (none) }

pub IsSound-extends : {I : Type 0} {s s' : Sets I} {cmp : I → I → Ordering} → Extends s s' → (f : Finding I) → IsSound s cmp f → IsSound s' cmp f
IsSound-extends x f h = record { numbers = AreNumbers-extends x _ h.numbers; failing = x.known f.failing h.failing }

-- ---- what is told

-- the first setting, if there is one, stands alone
only_one : (k : ℕ) (test : List Bool → Bool) (front : List (List Bool)) (x : List Bool) → first_settings 1 k test ≡ front ++ x ∷ [] → first_settings 1 k test ≡ x ∷ []
only_one k test front x e = by (filter test (settings k)) front e
  where
    by : (all front : List (List Bool)) → take 1 all ≡ front ++ x ∷ [] → take 1 all ≡ x ∷ []
    by [] [] e = cc (e)
    by [] (y ∷ front) e = cc (e)
    by (z ∷ all) [] e = e
    by (z ∷ all) (y ∷ []) e = cc (e)
    by (z ∷ all) (y ∷ w ∷ front) e = cc (e)

pub first_alone : (k : ℕ) (test : List Bool → Bool) (items rest : List (List Bool)) (r : Option (List Bool)) (before after : ℕ) → items ≡ first_settings 1 k test → items ≡ rest ++ option_to_list r → after ≡ length rest → MatchOption r ((before ≡ 0) × (after ≡ 0)) (λ c. after + 1 ≡ before) → option_to_list r ≡ first_settings 1 k test
first_alone k test items rest (Some c) before after e f l m = sym (only_one k test rest c (sym e ∙ f))
first_alone k test items [] None before after e f l m = sym f ∙ e
first_alone k test items (x ∷ rest) None before after e f l m = absurd (omega (arith, l, m.1))

pub told_none : {I : Type 0} (s : Sets I) (scope : I) (e : Ended I) (line : Option ℕ) (set : I) (told : List Told) → first_settings 1 s.options (s.test set) ≡ [] → told ≡ told ++ told_here s scope e line set
told_none s scope e line set told none = sym (append-nil told) ∙ ap (λ cs. told ++ map (λ c. record {
  rank = e.rank;
  place = e.place;
  end = e.words;
  line = line;
  number = number s.options (s.test set);
  example = c;
  rule = rule_within s.options (s.test set) (s.test scope);
}) cs) (sym none)

pub told_one : {I : Type 0} (s : Sets I) (scope : I) (e : Ended I) (line : Option ℕ) (set : I) (told told' : List Told) (c : List Bool) (n : ℕ) (rule : Option Rule) (end : List ℕ) → first_settings 1 s.options (s.test set) ≡ c ∷ [] → n ≡ number s.options (s.test set) → rule ≡ rule_within s.options (s.test set) (s.test scope) → end ≡ e.words
    → told' ≡ told ++ record { rank = e.rank; place = e.place; end = end; line = line; number = n; example = c; rule = rule } ∷ [] → told' ≡ told ++ told_here s scope e line set
told_one s scope e line set told told' c n rule end found m r w more =
    more
    ∙ (λ i. told ++ record { rank = e.rank; place = e.place; end = w i; line = line; number = m i; example = c; rule = r i } ∷ [])
    ∙ ap (λ cs. told ++ map (λ d. record {
      rank = e.rank;
      place = e.place;
      end = e.words;
      line = line;
      number = number s.options (s.test set);
      example = d;
      rule = rule_within s.options (s.test set) (s.test scope);
    }) cs) (sym found)

-- ---- the whole

pub checks : {I : Type 0} {s0 s1 s2 : Sets I} (r : Report) (expected : List Expectation) (scope : I) (ends : List (Ended I)) (f : Finding I) (checked : Checked) → length r.options ≡ s0.options → Extends s0 s1 → Extends s1 s2 → IsSet s1 scope (has_end r) → AreEnded s1 (endings r) ends → HasFound s1 s2 scope ends expected f → IsCounted s2 scope f checked → IsChecked r expected checked
checks {I} {s0} {s1} {s2} r expected scope ends f checked o x y h ended found counted =
    let here : length r.options ≡ s1.options = o ∙ sym x.options in
    let there : s2.options ≡ length r.options = y.options ∙ sym here in
    let all = found r (record { options = here; set = h }) ended in
    let scoped = IsSet-extends y scope (has_end r) h in
    record {
      of = counted.of ∙ (λ i. number (there i) (λ c. scoped.test c i));
      failing = counted.failing ∙ (λ i. number (there i) (λ c. (all.failing.test c ∙ in_some_fails r expected c) i));
      told = subst (λ ts. IsSortedOf ts checked.told) all.told counted.told;
    }
