-- What places come to where cells are passed, one leaf after the other.
use Rattle.std.proofs.Common.{◌≡◌, ℕ, ◌+◌, ◌<◌, ◌≤◌, Bool, true, false, List, refl, sym, ◌∙◌, ap, take, get_or, length, subst}
use Rattle.std.proofs.lemmas.List.{take_all}
use Rattle.std.specs.Option.{option_or}
use Rattle.std.specs.Prelude.{Option, Some, None, is_some, if◌then◌else◌, unwrap_or}
use Rattle.std.specs.declared.cmp.Ordering.{Ordering}
use Rattle.vx_space.specs.Sets.{Sets, Extends, IsLawful, IsSet}
use Rattle.vx_space.proofs.Spaces.{Extends-refl, Extends-trans}
use Rattle.vx_cond.specs.declared.cond.Leaf.{Leaf}
use Rattle.vx_cond.specs.Leaves.{first_of, value_at, value_under, value_within}
use Rattle.vx_cond.specs.Cond.{AreDisjoint, Conditional, IsCond, IsCondOf, cond_at}
use Rattle.vx_cond.proofs.CondLaws.{IsCond-of, cond_at-of}
use Rattle.vx_cond.proofs.LeafLoops.{IsNext, next_leaf}
use Rattle.vx_cond.proofs.SideLaws.{cond_at-covers}
use Rattle.vx_families.specs.Texts.{HasMoreTexts}
use Rattle.vx_families.proofs.MoreTexts.{HasMoreTexts-refl, HasMoreTexts-trans}
use Rattle.vx_group_states.proofs.Gathering.{AreLeaves-of}
use Rattle.vx_group_states.specs.Answering.{answer_at}
use Rattle.vx_group_states.specs.Answers.{answer_cmp}
use Rattle.vx_group_states.specs.declared.answer.Answer.{Answer}
use Rattle.vx_group_states.specs.declared.answer.Answer.TheVariants as answer
use Rattle.vx_heap.specs.Heap.{HeapView}
use Rattle.vx_heap.proofs.CellWrites.{IsCondOf-same}
use Rattle.vx_heap.proofs.Known.{cond_known}
use Rattle.vx_link.specs.declared.program.Program.{Program}
use Rattle.vx_cells.specs.Places.{place_cmp}
use Rattle.vx_cells.specs.Through.{AreAnswers, IsAnswered, IsPass, place_at}
use Rattle.vx_cells.specs.declared.place.Place.{Place}
use Rattle.vx_cells.specs.declared.place.Place.TheVariants.{At, Illegal, Null, Outside, Refused}

-- ---- one more answer

-- an answer where there was none
first_under : {T : Type 0} (b : Bool) (o : Option T) (v : T) → (b ≡ true → o ≡ None) → option_or o (if b then Some v else None) ≡ (if b then Some v else o)
first_under true o v f = rw (f refl) refl
first_under false None v f = refl
first_under false (Some w) v f = refl

absent_at : {T : Type 0} (o : Option T) → is_some o ≡ false → o ≡ None
absent_at None h = refl
absent_at (Some v) h = cc

pub with_answer_at : {S I : Type 0} (s0 s1 : Sets I) (answers one made : Conditional Answer S I) (a : Answer) (condition : I) → IsCond answer_cmp s0 answers → AreDisjoint s0 answers.scope condition → IsCondOf answer_cmp s0 (value_within s0 condition (λ _. Some a)) one → IsCondOf answer_cmp s1 (first_of (cond_at s0 answers) (cond_at s0 one)) made → IsCondOf answer_cmp s1 (value_under s0 condition a (cond_at s0 answers)) made
with_answer_at s0 s1 answers one made a condition v d o m =
    IsCondOf-same answer_cmp s1 (first_of (cond_at s0 answers) (cond_at s0 one)) (value_under s0 condition a (cond_at s0 answers)) made
    (λ c.
    ap (λ r. option_or (cond_at s0 answers c) r) (cond_at-of answer_cmp s0 (value_within s0 condition (λ _. Some a)) one c o)
    ∙ first_under (s0.test condition c) (cond_at s0 answers c) a (λ t. absent_at (cond_at s0 answers c) (cond_at-covers answer_cmp s0 answers v c ∙ outside c (s0.test answers.scope c) refl t)))
    m
  where
    outside : (c : List Bool) (b : Bool) → s0.test answers.scope c ≡ b → s0.test condition c ≡ true → s0.test answers.scope c ≡ false
    outside c true e t = absurd (both (d.apart c e) t)
      where
        both : s0.test condition c ≡ false → s0.test condition c ≡ true → ⊥
        both f u = cc (f, u)
    outside c false e t = e

-- ---- messages stay

pub answered_more : {S I : Type 0} (p : Program) (before after : HeapView S I) → HasMoreTexts before after → (place : Place) (a : Answer) → IsAnswered p before IsPass place a → IsAnswered p after IsPass place a
answered_more p before after m Illegal a h = h
answered_more p before after m Null a h = h
answered_more p before after m (Outside i) a h = (
    let later = m.earlier h.text h.number.known in
    record { text = h.text; is = h.is; number = record { known = later.known; text = later.text ∙ h.number.text } })
answered_more p before after m Refused a h = h
answered_more p before after m (At r cell) a h = h

-- ---- scopes

-- a scope is the one set in which there is a value
scope_of : {T S I : Type 0} (cmp : T → T → Ordering) {sets : Sets I} → IsLawful sets → (cond : Conditional T S I) (scope : I) (set : List Bool → Bool) → IsCond cmp sets cond → IsSet sets scope set → ((c : List Bool) → is_some (cond_at sets cond c) ≡ set c) → cond.scope ≡ scope
unfolding IsCond
scope_of cmp {sets = sets} lawful cond scope set v s e = lawful.equal_sets cond.scope scope v.scope_known s.known (λ c. sym (v.covers c) ∙ e c ∙ sym (s.test c))

-- ---- the loop

pub record IsPassing {S I : Type 0} (p : Program) (start sets : Sets I) (before now : HeapView S I) (places : Conditional Place S I) (i : ℕ) (answers : Conditional Answer S I) : Type 0 where
  pub extends : Extends start sets
  pub more : HasMoreTexts before now
  pub is_cond : IsCond answer_cmp sets answers
  pub covers : (c : List Bool) → is_some (cond_at sets answers c) ≡ is_some (value_at start (take i places.leaves) c)
  pub at : (c : List Bool) (place : Place) → value_at start (take i places.leaves) c ≡ Some place → IsAnswered p now IsPass place (answer_at sets answers c)

nothing_there : {T S I : Type 0} (sets : Sets I) (cond : Conditional T S I) (value : T) → ((c : List Bool) → sets.test sets.never c ≡ false) → (c : List Bool) → cond_at sets cond c ≡ value_within sets sets.never (λ _. Some value) c → cond_at sets cond c ≡ None
nothing_there sets cond value never c e = e ∙ ap (λ b. if b then Some value else None) (never c)

pub IsPassing-start : {S I : Type 0} (p : Program) (sets : Sets I) → IsLawful sets → (heap : HeapView S I) (places : Conditional Place S I) (none : Conditional Answer S I) → IsCondOf answer_cmp sets (value_within sets sets.never (λ _. Some answer.Illegal)) none → IsPassing p sets sets heap heap places 0 none
IsPassing-start p sets lawful heap places none v = record {
  extends = Extends-refl sets;
  more = HasMoreTexts-refl heap;
  is_cond = IsCond-of answer_cmp sets (value_within sets sets.never (λ _. Some answer.Illegal)) none v;
  covers = λ c. ap is_some (nothing_there sets none answer.Illegal lawful.never_test c (cond_at-of answer_cmp sets (value_within sets sets.never (λ _. Some answer.Illegal)) none c v));
  at = λ c place e. cc e;
}

-- the condition of the next leaf has no answer yet
pub IsPassing-apart : {S I : Type 0} (p : Program) (s0 s1 : Sets I) (before now : HeapView S I) (places : Conditional Place S I) (i : ℕ) (x : Leaf Place S I) (answers : Conditional Answer S I) → IsCond place_cmp s0 places → i < length places.leaves → x ≡ get_or places.leaves i x → IsPassing p s0 s1 before now places i answers → AreDisjoint s1 answers.scope x.condition
IsPassing-apart p s0 s1 before now places i x answers v l e h = record { apart = λ c t. outside c t (s1.test x.condition c) refl }
  where
    next : IsNext s0 places.leaves i x
    next = next_leaf place_cmp s0 places.leaves i x (AreLeaves-of place_cmp s0 places v) l e

    outside : (c : List Bool) → s1.test answers.scope c ≡ true → (b : Bool) → s1.test x.condition c ≡ b → s1.test x.condition c ≡ false
    outside c t true u =
        let none = next.before.none c (sym (h.extends.test x.condition c next.known) ∙ u) in
        absurd (both (sym (cond_at-covers answer_cmp s1 answers h.is_cond c ∙ t) ∙ h.covers c ∙ ap is_some none))
      where
        both : true ≡ false → ⊥
        both q = cc q
    outside c t false u = u

pub IsPassing-step : {S I : Type 0} (p : Program) {s0 s1 s2 : Sets I} → Extends s1 s2 → (before now after : HeapView S I) (places : Conditional Place S I) (i : ℕ) (x : Leaf Place S I) (answers made : Conditional Answer S I) (a : Answer) → IsCond place_cmp s0 places → i < length places.leaves → x ≡ get_or places.leaves i x → IsPassing p s0 s1 before now places i answers → HasMoreTexts now after → IsAnswered p after IsPass x.value a → IsCondOf answer_cmp s2 (value_under s1 x.condition a (cond_at s1 answers)) made → IsPassing p s0 s2 before after places (i + 1) made
IsPassing-step {S = S} {I = I} p {s0 = s0} {s1 = s1} {s2 = s2} e before now after places i x answers made a v l q h m k u = record {
  extends = Extends-trans h.extends e;
  more = HasMoreTexts-trans before now after h.more m;
  is_cond = IsCond-of answer_cmp s2 (value_under s1 x.condition a (cond_at s1 answers)) made u;
  covers = λ c. ap is_some (value c) ∙ covered c (s0.test x.condition c) ∙ sym (ap is_some (next.more c));
  at = λ c place t. said c place (s0.test x.condition c) refl (sym (next.more c) ∙ t);
}
  where
    next : IsNext s0 places.leaves i x
    next = next_leaf place_cmp s0 places.leaves i x (AreLeaves-of place_cmp s0 places v) l q

    value : (c : List Bool) → cond_at s2 made c ≡ (if s0.test x.condition c then Some a else cond_at s1 answers c)
    value c = cond_at-of answer_cmp s2 (value_under s1 x.condition a (cond_at s1 answers)) made c u ∙ ap (λ b. if b then Some a else cond_at s1 answers c) (h.extends.test x.condition c next.known)

    covered : (c : List Bool) (b : Bool) → is_some (if b then Some a else cond_at s1 answers c) ≡ is_some (if b then Some x.value else value_at s0 (take i places.leaves) c)
    covered c true = refl
    covered c false = h.covers c

    same : (a b : Place) → Some a ≡ Some b → a ≡ b
    same a b w = cc w

    said : (c : List Bool) (place : Place) (b : Bool) → s0.test x.condition c ≡ b → (if b then Some x.value else value_at s0 (take i places.leaves) c) ≡ Some place → IsAnswered p after IsPass place (answer_at s2 made c)
    said c place true t w =
        let P : Place → Type 0 = λ r. IsAnswered p after IsPass r a in
        let Q : Answer → Type 0 = λ r. IsAnswered p after IsPass place r in
        subst Q (sym (ap (λ o. unwrap_or o answer.Illegal) (value c ∙ ap (λ b. if b then Some a else cond_at s1 answers c) t))) (subst P (same x.value place w) k)
    said c place false t w =
        let Q : Answer → Type 0 = λ r. IsAnswered p after IsPass place r in
        subst Q (sym (ap (λ o. unwrap_or o answer.Illegal) (value c ∙ ap (λ b. if b then Some a else cond_at s1 answers c) t))) (answered_more p now after m place (answer_at s1 answers c) (h.at c place w))

pub IsPassing-end : {S I : Type 0} (p : Program) {s0 s1 : Sets I} → IsLawful s1 → (before now : HeapView S I) (places : Conditional Place S I) (i : ℕ) (answers : Conditional Answer S I) → IsCond place_cmp s0 places → length places.leaves ≤ i → IsPassing p s0 s1 before now places i answers → AreAnswers p s0 s1 now (λ _. IsPass) places answers
IsPassing-end p {s0 = s0} {s1 = s1} lawful before now places i answers v l h = record {
  is_cond = h.is_cond;
  scope = scope_of answer_cmp lawful answers places.scope (s0.test places.scope) h.is_cond (record { known = h.extends.known places.scope known; test = λ c. h.extends.test places.scope c known }) (λ c. h.covers c ∙ ap is_some (all c) ∙ cond_at-covers place_cmp s0 places v c);
  at = λ c t. by c (cond_at s0 places c) refl (cond_at-covers place_cmp s0 places v c ∙ t);
}
  where
    known : s0.is_known places.scope ≡ true
    known = (cond_known place_cmp s0 places v).0

    all : (c : List Bool) → value_at s0 (take i places.leaves) c ≡ cond_at s0 places c
    all c = ap (λ ys. value_at s0 ys c) (take_all i places.leaves l)

    by : (c : List Bool) (o : Option Place) → cond_at s0 places c ≡ o → is_some o ≡ true → IsAnswered p now IsPass (place_at s0 places c) (answer_at s1 answers c)
    by c None e t = cc t
    by c (Some place) e t =
        let P : Place → Type 0 = λ r. IsAnswered p now IsPass r (answer_at s1 answers c) in
        subst P (sym (ap (λ o. unwrap_or o Illegal) e)) (h.at c place (all c ∙ e))
