-- What a stack form makes of plain operands, by the cut of its words.
use Rattle.std.proofs.Common.{◌≡◌, ℕ, ◌+◌, ◌≤◌, ◌⊎◌, zero, suc, Bool, true, List, [], ◌∷◌, refl, sym, ◌∙◌, ap, arith, map, take, drop, length, min, add-one, inl, inr, take_all, length-drop}
use Rattle.std.specs.Prelude.{Option, Some, None, option_map, slice_get}
use Rattle.vx_value.specs.declared.slot.Slot.{Slot}
use Rattle.vx_value.specs.declared.slot.Slot.TheVariants.{Long}
use Rattle.vx_space.specs.Sets.{Sets}
use Rattle.vx_heap.specs.Heap.{HeapView, value_of}
use Rattle.vx_java.specs.Machine.{State, Value, settle}
use Rattle.vx_java.specs.StackForms.{lower, lower_taken, stack, upper, upper_taken, values_reordered, words}
use Rattle.vx_java.specs.declared.operation.Shuffle.{Shuffle}
use Rattle.vx_java.specs.declared.operation.Shuffle.TheVariants.{Dup, Dup2, Dup2X1, Dup2X2, DupX1, DupX2, Pop, Pop2, Swap}
use Rattle.vx_group_states.specs.Sites.{here}
use Rattle.vx_group_states.specs.declared.site.Site.{Site}
use Rattle.vx_group_states.proofs.AnswerLaws.{map_drop}
use Rattle.vx_stack.specs.Cuts.{count_of, counts_of, cut_by, first_cut, grown, is_found, lower_grown, next, part_of_words, upper_grown}
use Rattle.vx_stack.specs.Forms.{formed_as, formed_by, order_of, reordered}
use Rattle.vx_stack.specs.declared.cut.Part.{Part}
use Rattle.vx_stack.specs.declared.cut.Part.TheVariants.{Zero, One, Two, Word, Words, Second}
use Rattle.vx_stack.specs.declared.cut.Cut.{Cut}
use Rattle.vx_stack.specs.declared.cut.Cut.TheVariants.{Divided, Parts}

-- ---- values that stand in words

-- how many values stand in so many words from the top down; none where values lack or a long would be divided
abbrev values_in : ℕ → List Slot → Option ℕ
values_in zero slots = Some 0
values_in (suc n) [] = None
values_in (suc zero) (Long a ∷ slots) = None
values_in (suc (suc n)) (Long a ∷ slots) = option_map suc (values_in n slots)
values_in (suc n) (slot ∷ slots) = option_map suc (values_in n slots)

-- the words of a part that are looked for
abbrev left : Part → ℕ
left Word = 1
left Words = 2
left Second = 1
left _ = 0

-- so many values more than a part has
abbrev more : Part → ℕ → ℕ
more One n = suc n
more Two n = suc (suc n)
more Second n = suc n
more _ n = n

abbrev lower_counted : Part → Part → ℕ → Option ℕ → Option (ℕ × ℕ)
lower_counted p q u None = None
lower_counted p q u (Some l) = Some (more p u, more q l)

abbrev counted : Part → Part → List Slot → Option ℕ → Option (ℕ × ℕ)
counted p q slots None = None
counted p q slots (Some u) = lower_counted p q u (values_in (left q) (drop u slots))

divided : (slots : List Slot) → counts_of (cut_by Divided slots) ≡ None
divided [] = refl
divided (s ∷ ss) = divided ss

found_count : (p : Part) → is_found p ≡ true → count_of p ≡ Some (more p 0)
found_count Zero h = refl
found_count One h = refl
found_count Two h = refl
found_count Word h = cc
found_count Words h = cc
found_count Second h = cc

found_left : (p : Part) → is_found p ≡ true → left p ≡ 0
found_left Zero h = refl
found_left One h = refl
found_left Two h = refl
found_left Word h = cc
found_left Words h = cc
found_left Second h = cc

-- the next operand, once the upper words are found
next_lower : (p q : Part) (s : Slot) → is_found p ≡ true → next (Parts p q) s ≡ lower_grown p (grown q s)
next_lower p q s h = rw h refl

shifted : (p q r : Part) (o : Option ℕ) → ((n : ℕ) → more r n ≡ more q (suc n)) → lower_counted p r 0 o ≡ lower_counted p q 0 (option_map suc o)
shifted p q r None f = refl
shifted p q r (Some l) f = ap (λ n. Some (more p 0, n)) (f l)

lower_counts : (p q : Part) (slots : List Slot) → is_found p ≡ true → counts_of (cut_by (Parts p q) slots) ≡ lower_counted p q 0 (values_in (left q) slots)
lower_counts p Zero [] h = rw (found_count p h) refl
lower_counts p One [] h = rw (found_count p h) refl
lower_counts p Two [] h = rw (found_count p h) refl
lower_counts p Word [] h = rw (found_count p h) refl
lower_counts p Words [] h = rw (found_count p h) refl
lower_counts p Second [] h = rw (found_count p h) refl
lower_counts p q (s ∷ ss) h = ap (λ cut. counts_of (cut_by cut ss)) (next_lower p q s h) ∙ one_more (λ r. lower_counts p r ss h) q s
  where
    one_more : ((r : Part) → counts_of (cut_by (Parts p r) ss) ≡ lower_counted p r 0 (values_in (left r) ss)) → (q : Part) (s : Slot) → counts_of (cut_by (lower_grown p (grown q s)) ss) ≡ lower_counted p q 0 (values_in (left q) (s ∷ ss))
    one_more same Word (Long n) = divided ss
    one_more same Word s = same One
    one_more same Words (Long n) = same One
    one_more same Words s = same Second ∙ shifted p Words Second (values_in 1 ss) (λ n. refl)
    one_more same Second (Long n) = divided ss
    one_more same Second s = same Two
    one_more same q s = same q

-- the counts of a cut are those of the values in its words
cut_counts : (p q : Part) (slots : List Slot) → counts_of (cut_by (Parts p q) slots) ≡ counted p q slots (values_in (left p) slots)
cut_counts Zero q slots = lower_counts Zero q slots refl
cut_counts One q slots = lower_counts One q slots refl
cut_counts Two q slots = lower_counts Two q slots refl
cut_counts Word q [] = refl
cut_counts Words q [] = refl
cut_counts Second q [] = refl
cut_counts Word q (s ∷ ss) = first s
  where
    first : (s : Slot) → counts_of (cut_by (upper_grown (grown Word s) q) ss) ≡ counted Word q (s ∷ ss) (values_in 1 (s ∷ ss))
    first (Long n) = divided ss
    first s = lower_counts One q ss refl
cut_counts Words q (s ∷ ss) = first (cut_counts Second q ss) s
  where
    second : (s : Slot) (o : Option ℕ) → counted Second q ss o ≡ counted Words q (s ∷ ss) (option_map suc o)
    second s None = refl
    second s (Some u) = refl

    first : counts_of (cut_by (Parts Second q) ss) ≡ counted Second q ss (values_in 1 ss) → (s : Slot) → counts_of (cut_by (upper_grown (grown Words s) q) ss) ≡ counted Words q (s ∷ ss) (values_in 2 (s ∷ ss))
    first same (Long n) = lower_counts One q ss refl
    first same s = same ∙ second s (values_in 1 ss)
cut_counts Second q (s ∷ ss) = first s
  where
    first : (s : Slot) → counts_of (cut_by (upper_grown (grown Second s) q) ss) ≡ counted Second q (s ∷ ss) (values_in 1 (s ∷ ss))
    first (Long n) = divided ss
    first s = lower_counts Two q ss refl

-- ---- the definition of the machine

abbrev divided_at : ℕ → List Value → List Value × List Value
divided_at k values = (take k values, drop k values)

taken_more : (v : Value) (values : List Value) (taken : Option (List Value × List Value)) (o : Option ℕ) → taken ≡ option_map (λ k. divided_at k values) o → option_map (λ t. (v ∷ t.0, t.1)) taken ≡ option_map (λ k. divided_at k (v ∷ values)) (option_map suc o)
taken_more v values taken o h = ap (option_map (λ t. (v ∷ t.0, t.1))) h ∙ moved o
  where
    moved : (o : Option ℕ) → option_map (λ t. (v ∷ t.0, t.1)) (option_map (λ k. divided_at k values) o) ≡ option_map (λ k. divided_at k (v ∷ values)) (option_map suc o)
    moved None = refl
    moved (Some k) = refl

words_counted : {S I : Type 0} (sets : Sets I) (heap : HeapView S I) (c : List Bool) (n : ℕ) (slots : List Slot) → words n (map (value_of sets heap c) slots) ≡ option_map (λ k. divided_at k (map (value_of sets heap c) slots)) (values_in n slots)
words_counted sets heap c zero slots = refl
words_counted sets heap c (suc n) [] = refl
words_counted sets heap c (suc zero) (Long a ∷ slots) = refl
words_counted sets heap c (suc (suc n)) (Long a ∷ slots) = taken_more (value_of sets heap c (Long a)) (map (value_of sets heap c) slots) (words n (map (value_of sets heap c) slots)) (values_in n slots) (words_counted sets heap c n slots)
words_counted sets heap c (suc n) (s ∷ slots) = taken_more (value_of sets heap c s) (map (value_of sets heap c) slots) (words n (map (value_of sets heap c) slots)) (values_in n slots) (words_counted sets heap c n slots)

in_order : (form : Shuffle) (a b rest : List Value) → values_reordered form a b rest ≡ reordered (order_of form) a b rest
in_order Pop a b rest = refl
in_order Pop2 a b rest = refl
in_order Swap a b rest = refl
in_order form a b rest = refl

-- a stack form, where so many values stand in its words
words_formed : {S I : Type 0} (sets : Sets I) (heap : HeapView S I) (c : List Bool) (site : Site) (form : Shuffle) (s : State) (p q : Part) (slots : List Slot) → left p ≡ upper form → left q ≡ lower form → ((n : ℕ) → more p n ≡ n) → ((n : ℕ) → more q n ≡ n) → s.top.operands ≡ map (value_of sets heap c) slots → stack (here site s) form ≡ formed_as site (order_of form) (counts_of (cut_by (Parts p q) slots)) s
words_formed sets heap c site form s p q slots a b f g e = uppers (values_in (left p) slots) (ap (words (upper form)) e ∙ words_counted sets heap c (upper form) slots ∙ ap (λ n. option_map (λ k. divided_at k (map (value_of sets heap c) slots)) (values_in n slots)) (sym a)) ∙ ap (λ o. formed_as site (order_of form) o s) (sym (cut_counts p q slots))
  where
    lowers : (u : ℕ) (o : Option ℕ) → words (lower form) (drop u s.top.operands) ≡ option_map (λ k. divided_at k (drop u s.top.operands)) o → lower_taken (here site s) form (take u s.top.operands) (words (lower form) (drop u s.top.operands)) ≡ formed_as site (order_of form) (lower_counted p q u o) s
    lowers u None h = ap (lower_taken (here site s) form (take u s.top.operands)) h
    lowers u (Some l) h = ap (lower_taken (here site s) form (take u s.top.operands)) h ∙ ap (settle (here site s)) (in_order form (take u s.top.operands) (take l (drop u s.top.operands)) (drop l (drop u s.top.operands))) ∙ (λ i. formed_by site (order_of form) (sym (f u) i) (sym (g l) i) s)

    uppers : (o : Option ℕ) → words (upper form) s.top.operands ≡ option_map (λ k. divided_at k (map (value_of sets heap c) slots)) o → upper_taken (here site s) form (words (upper form) s.top.operands) ≡ formed_as site (order_of form) (counted p q slots o) s
    uppers None h = ap (upper_taken (here site s) form) h
    uppers (Some u) h =
        let under : drop u s.top.operands ≡ map (value_of sets heap c) (drop u slots) = ap (drop u) e ∙ sym (map_drop (value_of sets heap c) u slots) in
        let found = ap (words (lower form)) under ∙ words_counted sets heap c (lower form) (drop u slots) ∙ (λ i. option_map (λ k. divided_at k (sym under i)) (values_in (sym b i) (drop u slots))) in
        ap (upper_taken (here site s) form) (h ∙ ap (λ values. Some (divided_at u values)) (sym e)) ∙ lowers u (values_in (left q) (drop u slots)) found

pub stack-formed : {S I : Type 0} (sets : Sets I) (heap : HeapView S I) (c : List Bool) (site : Site) (form : Shuffle) (s : State) (slots : List Slot) → s.top.operands ≡ map (value_of sets heap c) slots → stack (here site s) form ≡ formed_as site (order_of form) (counts_of (cut_by (first_cut form) slots)) s
stack-formed sets heap c site Pop s slots e = words_formed sets heap c site Pop s Word Zero slots refl refl (λ n. refl) (λ n. refl) e
stack-formed sets heap c site Pop2 s slots e = words_formed sets heap c site Pop2 s Words Zero slots refl refl (λ n. refl) (λ n. refl) e
stack-formed sets heap c site Dup s slots e = words_formed sets heap c site Dup s Word Zero slots refl refl (λ n. refl) (λ n. refl) e
stack-formed sets heap c site DupX1 s slots e = words_formed sets heap c site DupX1 s Word Word slots refl refl (λ n. refl) (λ n. refl) e
stack-formed sets heap c site DupX2 s slots e = words_formed sets heap c site DupX2 s Word Words slots refl refl (λ n. refl) (λ n. refl) e
stack-formed sets heap c site Dup2 s slots e = words_formed sets heap c site Dup2 s Words Zero slots refl refl (λ n. refl) (λ n. refl) e
stack-formed sets heap c site Dup2X1 s slots e = words_formed sets heap c site Dup2X1 s Words Word slots refl refl (λ n. refl) (λ n. refl) e
stack-formed sets heap c site Dup2X2 s slots e = words_formed sets heap c site Dup2X2 s Words Words slots refl refl (λ n. refl) (λ n. refl) e
stack-formed sets heap c site Swap s slots e = words_formed sets heap c site Swap s Word Word slots refl refl (λ n. refl) (λ n. refl) e

-- ---- the first operands

-- an operand more
pub cut_by-more : (cut : Cut) (operands : List Slot) (i : ℕ) (x : Slot) → Some x ≡ slice_get operands i → cut_by cut (take (i + 1) operands) ≡ next (cut_by cut (take i operands)) x
cut_by-more cut [] i x e = cc
cut_by-more cut (y ∷ ys) zero x e =
    let same : x ≡ y = cc in
    first ys ∙ ap (next cut) (sym same)
  where
    first : (ys : List Slot) → cut_by (next cut y) (take 0 ys) ≡ next cut y
    first [] = refl
    first (z ∷ zs) = refl
cut_by-more cut (y ∷ ys) (suc i) x e = ap (λ n. cut_by cut (take n (y ∷ ys))) (add-one (suc i)) ∙ ap (λ n. cut_by (next cut y) (take n ys)) (sym (add-one i)) ∙ cut_by-more (next cut y) ys i x e

abbrev words_left : Cut → ℕ
words_left Divided = 0
words_left (Parts p q) = left p + left q

all_found : (cut : Cut) (s : Slot) → words_left cut ≡ 0 → next cut s ≡ cut
all_found Divided s h = refl
all_found (Parts Word q) s h = absurd (omega (arith, h))
all_found (Parts Words q) s h = absurd (omega (arith, h))
all_found (Parts Second q) s h = absurd (omega (arith, h))
all_found (Parts p Word) s h = absurd (omega (arith, h))
all_found (Parts p Words) s h = absurd (omega (arith, h))
all_found (Parts p Second) s h = absurd (omega (arith, h))
all_found (Parts Zero Zero) s h = refl
all_found (Parts Zero One) s h = refl
all_found (Parts Zero Two) s h = refl
all_found (Parts One Zero) s h = refl
all_found (Parts One One) s h = refl
all_found (Parts One Two) s h = refl
all_found (Parts Two Zero) s h = refl
all_found (Parts Two One) s h = refl
all_found (Parts Two Two) s h = refl

lower_fewer : (p q : Part) (s : Slot) (n : ℕ) → left p ≡ 0 → left q ≤ suc n → words_left (lower_grown p (grown q s)) ≤ n
lower_fewer p Word (Long a) n h l = omega arith
lower_fewer p Word s n h l = omega (arith, h)
lower_fewer p Words (Long a) n h l = omega (arith, h)
lower_fewer p Words s n h l = omega (arith, h, l)
lower_fewer p Second (Long a) n h l = omega arith
lower_fewer p Second s n h l = omega (arith, h)
lower_fewer p q s n h l = omega (arith, h)

-- an operand takes a word at least
fewer_left : (cut : Cut) (s : Slot) (n : ℕ) → words_left cut ≤ suc n → words_left (next cut s) ≤ n
fewer_left Divided s n l = omega arith
fewer_left (Parts Word q) (Long a) n l = omega arith
fewer_left (Parts Word q) s n l = omega (arith, l)
fewer_left (Parts Words q) (Long a) n l = omega (arith, l)
fewer_left (Parts Words q) s n l = omega (arith, l)
fewer_left (Parts Second q) (Long a) n l = omega arith
fewer_left (Parts Second q) s n l = omega (arith, l)
fewer_left (Parts Zero q) s n l = lower_fewer Zero q s n refl (omega (arith, l))
fewer_left (Parts One q) s n l = lower_fewer One q s n refl (omega (arith, l))
fewer_left (Parts Two q) s n l = lower_fewer Two q s n refl (omega (arith, l))

found_by : (cut : Cut) (slots : List Slot) → words_left cut ≡ 0 → cut_by cut slots ≡ cut
found_by cut [] h = refl
found_by cut (s ∷ ss) h = ap (λ d. cut_by d ss) (all_found cut s h) ∙ found_by cut ss h

-- no more operands are looked at than there are words
taken_enough : (cut : Cut) (slots : List Slot) (n : ℕ) → words_left cut ≤ n → cut_by cut (take n slots) ≡ cut_by cut slots
taken_enough cut [] zero l = refl
taken_enough cut [] (suc n) l = refl
taken_enough cut (s ∷ ss) zero l =
    let none : words_left cut ≡ 0 = omega (arith, l) in
    sym (found_by cut (s ∷ ss) none)
taken_enough cut (s ∷ ss) (suc n) l = taken_enough (next cut s) ss n (fewer_left cut s n l)

reached : (form : Shuffle) → words_left (first_cut form) ≡ upper form + lower form
reached Pop = refl
reached Pop2 = refl
reached Dup = refl
reached DupX1 = refl
reached DupX2 = refl
reached Dup2 = refl
reached Dup2X1 = refl
reached Dup2X2 = refl
reached Swap = refl

lesser : (a b i : ℕ) → min a b ≤ i → (a ≤ i) ⊎ (b ≤ i)
lesser zero b i h = inl (omega arith)
lesser (suc a) zero i h = inr (omega arith)
lesser (suc a) (suc b) zero h = absurd (omega (arith, h))
lesser (suc a) (suc b) (suc i) h = elim (lesser a b i (omega (arith, h))) [ inl l ↦ inl (omega (arith, l)) | inr l ↦ inr (omega (arith, l)) ]

pub cut_by-reached : (form : Shuffle) (slots : List Slot) (i : ℕ) → min (length slots) (upper form + lower form) ≤ i → cut_by (first_cut form) (take i slots) ≡ cut_by (first_cut form) slots
cut_by-reached form slots i h = by_side (lesser (length slots) (upper form + lower form) i h)
  where
    by_side : (length slots ≤ i) ⊎ (upper form + lower form ≤ i) → cut_by (first_cut form) (take i slots) ≡ cut_by (first_cut form) slots
    by_side (inl l) = ap (cut_by (first_cut form)) (take_all i slots l)
    by_side (inr l) = taken_enough (first_cut form) slots i (omega (arith, l, reached form))

-- ---- values that are there

within_more : (o : Option ℕ) (m : ℕ) → ((k : ℕ) → o ≡ Some k → k ≤ m) → (k : ℕ) → option_map suc o ≡ Some k → k ≤ suc m
within_more None m f k e = cc
within_more (Some n) m f k e =
    let same : suc n ≡ k = cc in
    omega (arith, same, f n refl)

values_within : (n : ℕ) (slots : List Slot) (k : ℕ) → values_in n slots ≡ Some k → k ≤ length slots
values_within zero slots k e =
    let none : 0 ≡ k = cc in
    omega (arith, none)
values_within (suc n) [] k e = cc
values_within (suc zero) (Long a ∷ slots) k e = cc
values_within (suc (suc n)) (Long a ∷ slots) k e = within_more (values_in n slots) (length slots) (values_within n slots) k e
values_within (suc n) (s ∷ slots) k e = within_more (values_in n slots) (length slots) (values_within n slots) k e

abbrev upper_or : Option (ℕ × ℕ) → ℕ
upper_or None = 0
upper_or (Some t) = t.0

abbrev lower_or : Option (ℕ × ℕ) → ℕ
lower_or None = 0
lower_or (Some t) = t.1

both_within : (p q : Part) (slots : List Slot) (u l : ℕ) → ((n : ℕ) → more p n ≡ n) → ((n : ℕ) → more q n ≡ n) → counts_of (cut_by (Parts p q) slots) ≡ Some (u, l) → u + l ≤ length slots
both_within p q slots u l f g e = upper_within (values_in (left p) slots) (values_within (left p) slots) (sym (cut_counts p q slots) ∙ e)
  where
    lower_within : (n : ℕ) (o : Option ℕ) → n ≤ length slots → ((k : ℕ) → o ≡ Some k → k ≤ length (drop n slots)) → lower_counted p q n o ≡ Some (u, l) → u + l ≤ length slots
    lower_within n None m h e = cc
    lower_within n (Some k) m h e =
        let above : more p n ≡ u = ap upper_or e in
        let under : more q k ≡ l = ap lower_or e in
        omega (arith, above, under, f n, g k, m, h k refl, length-drop n slots)

    upper_within : (o : Option ℕ) → ((k : ℕ) → o ≡ Some k → k ≤ length slots) → counted p q slots o ≡ Some (u, l) → u + l ≤ length slots
    upper_within None h e = cc
    upper_within (Some n) h e = lower_within n (values_in (left q) (drop n slots)) (h n refl) (values_within (left q) (drop n slots)) e

more_looked_for : (words n : ℕ) → more (part_of_words words) n ≡ n
more_looked_for zero n = refl
more_looked_for (suc zero) n = refl
more_looked_for (suc (suc words)) n = refl

pub counts_within : (form : Shuffle) (slots : List Slot) (u l : ℕ) → counts_of (cut_by (first_cut form) slots) ≡ Some (u, l) → u + l ≤ length slots
counts_within form slots u l e = both_within (part_of_words (upper form)) (part_of_words (lower form)) slots u l (more_looked_for (upper form)) (more_looked_for (lower form)) e
