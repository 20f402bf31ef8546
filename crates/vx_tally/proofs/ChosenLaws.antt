-- A choice by two sets: answers of a longer list of nodes, of both halves of a question, and with a number put back.
use Rattle.std.proofs.Common.{◌≡◌, ◌≢◌, ◌⊎◌, ℕ, ◌+◌, ◌-◌, ◌<◌, ◌≤◌, ◌^◌, Bool, true, false, List, ◌++◌, length, refl, sym, ◌∙◌, ap, subst, arith, inl, inr}
use Rattle.std.specs.Prelude.{Option, Some, None, if◌then◌else◌, min, All, IfSome, slice_get}
use Rattle.std.proofs.lemmas.List.Elements.{All-weaker}
use Rattle.vx_space.specs.Config.{value_of}
use Rattle.vx_space.specs.Sets.{Sets, IsLawful}
use Rattle.vx_bdd_tools.specs.Steps.{IsFreeBelow}
use Rattle.vx_tally.specs.declared.node.Edge.{Edge}
use Rattle.vx_tally.specs.declared.node.TallyNode.{TallyNode}
use Rattle.vx_tally.specs.declared.memo.Question.{Question}
use Rattle.vx_tally.specs.declared.memo.Known.{Known}
use Rattle.vx_tally.specs.Tally.{edge_at, sum_of, level, AreNodes}
use Rattle.vx_tally.specs.Parts.{IsHalf, IsSide, IsLeastOfBoth}
use Rattle.vx_tally.specs.Made.{MadeView, IsGrown, IsMade, IsCopy, AreCopies}
use Rattle.vx_tally.specs.Answers.{IsNoted, SaysAt, IsChoice, AsksFrom, IsChosenEdge, IsChosen, IsWork, IsChosenStep, IsHalfQuestion, IsEither, lowered_by, raised_by}
use Rattle.vx_tally.proofs.NodeLaws.{edge_at-append, level-append}
use Rattle.vx_tally.proofs.SetLaws.{none_in, all_in}
use Rattle.vx_tally.proofs.MadeLaws.{length-grown, level-grown, edge_at-grown, AreCopies-grown, IsGrown-refl, IsGrown-trans}
use Rattle.vx_tally.proofs.MemoLaws.{All-noted}

pub not_both : (b : Bool) → b ≡ true → b ≡ false → ⊥
not_both b e f = cc

-- what is made for a space has its options
grown_nodes : (options : ℕ) (old new : MadeView) → old.options ≡ options → IsGrown old new → AreNodes options new.nodes
grown_nodes options old new e g =
    let P : ℕ → Type 0 = λ n. AreNodes n new.nodes in
    subst P (g.options ∙ e) g.nodes

old_nodes : (options : ℕ) (old : MadeView) → old.options ≡ options → AreNodes options old.nodes → AreNodes old.options old.nodes
old_nodes options old e r =
    let P : ℕ → Type 0 = λ n. AreNodes n old.nodes in
    subst P (sym e) r

level_kept : (options : ℕ) (old new : MadeView) → old.options ≡ options → IsGrown old new → (place : ℕ) → place ≤ length old.nodes → level options new.nodes place ≡ level options old.nodes place
level_kept options old new e g place l = ap (λ xs. level options xs place) g.grows ∙ level-append options old.nodes g.more place l

-- answers of a longer list
pub IsChosenEdge-grown : {I : Type 0} (sets : Sets I) (first second : List TallyNode) (old new : MadeView) (asked : Question I) (edge : Edge) → old.options ≡ sets.options → AreNodes sets.options old.nodes → IsGrown old new → IsChosenEdge sets first second old.nodes asked edge → IsChosenEdge sets first second new.nodes asked edge
IsChosenEdge-grown sets first second old new asked edge e r g h =
    let kept : (c : List Bool) → edge_at new.nodes edge c ≡ edge_at old.nodes edge c = λ c. edge_at-grown old new (old_nodes sets.options old e r) g edge c h.given in
    record {
      given = omega (arith, h.given, length-grown old new g);
      later = λ i f. omega (arith, h.later i f, level_kept sets.options old new e g edge.place h.given);
      in_first = λ c t l. kept c ∙ h.in_first c t l;
      in_second = λ c t u l. kept c ∙ h.in_second c t u l;
    }

pub IsChosen-grown : {I : Type 0} (sets : Sets I) (first second : List TallyNode) (old new : MadeView) (asked : Question I) (answer : Option Edge) → old.options ≡ sets.options → AreNodes sets.options old.nodes → IsGrown old new → IsChosen sets first second old.nodes asked answer → IsChosen sets first second new.nodes asked answer
IsChosen-grown sets first second old new asked None e r g h = h
IsChosen-grown sets first second old new asked (Some edge) e r g h = IsChosenEdge-grown sets first second old new asked edge e r g h

pub IsWork-grown : {I : Type 0} (sets : Sets I) (first second : List TallyNode) (old new : MadeView) (ones twos : List (Option ℕ)) (answers : List (Known I (Option Edge))) → IsWork sets first second old ones twos answers → IsGrown old new → IsWork sets first second new ones twos answers
IsWork-grown {I = I} sets first second old new ones twos answers w g =
    let r = old_nodes sets.options old w.options w.nodes in
    let P : Known I (Option Edge) → Type 0 = λ k. IsChosen sets first second old.nodes k.question k.answer in
    let Q : Known I (Option Edge) → Type 0 = λ k. IsChosen sets first second new.nodes k.question k.answer in
    record {
      options = g.options ∙ w.options;
      nodes = grown_nodes sets.options old new w.options g;
      copies = AreCopies-grown first old new ones r g w.copies;
      others = AreCopies-grown second old new twos r g w.others;
      known = All-weaker P Q (λ k h. IsChosen-grown sets first second old new k.question k.answer w.options w.nodes g h) answers w.known;
    }

-- with copies of the first tally, and of the second one
pub IsWork-first : {I : Type 0} (sets : Sets I) (first second : List TallyNode) (old new : MadeView) (ones ones' twos : List (Option ℕ)) (answers : List (Known I (Option Edge))) → IsWork sets first second old ones twos answers → IsGrown old new → AreCopies first new ones' → IsWork sets first second new ones' twos answers
IsWork-first sets first second old new ones ones' twos answers w g h =
    let v = IsWork-grown sets first second old new ones twos answers w g in
    record { options = v.options; nodes = v.nodes; copies = h; others = v.others; known = v.known }

pub IsWork-second : {I : Type 0} (sets : Sets I) (first second : List TallyNode) (old new : MadeView) (ones twos twos' : List (Option ℕ)) (answers : List (Known I (Option Edge))) → IsWork sets first second old ones twos answers → IsGrown old new → AreCopies second new twos' → IsWork sets first second new ones twos' answers
IsWork-second sets first second old new ones twos twos' answers w g h =
    let v = IsWork-grown sets first second old new ones twos answers w g in
    record { options = v.options; nodes = v.nodes; copies = v.copies; others = h; known = v.known }

-- with one answer more
pub IsWork-noted : {I : Type 0} (sets : Sets I) (first second : List TallyNode) (made : MadeView) (ones twos : List (Option ℕ)) (old new : List (Known I (Option Edge))) (asked : Question I) (answer : Option Edge) → IsWork sets first second made ones twos old → IsChosen sets first second made.nodes asked answer → All (IsNoted (record { question = asked; answer = answer }) old) new → IsWork sets first second made ones twos new
IsWork-noted {I = I} sets first second made ones twos old new asked answer w h n =
    let P : Known I (Option Edge) → Type 0 = λ k. IsChosen sets first second made.nodes k.question k.answer in
    record { options = w.options; nodes = w.nodes; copies = w.copies; others = w.others; known = All-noted P (record { question = asked; answer = answer }) old new n w.known h }

-- ---- where one set tells all

later_copy : (options : ℕ) (from : List TallyNode) (made : MadeView) (place copy i : ℕ) → made.options ≡ options → IsCopy from made place copy → i ≤ level options from place → i ≤ level options made.nodes copy
later_copy options from made place copy i e k l = omega (arith, l, rw e at k.later)

pub first_tells : {I : Type 0} {sets : Sets I} → IsLawful sets → (first second : List TallyNode) (made : MadeView) (asked : Question I) (copy : ℕ) → made.options ≡ sets.options → (asked.b ≡ sets.never) ⊎ (asked.a ≡ sets.always) → IsCopy first made asked.first.place copy → IsChosenEdge sets first second made.nodes asked (record { place = copy; more = asked.first.more })
first_tells {sets = sets} lawful first second made asked copy e h k = record {
  given = k.given;
  later = λ i f. later_copy sets.options first made asked.first.place copy i e k f.first;
  in_first = λ c t l. ap (λ n. asked.first.more + n) (k.number c);
  in_second = λ c t u l. absurd (elim h [
    | inl n ↦ not_both (sets.test asked.b c) u (none_in lawful asked.b c n)
    | inr a ↦ not_both (sets.test asked.a c) (all_in lawful asked.a c a) t
  ]);
}

pub second_tells : {I : Type 0} {sets : Sets I} → IsLawful sets → (first second : List TallyNode) (made : MadeView) (asked : Question I) (copy : ℕ) → made.options ≡ sets.options → asked.a ≡ sets.never → IsCopy second made asked.second.place copy → IsChosenEdge sets first second made.nodes asked (record { place = copy; more = asked.second.more })
second_tells {sets = sets} lawful first second made asked copy e n k = record {
  given = k.given;
  later = λ i f. later_copy sets.options second made asked.second.place copy i e k f.second;
  in_first = λ c t l. absurd (not_both (sets.test asked.a c) t (none_in lawful asked.a c n));
  in_second = λ c t u l. ap (λ n. asked.second.more + n) (k.number c);
}

-- ---- both halves of a question

-- a half says of a configuration that has its value what the whole asks
half_first : {I : Type 0} {sets : Sets I} (one other made : List TallyNode) (asked half : Question I) (option : ℕ) (value : Bool) (edge : Edge) → IsHalfQuestion sets one other asked option value half → IsChosenEdge sets one other made half edge → (c : List Bool) → value_of c option ≡ value → sets.test asked.a c ≡ true → SaysAt one asked.first made edge c
half_first one other made asked half option value edge h k c v t l =
    let same = h.first.number c v l in
    k.in_first c (sym (h.a.test c v) ∙ t) (omega (arith, same, l)) ∙ same

half_second : {I : Type 0} {sets : Sets I} (one other made : List TallyNode) (asked half : Question I) (option : ℕ) (value : Bool) (edge : Edge) → IsHalfQuestion sets one other asked option value half → IsChosenEdge sets one other made half edge → (c : List Bool) → value_of c option ≡ value → sets.test asked.a c ≡ false → sets.test asked.b c ≡ true → SaysAt other asked.second made edge c
half_second one other made asked half option value edge h k c v t u l =
    let same = h.second.number c v l in
    k.in_second c (sym (h.a.test c v) ∙ t) (sym (h.b.test c v) ∙ u) (omega (arith, same, l)) ∙ same

-- nothing of a half that is never
pub half_none : {I : Type 0} {sets : Sets I} → IsLawful sets → (id half : I) (option : ℕ) (value : Bool) → IsHalf sets id option value half → half ≡ sets.never → (c : List Bool) → value_of c option ≡ value → sets.test id c ≡ false
half_none lawful id half option value h n c v = h.test c v ∙ none_in lawful half c n

pub both_none : {I : Type 0} {sets : Sets I} → IsLawful sets → (id low high : I) (option : ℕ) → sets.is_known id ≡ true → IsHalf sets id option false low → IsHalf sets id option true high → low ≡ sets.never → high ≡ sets.never → id ≡ sets.never
both_none {sets = sets} lawful id low high option k l h m n = lawful.equal_sets id sets.never k lawful.never_known (λ c. by c (value_of c option) refl ∙ sym (lawful.never_test c))
  where
    by : (c : List Bool) (b : Bool) → value_of c option ≡ b → sets.test id c ≡ false
    by c false v = half_none lawful id low option false l m c v
    by c true v = half_none lawful id high option true h n c v

-- the answer of one half, where the other is never
pub IsChosen-one : {I : Type 0} {sets : Sets I} → IsLawful sets → (one other made : List TallyNode) (asked half rest : Question I) (option : ℕ) (value : Bool) (against : Bool) (edge : Edge) → ((b : Bool) → (b ≡ value) ⊎ (b ≡ against)) → ((i : ℕ) → AsksFrom sets one other asked i → i ≤ option) → IsHalfQuestion sets one other asked option value half → IsHalfQuestion sets one other asked option against rest → rest.a ≡ sets.never → rest.b ≡ sets.never → IsChosenEdge sets one other made half edge → IsChosenEdge sets one other made asked edge
IsChosen-one {sets = sets} lawful one other made asked half rest option value against edge cases greatest h r m n k = record {
  given = k.given;
  later = λ i f. omega (arith, greatest i f, k.later (option + 1) h.from);
  in_first = λ c t. elim (cases (value_of c option)) [
    | inl v ↦ half_first one other made asked half option value edge h k c v t
    | inr v ↦ absurd (not_both (sets.test asked.a c) t (half_none lawful asked.a rest.a option against r.a m c v))
  ];
  in_second = λ c t u. elim (cases (value_of c option)) [
    | inl v ↦ half_second one other made asked half option value edge h k c v t u
    | inr v ↦ absurd (not_both (sets.test asked.b c) u (half_none lawful asked.b rest.b option against r.b n c v))
  ];
}

off_or_on : (b : Bool) → (b ≡ false) ⊎ (b ≡ true)
off_or_on false = inl refl
off_or_on true = inr refl

on_or_off : (b : Bool) → (b ≡ true) ⊎ (b ≡ false)
on_or_off true = inl refl
on_or_off false = inr refl

-- the answer that stands for both
pub IsChosen-both : {I : Type 0} {sets : Sets I} (one other : List TallyNode) (old new : MadeView) (asked low high : Question I) (option : ℕ) (off on edge : Edge) → new.options ≡ sets.options → ((i : ℕ) → AsksFrom sets one other asked i → i ≤ option) → IsHalfQuestion sets one other asked option false low → IsHalfQuestion sets one other asked option true high → IsChosenEdge sets one other old.nodes low off → IsChosenEdge sets one other old.nodes high on → IsMade option off on old new edge → IsChosenEdge sets one other new.nodes asked edge
IsChosen-both {sets = sets} one other old new asked low high option off on edge e greatest l h p q m = record {
  given = m.given;
  later = λ i f. omega (arith, greatest i f, rw e at m.later);
  in_first = λ c t s. m.number c ∙ first c t s (value_of c option) refl;
  in_second = λ c t u s. m.number c ∙ second c t u s (value_of c option) refl;
}
  where
    first : (c : List Bool) → sets.test asked.a c ≡ true → edge_at one asked.first c < 2 ^ 64 → (b : Bool) → value_of c option ≡ b → (if b then edge_at old.nodes on c else edge_at old.nodes off c) ≡ edge_at one asked.first c
    first c t s false v = half_first one other old.nodes asked low option false off l p c v t s
    first c t s true v = half_first one other old.nodes asked high option true on h q c v t s

    second : (c : List Bool) → sets.test asked.a c ≡ false → sets.test asked.b c ≡ true → edge_at other asked.second c < 2 ^ 64 → (b : Bool) → value_of c option ≡ b → (if b then edge_at old.nodes on c else edge_at old.nodes off c) ≡ edge_at other asked.second c
    second c t u s false v = half_second one other old.nodes asked low option false off l p c v t u s
    second c t u s true v = half_second one other old.nodes asked high option true on h q c v t u s

-- the answer of the whole from those of its halves
pub IsChosen-divided : {I : Type 0} {sets : Sets I} → IsLawful sets → (one other : List TallyNode) (old new : MadeView) (asked low high : Question I) (option : ℕ) (off on answer : Option Edge) → IsChoice sets one other asked → old.options ≡ sets.options → AreNodes sets.options old.nodes → ((i : ℕ) → AsksFrom sets one other asked i → i ≤ option) → IsHalfQuestion sets one other asked option false low → IsHalfQuestion sets one other asked option true high → IsChosen sets one other old.nodes low off → IsChosen sets one other old.nodes high on → IsEither option off on old new answer → IsChosen sets one other new.nodes asked answer
IsChosen-divided {sets = sets} lawful one other old new asked low high option None None answer k e r greatest l h p q m =
    let P : Option Edge → Type 0 = λ x. IsChosen sets one other new.nodes asked x in
    subst P (sym m.0) (both_none lawful asked.a low.a high.a option k.a_known l.a h.a p.0 q.0, both_none lawful asked.b low.b high.b option k.b_known l.b h.b p.1 q.1)
IsChosen-divided {sets = sets} lawful one other old new asked low high option None (Some on) answer k e r greatest l h p q m =
    let P : Option Edge → Type 0 = λ x. IsChosen sets one other new.nodes asked x in
    let Q : MadeView → Type 0 = λ x. IsChosenEdge sets one other x.nodes asked on in
    subst P (sym m.0) (subst Q (sym m.1) (IsChosen-one lawful one other old.nodes asked high low option true false on on_or_off greatest h l p.0 p.1 q))
IsChosen-divided {sets = sets} lawful one other old new asked low high option (Some off) None answer k e r greatest l h p q m =
    let P : Option Edge → Type 0 = λ x. IsChosen sets one other new.nodes asked x in
    let Q : MadeView → Type 0 = λ x. IsChosenEdge sets one other x.nodes asked off in
    subst P (sym m.0) (subst Q (sym m.1) (IsChosen-one lawful one other old.nodes asked low high option false true off off_or_on greatest l h q.0 q.1 p))
IsChosen-divided lawful one other old new asked low high option (Some off) (Some on) None k e r greatest l h p q m = absurd m
IsChosen-divided lawful one other old new asked low high option (Some off) (Some on) (Some edge) k e r greatest l h p q m = IsChosen-both one other old new asked low high option off on edge (m.grown.options ∙ e) greatest l h p q m

pub IsGrown-either : (option : ℕ) (off on answer : Option Edge) (old new : MadeView) → IsGrown old old → IsEither option off on old new answer → IsGrown old new
IsGrown-either option None on answer old new g m = subst (λ x. IsGrown old x) (sym m.1) g
IsGrown-either option (Some off) None answer old new g m = subst (λ x. IsGrown old x) (sym m.1) g
IsGrown-either option (Some off) (Some on) None old new g m = absurd m
IsGrown-either option (Some off) (Some on) (Some edge) old new g m = m.grown

-- ---- a number that is taken out, and put back

put_back : (m less s f n limit : ℕ) → less ≤ f → m + s ≡ f - less + n → f + n < limit → min (m + less) (limit - 1) + s ≡ f + n
put_back m less s f n limit l e k = omega (arith, l, e, k)

lowered_fits : (f less n limit : ℕ) → f + n < limit → f - less + n < limit
lowered_fits f less n limit k = omega (arith, k)

asks_lowered : {I : Type 0} {sets : Sets I} (one other : List TallyNode) (asked : Question I) (less i : ℕ) → AsksFrom sets one other asked i → AsksFrom sets one other (lowered_by asked less) i
asks_lowered one other asked less i f = record { a = f.a; b = f.b; first = f.first; second = f.second }

pub IsChoice-lowered : {I : Type 0} {sets : Sets I} (one other : List TallyNode) (asked : Question I) (less : ℕ) → IsChoice sets one other asked → IsChoice sets one other (lowered_by asked less)
IsChoice-lowered one other asked less k = record { a_known = k.a_known; b_known = k.b_known; first_nodes = k.first_nodes; second_nodes = k.second_nodes; first_given = k.first_given; second_given = k.second_given }

pub IsChosen-raised : {I : Type 0} (sets : Sets I) (one other made : List TallyNode) (asked : Question I) (less : ℕ) (answer : Option Edge) → less ≡ min asked.first.more asked.second.more → IsChosen sets one other made (lowered_by asked less) answer → IsChosen sets one other made asked (raised_by less answer)
IsChosen-raised sets one other made asked less None e h = h
IsChosen-raised sets one other made asked less (Some edge) e h = record {
  given = h.given;
  later = λ i f. h.later i (asks_lowered one other asked less i f);
  in_first = λ c t l.
      let n = sum_of one asked.first.place c in
      put_back edge.more less (sum_of made edge.place c) asked.first.more n (2 ^ 64) (omega (arith, e)) (h.in_first c t (lowered_fits asked.first.more less n (2 ^ 64) l)) l;
  in_second = λ c t u l.
      let n = sum_of other asked.second.place c in
      put_back edge.more less (sum_of made edge.place c) asked.second.more n (2 ^ 64) (omega (arith, e)) (h.in_second c t u (lowered_fits asked.second.more less n (2 ^ 64) l)) l;
}

-- what `either` needs of the answer of the first half
pub either_low : {I : Type 0} (sets : Sets I) (one other : List TallyNode) (old new : MadeView) (low : Question I) (option : ℕ) (off : Option Edge) → old.options ≡ sets.options → AreNodes sets.options old.nodes → IsGrown old new → AsksFrom sets one other low (option + 1) → IsChosen sets one other old.nodes low off → IfSome off (λ edge. (edge.place ≤ length new.nodes) × (option < level new.options new.nodes edge.place))
either_low sets one other old new low option None e r g f h = tt
either_low sets one other old new low option (Some edge) e r g f h = (omega (arith, h.given, length-grown old new g), omega (arith, h.later (option + 1) f, level-grown old new g edge.place h.given, ap (λ n. level n old.nodes edge.place) e))

-- the answer to a question that is divided
pub IsChosenStep-divided : {I : Type 0} {sets : Sets I} → IsLawful sets → (one other : List TallyNode) (made0 made1 made2 made3 made4 : MadeView) (asked lesser low high : Question I) (option less : ℕ) (off on answer : Option Edge) (ones2 twos2 ones3 twos3 : List (Option ℕ)) (known2 known3 known4 : List (Known I (Option Edge))) → IsChoice sets one other asked → lesser ≡ lowered_by asked less → less ≡ min asked.first.more asked.second.more → IsGrown made0 made1 → ((i : ℕ) → AsksFrom sets one other lesser i → i ≤ option) → IsHalfQuestion sets one other lesser option false low → IsHalfQuestion sets one other lesser option true high → IsChosenStep sets one other low made1 made2 ones2 twos2 known2 off → IsChosenStep sets one other high made2 made3 ones3 twos3 known3 on → IsEither option off on made3 made4 answer → All (IsNoted (record { question = lesser; answer = answer }) known3) known4 → IsChosenStep sets one other asked made0 made4 ones3 twos3 known4 (raised_by less answer)
IsChosenStep-divided {I = I} {sets = sets} lawful one other made0 made1 made2 made3 made4 asked lesser low high option less off on answer ones2 twos2 ones3 twos3 known2 known3 known4 k e m g1 greatest hl hh s2 s3 ei n =
    let Q : Question I → Type 0 = λ q. IsChoice sets one other q in
    let P : Question I → Type 0 = λ q. IsChosen sets one other made4.nodes q answer in
    let p = IsChosen-grown sets one other made2 made3 low off s2.work.options s2.work.nodes s3.grown s2.chosen in
    let g4 = IsGrown-either option off on answer made3 made4 (IsGrown-refl made3 (old_nodes sets.options made3 s3.work.options s3.work.nodes)) ei in
    let here = IsChosen-divided lawful one other made3 made4 lesser low high option off on answer (subst Q (sym e) (IsChoice-lowered one other asked less k)) s3.work.options s3.work.nodes greatest hl hh p s3.chosen ei in
    record {
      grown = IsGrown-trans made0 made1 made4 g1 (IsGrown-trans made1 made2 made4 s2.grown (IsGrown-trans made2 made3 made4 s3.grown g4));
      work = IsWork-noted sets one other made4 ones3 twos3 known3 known4 lesser answer (IsWork-grown sets one other made3 made4 ones3 twos3 known3 s3.work g4) here n;
      chosen = IsChosen-raised sets one other made4.nodes asked less answer m (subst P e here);
    }
