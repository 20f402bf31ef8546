-- Where a number is at least a bound: bounds of sums, nothing, and both parts of a set and of a place.
use Rattle.std.proofs.Common.{◌≡◌, ◌⊎◌, ℕ, ◌+◌, ◌-◌, ◌<◌, ◌≤◌, ◌^◌, Bool, true, false, List, [], ◌∷◌, ◌++◌, length, get_or, refl, sym, ◌∙◌, ap, subst, arith, zero, suc, inl, inr, length-append}
use Rattle.std.specs.Prelude.{Some, All, min, max, nat_le, ◌&&◌, ◌||◌, not, if◌then◌else◌, slice_get}
use Rattle.std.proofs.lemmas.Bool.Decides.{nat_tests}
use Rattle.std.proofs.lemmas.List.Elements.{All-weaker}
use Rattle.std.proofs.lemmas.Option.{slice_get-get_or}
use Rattle.vx_space.specs.Config.{value_of}
use Rattle.vx_space.specs.Sets.{Sets, IsSet, Extends, IsLawful}
use Rattle.vx_space.proofs.Spaces.{Extends-trans}
use Rattle.vx_bdd_tools.specs.Steps.{IsFreeBelow}
use Rattle.vx_tally.specs.declared.node.Edge.{Edge}
use Rattle.vx_tally.specs.declared.node.TallyNode.{TallyNode}
use Rattle.vx_tally.specs.declared.memo.Known.{Known}
use Rattle.vx_tally.specs.declared.memo.Question.{Question}
use Rattle.vx_tally.specs.declared.parts.Division.{Division}
use Rattle.vx_tally.specs.Tally.{sum_of, edge_at, AreNodes}
use Rattle.vx_tally.specs.Parts.{IsDivision}
use Rattle.vx_tally.specs.Answers.{AreBounds, IsReached, AreReached, IsNoted}
use Rattle.vx_tally.proofs.NodeLaws.{last_or_before, sum-end, sum-node}
use Rattle.vx_tally.proofs.MemoLaws.{All-noted}

pub at_least : (a b : ℕ) → a ≤ b → nat_le a b ≡ true
at_least a b l = grind (arith, nat_tests)

pub less_than : (a b : ℕ) → b < a → nat_le a b ≡ false
less_than a b l = grind (arith, nat_tests)

pub order : (a b : ℕ) → (a ≤ b) ⊎ (b < a)
order zero b = inl (omega arith)
order (suc a) zero = inr (omega arith)
order (suc a) (suc b) = elim (order a b) [ inl l ↦ inl (omega (arith, l)) | inr l ↦ inr (omega (arith, l)) ]

-- what is left of a bound behind what is added
pub left_of : (bound more s : ℕ) → nat_le (bound - more) s ≡ nat_le bound (more + s)
left_of bound more s = elim (order bound (more + s)) [
  | inl l ↦ at_least (bound - more) s (omega (arith, l)) ∙ sym (at_least bound (more + s) l)
  | inr l ↦ less_than (bound - more) s (omega (arith, l)) ∙ sym (less_than bound (more + s) l)
]

and_false : (b : Bool) → (b && false) ≡ false
and_false true = refl
and_false false = refl

and_true : (b : Bool) → b ≡ (b && true)
and_true true = refl
and_true false = refl

-- ---- bounds

pub AreBounds-start : (nodes : List TallyNode) → AreBounds nodes 0 (0 ∷ [])
AreBounds-start nodes = record { number = omega arith; each = λ place bound e l c. at place bound e c }
  where
    at : (place bound : ℕ) → slice_get (0 ∷ []) place ≡ Some bound → (c : List Bool) → sum_of nodes place c ≤ bound
    at zero bound e c = omega (arith, sum-end nodes c)
    at (suc place) bound e c = cc

edge_bound : (nodes : List TallyNode) (count : ℕ) (bounds : List ℕ) (edge : Edge) (most : ℕ) (c : List Bool) → AreBounds nodes count bounds → edge.place < length bounds → min (get_or bounds edge.place 0 + edge.more) (2 ^ 64 - 1) ≤ most → most < 2 ^ 64 - 1 → edge_at nodes edge c ≤ most
edge_bound nodes count bounds edge most c h l m k =
    let there = slice_get-get_or bounds edge.place 0 l in
    let below : get_or bounds edge.place 0 < 2 ^ 64 - 1 = omega (arith, m, k) in
    let sum = h.each edge.place (get_or bounds edge.place 0) there below c in
    omega (arith, m, k, sum)

pub AreBounds-push : {options : ℕ} {nodes : List TallyNode} → AreNodes options nodes → (index : ℕ) (d : TallyNode) (bounds : List ℕ) (low high most : ℕ) → index < length nodes → AreBounds nodes index bounds → low ≡ min (get_or bounds (get_or nodes index d).low.place 0 + (get_or nodes index d).low.more) (2 ^ 64 - 1) → high ≡ min (get_or bounds (get_or nodes index d).high.place 0 + (get_or nodes index d).high.more) (2 ^ 64 - 1) → most ≡ max low high → AreBounds nodes (index + 1) (bounds ++ most ∷ [])
AreBounds-push {nodes = nodes} r index d bounds low high most i h l k m = record {
  number = omega (arith, length-append bounds (most ∷ []), h.number);
  each = λ place bound e b c. elim (last_or_before bounds most bound place e) [
    | inl p ↦ h.each place bound p.1 b c
    | inr p ↦
        let node = get_or nodes index d in
        let there = slice_get-get_or nodes index d i in
        let rules = r.each index node there in
        let here : place ≡ suc index = omega (arith, p.0, h.number) in
        let small : most < 2 ^ 64 - 1 = omega (arith, b, p.1) in
        let both = by c small (value_of c node.option) in
        let whole : sum_of nodes place c ≡ edge_at nodes (if value_of c node.option then node.high else node.low) c = ap (λ x. sum_of nodes x c) here ∙ sum-node r (suc index) node c there in
        omega (arith, whole, both, p.1)
  ];
}
  where
    by : (c : List Bool) → most < 2 ^ 64 - 1 → (v : Bool) → edge_at nodes (if v then (get_or nodes index d).high else (get_or nodes index d).low) c ≤ most
    by c s true =
        let rules = r.each index (get_or nodes index d) (slice_get-get_or nodes index d i) in
        edge_bound nodes index bounds (get_or nodes index d).high most c h (omega (arith, rules.high_given, h.number)) (omega (arith, k, m)) s
    by c s false =
        let rules = r.each index (get_or nodes index d) (slice_get-get_or nodes index d i) in
        edge_bound nodes index bounds (get_or nodes index d).low most c h (omega (arith, rules.low_given, h.number)) (omega (arith, l, m)) s

-- ---- nothing, and all

pub none-end : {I : Type 0} (sets : Sets I) (nodes : List TallyNode) (set : I) (place bound : ℕ) → place ≡ 0 → 0 < bound → (c : List Bool) → (sets.test set c && nat_le bound (sum_of nodes place c)) ≡ false
none-end sets nodes set place bound e l c =
    let nothing : sum_of nodes place c ≡ 0 = ap (λ p. sum_of nodes p c) e ∙ sum-end nodes c in
    rw (less_than bound (sum_of nodes place c) (omega (arith, l, nothing))) (and_false (sets.test set c))

pub none-bound : {I : Type 0} (sets : Sets I) (nodes : List TallyNode) (set : I) (count : ℕ) (bounds : List ℕ) (place bound limit : ℕ) → AreBounds nodes count bounds → place < length bounds → get_or bounds place 0 < bound → bound < limit → limit ≡ 2 ^ 64 → (c : List Bool) → (sets.test set c && nat_le bound (sum_of nodes place c)) ≡ false
none-bound sets nodes set count bounds place bound limit h p l m e c =
    let there = slice_get-get_or bounds place 0 p in
    let sum = h.each place (get_or bounds place 0) there (omega (arith, l, m, e)) c in
    rw (less_than bound (sum_of nodes place c) (omega (arith, l, sum))) (and_false (sets.test set c))

pub none-never : {I : Type 0} {sets : Sets I} → IsLawful sets → (nodes : List TallyNode) (set : I) (place bound : ℕ) → set ≡ sets.never → (c : List Bool) → (sets.test set c && nat_le bound (sum_of nodes place c)) ≡ false
none-never {sets = sets} lawful nodes set place bound e c = rw (ap (λ x. sets.test x c) e ∙ lawful.never_test c) refl

pub IsSet-all : {I : Type 0} (sets : Sets I) (nodes : List TallyNode) (set : I) (place bound : ℕ) → sets.is_known set ≡ true → bound ≡ 0 → IsSet sets set (λ c. sets.test set c && nat_le bound (sum_of nodes place c))
IsSet-all sets nodes set place bound k e = record {
  known = k;
  test = λ c. rw (at_least bound (sum_of nodes place c) (omega (arith, e))) (and_true (sets.test set c));
}

pub IsSet-none : {I : Type 0} {sets : Sets I} → IsLawful sets → (id : I) (set : List Bool → Bool) → id ≡ sets.never → ((c : List Bool) → set c ≡ false) → IsSet sets id set
IsSet-none {sets = sets} lawful id set e none = record {
  known = ap (λ x. sets.is_known x) e ∙ lawful.never_known;
  test = λ c. ap (λ x. sets.test x c) e ∙ lawful.never_test c ∙ sym (none c);
}

-- ---- one set with an option off, and another with it on

either_test : (v low high : Bool) → ((low && not v) || (v && high)) ≡ (if v then high else low)
either_test true true true = refl
either_test true true false = refl
either_test true false true = refl
either_test true false false = refl
either_test false true high = refl
either_test false false high = refl

pub IsSet-either : {I : Type 0} {s0 s1 s2 s3 : Sets I} (s4 : Sets I) (option : ℕ) (low high on above below id : I) → s0.is_known low ≡ true → s0.is_known high ≡ true → Extends s0 s1 → IsSet s1 on (λ c. value_of c option) → Extends s1 s2 → IsSet s2 above (λ c. s1.test on c && s1.test high c) → Extends s2 s3 → IsSet s3 below (λ c. s2.test low c && not (s2.test on c)) → IsSet s4 id (λ c. s3.test below c || s3.test above c) → IsSet s4 id (λ c. if value_of c option then s0.test high c else s0.test low c)
IsSet-either {s0 = s0} {s1 = s1} {s2 = s2} {s3 = s3} s4 option low high on above below id kl kh e1 o e2 a e3 b i = record {
  known = i.known;
  test = λ c.
      let on1 : s1.test on c ≡ value_of c option = o.test c in
      let on2 : s2.test on c ≡ value_of c option = e2.test on c o.known ∙ on1 in
      let high1 : s1.test high c ≡ s0.test high c = e1.test high c kh in
      let low2 : s2.test low c ≡ s0.test low c = e2.test low c (e1.known low kl) ∙ e1.test low c kl in
      let above3 : s3.test above c ≡ (s1.test on c && s1.test high c) = e3.test above c a.known ∙ a.test c in
      i.test c ∙ rw (b.test c, above3, low2, on2, high1, on1) (either_test (value_of c option) (s0.test low c) (s0.test high c));
}

pub IsSet-same : {I : Type 0} (sets : Sets I) (option : ℕ) (low high : I) → sets.is_known low ≡ true → low ≡ high → IsSet sets low (λ c. if value_of c option then sets.test high c else sets.test low c)
IsSet-same sets option low high k e = record { known = k; test = λ c. by c (value_of c option) }
  where
    by : (c : List Bool) (b : Bool) → sets.test low c ≡ (if b then sets.test high c else sets.test low c)
    by c true = ap (λ x. sets.test x c) e
    by c false = refl

-- ---- both parts

pub IsFreeBelow-extends : {I : Type 0} {old new : Sets I} → Extends old new → (id : I) (i : ℕ) → old.is_known id ≡ true → IsFreeBelow old id i → IsFreeBelow new id i
IsFreeBelow-extends e id i k f = record { free = λ j l c. e.test id _ k ∙ f.free j l c ∙ sym (e.test id _ k) }

pub IsSet-divided : {I : Type 0} {s0 s1 s2 : Sets I} (s3 : Sets I) (nodes : List TallyNode) (set : I) (place bound : ℕ) (d : Division I) (below above id : I) → IsDivision s0 nodes set place d → Extends s0 s1 → IsSet s1 below (λ c. s0.test d.off c && nat_le (bound - d.low.more) (sum_of nodes d.low.place c)) → Extends s1 s2 → IsSet s2 above (λ c. s1.test d.on c && nat_le (bound - d.high.more) (sum_of nodes d.high.place c)) → IsSet s3 id (λ c. if value_of c d.option then s2.test above c else s2.test below c) → IsSet s3 id (λ c. s0.test set c && nat_le bound (sum_of nodes place c))
IsSet-divided {s0 = s0} {s1 = s1} {s2 = s2} s3 nodes set place bound d below above id i e1 b e2 a h = record {
  known = h.known;
  test = λ c. h.test c ∙ by c (value_of c d.option) refl;
}
  where
    by : (c : List Bool) (v : Bool) → value_of c d.option ≡ v → (if v then s2.test above c else s2.test below c) ≡ (s0.test set c && nat_le bound (sum_of nodes place c))
    by c true v =
        let whole : nat_le (bound - d.high.more) (sum_of nodes d.high.place c) ≡ nat_le bound (sum_of nodes place c) = left_of bound d.high.more (sum_of nodes d.high.place c) ∙ ap (nat_le bound) (i.high.number c v) in
        a.test c ∙ rw (e1.test d.on c i.on.known, whole, i.on.test c v) refl
    by c false v =
        let whole : nat_le (bound - d.low.more) (sum_of nodes d.low.place c) ≡ nat_le bound (sum_of nodes place c) = left_of bound d.low.more (sum_of nodes d.low.place c) ∙ ap (nat_le bound) (i.low.number c v) in
        e2.test below c b.known ∙ b.test c ∙ rw (whole, i.off.test c v) refl

-- ---- what is known

IsReached-extends : {I : Type 0} {old new : Sets I} → Extends old new → (nodes : List TallyNode) (asked : Question I) (id : I) → IsReached old nodes asked id → IsReached new nodes asked id
IsReached-extends e nodes asked id h = record {
  asked_known = e.known asked.a h.asked_known;
  known = e.known id h.known;
  test = λ c. e.test id c h.known ∙ h.test c ∙ rw (e.test asked.a c h.asked_known) refl;
}

pub AreReached-extends : {I : Type 0} {old new : Sets I} → Extends old new → (nodes : List TallyNode) (known : List (Known I I)) → AreReached old nodes known → AreReached new nodes known
AreReached-extends {I = I} {old = old} {new = new} e nodes known h =
    let P : Known I I → Type 0 = λ k. IsReached old nodes k.question k.answer in
    let Q : Known I I → Type 0 = λ k. IsReached new nodes k.question k.answer in
    All-weaker P Q (λ k p. IsReached-extends e nodes k.question k.answer p) known h

-- what is noted of the set that was asked of the space at entry
pub AreReached-noted : {I : Type 0} {s0 : Sets I} (s3 : Sets I) (nodes : List TallyNode) (old new : List (Known I I)) (asked : Question I) (id : I) → Extends s0 s3 → s0.is_known asked.a ≡ true → AreReached s3 nodes old → IsSet s3 id (λ c. s0.test asked.a c && nat_le asked.first.more (sum_of nodes asked.first.place c)) → All (IsNoted (record { question = asked; answer = id }) old) new → AreReached s3 nodes new
AreReached-noted {I = I} s3 nodes old new asked id e k h s n =
    let P : Known I I → Type 0 = λ x. IsReached s3 nodes x.question x.answer in
    All-noted P (record { question = asked; answer = id }) old new n h (record {
      asked_known = e.known asked.a k;
      known = s.known;
      test = λ c. s.test c ∙ rw (e.test asked.a c k) refl;
    })

-- what was answered before, in the space at entry
pub IsSet-known : {I : Type 0} (sets : Sets I) (nodes : List TallyNode) (asked : Question I) (id : I) → IsReached sets nodes asked id → IsSet sets id (λ c. sets.test asked.a c && nat_le asked.first.more (sum_of nodes asked.first.place c))
IsSet-known sets nodes asked id h = record { known = h.known; test = h.test }

pub ruleset reached_words = (IsSet-all, IsSet-none, IsSet-known, IsFreeBelow-extends, AreReached-extends, Extends-trans)
