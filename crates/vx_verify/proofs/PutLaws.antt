-- What is put in a store: types, operands on others, and what types and rows have in common.
use Rattle.std.proofs.Common.{Bool, List, [], ap, arith, false, length, refl, subst, suc, sym, true, zero, ℕ, ◌++◌, ◌+◌, ◌-◌, ◌<◌, ◌^◌, ◌∙◌, ◌∷◌, ◌≡◌}
use Rattle.std.proofs.lemmas.List.{map-append}
use Rattle.std.proofs.lemmas.List.Elements.{All-append, All-cons, All-head, All-nil, All-tail}
use Rattle.std.specs.List.{list_all}
use Rattle.std.specs.Prelude.{All, if◌then◌else◌, min}
use Rattle.vx_link.specs.declared.program.Program.{Program}
use Rattle.vx_list.specs.Places.{item_or}
use Rattle.vx_numbered.proofs.Growing.{grows_by_one, grows_itself, item_last, one_longer}
use Rattle.vx_numbered.proofs.ChainLaws.{chain_step, no_chain}
use Rattle.vx_numbered.proofs.TreeLaws.{halves_grow, halves_of, leaves_grow, leaves_of_halves, leaves_of_leaf, made_of_pair, tree_high, tree_low, tree_of_leaf}
use Rattle.vx_numbered.specs.Chains.{IsKnownStack, IsPushed, chain_of, words_at}
use Rattle.vx_numbered.specs.Trees.{Grows, IsPaired, pair_at}
use Rattle.vx_numbered.specs.declared.chains.Link.{Link}
use Rattle.vx_numbered.specs.declared.trees.Pair.{Pair}
use Rattle.vx_types.proofs.CommonLaws.{common_of_fitted, common_of_fitting}
use Rattle.vx_types.proofs.FitLaws.{fits_itself}
use Rattle.vx_types.specs.Common.{IsCommon}
use Rattle.vx_types.specs.Fits.{fits}
use Rattle.vx_types.specs.Flow.{stack_size}
use Rattle.vx_types.specs.Ranked.{IsRanked}
use Rattle.vx_types.specs.declared.types.VerType.{VerType}
use Rattle.vx_types.specs.declared.types.VerType.TheVariants.{Int, Long, Null, Ref, Top}
use Rattle.vx_verify.proofs.CommonLists.{common_append, common_itself}
use Rattle.vx_verify.proofs.StoreLaws.{later_itself, later_through, operands_grow, row_kept, row_types_kept, stack_types, store_grown, store_linked, type_kept, types_kept}
use Rattle.vx_verify.specs.Joining.{words_with}
use Rattle.vx_verify.specs.States.{AreCommon, AreTypes, HasStack, HasType, IsCommonNumber, IsCommonRow, IsLater, IsLinked, IsRow, IsStack, IsStore, operands_at, row_at, type_at, types_at, words_of}
use Rattle.vx_verify.specs.Typing.{is_known}
use Rattle.vx_verify.specs.declared.store.Store.{Store}

-- ---- words

one_more : (a w m : ℕ) → min (min a m + w) m ≡ min (w + a) m
one_more a w m = omega arith

at_most : (w m : ℕ) → min (m + w) m ≡ m
at_most w m = omega arith

counted : (w m : ℕ) (ts : List VerType) (b : Bool) → min ((if b then min (stack_size ts) m else m) + w) m ≡ (if b then min (w + stack_size ts) m else m)
counted w m ts true = one_more (stack_size ts) w m
counted w m ts false = at_most w m

pub words_more : (t : VerType) (ts : List VerType) → words_with t (words_of ts) ≡ words_of (t ∷ ts)
words_more Top ts = refl
words_more Int ts = counted 1 (2 ^ 32 - 1) ts (list_all is_known ts)
words_more Long ts = counted 2 (2 ^ 32 - 1) ts (list_all is_known ts)
words_more Null ts = counted 1 (2 ^ 32 - 1) ts (list_all is_known ts)
words_more (Ref d e) ts = counted 1 (2 ^ 32 - 1) ts (list_all is_known ts)

-- ---- types

pub has_type : (s t : Store) (number : ℕ) (item : VerType) → IsStore s → t.types.items ≡ s.types.items ++ item ∷ [] → t.trees.pairs.items ≡ s.trees.pairs.items
    → t.chains.links.items ≡ s.chains.links.items → number ≡ length s.types.items → HasType s t number item
has_type s t number item is put trees chains e =
    let g : Grows s.types.items t.types.items = grows_by_one s.types.items t.types.items item put in
    record {
      later = record {
        types = g;
        pairs = subst (λ (ps : List Pair). Grows s.trees.pairs.items ps) (sym trees) (grows_itself s.trees.pairs.items);
        links = subst (λ (ls : List Link). Grows s.chains.links.items ls) (sym chains) (grows_itself s.chains.links.items);
        store = store_grown s t is g chains;
      };
      within = let more = one_longer s.types.items t.types.items item put in omega (arith, more, e);
      is = ap (λ n. type_at t n) e ∙ ap (λ (xs : List VerType). item_or xs (length s.types.items) Top) put ∙ item_last s.types.items item Top;
    }

-- a type that is known
pub has_known_type : (s : Store) (number : ℕ) (item : VerType) → IsStore s → (number < length s.types.items) × (type_at s number ≡ item) → HasType s s number item
has_known_type s number item is known = record { later = later_itself s is; within = known.0; is = known.1 }

-- ---- operands

pub has_pushed : (s t : Store) (link : Link) (stack : ℕ) → IsStore s → t.types.items ≡ s.types.items → t.trees.pairs.items ≡ s.trees.pairs.items
    → IsPushed s.chains.links.items t.chains.links.items link stack → link.top < length s.types.items → IsStack s link.under
    → link.words ≡ words_of (type_at s link.top ∷ operands_at s link.under) → HasStack s t stack (type_at s link.top ∷ operands_at s link.under)
has_pushed s t link stack is types trees put top under words =
    let g : Grows s.types.items t.types.items = subst (λ (xs : List VerType). Grows s.types.items xs) (sym types) (grows_itself s.types.items) in
    let h : Grows s.chains.links.items t.chains.links.items = grows_by_one s.chains.links.items t.chains.links.items link put.links in
    let same_top : type_at t link.top ≡ type_at s link.top = type_kept s t link.top g top in
    let same_under : operands_at t link.under ≡ operands_at s link.under = operands_grow s t link.under is g h under in
    let linked : IsLinked t link = record {
      top = subst (λ (xs : List VerType). link.top < length xs) (sym types) top;
      words = words ∙ sym (ap (λ (x : VerType). words_of (x ∷ operands_at t link.under)) same_top ∙ ap (λ (xs : List VerType). words_of (type_at s link.top ∷ xs)) same_under);
    } in
    record {
      later = record {
        types = g;
        pairs = subst (λ (ps : List Pair). Grows s.trees.pairs.items ps) (sym trees) (grows_itself s.trees.pairs.items);
        links = h;
        store = store_linked s t link is g put.links linked;
      };
      within = let more = one_longer s.chains.links.items t.chains.links.items link put.links in omega (arith, more, put.is);
      is = ap (types_at t) put.chain
          ∙ ap (λ (x : VerType). x ∷ types_at t (chain_of s.chains.links.items link.under)) same_top
          ∙ ap (λ (xs : List VerType). type_at s link.top ∷ xs) (types_kept s t (chain_of s.chains.links.items link.under) g (stack_types s link.under is under));
    }

-- a stack that is known
pub has_known : (s : Store) (top under stack : ℕ) → IsStore s → IsKnownStack s.chains.links.items top under stack → HasStack s s stack (type_at s top ∷ operands_at s under)
has_known s top under stack is known = record { later = later_itself s is; within = known.within; is = ap (types_at s) known.chain }

-- ---- what two numbers have in common

pub common_same : (p : Program) → IsRanked p → (s : Store) (one other : ℕ) → IsStore s → one < length s.types.items → one ≡ other → IsCommonNumber p s s one other one
common_same p r s one other is within e = record {
  later = later_itself s is;
  within = within;
  common = subst (λ n. IsCommon p (type_at s one) (type_at s n) (type_at s one)) e (common_of_fitting p r (type_at s one) (type_at s one) (fits_itself p r (type_at s one)));
}

pub common_fitted : (p : Program) → IsRanked p → (s : Store) (one other : ℕ) → IsStore s → one < length s.types.items → fits p (type_at s other) (type_at s one) ≡ true → IsCommonNumber p s s one other one
common_fitted p r s one other is within fit = record { later = later_itself s is; within = within; common = common_of_fitted p r (type_at s one) (type_at s other) fit }

pub common_put : (p : Program) (s t : Store) (one other number : ℕ) (found : VerType) → IsCommon p (type_at s one) (type_at s other) found → HasType s t number found → IsCommonNumber p s t one other number
common_put p s t one other number found common put = record {
  later = put.later;
  within = put.within;
  common = subst (λ (x : VerType). IsCommon p (type_at s one) (type_at s other) x) (sym put.is) common;
}

-- ---- what two rows have in common

pub rows_same : (p : Program) → IsRanked p → (s : Store) (levels one other : ℕ) → IsStore s → IsRow s levels one → one ≡ other → IsCommonRow p s s levels one other one
rows_same p r s levels one other is row e = record {
  later = later_itself s is;
  row = row;
  common = subst (λ n. AreCommon p (types_at s (row_at s levels one)) (types_at s (row_at s levels n)) (types_at s (row_at s levels one))) e
      (common_itself p r (types_at s (row_at s levels one)));
}

alone : (s : Store) (levels tree : ℕ) → levels ≡ 0 → row_at s levels tree ≡ tree ∷ []
alone s levels tree e = leaves_of_leaf s.trees.pairs.items levels tree e

pub row_alone : (s : Store) (levels tree : ℕ) → levels ≡ 0 → IsRow s levels tree → tree < length s.types.items
row_alone s levels tree e row = All-head (λ n. n < length s.types.items) tree [] (subst (λ ns. AreTypes s ns) (alone s levels tree e) row.are_types)

pub rows_alone : (p : Program) (s t : Store) (levels one other tree : ℕ) → levels ≡ 0 → IsCommonNumber p s t one other tree → IsCommonRow p s t levels one other tree
rows_alone p s t levels one other tree e made = record {
  later = made.later;
  row = record {
    is_tree = tree_of_leaf t.trees.pairs.items levels tree e;
    are_types = subst (λ ns. AreTypes t ns) (sym (alone t levels tree e)) (All-cons (λ n. n < length t.types.items) tree [] made.within (All-nil (λ n. n < length t.types.items)));
  };
  common =
      subst (λ ns. AreCommon p (types_at s (row_at s levels one)) (types_at s (row_at s levels other)) (types_at t ns)) (sym (alone t levels tree e))
      (subst (λ ns. AreCommon p (types_at s (row_at s levels one)) (types_at s ns) (type_at t tree ∷ [])) (sym (alone s levels other e))
      (subst (λ ns. AreCommon p (types_at s ns) (type_at s other ∷ []) (type_at t tree ∷ [])) (sym (alone s levels one e)) (made.common, tt)));
}

-- ---- halves

all_left : {A : Type 0} (P : A → Type 0) (xs ys : List A) → All P (xs ++ ys) → All P xs
all_left P [] ys h = All-nil P
all_left P (x ∷ xs) ys h = All-cons P x xs (All-head P x (xs ++ ys) h) (all_left P xs ys (All-tail P x (xs ++ ys) h))

all_right : {A : Type 0} (P : A → Type 0) (xs ys : List A) → All P (xs ++ ys) → All P ys
all_right P [] ys h = h
all_right P (x ∷ xs) ys h = all_right P xs ys (All-tail P x (xs ++ ys) h)

abbrev low_of : Store → ℕ → ℕ
low_of s tree = (pair_at s.trees.pairs.items tree).low

abbrev high_of : Store → ℕ → ℕ
high_of s tree = (pair_at s.trees.pairs.items tree).high

halved : (s : Store) (levels tree : ℕ) → 0 < levels → row_at s levels tree ≡ row_at s (levels - 1) (low_of s tree) ++ row_at s (levels - 1) (high_of s tree)
halved s levels tree l = leaves_of_halves s.trees.pairs.items levels (levels - 1) tree (omega (arith, l))

pub row_low : (s : Store) (levels tree : ℕ) → 0 < levels → IsRow s levels tree → IsRow s (levels - 1) (pair_at s.trees.pairs.items tree).low
row_low s levels tree l row = record {
  is_tree = tree_low s.trees.pairs.items levels tree l row.is_tree;
  are_types = all_left (λ n. n < length s.types.items) (row_at s (levels - 1) (low_of s tree)) (row_at s (levels - 1) (high_of s tree))
      (subst (λ ns. AreTypes s ns) (halved s levels tree l) row.are_types);
}

pub row_high : (s : Store) (levels tree : ℕ) → 0 < levels → IsRow s levels tree → IsRow s (levels - 1) (pair_at s.trees.pairs.items tree).high
row_high s levels tree l row = record {
  is_tree = tree_high s.trees.pairs.items levels tree l row.is_tree;
  are_types = all_right (λ n. n < length s.types.items) (row_at s (levels - 1) (low_of s tree)) (row_at s (levels - 1) (high_of s tree))
      (subst (λ ns. AreTypes s ns) (halved s levels tree l) row.are_types);
}

-- the parts of two rows have this in common, and so the rows
pub record AreMergedHalves (p : Program) (s t u : Store) (levels one other low high : ℕ) : Type 0 where
  pub some : 0 < levels
  pub is : IsStore s
  pub row : IsRow s levels one
  pub another : IsRow s levels other
  pub below : IsCommonRow p s t (levels - 1) (pair_at s.trees.pairs.items one).low (pair_at s.trees.pairs.items other).low low
  pub above : IsCommonRow p t u (levels - 1) (pair_at s.trees.pairs.items one).high (pair_at s.trees.pairs.items other).high high

-- the types of both halves
types_of_halves : (s : Store) (n low high : ℕ) (whole : List ℕ) → whole ≡ row_at s n low ++ row_at s n high → types_at s whole ≡ types_at s (row_at s n low) ++ types_at s (row_at s n high)
types_of_halves s n low high whole e = ap (types_at s) e ∙ map-append (type_at s) (row_at s n low) (row_at s n high)

pub halves_common : (p : Program) (s t u v : Store) (levels one other low high tree : ℕ) → AreMergedHalves p s t u levels one other low high → IsLater u v → IsRow v levels tree
    → row_at v levels tree ≡ row_at v (levels - 1) low ++ row_at v (levels - 1) high → IsCommonRow p s v levels one other tree
halves_common p s t u v levels one other low high tree m later row has =
    let n = levels - 1 in
    let later_t : IsLater t v = later_through t u v m.above.later later in
    let low_kept : types_at v (row_at v n low) ≡ types_at t (row_at t n low) = row_types_kept t v n low later_t m.below.row in
    let high_kept : types_at v (row_at v n high) ≡ types_at u (row_at u n high) = row_types_kept u v n high later m.above.row in
    let one_high : types_at t (row_at t n (high_of s one)) ≡ types_at s (row_at s n (high_of s one)) =
    row_types_kept s t n (high_of s one) m.below.later (row_high s levels one m.some m.row) in
    let other_high : types_at t (row_at t n (high_of s other)) ≡ types_at s (row_at s n (high_of s other)) =
    row_types_kept s t n (high_of s other) m.below.later (row_high s levels other m.some m.another) in
    let above : AreCommon p (types_at s (row_at s n (high_of s one))) (types_at s (row_at s n (high_of s other))) (types_at v (row_at v n high)) =
    subst (λ (xs : List VerType). AreCommon p (types_at s (row_at s n (high_of s one))) (types_at s (row_at s n (high_of s other))) xs) (sym high_kept)
    (subst (λ (xs : List VerType). AreCommon p (types_at s (row_at s n (high_of s one))) xs (types_at u (row_at u n high))) other_high
    (subst (λ (xs : List VerType). AreCommon p xs (types_at t (row_at t n (high_of s other))) (types_at u (row_at u n high))) one_high m.above.common)) in
    let below : AreCommon p (types_at s (row_at s n (low_of s one))) (types_at s (row_at s n (low_of s other))) (types_at v (row_at v n low)) =
    subst (λ (xs : List VerType). AreCommon p (types_at s (row_at s n (low_of s one))) (types_at s (row_at s n (low_of s other))) xs) (sym low_kept) m.below.common in
    record {
      later = later_through s t v m.below.later later_t;
      row = row;
      common =
          subst (λ (xs : List VerType). AreCommon p (types_at s (row_at s levels one)) (types_at s (row_at s levels other)) xs) (sym (types_of_halves v n low high (row_at v levels tree) has))
          (subst (λ (xs : List VerType). AreCommon p (types_at s (row_at s levels one)) xs (types_at v (row_at v n low) ++ types_at v (row_at v n high)))
          (sym (types_of_halves s n (low_of s other) (high_of s other) (row_at s levels other) (halved s levels other m.some)))
          (subst (λ (xs : List VerType). AreCommon p xs (types_at s (row_at s n (low_of s other)) ++ types_at s (row_at s n (high_of s other))) (types_at v (row_at v n low) ++ types_at v (row_at v n high)))
          (sym (types_of_halves s n (low_of s one) (high_of s one) (row_at s levels one) (halved s levels one m.some)))
          (common_append p (types_at s (row_at s n (low_of s one))) (types_at s (row_at s n (low_of s other))) (types_at v (row_at v n low))
          (types_at s (row_at s n (high_of s one))) (types_at s (row_at s n (high_of s other))) (types_at v (row_at v n high)) below above)));
    }

-- ---- a row of two halves

-- the first row itself
pub halves_kept : (p : Program) (s t u : Store) (levels one other low high : ℕ) → AreMergedHalves p s t u levels one other low high → low ≡ (pair_at s.trees.pairs.items one).low
    → high ≡ (pair_at s.trees.pairs.items one).high → IsCommonRow p s u levels one other one
halves_kept p s t u levels one other low high m e f =
    let n = levels - 1 in
    let later : IsLater s u = later_through s t u m.below.later m.above.later in
    let parts = halves_grow s.trees.pairs.items u.trees.pairs.items n one later.pairs (halves_of s.trees.pairs.items levels n one (omega (arith, m.some)) m.row.is_tree) in
    let same : pair_at u.trees.pairs.items one ≡ pair_at s.trees.pairs.items one = parts.0 in
    let has : row_at u levels one ≡ row_at u n low ++ row_at u n high =
    leaves_of_halves u.trees.pairs.items levels n one (omega (arith, m.some))
    ∙ ap (λ (q : Pair). row_at u n q.low ++ row_at u n q.high) same
    ∙ ap (λ k. row_at u n k ++ row_at u n (high_of s one)) (sym e)
    ∙ ap (λ k. row_at u n low ++ row_at u n k) (sym f) in
    halves_common p s t u u levels one other low high one m (later_itself u m.above.later.store) (row_kept s u levels one later m.row) has

-- a pair of both
pub halves_put : (p : Program) (s t u v : Store) (levels one other low high tree : ℕ) → AreMergedHalves p s t u levels one other low high → v.types.items ≡ u.types.items
    → v.chains.links.items ≡ u.chains.links.items → IsPaired u.trees.pairs.items v.trees.pairs.items low high tree → IsCommonRow p s v levels one other tree
halves_put p s t u v levels one other low high tree m types links put =
    let n = levels - 1 in
    let g : Grows u.types.items v.types.items = subst (λ (xs : List VerType). Grows u.types.items xs) (sym types) (grows_itself u.types.items) in
    let low_row : IsRow u n low = row_kept t u n low m.above.later m.below.row in
    let made = made_of_pair u.trees.pairs.items v.trees.pairs.items levels n low high tree (omega (arith, m.some)) put low_row.is_tree m.above.row.is_tree in
    let later : IsLater u v = record {
      types = g;
      pairs = made.grows;
      links = subst (λ (ls : List Link). Grows u.chains.links.items ls) (sym links) (grows_itself u.chains.links.items);
      store = store_grown u v m.above.later.store g links;
    } in
    let whole : row_at v levels tree ≡ row_at u n low ++ row_at u n high = made.has in
    let has : row_at v levels tree ≡ row_at v n low ++ row_at v n high =
    whole
    ∙ ap (λ ns. ns ++ row_at u n high) (sym (leaves_grow u.trees.pairs.items v.trees.pairs.items n low later.pairs low_row.is_tree))
    ∙ ap (λ ns. row_at v n low ++ ns) (sym (leaves_grow u.trees.pairs.items v.trees.pairs.items n high later.pairs m.above.row.is_tree)) in
    let row : IsRow v levels tree = record {
      is_tree = made.is_tree;
      are_types = subst (λ ns. AreTypes v ns) (sym whole)
          (subst (λ (xs : List VerType). All (λ k. k < length xs) (row_at u n low ++ row_at u n high)) (sym types)
          (All-append (λ k. k < length u.types.items) (row_at u n low) (row_at u n high) low_row.are_types m.above.row.are_types));
    } in
    halves_common p s t u v levels one other low high tree m later row has

-- ---- words that are kept with stacks

pub words_known : (s : Store) (stack : ℕ) → IsStore s → IsStack s stack → words_at s.chains.links.items stack ≡ words_of (operands_at s stack)
words_known s zero is within = sym (ap (λ ns. words_of (types_at s ns)) (no_chain s.chains.links.items))
words_known s (suc place) is within =
    (is.links place (omega (arith, within))).words
    ∙ sym (ap (λ ns. words_of (types_at s ns)) (chain_step s.chains.links.items s.chains.fall (suc place) place refl within))

pub pushed_words : (s : Store) (top under : ℕ) → IsStore s → IsStack s under → words_with (type_at s top) (words_at s.chains.links.items under) ≡ words_of (type_at s top ∷ operands_at s under)
pushed_words s top under is within = ap (words_with (type_at s top)) (words_known s under is within) ∙ words_more (type_at s top) (operands_at s under)
