-- A row takes what fits what it takes, and makes of it what fits what it makes of that.
use Rattle.std.proofs.Common.{Bool, List, None, Option, Some, [], ap, arith, false, inl, inr, refl, subst, suc, sym, true, zero, ℕ, ◌∙◌, ◌∷◌, ◌≡◌}
use Rattle.std.specs.List.{list_any}
use Rattle.std.specs.Prelude.{if◌then◌else◌, option_and_then, option_map}
use Rattle.vx_java.specs.StackForms.{lower, upper}
use Rattle.vx_java.specs.declared.operation.Shuffle.{Shuffle}
use Rattle.vx_java.specs.declared.operation.Sort.{Sort}
use Rattle.vx_java.specs.declared.operation.Sort.TheVariants as sort
use Rattle.vx_link.specs.declared.program.Program.{Program}
use Rattle.vx_list.specs.Places.{item_or}
use Rattle.vx_types.proofs.FitLaws.{RefFits, fits_itself, fits_through, ref_from, ref_tells}
use Rattle.vx_types.proofs.Lists.{head_fits, item_fits, list_fits, reordered_fits, sort_below, stored_fits, tail_fits}
use Rattle.vx_types.proofs.Tests.{both, both_first, both_second, either, or_first, or_second}
use Rattle.vx_types.specs.Fits.{StateFits, all_fit, fits}
use Rattle.vx_types.specs.Flow.{after, component, is_of, load_reference, locals_with, meets, moved, moved_from, put, store_top, taken, types_reordered, with_operands, words}
use Rattle.vx_types.specs.Ranked.{IsRanked}
use Rattle.vx_types.specs.Types.{VerState}
use Rattle.vx_types.specs.declared.types.ElementType.{ElementType}
use Rattle.vx_types.specs.declared.types.Row.{Row}
use Rattle.vx_types.specs.declared.types.Row.TheVariants.{Ends, Increase, Leaves, Load, LoadReference, Move, Refused, Store, Takes}
use Rattle.vx_types.specs.declared.types.VerType.{VerType}
use Rattle.vx_types.specs.declared.types.VerType.TheVariants.{Int, Long, Null, Ref, Top}
use Rattle.vx_types.specs.declared.types.Want.{Want}
use Rattle.vx_types.specs.declared.types.Want.TheVariants.{Fits, FitsBoth, FitsOne, OfSort}

some_same : {A : Type 0} {x y : A} → Some x ≡ Some y → x ≡ y
some_same h = cc

none_some : {A P : Type 0} {x : A} → ◌≡◌ {A = Option A} None (Some x) → P
none_some h = absurd cc

-- ---- what is wanted

any_below : (p : Program) → IsRanked p → (t u : VerType) (xs : List VerType) → fits p t u ≡ true → list_any (fits p u) xs ≡ true → list_any (fits p t) xs ≡ true
any_below p r t u [] h k = absurd cc
any_below p r t u (x ∷ xs) h k = elim (either (fits p u x) (list_any (fits p u) xs) k) [
  | inl one ↦ or_first (fits p t x) (list_any (fits p t) xs) (fits_through p r t u x h one)
  | inr later ↦ or_second (fits p t x) (list_any (fits p t) xs) (any_below p r t u xs h later)
]

meets_below : (p : Program) → IsRanked p → (w : Want) (t u : VerType) → fits p t u ≡ true → meets p w u ≡ true → meets p w t ≡ true
meets_below p r (OfSort s) t u h k = sort_below p s t u h k
meets_below p r (Fits x) t u h k = fits_through p r t u x h k
meets_below p r (FitsBoth x y) t u h k =
    both (fits p t x) (fits p t y)
    (fits_through p r t u x h (both_first (fits p u x) (fits p u y) k)) (fits_through p r t u y h (both_second (fits p u x) (fits p u y) k))
meets_below p r (FitsOne xs) t u h k = any_below p r t u xs h k

-- operands are found that fit others
pub record FoundBelow (p : Program) (o : Option (List VerType)) (above : List VerType) : Type 0 where
  pub these : List VerType
  pub is : o ≡ Some these
  pub fitting : all_fit p these above ≡ true

taken_below : (p : Program) → IsRanked p → (ws : List Want) (ts us rest : List VerType) → all_fit p ts us ≡ true → taken p ws us ≡ Some rest → FoundBelow p (taken p ws ts) rest
taken_below p r [] ts us rest h e = record { these = ts; is = refl; fitting = subst (λ (xs : List VerType). all_fit p ts xs ≡ true) (some_same e) h }
taken_below p r (w ∷ ws) [] [] rest h e = none_some e
taken_below p r (w ∷ ws) (t ∷ ts) (u ∷ us) rest h e = by (λ k. taken_below p r ws ts us rest (tail_fits p t u ts us h) k) (meets p w u) refl e
  where
    by : (taken p ws us ≡ Some rest → FoundBelow p (taken p ws ts) rest) → (b : Bool) → meets p w u ≡ b → (if b then taken p ws us else None) ≡ Some rest
        → FoundBelow p (taken p (w ∷ ws) (t ∷ ts)) rest
    by others true m e =
        let below = others e in
        let met = meets_below p r w t u (head_fits p t u ts us h) m in
        record { these = below.these; is = ap (λ b. if b then taken p ws ts else None) met ∙ below.is; fitting = below.fitting }
    by others false m e = none_some e
taken_below p r (w ∷ ws) _ _ rest h e = absurd cc

put_fits : (p : Program) → IsRanked p → (given : Option VerType) (ts us : List VerType) → all_fit p ts us ≡ true → all_fit p (put given ts) (put given us) ≡ true
put_fits p r None ts us h = h
put_fits p r (Some t) ts us h = list_fits p t t ts us (fits_itself p r t) h

-- ---- words

pub record WordsBelow (p : Program) (o : Option (List VerType × List VerType)) (above : List VerType × List VerType) : Type 0 where
  pub top : List VerType
  pub under : List VerType
  pub is : o ≡ Some (top, under)
  pub top_fits : all_fit p top above.0 ≡ true
  pub under_fits : all_fit p under above.1 ≡ true

-- one more on top of words
one_more : (p : Program) (t u : VerType) (o q : Option (List VerType × List VerType)) (above : List VerType × List VerType) → fits p t u ≡ true
    → ((rest : List VerType × List VerType) → q ≡ Some rest → WordsBelow p o rest) → option_map (λ (r : List VerType × List VerType). (u ∷ r.0, r.1)) q ≡ Some above
    → WordsBelow p (option_map (λ (r : List VerType × List VerType). (t ∷ r.0, r.1)) o) above
one_more p t u o None above h later e = none_some e
one_more p t u o (Some rest) above h later e =
    let below = later rest refl in
    subst (λ (x : List VerType × List VerType). WordsBelow p (option_map (λ (r : List VerType × List VerType). (t ∷ r.0, r.1)) o) x) (some_same e)
    (record {
      top = t ∷ below.top;
      under = below.under;
      is = ap (option_map (λ (r : List VerType × List VerType). (t ∷ r.0, r.1))) below.is;
      top_fits = list_fits p t u below.top rest.0 h below.top_fits;
      under_fits = below.under_fits;
    })

words_below : (p : Program) (n : ℕ) (ts us : List VerType) (above : List VerType × List VerType) → all_fit p ts us ≡ true → words n us ≡ Some above → WordsBelow p (words n ts) above
words_below p zero ts us above h e =
    subst (λ (x : List VerType × List VerType). WordsBelow p (Some ([], ts)) x) (some_same e)
    (record { top = []; under = ts; is = refl; top_fits = refl; under_fits = h })
words_below p (suc n) [] [] above h e = none_some e
words_below p (suc n) (t ∷ ts) (Top ∷ us) above h e = none_some e
words_below p (suc zero) (t ∷ ts) (Long ∷ us) above h e = none_some e
words_below p (suc (suc n)) (Long ∷ ts) (Long ∷ us) above h e =
    one_more p Long Long (words n ts) (words n us) above refl (λ rest k. words_below p n ts us rest (tail_fits p Long Long ts us h) k) e
words_below p (suc n) (Int ∷ ts) (Int ∷ us) above h e =
    one_more p Int Int (words n ts) (words n us) above refl (λ rest k. words_below p n ts us rest (tail_fits p Int Int ts us h) k) e
words_below p (suc n) (Null ∷ ts) (Null ∷ us) above h e =
    one_more p Null Null (words n ts) (words n us) above refl (λ rest k. words_below p n ts us rest (tail_fits p Null Null ts us h) k) e
words_below p (suc n) (Null ∷ ts) (Ref m f ∷ us) above h e =
    one_more p Null (Ref m f) (words n ts) (words n us) above refl (λ rest k. words_below p n ts us rest (tail_fits p Null (Ref m f) ts us h) k) e
words_below p (suc n) (Ref d x ∷ ts) (Ref m f ∷ us) above h e =
    one_more p (Ref d x) (Ref m f) (words n ts) (words n us) above (head_fits p (Ref d x) (Ref m f) ts us h)
    (λ rest k. words_below p n ts us rest (tail_fits p (Ref d x) (Ref m f) ts us h) k) e
words_below p (suc n) _ _ above h e = absurd cc

moved_from_below : (p : Program) (form : Shuffle) (qs bs ts us rest : List VerType) → all_fit p qs bs ≡ true → all_fit p ts us ≡ true → moved_from form (bs, us) ≡ Some rest
    → FoundBelow p (moved_from form (qs, ts)) rest
moved_from_below p form qs bs ts us rest h k e = by (words (lower form) us) refl e
  where
    by : (o : Option (List VerType × List VerType)) → words (lower form) us ≡ o → option_map (λ (under : List VerType × List VerType). types_reordered form bs under.0 under.1) o ≡ Some rest
        → FoundBelow p (moved_from form (qs, ts)) rest
    by None q e = none_some e
    by (Some above) q e =
        let below = words_below p (lower form) ts us above k q in
        record {
          these = types_reordered form qs below.top below.under;
          is = ap (option_map (λ (under : List VerType × List VerType). types_reordered form qs under.0 under.1)) below.is;
          fitting = subst (λ (xs : List VerType). all_fit p (types_reordered form qs below.top below.under) xs ≡ true) (some_same e)
              (reordered_fits p form qs bs below.top above.0 below.under above.1 h below.top_fits below.under_fits);
        }

moved_below : (p : Program) (form : Shuffle) (ts us rest : List VerType) → all_fit p ts us ≡ true → moved form us ≡ Some rest → FoundBelow p (moved form ts) rest
moved_below p form ts us rest h e = by (words (upper form) us) refl e
  where
    by : (o : Option (List VerType × List VerType)) → words (upper form) us ≡ o → option_and_then (moved_from form) o ≡ Some rest → FoundBelow p (moved form ts) rest
    by None q e = none_some e
    by (Some above) q e =
        let below = words_below p (upper form) ts us above h q in
        let found = moved_from_below p form below.top above.0 below.under above.1 rest below.top_fits below.under_fits e in
        record { these = found.these; is = ap (option_and_then (moved_from form)) below.is ∙ found.is; fitting = found.fitting }

-- ---- arrays of references

pub record ComponentBelow (p : Program) (t above : VerType) : Type 0 where
  pub one : VerType
  pub is : component t ≡ Some one
  pub fitting : fits p one above ≡ true

component_of_more : (p : Program) (d : ℕ) (e : ElementType) (n : ℕ) (f : ElementType) → RefFits p d e (suc n) f → ComponentBelow p (Ref d e) (Ref n f)
component_of_more p d e n f (inl (same, h)) =
    subst (λ m. ComponentBelow p (Ref m e) (Ref n f)) (sym same) (record { one = Ref n e; is = refl; fitting = ref_from p n e n f (inl (refl, h)) })
component_of_more p zero e n f (inr (less, h)) = absurd (omega (arith, less))
component_of_more p (suc d) e n f (inr (less, h)) = record { one = Ref d e; is = refl; fitting = ref_from p d e n f (inr (omega (arith, less), h)) }

component_of_null : (p : Program) (t : VerType) → fits p t Null ≡ true → ComponentBelow p t Null
component_of_null p Null h = record { one = Null; is = refl; fitting = refl }
component_of_null p _ h = absurd cc

component_of_ref : (p : Program) (t : VerType) (n : ℕ) (f : ElementType) → fits p t (Ref (suc n) f) ≡ true → ComponentBelow p t (Ref n f)
component_of_ref p Null n f h = record { one = Null; is = refl; fitting = refl }
component_of_ref p (Ref d e) n f h = component_of_more p d e n f (ref_tells p d e (suc n) f h)
component_of_ref p _ n f h = absurd cc

component_below : (p : Program) (t u above : VerType) → fits p t u ≡ true → component u ≡ Some above → ComponentBelow p t above
component_below p t Null above h e = subst (λ (y : VerType). ComponentBelow p t y) (some_same e) (component_of_null p t h)
component_below p t (Ref (suc n) f) above h e = subst (λ (y : VerType). ComponentBelow p t y) (some_same e) (component_of_ref p t n f h)
component_below p t _ above h e = absurd cc

load_from : (p : Program) (ts : List VerType) (u : VerType) (us rest : List VerType) → all_fit p ts (Int ∷ u ∷ us) ≡ true
    → option_map (λ (c : VerType). c ∷ us) (component u) ≡ Some rest → FoundBelow p (load_reference ts) rest
load_from p (Int ∷ t ∷ ts) u us rest h e = by (component u) refl e
  where
    others : all_fit p (t ∷ ts) (u ∷ us) ≡ true
    others = tail_fits p Int Int (t ∷ ts) (u ∷ us) h

    by : (o : Option VerType) → component u ≡ o → option_map (λ (c : VerType). c ∷ us) o ≡ Some rest → FoundBelow p (load_reference (Int ∷ t ∷ ts)) rest
    by None q e = none_some e
    by (Some above) q e =
        let below = component_below p t u above (head_fits p t u ts us others) q in
        record {
          these = below.one ∷ ts;
          is = ap (option_map (λ (c : VerType). c ∷ ts)) below.is;
          fitting = subst (λ (xs : List VerType). all_fit p (below.one ∷ ts) xs ≡ true) (some_same e)
              (list_fits p below.one above ts us below.fitting (tail_fits p t u ts us others));
        }
load_from p _ u us rest h e = absurd cc

load_reference_below : (p : Program) (ts us rest : List VerType) → all_fit p ts us ≡ true → load_reference us ≡ Some rest → FoundBelow p (load_reference ts) rest
load_reference_below p ts (Int ∷ u ∷ us) rest h e = load_from p ts u us rest h e
load_reference_below p ts _ rest h e = absurd cc

-- ---- a row at a state

pub record AfterBelow (p : Program) (o : Option VerState) (above : VerState) : Type 0 where
  pub made : VerState
  pub is : o ≡ Some made
  pub fitting : StateFits p made above

-- other operands in a state
operands_below : (p : Program) (s t : VerState) (o q : Option (List VerType)) (above : VerState) → all_fit p s.locals t.locals ≡ true
    → ((rest : List VerType) → q ≡ Some rest → FoundBelow p o rest) → with_operands t q ≡ Some above → AfterBelow p (with_operands s o) above
operands_below p s t o None above h later e = none_some e
operands_below p s t o (Some rest) above h later e =
    let below = later rest refl in
    record {
      made = record s { operands = below.these };
      is = ap (with_operands s) below.is;
      fitting = subst (λ (x : VerState). StateFits p (record s { operands = below.these }) x) (some_same e) (record { locals = h; operands = below.fitting });
    }

taken_put_below : (p : Program) → IsRanked p → (ws : List Want) (given : Option VerType) (ts us rest : List VerType) → all_fit p ts us ≡ true
    → option_map (put given) (taken p ws us) ≡ Some rest → FoundBelow p (option_map (put given) (taken p ws ts)) rest
taken_put_below p r ws given ts us rest h e = by (taken p ws us) refl e
  where
    by : (o : Option (List VerType)) → taken p ws us ≡ o → option_map (put given) o ≡ Some rest → FoundBelow p (option_map (put given) (taken p ws ts)) rest
    by None q e = none_some e
    by (Some left) q e =
        let below = taken_below p r ws ts us left h q in
        record {
          these = put given below.these;
          is = ap (option_map (put given)) below.is;
          fitting = subst (λ (xs : List VerType). all_fit p (put given below.these) xs ≡ true) (some_same e) (put_fits p r given below.these left below.fitting);
        }

store_below : (p : Program) (s : Sort) (n : ℕ) (xs ys ts us : List VerType) (above : VerState) → all_fit p xs ys ≡ true → all_fit p ts us ≡ true
    → store_top s n ys us ≡ Some above → AfterBelow p (store_top s n xs ts) above
store_below p s n xs ys [] [] above h k e = none_some e
store_below p s n xs ys (t ∷ ts) (u ∷ us) above h k e = by (is_of s u) refl e
  where
    by : (b : Bool) → is_of s u ≡ b → (if b then Some (record { locals = locals_with ys n u; operands = us }) else None) ≡ Some above → AfterBelow p (store_top s n xs (t ∷ ts)) above
    by true is e =
        let below = sort_below p s t u (head_fits p t u ts us k) is in
        record {
          made = record { locals = locals_with xs n t; operands = ts };
          is = ap (λ b. if b then Some (record { locals = locals_with xs n t; operands = ts }) else None) below;
          fitting = subst (λ (x : VerState). StateFits p (record { locals = locals_with xs n t; operands = ts }) x) (some_same e)
              (record { locals = stored_fits p s xs ys n t u h (head_fits p t u ts us k) is; operands = tail_fits p t u ts us k });
        }
    by false is e = none_some e
store_below p s n xs ys _ _ above h k e = absurd cc

pub after_below : (p : Program) → IsRanked p → (row : Row) (s t above : VerState) → StateFits p s t → after p row t ≡ Some above → AfterBelow p (after p row s) above
after_below p r Refused s t above h e = none_some e
after_below p r Ends s t above h e = record { made = s; is = refl; fitting = subst (λ (x : VerState). StateFits p s x) (some_same e) h }
after_below p r (Leaves ws) s t above h e = by (taken p ws t.operands) refl e
  where
    by : (o : Option (List VerType)) → taken p ws t.operands ≡ o → option_map (λ (rest : List VerType). t) o ≡ Some above → AfterBelow p (after p (Leaves ws) s) above
    by None q e = none_some e
    by (Some left) q e =
        let below = taken_below p r ws s.operands t.operands left h.operands q in
        record {
          made = s;
          is = ap (option_map (λ (rest : List VerType). s)) below.is;
          fitting = subst (λ (x : VerState). StateFits p s x) (some_same e) h;
        }
after_below p r (Takes ws given) s t above h e =
    operands_below p s t (option_map (put given) (taken p ws s.operands)) (option_map (put given) (taken p ws t.operands)) above h.locals
    (λ rest k. taken_put_below p r ws given s.operands t.operands rest h.operands k) e
after_below p r (Load kind n) s t above h e = by (is_of kind (item_or t.locals n Top)) refl e
  where
    fit : fits p (item_or s.locals n Top) (item_or t.locals n Top) ≡ true
    fit = item_fits p s.locals t.locals n h.locals

    by : (b : Bool) → is_of kind (item_or t.locals n Top) ≡ b → (if b then Some (record t { operands = item_or t.locals n Top ∷ t.operands }) else None) ≡ Some above
        → AfterBelow p (after p (Load kind n) s) above
    by true is e =
        record {
          made = record s { operands = item_or s.locals n Top ∷ s.operands };
          is = ap (λ b. if b then Some (record s { operands = item_or s.locals n Top ∷ s.operands }) else None)
              (sort_below p kind (item_or s.locals n Top) (item_or t.locals n Top) fit is);
          fitting = subst (λ (x : VerState). StateFits p (record s { operands = item_or s.locals n Top ∷ s.operands }) x) (some_same e)
              (record { locals = h.locals; operands = list_fits p (item_or s.locals n Top) (item_or t.locals n Top) s.operands t.operands fit h.operands });
        }
    by false is e = none_some e
after_below p r (Store kind n) s t above h e = store_below p kind n s.locals t.locals s.operands t.operands above h.locals h.operands e
after_below p r (Increase n) s t above h e = by (is_of sort.Int (item_or t.locals n Top)) refl e
  where
    by : (b : Bool) → is_of sort.Int (item_or t.locals n Top) ≡ b → (if b then Some t else None) ≡ Some above → AfterBelow p (after p (Increase n) s) above
    by true is e =
        record {
          made = s;
          is = ap (λ b. if b then Some s else None)
              (sort_below p sort.Int (item_or s.locals n Top) (item_or t.locals n Top) (item_fits p s.locals t.locals n h.locals) is);
          fitting = subst (λ (x : VerState). StateFits p s x) (some_same e) h;
        }
    by false is e = none_some e
after_below p r (Move form) s t above h e =
    operands_below p s t (moved form s.operands) (moved form t.operands) above h.locals (λ rest k. moved_below p form s.operands t.operands rest h.operands k) e
after_below p r LoadReference s t above h e =
    operands_below p s t (load_reference s.operands) (load_reference t.operands) above h.locals
    (λ rest k. load_reference_below p s.operands t.operands rest h.operands k) e
