-- Words off the top, one operand after the other, and operands that are put on others.
use Rattle.std.proofs.Common.{List, None, Option, Some, [], ap, append-nil, append_assoc, arith, drop, drop-cons, inl, inr, length, refl, subst, suc, sym, zero, ℕ, ◌++◌, ◌+◌, ◌-◌, ◌<◌, ◌⊎◌, ◌∙◌, ◌∷◌, ◌≡◌, ◌≤◌}
use Rattle.std.proofs.Math.Seq.{drop-length}
use Rattle.std.proofs.lemmas.List.{map-append}
use Rattle.std.proofs.lemmas.List.Elements.{All-get_or, All-nil, All-push}
use Rattle.std.specs.Prelude.{option_map, slice_index}
use Rattle.vx_types.specs.Flow.{words}
use Rattle.vx_types.specs.declared.types.VerType.{VerType}
use Rattle.vx_types.specs.declared.types.VerType.TheVariants.{Int, Long, Null, Ref, Top}
use Rattle.vx_verify.proofs.Forcing.{same_some}
use Rattle.vx_verify.proofs.StoreLaws.{later_itself, later_through, type_kept}
use Rattle.vx_verify.proofs.TakeLaws.{no_operands, operands_more}
use Rattle.vx_verify.specs.States.{AreTypes, HasStack, HasWords, IsStack, IsStore, operands_at, readable_width, stack_at, type_at, types_at}
use Rattle.vx_verify.specs.declared.store.Store.{Store}

-- ---- one type more

words_lack : (n : ℕ) → 0 < n → words n [] ≡ None
words_lack zero l = absurd (omega (arith, l))
words_lack (suc n) l = refl

words_unread : (n : ℕ) (t : VerType) (ops : List VerType) → 0 < n → readable_width t ≡ None → words n (t ∷ ops) ≡ None
words_unread zero t ops l e = absurd (omega (arith, l))
words_unread (suc n) Top ops l e = refl
words_unread (suc n) Int ops l e = absurd cc
words_unread (suc n) Long ops l e = absurd cc
words_unread (suc n) Null ops l e = absurd cc
words_unread (suc n) (Ref d f) ops l e = absurd cc

abbrev Taken : Type 0
Taken = List VerType × List VerType

abbrev with_top : VerType → Taken → Taken
with_top t r = (t ∷ r.0, r.1)

-- a type of one word
abbrev IsNarrow : VerType → Type 0
IsNarrow t = (n : ℕ) (ops : List VerType) → words (suc n) (t ∷ ops) ≡ option_map (with_top t) (words n ops)

width_is : (t : VerType) (w : ℕ) → readable_width t ≡ Some w → ((w ≡ 1) × IsNarrow t) ⊎ ((w ≡ 2) × (t ≡ Long))
width_is Top w e = absurd cc
width_is Int w e = inl (sym (same_some e), λ n ops. refl)
width_is Long w e = inr (sym (same_some e), refl)
width_is Null w e = inl (sym (same_some e), λ n ops. refl)
width_is (Ref d f) w e = inl (sym (same_some e), λ n ops. refl)

long_divided : (n : ℕ) (ops : List VerType) → 0 < n → n < 2 → words n (Long ∷ ops) ≡ None
long_divided zero ops l k = absurd (omega (arith, l))
long_divided (suc zero) ops l k = refl
long_divided (suc (suc n)) ops l k = absurd (omega (arith, k))

long_more : (n : ℕ) (ops : List VerType) → 2 ≤ n → words n (Long ∷ ops) ≡ option_map (with_top Long) (words (n - 2) ops)
long_more zero ops l = absurd (omega (arith, l))
long_more (suc zero) ops l = absurd (omega (arith, l))
long_more (suc (suc n)) ops l = let e : n ≡ suc (suc n) - 2 = omega arith in ap (λ m. option_map (with_top Long) (words m ops)) e

words_divided : (n w : ℕ) (t : VerType) (ops : List VerType) → 0 < n → n < w → readable_width t ≡ Some w → words n (t ∷ ops) ≡ None
words_divided n w t ops l k e = by (width_is t w e)
  where
    by : ((w ≡ 1) × IsNarrow t) ⊎ ((w ≡ 2) × (t ≡ Long)) → words n (t ∷ ops) ≡ None
    by (inl h) = let one = h.0 in absurd (omega (arith, l, k, one))
    by (inr h) = let two = h.0 in ap (λ x. words n (x ∷ ops)) h.1 ∙ long_divided n ops l (omega (arith, k, two))

words_more : (n w : ℕ) (t : VerType) (ops : List VerType) → 0 < n → w ≤ n → readable_width t ≡ Some w → words n (t ∷ ops) ≡ option_map (with_top t) (words (n - w) ops)
words_more n w t ops l k e = by (width_is t w e)
  where
    by : ((w ≡ 1) × IsNarrow t) ⊎ ((w ≡ 2) × (t ≡ Long)) → words n (t ∷ ops) ≡ option_map (with_top t) (words (n - w) ops)
    by (inl h) =
        let one = h.0 in
        let whole : n ≡ suc (n - 1) = omega (arith, l) in
        let left : n - 1 ≡ n - w = omega (arith, one) in
        ap (λ m. words m (t ∷ ops)) whole ∙ h.1 (n - 1) ops ∙ ap (λ m. option_map (with_top t) (words m ops)) left
    by (inr h) =
        let two = h.0 in
        let left : n - 2 ≡ n - w = omega (arith, two) in
        ap (λ x. words n (x ∷ ops)) h.1
        ∙ long_more n ops (omega (arith, k, two))
        ∙ ap (λ m. option_map (with_top Long) (words m ops)) left
        ∙ ap (λ x. option_map (with_top x) (words (n - w) ops)) (sym h.1)

-- ---- words off the top

abbrev under_these : List VerType → Taken → Taken
under_these ts r = (ts ++ r.0, r.1)

-- so many words are left to be taken
pub record IsCounting (s : Store) (count operands : ℕ) (tops : List ℕ) (under left : ℕ) : Type 0 where
  pub are_types : AreTypes s tops
  pub within : IsStack s under
  pub is : words count (operands_at s operands) ≡ option_map (under_these (types_at s tops)) (words left (operands_at s under))

under_none : (o : Option Taken) → o ≡ option_map (under_these []) o
under_none None = refl
under_none (Some r) = refl

pub counting_start : (s : Store) (count operands : ℕ) → IsStack s operands → IsCounting s count operands [] operands count
counting_start s count operands h = record { are_types = All-nil (λ n. n < length s.types.items); within = h; is = under_none (words count (operands_at s operands)) }

under_one : (ts : List VerType) (t : VerType) (o : Option Taken) → option_map (under_these ts) (option_map (with_top t) o) ≡ option_map (under_these (ts ++ t ∷ [])) o
under_one ts t None = refl
under_one ts t (Some r) = ap (λ (xs : List VerType). Some (xs, r.1)) (sym (append_assoc ts (t ∷ []) r.0))

pub counting_step : (s : Store) (count operands : ℕ) (tops : List ℕ) (under left top rest width : ℕ) → IsStore s → IsCounting s count operands tops under left → 0 < left
    → stack_at s under ≡ top ∷ stack_at s rest → rest < under → top < length s.types.items → readable_width (type_at s top) ≡ Some width → width ≤ left
    → IsCounting s count operands (tops ++ top ∷ []) rest (left - width)
counting_step s count operands tops under left top rest width is counting l e falls inside known fit = record {
  are_types = All-push (λ n. n < length s.types.items) tops top counting.are_types inside;
  within = omega (arith, falls, counting.within);
  is = counting.is
      ∙ ap (λ (xs : List VerType). option_map (under_these (types_at s tops)) (words left xs)) (operands_more s under top rest e)
      ∙ ap (option_map (under_these (types_at s tops))) (words_more left width (type_at s top) (operands_at s rest) l fit known)
      ∙ under_one (types_at s tops) (type_at s top) (words (left - width) (operands_at s rest))
      ∙ ap (λ (xs : List VerType). option_map (under_these xs) (words (left - width) (operands_at s rest))) (sym (map-append (type_at s) tops (top ∷ [])));
}

has_none : (s : Store) (o : Option Taken) → o ≡ None → HasWords s None o
has_none s o e = subst (HasWords s None) (sym e) tt

counted_none : (s : Store) (count operands : ℕ) (tops : List ℕ) (under left : ℕ) → IsCounting s count operands tops under left → words left (operands_at s under) ≡ None
    → HasWords s None (words count (operands_at s operands))
counted_none s count operands tops under left counting e =
    has_none s (words count (operands_at s operands)) (counting.is ∙ ap (option_map (under_these (types_at s tops))) e)

pub counted_empty : (s : Store) (count operands : ℕ) (tops : List ℕ) (under left : ℕ) → IsCounting s count operands tops under left → 0 < left → under ≡ 0
    → HasWords s None (words count (operands_at s operands))
counted_empty s count operands tops under left counting l none =
    counted_none s count operands tops under left counting (ap (words left) (no_operands s under none) ∙ words_lack left l)

pub counted_unread : (s : Store) (count operands : ℕ) (tops : List ℕ) (under left top rest : ℕ) → IsCounting s count operands tops under left → 0 < left → stack_at s under ≡ top ∷ stack_at s rest
    → readable_width (type_at s top) ≡ None → HasWords s None (words count (operands_at s operands))
counted_unread s count operands tops under left top rest counting l e known =
    counted_none s count operands tops under left counting
    (ap (words left) (operands_more s under top rest e) ∙ words_unread left (type_at s top) (operands_at s rest) l known)

pub counted_divided : (s : Store) (count operands : ℕ) (tops : List ℕ) (under left top rest width : ℕ) → IsCounting s count operands tops under left → 0 < left → stack_at s under ≡ top ∷ stack_at s rest
    → readable_width (type_at s top) ≡ Some width → left < width → HasWords s None (words count (operands_at s operands))
counted_divided s count operands tops under left top rest width counting l e known few =
    counted_none s count operands tops under left counting
    (ap (words left) (operands_more s under top rest e) ∙ words_divided left width (type_at s top) (operands_at s rest) l few known)

pub counted_end : (s : Store) (count operands : ℕ) (tops : List ℕ) (under left : ℕ) → IsCounting s count operands tops under left → left ≡ 0
    → HasWords s (Some (tops, under)) (words count (operands_at s operands))
counted_end s count operands tops under left counting e =
    let all : words count (operands_at s operands) ≡ Some (types_at s tops, operands_at s under) =
    counting.is
    ∙ ap (λ n. option_map (under_these (types_at s tops)) (words n (operands_at s under))) e
    ∙ ap (λ (xs : List VerType). Some (xs, operands_at s under)) (append-nil (types_at s tops)) in
    subst (HasWords s (Some (tops, under))) (sym all) (record { tops = counting.are_types; within = counting.within; above = refl; under = refl })

-- ---- operands on others

-- those from a place on have been put
pub record ArePushed (s t : Store) (tops : List ℕ) (under left operands : ℕ) : Type 0 where
  pub few : left ≤ length tops
  pub has : HasStack s t operands (types_at s (drop left tops) ++ operands_at s under)

pub pushed_start : (s : Store) (tops : List ℕ) (under : ℕ) → IsStore s → IsStack s under → ArePushed s s tops under (length tops) under
pushed_start s tops under is within = record {
  few = omega arith;
  has = record { later = later_itself s is; within = within; is = sym (ap (λ ns. types_at s ns ++ operands_at s under) (drop-length tops)) };
}

next_dropped : (xs : List ℕ) (left : ℕ) → 0 < left → left ≤ length xs → drop (left - 1) xs ≡ slice_index xs (left - 1) ∷ drop left xs
next_dropped xs left l k =
    let e : suc (left - 1) ≡ left = omega (arith, l) in
    drop-cons xs (left - 1) 0 (omega (arith, l, k)) ∙ ap (λ n. slice_index xs (left - 1) ∷ drop n xs) e

pub pushed_step : (s t u : Store) (tops : List ℕ) (under left operands stack : ℕ) → ArePushed s t tops under left operands → AreTypes s tops → 0 < left
    → HasStack t u stack (type_at t (slice_index tops (left - 1)) ∷ operands_at t operands) → ArePushed s u tops under (left - 1) stack
pushed_step s t u tops under left operands stack pushed types l put =
    let top = slice_index tops (left - 1) in
    let few = pushed.few in
    let inside : top < length s.types.items = All-get_or (λ n. n < length s.types.items) tops (left - 1) 0 (omega (arith, l, few)) types in
    record {
      few = omega (arith, few);
      has = record {
        later = later_through s t u pushed.has.later put.later;
        within = put.within;
        is = put.is
            ∙ ap (λ (x : VerType). x ∷ operands_at t operands) (type_kept s t top pushed.has.later.types inside)
            ∙ ap (λ (xs : List VerType). type_at s top ∷ xs) pushed.has.is
            ∙ sym (ap (λ ns. types_at s ns ++ operands_at s under) (next_dropped tops left l few));
      };
    }

pub pushed_end : (s t : Store) (tops : List ℕ) (under left operands : ℕ) → ArePushed s t tops under left operands → left ≡ 0 → HasStack s t operands (types_at s tops ++ operands_at s under)
pushed_end s t tops under left operands pushed e = subst (λ n. HasStack s t operands (types_at s (drop n tops) ++ operands_at s under)) e pushed.has

pub top_inside : (s : Store) (tops : List ℕ) (left : ℕ) → AreTypes s tops → 0 < left → left ≤ length tops → slice_index tops (left - 1) < length s.types.items
top_inside s tops left types l few = All-get_or (λ n. n < length s.types.items) tops (left - 1) 0 (omega (arith, l, few)) types
