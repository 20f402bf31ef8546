-- The values of a report's entries, one entry more at a time.
use Rattle.std.proofs.Common.{◌≡◌, ℕ, ◌+◌, ◌<◌, ◌≤◌, zero, suc, Bool, true, false, List, [], ◌∷◌, ◌++◌, length, map, take, get_or, refl, sym, ◌∙◌, ap, subst, arith, add-one}
use Rattle.std.specs.Prelude.{◌&&◌, ◌||◌, not, find, Option, None, Some, is_some, option_map, if◌then◌else◌, cond}
use Rattle.std.specs.Option.{option_or}
use Rattle.std.specs.declared.cmp.Ordering.{Ordering}
use Rattle.std.proofs.lemmas.List.{take_all}
use Rattle.vx_space.specs.Sets.{Sets, IsSet, Extends}
use Rattle.vx_space.proofs.Spaces.{Extends-refl, Extends-trans}
use Rattle.vx_cond.specs.Leaves.{AreLeaves, AreLeavesOf, IsApart, value_at, value_under}
use Rattle.vx_cond.proofs.LeafLaws.{AreLeaves-extends, value_at-extends}
use Rattle.vx_bdd_tools.specs.declared.node.Node.{Node}
use Rattle.vx_bdd_tools.specs.Nodes.{holds}
use Rattle.vx_findings.specs.declared.shared.Shared.{Shared}
use Rattle.vx_findings.specs.Shared.{leaves_of}
use Rattle.vx_cover.specs.Covers.{some_hold}
use Rattle.vx_join.specs.Steps.{first_in, inside}

take_suc : {A : Type 0} (xs : List A) (i : ℕ) (x : A) → i < length xs → x ≡ get_or xs i x → take (suc i) xs ≡ take i xs ++ x ∷ []
take_suc [] i x l e = absurd (omega (arith, l))
take_suc (y ∷ ys) zero x l e = ap (λ z. z ∷ []) (sym e)
take_suc (y ∷ ys) (suc i) x l e = ap (λ zs. y ∷ zs) (take_suc ys i x (omega (arith, l)) e)

-- the items of a loop, and one more
pub take_more : {A : Type 0} (items xs : List A) (i : ℕ) (x : A) → items ≡ xs → i < length items → x ≡ get_or items i x → take (i + 1) xs ≡ take i xs ++ x ∷ []
take_more {A} items xs i x same l e =
    let l' : i < length xs = subst (λ (ys : List A). i < length ys) same l in
    let e' : x ≡ get_or xs i x = subst (λ (ys : List A). x ≡ get_or ys i x) same e in
    ap (λ n. take n xs) (add-one i) ∙ take_suc xs i x l' e'

-- all items of a loop
pub take_whole : {A : Type 0} (items xs : List A) (i : ℕ) → items ≡ xs → length items ≤ i → take i xs ≡ xs
take_whole {A} items xs i same l = take_all i xs (subst (λ (ys : List A). length ys ≤ i) same l)

-- ---- the first entry that holds a configuration

-- there is one where some node holds it
pub is_some_first : {E V : Type 0} (node_of : E → ℕ) (value_of : E → V) (nodes : List Node) (entries : List E) (c : List Bool) → is_some (first_in node_of value_of nodes entries c) ≡ some_hold nodes (map node_of entries) c
is_some_first node_of value_of nodes [] c = refl
is_some_first {E} {V} node_of value_of nodes (x ∷ xs) c = by (holds nodes (node_of x) c) (is_some_first node_of value_of nodes xs c)
  where
    by : (b : Bool) → is_some (first_in node_of value_of nodes xs c) ≡ some_hold nodes (map node_of xs) c → is_some (option_map value_of (cond b (Some x) (find (λ e. holds nodes (node_of e) c) xs))) ≡ (b || some_hold nodes (map node_of xs) c)
    by true e = refl
    by false e = e

first_more : {E V : Type 0} (node_of : E → ℕ) (value_of : E → V) (nodes : List Node) (xs : List E) (x : E) (c : List Bool) → first_in node_of value_of nodes (xs ++ x ∷ []) c ≡ option_or (first_in node_of value_of nodes xs c) (if holds nodes (node_of x) c then Some (value_of x) else None)
first_more {E} {V} node_of value_of nodes [] x c = by (holds nodes (node_of x) c)
  where
    by : (b : Bool) → option_map value_of (cond b (Some x) None) ≡ option_or None (cond b (Some (value_of x)) None)
    by true = refl
    by false = refl
first_more {E} {V} node_of value_of nodes (y ∷ ys) x c = by (holds nodes (node_of y) c) (first_more node_of value_of nodes ys x c)
  where
    last : Option V
    last = if holds nodes (node_of x) c then Some (value_of x) else None

    by : (b : Bool) → first_in node_of value_of nodes (ys ++ x ∷ []) c ≡ option_or (first_in node_of value_of nodes ys c) (if holds nodes (node_of x) c then Some (value_of x) else None)
        → option_map value_of (cond b (Some y) (find (λ e. holds nodes (node_of e) c) (ys ++ x ∷ []))) ≡ option_or (option_map value_of (cond b (Some y) (find (λ e. holds nodes (node_of e) c) ys))) (if holds nodes (node_of x) c then Some (value_of x) else None)
    by true e = refl
    by false e = e

or_none : (b : Bool) → (b || false) ≡ (false || b)
or_none true = refl
or_none false = refl

or_assoc : (a b d : Bool) → (a || (b || d)) ≡ ((a || b) || d)
or_assoc true b d = refl
or_assoc false b d = refl

some_more : {E : Type 0} (node_of : E → ℕ) (nodes : List Node) (xs : List E) (x : E) (c : List Bool) → some_hold nodes (map node_of (xs ++ x ∷ [])) c ≡ (some_hold nodes (map node_of xs) c || holds nodes (node_of x) c)
some_more node_of nodes [] x c = or_none (holds nodes (node_of x) c)
some_more node_of nodes (y ∷ ys) x c = ap (λ b. holds nodes (node_of y) c || b) (some_more node_of nodes ys x c) ∙ or_assoc (holds nodes (node_of y) c) (some_hold nodes (map node_of ys) c) (holds nodes (node_of x) c)

-- ---- the loop

-- what stands after some entries
pub record IsPutting {V E S I : Type 0} (order : V → V → Ordering) (node_of : E → ℕ) (value_of : E → V) (start now : Sets I) (nodes : List Node) (unsaid : I) (before : List (Shared V S I)) (done : List E) (rest : I) (values : List (Shared V S I)) : Type 0 where
  pub extends : Extends start now
  pub values_are : AreLeavesOf order now (inside (start.test unsaid) (first_in node_of value_of nodes done) (value_at start (leaves_of before))) (leaves_of values)
  pub rest_is : IsSet now rest (λ c. start.test unsaid c && not (some_hold nodes (map node_of done) c))

none_inside : {V : Type 0} (b : Bool) (o : Option V) → (b ≡ true → o ≡ None) → o ≡ (if b then None else o)
none_inside true o f = f refl
none_inside false o f = refl

and_true : (b : Bool) → b ≡ (b && true)
and_true true = refl
and_true false = refl

pub IsPutting-start : {V E S I : Type 0} (order : V → V → Ordering) (node_of : E → ℕ) (value_of : E → V) (s : Sets I) (nodes : List Node) (unsaid : I) (before : List (Shared V S I))
    → s.is_known unsaid ≡ true → AreLeaves order s (leaves_of before) → IsApart s unsaid (leaves_of before) → IsPutting order node_of value_of s s nodes unsaid before [] unsaid before
IsPutting-start order node_of value_of s nodes unsaid before known leaves apart = record {
  extends = Extends-refl s;
  values_are = record { are_leaves = leaves; values = λ c. none_inside (s.test unsaid c) (value_at s (leaves_of before) c) (apart.none c) };
  rest_is = record { known = known; test = λ c. and_true (s.test unsaid c) };
}

value_step : {V : Type 0} (a d h : Bool) (f b : Option V) (v : V) → is_some f ≡ d → (if ((a && not d) && h) then Some v else (if a then f else b)) ≡ (if a then option_or f (if h then Some v else None) else b)
value_step false d h f b v e = refl
value_step true true h None b v e = cc
value_step true false true None b v e = refl
value_step true false false None b v e = refl
value_step true true h (Some w) b v e = refl
value_step true false h (Some w) b v e = cc

rest_step : (a d h : Bool) → ((a && not d) && not h) ≡ (a && not (d || h))
rest_step false d h = refl
rest_step true true h = refl
rest_step true false h = refl

apart_step : {V : Type 0} (a d h : Bool) (f b : Option V) → is_some f ≡ d → ((a && not d) && h) ≡ true → (if a then f else b) ≡ None
apart_step false d h f b e t = cc
apart_step true true h f b e t = cc
apart_step true false h None b e t = refl
apart_step true false h (Some w) b e t = cc

-- the part of an entry has no value so far
pub IsPutting-apart : {V E S I : Type 0} (order : V → V → Ordering) (node_of : E → ℕ) (value_of : E → V) {start now s1 : Sets I} (nodes : List Node) (unsaid : I) (before values : List (Shared V S I)) (done : List E) (x : E) (rest set part : I)
    → IsPutting order node_of value_of start now nodes unsaid before done rest values → Extends now s1 → IsSet now set (holds nodes (node_of x)) → IsSet s1 part (λ c. now.test rest c && now.test set c) → IsApart s1 part (leaves_of values)
IsPutting-apart order node_of value_of {start} {now} {s1} nodes unsaid before values done x rest set part p e set_is part_is = record {
  none = λ c t.
      let here : ((start.test unsaid c && not (some_hold nodes (map node_of done) c)) && holds nodes (node_of x) c) ≡ true = ap (λ b. b && holds nodes (node_of x) c) (sym (p.rest_is.test c)) ∙ ap (λ b. now.test rest c && b) (sym (set_is.test c)) ∙ sym (part_is.test c) ∙ t in
      value_at-extends order e (leaves_of values) p.values_are.are_leaves c
      ∙ p.values_are.values c
      ∙ apart_step (start.test unsaid c) (some_hold nodes (map node_of done) c) (holds nodes (node_of x) c) (first_in node_of value_of nodes done c) (value_at start (leaves_of before) c) (is_some_first node_of value_of nodes done c) here;
}

pub IsPutting-step : {V E S I : Type 0} (order : V → V → Ordering) (node_of : E → ℕ) (value_of : E → V) {start now s1 s2 s3 : Sets I} (nodes : List Node) (unsaid : I) (before values after : List (Shared V S I)) (done more : List E) (x : E) (value : V) (rest set part rest' : I)
    → more ≡ done ++ x ∷ [] → value ≡ value_of x
    → IsPutting order node_of value_of start now nodes unsaid before done rest values
    → Extends now s1 → IsSet now set (holds nodes (node_of x)) → IsSet s1 part (λ c. now.test rest c && now.test set c)
    → Extends s1 s2 → AreLeavesOf order s2 (value_under s1 part value (value_at s1 (leaves_of values))) (leaves_of after)
    → Extends s2 s3 → IsSet s3 rest' (λ c. s2.test rest c && not (s2.test set c))
    → IsPutting order node_of value_of start s3 nodes unsaid before more rest' after
IsPutting-step {V} {E} {S} {I} order node_of value_of {start} {now} {s1} {s2} {s3} nodes unsaid before values after done more x value rest set part rest' grown is p e set_is part_is f added g rest_is =
    let some : List Bool → Bool = λ c. some_hold nodes (map node_of done) c in
    let here : List Bool → Bool = λ c. holds nodes (node_of x) c in
    let first : List Bool → Option V = first_in node_of value_of nodes done in
    let old : List Bool → Option V = value_at start (leaves_of before) in
    let part_at : (c : List Bool) → s1.test part c ≡ ((start.test unsaid c && not (some c)) && here c) = λ c. part_is.test c ∙ ap (λ b. b && now.test set c) (p.rest_is.test c) ∙ ap (λ b. (start.test unsaid c && not (some c)) && b) (set_is.test c) in
    let value_here : (c : List Bool) → value_under s1 part value (value_at s1 (leaves_of values)) c ≡ (if ((start.test unsaid c && not (some c)) && here c) then Some (value_of x) else (if start.test unsaid c then first c else old c)) = λ c.
    ap (λ b. if b then Some value else value_at s1 (leaves_of values) c) (part_at c)
    ∙ ap (λ v. if ((start.test unsaid c && not (some c)) && here c) then Some v else value_at s1 (leaves_of values) c) is
    ∙ ap (λ o. if ((start.test unsaid c && not (some c)) && here c) then Some (value_of x) else o) (value_at-extends order e (leaves_of values) p.values_are.are_leaves c ∙ p.values_are.values c) in
    let known : now.is_known rest ≡ true = p.rest_is.known in
    let early : Extends now s2 = Extends-trans e f in
    record {
      extends = Extends-trans p.extends (Extends-trans early g);
      values_are = record {
        are_leaves = AreLeaves-extends order g (leaves_of after) added.are_leaves;
        values = λ c.
            value_at-extends order g (leaves_of after) added.are_leaves c
            ∙ added.values c
            ∙ value_here c
            ∙ value_step (start.test unsaid c) (some c) (here c) (first c) (old c) (value_of x) (is_some_first node_of value_of nodes done c)
            ∙ ap (λ o. if start.test unsaid c then o else old c) (sym (first_more node_of value_of nodes done x c))
            ∙ ap (λ (xs : List E). if start.test unsaid c then first_in node_of value_of nodes xs c else old c) (sym grown);
      };
      rest_is = record {
        known = rest_is.known;
        test = λ c.
            rest_is.test c
            ∙ ap (λ b. b && not (s2.test set c)) (early.test rest c known ∙ p.rest_is.test c)
            ∙ ap (λ b. (start.test unsaid c && not (some c)) && not b) (early.test set c set_is.known ∙ set_is.test c)
            ∙ rest_step (start.test unsaid c) (some c) (here c)
            ∙ ap (λ b. start.test unsaid c && not b) (sym (some_more node_of nodes done x c))
            ∙ ap (λ (xs : List E). start.test unsaid c && not (some_hold nodes (map node_of xs) c)) (sym grown);
      };
    }
