-- What a restricted or joined row has at a configuration: the values of the side that holds there.
use Rattle.std.proofs.Common.{◌≡◌, Bool, true, false, List, [], ◌∷◌, refl, ◌∙◌, ap, length, map, arith, suc}
use Rattle.std.proofs.lemmas.List.{length-map}
use Rattle.std.specs.Prelude.{Option, Some, None, is_some}
use Rattle.std.specs.Option.{option_or}
use Rattle.std.specs.declared.cmp.Ordering.{Ordering}
use Rattle.vx_space.specs.Sets.{Sets, Extends}
use Rattle.vx_cond.specs.Cond.{Conditional, cond_at, IsCond}
use Rattle.vx_cond.specs.Row.{Conditionals, AreConds, IsRow, IsRowOf, conds_at, values_within, firsts_of, zip_with}
use Rattle.vx_cond.proofs.RowLaws.{conds_at-extends}

-- there is a value just inside the scope
pub cond_at-covers : {T S I : Type 0} (cmp : T → T → Ordering) (sets : Sets I) (cond : Conditional T S I) → IsCond cmp sets cond → (c : List Bool) → is_some (cond_at sets cond c) ≡ sets.test cond.scope c
unfolding IsCond
cond_at-covers cmp sets cond v c = v.covers c

pub first_there : {T : Type 0} (a b : Option T) → is_some a ≡ true → option_or a b ≡ a
first_there None b h = cc
first_there (Some x) b h = refl

pub first_absent : {T : Type 0} (a b : Option T) → is_some a ≡ false → option_or a b ≡ b
first_absent None b h = refl
first_absent (Some x) b h = cc

none_within : {T : Type 0} (values : List (Option T)) → map (λ (o : Option T). o) values ≡ values
none_within [] = refl
none_within (v ∷ vs) = ap (λ ws. v ∷ ws) (none_within vs)

-- a restricted row has the same values inside
pub conds_at-within : {T S I : Type 0} (cmp : T → T → Ordering) (old new : Sets I) (row : Conditionals T S I) (within : I) (made : Conditionals T S I) → IsRowOf cmp new (values_within old within (conds_at old row.conds)) made → (c : List Bool) → old.test within c ≡ true → conds_at new made.conds c ≡ conds_at old row.conds c
unfolding IsRowOf
conds_at-within cmp old new row within made r c h = r.at c ∙ rw h (none_within (conds_at old row.conds c))

firsts_there : {T S I : Type 0} (cmp : T → T → Ordering) (sets : Sets I) (first : I) (xs ys : List (Conditional T S I)) → AreConds cmp sets first xs → length xs ≡ length ys → (c : List Bool) → sets.test first c ≡ true → zip_with option_or (conds_at sets xs c) (conds_at sets ys c) ≡ conds_at sets xs c
firsts_there cmp sets first [] ys h n c t = refl
firsts_there cmp sets first (x ∷ xs) [] h n c t = cc
firsts_there cmp sets first (x ∷ xs) (y ∷ ys) h n c t =
    let shorter : length xs ≡ length ys = omega (arith, n) in
    let here = first_there (cond_at sets x c) (cond_at sets y c) (cond_at-covers cmp sets x h.0 c ∙ ap (λ i. sets.test i c) h.1 ∙ t) in
    let later = firsts_there cmp sets first xs ys h.2 shorter c t in
    cc

firsts_absent : {T S I : Type 0} (cmp : T → T → Ordering) (sets : Sets I) (first : I) (xs ys : List (Conditional T S I)) → AreConds cmp sets first xs → length xs ≡ length ys → (c : List Bool) → sets.test first c ≡ false → zip_with option_or (conds_at sets xs c) (conds_at sets ys c) ≡ conds_at sets ys c
firsts_absent cmp sets first [] [] h n c t = refl
firsts_absent cmp sets first [] (y ∷ ys) h n c t = cc
firsts_absent cmp sets first (x ∷ xs) [] h n c t = cc
firsts_absent cmp sets first (x ∷ xs) (y ∷ ys) h n c t =
    let shorter : length xs ≡ length ys = omega (arith, n) in
    let here = first_absent (cond_at sets x c) (cond_at sets y c) (cond_at-covers cmp sets x h.0 c ∙ ap (λ i. sets.test i c) h.1 ∙ t) in
    let later = firsts_absent cmp sets first xs ys h.2 shorter c t in
    cc

-- two joined rows have the values of the first inside the first's scope, and of the second elsewhere
pub conds_at-first : {T S I : Type 0} (cmp : T → T → Ordering) (old new : Sets I) (a b made : Conditionals T S I) → IsRow cmp old a → length a.conds ≡ length b.conds → IsRowOf cmp new (firsts_of (conds_at old a.conds) (conds_at old b.conds)) made → (c : List Bool) → old.test a.scope c ≡ true → conds_at new made.conds c ≡ conds_at old a.conds c
unfolding IsRow IsRowOf
conds_at-first cmp old new a b made v n r c t = r.at c ∙ firsts_there cmp old a.scope a.conds b.conds v.conds n c t

pub conds_at-second : {T S I : Type 0} (cmp : T → T → Ordering) (old new : Sets I) (a b made : Conditionals T S I) → IsRow cmp old a → length a.conds ≡ length b.conds → IsRowOf cmp new (firsts_of (conds_at old a.conds) (conds_at old b.conds)) made → (c : List Bool) → old.test a.scope c ≡ false → conds_at new made.conds c ≡ conds_at old b.conds c
unfolding IsRow IsRowOf
conds_at-second cmp old new a b made v n r c t = r.at c ∙ firsts_absent cmp old a.scope a.conds b.conds v.conds n c t

length-zip_with : {A B C : Type 0} (f : A → B → C) (xs : List A) (ys : List B) → length xs ≡ length ys → length (zip_with f xs ys) ≡ length xs
length-zip_with f [] ys n = refl
length-zip_with f (x ∷ xs) [] n = cc
length-zip_with f (x ∷ xs) (y ∷ ys) n =
    let shorter : length xs ≡ length ys = omega (arith, n) in
    ap suc (length-zip_with f xs ys shorter)

-- a restricted or joined row has as many parts
pub length-within : {T S I : Type 0} (cmp : T → T → Ordering) (old new : Sets I) (row : Conditionals T S I) (within : I) (made : Conditionals T S I) → IsRowOf cmp new (values_within old within (conds_at old row.conds)) made → length made.conds ≡ length row.conds
unfolding IsRowOf
length-within cmp old new row within made r = simp length-map at (ap length (r.at []))

pub length-joined : {T S I : Type 0} (cmp : T → T → Ordering) (old new : Sets I) (a b made : Conditionals T S I) → length a.conds ≡ length b.conds → IsRowOf cmp new (firsts_of (conds_at old a.conds) (conds_at old b.conds)) made → length made.conds ≡ length a.conds
unfolding IsRowOf
length-joined cmp old new a b made n r =
    let same : length (conds_at old a.conds []) ≡ length (conds_at old b.conds []) = simp length-map n in
    let back : length (conds_at old a.conds []) ≡ length a.conds = simp length-map in
    (simp length-map at (ap length (r.at []))) ∙ length-zip_with option_or (conds_at old a.conds []) (conds_at old b.conds []) same ∙ back

-- the values stay where a space is extended
pub row_at-extends : {T S I : Type 0} (cmp : T → T → Ordering) {old new : Sets I} → Extends old new → (row : Conditionals T S I) → IsRow cmp old row → (c : List Bool) → conds_at new row.conds c ≡ conds_at old row.conds c
unfolding IsRow
row_at-extends cmp e row v c = conds_at-extends cmp e row.scope row.conds v.conds c

pub IsRow-scope_known : {T S I : Type 0} (cmp : T → T → Ordering) (sets : Sets I) (row : Conditionals T S I) → IsRow cmp sets row → sets.is_known row.scope ≡ true
unfolding IsRow
IsRow-scope_known cmp sets row v = v.scope_known
