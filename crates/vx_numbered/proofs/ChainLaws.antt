-- What chains are once there are more links.
use Rattle.std.proofs.lemmas.Bool.{cases_lt}
use Rattle.std.proofs.Common.{get_or, List, [], ap, arith, inl, inr, length, length-append, refl, subst, suc, sym, zero, ℕ, ◌++◌, ◌+◌, ◌-◌, ◌<◌, ◌∙◌, ◌∷◌, ◌≡◌, ◌≤◌, ◌⊎◌}
use Rattle.vx_numbered.proofs.Growing.{item_kept, item_last}
use Rattle.vx_numbered.specs.Chains.{DoFall, chain_of, chain_within, link_at, no_link}
use Rattle.vx_numbered.specs.Trees.{Grows}
use Rattle.vx_numbered.specs.declared.chains.Link.{Link}

-- ---- as many steps as are wanted

more_steps : (links : List Link) → DoFall links → (n stack : ℕ) → stack ≤ n → stack ≤ length links → chain_within links n stack ≡ chain_within links (suc n) stack
more_steps links fall zero zero l within = refl
more_steps links fall zero (suc place) l within = absurd (omega (arith, l))
more_steps links fall (suc n) zero l within = refl
more_steps links fall (suc n) (suc place) l within =
    let falls : (link_at links place).under ≤ place = fall place (omega (arith, within)) in
    ap (λ rest. (link_at links place).top ∷ rest)
    (more_steps links fall n (link_at links place).under (omega (arith, falls, l)) (omega (arith, falls, within)))

enough : (links : List Link) → DoFall links → (more stack : ℕ) → stack ≤ length links → chain_within links stack stack ≡ chain_within links (more + stack) stack
enough links fall zero stack within = ap (λ n. chain_within links n stack) (let e : stack ≡ 0 + stack = omega arith in e)
enough links fall (suc more) stack within =
    enough links fall more stack within
    ∙ more_steps links fall (more + stack) stack (omega arith) within
    ∙ ap (λ n. chain_within links n stack) (let e : suc (more + stack) ≡ suc more + stack = omega arith in e)

pub chain_step : (links : List Link) → DoFall links → (stack place : ℕ) → stack ≡ suc place → stack ≤ length links
    → chain_of links stack ≡ (link_at links place).top ∷ chain_of links (link_at links place).under
unfolding chain_of
chain_step links fall stack place e within =
    let inside : suc place ≤ length links = omega (arith, e, within) in
    let falls : (link_at links place).under ≤ place = fall place (omega (arith, inside)) in
    let whole : place ≡ (place - (link_at links place).under) + (link_at links place).under = omega (arith, falls) in
    ap (λ k. chain_within links k k) e
    ∙ ap (λ rest. (link_at links place).top ∷ rest)
    (ap (λ n. chain_within links n (link_at links place).under) whole
    ∙ sym (enough links fall (place - (link_at links place).under) (link_at links place).under (omega (arith, falls, inside))))

pub no_chain : (links : List Link) → chain_of links 0 ≡ []
unfolding chain_of
no_chain links = refl

-- ---- more links

within_kept : (xs more : List Link) → DoFall xs → (n stack : ℕ) → stack ≤ length xs → chain_within (xs ++ more) n stack ≡ chain_within xs n stack
within_kept xs more fall zero stack within = refl
within_kept xs more fall (suc n) zero within = refl
within_kept xs more fall (suc n) (suc place) within =
    let inside : place < length xs = omega (arith, within) in
    let same : link_at (xs ++ more) place ≡ link_at xs place = item_kept xs more no_link place inside in
    let falls : (link_at xs place).under ≤ place = fall place inside in
    ap (λ (link : Link). link.top ∷ chain_within (xs ++ more) n link.under) same
    ∙ ap (λ rest. (link_at xs place).top ∷ rest) (within_kept xs more fall n (link_at xs place).under (omega (arith, falls, inside)))

pub chain_grows : (xs ys : List Link) → DoFall xs → (stack : ℕ) → Grows xs ys → stack ≤ length xs → chain_of ys stack ≡ chain_of xs stack
unfolding chain_of
chain_grows xs ys fall stack g within = ap (λ (zs : List Link). chain_within zs stack stack) g.is ∙ within_kept xs g.more fall stack stack within

-- ---- one more link

pub falls_more : (xs : List Link) (link : Link) → DoFall xs → link.under ≤ length xs → DoFall (xs ++ link ∷ [])
falls_more xs link fall under place within = by (cases_lt place (length xs))
  where
    by : (place < length xs) ⊎ (length xs ≤ place) → (link_at (xs ++ link ∷ []) place).under ≤ place
    by (inl l) = subst (λ (k : Link). k.under ≤ place) (sym (item_kept xs (link ∷ []) no_link place l)) (fall place l)
    by (inr l) =
        let last : length xs ≡ place = omega (arith, l, within, length-append xs (link ∷ [])) in
        subst (λ n. (link_at (xs ++ link ∷ []) n).under ≤ n) last (subst (λ (k : Link). k.under ≤ length xs) (sym (item_last xs link no_link)) under)

pub chain_more : (xs ys : List Link) (link : Link) → DoFall xs → DoFall ys → ys ≡ xs ++ link ∷ [] → link.under ≤ length xs → chain_of ys (length xs + 1) ≡ link.top ∷ chain_of xs link.under
chain_more xs ys link fall falls is under =
    let g : Grows xs ys = record { more = link ∷ []; is = is } in
    let longer : length ys ≡ length xs + 1 = ap length is ∙ length-append xs (link ∷ []) in
    let last : link_at ys (length xs) ≡ link = ap (λ (zs : List Link). link_at zs (length xs)) is ∙ item_last xs link no_link in
    chain_step ys falls (length xs + 1) (length xs) (omega arith) (omega (arith, longer))
    ∙ ap (λ (k : Link). k.top ∷ chain_of ys k.under) last
    ∙ ap (λ rest. link.top ∷ rest) (chain_grows xs ys fall link.under g under)

-- ---- a link that is read

pub link_read : (xs : List Link) (i : ℕ) (x : Link) → i < length xs → x ≡ get_or xs i x → x ≡ link_at xs i
link_read [] i x l e = absurd (omega arith)
link_read (y ∷ ys) zero x l e = e
link_read (y ∷ ys) (suc i) x l e = link_read ys i x (omega arith) e
