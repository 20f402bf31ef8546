-- Values that are taken off a row one by one.
use Rattle.std.proofs.Common.{◌≡◌, ℕ, ◌+◌, ◌-◌, ◌<◌, ◌≤◌, List, [], ◌∷◌, ◌++◌, sym, ◌∙◌, ap, arith, append_assoc, drop, length, reverse, take}
use Rattle.std.proofs.lemmas.List.{append-nil, drop_at, length-append, length-reverse, length_push, reverse-append, take_at}
use Rattle.vx_cond.specs.Cond.{Conditional}
use Rattle.vx_cond.specs.Row.{Conditionals}
use Rattle.vx_invoke.specs.Called.{top_conds}

-- what the loop keeps: so many values were taken off, the last one first
pub record IsPopping {T S I : Type 0} (start now : Conditionals T S I) (values : List (Conditional T S I)) (i : ℕ) : Type 0 where
  pub number : length values ≡ i
  pub together : start ≡ record now { conds = now.conds ++ reverse values }

pub IsPopping-start : {T S I : Type 0} (start : Conditionals T S I) → IsPopping start start [] 0
IsPopping-start start = record { number = omega arith; together = ap (λ conds. record start { conds = conds }) (sym (append-nil start.conds)) }

pub IsPopping-step : {T S I : Type 0} (start before after : Conditionals T S I) (values : List (Conditional T S I)) (i : ℕ) (cond : Conditional T S I) → IsPopping start before values i → before ≡ record after { conds = after.conds ++ cond ∷ [] } → IsPopping start after (values ++ cond ∷ []) (i + 1)
IsPopping-step {T = T} {S = S} {I = I} start before after values i cond d e = record {
  number = omega (arith, d.number, length_push values cond);
  together = d.together
      ∙ ap (λ (r : Conditionals T S I). record r { conds = r.conds ++ reverse values }) e
      ∙ ap (λ conds. record after { conds = conds }) (append_assoc after.conds (cond ∷ []) (reverse values) ∙ ap (λ xs. after.conds ++ xs) (sym (reverse-append values (cond ∷ []))));
}

module _ {T S I : Type 0} (start now : Conditionals T S I) (values : List (Conditional T S I)) (i count : ℕ) (d : IsPopping start now values i) (enough : count ≤ length start.conds) where
  all : start.conds ≡ now.conds ++ reverse values
  all = ap (λ (r : Conditionals T S I). r.conds) d.together

  long : length start.conds ≡ length now.conds + length values
  long = let number = ap length all in omega (arith, number, length-append now.conds (reverse values), length-reverse values)

  -- there is another one
  pub IsPopping-some : i < count → now.conds ≡ [] → ⊥
  IsPopping-some l e =
      let none : length now.conds ≡ 0 = ap length e in
      let number = long in
      omega (arith, d.number, none, number, l, enough)

  left : i ≡ count → length now.conds ≡ length start.conds - count
  left e = let number = long in omega (arith, d.number, number, e)

  -- those under them are left
  pub IsPopping-left : i ≡ count → now ≡ record start { conds = take (length start.conds - count) start.conds }
  IsPopping-left e =
      let scope = ap (λ (r : Conditionals T S I). r.scope) d.together in
      let conds = ap (take (length start.conds - count)) all ∙ take_at now.conds (reverse values) (length start.conds - count) (left e) in
      λ j. record { scope = sym scope j; conds = sym conds j }

  -- and they are the last ones
  pub IsPopping-taken : i ≡ count → reverse values ≡ top_conds count start.conds
  IsPopping-taken e = sym (drop_at now.conds (reverse values) (length start.conds - count) (left e)) ∙ ap (drop (length start.conds - count)) (sym all)
