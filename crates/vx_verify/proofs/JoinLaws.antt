-- Two stacks of operands from the top down to what they share, and what they have in common from there up.
use Rattle.std.proofs.Common.{List, None, Some, [], ap, append_assoc, arith, length, length-append, refl, subst, suc, sym, ℕ, ◌++◌, ◌+◌, ◌-◌, ◌<◌, ◌∙◌, ◌∷◌, ◌≡◌}
use Rattle.std.proofs.lemmas.List.{length-map, map-append}
use Rattle.std.proofs.lemmas.List.Elements.{All-nil, All-pop, All-push}
use Rattle.std.specs.Prelude.{All, map}
use Rattle.vx_link.specs.declared.program.Program.{Program}
use Rattle.vx_numbered.proofs.ChainLaws.{chain_grows, chain_step, no_chain}
use Rattle.vx_types.specs.Common.{IsCommon}
use Rattle.vx_types.specs.Ranked.{IsRanked}
use Rattle.vx_types.specs.declared.types.VerType.{VerType}
use Rattle.vx_verify.proofs.CommonLists.{common_itself, fit_lengths}
use Rattle.vx_verify.proofs.StoreLaws.{later_itself, later_through, number_kept, operands_kept, stack_kept, top_there, type_kept}
use Rattle.vx_verify.specs.Joining.{AreJoined, AreParted, IsApart, IsJoined, others, tops}
use Rattle.vx_verify.specs.States.{AreCommon, AreCommonStacks, HasStack, IsCommonNumber, IsCommonStack, IsLater, IsStack, IsStore, operands_at, stack_at, type_at, types_at}
use Rattle.vx_verify.specs.declared.store.Apart.{Apart}
use Rattle.vx_verify.specs.declared.store.Store.{Store}

-- ---- down

pub parted_start : (s : Store) (one other : ℕ) → IsStack s one → IsStack s other → AreParted s one other [] one other
parted_start s one other h k = record { these = All-nil (IsApart s); left_stack = h; right_stack = k; first = refl; second = refl }

-- one more number behind those in front
moved_over : (front behind stack : List ℕ) (n : ℕ) (whole : List ℕ) → whole ≡ front ++ stack → stack ≡ n ∷ behind → whole ≡ (front ++ n ∷ []) ++ behind
moved_over front behind stack n whole h k = h ∙ ap (λ ns. front ++ ns) k ∙ sym (append_assoc front (n ∷ []) behind)

pub parted_step : (s : Store) (one other : ℕ) (apart : List Apart) (left right top under another rest : ℕ) → IsStore s → AreParted s one other apart left right
    → stack_at s left ≡ top ∷ stack_at s under → under < left → stack_at s right ≡ another ∷ stack_at s rest → rest < right
    → AreParted s one other (apart ++ record { stack = left; top = top; under = under; another = another } ∷ []) under rest
parted_step s one other apart left right top under another rest is parted e l f k =
    let both : Apart = record { stack = left; top = top; under = under; another = another } in
    record {
      these = All-push (IsApart s) apart both parted.these
          (record {
            stack = parted.left_stack;
            under = omega (arith, l, parted.left_stack);
            top = top_there s left top under is parted.left_stack e;
            another = top_there s right another rest is parted.right_stack f;
            is = e;
          });
      left_stack = omega (arith, l, parted.left_stack);
      right_stack = omega (arith, k, parted.right_stack);
      first = moved_over (tops apart) (stack_at s under) (stack_at s left) top (stack_at s one) parted.first e
          ∙ ap (λ ns. ns ++ stack_at s under) (sym (map-append (λ (a : Apart). a.top) apart (both ∷ [])));
      second = moved_over (others apart) (stack_at s rest) (stack_at s right) another (stack_at s other) parted.second f
          ∙ ap (λ ns. ns ++ stack_at s rest) (sym (map-append (λ (a : Apart). a.another) apart (both ∷ [])));
    }

pub parted_end : (s : Store) (one other : ℕ) (apart : List Apart) (left right : ℕ) → AreParted s one other apart left right → left ≡ right → AreParted s one other apart left left
parted_end s one other apart left right parted e = subst (λ n. AreParted s one other apart left n) (sym e) parted

-- ---- stacks of other lengths

some_stack : (s : Store) (stack : ℕ) → IsStack s stack → 0 < stack → 0 < length (stack_at s stack)
some_stack s stack within l =
    let place : stack ≡ suc (stack - 1) = omega (arith, l) in
    let more = ap length (chain_step s.chains.links.items s.chains.fall stack (stack - 1) place within) in
    omega (arith, more)

no_stack : (s : Store) (stack : ℕ) → stack ≡ 0 → length (stack_at s stack) ≡ 0
no_stack s stack e = ap (λ n. length (stack_at s n)) e ∙ ap length (no_chain s.chains.links.items)

lengths_of : (whole front stack : List ℕ) (n : ℕ) → whole ≡ front ++ stack → length front ≡ n → length whole ≡ n + length stack
lengths_of whole front stack n h k = ap length h ∙ length-append front stack ∙ ap (λ m. m + length stack) k

other_lengths : (s : Store) (one other : ℕ) (apart : List Apart) (left right : ℕ) → AreParted s one other apart left right → ¬ (length (stack_at s left) ≡ length (stack_at s right))
    → ¬ (length (stack_at s one) ≡ length (stack_at s other))
other_lengths s one other apart left right parted apart_still same =
    let first = lengths_of (stack_at s one) (tops apart) (stack_at s left) (length apart) parted.first (length-map apart (λ (a : Apart). a.top)) in
    let second = lengths_of (stack_at s other) (others apart) (stack_at s right) (length apart) parted.second (length-map apart (λ (a : Apart). a.another)) in
    apart_still (omega (arith, first, second, same))

pub no_first : (s : Store) (one other : ℕ) (apart : List Apart) (left right : ℕ) → AreParted s one other apart left right → ¬ (left ≡ right) → left ≡ 0
    → ¬ (length (stack_at s one) ≡ length (stack_at s other))
no_first s one other apart left right parted differ e =
    other_lengths s one other apart left right parted
    (λ same. let none = no_stack s left e in let some = some_stack s right parted.right_stack (omega (arith, e, differ)) in absurd (omega (arith, none, some, same)))

pub no_second : (s : Store) (one other : ℕ) (apart : List Apart) (left right : ℕ) → AreParted s one other apart left right → ¬ (left ≡ right) → right ≡ 0
    → ¬ (length (stack_at s one) ≡ length (stack_at s other))
no_second s one other apart left right parted differ e =
    other_lengths s one other apart left right parted
    (λ same. let none = no_stack s right e in let some = some_stack s left parted.left_stack (omega (arith, e, differ)) in absurd (omega (arith, none, some, same)))

-- ---- up

pub apart_kept : (s t : Store) (both : Apart) → IsStore s → IsLater s t → IsApart s both → IsApart t both
apart_kept s t both is later a = record {
  stack = stack_kept s t both.stack later a.stack;
  under = stack_kept s t both.under later a.under;
  top = number_kept s t both.top later a.top;
  another = number_kept s t both.another later a.another;
  is = kept both.stack a.stack ∙ a.is ∙ ap (λ ns. both.top ∷ ns) (sym (kept both.under a.under));
}
  where
    kept : (stack : ℕ) → IsStack s stack → stack_at t stack ≡ stack_at s stack
    kept stack within = chain_grows s.chains.links.items t.chains.links.items s.chains.fall stack later.links within

-- the first stack itself
pub joined_itself : (p : Program) (s t : Store) (both : Apart) (merged number : ℕ) → IsStore s → IsApart s both → IsCommonNumber p s t both.top both.another number
    → number ≡ both.top → merged ≡ both.under → IsJoined p s t both merged both.stack
joined_itself p s t both merged number is a made e f =
    let kept : type_at t number ≡ type_at s both.top = ap (type_at t) e ∙ type_kept s t both.top made.later.types a.top in
    record {
      later = made.later;
      within = stack_kept s t both.stack made.later a.stack;
      top = type_at s both.top;
      common = subst (λ (x : VerType). IsCommon p (type_at s both.top) (type_at s both.another) x) kept made.common;
      is = operands_kept s t both.stack is made.later a.stack ∙ ap (types_at s) a.is ∙ sym (ap (λ n. type_at s both.top ∷ operands_at s n) f);
    }

-- a new stack
pub joined_put : (p : Program) (s t u : Store) (both : Apart) (merged number stack : ℕ) → IsStore s → IsStack s merged → IsCommonNumber p s t both.top both.another number
    → HasStack t u stack (type_at t number ∷ operands_at t merged) → IsJoined p s u both merged stack
joined_put p s t u both merged number stack is within made put = record {
  later = later_through s t u made.later put.later;
  within = put.within;
  top = type_at t number;
  common = made.common;
  is = put.is ∙ ap (λ (xs : List VerType). type_at t number ∷ xs) (operands_kept s t merged is made.later within);
}

-- what came apart so far, with what it has in common
pub record AreJoining (p : Program) (s t : Store) (whole rest : List Apart) (shared merged : ℕ) : Type 0 where
  pub later : IsLater s t
  pub within : IsStack t merged
  pub these : All (IsApart s) rest
  pub firsts : List VerType
  pub seconds : List VerType
  pub one : types_at s (tops whole) ++ operands_at s shared ≡ types_at s (tops rest) ++ firsts
  pub other : types_at s (others whole) ++ operands_at s shared ≡ types_at s (others rest) ++ seconds
  pub common : AreCommon p firsts seconds (operands_at t merged)

pub joining_start : (p : Program) → IsRanked p → (s : Store) (whole : List Apart) (shared : ℕ) → IsStore s → All (IsApart s) whole → IsStack s shared
    → AreJoining p s s whole whole shared shared
joining_start p r s whole shared is these within = record {
  later = later_itself s is;
  within = within;
  these = these;
  firsts = operands_at s shared;
  seconds = operands_at s shared;
  one = refl;
  other = refl;
  common = common_itself p r (operands_at s shared);
}

-- the last of them goes over
last_over : (s : Store) (part : Apart → ℕ) (rest fewer : List Apart) (both : Apart) (done : List VerType) → rest ≡ fewer ++ both ∷ []
    → types_at s (map part rest) ++ done ≡ types_at s (map part fewer) ++ (type_at s (part both) ∷ done)
last_over s part rest fewer both done e =
    ap (λ (es : List Apart). types_at s (map part es) ++ done) e
    ∙ ap (λ ns. types_at s ns ++ done) (map-append part fewer (both ∷ []))
    ∙ ap (λ (xs : List VerType). xs ++ done) (map-append (type_at s) (map part fewer) (part both ∷ []))
    ∙ append_assoc (types_at s (map part fewer)) (type_at s (part both) ∷ []) done

last_of : (s : Store) (rest fewer : List Apart) (both : Apart) → rest ≡ fewer ++ both ∷ [] → All (IsApart s) rest → All (IsApart s) fewer × IsApart s both
last_of s rest fewer both e all = let h = All-pop (IsApart s) rest fewer (Some both) e all in (h.0, h.1)

pub joining_last : (p : Program) (s t : Store) (whole rest fewer : List Apart) (both : Apart) (shared merged : ℕ) → AreJoining p s t whole rest shared merged → rest ≡ fewer ++ both ∷ []
    → IsStore s → IsApart t both
joining_last p s t whole rest fewer both shared merged joining e is = apart_kept s t both is joining.later (last_of s rest fewer both e joining.these).1

pub joining_step : (p : Program) (s t u : Store) (whole rest fewer : List Apart) (both : Apart) (shared merged stack : ℕ) → AreJoining p s t whole rest shared merged
    → rest ≡ fewer ++ both ∷ [] → IsJoined p t u both merged stack → AreJoining p s u whole fewer shared stack
joining_step p s t u whole rest fewer both shared merged stack joining e joined =
    let parts = last_of s rest fewer both e joining.these in
    let first : type_at t both.top ≡ type_at s both.top = type_kept s t both.top joining.later.types parts.1.top in
    let second : type_at t both.another ≡ type_at s both.another = type_kept s t both.another joining.later.types parts.1.another in
    let top : IsCommon p (type_at s both.top) (type_at s both.another) joined.top =
    subst (λ (x : VerType). IsCommon p x (type_at s both.another) joined.top) first (subst (λ (x : VerType). IsCommon p (type_at t both.top) x joined.top) second joined.common) in
    record {
      later = later_through s t u joining.later joined.later;
      within = joined.within;
      these = parts.0;
      firsts = type_at s both.top ∷ joining.firsts;
      seconds = type_at s both.another ∷ joining.seconds;
      one = joining.one ∙ last_over s (λ (a : Apart). a.top) rest fewer both joining.firsts e;
      other = joining.other ∙ last_over s (λ (a : Apart). a.another) rest fewer both joining.seconds e;
      common = subst (λ (xs : List VerType). AreCommon p (type_at s both.top ∷ joining.firsts) (type_at s both.another ∷ joining.seconds) xs) (sym joined.is) (top, joining.common);
    }

-- ---- both ways

operands_of : (s : Store) (stack : ℕ) (front : List ℕ) (shared : ℕ) → stack_at s stack ≡ front ++ stack_at s shared → operands_at s stack ≡ types_at s front ++ operands_at s shared
operands_of s stack front shared e = ap (types_at s) e ∙ map-append (type_at s) front (stack_at s shared)

pub stacks_common : (p : Program) (s t : Store) (one other : ℕ) (apart : List Apart) (shared merged : ℕ) → AreParted s one other apart shared shared → AreJoined p s t apart shared merged
    → IsCommonStack p s t one other merged
stacks_common p s t one other apart shared merged parted joined = record {
  later = joined.later;
  within = joined.within;
  common =
      subst (λ (xs : List VerType). AreCommon p xs (operands_at s other) (operands_at t merged)) (sym (operands_of s one (tops apart) shared parted.first))
      (subst (λ (xs : List VerType). AreCommon p (types_at s (tops apart) ++ operands_at s shared) xs (operands_at t merged)) (sym (operands_of s other (others apart) shared parted.second)) joined.common);
}

pub stacks_unlike : (p : Program) (s t : Store) (one other : ℕ) → ¬ (length (stack_at s one) ≡ length (stack_at s other)) → AreCommonStacks p s t one other None
stacks_unlike p s t one other unlike operands h k =
    unlike
    (sym (length-map (stack_at s one) (type_at s)) ∙ fit_lengths p (operands_at s one) operands h ∙ sym (fit_lengths p (operands_at s other) operands k)
    ∙ length-map (stack_at s other) (type_at s))
