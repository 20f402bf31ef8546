-- A group that makes an attempt more.
use Rattle.std.proofs.Common.{◌≡◌, ℕ, ◌+◌, Bool, true, false, List, refl, sym, ◌∙◌, ap}
use Rattle.std.specs.Prelude.{Option, None, if◌then◌else◌, unwrap_or}
use Rattle.std.specs.Ordering.{nat_cmp}
use Rattle.vx_space.specs.Sets.{Sets, Extends, IsLawful}
use Rattle.vx_cond.specs.Cond.{Conditional, IsCondOf, cond_at}
use Rattle.vx_cond.specs.Leaves.{value_within}
use Rattle.vx_cond.proofs.CondLaws.{IsCond-of, cond_at-of}
use Rattle.vx_group.specs.Group.{GroupView, IsGroup, attempts_at, path_of}
use Rattle.vx_group.proofs.GroupLaws.{IsGroup-attempts, IsGroup-extends, IsGroup-path_known, attempts_at-extends}
use Rattle.vx_heap.proofs.Written.{restricted_scope}
use Rattle.vx_turns.specs.Turns.{IsSpent}

pub IsSpent-made : {S I : Type 0} {s0 s1 s2 : Sets I} → IsLawful s2 → Extends s0 s1 → Extends s1 s2 → (group spent : GroupView S I) (attempts : Conditional ℕ S I) → s0.is_known (path_of group) ≡ true → IsGroup s1 spent → spent ≡ record group { attempts = spent.attempts } → path_of spent ≡ path_of group → ((c : List Bool) → s0.test (path_of group) c ≡ true → attempts_at s1 spent c ≡ attempts_at s0 group c + 1) → IsCondOf nat_cmp s2 (value_within s1 (path_of spent) (cond_at s1 spent.attempts)) attempts → IsSpent s0 s2 group spent attempts
IsSpent-made {S = S} {I = I} {s1 = s1} {s2 = s2} l e1 e2 group spent attempts known g same path more q = record {
  is_group = IsGroup-extends e2 spent g;
  same = same;
  path = path;
  more = λ c t. attempts_at-extends e2 spent g c ∙ more c t;
  is_cond = IsCond-of nat_cmp s2 (value_within s1 (path_of spent) (cond_at s1 spent.attempts)) attempts q;
  scope = restricted_scope nat_cmp l e2 spent.attempts attempts (path_of spent) (IsGroup-attempts s1 spent g) (IsGroup-path_known s1 spent g) (record { inside = λ c t. t }) q;
  at = λ c t. ap (λ o. unwrap_or o 0) (cond_at-of nat_cmp s2 (value_within s1 (path_of spent) (cond_at s1 spent.attempts)) attempts c q ∙ there (s1.test (path_of spent) c) (cond_at s1 spent.attempts c) (sym (e2.test (path_of spent) c (IsGroup-path_known s1 spent g)) ∙ t)) ∙ sym (attempts_at-extends e2 spent g c);
}
  where
    there : (b : Bool) (o : Option ℕ) → b ≡ true → (if b then o else None) ≡ o
    there true o h = refl
    there false o h = cc h
