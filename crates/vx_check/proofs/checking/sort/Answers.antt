use Rattle.std.proofs.Common.{ℕ, rules}
use Rattle.std.proofs.lemmas.List.Sorted.{answers_always}
use Rattle.std.specs.declared.cmp.Reverse.{Reverse}
use Rattle.vx_check.specs.declared.told.Told.{Told}
use Rattle.vx_check.proofs.checking.sort.Goals as goal

pub returns : goal.returns
returns c =
    let key : Told → ℕ × Reverse ℕ × ℕ = λ t. (t.rank, record { 0 = t.number }, t.place) in
    record {
      same = c.sort_by_key.ensures.permutation;
      worst_first = c.in_ok-sort_by_key.ensures.sorted key (answers_always _ _ _ (λ f a r g h. search rules));
      stable = c.sort_by_key.ensures.stable key (answers_always _ _ _ (λ f a r g h. search rules));
    }
