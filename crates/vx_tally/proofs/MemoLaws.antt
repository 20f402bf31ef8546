-- What is noted.
use Rattle.std.proofs.Common.{List, inl, inr, refl, sym, subst}
use Rattle.std.specs.Prelude.{All, Contains}
use Rattle.std.specs.BTreeMap.{insert_entry}
use Rattle.std.specs.Map.{values_of}
use Rattle.std.specs.declared.cmp.Ordering.{Ordering}
use Rattle.std.proofs.lemmas.List.Elements.{All-contains, All-contains_itself, All-weaker}
use Rattle.std.proofs.lemmas.Map.Views.{All-values-insert_entry}
use Rattle.vx_tally.specs.declared.memo.Known.{Known}
use Rattle.vx_tally.specs.Answers.{IsNoted}

pub AreNoted-put : {K I V : Type 0} (cmp : K → K → Ordering) (key : K) (known : Known I V) (entries : List (K × Known I V)) → All (IsNoted known (values_of entries)) (values_of (insert_entry cmp entries key known))
AreNoted-put cmp key known entries = All-values-insert_entry cmp key known (IsNoted known (values_of entries)) entries (All-weaker (Contains (values_of entries)) (IsNoted known (values_of entries)) (λ x h. inl h) (values_of entries) (All-contains_itself (values_of entries))) (inr refl)

pub AreNoted-same : {I V : Type 0} (known : Known I V) (old : List (Known I V)) → All (IsNoted known old) old
AreNoted-same known old = All-weaker (Contains old) (IsNoted known old) (λ x h. inl h) old (All-contains_itself old)

-- what holds of all that was noted before and of what is noted holds of all
pub All-noted : {I V : Type 0} (P : Known I V → Type 0) (known : Known I V) (old new : List (Known I V)) → All (IsNoted known old) new → All P old → P known → All P new
All-noted P known old new h p q = All-weaker (IsNoted known old) P (λ x n. elim n [
  | inl m ↦ All-contains P old x p m
  | inr e ↦ subst P (sym e) q
]) new h
