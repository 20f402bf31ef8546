-- Parts of a set, and the configurations of one.
use Rattle.std.proofs.Common.{◌≡◌, ◌≢◌, Bool, true, List, sym, ◌∙◌}
use Rattle.std.specs.Prelude.{◌&&◌}
use Rattle.vx_space.specs.Sets.{Sets, IsSet, Extends}
use Rattle.vx_bdd_tools.specs.Members.{IsMember}
use Rattle.vx_cover.specs.Targets.{IsPart}
use Rattle.vx_cover.proofs.Ends.{and_left}

pub IsPart-whole : {I : Type 0} {s : Sets I} (first : I) → s.is_known first ≡ true → first ≢ s.never → IsPart s s first first
IsPart-whole first k n = record { known = k; some = n; less = λ c t. t }

pub IsPart-later : {I : Type 0} {s0 s s' : Sets I} → Extends s s' → (whole part : I) → IsPart s0 s whole part → IsPart s0 s' whole part
IsPart-later x whole part h = record {
  known = x.known part h.known;
  some = λ e. h.some (e ∙ x.never);
  less = λ c t. h.less c (sym (x.test part c h.known) ∙ t);
}

pub IsPart-met : {I : Type 0} {s s' : Sets I} (whole other both : I) → IsSet s' both (λ c. s.test whole c && s.test other c) → both ≢ s'.never → IsPart s s' whole both
IsPart-met {I} {s} {s'} whole other both b n = record {
  known = b.known;
  some = n;
  less = λ c t. and_left (s.test whole c) (s.test other c) (sym (b.test c) ∙ t);
}

pub IsPart-trans : {I : Type 0} {s0 s1 s2 : Sets I} (whole part less : I) → IsPart s0 s1 whole part → IsPart s1 s2 part less → IsPart s0 s2 whole less
IsPart-trans whole part less h k = record { known = k.known; some = k.some; less = λ c t. h.less c (k.less c t) }

pub IsPart-before : {I : Type 0} {s0 s1 s2 : Sets I} → Extends s0 s1 → (whole part : I) → s0.is_known whole ≡ true → IsPart s1 s2 whole part → IsPart s0 s2 whole part
IsPart-before x whole part k h = record { known = h.known; some = h.some; less = λ c t. sym (x.test whole c k) ∙ h.less c t }

pub IsMember-part : {I : Type 0} {s0 s1 : Sets I} → Extends s0 s1 → (whole part : I) (c : List Bool) → IsPart s0 s1 whole part → IsMember s1 part c → IsMember s0 whole c
IsMember-part x whole part c h m = record { member = h.less c m.member; values = m.values ∙ x.options }
