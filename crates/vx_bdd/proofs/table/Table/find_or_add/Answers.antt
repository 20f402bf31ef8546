use Rattle.std.proofs.Common.{◌≡◌, sym, ◌∙◌, ap, rules}
use Rattle.std.specs.HashMap.Entry.{map_with_value}
use Rattle.vx_bdd.proofs.TableLaws.{IsAddedNode, IsReduced-added, IsIndex-added, IsIndex-same}
use Rattle.vx_bdd.proofs.table.Table.find_or_add.Goals as goal

pub invariant_of-self-in-Vacant : goal.invariant_of-self-in-Vacant
invariant_of-self-in-Vacant c =
    let old = c.args.self.now in
    let id = c.insert_reserved-id.result in
    let slots : c.reserve.new.self.slots ≡ old.nodes.slots = ap (λ s. s.slots) c.in_ok-reserve-in-Vacant.ensures.rest_kept in
    let lent = rw c.in-Vacant.is at c.in_ok-entry.ensures.same_map in
    let added : IsAddedNode old.nodes.slots c.insert_reserved-id.new.self.slots old.ids (map_with_value c.in_ok-entry.field-0 id) id c.args.node = record {
      vacant = rw slots at c.insert_reserved-id.ensures.was_vacant;
      changed = c.insert_reserved-id.ensures.updates.changed;
      others = λ x n. rw slots at (c.insert_reserved-id.ensures.updates.others x n);
      absent = rw c.in-Vacant.is at c.in_ok-entry.ensures.found;
      updates = λ q. (c.in_ok-entry.ensures.update.0 id).0 q;
    } in
    record {
      few = old.few;
      reduced = IsReduced-added old.options old.nodes.slots _ old.ids _ _ _ old.reduced old.index c.requires added;
      index = IsIndex-same _ (search (rules, lent) ∙ (λ i. map_with_value (sym c.in-Vacant.is i) (c.insert.ensures.value i))) (IsIndex-added old.nodes.slots _ old.ids _ _ _ old.reduced.never old.reduced.always old.index added);
      swept = λ e. cc e;
    }
