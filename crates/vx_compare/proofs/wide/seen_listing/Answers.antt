use Rattle.std.proofs.Common.{◌<◌, ◌^◌, ◌∙◌, List, length, subst, sym, ap}
use Rattle.std.proofs.lemmas.List.{length-map}
use Rattle.vx_bdd_tools.specs.declared.node.Node.{Node}
use Rattle.vx_compare.specs.Names.{place_of, places_of}
use Rattle.vx_compare.proofs.SeenSets.{are_listed, is_seen_listing, listed_known}
use Rattle.vx_compare.proofs.wide.seen_listing.Goals as goal

pub seen_sets-requires-clause-places : goal.seen_sets-requires-clause-places
seen_sets-requires-clause-places g c = rw (c.as_slice-2.ensures.value, c.in_ok-places.ensures, c.as_slice.ensures, sym c.requires.options) c.requires.all

pub seen_sets-requires-clause-nodes : goal.seen_sets-requires-clause-nodes
seen_sets-requires-clause-nodes g c = rw (c.as_slice-2.ensures.value, c.in_ok-places.ensures, c.as_slice.ensures, c.as_slice-3.ensures, length-map c.args.report.now.options (place_of c.args.names.now)) c.requires.lawful.numbered.reduced

pub listing-requires : goal.listing-requires
listing-requires g c = listed_known _ c.args.report.now c.args.names.now c.in_ok-sets.sets.items _ c.requires.lawful
    (are_listed c.args.report.now c.args.names.now _ _ c.in_ok-sets.sets.items _ _ _ (c.as_slice-2.ensures.value ∙ c.in_ok-places.ensures ∙ ap (places_of c.args.names.now) c.as_slice.ensures) c.as_slice-3.ensures c.in_ok-sets.ensures.sets
    c.as_slice-4.ensures.value (c.as_slice-5.ensures.value ∙ c.in_ok-numbers.ensures) (c.as_slice-6.ensures.value ∙ c.in_ok-roots.ensures))

pub returns-clause-list : goal.returns-clause-list
returns-clause-list g c = is_seen_listing _ c.args.report.now c.args.names.now c.in_ok-sets.sets.items _ c.in_ok-list.list.nodes c.in_ok-list.list.roots c.requires.lawful
    (are_listed c.args.report.now c.args.names.now _ _ c.in_ok-sets.sets.items _ _ _ (c.as_slice-2.ensures.value ∙ c.in_ok-places.ensures ∙ ap (places_of c.args.names.now) c.as_slice.ensures) c.as_slice-3.ensures c.in_ok-sets.ensures.sets
    c.as_slice-4.ensures.value (c.as_slice-5.ensures.value ∙ c.in_ok-numbers.ensures) (c.as_slice-6.ensures.value ∙ c.in_ok-roots.ensures))
    (c.requires.options ∙ sym c.in_ok-sets.ensures.extends.options) c.in_ok-list.ensures.ok (subst (λ (nodes : List Node). length nodes < 2 ^ 63) c.as_slice-7.ensures c.is_short.ensures)
