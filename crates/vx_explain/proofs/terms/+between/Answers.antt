use Rattle.std.proofs.Common.{◌≢◌, ◌<◌, ◌+◌, ◌-◌, ◌*◌, ◌++◌, ◌∷◌, [], true, false, ◌∙◌, arith}
use Rattle.vx_space.proofs.Spaces.{Extends-trans}
use Rattle.vx_explain.specs.Between.{ArePut, side_terms_from}
use Rattle.vx_explain.proofs.Cycle.{by_first, by_side, by_whole}
use Rattle.vx_explain.proofs.TermSets.{AreSplit, ArePut-all, ArePut-none, both_free, free_extends, free_high, free_low, many-high, many-low, many-rest, rest_free, rest_in_both, within_extends, within_high, within_low}
use Rattle.vx_explain.proofs.terms.+between.Goals as goal

pub side_terms-returns-clause-terms : goal.side_terms-returns-clause-terms
side_terms-returns-clause-terms g t c =
    let longer = c.as_slice.ensures.value ∙ c.in_ok-longer.ensures in
    by_side c.in_ok-only.ensures.extends (g.S.Space.sets c.terms_between.new.space) c.args.path.now c.args.literal c.as_slice.result.now c.args.least c.in_ok-only.only c.args.most c.args.other c.args.terms.now.items c.terms_between.new.terms.items c.terms_between.result longer c.requires.most c.in_ok-only.ensures.ok c.terms_between.ensures.terms

pub terms_between-returns-then-is_never-clause-terms : goal.terms_between-returns-then-is_never-clause-terms
terms_between-returns-then-is_never-clause-terms g t c = ArePut-none (g.met.S.Space.lawful c.args.space.now) c.args.path.now c.args.first c.args.least c.args.most c.args.terms.now.items c.requires.least (c.is_never.ensures.0 c.if-is_never.true)

pub terms_between-returns-in_default-clause-terms : goal.terms_between-returns-in_default-clause-terms
terms_between-returns-in_default-clause-terms g t c =
    let n : c.args.least ≢ (g.S.Space.sets c.args.space.now).never = λ e. cc (c.if-is_never.ensures.1 e) in
    by_whole (g.met.S.Space.lawful c.args.space.now) c.args.path.now c.args.first c.args.least c.args.most c.args.terms.now.items c.whole_term.new.terms.items c.in_ok-whole_term.field-0 c.requires.first c.requires.least c.requires.free_least n c.requires.within c.in_default.ensures.none c.in_ok-whole_term.ensures.term

pub terms_between-returns-clause-terms : goal.terms_between-returns-clause-terms
terms_between-returns-clause-terms g t c =
    by_first (g.met.S.Space.lawful c.args.space.now) (g.S.Space.sets c.terms_by.new.space) c.args.path.now c.args.first c.in-Some.option c.args.least c.args.most c.args.terms.now.items c.terms_by.new.terms.items c.terms_by.result c.requires.least c.requires.most c.requires.free_least c.requires.free_most c.requires.within c.in-Some.ensures.some c.terms_by.ensures.terms

pub terms_by-side_terms-requires : goal.terms_by-side_terms-requires
terms_by-side_terms-requires g t c κs within =
    let lawful = g.met.S.Space.lawful c.args.space.now in
    let f = c.requires.first in
    let p = c.parts-least.ensures in
    let q = c.parts-most.ensures in
    let options = (g.S.Space.sets c.args.space.now).options in
    let falls : 3 * (options - (c.args.option + 1)) + 1 < 3 * (options - (c.args.option + 1)) + 2 = omega arith in (
      rw c.decreases at falls,
      (
        within.0,
        (
          within.1,
          (
            c.requires.few,
            (
              f.in_range,
              (
                p.off.known,
                (
                  q.off.known,
                  (
                    q.on.known,
                    (
                      free_low lawful c.args.least c.parts-least.result.0 c.parts-least.result.1 c.args.option c.requires.least f.of_least p,
                      (
                        free_low lawful c.args.most c.parts-most.result.0 c.parts-most.result.1 c.args.option c.requires.most f.of_most q,
                        (
                          free_high lawful c.args.most c.parts-most.result.0 c.parts-most.result.1 c.args.option c.requires.most f.of_most q,
                          within_low c.args.least c.args.most c.parts-least.result.0 c.parts-least.result.1 c.parts-most.result.0 c.parts-most.result.1 c.args.option c.requires.within p q,
                        ),
                      ),
                    ),
                  ),
                ),
              ),
            ),
          ),
        ),
      ),
    )

pub terms_by-returns-in_default-clause-terms : goal.terms_by-returns-in_default-clause-terms
terms_by-returns-in_default-clause-terms g t c =
    let p = c.parts-least.ensures in
    let q = c.parts-most.ensures in
    many-low c.args.option c.args.least c.args.most c.parts-least.result.0 c.parts-least.result.1 c.parts-most.result.0 c.parts-most.result.1 c.args.terms.now.items c.requires.first.in_range p q (rw c.in_default.is at c.in_ok-low.ensures.terms)

pub terms_by-side_terms-requires-2 : goal.terms_by-side_terms-requires-2
terms_by-side_terms-requires-2 g t c κs within =
    let lawful = g.met.S.Space.lawful c.args.space.now in
    let f = c.requires.first in
    let p = c.parts-least.ensures in
    let q = c.parts-most.ensures in
    let x = c.in_ok-low.ensures.extends in
    let options = (g.S.Space.sets c.args.space.now).options in
    let options' = (g.S.Space.sets c.side_terms.new.space).options in
    let falls : 3 * (options' - (c.args.option + 1)) + 1 < 3 * (options - (c.args.option + 1)) + 2 = omega (arith, x.options) in (
      rw c.decreases at falls,
      (
        within.0,
        (
          within.1,
          (
            c.in_ok-low.ensures.few,
            (
              omega (arith, f.in_range, x.options),
              (
                x.known c.parts-least.result.1 p.on.known,
                (
                  x.known c.parts-most.result.1 q.on.known,
                  (
                    x.known c.parts-most.result.0 q.off.known,
                    (
                      free_extends x c.parts-least.result.1 (c.args.option + 1) p.on.known (free_high lawful c.args.least c.parts-least.result.0 c.parts-least.result.1 c.args.option c.requires.least f.of_least p),
                      (
                        free_extends x c.parts-most.result.1 (c.args.option + 1) q.on.known (free_high lawful c.args.most c.parts-most.result.0 c.parts-most.result.1 c.args.option c.requires.most f.of_most q),
                        (
                          free_extends x c.parts-most.result.0 (c.args.option + 1) q.off.known (free_low lawful c.args.most c.parts-most.result.0 c.parts-most.result.1 c.args.option c.requires.most f.of_most q),
                          within_extends x c.parts-least.result.1 c.parts-most.result.1 p.on.known q.on.known (within_high c.args.least c.args.most c.parts-least.result.0 c.parts-least.result.1 c.parts-most.result.0 c.parts-most.result.1 c.args.option c.requires.within p q),
                        ),
                      ),
                    ),
                  ),
                ),
              ),
            ),
          ),
        ),
      ),
    )

pub terms_by-returns-in_default-2-clause-terms : goal.terms_by-returns-in_default-2-clause-terms
terms_by-returns-in_default-2-clause-terms g t c =
    let p = c.parts-least.ensures in
    let q = c.parts-most.ensures in
    let put : ArePut (g.S.Space.sets c.side_terms.new.space) (c.args.path.now ++ record { option = c.args.option; on = false } ∷ []) (side_terms_from (g.S.Space.sets c.args.space.now) (c.args.option + 1) c.parts-least.result.0 c.parts-most.result.1 c.parts-most.result.0) c.args.terms.now.items c.side_terms.new.terms.items c.in-Some.low = rw c.in-Some.is at c.in_ok-low.ensures.terms in
    many-high c.in_ok-low.ensures.extends (c.args.path.now ++ record { option = c.args.option; on = false } ∷ []) c.args.option c.args.least c.args.most c.parts-least.result.0 c.parts-least.result.1 c.parts-most.result.0 c.parts-most.result.1 c.in-Some.low c.args.terms.now.items c.side_terms.new.terms.items c.requires.first.in_range p q put (rw c.in_default-2.is at c.in_ok-high.ensures.terms)

pub terms_by-terms_between-requires : goal.terms_by-terms_between-requires
terms_by-terms_between-requires g t c κs within =
    let lawful = g.met.S.Space.lawful c.args.space.now in
    let f = c.requires.first in
    let p = c.parts-least.ensures in
    let q = c.parts-most.ensures in
    let put : ArePut (g.S.Space.sets c.side_terms.new.space) (c.args.path.now ++ record { option = c.args.option; on = false } ∷ []) (side_terms_from (g.S.Space.sets c.args.space.now) (c.args.option + 1) c.parts-least.result.0 c.parts-most.result.1 c.parts-most.result.0) c.args.terms.now.items c.side_terms.new.terms.items c.in-Some.low = rw c.in-Some.is at c.in_ok-low.ensures.terms in
    let also : ArePut (g.S.Space.sets c.side_terms-2.new.space) (c.args.path.now ++ record { option = c.args.option; on = true } ∷ []) (side_terms_from (g.S.Space.sets c.side_terms.new.space) (c.args.option + 1) c.parts-least.result.1 c.parts-most.result.0 c.parts-most.result.1) c.side_terms.new.terms.items c.side_terms-2.new.terms.items c.in-Some-2.high = rw c.in-Some-2.is at c.in_ok-high.ensures.terms in
    let split : AreSplit (g.S.Space.sets c.args.space.now) (g.S.Space.sets c.side_terms.new.space) (g.S.Space.sets c.side_terms-2.new.space) (g.S.Space.sets c.remaining.new.space) (g.S.Space.sets c.and.new.self) c.args.option c.args.least c.args.most c.parts-least.result.0 c.parts-least.result.1 c.parts-most.result.0 c.parts-most.result.1 c.in-Some.low c.in-Some-2.high c.in_ok-rest.rest c.in_ok-both.both = record {
      x1 = c.in_ok-low.ensures.extends;
      x2 = c.in_ok-high.ensures.extends;
      x3 = c.in_ok-rest.ensures.extends;
      x4 = c.in_ok-both.ensures.extends;
      in_range = f.in_range;
      least_parts = p;
      most_parts = q;
      low_is = put.set_is;
      high_is = also.set_is;
      rest_is = c.in_ok-rest.ensures.ok;
      both_is = c.in_ok-both.ensures.ok;
    } in
    let options = (g.S.Space.sets c.args.space.now).options in
    let options' = (g.S.Space.sets c.and.new.self).options in
    let same = Extends-trans (Extends-trans (Extends-trans c.in_ok-low.ensures.extends c.in_ok-high.ensures.extends) c.in_ok-rest.ensures.extends) c.in_ok-both.ensures.extends in
    let falls : 3 * (options' - (c.args.option + 1)) < 3 * (options - (c.args.option + 1)) + 2 = omega (arith, same.options) in (
      rw c.decreases at falls,
      (
        within.0,
        (
          within.1,
          (
            c.in_ok-high.ensures.few,
            (
              omega (arith, f.in_range, same.options),
              (
                c.in_ok-both.ensures.extends.known c.in_ok-rest.rest c.in_ok-rest.ensures.ok.known,
                (
                  c.in_ok-both.ensures.ok.known,
                  (
                    rest_free lawful c.args.option c.args.least c.args.most c.parts-least.result.0 c.parts-least.result.1 c.parts-most.result.0 c.parts-most.result.1 c.in-Some.low c.in-Some-2.high c.in_ok-rest.rest c.in_ok-both.both c.requires.least f.of_least split,
                    (
                      both_free lawful c.args.option c.args.least c.args.most c.parts-least.result.0 c.parts-least.result.1 c.parts-most.result.0 c.parts-most.result.1 c.in-Some.low c.in-Some-2.high c.in_ok-rest.rest c.in_ok-both.both c.requires.most f.of_most split,
                      rest_in_both lawful c.args.option c.args.least c.args.most c.parts-least.result.0 c.parts-least.result.1 c.parts-most.result.0 c.parts-most.result.1 c.in-Some.low c.in-Some-2.high c.in_ok-rest.rest c.in_ok-both.both c.requires.least c.requires.most f.of_least f.of_most c.requires.within split,
                    ),
                  ),
                ),
              ),
            ),
          ),
        ),
      ),
    )

pub terms_by-returns-in_default-3-clause-terms : goal.terms_by-returns-in_default-3-clause-terms
terms_by-returns-in_default-3-clause-terms g t c =
    let f = c.requires.first in
    let p = c.parts-least.ensures in
    let q = c.parts-most.ensures in
    let put : ArePut (g.S.Space.sets c.side_terms.new.space) (c.args.path.now ++ record { option = c.args.option; on = false } ∷ []) (side_terms_from (g.S.Space.sets c.args.space.now) (c.args.option + 1) c.parts-least.result.0 c.parts-most.result.1 c.parts-most.result.0) c.args.terms.now.items c.side_terms.new.terms.items c.in-Some.low = rw c.in-Some.is at c.in_ok-low.ensures.terms in
    let also : ArePut (g.S.Space.sets c.side_terms-2.new.space) (c.args.path.now ++ record { option = c.args.option; on = true } ∷ []) (side_terms_from (g.S.Space.sets c.side_terms.new.space) (c.args.option + 1) c.parts-least.result.1 c.parts-most.result.0 c.parts-most.result.1) c.side_terms.new.terms.items c.side_terms-2.new.terms.items c.in-Some-2.high = rw c.in-Some-2.is at c.in_ok-high.ensures.terms in
    let split : AreSplit (g.S.Space.sets c.args.space.now) (g.S.Space.sets c.side_terms.new.space) (g.S.Space.sets c.side_terms-2.new.space) (g.S.Space.sets c.remaining.new.space) (g.S.Space.sets c.and.new.self) c.args.option c.args.least c.args.most c.parts-least.result.0 c.parts-least.result.1 c.parts-most.result.0 c.parts-most.result.1 c.in-Some.low c.in-Some-2.high c.in_ok-rest.rest c.in_ok-both.both = record {
      x1 = c.in_ok-low.ensures.extends;
      x2 = c.in_ok-high.ensures.extends;
      x3 = c.in_ok-rest.ensures.extends;
      x4 = c.in_ok-both.ensures.extends;
      in_range = f.in_range;
      least_parts = p;
      most_parts = q;
      low_is = put.set_is;
      high_is = also.set_is;
      rest_is = c.in_ok-rest.ensures.ok;
      both_is = c.in_ok-both.ensures.ok;
    } in
    many-rest (c.args.path.now ++ record { option = c.args.option; on = false } ∷ []) (c.args.path.now ++ record { option = c.args.option; on = true } ∷ []) c.args.option c.args.least c.args.most c.parts-least.result.0 c.parts-least.result.1 c.parts-most.result.0 c.parts-most.result.1 c.in-Some.low c.in-Some-2.high c.in_ok-rest.rest c.in_ok-both.both c.args.terms.now.items c.side_terms.new.terms.items c.side_terms-2.new.terms.items split put also (rw c.in_default-3.is at c.in_ok-free.ensures.terms)

pub terms_by-returns-clause-terms : goal.terms_by-returns-clause-terms
terms_by-returns-clause-terms g t c =
    let f = c.requires.first in
    let p = c.parts-least.ensures in
    let q = c.parts-most.ensures in
    let put : ArePut (g.S.Space.sets c.side_terms.new.space) (c.args.path.now ++ record { option = c.args.option; on = false } ∷ []) (side_terms_from (g.S.Space.sets c.args.space.now) (c.args.option + 1) c.parts-least.result.0 c.parts-most.result.1 c.parts-most.result.0) c.args.terms.now.items c.side_terms.new.terms.items c.in-Some.low = rw c.in-Some.is at c.in_ok-low.ensures.terms in
    let also : ArePut (g.S.Space.sets c.side_terms-2.new.space) (c.args.path.now ++ record { option = c.args.option; on = true } ∷ []) (side_terms_from (g.S.Space.sets c.side_terms.new.space) (c.args.option + 1) c.parts-least.result.1 c.parts-most.result.0 c.parts-most.result.1) c.side_terms.new.terms.items c.side_terms-2.new.terms.items c.in-Some-2.high = rw c.in-Some-2.is at c.in_ok-high.ensures.terms in
    let split : AreSplit (g.S.Space.sets c.args.space.now) (g.S.Space.sets c.side_terms.new.space) (g.S.Space.sets c.side_terms-2.new.space) (g.S.Space.sets c.remaining.new.space) (g.S.Space.sets c.and.new.self) c.args.option c.args.least c.args.most c.parts-least.result.0 c.parts-least.result.1 c.parts-most.result.0 c.parts-most.result.1 c.in-Some.low c.in-Some-2.high c.in_ok-rest.rest c.in_ok-both.both = record {
      x1 = c.in_ok-low.ensures.extends;
      x2 = c.in_ok-high.ensures.extends;
      x3 = c.in_ok-rest.ensures.extends;
      x4 = c.in_ok-both.ensures.extends;
      in_range = f.in_range;
      least_parts = p;
      most_parts = q;
      low_is = put.set_is;
      high_is = also.set_is;
      rest_is = c.in_ok-rest.ensures.ok;
      both_is = c.in_ok-both.ensures.ok;
    } in
    let last = rw c.in-Some-3.is at c.in_ok-free.ensures.terms in
    let all = c.in_ok-joined in
    ArePut-all c.args.path.now c.args.option c.args.least c.args.most c.parts-least.result.0 c.parts-least.result.1 c.parts-most.result.0 c.parts-most.result.1 c.in-Some.low c.in-Some-2.high c.in_ok-rest.rest c.in_ok-both.both c.in-Some-3.free _ c.args.terms.now.items c.side_terms.new.terms.items c.side_terms-2.new.terms.items c.terms_between.new.terms.items split put also c.in_ok-free.ensures.extends last all.ensures.extends all.ensures.ok
