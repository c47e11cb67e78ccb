use Rattle.std.proofs.Common.{◌≡◌, ◌++◌, ◌∷◌, [], List, length, take, ap, sym, ◌∙◌, map, set, get_or, subst, arith}
use Rattle.std.proofs.lemmas.List.{map-append, with_items_is}
use Rattle.std.proofs.lemmas.List.FromFn.{map-range_with_len_more}
use Rattle.gx_tree.specs.declared.placement.Placement.{Placement}
use Rattle.gx_link.specs.declared.link.LinkedPlacement.{LinkedPlacement}
use Rattle.gx_link.specs.Crowd.{placements_in}
use Rattle.gx_link.specs.Build.{IsLinked, lists_of}
use Rattle.gx_link.proofs.Daughters.{taken_more}
use Rattle.gx_link.proofs.Lists.{items_of, length-lists, lists_of-push}
use Rattle.gx_link.proofs.build.lists_of.Goals as goal

pub loop-preserved : goal.loop-preserved
loop-preserved c =
    ap (map items_of) c.in_ok-push.ensures.items
    ∙ map-append items_of c.loop.lists.items (c.new.result ∷ [])
    ∙ (λ i. c.loop.invariant i ++ c.new.ensures.items i ∷ [])
    ∙ sym (map-range_with_len_more (λ m. placements_in m []) 0 c.loop.counter c.loop.counter (omega arith))

pub push_at-requires : goal.push_at-requires
push_at-requires c =
    let p = c.placed-item.result in
    let is : IsLinked c.args.volumes p = subst (IsLinked c.args.volumes) (sym c.placed-item.is) (c.requires c.loop-placed.placed-index p c.loop-placed-test.true) in
    omega (arith, is.mother, c.deref_mut.ensures.len, ap length c.deref_mut.ensures.value, length-lists c.loop-placed.lists.items (take c.loop-placed.placed-index c.args.placements.now) c.args.volumes c.loop-placed.invariant)

pub loop-placed-preserved : goal.loop-placed-preserved
loop-placed-preserved c =
    let p = c.placed-item.result in
    let ps = c.args.placements.now in
    let i = c.loop-placed.placed-index in
    let n = c.args.volumes in
    let is : IsLinked n p = subst (IsLinked n) (sym c.placed-item.is) (c.requires i p c.loop-placed-test.true) in
    let before : map items_of c.deref_mut.result.now ≡ lists_of (take i ps) n = ap (map items_of) c.deref_mut.ensures.value ∙ c.loop-placed.invariant in
    ap (map items_of) (with_items_is c.loop-placed.lists c.push_at.new.lists (omega arith))
    ∙ c.in_ok-push_at.ensures
    ∙ ap (λ (ls : List (List Placement)). set ls p.mother (get_or ls p.mother [] ++ p.placement ∷ [])) before
    ∙ lists_of-push (take i ps) p n is.mother
    ∙ ap (λ (qs : List LinkedPlacement). lists_of qs n) (sym (taken_more ps i p c.loop-placed-test.true c.placed-item.is))
