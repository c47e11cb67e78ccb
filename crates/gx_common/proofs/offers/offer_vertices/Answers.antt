use Rattle.std.proofs.Common.{◌≡◌, ◌+◌, List, [], ◌∷◌, ◌++◌, drop, map, filter, refl, sym, ◌∙◌, arith}
use Rattle.std.proofs.lemmas.List.Elements.{filter-append}
use Rattle.gx_num.specs.declared.vector.V3.{V3}
use Rattle.gx_num.specs.Space.{HalfSpace, is_in}
use Rattle.gx_num.specs.Vector4.{Vec4}
use Rattle.gx_common.specs.Common.{point_of}
use Rattle.gx_common.proofs.Offered.{drop-at, offered_first, filled_first, offered_past}
use Rattle.gx_common.proofs.offers.offer_vertices.Goals as goal

-- the points that are in all
those : List HalfSpace → List V3 → List Vec4
those hs ps = filter (is_in hs) (map point_of ps)

one : List HalfSpace → V3 → List V3 → List Vec4
one hs p _ = filter (is_in hs) (point_of p ∷ [])

cons : (hs : List HalfSpace) (p : V3) (ps : List V3) → those hs (p ∷ ps) ≡ one hs p ps ++ those hs ps
unfolding those one
cons hs p ps = filter-append (is_in hs) (point_of p ∷ []) (map point_of ps)

pub returns-then-offer_vertex-clause-value : goal.returns-then-offer_vertex-clause-value
unfolding those one
returns-then-offer_vertex-clause-value c =
    filled_first (those c.args.faces.now) (one c.args.faces.now) (cons c.args.faces.now) _ _ _ c.loop-point.slots c.offer_vertex.new.slots
    (drop-at c.args.points.now c.loop-point.point-index _ c.loop-point-test.true) c.offer_vertex.ensures.value (c.offer_vertex.ensures.filled c.if-offer_vertex.true)
    ∙ c.loop-point.invariant

pub loop-point-preserved : goal.loop-point-preserved
unfolding those one
loop-point-preserved c =
    offered_first (those c.args.faces.now) (one c.args.faces.now) (cons c.args.faces.now) _ (drop (c.loop-point.point-index + 1) c.args.points.now) _ c.loop-point.slots c.offer_vertex.new.slots
    (drop-at c.args.points.now c.loop-point.point-index _ c.loop-point-test.true) c.offer_vertex.ensures.value
    ∙ c.loop-point.invariant

pub returns-clause-value : goal.returns-clause-value
unfolding those one
returns-clause-value c =
    sym (offered_past (those c.args.faces.now) (one c.args.faces.now) (cons c.args.faces.now) refl c.args.points.now c.loop-point.point-index c.loop-point.slots (omega (arith, c.loop-point-test.false)))
    ∙ c.loop-point.invariant
