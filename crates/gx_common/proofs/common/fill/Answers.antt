use Rattle.std.proofs.Common.{◌≡◌, List, filter, map, ◌++◌, ap, ◌∙◌}
use Rattle.gx_num.specs.declared.vector.V3.{V3}
use Rattle.gx_num.specs.Space.{HalfSpace, is_in}
use Rattle.gx_num.specs.Vector4.{Vec4}
use Rattle.gx_convex.specs.Faces.{faces_of}
use Rattle.gx_common.specs.Common.{point_of, crossings}
use Rattle.gx_common.specs.Sides.{Sided, sided, crossings_in}
use Rattle.gx_common.specs.Slots.{after}
use Rattle.gx_common.specs.declared.slots.Slot.{Slot}
use Rattle.gx_common.proofs.Offered.{offered_two, filled_one}
use Rattle.gx_common.proofs.Sides.{crossings_in-sided}
use Rattle.gx_common.proofs.common.fill.Goals as goal

-- the candidates in their four parts
inner : List V3 → List V3 → List Vec4
inner a b = filter (is_in (faces_of b)) (map point_of a)

crossed : List V3 → List V3 → List Vec4
crossed a b = filter (is_in (faces_of b)) (crossings a (faces_of b))

pub returns-then-offer_vertices : goal.returns-then-offer_vertices
unfolding inner crossed
returns-then-offer_vertices c =
    let a = c.args.a.now in
    let b = c.args.b.now in
    filled_one (inner a b) (inner b a ++ (crossed a b ++ crossed b a)) c.args.slots.now c.offer_vertices.new.slots
    (rw (c.vertices-points.ensures.value, c.faces-other_faces.ensures) at c.offer_vertices.ensures.value)
    (c.offer_vertices.ensures.filled c.if-offer_vertices.true)

pub returns-then-offer_vertices-2 : goal.returns-then-offer_vertices-2
unfolding inner crossed
returns-then-offer_vertices-2 c =
    let a = c.args.a.now in
    let b = c.args.b.now in
    offered_two (inner a b) (inner b a ++ (crossed a b ++ crossed b a)) c.args.slots.now c.offer_vertices.new.slots c.offer_vertices-2.new.slots
    (rw (c.vertices-points.ensures.value, c.faces-other_faces.ensures) at c.offer_vertices.ensures.value)
    (filled_one (inner b a) (crossed a b ++ crossed b a) c.offer_vertices.new.slots c.offer_vertices-2.new.slots
    (rw (c.vertices-others.ensures.value, c.faces-faces.ensures) at c.offer_vertices-2.ensures.value)
    (c.offer_vertices-2.ensures.filled c.if-offer_vertices-2.true))

-- the crossings by the table of vertices
from_table : (hs gs : List HalfSpace) (ps qs : List V3) (us : List Sided) (before now : List Slot) → us ≡ map (sided gs) qs → gs ≡ hs → qs ≡ ps → now ≡ after (crossings_in us) before → now ≡ after (filter (is_in hs) (crossings ps hs)) before
from_table hs gs ps qs us before now e f g n =
    n ∙ ap (λ (vs : List Sided). after (crossings_in vs) before) (e ∙ ap (λ (ks : List HalfSpace). map (sided ks) qs) f ∙ ap (map (sided hs)) g) ∙ ap (λ (xs : List Vec4). after xs before) (crossings_in-sided hs ps)

pub returns-then-offer_crossings : goal.returns-then-offer_crossings
unfolding inner crossed
returns-then-offer_crossings c =
    let a = c.args.a.now in
    let b = c.args.b.now in
    offered_two (inner a b) (inner b a ++ (crossed a b ++ crossed b a)) c.args.slots.now c.offer_vertices.new.slots c.offer_crossings.new.slots
    (rw (c.vertices-points.ensures.value, c.faces-other_faces.ensures) at c.offer_vertices.ensures.value)
    (offered_two (inner b a) (crossed a b ++ crossed b a) c.offer_vertices.new.slots c.offer_vertices-2.new.slots c.offer_crossings.new.slots
    (rw (c.vertices-others.ensures.value, c.faces-faces.ensures) at c.offer_vertices-2.ensures.value)
    (filled_one (crossed a b) (crossed b a) c.offer_vertices-2.new.slots c.offer_crossings.new.slots
    (from_table (faces_of b) _ a _ _ c.offer_vertices-2.new.slots c.offer_crossings.new.slots (c.deref.ensures.value ∙ c.in_ok-vertices.ensures) c.faces-other_faces.ensures c.vertices-points.ensures.value c.offer_crossings.ensures.value)
    (c.offer_crossings.ensures.filled c.if-offer_crossings.true)))

pub returns : goal.returns
unfolding inner crossed
returns c =
    let a = c.args.a.now in
    let b = c.args.b.now in
    offered_two (inner a b) (inner b a ++ (crossed a b ++ crossed b a)) c.args.slots.now c.offer_vertices.new.slots c.offer_crossings-filled.new.slots
    (rw (c.vertices-points.ensures.value, c.faces-other_faces.ensures) at c.offer_vertices.ensures.value)
    (offered_two (inner b a) (crossed a b ++ crossed b a) c.offer_vertices.new.slots c.offer_vertices-2.new.slots c.offer_crossings-filled.new.slots
    (rw (c.vertices-others.ensures.value, c.faces-faces.ensures) at c.offer_vertices-2.ensures.value)
    (offered_two (crossed a b) (crossed b a) c.offer_vertices-2.new.slots c.offer_crossings.new.slots c.offer_crossings-filled.new.slots
    (from_table (faces_of b) _ a _ _ c.offer_vertices-2.new.slots c.offer_crossings.new.slots (c.deref.ensures.value ∙ c.in_ok-vertices.ensures) c.faces-other_faces.ensures c.vertices-points.ensures.value c.offer_crossings.ensures.value)
    (from_table (faces_of a) _ b _ _ c.offer_crossings.new.slots c.offer_crossings-filled.new.slots (c.deref-2.ensures.value ∙ c.in_ok-vertices-2.ensures) c.faces-faces.ensures c.vertices-others.ensures.value c.offer_crossings-filled.ensures.value)))
