use Rattle.std.proofs.Common.{◌≡◌, Bool, true, false, ◌&&◌, not, List, ◌∷◌, map, sym, ap, ◌∙◌}
use Rattle.std.specs.List.{list_all}
use Rattle.std.proofs.lemmas.List.Folds.{list_all-append, list_all-map}
use Rattle.gx_num.specs.declared.vector.V3.{V3}
use Rattle.gx_num.specs.Vector.{is_same}
use Rattle.gx_plane.specs.Between.{pairs_of}
use Rattle.gx_polygon.specs.Polygon.{are_distinct}
use Rattle.gx_polygon.proofs.polygon.are_distinct.Goals as goal

-- the first against the others, and the others
split : (p : V3) (ps all : List V3) (b : Bool) → all ≡ p ∷ ps → list_all (λ q. not (is_same p q)) ps ≡ b → are_distinct all ≡ (b && are_distinct ps)
split p ps all b is e =
    ap are_distinct is
    ∙ list_all-append (λ t. not (is_same t.0 t.1)) (map (λ q. (p, q)) ps) (pairs_of ps)
    ∙ ap (λ (b : Bool). b && are_distinct ps) (list_all-map (λ t. not (is_same t.0 t.1)) (λ q. (p, q)) ps ∙ e)

pub returns-then-not-is_apart : goal.returns-then-not-is_apart
returns-then-not-is_apart c =
    sym (split _ _ _ false c.in-Some.ensures.cases.0 (sym c.is_apart.ensures ∙ c.if-not-is_apart.true)) ∙ c.loop-first.invariant

pub loop-first-preserved : goal.loop-first-preserved
loop-first-preserved c =
    sym (split _ _ _ true c.in-Some.ensures.cases.0 (sym c.is_apart.ensures ∙ c.if-not-is_apart.false)) ∙ c.loop-first.invariant
